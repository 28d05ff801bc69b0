use Rattle.txn_cells.proofs.Common.{◌+◌, ◌%◌, ◌^◌, refl, map_ok}
use Rattle.txn_words.proofs.CallLaws.{goes_then}
use Rattle.txn_cells.specs.contracts.numbers.U128Coded.TheImpl.{ghosts as numbers}
use Rattle.txn_cells.proofs.Additions.{got_and_set}
use Rattle.txn_cells.proofs.adding.add_to.Goals as goal

pub returns-clause-added : goal.returns-clause-added
returns-clause-added g c =
    let cells = c.args.cells.now in
    let got = c.in_ok-held.ensures in
    map_ok c.set.result (λ typed.
    got_and_set g.W.Words g.W.Shape.Shape numbers cells.at cells.len c.args.w.now c.get.new.w c.set.new.w c.args.i c.in_ok-held.held
    c.args.amount ((c.in_ok-held.held + c.args.amount) % 2 ^ 128) got.goes_on.shape c.set.ensures.goes_on.begins refl got.typed typed)
    c.set.ensures.typed

pub returns-clause-goes_on : goal.returns-clause-goes_on
returns-clause-goes_on g c = goes_then c.in_ok-held.ensures.goes_on c.set.ensures.goes_on
