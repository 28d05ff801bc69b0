use Rattle.txn_cells.proofs.Common.{◌≡◌, ◌*◌, length, replicate, refl, sym, ap, ◌∙◌, subst, arith, IsGood, IsCoherent, IsLegalInEachOrder, CELLS, AreAllCells}
use Rattle.txn_cells.specs.contracts.numbers.U128Coded.TheImpl.{ghosts as numbers}
use Rattle.txn_cells.proofs.Beginning.{zero_cells, zeros}
use Rattle.txn_cells.proofs.Finishing.{HasClosed, counted, have_rounds, summed_up}
use Rattle.txn_cells.proofs.Gathering.{have_made, of_cells, of_words}
use Rattle.txn_cells.proofs.run.run_cells.Goals as goal

pub run_clients-requires-clause-good : goal.run_clients-requires-clause-good
run_clients-requires-clause-good g c κs within =
    let shape = c.new-shape in
    let long : length c.in_ok-words.words.items ≡ CELLS * 2 = omega (arith, c.in_ok-words.ensures.len, c.in_ok-words.words.ok.0) in
    of_words numbers shape.result.at shape.result.len shape.ensures.at shape.ensures.len (λ P. P c.in_ok-words.words.items)
    (subst (AreAllCells numbers) (sym (zeros (CELLS * 2) c.in_ok-words.words.items long c.in_ok-words.ensures.items))
    (record { count = refl; good = (replicate CELLS 0, zero_cells) }))

pub run_clients-requires-clause-ready : goal.run_clients-requires-clause-ready
run_clients-requires-clause-ready g c κs within = λ k d lt.
    let new = c.in_ok-adders.ensures.new k d lt in
    let shape = c.new-shape.ensures in
    ((ap (λ z. z.at) new.0 ∙ shape.at, ap (λ z. z.len) new.0 ∙ shape.len, omega (arith, new.1, c.requires.rounds.1)), new.0)

pub returns : goal.returns
returns g c =
    let shape = c.new-shape in
    let long : length c.in_ok-words.words.items ≡ CELLS * 2 = omega (arith, c.in_ok-words.ensures.len, c.in_ok-words.words.ok.0) in
    let ended = c.in_ok-run_clients.ensures in
    let closed = c.in_ok-run_clients.field-0.closed in
    let adders = c.in_ok-adders.ensures in
    let has : HasClosed c.args.workers c.args.rounds closed = record {
      began = ended.closed.0 ∙ zeros (CELLS * 2) c.in_ok-words.words.items long c.in_ok-words.ensures.items;
      coherent = of_cells numbers shape.result.at shape.result.len shape.ensures.at shape.ensures.len (λ good. IsCoherent good closed) ended.coherent;
      legal = of_cells numbers shape.result.at shape.result.len shape.ensures.at shape.ensures.len (λ good. IsLegalInEachOrder good closed) ended.legal;
      records = ended.records;
      passes = ended.worked.passes;
      made = have_made (λ adder. adder.rounds) c.args.workers c.args.rounds closed c.in_ok-adders.adders.items c.in_ok-run_clients.field-0.clients.items
          adders.count (λ k d lt. (adders.new k d lt).1) ended.worked;
      seen = ended.worked.seen;
    } in
    record {
      began = has.began;
      seats = ended.closed.1 ∙ adders.count;
      shape = (ap (λ z. z.at) ended.closed.2 ∙ shape.ensures.at, ap (λ z. z.len) ended.closed.2 ∙ shape.ensures.len);
      coherent = has.coherent;
      legal = has.legal;
      records = has.records;
      count = counted c.args.workers c.args.rounds closed has;
      rounds = have_rounds c.args.workers c.args.rounds closed has;
      sums = summed_up c.args.workers c.args.rounds closed has c.requires.workers.1 c.requires.rounds.1;
    }
