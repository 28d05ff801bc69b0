use Rattle.books_model.proofs.Common.{All, sym, subst, arith, IsOperationFor}
use Rattle.books_model.specs.Inner.Draft.{Drafted}
use Rattle.books_model.proofs.Scripts.Branches.{All-front, All-back}
use Rattle.books_model.proofs.run.run_either.Goals as goal

pub run_operations-requires-clause-range : goal.run_operations-requires-clause-range
run_operations-requires-clause-range c =
    subst (λ (d : Drafted). All (IsOperationFor d.before) c.args.first.now) (sym c.in_ok-trial.ensures)
    (All-front (IsOperationFor c.args.draft.now.before) c.args.first.now c.args.second.now c.requires.range)

pub run_operations-requires-2 : goal.run_operations-requires-2
run_operations-requires-2 c =
    let before = c.args.draft.now.before in
    let in_range = All-back (IsOperationFor before) c.args.first.now c.args.second.now c.requires.range in
    record {
      few = omega (arith, c.requires.few, c.len.ensures);
      range = grind (arith, in_range);
    }
