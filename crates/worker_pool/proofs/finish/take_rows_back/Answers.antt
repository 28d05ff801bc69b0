use Rattle.worker_pool.proofs.Common.{◌∙◌, ◌+◌, ap, sym, length, arith, subst, refl, List, Vec, Global, ℕ, length-append, [], ◌∷◌, into_iter_items, Pass, Deal}
use Rattle.worker_pool.proofs.Common.{HaveMore, owners_took, IsWholeRow, rows_stole}
use Rattle.worker_pool.proofs.Draining.{more_none, more_more, next_has, stole_push, whole_after}
use Rattle.worker_pool.proofs.Yielded.{next_given, all_given}
use Rattle.worker_pool.proofs.finish.take_rows_back.Goals as goal

pub loop-row-init : goal.loop-row-init
loop-row-init c = record {
  all_come = refl;
  left = omega arith;
  owners = more_none c.args.owners.now.items;
  took = λ x. omega arith;
}

pub take_row_back-requires : goal.take_row_back-requires
take_row_back-requires c =
    let at = c.loop-row in
    let i = at.invariant in
    let row = c.in-Some.row in
    let whole = i.all_come ∙ c.into_iter-row-iterator.ensures.into_iter_gives.0 in
    let its = next_has (λ (r : Vec (Pass ℕ Deal Global) Global). IsWholeRow c.args.owners.now.items r.items) at.yielded c.in-Some.ensures.steps.0
    whole c.requires.rows in
    let now = whole_after (length at.yielded) c.args.owners.now.items at.owners.items row.items i.owners its in
    record { guests = now.guests; whole = now.whole }

pub loop-row-preserved : goal.loop-row-preserved
loop-row-preserved c =
    let at = c.loop-row in
    let i = at.invariant in
    let row = c.in-Some.row in
    let steps = c.in-Some.ensures.steps in
    let e = c.take_row_back.ensures in
    record {
      all_come = next_given at.yielded steps.0 i.all_come;
      left = omega (arith, i.left, steps.1, ap (λ l. length l) steps.0);
      owners = subst (λ n. HaveMore n c.args.owners.now.items c.take_row_back.new.owners.items) (sym (length-append at.yielded (row ∷ [])))
          (more_more (length at.yielded) c.args.owners.now.items at.owners.items c.take_row_back.new.owners.items i.owners e.owners);
      took = λ x. omega (arith, e.took x, i.took x, stole_push at.yielded row x);
    }

pub returns : goal.returns
returns c =
    let at = c.loop-row in
    let i = at.invariant in
    let whole = i.all_come ∙ c.into_iter-row-iterator.ensures.into_iter_gives.0 in
    let all = all_given (into_iter_items at.row-iterator) (omega (arith, i.left, c.in-None.ensures.steps.0)) whole in
    record {
      owners = subst (λ (l : List (Vec (Pass ℕ Deal Global) Global)). HaveMore (length l) c.args.owners.now.items at.owners.items) all i.owners;
      took = λ x. i.took x ∙ ap (λ (l : List (Vec (Pass ℕ Deal Global) Global)). owners_took c.args.owners.now.items x + rows_stole l x) all;
    }
