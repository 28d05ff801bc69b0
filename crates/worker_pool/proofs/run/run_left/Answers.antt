use Rattle.worker_pool.proofs.Common.{◌≡◌, ◌+◌, ◌∷◌, ◌∙◌, [], ℕ, List, ap, sym, refl, arith, length, slice_index, length-append, into_iter_items, times}
use Rattle.worker_pool.proofs.Dealt.{times_push}
use Rattle.worker_pool.proofs.Making.{made_as}
use Rattle.worker_pool.proofs.Running.{same_had}
use Rattle.worker_pool.proofs.Yielded.{all_given, next_given}
use Rattle.worker_pool.proofs.run.run_left.Goals as goal

pub loop-caller-init : goal.loop-caller-init
loop-caller-init g c = record {
  all_come = refl;
  len_is = omega arith;
  who = refl;
  made = c.requires.made;
  count = omega (arith, c.requires.few);
  run = λ h more is before. same_had c.args.work.now.input.now h more c.args.share.now.done.items (λ x. omega (arith, is x)) before;
}

pub run_caller-requires-clause-made : goal.run_caller-requires-clause-made
run_caller-requires-clause-made g c = made_as (sym c.loop-caller.invariant.who) c.loop-caller.invariant.made

pub run_caller-requires-clause-room : goal.run_caller-requires-clause-room
run_caller-requires-clause-room g c =
    let at = c.loop-caller in
    let i = at.invariant in
    let whole = i.all_come ∙ c.into_iter-caller-iterator.ensures.into_iter_gives.0 in
    let few : length at.yielded + length (into_iter_items at.caller-iterator) ≡ length c.args.left.items =
    sym (length-append at.yielded (into_iter_items at.caller-iterator)) ∙ ap (λ l. length l) whole in
    omega (arith, i.count, few, c.requires.left)

pub loop-caller-preserved : goal.loop-caller-preserved
loop-caller-preserved g c =
    let at = c.loop-caller in
    let i = at.invariant in
    let caller = c.in-Some.caller in
    let steps = c.in-Some.ensures.steps in
    let e = c.in_ok-run_caller.ensures in
    record {
      all_come = next_given at.yielded steps.0 i.all_come;
      len_is = omega (arith, i.len_is, steps.1, ap (λ l. length l) steps.0);
      who = e.next.who_stays ∙ i.who;
      made = made_as i.who e.made;
      count = omega (arith, e.count, i.count, length-append at.yielded (caller ∷ []));
      run = λ h more is before.
          let mid : ℕ → ℕ = λ x. h x + times x at.yielded in
          e.run mid more (λ x. omega (arith, is x, times_push x caller at.yielded)) (i.run h mid (λ x. refl) before);
    }

pub returns : goal.returns
returns g c =
    let at = c.loop-caller in
    let i = at.invariant in
    let whole = i.all_come ∙ c.into_iter-caller-iterator.ensures.into_iter_gives.0 in
    let all = all_given (into_iter_items at.caller-iterator) (omega (arith, i.len_is, c.in-None.ensures.steps.0)) whole in
    record {
      made = i.made;
      number = ap (λ (w : List ℕ). slice_index w 0) i.who;
      run = λ h more is before. i.run h more (λ x. is x ∙ ap (λ l. h x + times x l) (sym all)) before;
    }
