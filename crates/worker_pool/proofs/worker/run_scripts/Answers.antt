use Rattle.worker_pool.proofs.Common.{◌≡◌, ℕ, ◌∷◌, ◌+◌, [], List, length, sym, ap, ◌∙◌, subst, arith, length-append, ◌<◌, caller_at, number, Done, HasMade}
use Rattle.worker_pool.proofs.Common.{RanScripts}
use Rattle.std.proofs.Common.{subst₂}
use Rattle.worker_pool.proofs.Making.{made_as, next_then, same_next}
use Rattle.worker_pool.proofs.Running.{ran_script}
use Rattle.worker_pool.proofs.worker.run_scripts.Goals as goal

pub loop-index-init : goal.loop-index-init
loop-index-init g c = record {
  next = same_next c.requires.made.idle;
  made = c.requires.made;
  run = λ h none before. before;
  count = omega arith;
}

pub loop-index-preserved : goal.loop-index-preserved
loop-index-preserved g c =
    let i = c.loop-index.invariant in
    let at = c.loop-index in
    let item : Done = c.in_ok-item.item in
    let is = c.in_ok-push.ensures.items in
    let place = c.in_ok-item.ensures.place in
    let made = made_as i.next.who_stays (c.in_ok-item.ensures.made at.done.items (made_as (sym i.next.who_stays) i.made)) in
    record {
      next = next_then i.next c.run_script.ensures.next;
      made = subst (λ (l : List Done). HasMade c.args.work.now.desk.now c.args.work.now.input.now
          (number c.args.pass.now.view) c.run_script.new.pass l) (sym is)
          made;
      run = λ h none before. ran_script c.args.work.now.input.now h c.args.caller at.index at.done.items c.push.new.self.items item none (
        subst (λ n. n < length c.args.work.now.input.now.callers) (sym place.0) c.requires.caller,
        subst₂ (λ b j. j < length (caller_at c.args.work.now.input.now.callers b).scripts) (sym place.0) (sym place.1)
            (omega (arith, c.loop-index-test.true, at.auto.index-end)),
      )
          place.0 place.1 is (i.run h none before);
      count = omega (arith, i.count, ap length is, length-append at.done.items (item ∷ []));
    }

pub returns-in_err-item-clause-next : goal.returns-in_err-item-clause-next
returns-in_err-item-clause-next g c = next_then c.loop-index.invariant.next c.run_script.ensures.next

pub returns-in_err-push-clause-next : goal.returns-in_err-push-clause-next
returns-in_err-push-clause-next g c = next_then c.loop-index.invariant.next c.run_script.ensures.next

pub returns : goal.returns
returns g c =
    let i = c.loop-index.invariant in
    let all : c.loop-index.index ≡ length (caller_at c.args.work.now.input.now.callers c.args.caller).scripts = omega arith in
    record {
      next = i.next;
      made = i.made;
      run = λ h none before. subst (λ n. RanScripts c.args.work.now.input.now h c.args.caller n c.loop-index.done.items) all (i.run h none before);
      count = i.count ∙ ap (λ (n : ℕ). length c.args.done.now.items + n) all;
    }
