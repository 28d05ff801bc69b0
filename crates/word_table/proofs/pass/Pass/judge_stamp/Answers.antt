use Rattle.word_table.proofs.Common.{◌≡◌, ℕ, Option, refl, sym, ap, ◌∙◌, Cause, View, Idle, Running, Yielding, is_open, without, after_judgement}
use Rattle.word_table.proofs.Common.{after_giving_way, LockCopy, judged_of, PassView}
use Rattle.word_table.proofs.Copied.Rows.{zeros, shows_none}
use Rattle.word_table.proofs.Copied.After.{copy_after, steady, lock_copy, busy, runs_on, holds_off}
use Rattle.word_table.proofs.Copied.VersionCopies.{versions_yielded}
use Rattle.word_table.proofs.Calls.Judging.{wait_due, yield_due}
use Rattle.word_table.proofs.Calls.Taken.{own_number}
use Rattle.word_table.proofs.pass.Pass.judge_stamp.Goals as goal

pub invariant_of-self : goal.invariant_of-self
invariant_of-self g c = let i = c.self.invariant in let p = c.self.inside in let l = i.locks_are in let v : View = p.seat.me.0 in
    let took = c.load-shown.ensures.took in
    let shown : ℕ = c.load-shown.result in
    let runs : v.phase ≡ Running = ap (λ (x : PassView). x.view.phase) c.self.view_is ∙ c.requires.phase in
    let w : View = record v { met = without c.args.other v.met } in
    let none = wait_due c.args.other shown v.stamp
    (ap (λ (x : ℕ). judged_of shown x) i.call_is.stamp_is ∙ (sym c.judged_by-judged.ensures ∙ c.in_default.is)) in
    copy_after i p.call.phase p.locks c.load-shown.new.seat.table_id c.load-shown.new.seat.me w c.load-shown.ensures.seat
    (took.0.view ∙ ap (λ (o : Option Cause). after_judgement o w) none.0) took.1
    (steady v w refl refl refl refl refl refl) i.call_is.phase_is
    (lock_copy p.locks w l.bits_are l.reads_are l.claims_are l.scans_are l.versions_are) (busy w (runs_on v w refl runs)) i.holds_used

pub invariant_of-self-2 : goal.invariant_of-self-2
invariant_of-self-2 g c = let i = c.self.invariant in let p = c.self.inside in let l = i.locks_are in let v : View = p.seat.me.0 in
    let took = c.load-shown.ensures.took in
    let shown : ℕ = c.load-shown.result in
    let runs : v.phase ≡ Running = ap (λ (x : PassView). x.view.phase) c.self.view_is ∙ c.requires.phase in
    let passes : View = record v { met = without c.args.other v.met } in
    let cause : Cause = record { seat = c.args.other; stamp = c.in-Yield.field-0 } in
    let w : View = after_giving_way cause passes in
    let earlier = yield_due c.args.other shown v.stamp c.in-Yield.field-0
    (ap (λ (x : ℕ). judged_of shown x) i.call_is.stamp_is ∙ (sym c.judged_by-judged.ensures ∙ c.in-Yield.is)) in
    let locks : LockCopy = record p.locks { versions = record p.locks.versions { written = zeros 16 } } in
    copy_after i Yielding locks c.load-shown.new.seat.table_id c.load-shown.new.seat.me w c.load-shown.ensures.seat
    (took.0.view ∙ ap (λ (o : Option Cause). after_judgement o passes) earlier.0) took.1
    (steady v w refl refl refl refl refl refl) refl
    (lock_copy locks w l.bits_are l.reads_are l.claims_are l.scans_are
    (versions_yielded p.locks.versions v.uses v.owed v.trace v.undo v.phase l.versions_are (zeros 16) shows_none (ap is_open runs)))
    (busy w (λ e. let z : Yielding ≡ Idle = e in cc)) (holds_off w Yielding refl (λ e. cc))

pub returns-clause-one : goal.returns-clause-one
returns-clause-one g c = let p = c.self.inside in
    own_number p.call.who p.seat.me.0 p.seat.table_id c.args.self.now c.self.view_is c.self.invariant.call_is.who_is
