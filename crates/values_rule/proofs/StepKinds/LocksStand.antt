-- The kinds of step on calls, versions, values and entries keep the lock invariant, since none is on a word of a lock; so
-- do the joins, by which no lock is held.
use Rattle.values_rule.proofs.Common.{◌≡◌, ℕ, Bool, ⊎_elim, List, [], refl, sym, ◌∙◌, arith, Idle, Running, Releasing, has, differ, not_true, has-nil, found_by}
use Rattle.values_rule.proofs.Common.{LocksHold, own, load_value_action, store_value_action, undo_store_action, clear_stamp_action, begin_call_action}
use Rattle.values_rule.proofs.Common.{MayBeginCall, MayLoadValue, MayStoreValue, MayUndoStore, MayCommitCall, commit_call_action, MayClearStamp, MayLoadVersion}
use Rattle.values_rule.proofs.Common.{load_version_action, MayStoreVersion, store_version_action}
use Rattle.locks_rule.proofs.Common.{Keeps}
use Rattle.locks_rule.proofs.Asides.{aside_keeps, same_locks}
use Rattle.values_rule.proofs.Phases.{undoing_idle}

pub begin_call_locks : (n : ℕ) (base : List ℕ) (j : ℕ) → Keeps (LocksHold n base) (MayBeginCall j) (begin_call_action j)
begin_call_locks n base j ws vs id v h me may =
    let o = own n base ws vs id j v h me may.who in
    aside_keeps n base id ws vs v (begin_call_action j v) h me (λ t. let low = t.0 in omega (arith, o.seats, o.below)) record {
      base = refl;
      seats = refl;
      who = refl;
      bits = refl;
      reads = refl;
      claims = refl;
      scans = refl;
      asked = λ k t a. let none = h.idle_holds_nothing id k v me may.phase in
          absurd (⊎_elim (λ b. differ (has k v.bits) b none.0) (λ c. differ (has k v.claims) c none.1) t);
      met = λ i t. absurd (differ (has i []) t (has-nil i));
      idle = λ k e. h.idle_holds_nothing id k v me may.phase;
    }

pub load_version_locks : (n : ℕ) (base : List ℕ) (j k : ℕ) → Keeps (LocksHold n base) (MayLoadVersion j k) (load_version_action j k)
load_version_locks n base j k ws vs id v h me may =
    let o = own n base ws vs id j v h me may.who in
    aside_keeps n base id ws vs v (load_version_action j k v) h me (λ t. let high = t.1 in omega (arith, o.seats))
    (same_locks v ((load_version_action j k v).view (found_by (load_version_action j k v) ws)) refl refl
    refl refl refl refl refl refl (λ i t. t)
    (λ e. let z : Running ≡ Idle = sym may.phase ∙ e in cc))

pub store_version_locks : (n : ℕ) (base : List ℕ) (j k x : ℕ) → Keeps (LocksHold n base) (MayStoreVersion j k x) (store_version_action j k x)
store_version_locks n base j k x ws vs id v h me may =
    let o = own n base ws vs id j v h me may.who in
    aside_keeps n base id ws vs v (store_version_action j k x v) h me (λ t. let high = t.1 in omega (arith, o.seats))
    (same_locks v ((store_version_action j k x v).view (found_by (store_version_action j k x v) ws)) refl
    refl refl refl refl refl refl refl (λ i t. t)
    (λ e. let z : Releasing ≡ Idle = sym may.phase ∙ e in cc))

pub load_value_locks : (n : ℕ) (base : List ℕ) (j a : ℕ) → Keeps (LocksHold n base) (MayLoadValue j a) (load_value_action j a)
load_value_locks n base j a ws vs id v h me may =
    let o = own n base ws vs id j v h me may.who in
    aside_keeps n base id ws vs v (load_value_action j a v) h me (λ t. let high = t.1 in omega (arith, o.seats))
    (same_locks v ((load_value_action j a v).view (found_by (load_value_action j a v) ws)) refl refl refl
    refl refl refl refl refl (λ i t. t)
    (λ e. let z : Running ≡ Idle = sym may.phase ∙ e in cc))

pub store_value_locks : (n : ℕ) (base : List ℕ) (j a x : ℕ) → Keeps (LocksHold n base) (MayStoreValue j a) (store_value_action j a x)
store_value_locks n base j a x ws vs id v h me may =
    let o = own n base ws vs id j v h me may.who in
    aside_keeps n base id ws vs v (store_value_action j a x v) h me (λ t. let high = t.1 in omega (arith, o.seats))
    (same_locks v ((store_value_action j a x v).view (found_by (store_value_action j a x v) ws)) refl
    refl refl refl refl refl refl refl (λ i t. t)
    (λ e. let z : Running ≡ Idle = sym may.phase ∙ e in cc))

pub undo_store_locks : (n : ℕ) (base : List ℕ) (j a old : ℕ) → Keeps (LocksHold n base) (MayUndoStore j a old) (undo_store_action j a old)
undo_store_locks n base j a old ws vs id v h me may =
    let o = own n base ws vs id j v h me may.who in
    aside_keeps n base id ws vs v (undo_store_action j a old v) h me (λ t. let high = t.1 in omega (arith, o.seats))
    (same_locks v ((undo_store_action j a old v).view (found_by (undo_store_action j a old v) ws)) refl
    refl refl refl refl refl refl refl (λ i t. t)
    (λ e. undoing_idle v.phase may.phase e))

pub commit_call_locks : (good : List ℕ → Type 0) (n : ℕ) (base : List ℕ) (j : ℕ) (kept : Bool)
    → Keeps (LocksHold n base) (MayCommitCall good j kept) (commit_call_action j kept)
commit_call_locks good n base j kept ws vs id v h me may =
    let o = own n base ws vs id j v h me may.who in
    aside_keeps n base id ws vs v (commit_call_action j kept v) h me (λ t. let high = t.1 in omega (arith, o.seats))
    (same_locks v ((commit_call_action j kept v).view (found_by (commit_call_action j kept v) ws)) refl
    refl refl refl refl refl refl refl (λ i t. t)
    (λ e. let z : Releasing ≡ Idle = e in cc))

pub clear_stamp_locks : (n : ℕ) (base : List ℕ) (j : ℕ) → Keeps (LocksHold n base) (MayClearStamp j) (clear_stamp_action j)
clear_stamp_locks n base j ws vs id v h me may =
    let o = own n base ws vs id j v h me may.who in
    aside_keeps n base id ws vs v (clear_stamp_action j v) h me (λ t. let low = t.0 in omega (arith, o.seats, o.below)) record {
      base = refl;
      seats = refl;
      who = refl;
      bits = refl;
      reads = refl;
      claims = refl;
      scans = refl;
      asked = λ k t a. a;
      met = λ i t. t;
      idle = λ k e. (not_true (has k v.bits) (may.no_bit k), not_true (has k v.claims) (may.no_claim k));
    }
