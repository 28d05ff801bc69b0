-- Giving up locks, one after another, and undoing writes.
use Rattle.txn_commit.proofs.Common.{◌≡◌, ◌≢◌, ℕ, ◌<◌, ◌≤◌, ◌⊎◌, inl, inr, ⊎_elim, [], Option, Some, None, IfSome, refl, sym, ap, ◌∙◌, subst, arith, LOCKS}
use Rattle.txn_commit.proofs.Common.{View, Phase, Idle, Running, Yielding, Withdrawing, Releasing, HasClaim, IsLeast, Releases}
use Rattle.word_table.proofs.Common.{has-without, released_phase, release_writer_action}
use Rattle.std.proofs.Common.{◌*◌, ◌/◌}
use Rattle.std.proofs.lemmas.Bool.{cases_lt}
use Rattle.word_table.specs.Calls.{paid}
use Rattle.std.specs.Prelude.{◌-◌}

-- how many locks there are at most from the next one on
abbrev pub turns_left : Option ℕ → ℕ
turns_left None = 0
turns_left (Some lock) = LOCKS - lock

above : (P : ℕ → Type 0) (from : ℕ) → ((k : ℕ) → k < from → ¬ P k) → (k : ℕ) → P k → from ≤ k
above P from below k p = ⊎_elim (λ lt. absurd (below k lt p)) (λ le. le) (cases_lt k from)

-- none below a number, and this is the least from there on
least_from : (P : ℕ → Type 0) (from : ℕ) (next : Option ℕ) → ((k : ℕ) → k < from → ¬ P k) → IsLeast (λ k. (from ≤ k) × P k) next → IsLeast P next
least_from P from None below least = λ k p. least k (above P from below k p, p)
least_from P from (Some j) below least = (least.0.1, λ k lt p. least.1 k lt (above P from below k p, p))

-- the next one, and none before it
pub at_next : (P : ℕ → Type 0) (next : Option ℕ) (lock : ℕ) → next ≡ Some lock → IsLeast P next → P lock
at_next P next lock e least = (subst (λ (o : Option ℕ). IsLeast P o) e least).0

pub least_below : (P : ℕ → Type 0) (next : Option ℕ) (lock : ℕ) → next ≡ Some lock → IsLeast P next → (k : ℕ) → k < lock → ¬ P k
least_below P next lock e least = (subst (λ (o : Option ℕ). IsLeast P o) e least).1

pub near_next : (next : Option ℕ) (lock : ℕ) → next ≡ Some lock → IfSome next (λ k. k < LOCKS) → lock < LOCKS
near_next next lock e near = subst (λ (o : Option ℕ). IfSome o (λ k. k < LOCKS)) e near

-- the first lock of its word
word_below : (lock k : ℕ) → k < lock / 64 * 64 → k < lock
word_below lock k lt = omega arith

-- none below a lock, and this is the least from its word on
pub least_from_word : (P : ℕ → Type 0) (lock : ℕ) (next : Option ℕ) → ((k : ℕ) → k < lock → ¬ P k)
    → IsLeast (λ k. (lock / 64 * 64 ≤ k) × P k) next → IsLeast P next
least_from_word P lock next below least = least_from P (lock / 64 * 64) next (λ k lt. below k (word_below lock k lt)) least

-- the next one comes later
pub fewer_left : (P : ℕ → Type 0) (lock : ℕ) (now next : Option ℕ) → now ≡ Some lock → lock < LOCKS → ¬ P lock → ((k : ℕ) → k < lock → ¬ P k)
    → IsLeast (λ k. (lock / 64 * 64 ≤ k) × P k) next → IfSome next (λ k. k < LOCKS) → turns_left next < turns_left now
fewer_left P lock now next e lt gone below least near =
    subst (λ (o : Option ℕ). turns_left next < turns_left o) (sym e) (fewer next least near) where
      later : (j : ℕ) → P j → lock < j
      later j p = ⊎_elim (λ (far : lock < j). far) (λ (le : j ≤ lock). ⊎_elim (λ (before : j < lock). absurd (below j before p))
          (λ (behind : lock ≤ j). let same : j ≡ lock = omega arith in absurd (gone (subst P same p))) (cases_lt j lock)) (cases_lt lock j)

      fewer : (next : Option ℕ) → IsLeast (λ k. (lock / 64 * 64 ≤ k) × P k) next → IfSome next (λ k. k < LOCKS) → turns_left next < turns_left (Some lock)
      fewer None least near = omega arith
      fewer (Some j) least near = let far : lock < j = later j least.0.1 in omega arith

released_twice : (p : Phase) → released_phase (released_phase p) ≡ released_phase p
released_twice Idle = refl
released_twice Running = refl
released_twice Yielding = refl
released_twice Withdrawing = refl
released_twice Releasing = refl

abbrev changed : View → View → View
changed old new = record old {
  phase = new.phase;
  bits = new.bits;
  reads = new.reads;
  claims = new.claims;
  scans = new.scans;
  owed = new.owed;
}

pub releases_more : (old mid new : View) → Releases old mid → Releases mid new → Releases old new
releases_more old mid new f s = record {
  rest = s.rest ∙ ap (λ (v : View). changed v new) f.rest;
  phase = ⊎_elim (λ e. ⊎_elim (λ d. inl (e ∙ d)) (λ d. inr (e ∙ d)) f.phase)
      (λ e. ⊎_elim (λ d. inr (e ∙ ap released_phase d)) (λ d. inr (e ∙ (ap released_phase d ∙ released_twice old.phase))) f.phase) s.phase;
}

-- a step that gives up a claim, once what was owed was paid
pub claim_given_up : (v new : View) (j k : ℕ) → new ≡ (release_writer_action j k (paid k v)).view 0 → Releases v new
claim_given_up v new j k e = subst (λ (w : View). Releases v w) (sym e) (record { rest = refl; phase = inr refl })

pub claims_without : (v new : View) (j k l : ℕ) → new ≡ (release_writer_action j k (paid k v)).view 0 → HasClaim new l → HasClaim v l
claims_without v new j k l e h = (has-without l k v.claims (subst (λ (w : View). HasClaim w l) e h)).1

-- the same if bits and grants alone were given up
pub bits_given_up : (v new : View) → new ≡ record v { phase = new.phase; bits = new.bits; reads = new.reads }
    → (new.phase ≡ v.phase) ⊎ (new.phase ≡ released_phase v.phase) → Releases v new
bits_given_up v new e phase = record {
  rest = e ∙ ap (λ (u : View). record v {
    phase = new.phase;
    bits = new.bits;
    reads = new.reads;
    claims = u.claims;
    scans = u.scans;
    owed = u.owed;
  }) (sym e);
  phase = phase;
}

-- what was undone stays so, or the call has ended
pub still_undone : (v new : View) → Releases v new → (v.undo ≡ []) ⊎ (v.phase ≡ Releasing) → (new.undo ≡ []) ⊎ (new.phase ≡ Releasing)
still_undone v new r h = ⊎_elim (λ e. inl (ap (λ (w : View). w.undo) r.rest ∙ e)) (λ e. inr (⊎_elim (λ s. s ∙ e) (λ s. s ∙ ap released_phase e) r.phase)) h

begun_stays : (p : Phase) → p ≢ Idle → released_phase p ≢ Idle
begun_stays Idle h e = h refl
begun_stays Running h e = absurd (cc)
begun_stays Yielding h e = absurd (cc)
begun_stays Withdrawing h e = absurd (cc)
begun_stays Releasing h e = absurd (cc)

pub still_begun : (v new : View) → Releases v new → v.phase ≢ Idle → new.phase ≢ Idle
still_begun v new r h e = ⊎_elim (λ s. h (sym s ∙ e)) (λ s. begun_stays v.phase h (sym s ∙ e)) r.phase
