-- No circle of waits. Along waits at locks timestamps rise, along waits for causes they fall, and a wait at a lock leads to
-- no seat that waits for its cause, since such a seat stands on no lock.
use Rattle.word_table.proofs.Common.{◌≡◌, ◌≢◌, ℕ, zero, suc, ◌+◌, ◌-◌, ◌<◌, ◌≤◌, Bool, true, false, ◌⊎◌, inl, inr, ⊎_elim, List, [], ◌∷◌, length, Option, Some}
use Rattle.word_table.proofs.Common.{None, slice_get, slice_index, if◌then◌else◌, refl, sym, ap, ◌∙◌, subst, arith, Cause, View, Phase, Running, Yielding, IsIn}
use Rattle.word_table.proofs.Common.{has, TableState, clock_word, stamps_word, HasBit, HasClaim, bool_cases, has-join_same, same_view, LocksHold, IsSeat}
use Rattle.word_table.proofs.Common.{own_number, is_yielding, StampsHold, shown_stamp, pending_yielding, WaitsAtLock, WaitsForCause, WaitsFor}
use Rattle.word_table.specs.Waits.{IsCircle, HasNoCircle, HasNoDeadlock}
use Rattle.word_table.proofs.Calls.Judging.{wait_due}
use Rattle.word_table.proofs.Runs.Meetings.{reached_sound}

-- what falls from each waiting seat to the next, if no timestamp is later than `last`
abbrev pub rank : ℕ → View → ℕ
rank last v = if is_yielding v.phase then suc (last + v.stamp) else last - v.stamp

running_rank : (last : ℕ) (v : View) → v.phase ≡ Running → rank last v ≡ last - v.stamp
running_rank last v e = ap (λ (p : Phase). if is_yielding p then suc (last + v.stamp) else last - v.stamp) e

yielding_rank : (last : ℕ) (v : View) → v.phase ≡ Yielding → rank last v ≡ suc (last + v.stamp)
yielding_rank last v e = ap (λ (p : Phase). if is_yielding p then suc (last + v.stamp) else last - v.stamp) e

-- from a running call to one with a later timestamp, from one that gives way to a running one, and to one with an earlier
running_falls : (last : ℕ) (v u : View) → v.phase ≡ Running → u.phase ≡ Running → v.stamp < u.stamp → u.stamp ≤ last → rank last u < rank last v
running_falls last v u e f up most = let of_v = running_rank last v e in let of_u = running_rank last u f in omega arith

turning_falls : (last : ℕ) (v u : View) → v.phase ≡ Yielding → u.phase ≡ Running → rank last u < rank last v
turning_falls last v u e f = let of_v = yielding_rank last v e in let of_u = running_rank last u f in omega arith

yielding_falls : (last : ℕ) (v u : View) → v.phase ≡ Yielding → u.phase ≡ Yielding → u.stamp < v.stamp → rank last u < rank last v
yielding_falls last v u e f down = let of_v = yielding_rank last v e in let of_u = yielding_rank last u f in omega arith

-- who announced its timestamp shows it, and who shows one above 0 has it
announced_shows : (u : View) → u.announced ≡ true → shown_stamp u ≡ u.stamp
announced_shows u t = ap (λ (b : Bool). if b then u.stamp else 0) t

pub shown_is : (u : View) → 0 < shown_stamp u → shown_stamp u ≡ u.stamp
shown_is u some = ⊎_elim
    (λ (t : u.announced ≡ true). announced_shows u t)
    (λ (f : u.announced ≡ false). let z : shown_stamp u ≡ 0 = ap (λ (b : Bool). if b then u.stamp else 0) f in absurd (omega arith))
    (bool_cases u.announced)

-- what the waiting seat knows
abbrev pub waiter : (n : ℕ) (s : TableState) (i j : ℕ) → WaitsFor n s i j → View
waiter n s i j (inl a) = a.view
waiter n s i j (inr a) = a.view

module _ (n : ℕ) (base : List ℕ) (s : TableState) (h : LocksHold n base s.words s.views) (q : StampsHold n s.words s.views) where
  abbrev last : ℕ
  last = slice_index s.words clock_word

  -- the seat that is waited for at a lock is another than the waiting one
  elsewhere : (i j x : ℕ) (a : WaitsAtLock n s i j) (place : ℕ) (u : View) → IsSeat s.views place u j → a.place ≢ place
  elsewhere i j x a place u seat e =
      let there : a.stands.other ≡ place = h.numbers_unique a.stands.other place j a.stands.view u
      (record { knows = a.stands.knows; named = a.stands.stands.named }) seat in
      a.stands.elsewhere (there ∙ sym e)

  -- and stands on one
  stands_on : (i j : ℕ) (a : WaitsAtLock n s i j) (place : ℕ) (u : View) → IsSeat s.views place u j → HasBit u a.lock ⊎ HasClaim u a.lock
  stands_on i j a place u seat =
      let there : a.stands.other ≡ place = h.numbers_unique a.stands.other place j a.stands.view u
      (record { knows = a.stands.knows; named = a.stands.stands.named }) seat in
      subst (λ (x : View). HasBit x a.lock ⊎ HasClaim x a.lock)
      (same_view s.views place a.stands.other u a.stands.view seat.knows a.stands.knows there) a.stands.stands.holds

  rises : (i j x : ℕ) (a : WaitsAtLock n s i j) (b : WaitsAtLock n s j x) → a.view.stamp < b.view.stamp
  rises i j x a b =
      let seat : IsSeat s.views b.place b.view j = record { knows = b.knows; named = own_number b.view j b.who } in
      let shown : slice_index s.words (stamps_word n j) ≡ b.view.stamp =
      q.shown.words_show b.place j b.view seat ∙ announced_shows b.view b.announced in
      let some : 0 < b.view.stamp = q.shown.announced_stamped b.place b.view b.knows b.announced in
      let own : 0 < a.view.stamp = q.shown.announced_stamped a.place a.view a.knows a.announced in
      let differ : a.view.stamp ≢ b.view.stamp =
      λ e. elsewhere i j x a b.place b.view seat (q.drawn.distinct a.place b.place a.view b.view a.knows b.knows own e) in
      ⊎_elim
      (λ (z : slice_index s.words (stamps_word n j) ≡ 0). omega arith)
      (λ (z : a.view.stamp ≤ slice_index s.words (stamps_word n j)). omega arith)
      (wait_due j (slice_index s.words (stamps_word n j)) a.view.stamp a.answer).1

  sinks : (i j x : ℕ) (a : WaitsForCause n s i j) (b : WaitsForCause n s j x) → b.view.stamp < a.view.stamp
  sinks i j x a b =
      let c : Cause = record { seat = j; stamp = a.stamp } in
      let seat : IsSeat s.views b.place b.view j = record { knows = b.knows; named = own_number b.view j b.may.who } in
      let first = q.pending.goes_first a.place a.view c a.knows (pending_yielding a.view a.may.phase ∙ a.may.last) in
      let some = first.0 in let earlier = first.1 in
      let shown : shown_stamp b.view ≡ a.stamp = sym (q.shown.words_show b.place j b.view seat) ∙ a.shown in
      let is : shown_stamp b.view ≡ b.view.stamp = shown_is b.view (omega arith) in omega arith

  pub falls : (i j x : ℕ) (a : WaitsFor n s i j) (b : WaitsFor n s j x) → rank last (waiter n s j x b) < rank last (waiter n s i j a)
  falls i j x (inl a) (inl b) =
      running_falls last a.view b.view a.phase b.phase (rises i j x a b) (q.drawn.below_clock b.place b.view b.knows)
  falls i j x (inl a) (inr b) =
      let seat : IsSeat s.views b.place b.view j = record { knows = b.knows; named = own_number b.view j b.may.who } in
      absurd (⊎_elim (b.may.no_bit a.lock) (b.may.no_claim a.lock) (stands_on i j a b.place b.view seat))
  falls i j x (inr a) (inl b) = turning_falls last a.view b.view a.may.phase b.phase
  falls i j x (inr a) (inr b) = yielding_falls last a.view b.view a.may.phase b.may.phase (sinks i j x a b)

  -- waits that always lead on to a further wait are none
  module _ (P : ℕ → Type 0) (on : (i : ℕ) → P i → (j : ℕ) × P j × WaitsFor n s i j) where
    ends : (m i j : ℕ) (a : WaitsFor n s i j) → P j → rank last (waiter n s i j a) < m → ⊥
    ends zero i j a t low = omega arith
    ends (suc m) i j a t low =
        let next = on j t in let less = falls i j next.0 a next.2 in
        ends m j next.0 next.2 next.1 (omega arith)

    pub none : (i : ℕ) → P i → ⊥
    none i t = let next = on i t in ends (suc (rank last (waiter n s i next.0 next.2))) i next.0 next.2 next.1 (omega arith)

option_cases : (o : Option ℕ) → (o ≡ None) ⊎ ((x : ℕ) × (o ≡ Some x))
option_cases None = inl refl
option_cases (Some x) = inr (x, refl)

-- a place behind which there is none is the last
last_place : (xs : List ℕ) (p x : ℕ) → slice_get xs p ≡ Some x → slice_get xs (suc p) ≡ None → slice_get xs (length xs - 1) ≡ Some x
last_place [] p x at end = absurd (let z : None ≡ Some x = at in cc)
last_place (y ∷ []) zero x at end = at
last_place (y ∷ z ∷ zs) zero x at end = absurd (let w : Some z ≡ None = end in cc)
last_place (y ∷ []) (suc p) x at end = absurd (let z : None ≡ Some x = at in cc)
last_place (y ∷ z ∷ zs) (suc p) x at end =
    let same : suc (length (z ∷ zs) - 1) ≡ length (y ∷ z ∷ zs) - 1 = omega arith in
    subst (λ (k : ℕ). slice_get (y ∷ z ∷ zs) k ≡ Some x) same (last_place (z ∷ zs) p x at end)

module _ (good : List ℕ → Type 0) (n : ℕ) (base : List ℕ) where
  pub has_no_deadlock : HasNoDeadlock good n base
  has_no_deadlock s [] r d = d.some refl
  has_no_deadlock s (i ∷ more) r d =
      let sound = reached_sound good n base s r in
      none n base s sound.locks sound.stamps (λ x. has x (i ∷ more) ≡ true) d.each i (has-join_same i more)

  around : (s : TableState) (i : ℕ) (more : List ℕ) → IsCircle n s (i ∷ more) → (x : ℕ) → IsIn x (i ∷ more)
      → (j : ℕ) × IsIn j (i ∷ more) × WaitsFor n s x j
  around s i more c x t = ⊎_elim
      (λ end. (i, (0, refl), c.closes x i (last_place (i ∷ more) t.0 x t.1 end) refl))
      (λ y. (y.0, (suc t.0, y.1), c.next t.0 x y.0 t.1 y.1))
      (option_cases (slice_get (i ∷ more) (suc t.0)))

  pub has_no_circle : HasNoCircle good n base
  has_no_circle s [] r c = c.some refl
  has_no_circle s (i ∷ more) r c =
      let sound = reached_sound good n base s r in
      none n base s sound.locks sound.stamps (λ x. IsIn x (i ∷ more)) (around s i more c) i (0, refl)
