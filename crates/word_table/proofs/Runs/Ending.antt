-- From each call waits lead to one that waits for no seat: whether a seat waits is decided, and something falls from wait
-- to wait.
use Rattle.word_table.proofs.Common.{◌≡◌, ◌≢◌, ℕ, zero, suc, ◌<◌, ◌⊎◌, Bool, true, false, inl, inr, ⊎_elim, List, [], ◌∷◌, Option, Some, None, slice_index}
use Rattle.word_table.proofs.Common.{refl, sym, ap, ◌∙◌, subst, arith, dite, ℕ_discrete, LOCKS, Cause, View, Phase, Idle, Running, Yielding, Withdrawing}
use Rattle.word_table.proofs.Common.{Releasing, has, has_pair, TableState, Knows, clock_word, stamps_word, HasBit, HasClaim, differ, has-join_same, same_view}
use Rattle.word_table.proofs.Common.{LocksHold, IsSeat, own_number, is_own, lock_near, newest, past_causes, StampsHold, shown_stamp, pending_yielding, Judged}
use Rattle.word_table.proofs.Common.{judged_of, StandsElsewhere, WaitsAtLock, WaitsForCause, WaitsFor}
use Rattle.stamps_rule.proofs.Common.{empty-has}
use Rattle.stamps_rule.proofs.CauseLists.{pending_is_cause}
use Rattle.word_table.specs.Waits.{IsCalling, LeadsTo, WaitsEnd}
use Rattle.word_table.proofs.Runs.Meetings.{reached_sound}
use Rattle.word_table.proofs.Runs.Waiting.{rank, waiter, falls, shown_is}
use Rattle.word_table.specs.declared.answer.Judged.TheVariants as answer

is_true : (b : Bool) → Dec (b ≡ true)
is_true true = yes refl
is_true false = no (λ e. differ false e refl)

is_running : (p : Phase) → Dec (p ≡ Running)
is_running Idle = no (λ e. cc)
is_running Running = yes refl
is_running Yielding = no (λ e. cc)
is_running Withdrawing = no (λ e. cc)
is_running Releasing = no (λ e. cc)

is_yielding : (p : Phase) → Dec (p ≡ Yielding)
is_yielding Idle = no (λ e. cc)
is_yielding Running = no (λ e. cc)
is_yielding Yielding = yes refl
is_yielding Withdrawing = no (λ e. cc)
is_yielding Releasing = no (λ e. cc)

is_wait : (r : Judged) → Dec (r ≡ answer.Wait)
is_wait answer.Wait = yes refl
is_wait (answer.Yield stamp) = no (λ e. cc)

is_empty : {A : Type 0} (xs : List A) → Dec (xs ≡ [])
is_empty [] = yes refl
is_empty (x ∷ xs) = no (λ e. cc)

-- nothing is in a set exactly if it is empty
has_none : (xs : List ℕ) → Dec ((x : ℕ) → ¬ (has x xs ≡ true))
has_none [] = yes (λ x t. differ (has x []) t (empty-has [] x refl))
has_none (y ∷ ys) = no (λ h. h y (has-join_same y ys))

both : {A B : Type 0} → Dec A → Dec B → Dec (A × B)
both (yes a) (yes b) = yes (a, b)
both (yes a) (no m) = no (λ t. m t.1)
both (no m) d = no (λ t. m t.0)

either : {A B : Type 0} → Dec A → Dec B → Dec (A ⊎ B)
either (yes a) d = yes (inl a)
either (no m) (yes b) = yes (inr b)
either (no m) (no k) = no (λ t. ⊎_elim m k t)

apart : (a b : ℕ) → Dec (a ≢ b)
apart a b = dite (ℕ_discrete a b) (λ e. no (λ ne. ne e)) (λ ne. yes ne)

-- what comes to the same is decided with it
decided_by : {A B : Type 0} → (A → B) → (B → A) → Dec A → Dec B
decided_by f g (yes a) = yes (f a)
decided_by f g (no m) = no (λ b. m (g b))

-- the numbers below m are looked through
search_below : (P : ℕ → Type 0) (m : ℕ) → ((i : ℕ) → i < m → Dec (P i)) → Dec ((i : ℕ) × (i < m) × P i)
search_below P zero each = no (λ t. let low = t.1 in absurd (omega arith))
search_below P (suc m) each = decided_by
    (λ t. ⊎_elim (λ p. (m, omega arith, p)) (λ t. let low = t.1 in (t.0, omega arith, t.2)) t)
    (λ t. let low = t.1 in dite (ℕ_discrete t.0 m) (λ e. inl (subst P e t.2)) (λ ne. inr (t.0, omega arith, t.2)))
    (either (each m (omega arith)) (search_below P m (λ i low. each i (omega arith))))

module _ (n : ℕ) (base : List ℕ) (s : TableState) (h : LocksHold n base s.words s.views) (q : StampsHold n s.words s.views) where
  abbrev shown : ℕ → ℕ
  shown j = slice_index s.words (stamps_word n j)

  -- who is waited for is in a call
  alone : (place j : ℕ) (u : View) → IsSeat s.views place u j → u.phase ≢ Idle → IsCalling s j
  alone place j u seat busy =
      let one = q.grounds.callers_alone place u seat.knows busy in
      let is : j ≡ one.0 = is_own u one.0 j one.1 seat.named in
      record { place = place; view = u; knows = seat.knows; who = subst (λ (i : ℕ). u.who ≡ i ∷ []) (sym is) one.1; begun = busy }

  waited_for : (i j : ℕ) → WaitsFor n s i j → IsCalling s j
  waited_for i j (inl a) =
      let t = a.stands in
      alone t.other j t.view (record { knows = t.knows; named = t.stands.named }) (λ idle.
      let nothing = h.idle_holds_nothing t.other a.lock t.view t.knows idle in
      ⊎_elim (λ bit. differ (has a.lock t.view.bits) bit nothing.0) (λ claim. differ (has a.lock t.view.claims) claim nothing.1) t.stands.holds)
  waited_for i j (inr a) =
      let c : Cause = record { seat = j; stamp = a.stamp } in
      let pending = pending_yielding a.view a.may.phase ∙ a.may.last in
      let first = q.pending.goes_first a.place a.view c a.knows pending in
      let low = (q.grounds.elsewhere a.place i a.view c a.knows a.may.who (pending_is_cause a.view c pending)).0 in
      let u = h.numbers_placed j low in
      let some = first.0 in
      let is : shown_stamp u.1 ≡ a.stamp = sym (q.shown.words_show u.0 j u.1 u.2) ∙ a.shown in
      let stamp : shown_stamp u.1 ≡ u.1.stamp = shown_is u.1 (omega arith) in
      alone u.0 j u.1 u.2 (λ idle. let zero_stamp = q.shown.idle_unstamped u.0 u.1 u.2.knows idle in absurd (omega arith))

  module _ (i place : ℕ) (v : View) (me : Knows s.views place v) (single : v.who ≡ i ∷ []) where
    mine : IsSeat s.views place v i
    mine = record { knows = me; named = own_number v i single }

    -- whoever has this number is this seat
    same : (other : ℕ) (u : View) → Knows s.views other u → u.who ≡ i ∷ [] → (other ≡ place) × (u ≡ v)
    same other u knows who =
        let here : other ≡ place = h.numbers_unique other place i u v (record { knows = knows; named = own_number u i who }) mine in
        (here, same_view s.views place other v u me knows here)

    pub stands : (j k : ℕ) → j < n → Dec (StandsElsewhere s.views place k j)
    stands j k low =
        let p = h.numbers_placed j low in
        let there : (t : StandsElsewhere s.views place k j) → t.other ≡ p.0 = λ t.
        h.numbers_unique t.other p.0 j t.view p.1 (record { knows = t.knows; named = t.stands.named }) p.2 in
        decided_by
        (λ t. record {
          other = p.0;
          view = p.1;
          elsewhere = t.0;
          knows = p.2.knows;
          stands = record {
            named = p.2.named;
            holds = t.1;
            asked = ⊎_elim (h.bits_were_asked p.0 k p.1 p.2.knows) (h.claims_were_asked p.0 k p.1 p.2.knows) t.1;
          };
        })
        (λ t. (
          λ e. t.elsewhere (there t ∙ e),
          subst (λ (u : View). HasBit u k ⊎ HasClaim u k) (same_view s.views p.0 t.other p.1 t.view p.2.knows t.knows (there t)) t.stands.holds,
        ))
        (both (apart p.0 place) (either (is_true (has k p.1.bits)) (is_true (has k p.1.claims))))

    -- what it is for a seat at place p, which knows u, to wait at lock k for seat j
    abbrev Blocks : ℕ → View → ℕ → ℕ → Type 0
    Blocks p u j k = (has_pair k j u.meetings ≡ true) × (StandsElsewhere s.views p k j × (judged_of (shown j) u.stamp ≡ answer.Wait))

    abbrev IsBlocked : ℕ → View → Type 0
    IsBlocked p u = (u.phase ≡ Running) × ((u.announced ≡ true) × ((j : ℕ) × (j < n) × ((k : ℕ) × (k < LOCKS) × Blocks p u j k)))

    at_lock : Dec ((j : ℕ) × WaitsAtLock n s i j)
    at_lock = decided_by
        (λ t. let b = t.1.1 in let at = b.2.2 in (
          b.0,
          record {
            place = place;
            view = v;
            knows = me;
            who = single;
            phase = t.0;
            announced = t.1.0;
            lock = b.2.0;
            met = at.0;
            stands = at.1.0;
            answer = at.1.1;
          },
        ))
        (λ t. let a = t.1 in let is = same a.place a.view a.knows a.who in let o = a.stands in
        let low = h.numbers_below o.other t.0 o.view (record { knows = o.knows; named = o.stands.named }) in
        let near = lock_near o.view a.lock o.stands.asked in
        let blocked : IsBlocked a.place a.view = (a.phase, (a.announced, (t.0, low, (a.lock, near, (a.met, (o, a.answer)))))) in
        subst (λ (p : ℕ). IsBlocked p v) is.0 (subst (λ (u : View). IsBlocked a.place u) is.1 blocked))
        (both (is_running v.phase) (both (is_true v.announced) (search_below (λ j. (k : ℕ) × (k < LOCKS) × Blocks place v j k) n (λ j low.
        search_below (λ k. Blocks place v j k) LOCKS (λ k near. both (is_true (has_pair k j v.meetings))
        (both (stands j k low) (is_wait (judged_of (shown j) v.stamp))))))))

    -- what it is to be ready to look at a cause
    abbrev Rests : View → Type 0
    Rests u = (u.phase ≡ Yielding) × (((k : ℕ) → ¬ HasBit u k) × (((k : ℕ) → ¬ HasClaim u k) × (u.undo ≡ [])))

    same_cause : (c d : Cause) → Some c ≡ Some d → c ≡ d
    same_cause c d e = cc

    for_this : (o : Option Cause) → newest (past_causes v) ≡ o → Dec ((j : ℕ) × WaitsForCause n s i j)
    for_this None none = no (λ t. let a = t.1 in let is = same a.place a.view a.knows a.may.who in
        let z : None ≡ Some (record { seat = t.0; stamp = a.stamp }) =
        sym none ∙ (ap (λ (u : View). newest (past_causes u)) (sym is.1) ∙ a.may.last) in cc)
    for_this (Some c) last = decided_by
        (λ t. let r = t.0 in (
          c.seat,
          record {
            place = place;
            view = v;
            knows = me;
            stamp = c.stamp;
            may = record { who = single; phase = r.0; last = last; no_bit = r.1.0; no_claim = r.1.1.0; undone = r.1.1.1 };
            shown = t.1;
          },
        ))
        (λ t. let a = t.1 in let may = a.may in let is = same a.place a.view a.knows may.who in
        let d : Cause = record { seat = t.0; stamp = a.stamp } in
        let one : d ≡ c = same_cause d c (sym may.last ∙ (ap (λ (u : View). newest (past_causes u)) is.1 ∙ last)) in
        let rests : Rests a.view = (may.phase, (may.no_bit, (may.no_claim, may.undone))) in
        (subst Rests is.1 rests, subst (λ (x : Cause). shown x.seat ≡ x.stamp) one a.shown))
        (both (both (is_yielding v.phase) (both (has_none v.bits) (both (has_none v.claims) (is_empty v.undo)))) (ℕ_discrete (shown c.seat) c.stamp))

    waits : Dec ((j : ℕ) × WaitsFor n s i j)
    waits = decided_by
        (λ t. ⊎_elim (λ (a : (j : ℕ) × WaitsAtLock n s i j). (a.0, inl a.1)) (λ (a : (j : ℕ) × WaitsForCause n s i j). (a.0, inr a.1)) t)
        (λ t. ⊎_elim (λ (a : WaitsAtLock n s i t.0). inl (t.0, a)) (λ (a : WaitsForCause n s i t.0). inr (t.0, a)) t.1)
        (either at_lock (for_this (newest (past_causes v)) refl))

  -- what a seat in a call is led to
  abbrev Ends : ℕ → Type 0
  Ends i = (j waits : ℕ) × LeadsTo n s waits i j × IsCalling s j × ((x : ℕ) → ¬ WaitsFor n s j x)

  here : (i : ℕ) → LeadsTo n s 0 i i
  unfolding LeadsTo
  here i = refl

  there : (i x j m : ℕ) → WaitsFor n s i x → LeadsTo n s m x j → LeadsTo n s (suc m) i j
  unfolding LeadsTo
  there i x j m a t = (x, a, t)

  onwards : (i x : ℕ) → WaitsFor n s i x → Ends x → Ends i
  onwards i x a e = (e.0, suc e.1, there i x e.0 e.1 a e.2, e.3, e.4)

  ends_behind : (m i j : ℕ) (a : WaitsFor n s i j) → rank (slice_index s.words clock_word) (waiter n s i j a) < m → Ends j
  ends_behind zero i j a low = absurd (omega arith)
  ends_behind (suc m) i j a low =
      let c = waited_for i j a in
      dite (waits j c.place c.view c.knows c.who)
      (λ t. let less = falls n base s h q i j t.0 a t.1 in onwards j t.0 t.1 (ends_behind m j t.0 t.1 (omega arith)))
      (λ free. (j, 0, here j, c, λ x b. free (x, b)))

  pub ends : (i : ℕ) → IsCalling s i → Ends i
  ends i c = dite (waits i c.place c.view c.knows c.who)
      (λ t. onwards i t.0 t.1 (ends_behind (suc (rank (slice_index s.words clock_word) (waiter n s i t.0 t.1))) i t.0 t.1 (omega arith)))
      (λ free. (i, 0, here i, c, λ x b. free (x, b)))

pub waits_end : (good : List ℕ → Type 0) (n : ℕ) (base : List ℕ) → WaitsEnd good n base
waits_end good n base s i r c = let sound = reached_sound good n base s r in ends n base s sound.locks sound.stamps i c
