-- What a running attempt finds: a word that it may use stands as its own events and the newest values leave it.
use Rattle.values_rule.proofs.Common.{◌≡◌, ◌≢◌, ℕ, ◌<◌, true, inr, ⊎_elim, List, [], ◌∷◌, length, Some, None, slice_get, sym, ap, ◌∙◌, subst, arith, dite}
use Rattle.values_rule.proofs.Common.{ℕ_discrete, View, Running, lock_of_word, has, Knows, after, value_after, IsGranted, last_event, touched_if_written}
use Rattle.values_rule.proofs.Common.{get-after-value_after, last_from_touched, same_view, has-join_same, LocksHold, table_value, oldest, ValuesHold, items_of}
use Rattle.values_rule.proofs.Common.{next_version, now_of}
use Rattle.history_model.proofs.Traces.EndEvents.{no_event}
use Rattle.values_rule.proofs.Notes.{option_cases, is_missing}
use Rattle.values_rule.proofs.Stores.{shut_out}
use Rattle.values_rule.proofs.Phases.{attempt_runs}
use Rattle.values_rule.proofs.Told.Newest.{length-newest}

module _ (good : List ℕ → Type 0) (n : ℕ) (base ws : List ℕ) (vs : List View) (id j : ℕ) (v : View) (h : LocksHold n base ws vs)
    (q : ValuesHold good n base ws vs) (me : Knows vs id v)
    (single : v.who ≡ j ∷ []) (runs : v.phase ≡ Running) (a : ℕ) (within : a < length base) (granted : IsGranted v (lock_of_word a)) where
  -- an other seat has no note of a word that this one may use
  not_noted : (other : ℕ) (u : View) (o : ℕ) → other ≢ id → Knows vs other u → oldest a u.undo ≡ Some o → ⊥
  not_noted other u o ne k t =
      let c = q.undo.noted other a o u k t in
      shut_out n base ws vs other id j (lock_of_word a) u v h (λ e. ne (sym e)) k
      (record { knows = me; named = subst (λ (l : List ℕ). has j l ≡ true) (sym single) (has-join_same j []) }) granted c.1

  -- if the attempt has no event on the word, nobody has noted it
  pub untouched_stands : value_after v.trace a None ≡ None → slice_get (now_of n base ws vs) a ≡ Some (table_value n ws a)
  untouched_stands none = q.undo.unnoted a within (λ other u k. ⊎_elim
      (λ (t : oldest a u.undo ≡ None). t)
      (λ (t : (o : ℕ) × (oldest a u.undo ≡ Some o)). absurd (dite (ℕ_discrete other id)
      (λ e. let mine : oldest a v.undo ≡ Some t.0 = subst (λ (x : View). oldest a x.undo ≡ Some t.0) (same_view vs id other v u me k e) t.1 in
      let wrote = q.trace.undo_written id a t.0 v me (attempt_runs v runs) mine in
      is_missing (value_after v.trace a None) none (last_from_touched v.trace a None (inr (touched_if_written v.trace a wrote))))
      (λ ne. not_noted other u t.0 ne k t.1)))
      (option_cases (oldest a u.undo)))

  -- the word stands as the attempt's trace leaves it of the newest values
  pub current : slice_get (after v.trace (now_of n base ws vs)) a ≡ Some (table_value n ws a)
  current =
      let long : length (now_of n base ws vs) ≡ length base = length-newest base (items_of vs) (next_version n ws vs) in
      let is = get-after-value_after v.trace (now_of n base ws vs) a (q.trace.legal id v me (attempt_runs v runs)) (omega arith) in
      is ∙ ⊎_elim
      (λ (t : value_after v.trace a None ≡ None). no_event v.trace a (slice_get (now_of n base ws vs) a) t ∙ untouched_stands t)
      (λ (t : (x : ℕ) × (value_after v.trace a None ≡ Some x)). last_event v.trace a t.0 (slice_get (now_of n base ws vs) a) t.1
      ∙ ap (λ (x : ℕ). Some x) (sym (q.trace.last_stands id a t.0 v me runs t.1)))
      (option_cases (value_after v.trace a None))
