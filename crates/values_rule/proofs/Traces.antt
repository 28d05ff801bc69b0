-- What a step owes of notes and of the attempt's trace. One seat goes from the view v to w while the words go from ws to
-- ws'; now has the newest values.
use Rattle.values_rule.proofs.Common.{◌≡◌, ℕ, ◌<◌, true, ◌⊎◌, ⊎_elim, List, [], length, Some, None, IsSome, slice_get, sym, ap, ◌∙◌, View, Idle, Running}
use Rattle.values_rule.proofs.Common.{Releasing, is_attempt, lock_of_word, Writes, Touches, HasWriteGrant, IsGranted, table_value, oldest}
use Rattle.history_model.specs.Traces.{IsLegalTrace, value_after}
use Rattle.values_rule.proofs.Notes.{oldest-nil}

-- notes and values
pub record UndoMoves (n : ℕ) (base now ws ws' : List ℕ) (v w : View) : Type 0 where
  pub noted : (a o : ℕ) → oldest a w.undo ≡ Some o → (a < length base) × HasWriteGrant w (lock_of_word a) × (slice_get now a ≡ Some o)
  pub unnoted : (a : ℕ) → a < length base → oldest a w.undo ≡ None
      → ((oldest a v.undo ≡ None) × (table_value n ws' a ≡ table_value n ws a)) ⊎ (slice_get now a ≡ Some (table_value n ws' a))
  -- a word that another seat may use stays
  pub foreign : (a : ℕ) → a < length base → ¬ HasWriteGrant v (lock_of_word a) → table_value n ws' a ≡ table_value n ws a

-- the attempt's trace
pub record TraceMoves (n : ℕ) (base now ws' : List ℕ) (w : View) : Type 0 where
  pub granted : (a : ℕ) → is_attempt w.phase ≡ true → Touches w.trace a → (a < length base) × IsGranted w (lock_of_word a)
  pub legal : is_attempt w.phase ≡ true → IsLegalTrace w.trace now
  pub undo_written : (a o : ℕ) → is_attempt w.phase ≡ true → oldest a w.undo ≡ Some o → Writes w.trace a
  pub written_noted : (a : ℕ) → w.phase ≡ Running → Writes w.trace a → IsSome (oldest a w.undo)
  pub last_stands : (a x : ℕ) → w.phase ≡ Running → value_after w.trace a None ≡ Some x → table_value n ws' a ≡ x
  pub rested : (w.phase ≡ Idle) ⊎ (w.phase ≡ Releasing) → w.undo ≡ []

-- an attempt that did nothing yet
pub fresh_trace : (n : ℕ) (base now ws' : List ℕ) (w : View) → w.trace ≡ [] → w.undo ≡ [] → w.phase ≡ Running → TraceMoves n base now ws' w
unfolding IsLegalTrace value_after
fresh_trace n base now ws' w trace undo runs = record {
  granted = λ a busy t. absurd (let z = ap (λ (l : _). slice_get l t.0) trace in ⊎_elim (λ e. cc) (λ e. cc) t.2);
  legal = λ busy. rw trace tt;
  undo_written = λ a o busy t. absurd (let z : None ≡ Some o = sym (oldest-nil a) ∙ (ap (λ (l : List (ℕ × ℕ)). oldest a l) (sym undo) ∙ t) in cc);
  written_noted = λ a is t. absurd (let z = ap (λ (l : _). slice_get l t.0) trace in cc (t.2));
  last_stands = λ a x is t. absurd (let z : None ≡ Some x = (rw trace at t) in cc);
  rested = λ t. undo;
}
