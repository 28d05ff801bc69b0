-- Every state of a run meets the rule.
use Rattle.word_table.proofs.Common.{◌≡◌, ⊎_elim, ℕ, zero, suc, inl, List, [], ◌∷◌, ◌++◌, refl, sym, ap, subst, slice_set, View, TableState, Knows, words_after}
use Rattle.word_table.proofs.Common.{views_after, KeepsJoin, left_by_note, note_of, MayMeetNote, MayJoinSeats, views_joined, after_note, after_joining}
use Rattle.word_table.proofs.Common.{opening_view, left_by_split, given_by_split, Step, action_of, May, TakesStep, CutsSeat, TakesNote, Joins, Steps, IsRun}
use Rattle.word_table.proofs.Common.{IsSound, opening_words, numbers}
use Rattle.std.proofs.Common.{true≢false}
use Rattle.std.specs.Prelude.{Option, Some, None, Bool, true, false, slice_get}
use Rattle.word_table.specs.Runs.{IsOpening}
use Rattle.word_table.proofs.Kept.KeptChanges.{split_seat_sound, take_note_sound, meet_note_sound, join_seats_sound}
use Rattle.word_table.proofs.Kept.KeptKinds.{sound_kept}
use Rattle.word_table.proofs.Openings.Opening.{opening_sound}

abbrev there : Option TableState → Bool
there None = false
there (Some s) = true

none_some : (s : TableState) → None ≡ Some s → ⊥
none_some s e = true≢false (sym (ap there e))

-- a place before one that is in the list is in the list
pub before : (run : List TableState) (p : ℕ) (t : TableState) → slice_get run (suc p) ≡ Some t → (s : TableState) × (slice_get run p ≡ Some s)
before [] p t at = absurd (none_some t at)
before (x ∷ run) zero t at = (x, refl)
before (x ∷ run) (suc p) t at = before run p t at

module _ (good : List ℕ → Type 0) (n : ℕ) (base : List ℕ) where
  abbrev Sound : TableState → Type 0
  Sound s = IsSound good n base s.words s.views

  as_sound : (ws ws' : List ℕ) (vs vs' : List View) → ws' ≡ ws → vs' ≡ vs → IsSound good n base ws vs → IsSound good n base ws' vs'
  as_sound ws ws' vs vs' e f h = subst (λ (l : List ℕ). IsSound good n base l vs') (sym e) (subst (λ (l : List View). IsSound good n base ws l) (sym f) h)

  joined_kept : (s t : TableState) (may : View → View → Type 0) (both : View → View → View)
      → KeepsJoin (IsSound good n base) may both → Sound s → Joins may both s t → Sound t
  joined_kept s t may both keeps h x =
      as_sound s.words t.words (views_joined x.place x.other (both x.view x.other_view) s.views) t.views x.words_are x.views_are
      (keeps s.words s.views x.place x.other x.view x.other_view h x.apart x.knows x.other_knows x.may_join)

  steps_kept : (s t : TableState) → Sound s → Steps good s t → Sound t
  steps_kept s t h = ⊎_elim
      (λ (x : TakesStep good s t). as_sound (words_after (action_of x.step x.view) s.words) t.words
      (views_after (action_of x.step x.view) x.place s.words s.views) t.views x.words_are x.views_are
      (sound_kept good n base x.step s.words s.views x.place x.view h x.knows x.may))
      (λ y. ⊎_elim
      (λ (x : CutsSeat s t). as_sound s.words t.words (slice_set s.views x.place (left_by_split x.view)
      ++ given_by_split x.view ∷ []) t.views x.words_are x.views_are (split_seat_sound good n base x.number s.words s.views x.place x.view h x.knows x.may))
      (λ z. ⊎_elim
      (λ (x : TakesNote s t). as_sound s.words t.words (slice_set s.views x.place (left_by_note x.view)
      ++ note_of x.view ∷ []) t.views x.words_are x.views_are (take_note_sound good n base s.words s.views x.place x.view h x.knows x.may))
      (λ w. ⊎_elim (joined_kept s t MayMeetNote after_note (meet_note_sound good n base) h)
      (joined_kept s t MayJoinSeats after_joining (join_seats_sound good n base) h) w) z) y)

  pub run_sound : (run : List TableState) → good base → IsRun good n base run → (p : ℕ) (s : TableState)
      → slice_get run p ≡ Some s → IsSound good n base s.words s.views
  run_sound run fine r zero s at = let o = r.first s at in
      as_sound (opening_words n base) s.words (opening_view base n (numbers 0 n) [] ∷ []) s.views o.words_are
      o.views_are (opening_sound good n base (opening_words n base) refl fine)
  run_sound run fine r (suc p) s at = let b = before run p s at in steps_kept b.0 s (run_sound run fine r p b.0 b.1) (r.next p b.0 s b.1 at)

  some_same : (s t : TableState) → Some s ≡ Some t → s ≡ t
  some_same s t e = cc

  pub opening_run : (s : TableState) → IsOpening n base s → IsRun good n base (s ∷ [])
  opening_run s o = record {
    first = λ t at. subst (λ (x : TableState). IsOpening n base x) (some_same s t at) o;
    next = λ p a b here there. absurd (none_some b (past p b there));
  }
    where
      past : (p : ℕ) (b : TableState) → slice_get (s ∷ []) (suc p) ≡ Some b → None ≡ Some b
      past p b e = e

  pub step_leads : (s : TableState) (st : Step) (place : ℕ) (v : View) → Knows s.views place v → May good st v
      → Steps good s (record { words = words_after (action_of st v) s.words; views = views_after (action_of st v) place s.words s.views })
  step_leads s st place v knows may = inl record { step = st; place = place; view = v; knows = knows; may = may; words_are = refl; views_are = refl }
