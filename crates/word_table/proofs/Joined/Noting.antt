-- Notes are taken and met.
use Rattle.word_table.proofs.Common.{◌≡◌, ◌⊎◌, ℕ, ⊎_elim, List, [], sym, ap, ◌∙◌, subst, State, Splits, TableId, Entry, View, Idle, IsIn, put_cases}
use Rattle.word_table.proofs.Common.{left_by_note, note_of, spent_view, gains, after_note, gains_first, gains_second, gains_cases, PassView, IsSound}
use Rattle.std.proofs.Common.{◌↔◌}
use Rattle.atomic_table.specs.Table.{Joins}
use Rattle.word_table.specs.Notes.{NoteView}
use Rattle.word_table.proofs.Kept.KeptChanges.{take_note_sound, meet_note_sound}

module _ (good : List ℕ → Type 0) (n : ℕ) (base : List ℕ) where
  abbrev Holds : State (Unit {0}) View → Type 0
  Holds s = IsSound good n base s.words s.views

  pub gives_at : (id : ℕ) (v : View) → v.phase ≡ Idle → Splits Holds id v (left_by_note v) (note_of v)
  gives_at id v phase s h known = take_note_sound good n base s.words s.views id v h known (record { phase = phase })

  pub meets_at : (id other : ℕ) (v w : View) → v.phase ≡ Idle → w.phase ≡ Idle → w.who ≡ [] → Joins Holds id v other w (after_note v w) spent_view
  meets_at id other v w phase note_phase unnumbered s h known apart at = meet_note_sound good n base s.words s.views id other v w h apart known
      (⊎_elim (λ t. absurd (apart t.0)) (λ t. t.1) (put_cases s.views id other (after_note v w) w at))
      (record { phase = phase; note_phase = note_phase; unnumbered = unnumbered })

-- what the join does to the seats, it does to the pass and the note that have them
pub met_by : {steps : ℕ} (v w joined : View) (table of : TableId) (pass : PassView) (note : NoteView)
    → record { table = table; view = v; steps = steps } ≡ pass → record { table = of; seen = w.seen } ≡ note
    → joined ≡ after_note v w → joined ≡ record pass.view { seen = gains pass.view.seen note.seen; met = [] }
met_by v w joined table of pass note e f is =
    subst (λ (x : NoteView). joined ≡ record pass.view { seen = gains pass.view.seen x.seen; met = [] }) f
    (subst (λ (x : PassView). joined ≡ record x.view { seen = gains x.view.seen w.seen; met = [] }) e is)

-- the phase of a pass is that of its seat's view
pub seat_phase : {steps : ℕ} (v : View) (table : TableId) (pass : PassView) → record { table = table; view = v; steps = steps } ≡ pass
    → pass.view.phase ≡ Idle → v.phase ≡ Idle
seat_phase v table pass e idle = ap (λ (x : PassView). x.view.phase) e ∙ idle

-- what a pass has seen that met a note
pub both_seen : (v w : View) (seen : List Entry) → w ≡ record v { seen = gains v.seen seen; met = [] }
    → (e : Entry) → IsIn e w.seen ↔ (IsIn e v.seen ⊎ IsIn e seen)
both_seen v w seen is e = subst (λ (u : View). IsIn e u.seen ↔ (IsIn e v.seen ⊎ IsIn e seen)) (sym is)
    (λ t. gains_cases v.seen seen e t, λ t. ⊎_elim (gains_first v.seen seen e) (gains_second v.seen seen e) t)
