-- An attempt is settled: its writes are kept or undone, what it used is listed, and it gets its entry, or is given up.
use Rattle.txn_commit.proofs.Common.{◌≡◌, ℕ, Bool, true, false, ◌⊎◌, inl, inr, ⊎_elim, List, [], refl, ap, ◌∙◌, subst, Entry, LockUse, View, Phase, Idle}
use Rattle.txn_commit.proofs.Common.{Running, Yielding, Withdrawing, Releasing, IsIn, has, Notes, notes_of, has-nil, uses_of, locks_of, Knew, entry_of}
use Rattle.txn_commit.proofs.Common.{ListsUses, AreUsesOf, UndoesSome, Undoes}
use Rattle.word_table.proofs.Common.{undoing_phase}
use Rattle.txn_commit.specs.Inner.Releasing.{UndoesUnless}
use Rattle.txn_commit.proofs.Listing.{entry_listed, notes_written}

-- what was listed between is what the entry has
pub lists_since : (kept : Bool) (old mid : View) (listed : List LockUse) → UndoesUnless kept old mid → AreUsesOf mid listed
    → (s : List ℕ) → old.undo ≡ notes_of old.trace s → ListsUses (uses_of kept old.trace old.uses) listed
lists_since true old mid listed u are s noted = let is = u.stays refl in
    entry_listed true old mid listed are (ap (λ (v : View). v.uses) is)
    (λ k. ap (λ (v : View). has k (locks_of v.undo)) is ∙ (ap (λ (l : Notes). has k (locks_of l)) noted ∙ notes_written k old.trace s))
lists_since false old mid listed u are s noted = let done = u.undone refl in
    entry_listed false old mid listed are (ap (λ (v : View). v.uses) done.some.rest)
    (λ k. ap (λ (l : Notes). has k (locks_of l)) done.none_left ∙ has-nil k)

-- what the entry knew, since the attempt had seen the same
pub knew_since : (kept : Bool) (old mid : View) → UndoesUnless kept old mid → ((x : Entry) → IsIn x mid.seen → Knew (entry_of kept mid) x)
    → (x : Entry) → IsIn x old.seen → Knew (entry_of kept old) x
knew_since true old mid u knew = subst (λ (v : View). (x : Entry) → IsIn x v.seen → Knew (entry_of true v) x) (u.stays refl) knew
knew_since false old mid u knew =
    subst (λ (v : View). (x : Entry) → IsIn x v.seen → Knew (entry_of false v) x) (u.undone refl).some.rest knew

-- a running attempt whose writes are kept or undone still is an attempt
undoing_twice : (p : Phase) → undoing_phase (undoing_phase p) ≡ undoing_phase p
undoing_twice Idle = refl
undoing_twice Running = refl
undoing_twice Yielding = refl
undoing_twice Withdrawing = refl
undoing_twice Releasing = refl

undoes_more : (old mid new : View) → UndoesSome old mid → Undoes mid new → Undoes old new
undoes_more old mid new f s = record {
  some = record {
    rest = s.some.rest ∙ ap (λ (v : View). record v { phase = new.phase; undo = new.undo }) f.rest;
    phase = ⊎_elim (λ e. ⊎_elim (λ d. inl (e ∙ d)) (λ d. inr (e ∙ d)) f.phase)
        (λ e. ⊎_elim (λ d. inr (e ∙ ap undoing_phase d)) (λ d. inr (e ∙ (ap undoing_phase d ∙ undoing_twice old.phase))) f.phase) s.some.phase;
  };
  none_left = s.none_left;
}

-- it is given up
pub given_up : (kept : Bool) (old mid new : View) → UndoesUnless kept old mid → Undoes mid new → Undoes old new
given_up true old mid new u s = subst (λ (v : View). Undoes v new) (u.stays refl) s
given_up false old mid new u s = undoes_more old mid new (u.undone refl).some s

-- the phase between
pub between : (kept : Bool) (old mid : View) → UndoesUnless kept old mid → old.phase ≡ Running
    → (mid.phase ≡ Running) ⊎ ((mid.phase ≡ Withdrawing) × (mid.undo ≡ []))
between true old mid u runs = inl (ap (λ (v : View). v.phase) (u.stays refl) ∙ runs)
between false old mid u runs = let done = u.undone refl in
    ⊎_elim (λ e. inl (e ∙ runs)) (λ e. inr (e ∙ ap undoing_phase runs, done.none_left)) done.some.phase
