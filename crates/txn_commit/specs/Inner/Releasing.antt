-- What undoing writes and giving up locks leave of what a pass knows.
use Rattle.std.specs.Prelude.{◌≡◌, ◌⊎◌, Bool, true, false, []}
use Rattle.history_model.specs.declared.view.View.{View}
use Rattle.locks_rule.specs.Steps.{released_phase}
use Rattle.values_rule.specs.Steps.{undoing_phase}

-- some locks were given up, and those that were owed got their next versions before
pub record Releases (old new : View) : Type 0 where
  pub rest : new ≡ record old {
    phase = new.phase;
    bits = new.bits;
    reads = new.reads;
    claims = new.claims;
    scans = new.scans;
    owed = new.owed;
  }
  pub phase : (new.phase ≡ old.phase) ⊎ (new.phase ≡ released_phase old.phase)

-- some writes were undone
pub record UndoesSome (old new : View) : Type 0 where
  pub rest : new ≡ record old { phase = new.phase; undo = new.undo }
  pub phase : (new.phase ≡ old.phase) ⊎ (new.phase ≡ undoing_phase old.phase)

-- all writes were undone
pub record Undoes (old new : View) : Type 0 where
  pub some : UndoesSome old new
  pub none_left : new.undo ≡ []

-- all writes were undone, unless they are kept
pub record UndoesUnless (kept : Bool) (old new : View) : Type 0 where
  pub stays : kept ≡ true → new ≡ old
  pub undone : kept ≡ false → Undoes old new
