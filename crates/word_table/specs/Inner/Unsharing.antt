-- Read bits as they are given up, by rising lock.
use Rattle.std.specs.Prelude.{◌≡◌, ◌≢◌, ◌⊎◌, ℕ, ◌+◌, List, [], length}
use Rattle.history_model.specs.declared.view.View.{View}
use Rattle.history_model.specs.declared.view.Phase.TheVariants.{Idle, Releasing}
use Rattle.word_table.specs.Copies.{PassView}
use Rattle.word_table.specs.Unsharing.{ClearsEach, rising}

-- some bits were cleared: if those that are left are cleared then, all were, one after another
pub record ClearsMore (sound : List ℕ → List View → Type 0) (old new : PassView) : Type 0 where
  pub steps : new.steps + length (rising new.view.bits) ≡ old.steps + length (rising old.view.bits)
  pub goes_on : (last : View) → ClearsEach sound (rising new.view.bits) new.view last → ClearsEach sound (rising old.view.bits) old.view last
  pub undone : (new.view.undo ≡ []) ⊎ (new.view.phase ≡ Releasing)
  pub begun : new.view.phase ≢ Idle
