-- Giving up all read bits.
use Rattle.std.specs.Prelude.{◌≡◌, ℕ, List, [], ◌∷◌}
use Rattle.std.specs.List.{filter, range_with_len}
use Rattle.history_model.specs.declared.TheConstants.{LOCKS}
use Rattle.history_model.specs.declared.view.View.{View}
use Rattle.history_model.specs.Sets.{has}
use Rattle.history_model.specs.Views.{number}
use Rattle.locks_rule.specs.Steps.{clear_read_bit_action}
use Rattle.word_table.specs.Kinds.{TakenIn}

-- the locks of a set, each once, by rising lock
unfoldable pub rising : List ℕ → List ℕ
rising locks = filter (λ k. has k locks) (range_with_len 0 LOCKS)

-- the read bits of these locks were cleared, one after another, each by a step of its own
unfoldable pub ClearsEach : (List ℕ → List View → Type 0) → List ℕ → View → View → Type 0
ClearsEach sound [] old new = new ≡ old
ClearsEach sound (k ∷ locks) old new =
    (found : ℕ) × (next : View)
    × (TakenIn sound (clear_read_bit_action (number old) k old) old found next × ClearsEach sound locks next new)
