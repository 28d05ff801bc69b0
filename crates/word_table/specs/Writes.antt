-- Which words the steps of a call write: those of its seat, those of the locks that it asked for, and the clock.
use Rattle.std.specs.Prelude.{◌≡◌, ◌≢◌, ◌⊎◌, ℕ, ◌<◌, true, List, []}
use Rattle.history_model.specs.declared.TheConstants.{LOCKS}
use Rattle.history_model.specs.declared.view.View.{View}
use Rattle.history_model.specs.Locks.{lock_of_word}
use Rattle.history_model.specs.Table.{TableState, clock_word, calls_word, commits_word, stamps_word, row_word, writer_word, version_word, value_word}
use Rattle.history_model.specs.Views.{number}
use Rattle.locks_rule.specs.Locks.{AskedFor}
use Rattle.word_table.specs.declared.step.Step.{Step}
use Rattle.word_table.specs.Kinds.{action_of, is_load}
use Rattle.word_table.specs.Meetings.{AsksApart, IsReached, MayReach}

-- a word of seat j alone: how many calls it began, its last entry, its timestamp, or one of its row
abbrev pub IsOwnWord : ℕ → ℕ → ℕ → Type 0
IsOwnWord n j a =
    (a ≡ calls_word n j) ⊎ ((a ≡ commits_word n j) ⊎ ((a ≡ stamps_word n j) ⊎ ((k : ℕ) × (k < LOCKS) × (a ≡ row_word n j k))))

-- a word of lock k: who claims it, its version, or a value under it
abbrev pub IsWordOfLock : ℕ → ℕ → ℕ → Type 0
IsWordOfLock n k a =
    (a ≡ writer_word n k) ⊎ ((a ≡ version_word n k) ⊎ ((x : ℕ) × (lock_of_word x ≡ k) × (a ≡ value_word n x)))

-- a word of a lock that the call asked for
abbrev pub IsAskedWord : ℕ → View → ℕ → Type 0
IsAskedWord n v a = (k : ℕ) × (k < LOCKS) × AskedFor v k × IsWordOfLock n k a

-- the word that all calls share: the clock, once the call has met another
abbrev pub IsSharedWord : View → ℕ → Type 0
IsSharedWord v a = (a ≡ clock_word) × (v.met ≢ [])

-- a word that a call may write, whose seat knew old before the step and knows new after it
abbrev pub MayWrite : ℕ → View → View → ℕ → Type 0
MayWrite n old new a = IsOwnWord n (number old) a ⊎ (IsAskedWord n new a ⊎ IsSharedWord old a)

-- the step is a load, which leaves what it finds
abbrev pub Loads : Step → View → Type 0
Loads step old = (is_load step ≡ true) × ((found : ℕ) → (action_of step old).writes found ≡ found)

-- each step that is no load is on such a word, whatever it writes there
abbrev pub WritesOwnAndAsked : (List ℕ → Type 0) → ℕ → List ℕ → Type 0
WritesOwnAndAsked good n base =
    (state : TableState) (place : ℕ) (step : Step) (old new : View)
    → IsReached good n base state → MayReach good state place step old new
    → Loads step old ⊎ MayWrite n old new (action_of step old).at

-- calls of two seats that asked for no common lock have no such word in common but the clock
abbrev pub HaveNoCommonWord : Type 0
HaveNoCommonWord =
    (n i j a : ℕ) (v u : View) → i < n → j < n → i ≢ j → AsksApart v u
    → IsOwnWord n i a ⊎ IsAskedWord n v a → IsOwnWord n j a ⊎ IsAskedWord n u a → ⊥
