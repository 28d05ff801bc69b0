-- What holds in every state of every run: of who meets whom, of each call, and of the clock. And a state that every table
-- comes to.
use Rattle.std.specs.Prelude.{◌≡◌, ◌≢◌, ℕ, ◌^◌, ◌<◌, ◌≤◌, true, List, [], ◌∷◌, length, Some, slice_get, slice_index, take}
use Rattle.history_model.specs.declared.entry.Entry.{Entry}
use Rattle.history_model.specs.declared.item.Item.{Item}
use Rattle.history_model.specs.declared.view.View.{View}
use Rattle.history_model.specs.declared.view.Phase.TheVariants.{Idle}
use Rattle.history_model.specs.declared.TheConstants.{LOCKS}
use Rattle.history_model.specs.Conflicts.{Meets, IsAt}
use Rattle.history_model.specs.Counts.{calls_sum}
use Rattle.history_model.specs.Arrangements.{IsArrangement}
use Rattle.history_model.specs.Items.{replay_items}
use Rattle.history_model.specs.Legal.{IsIn}
use Rattle.history_model.specs.Locks.{lock_of_word}
use Rattle.history_model.specs.Sets.{has}
use Rattle.history_model.specs.Table.{TableState, Knows, clock_word, version_word}
use Rattle.history_model.specs.Traces.{IsLegalTrace}
use Rattle.locks_rule.specs.Actions.{found_by, words_after}
use Rattle.locks_rule.specs.Locks.{AskedFor, IsSeat}
use Rattle.locks_rule.specs.Splits.{opening_view}
use Rattle.stamps_rule.specs.Stamps.{AreRestartsBounded, draws_of}
use Rattle.values_rule.specs.Closing.{IsPlaced}
use Rattle.values_rule.specs.History.{item_of_entry, items_of}
use Rattle.values_rule.specs.Records.{IsRecorded}
use Rattle.word_table.specs.declared.limits.TheConstants.{MOST_PASSES}
use Rattle.word_table.specs.declared.step.Step.{Step}
use Rattle.word_table.specs.declared.step.Step.TheVariants.{DrawStamp}
use Rattle.word_table.specs.Kinds.{action_of, May}
use Rattle.word_table.specs.Runs.{IsRun}
use Rattle.word_table.specs.Sound.{opening_words}

-- a state of some run of n seats that begins with the words base
pub record IsReached (good : List ℕ → Type 0) (n : ℕ) (base : List ℕ) (state : TableState) : Type 0 where
  pub base_good : good base
  pub run : List TableState
  pub runs : IsRun good n base run
  pub at : ℕ
  pub stands : slice_get run at ≡ Some state

-- what a seat that knows the view knows once it took the step in this state
abbrev pub view_after : Step → View → TableState → View
view_after step view state = (action_of step view).view (found_by (action_of step view) state.words)

-- in this state the seat at this place, which knows old, may take the step, and knows new then
pub record MayReach (good : List ℕ → Type 0) (state : TableState) (place : ℕ) (step : Step) (old new : View) : Type 0 where
  pub knows : Knows state.views place old
  pub may : May good step old
  pub reached : new ≡ view_after step old state

-- seat i stands on lock k, and is not the one at this place
pub record StandsElsewhere (views : List View) (place k i : ℕ) : Type 0 where
  pub other : ℕ
  pub view : View
  pub elsewhere : other ≢ place
  pub knows : Knows views other view
  pub stands : IsAt view k i

-- who meets a seat on a lock is in conflict with it: both asked for a word of this lock, and who is met stands on it
abbrev pub MeetsInConflict : (List ℕ → Type 0) → ℕ → List ℕ → Type 0
MeetsInConflict good n base =
    (state : TableState) (place : ℕ) (step : Step) (old new : View) (k i : ℕ)
    → IsReached good n base state → MayReach good state place step old new → Meets old new k i
    → AskedFor new k × StandsElsewhere state.views place k i

-- no word that the one call asked for has the lock of a word that the other asked for
abbrev pub AsksApart : View → View → Type 0
AsksApart v u = (a b : ℕ) → has a v.asked ≡ true → has b u.asked ≡ true → lock_of_word a ≢ lock_of_word b

-- calls whose words share no lock never meet
abbrev pub NeverMeetsApart : (List ℕ → Type 0) → ℕ → List ℕ → Type 0
NeverMeetsApart good n base =
    (state : TableState) (place : ℕ) (step : Step) (old new : View) (other : ℕ) (u : View) (k i : ℕ)
    → IsReached good n base state → MayReach good state place step old new → IsSeat state.views other u i → AsksApart new u
    → ¬ Meets old new k i

-- each call restarts less often than there are seats
abbrev pub RestartsFew : (List ℕ → Type 0) → ℕ → List ℕ → Type 0
RestartsFew good n base =
    (state : TableState) (place j : ℕ) (view : View)
    → IsReached good n base state → Knows state.views place view → view.who ≡ j ∷ [] → AreRestartsBounded n j view

-- a timestamp is drawn once in a call, and kept as long as it lasts: if a seat has one, it has the same in every later
-- state of the run in which it is in this call
abbrev pub StampsAreKept : (List ℕ → Type 0) → ℕ → List ℕ → Type 0
StampsAreKept good n base =
    (run : List TableState) (p q j : ℕ) (before after : TableState) (place later : ℕ) (v w : View)
    → good base → IsRun good n base run → slice_get run p ≡ Some before → slice_get run q ≡ Some after → p ≤ q
    → Knows before.views place v → Knows after.views later w → v.who ≡ j ∷ [] → w.who ≡ j ∷ []
    → 0 < v.stamp → w.call ≡ v.call → w.phase ≢ Idle → w.stamp ≡ v.stamp

-- the clock says how many timestamps were drawn
abbrev pub ClockCountsDraws : (List ℕ → Type 0) → ℕ → List ℕ → Type 0
ClockCountsDraws good n base =
    (state : TableState) → IsReached good n base state → slice_index state.words clock_word ≡ draws_of state.views

-- no step but one that draws a timestamp changes the clock
abbrev pub OnlyDrawsMoveClock : (List ℕ → Type 0) → ℕ → List ℕ → Type 0
OnlyDrawsMoveClock good n base =
    (state : TableState) (place : ℕ) (step : Step) (view : View)
    → IsReached good n base state → Knows state.views place view → May good step view → ((j : ℕ) → step ≢ DrawStamp j)
    → slice_index (words_after (action_of step view) state.words) clock_word ≡ slice_index state.words clock_word

-- the seats of a desk begin fewer than 2^37 calls together, so no timestamp and no version is as great
abbrev pub NumbersStayBelow : (List ℕ → Type 0) → ℕ → List ℕ → Type 0
NumbersStayBelow good n base =
    (state : TableState) → IsReached good n base state → n ≤ MOST_PASSES
    → (calls_sum n state.words < 2 ^ 37) × (slice_index state.words clock_word < 2 ^ 37)
    × ((k : ℕ) → k < LOCKS → slice_index state.words (version_word n k) < 2 ^ 37)

-- n seats that did nothing yet: a view for each number, and no other
pub record AreFreshSeats (n : ℕ) (base : List ℕ) (views : List View) : Type 0 where
  pub count : length views ≡ n
  pub each : (j : ℕ) → j < n → (place : ℕ) × Knows views place (opening_view base n (j ∷ []) [])

-- some run comes to a state in which the words are as they began and the seats are dealt
abbrev pub SeatsAreDealt : (List ℕ → Type 0) → ℕ → List ℕ → Type 0
SeatsAreDealt good n base =
    good base → 0 < n
    → (state : TableState) × IsReached good n base state × (state.words ≡ opening_words n base) × AreFreshSeats n base state.views

-- in every arrangement of all that was done each item stands at a legal place: an attempt that gave way, and an entry, if
-- its trace is legal, behind all that its pass had seen as the call began; an attempt before its call's entry
abbrev pub ReadsOneState : (List ℕ → Type 0) → ℕ → List ℕ → Type 0
ReadsOneState good n base =
    (state : TableState) (order : List Item) (p : ℕ) (x : Item)
    → IsReached good n base state → IsArrangement (items_of state.views) order → slice_get order p ≡ Some x
    → IsPlaced good n base order p x

-- there is such an arrangement
abbrev pub IsArranged : (List ℕ → Type 0) → ℕ → List ℕ → Type 0
IsArranged good n base = (state : TableState) → IsReached good n base state → (order : List Item) × IsArrangement (items_of state.views) order

-- an entry that was made stands in every later state of the run
abbrev pub EntriesStay : (List ℕ → Type 0) → ℕ → List ℕ → Type 0
EntriesStay good n base =
    (run : List TableState) (p q : ℕ) (before after : TableState) (e : Entry)
    → good base → IsRun good n base run → slice_get run p ≡ Some before → slice_get run q ≡ Some after → p ≤ q
    → IsRecorded before.views e → IsRecorded after.views e

-- an entry that was made stands at some place in each later arrangement: good words come of what stands before it, and its
-- trace is legal on them
abbrev pub EntriesStand : (List ℕ → Type 0) → ℕ → List ℕ → Type 0
EntriesStand good n base =
    (run : List TableState) (p q : ℕ) (before after : TableState) (e : Entry) (order : List Item)
    → good base → IsRun good n base run → slice_get run p ≡ Some before → slice_get run q ≡ Some after → p ≤ q
    → IsRecorded before.views e → IsArrangement (items_of after.views) order
    → (i : ℕ) × (slice_get order i ≡ Some (item_of_entry e)) × good (replay_items base (take i order))
    × IsLegalTrace e.trace (replay_items base (take i order))

-- what a pass has seen stands, in each later arrangement, before the entry of each call that it begins later
abbrev pub LaterStandBehind : (List ℕ → Type 0) → ℕ → List ℕ → Type 0
LaterStandBehind good n base =
    (run : List TableState) (p q : ℕ) (before after : TableState) (place j : ℕ) (v : View) (x e : Entry)
    (order : List Item) (a b : ℕ)
    → good base → IsRun good n base run → slice_get run p ≡ Some before → slice_get run q ≡ Some after → p ≤ q
    → Knows before.views place v → v.who ≡ j ∷ [] → IsIn x v.seen
    → IsRecorded after.views e → e.who ≡ j → v.call < e.call
    → IsArrangement (items_of after.views) order
    → slice_get order a ≡ Some (item_of_entry x) → slice_get order b ≡ Some (item_of_entry e) → a < b
