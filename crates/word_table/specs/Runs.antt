-- Runs of a table: lists of states, each of which the state before leads to.
use Rattle.std.specs.Prelude.{◌≡◌, ◌≢◌, ◌⊎◌, ℕ, suc, List, [], ◌∷◌, ◌++◌, Some, slice_get, slice_set}
use Rattle.history_model.specs.declared.view.View.{View}
use Rattle.history_model.specs.Table.{TableState, Knows}
use Rattle.locks_rule.specs.Actions.{words_after, views_after}
use Rattle.locks_rule.specs.Joins.{MayTakeNote, left_by_note, note_of, MayMeetNote, MayJoinSeats, views_joined}
use Rattle.locks_rule.specs.Joins.{after_note, after_joining}
use Rattle.locks_rule.specs.Splits.{opening_view, left_by_split, given_by_split, MaySplitSeat}
use Rattle.word_table.specs.declared.step.Step.{Step}
use Rattle.word_table.specs.Kinds.{action_of, May}
use Rattle.word_table.specs.Sound.{opening_words, numbers}

-- some seat takes a step that it may take
pub record TakesStep (good : List ℕ → Type 0) (before after : TableState) : Type 0 where
  pub step : Step
  pub place : ℕ
  pub view : View
  pub knows : Knows before.views place view
  pub may : May good step view
  pub words_are : after.words ≡ words_after (action_of step view) before.words
  pub views_are : after.views ≡ views_after (action_of step view) place before.words before.views

-- a view that may be cut gives up a number to a new seat
pub record CutsSeat (before after : TableState) : Type 0 where
  pub number : ℕ
  pub place : ℕ
  pub view : View
  pub knows : Knows before.views place view
  pub may : MaySplitSeat number view
  pub words_are : after.words ≡ before.words
  pub views_are : after.views ≡ slice_set before.views place (left_by_split view) ++ given_by_split view ∷ []

-- a view gives off a note of what it has seen
pub record TakesNote (before after : TableState) : Type 0 where
  pub place : ℕ
  pub view : View
  pub knows : Knows before.views place view
  pub may : MayTakeNote view
  pub words_are : after.words ≡ before.words
  pub views_are : after.views ≡ slice_set before.views place (left_by_note view) ++ note_of view ∷ []

-- a view takes in another, if the two may be joined
pub record Joins (may : View → View → Type 0) (both : View → View → View) (before after : TableState) : Type 0 where
  pub place : ℕ
  pub view : View
  pub knows : Knows before.views place view
  pub other : ℕ
  pub other_view : View
  pub apart : other ≢ place
  pub other_knows : Knows before.views other other_view
  pub may_join : may view other_view
  pub words_are : after.words ≡ before.words
  pub views_are : after.views ≡ views_joined place other (both view other_view) before.views

-- a view takes in a note
abbrev pub MeetsNote : TableState → TableState → Type 0
MeetsNote = Joins MayMeetNote after_note

-- a view takes in another with its numbers
abbrev pub JoinsSeats : TableState → TableState → Type 0
JoinsSeats = Joins MayJoinSeats after_joining

-- one state leads to the next
abbrev pub Steps : (List ℕ → Type 0) → TableState → TableState → Type 0
Steps good before after =
    TakesStep good before after ⊎ (CutsSeat before after ⊎ (TakesNote before after ⊎ (MeetsNote before after ⊎ JoinsSeats before after)))

-- the table as it begins, for n seats: no lock is held, and one view has all numbers
pub record IsOpening (n : ℕ) (base : List ℕ) (state : TableState) : Type 0 where
  pub words_are : state.words ≡ opening_words n base
  pub views_are : state.views ≡ opening_view base n (numbers 0 n) [] ∷ []

-- a list of states that begins with the opening and goes on step by step, in any order of seats
pub record IsRun (good : List ℕ → Type 0) (n : ℕ) (base : List ℕ) (run : List TableState) : Type 0 where
  pub first : (state : TableState) → slice_get run 0 ≡ Some state → IsOpening n base state
  pub next : (p : ℕ) (before after : TableState) → slice_get run p ≡ Some before → slice_get run (suc p) ≡ Some after → Steps good before after
