-- What was run over a table, in the order that is rebuilt from what it used.
use Rattle.std.specs.Prelude.{◌≡◌, ◌≢◌, ◌↔◌, ◌<◌, ◌≤◌, ◌+◌, ℕ, AllPairs, Bool, true, false, List, map, length, take, Some, slice_get}
use Rattle.std.specs.List.{range_with_len}
use Rattle.history_model.specs.declared.entry.Entry.{Entry}
use Rattle.history_model.specs.declared.placed.Spot.{Spot}
use Rattle.history_model.specs.Histories.{replay}
use Rattle.history_model.specs.Legal.{IsIn}
use Rattle.history_model.specs.Traces.{IsLegalTrace, after}
use Rattle.order_rebuild.specs.Order.{IsOrder, Orderable}
use Rattle.word_table.specs.Closing.{ClosedView}
use Rattle.txn_commit.specs.declared.lists.Done.{Done}
use Rattle.txn_commit.specs.Lists.{IsEntryOf}

-- the second list is what stands at the places in the first
pub record AreAt {X : Type 0} (xs : List X) (places : List ℕ) (ys : List X) : Type 0 where
  pub count : length ys ≡ length places
  pub each : (i p : ℕ) → slice_get places i ≡ Some p → slice_get ys i ≡ slice_get xs p

-- the items stand in the order that is rebuilt from what they used: they can be put in order, and theirs is that order
pub record IsRebuilt {X : Type 0} (spot : X → Spot) (done : List X) : Type 0 where
  pub orderable : Orderable (map spot done)
  pub order : IsOrder (map spot done) (range_with_len 0 (length done))

-- what the order of jobs is made by: a job's caller, its place among the caller's jobs, and what it used
abbrev pub spot_of : {A : Type 0} → Done A → Spot
spot_of ran = record { caller = ran.caller; index = ran.index; uses = ran.uses.items }

-- the jobs stand in the order that is rebuilt from what they used, each beside its entry, and the closed records are these
-- entries: down them each finds good words, on which its trace is legal and its job's meaning holds, and the closed words
-- are those that the last leaves
pub record IsRunInOrder {A S : Type 0} (good : List ℕ → Type 0) (means : ℕ → ℕ → List ℕ → Bool → A → List ℕ → Type 0)
    (closed : ClosedView S) (done : List (Done A)) : Type 0 where
  pub rebuilt : IsRebuilt spot_of done
  pub entries : List Entry
  pub as_many : length done ≡ length entries
  pub of_items : (k : ℕ) (ran : Done A) (e : Entry) → slice_get done k ≡ Some ran → slice_get entries k ≡ Some e → IsEntryOf ran e
  pub of_records : (e : Entry) → IsIn e entries ↔ IsIn e closed.records
  pub good_words : (k : ℕ) → k ≤ length entries → good (replay closed.base (take k entries))
  pub legal : (k : ℕ) (e : Entry) → slice_get entries k ≡ Some e → IsLegalTrace e.trace (replay closed.base (take k entries))
  pub meaning : (k : ℕ) (ran : Done A) (e : Entry) → slice_get done k ≡ Some ran → slice_get entries k ≡ Some e
      → means ran.caller ran.index (replay closed.base (take k entries)) e.kept ran.reply
      (after e.trace (replay closed.base (take k entries)))
  pub words : closed.words ≡ replay closed.base entries

-- a job that means this found the first words and answered this, and the second words are those behind it
pub record HasRunOn {A : Type 0} (means : List ℕ → Bool → A → List ℕ → Type 0) (found : List ℕ) (answer : A) (next : List ℕ) : Type 0 where
  -- whether its writes were kept
  pub kept : Bool
  -- what it left of the words
  pub left : List ℕ
  -- as it means
  pub meaning : means found kept answer left
  -- what was kept is there
  pub keeps : kept ≡ true → next ≡ left
  -- and if nothing was, the words are as they were
  pub reverts : kept ≡ false → next ≡ found

-- the jobs ran one after another down this list, each on the words that those before it left
pub record IsSerial {A : Type 0} (good : List ℕ → Type 0) (means : ℕ → ℕ → List ℕ → Bool → A → List ℕ → Type 0)
    (opening closing : List ℕ) (done : List (Done A)) : Type 0 where
  -- the words before job k, and behind the last job if k is the number of jobs
  pub before : ℕ → List ℕ
  -- the first finds the words that were handed in
  pub first : before 0 ≡ opening
  -- the last leaves the closed words
  pub last : before (length done) ≡ closing
  -- all of these words are good
  pub good_words : (k : ℕ) → k ≤ length done → good (before k)
  -- and job k leads from the words before it to those before the next, as it means
  pub each : (k : ℕ) (ran : Done A) → slice_get done k ≡ Some ran
      → HasRunOn (means ran.caller ran.index) (before k) ran.reply (before (k + 1))

-- each item beside the entry of its call, and the closed records are these entries: on all good words on which its trace is
-- legal the meaning of the item's job holds. Of one caller they are later and later jobs, by later and later calls of one
-- seat, and no two are of one call
pub record AreRecorded {A S : Type 0} (good : List ℕ → Type 0) (means : ℕ → ℕ → List ℕ → Bool → A → List ℕ → Type 0)
    (closed : ClosedView S) (done : List (Done A)) : Type 0 where
  pub entries : List Entry
  pub as_many : length done ≡ length entries
  pub of_items : (k : ℕ) (ran : Done A) (e : Entry) → slice_get done k ≡ Some ran → slice_get entries k ≡ Some e → IsEntryOf ran e
  pub meaning : (k : ℕ) (ran : Done A) (e : Entry) → slice_get done k ≡ Some ran → slice_get entries k ≡ Some e
      → (s : List ℕ) → good s → IsLegalTrace e.trace s → means ran.caller ran.index s e.kept ran.reply (after e.trace s)
  pub of_records : (e : Entry) → IsIn e entries ↔ IsIn e closed.records
  pub in_order : AllPairs (λ x y. x.caller ≡ y.caller → (x.index < y.index) × ((x.seat ≡ y.seat) × (x.call < y.call))) done
  pub apart : AllPairs (λ x y. x.seat ≡ y.seat → x.call ≢ y.call) done
