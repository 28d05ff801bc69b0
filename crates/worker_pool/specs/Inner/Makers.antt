-- What one worker did.
use Rattle.std.specs.Prelude.{◌≡◌, ℕ, ◌+◌, ◌<◌, ◌≤◌, ◌&&◌, ◌==◌, nat_lt, if◌then◌else◌, List, [], ◌∷◌, length, All, AllPairs, count_by, Some}
use Rattle.std.specs.Prelude.{slice_get}
use Rattle.script_reader.specs.Gathered.{script_at}
use Rattle.history_model.specs.declared.entry.Entry.{Entry}
use Rattle.history_model.specs.declared.view.Phase.TheVariants.{Idle}
use Rattle.history_model.specs.Fitting.{IsGood}
use Rattle.history_model.specs.Traces.{IsLegalTrace, after}
use Rattle.word_table.specs.Copies.{PassView}
use Rattle.word_table.specs.Desks.{DeskView}
use Rattle.script_reader.specs.Input.{ClearingInput}
use Rattle.script_reader.specs.Journal.{Place, IsPlace}
use Rattle.txn_books.specs.declared.shape.BooksShape.{BooksShape}
use Rattle.txn_books.specs.Layout.{words_of}
use Rattle.txn_books.specs.Meaning.{ScriptMeans}
use Rattle.txn_books.specs.Standing.{IsGoodFor}
use Rattle.worker_pool.specs.Days.{Done}
use Rattle.worker_pool.specs.Days.{place_of_item, places_of_items}
use Rattle.txn_commit.specs.Lists.{IsEntryOf}

-- an entry is that of an item's call, and of all good words on which its trace is legal the meaning of the item's script
-- holds
pub record IsScriptEntry (shape : BooksShape) (input : ClearingInput) (entry : Entry) (item : Done) : Type 0 where
  pub is_of : IsEntryOf item entry
  pub meaning : (s : List ℕ) → IsGood (words_of shape) (IsGoodFor shape) s → IsLegalTrace entry.trace s
      → ScriptMeans shape (script_at input.callers item.caller item.index) s entry.kept item.reply (after entry.trace s)

-- each item was made by the entry beside it
pub record AreMadeBy (shape : BooksShape) (input : ClearingInput) (entries : List Entry) (done : List Done) : Type 0 where
  pub as_many : length done ≡ length entries
  pub each : (k : ℕ) (item : Done) (entry : Entry) → slice_get done k ≡ Some item → slice_get entries k ≡ Some entry
      → IsScriptEntry shape input entry item

-- a pass of the desk made these items, a call each, and has seen their entries
pub record HasMade (desk : DeskView BooksShape) (input : ClearingInput) (who : ℕ) (pass : PassView) (done : List Done) : Type 0 where
  pub of_table : pass.table ≡ desk.table
  pub idle : pass.view.phase ≡ Idle
  pub number_is : pass.view.who ≡ who ∷ []
  pub calls : pass.view.call ≡ length done
  pub seats : All (λ item. item.seat ≡ who) done
  pub numbers : (k : ℕ) (item : Done) → slice_get done k ≡ Some item → item.call ≡ k + 1
  pub made : AreMadeBy desk.shape input pass.view.seen done
  pub below : All (λ item. item.restarts < desk.seats) done

-- of caller x the items are all scripts, h x times, and for caller c the first i scripts beside, in their order
pub record RanScripts (input : ClearingInput) (h : ℕ → ℕ) (c i : ℕ) (done : List Done) : Type 0 where
  pub only : All (λ item. IsPlace input (place_of_item item)) done
  pub each : (p : Place) → IsPlace input p → count_by (λ q. q.caller == p.caller && q.index == p.index) (places_of_items done)
      ≡ h p.caller + (if p.caller == c && nat_lt p.index i then 1 else 0)
  pub rising : AllPairs (λ x y. x.caller ≡ y.caller → x.index < y.index) done
  pub among : All (λ item. h item.caller ≡ 0 → (item.caller ≡ c) × (item.index < i)) done

-- if no caller was had twice, the items are all scripts of each that was had
abbrev pub RunsEach : ClearingInput → (ℕ → ℕ) → List Done → Type 0
RunsEach input h done = ((x : ℕ) → h x ≤ 1) → RanScripts input h 0 0 done
