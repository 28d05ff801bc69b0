-- What one worker did with lists of jobs.
use Rattle.std.specs.Prelude.{◌≡◌, ℕ, ◌+◌, ◌<◌, ◌≤◌, ◌%◌, Bool, List, [], ◌∷◌, ◌++◌, length, map, All}
use Rattle.std.specs.List.{range_with_len}
use Rattle.history_model.specs.declared.entry.Entry.{Entry}
use Rattle.history_model.specs.declared.view.View.{View}
use Rattle.history_model.specs.Traces.{IsLegalTrace, after}
use Rattle.history_model.specs.Views.{number}
use Rattle.txn_commit.specs.declared.lists.Done.{Done}
use Rattle.txn_commit.specs.Lists.{indexes_of, IsEntryOf}

-- an item beside the entry of its call
pub record Made (A : Type 0) : Type 0 where
  pub ran : Done A
  pub entry : Entry

module _ {A : Type 0} where
  -- the items of one caller's list, the first n of its jobs, behind others
  pub record RanList (caller n : ℕ) (old new : List (Done A)) : Type 0 where
    pub more : List (Done A)
    pub behind : new ≡ old ++ more
    pub of_caller : All (λ ran. ran.caller ≡ caller) more
    pub indexes : map (λ ran. ran.index) more ≡ range_with_len 0 n

  -- of the first n callers those of this seat have their items there, and nobody else
  pub record RanFirst (jobs : ℕ → ℕ) (workers seat n : ℕ) (done : List (Done A)) : Type 0 where
    pub own : (c : ℕ) → c < n → c % workers ≡ seat → indexes_of c done ≡ range_with_len 0 (jobs c)
    pub only : All (λ ran. (ran.caller < n) × (ran.caller % workers ≡ seat)) done

  module _ (good : List ℕ → Type 0) (means : ℕ → ℕ → List ℕ → Bool → A → List ℕ → Type 0) where
    -- the entry is that of the item, and of all good words on which its trace is legal the meaning of the job holds
    pub record IsMadeBy (ran : Done A) (entry : Entry) : Type 0 where
      pub is_of : IsEntryOf ran entry
      pub meaning : (s : List ℕ) → good s → IsLegalTrace entry.trace s
          → means ran.caller ran.index s entry.kept ran.reply (after entry.trace s)

    -- a call of the pass made this item
    pub record RanOne (seats : ℕ) (old new : View) (ran : Done A) : Type 0 where
      pub entry : Entry
      pub seen : new.seen ≡ old.seen ++ entry ∷ []
      pub made : IsMadeBy ran entry
      pub seat_is : ran.seat ≡ number old
      pub call_is : ran.call ≡ old.call + 1
      pub called : new.call ≡ old.call + 1
      pub few : ran.restarts < seats

    -- an item of this seat with its entry
    pub record IsMade (seats seat : ℕ) (made : Made A) : Type 0 where
      pub by_entry : IsMadeBy made.ran made.entry
      pub seat_is : made.ran.seat ≡ seat
      pub few : made.ran.restarts < seats

    -- a pass made these items, a call each, and has seen their entries
    pub record HasRun (seats seat : ℕ) (view : View) (done : List (Done A)) : Type 0 where
      pub made : List (Made A)
      pub items_are : done ≡ map (λ (x : Made A). x.ran) made
      pub seen_are : view.seen ≡ map (λ (x : Made A). x.entry) made
      pub each : All (IsMade seats seat) made
      pub calls : view.call ≡ length done
      pub counted : map (λ (ran : Done A). ran.call) done ≡ range_with_len 1 (length done)
