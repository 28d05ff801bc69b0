-- The kinds of step on calls, values and entries: when a seat may take one, and what it does. In-place writes with an
-- undo log are those of 2PLSF (Ramalhete, Correia, Felber, PPoPP 2023); the versions of locks, in place of a word
-- that orders commits, are our own. The seat has the number j, and a is a word of the memory; the steps on versions are those of the
-- locks.
use Rattle.std.specs.Prelude.{◌≡◌, ◌⊎◌, ℕ, ◌+◌, ◌-◌, ◌^◌, ◌<◌, Bool, true, false, List, [], ◌∷◌, ◌++◌, length, take, None, unwrap_or, if◌then◌else◌}
use Rattle.history_model.specs.declared.entry.Abandoned.{Abandoned}
use Rattle.history_model.specs.declared.entry.Entry.{Entry}
use Rattle.history_model.specs.declared.event.Cause.{Cause}
use Rattle.history_model.specs.declared.view.View.{View}
use Rattle.history_model.specs.declared.view.Phase.{Phase}
use Rattle.history_model.specs.declared.view.Phase.TheVariants.{Idle, Running, Yielding, Withdrawing, Releasing}
use Rattle.history_model.specs.declared.event.Event.TheVariants.{Read, Write}
use Rattle.history_model.specs.Counts.{is_attempt, is_open}
use Rattle.history_model.specs.Legal.{IsIn}
use Rattle.history_model.specs.Locks.{lock_of_word}
use Rattle.history_model.specs.Table.{calls_word, stamps_word, value_word, commits_word}
use Rattle.history_model.specs.Traces.{Trace, after, IsLegalTrace, value_after}
use Rattle.history_model.specs.Undoing.{Notes}
use Rattle.history_model.specs.Views.{number, HasBit, HasClaim, HasWriteGrant, IsGranted}
use Rattle.locks_rule.specs.Actions.{Action}
use Rattle.locks_rule.specs.Versions.{locks_of, uses_of}
use Rattle.values_rule.specs.History.{knew_of}

-- a call is begun: its number is stored to the own CALLS word, and what its pass has seen is its floor
pub record MayBeginCall (j : ℕ) (v : View) : Type 0 where
  pub who : v.who ≡ j ∷ []
  pub phase : v.phase ≡ Idle
  pub room : v.call + 1 < 2 ^ 32

abbrev pub begin_call_action : ℕ → View → Action
begin_call_action j v = record {
  at = calls_word v.seats j;
  writes = λ w. v.call + 1;
  view = λ w. record v {
    phase = Running;
    call = v.call + 1;
    floor = length v.seen;
    asked = [];
    met = [];
    trace = [];
    undo = [];
    uses = [];
    owed = [];
    meetings = [];
    waits = 0;
    abandoned = [];
  };
}

-- the value of the word a is loaded, under a lock whose version was found
pub record MayLoadValue (j a : ℕ) (v : View) : Type 0 where
  pub who : v.who ≡ j ∷ []
  pub phase : v.phase ≡ Running
  pub word : a < length v.base
  pub granted : IsGranted v (lock_of_word a)
  pub used : (x : ℕ) × IsIn (lock_of_word a, x) v.uses

abbrev pub load_value_action : ℕ → ℕ → View → Action
load_value_action j a v = record {
  at = value_word v.seats a;
  writes = λ w. w;
  view = λ w. record v { trace = v.trace ++ Read a w ∷ [] };
}

-- x is stored to the word a, under the exclusive lock, if the attempt has just read it
pub record MayStoreValue (j a : ℕ) (v : View) : Type 0 where
  pub who : v.who ≡ j ∷ []
  pub phase : v.phase ≡ Running
  pub word : a < length v.base
  pub granted : HasWriteGrant v (lock_of_word a)
  pub read : (before : Trace) × (old : ℕ) × (v.trace ≡ before ++ Read a old ∷ [])

-- the value that the attempt knows of a word: that of its last event there
abbrev pub known_value : View → ℕ → ℕ
known_value v a = unwrap_or (value_after v.trace a None) 0

abbrev pub store_value_action : ℕ → ℕ → ℕ → View → Action
store_value_action j a x v = record {
  at = value_word v.seats a;
  writes = λ w. x;
  view = λ w. record v { trace = v.trace ++ Write a x ∷ []; undo = v.undo ++ (a, known_value v a) ∷ [] };
}

-- the phase once a write was undone: an attempt that gives way goes on with that
abbrev pub undoing_phase : Phase → Phase
undoing_phase Idle = Idle
undoing_phase Running = Withdrawing
undoing_phase Yielding = Yielding
undoing_phase Withdrawing = Withdrawing
undoing_phase Releasing = Releasing

-- the newest note of the undo log is written back: the word a gets its old value
pub record MayUndoStore (j a old : ℕ) (v : View) : Type 0 where
  pub who : v.who ≡ j ∷ []
  pub phase : is_open v.phase ≡ true
  pub newest : (older : Notes) × (v.undo ≡ older ++ (a, old) ∷ [])

abbrev pub undo_store_action : ℕ → ℕ → ℕ → View → Action
undo_store_action j a old v = record {
  at = value_word v.seats a;
  writes = λ w. old;
  view = λ w. record v { phase = undoing_phase v.phase; undo = take (length v.undo - 1) v.undo };
}

-- the call gets its entry: its number is stored to the own COMMITS word. A call whose writes are kept leaves good words,
-- whatever good words its trace is legal on; one whose writes are not kept has undone them
pub record MayCommitCall (good : List ℕ → Type 0) (j : ℕ) (kept : Bool) (v : View) : Type 0 where
  pub who : v.who ≡ j ∷ []
  pub phase : is_attempt v.phase ≡ true
  pub runs : kept ≡ true → v.phase ≡ Running
  pub leaves_good : kept ≡ true → (words : List ℕ) → good words → IsLegalTrace v.trace words
      → good (after v.trace words)
  pub undone : kept ≡ false → v.undo ≡ []

-- the entry of the view's call, with the versions that it used and what its pass knew as the call began
abbrev pub entry_of : Bool → View → Entry
entry_of kept v = record {
  who = number v;
  call = v.call;
  stamp = v.stamp;
  floor = v.floor;
  kept = kept;
  trace = v.trace;
  abandoned = v.abandoned;
  uses = uses_of kept v.trace v.uses;
  knew = knew_of v.seats v.seen;
}

-- what the view then knows: it has seen its entry, and owes the locks that it wrote their next versions
abbrev pub after_commit : Bool → View → View
after_commit kept v = record v {
  seen = v.seen ++ entry_of kept v ∷ [];
  owed = if kept then locks_of v.undo else [];
  undo = [];
  phase = Releasing;
}

abbrev pub commit_call_action : ℕ → Bool → View → Action
commit_call_action j kept v = record {
  at = commits_word v.seats j;
  writes = λ w. v.call;
  view = λ w. after_commit kept v;
}

-- the attempt of a view that gives way to a cause
abbrev pub attempt_of : Cause → View → Abandoned
attempt_of cause v = record {
  cause = cause;
  front = length v.seen;
  trace = v.trace;
  uses = uses_of false v.trace v.uses;
}

-- the attempt of a running call gives way to the cause; `met` are the seats that it has still to judge
abbrev pub after_giving_way : Cause → List ℕ → View → View
after_giving_way cause met v = record v {
  met = met;
  phase = Yielding;
  abandoned = v.abandoned ++ attempt_of cause v ∷ [];
}

-- the call ends: 0 is stored to the own STAMPS word
pub record MayClearStamp (j : ℕ) (v : View) : Type 0 where
  pub who : v.who ≡ j ∷ []
  pub phase : (is_attempt v.phase ≡ true) ⊎ (v.phase ≡ Releasing)
  pub no_bit : (k : ℕ) → ¬ HasBit v k
  pub no_claim : (k : ℕ) → ¬ HasClaim v k
  pub undone : v.undo ≡ []

abbrev pub clear_stamp_action : ℕ → View → Action
clear_stamp_action j v = record {
  at = stamps_word v.seats j;
  writes = λ w. 0;
  view = λ w. record v { phase = Idle; stamp = 0; announced = false };
}
