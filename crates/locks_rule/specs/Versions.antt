-- Versions of locks: what an attempt used of a lock, what a call owes it, and the steps on versions. The seat has the
-- number j, and k is a lock.
use Rattle.std.specs.Prelude.{◌≡◌, ℕ, ◌+◌, Bool, true, false, ◌||◌, ◌&&◌, ◌==◌, List, [], ◌∷◌, ◌++◌, map}
use Rattle.history_model.specs.declared.event.Event.TheVariants.{Read, Write}
use Rattle.history_model.specs.declared.item.LockUse.{LockUse}
use Rattle.history_model.specs.declared.view.View.{View}
use Rattle.history_model.specs.declared.view.Phase.TheVariants.{Running, Releasing}
use Rattle.history_model.specs.Legal.{IsIn}
use Rattle.history_model.specs.Locks.{lock_of_word}
use Rattle.history_model.specs.Sets.{has, without}
use Rattle.history_model.specs.Table.{version_word}
use Rattle.history_model.specs.Traces.{Trace}
use Rattle.history_model.specs.Undoing.{Notes}
use Rattle.history_model.specs.Views.{IsGranted}
use Rattle.locks_rule.specs.Actions.{Action}
use Rattle.locks_rule.specs.Steps.{MayReleaseWriter}

-- whether the trace writes a word of lock k
unfoldable pub writes_lock : ℕ → Trace → Bool
writes_lock k [] = false
writes_lock k (Read a v ∷ trace) = writes_lock k trace
writes_lock k (Write a v ∷ trace) = lock_of_word a == k || writes_lock k trace

-- the use of a lock by an attempt that found it at a version: it wrote there if its writes are kept and it has one
abbrev pub use_of : Bool → Trace → ℕ × ℕ → LockUse
use_of kept trace found = record { lock = found.0; version = found.1; wrote = kept && writes_lock found.0 trace }

-- the uses of an attempt, of all locks whose versions it found
abbrev pub uses_of : Bool → Trace → List (ℕ × ℕ) → List LockUse
uses_of kept trace found = map (use_of kept trace) found

-- the locks of the words that are noted, which are those that were written
abbrev pub locks_of : Notes → List ℕ
locks_of notes = map (λ note. lock_of_word note.0) notes

-- the version of lock k is loaded, while the lock is held, once in an attempt
pub record MayLoadVersion (j k : ℕ) (v : View) : Type 0 where
  pub who : v.who ≡ j ∷ []
  pub phase : v.phase ≡ Running
  pub granted : IsGranted v k
  pub unused : (x : ℕ) → IsIn (k, x) v.uses → ⊥

abbrev pub load_version_action : ℕ → ℕ → View → Action
load_version_action j k v = record {
  at = version_word v.seats k;
  writes = λ w. w;
  view = λ w. record v { uses = v.uses ++ (k, w) ∷ [] };
}

-- 1 more than the version x that the call found of lock k is stored, while its kept write of the lock is owed
pub record MayStoreVersion (j k x : ℕ) (v : View) : Type 0 where
  pub who : v.who ≡ j ∷ []
  pub phase : v.phase ≡ Releasing
  pub owed : has k v.owed ≡ true
  pub found : IsIn (k, x) v.uses

abbrev pub store_version_action : ℕ → ℕ → ℕ → View → Action
store_version_action j k x v = record {
  at = version_word v.seats k;
  writes = λ w. x + 1;
  view = λ w. record v { owed = without k v.owed };
}

-- the claim of lock k is given up, if no version of it is owed
pub record MayReleaseUnowed (j k : ℕ) (v : View) : Type 0 where
  pub releases : MayReleaseWriter j k v
  pub unowed : has k v.owed ≡ false
