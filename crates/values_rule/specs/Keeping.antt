-- What it means that a kind of step keeps the value invariant, and what a step must leave alone, or do, to keep it.
use Rattle.std.specs.Prelude.{◌≡◌, ◌≢◌, ℕ, ◌<◌, ◌≤◌, true, false, List, [], ◌∷◌, ◌++◌, slice_index, slice_set}
use Rattle.history_model.specs.declared.entry.Abandoned.{Abandoned}
use Rattle.history_model.specs.declared.event.Cause.{Cause}
use Rattle.history_model.specs.declared.view.View.{View}
use Rattle.history_model.specs.declared.view.Phase.TheVariants.{Idle, Running, Yielding, Releasing}
use Rattle.history_model.specs.Counts.{is_attempt, is_open}
use Rattle.history_model.specs.Legal.{IsIn}
use Rattle.history_model.specs.Sets.{has}
use Rattle.history_model.specs.Views.{HasWriteGrant, IsGranted}
use Rattle.history_model.specs.Table.{Knows, serial_word, calls_word, commits_word}
use Rattle.locks_rule.specs.Actions.{Action, words_after, views_after}
use Rattle.locks_rule.specs.Joins.{views_joined}
use Rattle.locks_rule.specs.Locks.{LocksHold}
use Rattle.values_rule.specs.Values.{table_value}
use Rattle.values_rule.specs.History.{version_at}
use Rattle.values_rule.specs.Versions.{ValuesHold}
use Rattle.values_rule.specs.Steps.{after_giving_way}

-- a step of a seat that may take it keeps the value invariant in every state in which the lock invariant holds too
abbrev pub KeepsValueRule : (List ℕ → Type 0) → (View → Type 0) → (View → Action) → Type 0
KeepsValueRule good may action =
    (n : ℕ) (base words : List ℕ) (views : List View) (id : ℕ) (v : View)
    → LocksHold n base words views → ValuesHold good n base words views → Knows views id v → may v
    → ValuesHold good n base (words_after (action v) words) (views_after (action v) id words views)

-- a join of two views that may be joined keeps it too
abbrev pub KeepsValueRuleJoin : (List ℕ → Type 0) → (View → View → Type 0) → (View → View → View) → Type 0
KeepsValueRuleJoin good may both =
    (n : ℕ) (base words : List ℕ) (views : List View) (id other : ℕ) (v w : View)
    → LocksHold n base words views → ValuesHold good n base words views
    → other ≢ id → Knows views id v → Knows views other w → may v w
    → ValuesHold good n base words (views_joined id other (both v w) views)

-- a cause to which a call may give way: another seat with an earlier timestamp, to which no attempt gave way before
pub record IsNewCause (n : ℕ) (v : View) (cause : Cause) : Type 0 where
  pub elsewhere : (cause.seat < n) × (has cause.seat v.who ≡ false)
  pub earlier : (0 < cause.stamp) × (cause.stamp < v.stamp)
  pub first_there : (x : Abandoned) → IsIn x v.abandoned → x.cause.seat ≢ cause.seat

-- a load with which an attempt gives way keeps it: no other word is read, and what was seen stays
abbrev pub GivingWayKeeps : (List ℕ → Type 0) → Type 0
GivingWayKeeps good =
    (n : ℕ) (base words : List ℕ) (views : List View) (id j : ℕ) (v : View) (cause : Cause) (met : List ℕ)
    → LocksHold n base words views → ValuesHold good n base words views → Knows views id v
    → v.who ≡ j ∷ [] → v.phase ≡ Running → IsNewCause n v cause
    → ValuesHold good n base words (slice_set views id (after_giving_way cause met v))

-- a call that has no entry is given up: nothing is left to undo, and its attempts go out of the items
pub record GivesUp (v w : View) : Type 0 where
  pub who : w.who ≡ v.who
  pub joined : w.joined ≡ v.joined
  pub seen : w.seen ≡ v.seen
  pub call : w.call ≡ v.call
  pub floor : w.floor ≡ v.floor
  pub abandoned : w.abandoned ≡ v.abandoned
  pub uses : w.uses ≡ v.uses
  pub owed : w.owed ≡ v.owed
  pub stamp : w.phase ≢ Idle → w.stamp ≡ v.stamp
  pub was_undone : v.undo ≡ []
  pub undone : w.undo ≡ []
  pub over : is_open w.phase ≡ false

-- the words that the rule of values reads stay
pub record SameValueWords (n : ℕ) (words after : List ℕ) : Type 0 where
  pub serial : slice_index after serial_word ≡ slice_index words serial_word
  pub calls : (j : ℕ) → j < n → slice_index after (calls_word n j) ≡ slice_index words (calls_word n j)
  pub commits : (j : ℕ) → j < n → slice_index after (commits_word n j) ≡ slice_index words (commits_word n j)
  pub versions : (k : ℕ) → version_at n after k ≡ version_at n words k
  pub values : (a : ℕ) → table_value n after a ≡ table_value n words a

-- such a step keeps the value invariant
abbrev pub GivingUpKeeps : (List ℕ → Type 0) → Type 0
GivingUpKeeps good =
    (n : ℕ) (base words after : List ℕ) (views : List View) (id j : ℕ) (v w : View)
    → LocksHold n base words views → ValuesHold good n base words views → Knows views id v
    → v.who ≡ j ∷ [] → is_open v.phase ≡ true → GivesUp v w → SameValueWords n words after
    → ValuesHold good n base after (slice_set views id w)

-- the seat goes on with its call, or stays between calls, knows the same of calls and values, and has all locks that it
-- had
pub record SameValues (v w : View) : Type 0 where
  pub who : w.who ≡ v.who
  pub joined : w.joined ≡ v.joined
  pub seats : w.seats ≡ v.seats
  pub seen : w.seen ≡ v.seen
  pub call : w.call ≡ v.call
  pub floor : w.floor ≡ v.floor
  pub abandoned : w.abandoned ≡ v.abandoned
  pub phase : w.phase ≡ v.phase
  pub trace : w.trace ≡ v.trace
  pub undo : w.undo ≡ v.undo
  pub uses : w.uses ≡ v.uses
  pub owed : w.owed ≡ v.owed
  -- a call has the timestamp that it had, or a later one
  pub stamp : w.phase ≢ Idle → v.stamp ≤ w.stamp
  pub grants : (k : ℕ) → IsGranted v k → IsGranted w k
  pub writes : (k : ℕ) → HasWriteGrant v k → HasWriteGrant w k

-- such a step keeps it, on a word that the rule of values does not read
abbrev pub AsideKeeps : (List ℕ → Type 0) → Type 0
AsideKeeps good =
    (n : ℕ) (base words after : List ℕ) (views : List View) (id : ℕ) (v w : View)
    → LocksHold n base words views → ValuesHold good n base words views → Knows views id v
    → SameValues v w → SameValueWords n words after
    → ValuesHold good n base after (slice_set views id w)

-- a seat gives up locks, or ends its call, and makes no attempt then: the call is open if it was, nothing is left to undo,
-- and what is owed is held
pub record IsQuiet (v w : View) : Type 0 where
  pub who : w.who ≡ v.who
  pub joined : w.joined ≡ v.joined
  pub seats : w.seats ≡ v.seats
  pub seen : w.seen ≡ v.seen
  pub call : w.call ≡ v.call
  pub floor : w.floor ≡ v.floor
  pub abandoned : w.abandoned ≡ v.abandoned
  pub uses : w.uses ≡ v.uses
  pub owed : w.owed ≡ v.owed
  pub was_undone : v.undo ≡ []
  pub undone : w.undo ≡ []
  pub over : is_attempt w.phase ≡ false
  pub as_open : is_open w.phase ≡ is_open v.phase
  pub begun : w.phase ≢ Idle → v.phase ≢ Idle
  pub stamp : w.phase ≢ Idle → w.stamp ≡ v.stamp
  pub held : (k : ℕ) → has k w.owed ≡ true → (v.phase ≡ Releasing) × HasWriteGrant v k
      → (w.phase ≡ Releasing) × HasWriteGrant w k

-- such a step keeps it
abbrev pub QuietKeeps : (List ℕ → Type 0) → Type 0
QuietKeeps good =
    (n : ℕ) (base words after : List ℕ) (views : List View) (id : ℕ) (v w : View)
    → LocksHold n base words views → ValuesHold good n base words views → Knows views id v
    → IsQuiet v w → SameValueWords n words after
    → ValuesHold good n base after (slice_set views id w)

-- a call whose attempt gave way and undid all makes another, and keeps it
abbrev pub RestartKeeps : (List ℕ → Type 0) → Type 0
RestartKeeps good =
    (n : ℕ) (base words : List ℕ) (views : List View) (id : ℕ) (v : View)
    → LocksHold n base words views → ValuesHold good n base words views → Knows views id v
    → v.phase ≡ Yielding → v.undo ≡ []
    → ValuesHold good n base words (slice_set views id (record v { phase = Running; trace = []; uses = [] }))

-- a cut of a view that may be cut keeps it
abbrev pub KeepsValueRuleSplit : (List ℕ → Type 0) → (View → Type 0) → (View → View) → (View → View) → Type 0
KeepsValueRuleSplit good may left given =
    (n : ℕ) (base words : List ℕ) (views : List View) (id : ℕ) (v : View)
    → LocksHold n base words views → ValuesHold good n base words views → Knows views id v → may v
    → ValuesHold good n base words (slice_set views id (left v) ++ given v ∷ [])
