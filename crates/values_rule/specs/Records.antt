-- What holds of entries as records of what their passes had seen, of the numbers of calls, and of what a call that is
-- open knows of its attempts, for n seats.
use Rattle.std.specs.Prelude.{◌≡◌, ◌≢◌, ℕ, ◌^◌, ◌<◌, ◌≤◌, true, false, List, [], ◌∷◌, length, Some, slice_get, slice_index}
use Rattle.history_model.specs.declared.entry.Abandoned.{Abandoned}
use Rattle.history_model.specs.declared.entry.Entry.{Entry}
use Rattle.history_model.specs.declared.view.View.{View}
use Rattle.history_model.specs.declared.view.Phase.TheVariants.{Idle}
use Rattle.history_model.specs.Counts.{is_open}
use Rattle.history_model.specs.Legal.{IsIn}
use Rattle.history_model.specs.Table.{Knows, calls_word, commits_word}
use Rattle.locks_rule.specs.Locks.{IsSeat}
use Rattle.values_rule.specs.History.{last_call}

-- some view has seen the entry
pub record IsRecorded (views : List View) (e : Entry) : Type 0 where
  pub id : ℕ
  pub view : View
  pub knows : Knows views id view
  pub seen : IsIn e view.seen

-- the pass that made e had seen x as the call of e began
abbrev pub Knew : Entry → Entry → Type 0
Knew e x = x.call ≤ slice_index e.knew x.who

-- no entry stands at two places
abbrev pub IsApart : List Entry → Type 0
IsApart entries = (p q : ℕ) (x : Entry) → slice_get entries p ≡ Some x → slice_get entries q ≡ Some x → p ≡ q

-- so many entries were known to e
pub record KnewSoMany (views : List View) (e : Entry) (many : ℕ) : Type 0 where
  pub known : List Entry
  pub apart : IsApart known
  pub all : (x : Entry) → IsRecorded views x → Knew e x → IsIn x known
  pub only : (x : Entry) → IsIn x known → IsRecorded views x × Knew e x
  pub count : length known ≡ many

-- the causes of a call: other seats with earlier timestamps, no two the same; and each attempt stands behind the floor
pub record AreCauses (n who stamp floor : ℕ) (attempts : List Abandoned) : Type 0 where
  pub fronts : (x : Abandoned) → IsIn x attempts → x.front ≡ floor
  pub bounded : (x : Abandoned) → IsIn x attempts
      → (x.cause.seat < n) × (x.cause.seat ≢ who) × (0 < x.cause.stamp) × (x.cause.stamp < stamp)
  pub differ : (i k : ℕ) (x y : Abandoned) → slice_get attempts i ≡ Some x → slice_get attempts k ≡ Some y
      → x.cause.seat ≡ y.cause.seat → i ≡ k

-- entries are records: who made one has seen it, and with it all that its pass had seen as the call began
pub record RecordsClosed (n : ℕ) (views : List View) : Type 0 where
  -- who made it has seen it, and all that it knew is seen with it
  pub own_seen : (id j : ℕ) (v : View) (e : Entry) → IsSeat views id v j → IsRecorded views e
      → e.who ≡ j → IsIn e v.seen
  pub known_seen : (id : ℕ) (v : View) (e x : Entry) → Knows views id v → IsIn e v.seen
      → IsRecorded views x → Knew e x → IsIn x v.seen
  -- it knew its caller's earlier entries, and not itself; what it knew last of a seat is an entry
  pub knew_own : (e x : Entry) → IsRecorded views e → IsRecorded views x
      → x.who ≡ e.who → x.call < e.call → Knew e x
  pub not_itself : (e : Entry) → IsRecorded views e → slice_index e.knew e.who < e.call
  pub knew_entry : (e : Entry) (j : ℕ) → IsRecorded views e → 0 < slice_index e.knew j
      → (x : Entry) × IsRecorded views x × (x.who ≡ j) × (x.call ≡ slice_index e.knew j)
  -- one for a call, which no view has seen twice
  pub one : (e x : Entry) → IsRecorded views e → IsRecorded views x
      → e.who ≡ x.who → e.call ≡ x.call → e ≡ x
  pub by_seat : (e : Entry) → IsRecorded views e → e.who < n
  pub from_one : (e : Entry) → IsRecorded views e → 0 < e.call
  pub apart : (id : ℕ) (v : View) → Knows views id v → IsApart v.seen
  -- its floor is how many it knew
  pub floors : (e : Entry) → IsRecorded views e → KnewSoMany views e e.floor
  pub causes : (e : Entry) → IsRecorded views e → AreCauses n e.who e.stamp e.floor e.abandoned

-- CALLS has the number of each seat's last call and COMMITS that of its last entry, and no entry has a later number
pub record CallsCounted (n : ℕ) (words : List ℕ) (views : List View) : Type 0 where
  -- a view in a call has one number, and a view of one number took in no other's
  pub callers_alone : (id : ℕ) (v : View) → Knows views id v → v.phase ≢ Idle → (j : ℕ) × (v.who ≡ j ∷ [])
  pub alone_unjoined : (id j : ℕ) (v : View) → Knows views id v → v.who ≡ j ∷ [] → v.joined ≡ false
  -- an unjoined view of several numbers is the one from which the seats are made, and began no call
  pub dealers_fresh : (id i j : ℕ) (v : View) → IsSeat views id v i → IsSeat views id v j
      → i ≢ j → v.joined ≡ false → v.call ≡ 0
  pub calls_shown : (id j : ℕ) (v : View) → IsSeat views id v j → v.joined ≡ false
      → slice_index words (calls_word n j) ≡ v.call
  pub calls_fit : (j : ℕ) → j < n → slice_index words (calls_word n j) < 2 ^ 32
  pub commits_shown : (id j : ℕ) (v : View) → IsSeat views id v j → v.joined ≡ false
      → slice_index words (commits_word n j) ≡ last_call j v.seen
  pub numbered : (id j : ℕ) (v : View) (e : Entry) → IsSeat views id v j → v.joined ≡ false
      → IsRecorded views e → e.who ≡ j → e.call ≤ v.call
  pub open_numbered : (id j : ℕ) (v : View) (e : Entry) → IsSeat views id v j → v.joined ≡ false
      → is_open v.phase ≡ true
      → IsRecorded views e → e.who ≡ j → e.call < v.call
  -- calls are counted from 1
  pub begun : (id : ℕ) (v : View) → Knows views id v → v.phase ≢ Idle → 0 < v.call

-- the floor of an open call is how many entries its pass has seen, and the causes of its attempts are causes of a call
pub record FloorAndAbandoned (n : ℕ) (views : List View) : Type 0 where
  pub floor : (id : ℕ) (v : View) → Knows views id v → is_open v.phase ≡ true → v.floor ≡ length v.seen
  pub causes : (id j : ℕ) (v : View) → Knows views id v → v.who ≡ j ∷ [] → v.phase ≢ Idle
      → AreCauses n j v.stamp v.floor v.abandoned
