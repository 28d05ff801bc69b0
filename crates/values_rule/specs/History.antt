-- What the table and its views say of what was done: the items of all that was seen, the versions of
-- locks, and the newest value of each word.
use Rattle.std.specs.Prelude.{ℕ, zero, suc, ◌+◌, Bool, true, false, ◌||◌, ◌==◌, max, List, [], ◌∷◌, ◌++◌, length, slice_index, nat_lt, if◌then◌else◌}
use Rattle.std.specs.List.{flat_map}
use Rattle.history_model.specs.declared.entry.Abandoned.{Abandoned}
use Rattle.history_model.specs.declared.entry.Entry.{Entry}
use Rattle.history_model.specs.declared.item.Item.{Item}
use Rattle.history_model.specs.declared.TheConstants.{LOCKS}
use Rattle.history_model.specs.declared.view.View.{View}
use Rattle.history_model.specs.Counts.{is_open}
use Rattle.history_model.specs.Items.{value_at}
use Rattle.history_model.specs.Locks.{lock_of_word}
use Rattle.history_model.specs.Sets.{has, flag}
use Rattle.history_model.specs.Table.{version_word}
use Rattle.history_model.specs.Views.{number}

-- the greatest call of seat j among the entries, or 0
unfoldable pub last_call : ℕ → List Entry → ℕ
last_call j [] = 0
last_call j (e ∷ entries) = if e.who == j then max e.call (last_call j entries) else last_call j entries

-- the same of n seats, from seat j on
unfoldable pub knew_from : ℕ → ℕ → List Entry → List ℕ
knew_from j zero entries = []
knew_from j (suc n) entries = last_call j entries ∷ knew_from (suc j) n entries

-- for each of n seats the greatest call among its entries, or 0: what a pass that has seen these entries knows
abbrev pub knew_of : ℕ → List Entry → List ℕ
knew_of n entries = knew_from 0 n entries

-- the item of an attempt that came after `turn` others of its call
abbrev pub item_of_attempt : ℕ → ℕ → List ℕ → ℕ → Abandoned → Item
item_of_attempt who call knew turn t = record {
  who = who;
  call = call;
  turn = turn;
  entry = false;
  kept = false;
  trace = t.trace;
  uses = t.uses;
  knew = knew;
}

-- the items of the attempts of a call that gave way, numbered from `turn` on
unfoldable pub items_of_attempts : ℕ → ℕ → List ℕ → ℕ → List Abandoned → List Item
items_of_attempts who call knew turn [] = []
items_of_attempts who call knew turn (t ∷ ts) =
    item_of_attempt who call knew turn t ∷ items_of_attempts who call knew (suc turn) ts

-- the item of an entry, behind the attempts of its call
abbrev pub item_of_entry : Entry → Item
item_of_entry e = record {
  who = e.who;
  call = e.call;
  turn = length e.abandoned;
  entry = true;
  kept = e.kept;
  trace = e.trace;
  uses = e.uses;
  knew = e.knew;
}

-- the attempts of a call, and then its entry
abbrev pub items_of_entry : Entry → List Item
items_of_entry e = items_of_attempts e.who e.call e.knew 0 e.abandoned ++ item_of_entry e ∷ []

-- the items of the entries that the view has seen, and while its call is open the call's attempts
abbrev pub items_of_view : View → List Item
items_of_view v = flat_map items_of_entry v.seen
    ++ (if is_open v.phase then items_of_attempts (number v) v.call (knew_of v.seats v.seen) 0 v.abandoned else [])

-- the items of the table: those of all views. An entry that several views have seen stands there more than once
abbrev pub items_of : List View → List Item
items_of views = flat_map items_of_view views

-- some view owes lock k
unfoldable pub owed_by : ℕ → List View → Bool
owed_by k [] = false
owed_by k (v ∷ views) = has k v.owed || owed_by k views

-- the version of lock k as it stands in the table; behind the last lock there is none
abbrev pub version_at : ℕ → List ℕ → ℕ → ℕ
version_at n words k = if nat_lt k LOCKS then slice_index words (version_word n k) else 0

-- the version that lock k has next: that of the table, and 1 more while a kept write of it is owed
abbrev pub next_version : ℕ → List ℕ → List View → ℕ → ℕ
next_version n words views k = version_at n words k + flag (owed_by k views)

-- the newest value of each word, if `next k` is the version of lock k, from word i on
unfoldable pub newest_from : List ℕ → List Item → (ℕ → ℕ) → ℕ → List ℕ → List ℕ
newest_from base items next i [] = []
newest_from base items next i (x ∷ xs) =
    value_at base items i (next (lock_of_word i)) ∷ newest_from base items next (suc i) xs

-- the newest value of each word
abbrev pub newest : List ℕ → List Item → (ℕ → ℕ) → List ℕ
newest base items next = newest_from base items next 0 base

-- what all that was committed leaves of the base, in this state of the table
abbrev pub now_of : ℕ → List ℕ → List ℕ → List View → List ℕ
now_of n base words views = newest base (items_of views) (next_version n words views)
