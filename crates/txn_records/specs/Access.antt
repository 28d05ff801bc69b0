-- What calls on the two trees answer and leave, and what a record that is put comes to. What a call that only looks
-- answers is said by the forms of txn_words' Access.
use Rattle.std.specs.Prelude.{◌≡◌, ℕ, ◌+◌, ◌==◌, nat_le, find, Bool, true, false, List, Option, Some, None}
use Rattle.std.specs.FinMap as finite
use Rattle.record_text.specs.Records.{Records, is_store_full}
use Rattle.txn_alloc.specs.declared.put.Put.{Put}
use Rattle.txn_alloc.specs.declared.put.Put.TheVariants.{New, Old, Full}
use Rattle.txn_alloc.specs.EntryMaps.{Entries}
use Rattle.txn_records.specs.declared.shape.RecordShape.{RecordShape}
use Rattle.txn_records.specs.declared.layout.Order.{Order}
use Rattle.txn_records.specs.declared.layout.Order.TheVariants as order
use Rattle.txn_records.specs.Standing.{Trees, rank_in, Stands}

-- the trees with other entries in one of them
abbrev pub with_entries : Order → Entries → Trees → Trees
with_entries order.ById entries trees = record trees { ranks = entries }
with_entries order.ByRank entries trees = record trees { index = entries }

-- whether the trees use all blocks
abbrev pub is_used_up : RecordShape → Trees → Bool
is_used_up shape trees = finite.len trees.ranks + finite.len trees.index == shape.blocks

-- what is answered if a key is put: what it had, or whether there was room for a new one
abbrev pub put_answer : Option ℕ → Bool → Put
put_answer (Some was) lacks_room = Old was
put_answer None false = New
put_answer None true = Full

-- the entries after that
abbrev pub put_by : Put → ℕ → ℕ → Entries → Entries
put_by New key value entries = finite.insert entries key value
put_by (Old was) key value entries = finite.insert entries key value
put_by Full key value entries = entries

-- the first entry from a key on
abbrev pub first_in : ℕ → Entries → Option (ℕ × ℕ)
first_in key entries = find (λ e. nat_le key e.0) (finite.entries entries)

-- the first key from one on
abbrev pub first_key_in : ℕ → Entries → Option ℕ
first_key_in key entries = find (λ k. nat_le key k) (finite.keys entries)

-- this holds, or a new key found no room
abbrev pub UnlessNoRoom : Put → Type 0 → Type 0
UnlessNoRoom New P = P
UnlessNoRoom (Old was) P = P
UnlessNoRoom Full P = Unit {0}

-- from state to state: the record has this rank and data, or is new and finds no two blocks; of what is left then
-- nothing is said
pub record PutsRecord (shape : RecordShape) (id rank content : ℕ) (put : Put) (old new : List ℕ) : Type 0 where
  pub answer : (records : Records) → Stands shape old records
      → put ≡ put_answer (rank_in (finite.get records id)) (is_store_full shape.blocks records)
  pub left : UnlessNoRoom put ((records : Records) → Stands shape old records
      → Stands shape new (finite.insert records id (rank, content)))
