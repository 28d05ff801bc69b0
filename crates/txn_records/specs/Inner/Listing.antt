-- The index under its keys, as a listing goes through it.
use Rattle.std.specs.Prelude.{ℕ, nat_le, find, List, Option, map}
use Rattle.std.specs.FinMap as finite
use Rattle.record_text.specs.Records.{Records, index_of}
use Rattle.txn_records.specs.Layout.{index_key_of}

-- the keys of the index, rising
abbrev pub keys_of : Records → List ℕ
keys_of records = map (λ e. index_key_of e.0.0 e.0.1) (finite.entries (index_of records))

-- the keys with their data
abbrev pub entries_of : Records → List (ℕ × ℕ)
entries_of records = map (λ e. (index_key_of e.0.0 e.0.1, e.1)) (finite.entries (index_of records))

-- the first key from one on
abbrev pub first_key : ℕ → Records → Option ℕ
first_key key records = find (λ k. nat_le key k) (keys_of records)

-- the first key from one on, with its data
abbrev pub first_entry : ℕ → Records → Option (ℕ × ℕ)
first_entry key records = find (λ e. nat_le key e.0) (entries_of records)
