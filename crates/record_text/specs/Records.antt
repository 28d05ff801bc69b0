-- Records: a finite map from identifiers to ranks and data, and its index by rank.
use Rattle.std.specs.Prelude.{ℕ, ◌+◌, ◌*◌, Bool, nat_le, nat_lt, List, map, take}
use Rattle.std.specs.List.{filter}
use Rattle.std.specs.declared.cmp.Ordering.{Ordering}
use Rattle.std.specs.Ordering.{nat_cmp, ordering_then}
use Rattle.std.specs.FinMap as finite

-- for each identifier the rank and the data
abbrev pub Records : Type 0
Records = finite.FinMap nat_cmp (ℕ × ℕ)

-- the order of the index: by rank, and then by identifier
abbrev pub index_cmp : ℕ × ℕ → ℕ × ℕ → Ordering
index_cmp x y = ordering_then (nat_cmp x.0 y.0) (nat_cmp x.1 y.1)

-- the index: for each record its rank and its identifier, in this order, with its data
abbrev pub Index : Type 0
Index = finite.FinMap index_cmp ℕ

abbrev pub index_of : Records → Index
index_of records = finite.from_entries (map (λ e. ((e.1.0, e.0), e.1.1)) (finite.entries records))

-- the identifiers of the first records of at least this rank, at most so many
abbrev pub ids_from : ℕ → ℕ → Records → List ℕ
ids_from rank most records = take most (map (λ e. e.0.1) (filter (λ e. nat_le rank e.0.0) (finite.entries (index_of records))))

-- how many blocks records take: two each
abbrev pub blocks_of : Records → ℕ
blocks_of records = 2 * finite.len records

-- the blocks are not enough for a record more
abbrev pub is_store_full : ℕ → Records → Bool
is_store_full blocks records = nat_lt blocks (blocks_of records + 2)

-- a store: its blocks and its records
pub record RecordStore : Type 0 where
  pub blocks : ℕ
  pub records : Records
