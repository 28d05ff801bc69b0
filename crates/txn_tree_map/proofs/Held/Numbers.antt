-- How many blocks a map uses.
use Rattle.txn_tree_map.proofs.Common.{◌≡◌, ℕ, List, sym, ◌∙◌, arith, Entries, Blocks, TreeMap, cells_of, TreeHolds}
use Rattle.txn_alloc.proofs.Maps.Counting.{len_cells, len_blocks}
use Rattle.txn_tree_map.proofs.Held.Rising.{rising_keys}
use Rattle.txn_tree_map.proofs.Held.Trees.{times_cells}
use Rattle.txn_tree_map.proofs.Held.Places.{at_tree, at_once}
use Rattle.std.specs.FinSet as set
use Rattle.std.specs.FinMap as entry_map

pub as_many_blocks : (map : TreeMap) (s : List ℕ) (f : Entries) (u : Blocks) → TreeHolds map s f u → set.len u ≡ entry_map.len f
as_many_blocks map s f u h =
    len_blocks (cells_of h.tree) u h.used_are
    (λ b. omega (arith, at_once (at_tree map s f u h) b, times_cells b h.tree))
    ∙ sym (len_cells (cells_of h.tree) f h.entries_are (rising_keys (cells_of h.tree) h.search))
