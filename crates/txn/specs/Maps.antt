-- What contracts cite of the maps and of the blocks that they share. Declares nothing.
pub use Rattle.txn_alloc.specs.EntryMaps.{Blocks, Entries, Part, HasMap, HoldsApart, HasMapApart}
pub use Rattle.txn_alloc.specs.EntryMaps.{Finds, Inserts, LacksRoom, Removes, SumsRange}
pub use Rattle.txn_alloc.specs.FreeLists.{FreeListsHold, IsInOrder, IsLaidOut}
pub use Rattle.txn_alloc.specs.declared.put.Put.{Put}
pub use Rattle.txn_alloc.specs.declared.put.Put.TheVariants.{Full, New, Old}
pub use Rattle.txn_alloc.specs.declared.shape.MapShape.{MapShape}
pub use Rattle.txn_alloc.specs.Laying.{all_blocks, HasAllRising}
pub use Rattle.txn_hash_map.specs.Chains.{ChainsHold, chain_part}
pub use Rattle.txn_tree_map.specs.Trees.{TreeHolds, tree_part}
