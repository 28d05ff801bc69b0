-- What a search that found the key says of the map, and which words it reads.
use Rattle.txn_tree_map.proofs.Common.{◌≡◌, ℕ, ◌<◌, true, List, Some, slice_get, Trace, after, InEach, Looks, Entries, Blocks, HasMap, IsUsedIn, IsNearOr}
use Rattle.txn_tree_map.proofs.Common.{TreeMap, TreeHolds, tree_part, IsLink, IsFoundAt, HasKeyIn}
use Rattle.txn_alloc.proofs.Maps.Founds.{IsOwnNear, IsKeysBlock}
use Rattle.txn_tree_map.proofs.Held.Places.{at_tree, at_below, used_count}
use Rattle.txn_tree_map.proofs.Searches.SearchSteps.{found_value, found_key}
use Rattle.txn_tree_map.proofs.Searches.Links.{found_of, tree_used, link_seen}
use Rattle.std.specs.FinSet as set

-- a used block is one of the arena's
pub used_below : (map : TreeMap) (s : List ℕ) (f : Entries) (u : Blocks) (b : ℕ) → TreeHolds map s f u → set.contains u b ≡ true → b < map.arena.blocks
used_below map s f u b hold k = let m = at_tree map s f u hold in at_below m b (used_count m hold b k)

pub uses_below : (map : TreeMap) (s : List ℕ) (b : ℕ) → IsUsedIn (tree_part map) s b → b < map.arena.blocks
uses_below map s b k = used_below map s k.0 k.1 b k.2 k.3

-- what is near a search is the map's own
pub near_own : (map : TreeMap) (key : ℕ) → IsOwnNear (tree_part map) key (IsLink map)
near_own map key s f u hold a k = link_seen hold key (λ d. d ≡ key) a k

-- and the block where it found the key is the key's
pub keys_block : (map : TreeMap) (key p b : ℕ) → IsKeysBlock (tree_part map) key b (IsFoundAt map key p b)
keys_block map key p b = record {
  used = λ s f u m hold. tree_used hold b (found_of m);
  key_there = λ s m. found_key m;
  value = λ s f u x m e hold. found_value x m e hold;
}

-- so the map uses the block, and for this key
pub holds_key : (map : TreeMap) (key p b q x : ℕ) {n : ℕ} {G : List ℕ → Type 0} {t u : Trace}
    → Looks n G t u (IsNearOr (IsLink map) q) (λ s. IsFoundAt map key p b s × (slice_get s q ≡ Some x))
    → InEach n G u (HasMap (tree_part map)) → InEach n G u (HasKeyIn map key b)
holds_key map key p b q x {u} l order = record {
  at = λ s fit.
      let o = order.at s fit in
      let found = (l.holds s fit).0 in (
        (o.entries, o.used, o.holds, (keys_block map key p b).used (after u s) o.entries o.used found o.holds),
        (keys_block map key p b).key_there (after u s) found,
      );
}
