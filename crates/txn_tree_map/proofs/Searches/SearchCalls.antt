-- What a search learns of every fitting state at once.
use Rattle.txn_tree_map.proofs.Common.{◌≡◌, ℕ, ◌+◌, ◌<◌, List, length, slice_get, Some, sym, ◌∙◌, arith, slice_get_within, same_Some, Trace, after, SomeFits}
use Rattle.txn_tree_map.proofs.Common.{InEach, length-after, Arena, TreeMap, Tree, name_of, IsSpelled, IsLaid, Leaf, Node, HasTop}
use Rattle.txn_alloc.proofs.FreeLists.Lists.{laid_kept}

-- the block that a spelled tree's name names is one of the arena's
pub name_below : (arena : Arena) (s : List ℕ) (tree : Tree) (b : ℕ) → name_of tree ≡ b + 1 → IsSpelled arena s tree → b < arena.blocks
name_below arena s Leaf b e h = absurd (omega arith)
name_below arena s (Node left c right) b e h = omega (arith, h.0.below)

module _ (map : TreeMap) {n : ℕ} {G : List ℕ → Type 0} {t : Trace} (some : SomeFits n G t) where
  pub top_within : {p : ℕ} → InEach n G t (HasTop map p) → p < n
  top_within {p} top =
      let s : List ℕ = after t some.0 in
      let long : length s ≡ n = length-after t some.0 ∙ some.1.count in
      let h = top.at some.0 some.1 in
      omega (arith, slice_get_within s p (name_of h.tree) h.head.0)

  pub top_below : (p b : ℕ) → InEach n G t (λ s. HasTop map p s × (slice_get s p ≡ Some (b + 1))) → b < map.arena.blocks
  top_below p b top =
      let h = top.at some.0 some.1 in
      name_below map.arena (after t some.0) h.0.tree b (same_Some (name_of h.0.tree) (b + 1) (sym h.0.head.0 ∙ h.1)) h.0.head.1

-- a list with as many words is laid out alike
pub laid_alike : {map : TreeMap} {s : List ℕ} (t : List ℕ) → length t ≡ length s → IsLaid map s → IsLaid map t
laid_alike {map} {s} t e l = record { arena = laid_kept map.arena s t e l.arena; root = omega (arith, l.root); no_head = l.no_head; outside = l.outside }
