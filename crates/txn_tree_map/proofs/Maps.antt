-- The map as a whole: it is one, it stands while its words stay, and what it is after a change at a place.
use Rattle.txn_tree_map.proofs.Common.{◌≡◌, ℕ, ◌+◌, ◌<◌, ◌≤◌, true, false, List, [], ◌++◌, length, slice_get, slice_set, Some, ◌⊎◌, inl, inr, refl, sym, ap}
use Rattle.txn_tree_map.proofs.Common.{◌∙◌, subst, arith, true≢false, dite, ℕ_discrete, nat_cmp, nat_cmp_total, length-set, get_set_same, get_set_other}
use Rattle.txn_tree_map.proofs.Common.{KeepsOthers, Arena, IsHead, IsInBlock, FreeListsHold, TakesBlock, Cell, Entries, Blocks, value_of, has_block, HoldsApart}
use Rattle.txn_tree_map.proofs.Common.{in_here, out_itself, free_kept, free_below, same_block, value_less, has_middle, less_block, insert_same, insert_other}
use Rattle.txn_tree_map.proofs.Common.{times_has, TreeMap, Tree, name_of, cells_of, IsRising, IsLaid, TreeHolds, tree_part, Leaf, Node, Path, before_of}
use Rattle.txn_tree_map.proofs.Common.{after_of, HangsAt, IsMissing, CanPut, IsPut}
use Rattle.txn_alloc.proofs.Common.{all_blocks, IsWrittenByLaying}
use Rattle.std.specs.FinSet.{nat_cmp-IsAntisymmetric}
use Rattle.txn_alloc.proofs.Sets.{in_or, out_less, out_empty, contains-insert_other}
use Rattle.txn_alloc.proofs.Maps.Parts.{empty_apart, free_unused}
use Rattle.txn_alloc.proofs.FreeLists.AllLaid.{both_written, beside}
use Rattle.txn_alloc.proofs.Maps.Founds.{InsertsIn}
use Rattle.txn_tree_map.proofs.Plugs.{plug}
use Rattle.txn_tree_map.proofs.Held.Rising.{value_there}
use Rattle.txn_tree_map.proofs.Held.Trees.{count_in, count_on, cells_plug, spelled_stays, hung_stays}
use Rattle.txn_tree_map.proofs.Held.Places.{at_tree, at_value, at_used, at_below, at_times, at_root}
use Rattle.txn_tree_map.proofs.Searches.SearchSteps.{around_node, missing_value}
use Rattle.txn_tree_map.proofs.Searches.SearchCalls.{laid_alike}
use Rattle.txn_tree_map.proofs.Searches.Gets.{used_below}
use Rattle.std.specs.FinSet as set
use Rattle.std.specs.FinMap as entry_map

-- in one word list the map is one
pub one_map : (map : TreeMap) (s : List ℕ) (f g : Entries) (u w : Blocks) → TreeHolds map s f u → TreeHolds map s g w → (f ≡ g) × (u ≡ w)
one_map map s f g u w h k =
    let m = at_tree map s f u h in (
      entry_map.same_map nat_cmp_total nat_cmp-IsAntisymmetric f g (λ q. at_value m h q ∙ sym (at_value m k q)),
      set.same_set nat_cmp_total nat_cmp-IsAntisymmetric u w (λ q. at_used m h q ∙ sym (at_used m k q)),
    )

-- if the root names none, the map has no entry
pub none_stands : {map : TreeMap} {s : List ℕ} → IsLaid map s → slice_get s map.root ≡ Some 0 → TreeHolds map s entry_map.empty set.empty
none_stands laid zero = record {
  laid = laid;
  tree = Leaf;
  spelled = (zero, tt);
  search = tt;
  heap = tt;
  entries_are = entry_map.get-empty nat_cmp;
  used_are = out_empty;
}

-- if its root was cleared, and then all blocks laid free, the empty map stands beside them
module _ {map : TreeMap} {s u : List ℕ} (laid : IsLaid map s)
    (written : KeepsOthers (IsWrittenByLaying map.arena (all_blocks map.arena)) (slice_set s map.root 0) u) where
  pub empty_others : KeepsOthers (λ a. (a ≡ map.root) ⊎ IsWrittenByLaying map.arena (all_blocks map.arena) a) s u
  empty_others = both_written (λ a. a ≡ map.root) (IsWrittenByLaying map.arena (all_blocks map.arena)) s (slice_set s map.root 0) u
      (record { count = length-set s map.root 0; same = λ a ne. get_set_other s map.root a 0 ne }) written

  pub empty_laid : FreeListsHold map.arena u (set.from_list (all_blocks map.arena))
      → HoldsApart (tree_part map) u entry_map.empty set.empty (set.from_list (all_blocks map.arena))
  empty_laid free = empty_apart (tree_part map) u (set.from_list (all_blocks map.arena))
      (none_stands (laid_alike u (empty_others.count) laid)
      (beside map.arena (slice_set s map.root 0) u written map.root laid.no_head laid.outside ∙ get_set_same s map.root 0 laid.root)) free

-- a place in a tree whose words stay
pub at_stays : {map : TreeMap} {s : List ℕ} (t : List ℕ) {path : Path} {tree : Tree} → HangsAt map path tree s → length t ≡ length s
    → slice_get t map.root ≡ slice_get s map.root
    → ((b a : ℕ) → 1 ≤ count_on b path + count_in b tree → IsInBlock map.arena b a → slice_get t a ≡ slice_get s a) → HangsAt map path tree t
at_stays {map} {s} t {path} {tree} m e root same = record {
  laid = laid_alike t e m.laid;
  hung = hung_stays map.arena s t map.root path (name_of tree) root (λ b a k mine. same b a (omega arith) mine) m.hung;
  spelled = spelled_stays map.arena s t tree (λ b a k mine. same b a (omega arith) mine) m.spelled;
  search = m.search;
  high = m.high;
  heap = m.heap;
}

-- the whole of a place, with what its cells say
pub holds_at : {map : TreeMap} {s : List ℕ} {path : Path} {tree : Tree} (f : Entries) (u : Blocks) → HangsAt map path tree s
    → ((key : ℕ) → entry_map.get f key ≡ value_of key (before_of path ++ (cells_of tree ++ after_of path)))
    → ((b : ℕ) → set.contains u b ≡ has_block b (before_of path ++ (cells_of tree ++ after_of path))) → TreeHolds map s f u
holds_at {path} {tree} f u m entries used =
    let whole = at_root m in
    record {
      laid = m.laid;
      tree = plug path tree;
      spelled = (whole.hung, whole.spelled);
      search = subst IsRising (sym (cells_plug path tree)) m.search;
      heap = whole.heap;
      entries_are = λ key. entries key ∙ ap (value_of key) (sym (cells_plug path tree));
      used_are = λ b. used b ∙ ap (has_block b) (sym (cells_plug path tree));
    }

-- the map stands if its root and the words of its used blocks stay
pub tree_stands : (map : TreeMap) (s t : List ℕ) (f : Entries) (u : Blocks) → TreeHolds map s f u → length t ≡ length s
    → slice_get t map.root ≡ slice_get s map.root
    → ((b a : ℕ) → set.contains u b ≡ true → IsInBlock map.arena b a → slice_get t a ≡ slice_get s a) → TreeHolds map t f u
tree_stands map s t f u h e root blocks =
    let m = at_tree map s f u h in
    holds_at f u
    (at_stays t m e root (λ b a k mine. blocks b a (at_used m h b
    ∙ times_has b (cells_of h.tree ++ []) (omega (arith, at_times m b))) mine))
    (at_value m h) (at_used m h)

-- it stands too if heads alone are written
pub at_headed : {map : TreeMap} {s t : List ℕ} {path : Path} {tree : Tree} → HangsAt map path tree s
    → KeepsOthers (IsHead map.arena) s t → HangsAt map path tree t
at_headed {map} {t} m kept = at_stays t m kept.count (kept.same map.root m.laid.no_head)
    (λ b a k mine. kept.same a (m.laid.arena.outside b a (at_below m b k) mine))

pub tree_headed : (map : TreeMap) (s t : List ℕ) (f : Entries) (u : Blocks) → TreeHolds map s f u → KeepsOthers (IsHead map.arena) s t → TreeHolds map t f u
tree_headed map s t f u h kept = tree_stands map s t f u h kept.count (kept.same map.root h.laid.no_head)
    (λ b a k mine. kept.same a (h.laid.arena.outside b a (used_below map s f u b h k) mine))

-- a free block was taken: it may be put into the tree
pub can_put : {map : TreeMap} {key b : ℕ} {s r : List ℕ} {f : Entries} {u v : Blocks} → HoldsApart (tree_part map) s f u v → IsMissing map key s
    → TakesBlock map.arena b s r v → KeepsOthers (IsHead map.arena) s r → CanPut map key b r
can_put {map} {b} {s} {f} {u} {v} hold none taken kept = record {
  missing = record { path = none.path; is_at = at_headed none.is_at kept; low = none.low; high = none.high };
  below = free_below map.arena s v b hold.free_lists taken.was_free;
  apart = sym (at_used none.is_at hold.map b) ∙ free_unused (tree_part map) s f u v b hold taken.was_free;
}

-- the map with a cell more
pub put_holds : {map : TreeMap} {key x b : ℕ} {r t : List ℕ} {f : Entries} {u : Blocks} → TreeHolds map r f u
    → IsPut map key x b r t → TreeHolds map t (entry_map.insert f key x) (set.insert u b)
put_holds {map} {key} {x} {b} {r} {f} {u} hold put =
    let none : IsMissing map key r = put.before.missing in
    let c : Cell = record { block = b; key = key; value = x } in
    let xs : List Cell = before_of put.path ++ cells_of put.left in
    let ys : List Cell = cells_of put.right ++ after_of put.path in
    let whole =
    around_node put.path put.left put.right c in
    holds_at (entry_map.insert f key x) (set.insert u b) put.is_at
    (λ k. dite (ℕ_discrete k key)
    (λ e. subst (λ q. entry_map.get (entry_map.insert f key x) q
    ≡ value_of q (before_of put.path ++ (cells_of (Node put.left c put.right) ++ after_of put.path))) (sym e)
    (insert_same f key x ∙ sym (ap (value_of key) whole ∙ value_there key xs ys c refl put.low)))
    (λ ne. insert_other f key x k ne ∙ at_value none.is_at hold k ∙ ap (value_of k) put.cells
    ∙ value_less k xs ys c (λ e. ne (sym e)) ∙ ap (value_of k) (sym whole)))
    (λ d. dite (ℕ_discrete d b)
    (λ e. subst (λ q. set.contains (set.insert u b) q ≡ has_block q (before_of put.path ++ (cells_of (Node put.left c put.right) ++ after_of put.path))) (sym e)
    (in_here u b ∙ sym (ap (has_block b) whole ∙ has_middle b xs ys c refl)))
    (λ ne. contains-insert_other u b d ne ∙ at_used none.is_at hold d ∙ ap (has_block d) put.cells
    ∙ less_block d xs ys c (λ e. ne (sym e)) ∙ ap (has_block d) (sym whole)))

-- with the free lists beside it, if the block was in none
pub put_apart : {map : TreeMap} {key x b : ℕ} {r t : List ℕ} {f : Entries} {u v : Blocks} → HoldsApart (tree_part map) r f u v
    → set.contains v b ≡ false → IsPut map key x b r t
    → HoldsApart (tree_part map) t (entry_map.insert f key x) (set.insert u b) v
put_apart {map} {key} {b} {r} {t} {f} {u} {v} hold lacks put =
    let a : Arena = map.arena in
    let h : TreeHolds map r f u = hold.map in
    let here : IsMissing map key r = put.before.missing in
    let l : IsLaid map r = h.laid in
    let used : (d : ℕ) → has_block d (before_of here.path ++ after_of here.path) ≡ true → set.contains u d ≡ true =
    λ d k. at_used here.is_at h d ∙ k in
    record {
      map = put_holds h put;
      free_lists = free_kept a r t v hold.free_lists put.kept.count
          (λ c head. put.kept.same c (λ k. elim k [
            | inl e ↦ l.no_head (subst (IsHead a) e head)
            | inr m ↦ l.arena.outside m.0 c
                (elim (m.1) [ inl e ↦ subst (λ d. d < a.blocks) (sym e) put.before.below | inr z ↦ used_below map r f u m.0 h (used m.0 z) ]) m.2 head
          ]))
          (λ d c free mine. put.kept.same c (λ k. elim k [
            | inl e ↦ l.outside d (free_below a r v d hold.free_lists free) (subst (IsInBlock a d) e mine)
            | inr m ↦
                let same : d ≡ m.0 = same_block a d m.0 c mine m.2 in
                elim (m.1) [
                  | inl e ↦ true≢false (sym free ∙ ap (set.contains v) (same ∙ e) ∙ lacks)
                  | inr z ↦ true≢false (sym free ∙ ap (set.contains v) same ∙ hold.apart m.0 (used m.0 z))
                ]
          ]));
      apart = λ d m. elim (in_or u b d m) [ inl e ↦ ap (set.contains v) e ∙ lacks | inr k ↦ hold.apart d k ];
    }

-- and if it was taken out of them
pub inserted_new : {map : TreeMap} {key x b : ℕ} {s r t : List ℕ} {f : Entries} {u v : Blocks} → HoldsApart (tree_part map) s f u v → IsMissing map key s
    → TakesBlock map.arena b s r v → KeepsOthers (IsHead map.arena) s r → IsPut map key x b r t → InsertsIn (tree_part map) key x b t f u v
inserted_new {map} {b} {s} {r} {f} {u} {v} hold none taken kept put = record {
  absent = missing_value none hold.map;
  was_free = taken.was_free;
  left = put_apart
      (record { map = tree_headed map s r f u hold.map kept; free_lists = taken.left; apart = λ d m. out_less v b d (hold.apart d m) }) (out_itself v b) put;
}
