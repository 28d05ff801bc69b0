-- The words of an empty store: zeros, but for the lists of the free blocks.
use Rattle.txn_stores.proofs.Common.{◌≡◌, ℕ, ◌<◌, List, ◌++◌, length, Some, take, sym, ap, ◌∙◌, subst, arith, nat_cmp, KeepsOthers}
use Rattle.txn_alloc.proofs.Common.{FreeListsHold, IsHead, IsWrittenByLaying}
use Rattle.txn_tree_map.proofs.Common.{IsLaid, TreeHolds, Leaf}
use Rattle.std.proofs.Common.{inl, inr, drop, slice_get, replicate}
use Rattle.std.proofs.Math.Seq.{take-append_seam}
use Rattle.std.proofs.lemmas.List.{length-replicate}
use Rattle.history_model.proofs.ListPlaces.{zero_there}
use Rattle.txn_alloc.specs.declared.arena.Arena.{Arena}
use Rattle.txn_alloc.proofs.Sets.{out_empty}
use Rattle.txn_tree_map.specs.declared.map.TreeMap.{TreeMap}
use Rattle.std.specs.FinSet as set
use Rattle.std.specs.FinMap as finite

module _ (arena : Arena) (blocks : List ℕ) (n : ℕ) (first words : List ℕ) (zeros : first ≡ replicate n 0)
    (kept : KeepsOthers (IsWrittenByLaying arena blocks) first words) where
  -- as many as before
  pub laid_count : length words ≡ n
  laid_count = let nil : ℕ = 0 in kept.count ∙ ap length zeros ∙ length-replicate n nil

  -- a word before the blocks that is no head is 0
  pub zero_before : (a : ℕ) → a < n → a < arena.first → ¬ IsHead arena a → slice_get words a ≡ Some 0
  zero_before a lt before no_head =
      kept.same a (λ own. elim own [ inl head ↦ no_head head | inr k ↦ let e = k.2 in omega (arith, before, e) ]) ∙ zero_there n a first zeros lt

-- words that were laid in a vector of zeros
module _ (len n : ℕ) (items first laid order : List ℕ) (made : Arena) (long : length first ≡ len) (zeros : first ≡ replicate n 0)
    (kept : KeepsOthers (IsWrittenByLaying made order) first laid) where
  whole : take len (laid ++ drop (length laid) items) ≡ laid
  whole = ap (λ k. take k (laid ++ drop (length laid) items)) (sym long ∙ sym kept.count) ∙ take-append_seam laid _

  pub whole_count : length (take len (laid ++ drop (length laid) items)) ≡ n
  whole_count = ap length whole ∙ laid_count made order n first laid zeros kept

  pub whole_stands : (P : List ℕ → Type 0) (arena : Arena) (blocks : List ℕ) → made ≡ arena → order ≡ blocks
      → FreeListsHold made laid (set.from_list order)
      → (KeepsOthers (IsWrittenByLaying arena blocks) first laid → FreeListsHold arena laid (set.from_list blocks) → P laid)
      → P (take len (laid ++ drop (length laid) items))
  whole_stands P arena blocks arena_is order_is free stands = subst P (sym whole)
      (stands (subst (λ a. KeepsOthers (IsWrittenByLaying a blocks) first laid) arena_is
      (subst (λ bs. KeepsOthers (IsWrittenByLaying made bs) first laid) order_is kept))
      (subst (λ a. FreeListsHold a laid (set.from_list blocks)) arena_is (subst (λ bs. FreeListsHold made laid (set.from_list bs)) order_is free)))

-- if its root is 0, a tree holds nothing
pub no_tree : (map : TreeMap) (words : List ℕ) → IsLaid map words → slice_get words map.root ≡ Some 0 → TreeHolds map words finite.empty set.empty
no_tree map words laid zero_root = record {
  laid = laid;
  tree = Leaf;
  spelled = (zero_root, tt);
  search = tt;
  heap = tt;
  entries_are = λ key. finite.get-empty nat_cmp key;
  used_are = out_empty;
}
