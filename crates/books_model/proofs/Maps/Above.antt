-- The first entry above a key.
use Rattle.books_model.proofs.Common.{◌≡◌, ℕ, ◌<◌, ◌≤◌, Bool, true, false, cond, ◌&&◌, List, [], ◌∷◌, Option, Some, None, IsSome, nat_lt, refl, sym, ap, subst}
use Rattle.books_model.proofs.Common.{◌∙◌, slice_get, nat_cmp, is_lt, Ordering, Less, Equal, Greater, entries_between, IsTotalOrder, nat_cmp_total}
use Rattle.std.specs.List.{find}
use Rattle.std.specs.Ordering.{is_gt, ordering_reverse}
use Rattle.std.specs.declared.ops.Bound.TheVariants.{Excluded, Unbounded}
use Rattle.std.specs.BTreeMap.Range.{IsRangeOf, IsLtBy, IsLeBy}
use Rattle.std.specs.Cmp.{nat_cmp_is}
use Rattle.std.proofs.lemmas.Cmp.{ranked}
use Rattle.std.proofs.lemmas.Map.Keys.{le_from_not_gt}
use Rattle.books_model.proofs.Maps.Keys.{is_lt-nat_cmp}
use Rattle.books_model.proofs.Maps.Trees.{get-lookup, entries-from_entries}
use Rattle.std.specs.BTreeMap as tree
use Rattle.std.specs.FinMap as map

-- a test that passes puts an entry first in both searches, and one that fails leaves them
first_of_both : {X : Type 0} (above : Bool) (e : X) (found : Option X) (kept : List X) → found ≡ slice_get kept 0
    → cond above (Some e) found ≡ slice_get (cond (above && true) (e ∷ kept) kept) 0
first_of_both true e found kept h = refl
first_of_both false e found kept h = h

module _ {K : Type 0} {R : K → K → Ordering} (o : IsTotalOrder R) (later : K → K → Bool) (is : (a b : K) → later a b ≡ is_lt (R a b)) (a : K) where
  -- the first entry above a key is the first of all those above it
  find-above : (es : List (K × ℕ)) → find (λ e. later a e.0) es ≡ slice_get (entries_between R (Excluded a) Unbounded es) 0
  find-above [] = refl
  find-above (e ∷ es) =
      ap (λ b. cond b (Some e) (find (λ e. later a e.0) es)) (is a e.0)
      ∙ first_of_both (is_lt (R a e.0)) e _ _ (find-above es)

  module _ (values : tree.BTreeMap K ℕ) (m : map.FinMap R ℕ) (from : map.from_entries values.entries ≡ m) (above : List (K × ℕ)) where
    -- what the finite map has at a key is what the tree has
    get-tree : (k : K) → map.get m k ≡ tree.get R values k
    get-tree k = ap (λ m. map.get m k) (sym from) ∙ get-lookup o values.entries k

    -- the first entry of the map above a key is the first of the range
    pub first_above : tree.IsOrdered R values → above ≡ entries_between R (Excluded a) Unbounded values.entries
        → find (λ e. later a e.0) (map.entries m) ≡ slice_get above 0
    first_above ordered between =
        ap (λ m. find (λ e. later a e.0) (map.entries m)) (sym from)
        ∙ ap (find (λ e. later a e.0)) (entries-from_entries o values.entries ordered)
        ∙ find-above values.entries
        ∙ ap (λ r. slice_get r 0) (sym between)

    module _ (range : IsRangeOf R (Excluded a) Unbounded values above) where
      -- the first of the range is the least key above the given one, with its value
      pub least_above : (e : K × ℕ) (rest : List (K × ℕ)) → above ≡ e ∷ rest → IsLtBy R a e.0
          × (map.get m e.0 ≡ Some e.1) × ((k : K) → IsLtBy R a k → IsSome (map.get m k) → IsLeBy R e.0 k)
      least_above e rest first =
          let least = rw first at range.2 in
          ((rw first at range.1).0.0, get-tree e.0 ∙ (rw first at range.1).1, λ k more there. least k (more, tt) (subst IsSome (get-tree k) there))

      -- no key is above the given one if the range is empty
      pub none_above : above ≡ [] → (k : K) → IsSome (map.get m k) → IsLeBy R k a
      none_above empty k there = elim (R a k) as (λ r. R a k ≡ r → IsLeBy R k a) [
        | Less ↦ λ more.
            let found : IsSome {T = ℕ} None = subst IsSome (get-tree k ∙ range.5 empty k (more, tt)) there in
            cc
        | Equal ↦ λ same. ap is_gt (o.antisymm k a ∙ ap ordering_reverse same)
        | Greater ↦ λ less. ap is_gt (o.antisymm k a ∙ ap ordering_reverse less)
      ] refl

module _ (a : ℕ) (values : tree.BTreeMap ℕ ℕ) (m : map.FinMap nat_cmp ℕ) (from : map.from_entries values.entries ≡ m)
    (above : List (ℕ × ℕ)) (range : IsRangeOf nat_cmp (Excluded a) Unbounded values above) where
  -- the first of the range is the least number above the given one, with its value
  pub least_number_above : (e : ℕ × ℕ) (rest : List (ℕ × ℕ)) → above ≡ e ∷ rest → (a < e.0) × (map.get m e.0 ≡ Some e.1)
      × ((k : ℕ) → a < k → IsSome (map.get m k) → e.0 ≤ k)
  least_number_above e rest first =
      let least = least_above nat_cmp_total nat_lt is_lt-nat_cmp a values m from above range e rest first in
      (ranked a e.0 Less (sym least.0), least.1, λ k more there. le_from_not_gt e.0 k (least.2 k (sym (nat_cmp_is a k Less more)) there))

  -- no number is above the given one if the range is empty
  pub no_number_above : above ≡ [] → (k : ℕ) → IsSome (map.get m k) → k ≤ a
  no_number_above empty k there = le_from_not_gt k a (none_above nat_cmp_total nat_lt is_lt-nat_cmp a values m from above range empty k there)
