-- The index of records, made of them one by one in the order of their identifiers.
use Rattle.record_text.proofs.Common.{◌≡◌, ℕ, false, cond, List, [], ◌∷◌, ◌++◌, map, Some, None, refl, sym, ap, ◌∙◌, subst, append_assoc, find, is_at, lookup}
use Rattle.record_text.proofs.Common.{keys_of, IsStrictlySortedBy, nat_cmp, is_eq, ordering_then, nat_cmp_total, Ordering, Less, Equal, Greater, map_push}
use Rattle.record_text.proofs.Common.{positions_total, from_entries-inserted, index_cmp}
use Rattle.std.specs.FinMap.{from_entries_push}
use Rattle.std.specs.List.{AllByRecursion}
use Rattle.std.specs.Ordering.{ordering_reverse}
use Rattle.std.proofs.lemmas.Map.Keys.{sorted_head, sorted_tail}
use Rattle.books_model.proofs.Maps.Trees.{exact_positions}
use Rattle.std.specs.FinMap as finite

-- a record beside its identifier
abbrev pub Stored : Type 0
Stored = ℕ × (ℕ × ℕ)

-- the place of a record in the index, with its data
abbrev pub place_of : Stored → (ℕ × ℕ) × ℕ
place_of e = ((e.1.0, e.0), e.1.1)

-- of all records the earlier ones stand in the index, and these are left
pub record IsIndexed (all earlier left : List Stored) (index : List ((ℕ × ℕ) × ℕ)) : Type 0 where
  pub sorted : IsStrictlySortedBy nat_cmp (keys_of all)
  pub whole : all ≡ earlier ++ left
  pub so_far : finite.from_entries {R = index_cmp} index ≡ finite.from_entries (map place_of earlier)

-- what holds of all keys holds of one in the middle
middle : (P : ℕ → Type 0) (xs : List Stored) (e : Stored) (left : List Stored) → AllByRecursion P (keys_of (xs ++ e ∷ left)) → P e.0
middle P [] e left all = all.0
middle P (x ∷ xs) e left all = middle P xs e left all.1

pub second_decides : (a b : Ordering) → is_eq b ≡ false → is_eq (ordering_then a b) ≡ false
second_decides Less b e = refl
second_decides Equal b e = e
second_decides Greater b e = refl

-- no record before one in the order of identifiers has its place
pub apart : (earlier : List Stored) (e : Stored) (left : List Stored) → IsStrictlySortedBy nat_cmp (keys_of (earlier ++ e ∷ left))
    → find index_cmp (place_of e).0 (map place_of earlier) ≡ None
apart [] e left sorted = refl
apart (x ∷ xs) e left sorted =
    let below : nat_cmp x.0 e.0 ≡ Less = middle (λ y. nat_cmp x.0 y ≡ Less) xs e left (sorted_head nat_cmp x.0 (keys_of (xs ++ e ∷ left)) sorted) in
    let other : is_eq (index_cmp (place_of e).0 (place_of x).0) ≡ false = second_decides (nat_cmp e.1.0 x.1.0) (nat_cmp e.0 x.0)
    (ap is_eq (nat_cmp_total.antisymm e.0 x.0 ∙ ap ordering_reverse below)) in
    ap (λ b. cond b (Some x.1.1) (find index_cmp (place_of e).0 (map place_of xs))) other
    ∙ apart xs e left (sorted_tail nat_cmp x.0 (keys_of (xs ++ e ∷ left)) sorted)

-- one record more is put into the index
pub one_more : (all earlier rest : List Stored) (e : Stored) (left : List Stored) (index longer : List ((ℕ × ℕ) × ℕ)) → rest ≡ e ∷ left
    → ((q : ℕ × ℕ) → lookup (is_at (index_cmp q)) longer ≡ cond (is_at (index_cmp (e.1.0, e.0)) q) (Some e.1.1) (lookup (is_at (index_cmp q)) index))
    → IsIndexed all earlier rest index → IsIndexed all (earlier ++ e ∷ []) left longer
one_more all earlier rest e left index longer is put i =
    let whole : all ≡ earlier ++ e ∷ left = i.whole ∙ ap (λ l. earlier ++ l) is in
    record {
      sorted = i.sorted;
      whole = whole ∙ sym (append_assoc earlier (e ∷ []) left);
      so_far = from_entries-inserted positions_total exact_positions index longer (e.1.0, e.0) e.1.1 put
          ∙ ap (λ m. finite.insert m (e.1.0, e.0) e.1.1) i.so_far
          ∙ sym (from_entries_push positions_total exact_positions (map place_of earlier) (e.1.0, e.0) e.1.1
          (apart earlier e left (subst (λ l. IsStrictlySortedBy nat_cmp (keys_of l)) whole i.sorted)))
          ∙ sym (ap (λ l. finite.from_entries {R = index_cmp} l) (map_push place_of earlier e));
    }
