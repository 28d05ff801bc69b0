-- What ties a `BTreeMap`, by its entries, to the finite map that the entries make.
use Rattle.books_model.proofs.Common.{◌≡◌, Bool, true, false, cond, List, [], ◌∷◌, length, ◌+◌, ◌⊎◌, inl, inr, Option, Some, None, IsSome, is_some, refl, sym}
use Rattle.books_model.proofs.Common.{ap, subst, ◌∙◌, Ordering, Less, IsTotalOrder, eq_by_cmp_equiv, eq_by_cmp, is_at, keys_of, AllByRecursion}
use Rattle.books_model.proofs.Common.{IsStrictlySortedBy, FinMap, entries, get, insert, remove, len, entries-insert, len-insert, same_map, get-insert}
use Rattle.books_model.proofs.Common.{get-remove, nil_from_length, sorted_tail, CmpEqualImpliesEq, tells_apart}
use Rattle.std.specs.Map.{lookup}
use Rattle.std.specs.FinMap.{find, put, from_entries, empty, get-from_entries, len-entries, len-empty}
use Rattle.std.proofs.lemmas.Map.Keys.{sorted_head}
use Rattle.std.proofs.lemmas.Option.{same_Some}
pub use Rattle.books_model.specs.Inner.Keys.{positions_total, exact_positions}

module _ {K X : Type 0} (R : K → K → Ordering) where
  -- the two searches of entries find the same
  find-lookup : (q : K) (es : List (K × X)) → find R q es ≡ lookup (is_at (R q)) es
  find-lookup q [] = refl
  find-lookup q (e ∷ es) = ap (cond (is_at (R q) e.0) (Some e.1)) (find-lookup q es)

  -- the empty map has no entries
  entries-empty : entries (empty {X = X} {R = R}) ≡ []
  entries-empty = nil_from_length _ (sym (len-entries empty) ∙ len-empty R X)

  -- an entry that is below all others goes in front of them
  put-first : (e : K × X) (es : List (K × X)) → AllByRecursion (λ k. R e.0 k ≡ Less) (keys_of es) → put R e.0 e.1 es ≡ e ∷ es
  put-first e [] below = refl
  put-first e (f ∷ es) below = rw below.0

module _ {K X : Type 0} {R : K → K → Ordering} (o : IsTotalOrder R) where
  -- what the map that entries make has at a key
  pub get-lookup : (es : List (K × X)) (q : K) → get (from_entries {R = R} es) q ≡ lookup (is_at (R q)) es
  get-lookup es q = get-from_entries o es q ∙ find-lookup R q es

  -- entries in order are those of the map that they make
  pub entries-from_entries : (es : List (K × X)) → IsStrictlySortedBy R (keys_of es) → entries (from_entries {R = R} es) ≡ es
  entries-from_entries [] sorted = entries-empty R
  entries-from_entries (e ∷ es) sorted =
      entries-insert o (from_entries es) e.0 e.1
      ∙ ap (put R e.0 e.1) (entries-from_entries es (sorted_tail R e.0 (keys_of es) sorted))
      ∙ put-first R e es (sorted_head R e.0 (keys_of es) sorted)

  -- entries in order are as many as the map that they make has
  pub len-from_entries : (es : List (K × X)) → IsStrictlySortedBy R (keys_of es) → len (from_entries {R = R} es) ≡ length es
  len-from_entries es sorted = len-entries (from_entries es) ∙ ap length (entries-from_entries es sorted)

  module _ (exact : CmpEqualImpliesEq R) where
    -- a map that differs from another at one key is the one changed there
    is_changed : (m n changed : FinMap R X) (k : K) (w : Option X)
        → ((q : K) → get changed q ≡ cond (eq_by_cmp R q k) w (get m q))
        → ((q : K) → get n q ≡ cond (is_at (R k) q) w (get m q))
        → n ≡ changed
    is_changed m n changed k w there here =
        same_map o exact n changed (λ q. here q ∙ ap (λ b. cond b w (get m q)) ((eq_by_cmp_equiv o).symm k q) ∙ sym (there q))

    -- a map with a value put at a key
    pub is_insert : (m n : FinMap R X) (k : K) (v : X) → ((q : K) → get n q ≡ cond (is_at (R k) q) (Some v) (get m q)) → n ≡ insert m k v
    is_insert m n k v = is_changed m n (insert m k v) k (Some v) (get-insert o m k v)

    -- a map with a key taken out
    pub is_remove : (m n : FinMap R X) (k : K) → ((q : K) → get n q ≡ cond (is_at (R k) q) None (get m q)) → n ≡ remove m k
    is_remove m n k = is_changed m n (remove m k) k None (get-remove o m k)

    -- entries that differ from others at one key make maps that differ there
    from_entries-changed : (es fs : List (K × X)) (k : K) (w : Option X)
        → ((q : K) → lookup (is_at (R q)) fs ≡ cond (is_at (R k) q) w (lookup (is_at (R q)) es))
        → (q : K) → get (from_entries {R = R} fs) q ≡ cond (is_at (R k) q) w (get (from_entries {R = R} es) q)
    from_entries-changed es fs k w changed q = get-lookup fs q ∙ changed q ∙ ap (cond (is_at (R k) q) w) (sym (get-lookup es q))

    -- entries with a value put at a key
    pub from_entries-inserted : (es fs : List (K × X)) (k : K) (v : X)
        → ((q : K) → lookup (is_at (R q)) fs ≡ cond (is_at (R k) q) (Some v) (lookup (is_at (R q)) es))
        → from_entries {R = R} fs ≡ insert (from_entries es) k v
    from_entries-inserted es fs k v changed = is_insert (from_entries es) (from_entries fs) k v (from_entries-changed es fs k (Some v) changed)

    -- entries with a key taken out
    pub from_entries-removed : (es fs : List (K × X)) (k : K)
        → ((q : K) → lookup (is_at (R q)) fs ≡ cond (is_at (R k) q) None (lookup (is_at (R q)) es))
        → from_entries {R = R} fs ≡ remove (from_entries es) k
    from_entries-removed es fs k changed = is_remove (from_entries es) (from_entries fs) k (from_entries-changed es fs k None changed)

    -- the cases of what is found after an insertion
    found_cases : (m : FinMap R X) (k q : K) (v w : X) (b : Bool) → eq_by_cmp R q k ≡ b
        → cond b (Some v) (get m q) ≡ Some w → ((q ≡ k) × (v ≡ w)) ⊎ (get m q ≡ Some w)
    found_cases m k q v w true at found = inl (tells_apart exact q k at, same_Some v w found)
    found_cases m k q v w false at found = inr found

    -- what is found after an insertion was put in or was there
    pub found_after_insert : (m : FinMap R X) (k q : K) (v w : X) → get (insert m k v) q ≡ Some w → ((q ≡ k) × (v ≡ w)) ⊎ (get m q ≡ Some w)
    found_after_insert m k q v w found = found_cases m k q v w (eq_by_cmp R q k) refl (sym (get-insert o m k v q) ∙ found)

  -- an insertion takes no key out
  pub stays_after_insert : (m : FinMap R X) (k q : K) (v : X) → IsSome (get m q) → IsSome (get (insert m k v) q)
  stays_after_insert m k q v there =
      subst IsSome (sym (get-insert o m k v q)) (elim (eq_by_cmp R q k) as (λ b. IsSome (cond b (Some v) (get m q))) [ true ↦ refl | false ↦ there ])

  -- an insertion at a key that is there keeps the length
  pub len_after_change : (m : FinMap R X) (k : K) (v : X) → IsSome (get m k) → len (insert m k v) ≡ len m
  len_after_change m k v there = len-insert o m k v ∙ ap (λ b. cond b (len m) (len m + 1)) there

  -- an insertion at a new key makes the map one longer
  pub len_after_insert : (m : FinMap R X) (k : K) (v : X) → get m k ≡ None → len (insert m k v) ≡ len m + 1
  len_after_insert m k v absent = len-insert o m k v ∙ ap (λ x. cond (is_some x) (len m) (len m + 1)) absent
