-- The entries of a finite map: what holds of them all, and sums over them.
use Rattle.books_model.proofs.Common.{◌≡◌, ℕ, ◌+◌, ◌*◌, ◌-◌, ◌||◌, ◌<◌, ◌≤◌, Bool, true, false, cond, List, [], ◌∷◌, length, Option, Some, None, IsSome}
use Rattle.books_model.proofs.Common.{is_some, inl, inr, refl, sym, ap, subst, ◌∙◌, arith, Ordering, Less, Equal, Greater, IsTotalOrder, tied_itself, eq_by_cmp}
use Rattle.books_model.proofs.Common.{is_eq, AllByRecursion, sum_by, list_any, FinMap, get, insert, remove, len, entries, get-insert, get-remove}
use Rattle.books_model.proofs.Common.{entries-insert, len-insert, same_map, is_sorted, below_all, cases_lt, sum_by-cons, CmpEqualImpliesEq, tells_apart, set_at}
use Rattle.std.proofs.Common.{T, filter}
use Rattle.std.specs.FinMap.{get-entries, get-empty, entries_sorted, len-remove, empty_of_len}
use Rattle.std.specs.FinMap.Entries.{find, put, by_order}
use Rattle.books_model.proofs.Maps.Keys.{below_first, below_rest, sorted_first, sorted_rest, below_less}

-- a property of all entries, at another function that is the same at them
pub AllByRecursion-weaker : {X : Type 0} (P Q : X → Type 0) → ((x : X) → P x → Q x) → (xs : List X) → AllByRecursion P xs → AllByRecursion Q xs
AllByRecursion-weaker P Q f [] h = h
AllByRecursion-weaker P Q f (x ∷ xs) h = (f x h.0, AllByRecursion-weaker P Q f xs h.1)

-- sums of equal terms are equal
pub sum_by-same : {X : Type 0} (f g : X → ℕ) (xs : List X) → AllByRecursion (λ x. f x ≡ g x) xs → sum_by f xs ≡ sum_by g xs
sum_by-same f g [] h = refl
sum_by-same f g (x ∷ xs) h = let e = h.0 in let rest = sum_by-same f g xs h.1 in omega (arith, sum_by-cons f x xs, sum_by-cons g x xs)

-- a sum of sums
pub sum_by-plus : {X : Type 0} (f g h : X → ℕ) → ((x : X) → f x ≡ g x + h x) → (xs : List X) → sum_by f xs ≡ sum_by g xs + sum_by h xs
sum_by-plus f g h is [] = refl
sum_by-plus f g h is (x ∷ xs) = let e = is x in let rest = sum_by-plus f g h is xs in omega (arith, sum_by-cons f x xs, sum_by-cons g x xs, sum_by-cons h x xs)

-- a sum of terms that are at most some number
pub sum_by-most : {X : Type 0} (f : X → ℕ) (most : ℕ) (xs : List X) → AllByRecursion (λ x. f x ≤ most) xs → sum_by f xs ≤ length xs * most
sum_by-most f most [] h = omega arith
sum_by-most f most (x ∷ xs) h = let e = h.0 in let rest = sum_by-most f most xs h.1 in
    let s : length (x ∷ xs) * most ≡ most + length xs * most = omega arith in omega (arith, sum_by-cons f x xs)

-- a sum over what passes a test
pub sum_by-filter : {X : Type 0} (p : X → Bool) (f : X → ℕ) (xs : List X) → sum_by f (filter p xs) ≡ sum_by (λ x. cond (p x) (f x) 0) xs
sum_by-filter p f [] = refl
sum_by-filter p f (x ∷ xs) =
    let rest = sum_by-filter p f xs in
    elim (p x) as (λ b. p x ≡ b → sum_by f (cond b (x ∷ filter p xs) (filter p xs)) ≡ sum_by (λ x. cond (p x) (f x) 0) (x ∷ xs)) [
      | true ↦ λ e. let t : cond (p x) (f x) 0 ≡ f x = ap (λ b. cond b (f x) 0) e in
          omega (arith, sum_by-cons f x (filter p xs), sum_by-cons (λ x. cond (p x) (f x) 0) x xs)
      | false ↦ λ e. let t : cond (p x) (f x) 0 ≡ 0 = ap (λ b. cond b (f x) 0) e in omega (arith, sum_by-cons (λ x. cond (p x) (f x) 0) x xs)
    ] refl

-- the term of a key with a value, and 0 with none
abbrev pub weigh : {K : Type 0} → (K × ℕ → ℕ) → K → Option ℕ → ℕ
weigh f k None = 0
weigh f k (Some v) = f (k, v)

module _ {K : Type 0} {R : K → K → Ordering} (o : IsTotalOrder R) where
  -- nothing is found at a key below all others
  find_below : {X : Type 0} (q : K) (es : List (K × X)) → T (below_all R q es) → find R q es ≡ None
  find_below q [] h = refl
  find_below q (e ∷ es) h = ap (λ r. cond (is_eq r) (Some e.1) (find R q es)) (below_first R q e es h) ∙ find_below q es (below_rest R q e es h)

  module _ (exact : CmpEqualImpliesEq R) where
    -- no entry passes a test that a key passes with every value: the key is not there
    pub none_found : {X : Type 0} (p : K × X → Bool) (q : K) (es : List (K × X)) → ((v : X) → p (q, v) ≡ true) → list_any p es ≡ false → find R q es ≡ None
    none_found p q [] passes none = refl
    none_found p q (e ∷ es) passes none =
        elim (eq_by_cmp R q e.0) as (λ b. eq_by_cmp R q e.0 ≡ b → cond b (Some e.1) (find R q es) ≡ None) [
          | true ↦ λ at. let this : p e ≡ true = ap (λ k. p (k, e.1)) (sym (tells_apart exact q e.0 at)) ∙ passes e.1 in
              absurd (not_both (p e) (list_any p es) this none)
          | false ↦ λ _. none_found p q es passes (not_later (p e) (list_any p es) none)
        ] refl
      where
        not_both : (a b : Bool) → a ≡ true → (a || b) ≡ false → ⊥
        not_both true b e f = cc
        not_both false b e f = cc

        not_later : (a b : Bool) → (a || b) ≡ false → b ≡ false
        not_later true b f = absurd (cc)
        not_later false b f = f

    -- an entry that is found passes a test, so some entry does
    pub some_found : {X : Type 0} (p : K × X → Bool) (q : K) (v : X) (es : List (K × X)) → find R q es ≡ Some v → p (q, v) ≡ true → list_any p es ≡ true
    some_found p q v [] found passes = absurd (cc)
    some_found p q v (e ∷ es) found passes =
        elim (eq_by_cmp R q e.0) as (λ b. eq_by_cmp R q e.0 ≡ b → cond b (Some e.1) (find R q es) ≡ Some v → list_any p (e ∷ es) ≡ true) [
          | true ↦ λ at f. let value : e.1 ≡ v = cc in let this : p e ≡ true =
              ap (λ k. p (k, e.1)) (sym (tells_apart exact q e.0 at)) ∙ ap (λ w. p (q, w)) value ∙ passes in ap (λ b. b || list_any p es) this
          | false ↦ λ _ f. or_later (p e) (list_any p es) (some_found p q v es f passes)
        ] refl found
      where
        or_later : (a b : Bool) → b ≡ true → (a || b) ≡ true
        or_later true b e = refl
        or_later false b e = e

    -- what holds of each key with its value holds of all entries
    all_entries : {X : Type 0} (P : K × X → Type 0) (es : List (K × X)) → T (is_sorted R es)
        → ((k : K) (v : X) → find R k es ≡ Some v → P (k, v)) → AllByRecursion P es
    all_entries P [] sorted each = tt
    all_entries P (e ∷ es) sorted each = (
      each e.0 e.1 (ap (λ r. cond (is_eq r) (Some e.1) (find R e.0 es)) (tied_itself o e.0)),
      all_entries P es (sorted_rest R e es sorted) (λ k v found. each k v (further k v found)),
    )
      where
        further : (k : K) (v : _) → find R k es ≡ Some v → find R k (e ∷ es) ≡ Some v
        further k v found = elim (eq_by_cmp R k e.0) as (λ b. eq_by_cmp R k e.0 ≡ b → cond b (Some e.1) (find R k es) ≡ Some v) [
          | true ↦ λ at. let none : find R k es ≡ None = ap (λ q. find R q es) (tells_apart exact k e.0 at)
              ∙ find_below e.0 es (sorted_first R e es sorted) in absurd (cc)
          | false ↦ λ _. found
        ] refl

    pub All-entries : {X : Type 0} (P : K × X → Type 0) (m : FinMap R X) → ((k : K) (v : X) → get m k ≡ Some v → P (k, v)) → AllByRecursion P (entries m)
    All-entries P m each = all_entries P (entries m) (entries_sorted m) (λ k v found. each k v (get-entries m k ∙ found))

    -- the sum after a value is put in its place
    sum_by-put : (f : K × ℕ → ℕ) (k : K) (v : ℕ) (es : List (K × ℕ)) → T (is_sorted R es)
        → sum_by f (put R k v es) + weigh f k (find R k es) ≡ sum_by f es + f (k, v)
    sum_by-put f k v [] sorted = omega (arith, sum_by-cons f (k, v) [])
    sum_by-put f k v (e ∷ es) sorted =
        elim (R k e.0) as (λ r. R k e.0 ≡ r → sum_by f (by_order r ((k, v) ∷ e ∷ es) ((e.0, v) ∷ es) (e ∷ put R k v es))
        + weigh f k (cond (is_eq r) (Some e.1) (find R k es)) ≡ sum_by f (e ∷ es) + f (k, v)) [
          | Less ↦ λ less.
              let none : weigh f k (find R k es) ≡ 0 = ap (weigh f k) (find_below k es (below_less R o k e.0 es less (sorted_first R e es sorted))) in
              omega (arith, sum_by-cons f (k, v) (e ∷ es))
          | Equal ↦ λ same.
              let here : f (e.0, v) ≡ f (k, v) = ap (λ q. f (q, v)) (sym (exact k e.0 same)) in
              let was : f (k, e.1) ≡ f e = ap (λ q. f (q, e.1)) (exact k e.0 same) in
              omega (arith, sum_by-cons f (e.0, v) es, sum_by-cons f e es)
          | Greater ↦ λ more.
              let rest = sum_by-put f k v es (sorted_rest R e es sorted) in
              omega (arith, sum_by-cons f e (put R k v es), sum_by-cons f e es)
        ] refl

    sum_by-insert : (f : K × ℕ → ℕ) (m : FinMap R ℕ) (k : K) (v : ℕ) → sum_by f (entries (insert m k v)) + weigh f k (get m k) ≡ sum_by f (entries m) + f (k, v)
    sum_by-insert f m k v =
        ap (λ es. sum_by f es + weigh f k (get m k)) (entries-insert o m k v)
        ∙ ap (λ x. sum_by f (put R k v (entries m)) + weigh f k x) (get-entries m k)
        ∙ sum_by-put f k v (entries m) (entries_sorted m)

    -- a value that was taken out, put in again
    put_again : (m : FinMap R ℕ) (k : K) (v : ℕ) → get m k ≡ Some v → insert (remove m k) k v ≡ m
    put_again m k v there = same_map o exact (insert (remove m k) k v) m (λ q.
        get-insert o (remove m k) k v q ∙ ap (cond (eq_by_cmp R q k) (Some v)) (get-remove o m k q)
        ∙ elim (eq_by_cmp R q k) as (λ b. eq_by_cmp R q k ≡ b → cond b (Some v) (cond b None (get m q)) ≡ get m q) [
          | true ↦ λ at. sym (ap (get m) (tells_apart exact q k at) ∙ there)
          | false ↦ λ _. refl
        ] refl)

    -- to take out what is not there changes nothing
    remove_none : (m : FinMap R ℕ) (k : K) → get m k ≡ None → remove m k ≡ m
    remove_none m k none = same_map o exact (remove m k) m (λ q.
        get-remove o m k q
        ∙ elim (eq_by_cmp R q k) as (λ b. eq_by_cmp R q k ≡ b → cond b None (get m q) ≡ get m q) [
          | true ↦ λ at. sym (ap (get m) (tells_apart exact q k at) ∙ none)
          | false ↦ λ _. refl
        ] refl)

    get_removed : (m : FinMap R ℕ) (k : K) → get (remove m k) k ≡ None
    get_removed m k = get-remove o m k k ∙ ap (λ r. cond (is_eq r) None (get m k)) (tied_itself o k)

    -- the sum after a change at a key
    pub sum_by-set_at : (f : K × ℕ → ℕ) (m : FinMap R ℕ) (k : K) (w : Option ℕ)
        → sum_by f (entries (set_at m k w)) + weigh f k (get m k) ≡ sum_by f (entries m) + weigh f k w
    sum_by-set_at f m k (Some v) = sum_by-insert f m k v
    sum_by-set_at f m k None = elim (get m k) as (λ x. get m k ≡ x → sum_by f (entries (remove m k)) + weigh f k x ≡ sum_by f (entries m) + 0) [
      | Some v ↦ λ there.
          let again : sum_by f (entries (insert (remove m k) k v)) ≡ sum_by f (entries m) = ap (λ n. sum_by f (entries n)) (put_again m k v there) in
          let none : weigh f k (get (remove m k) k) ≡ 0 = ap (weigh f k) (get_removed m k) in
          omega (arith, sum_by-insert f (remove m k) k v)
      | None ↦ λ none. let same : sum_by f (entries (remove m k)) ≡ sum_by f (entries m) = ap (λ n. sum_by f (entries n)) (remove_none m k none) in omega arith
    ] refl

    -- a sum whose terms are 0 but at one key is its term
    pub sum_by-one : (f : K × ℕ → ℕ) (m : FinMap R ℕ) (k : K)
        → ((q : K) (v : ℕ) → eq_by_cmp R q k ≡ false → f (q, v) ≡ 0) → sum_by f (entries m) ≡ weigh f k (get m k)
    sum_by-one f m k apart =
        let zero : sum_by f (entries (remove m k)) ≡ 0 =
        all_zero f (entries (remove m k))
        (All-entries (λ e. f e ≡ 0) (remove m k) (λ q v there. elim (eq_by_cmp R q k) as (λ b. eq_by_cmp R q k ≡ b → f (q, v) ≡ 0) [
          | true ↦ λ at. let none : get (remove m k) q ≡ None = ap (get (remove m k)) (tells_apart exact q k at) ∙ get_removed m k in absurd (cc)
          | false ↦ λ e. apart q v e
        ] refl)) in
        omega (arith, sum_by-set_at f m k None)
      where
        all_zero : {X : Type 0} (f : X → ℕ) (xs : List X) → AllByRecursion (λ x. f x ≡ 0) xs → sum_by f xs ≡ 0
        all_zero f [] h = refl
        all_zero f (x ∷ xs) h = let e = h.0 in let rest = all_zero f xs h.1 in omega (arith, sum_by-cons f x xs)

  -- a map that has a key is not empty
  pub len_positive : {X : Type 0} (m : FinMap R X) (k : K) → IsSome (get m k) → 0 < len m
  len_positive {X} m k there = elim (cases_lt 0 (len m)) [
    | inl more ↦ more
    | inr none ↦
        let nothing : get m k ≡ None = ap (λ n. get n k) (empty_of_len m (omega arith)) ∙ get-empty R k in
        let found : IsSome {T = X} None = subst IsSome nothing there in
        absurd (cc)
  ]

  -- how many entries there are after a change at a key
  pub len-set_at : (m : FinMap R ℕ) (k : K) (w : Option ℕ) → len (set_at m k w) + cond (is_some (get m k)) 1 0 ≡ len m + cond (is_some w) 1 0
  len-set_at m k (Some v) = elim (is_some (get m k)) as (λ b. len (insert m k v) ≡ cond b (len m) (len m + 1) → len (insert m k v) + cond b 1 0 ≡ len m + 1) [
    | true ↦ λ e. omega arith
    | false ↦ λ e. omega arith
  ] (len-insert o m k v)
  len-set_at m k None = elim (is_some (get m k)) as (λ b. is_some (get m k) ≡ b
      → len (remove m k) ≡ cond b (len m - 1) (len m) → len (remove m k) + cond b 1 0 ≡ len m + 0) [
        | true ↦ λ there e. let more = len_positive m k there in omega arith
        | false ↦ λ _ e. omega arith
      ] refl (len-remove o m k)
