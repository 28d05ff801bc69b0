-- Keys that rise, and what stands behind them.
use Rattle.script_reader.proofs.Common.{◌≡◌, ℕ, ◌<◌, Bool, true, false, ◌&&◌, ◌||◌, ◌==◌, cond, nat_lt, List, [], ◌∷◌, ◌++◌, refl, sym, ap, subst, ◌∙◌}
use Rattle.script_reader.proofs.Common.{append_assoc, Some, None, AllByRecursion, nat_cmp, is_eq, is_lt, Ordering, Less, Equal, Greater, find, get-entries}
use Rattle.script_reader.proofs.Common.{ranked, lt-ltb, eq-eqb, eqb-true, position_cmp, is_below}
use Rattle.std.proofs.Common.{T}
use Rattle.std.specs.Cmp.{IsTotalOrder, nat_cmp_is}
use Rattle.std.specs.Ordering.{ordering_then, ordering_reverse}
use Rattle.std.specs.FinMap.{put, is_sorted, entries-insert, entries_sorted}
use Rattle.std.specs.FinMap.Entries.{below_all}
use Rattle.std.proofs.lemmas.Bool.{ltb-true}
use Rattle.script_reader.proofs.Conditions.{both, and_true, or_right}
use Rattle.std.specs.FinMap as map

-- each of some elements stands below those behind it, and those before them all stand below each
unfoldable pub Rises : {A : Type 0} → (A → A → Type 0) → List A → List A → Type 0
Rises below done [] = Unit {0}
Rises below done (e ∷ rest) = AllByRecursion (λ x. below x e) done × Rises below (done ++ e ∷ []) rest

-- a test that passes is true
pub passes : (b : Bool) → T b → b ≡ true
passes true h = refl
passes false h = absurd h

-- an order that is less
pub less_is : (r : Ordering) → is_lt r ≡ true → r ≡ Less
less_is Less h = refl
less_is Equal h = cc
less_is Greater h = cc

module _ {K X : Type 0} (R : K → K → Ordering) where
  -- a key that is below all of some entries is below one of them
  below_middle : (x : K) (done : List (K × X)) (y : K × X) (rest : List (K × X)) → below_all R x (done ++ y ∷ rest) ≡ true → R x y.0 ≡ Less
  below_middle x [] y rest h = less_is (R x y.0) (both h).0
  below_middle x (e ∷ done) y rest h = below_middle x done y rest (both h).1

  -- keys in order before one are below it
  sorted_before : (done : List (K × X)) (y : K × X) (rest : List (K × X)) → is_sorted R (done ++ y ∷ rest) ≡ true → AllByRecursion (λ e. R e.0 y.0 ≡ Less) done
  sorted_before [] y rest h = tt
  sorted_before (e ∷ done) y rest h = (below_middle e.0 done y rest (both h).0, sorted_before done y rest (both h).1)

  -- sorted entries rise
  rises_sorted : (done rest : List (K × X)) → is_sorted R (done ++ rest) ≡ true → Rises (λ x e. R x.0 e.0 ≡ Less) done rest
  unfolding Rises
  rises_sorted done [] h = tt
  rises_sorted done (e ∷ rest) h =
      (sorted_before done e rest h, rises_sorted (done ++ e ∷ []) rest (subst (λ es. is_sorted R es ≡ true) (sym (append_assoc done (e ∷ []) rest)) h))

  pub rises_entries : (m : map.FinMap R X) → Rises (λ x e. R x.0 e.0 ≡ Less) [] (map.entries m)
  rises_entries m = rises_sorted [] (map.entries m) (passes _ (entries_sorted m))

  -- an entry above all others goes behind them
  put_above : (k : K) (v : X) (es : List (K × X)) → AllByRecursion (λ e. R k e.0 ≡ Greater) es → put R k v es ≡ es ++ (k, v) ∷ []
  put_above k v [] all = refl
  put_above k v (e ∷ es) all = let r : R k e.0 ≡ Greater = all.0 in rw r (ap (λ l. e ∷ l) (put_above k v es all.1))

  above : (o : IsTotalOrder R) (k : K) (es : List (K × X)) → AllByRecursion (λ e. R e.0 k ≡ Less) es → AllByRecursion (λ e. R k e.0 ≡ Greater) es
  above o k [] all = tt
  above o k (e ∷ es) all = (o.antisymm k e.0 ∙ ap ordering_reverse all.0, above o k es all.1)

  pub entries_above : (o : IsTotalOrder R) (m : map.FinMap R X) (k : K) (v : X)
      → AllByRecursion (λ e. R e.0 k ≡ Less) (map.entries m) → map.entries (map.insert m k v) ≡ map.entries m ++ (k, v) ∷ []
  entries_above o m k v all = entries-insert o m k v ∙ put_above k v (map.entries m) (above o k (map.entries m) all)

  find_above : (k : K) (es : List (K × X)) → AllByRecursion (λ e. R k e.0 ≡ Greater) es → find R k es ≡ None
  find_above k [] all = refl
  find_above k (e ∷ es) all = ap (λ r. cond (is_eq r) (Some e.1) (find R k es)) all.0 ∙ find_above k es all.1

  pub absent_above : (o : IsTotalOrder R) (m : map.FinMap R X) (k : K) → AllByRecursion (λ e. R e.0 k ≡ Less) (map.entries m) → map.get m k ≡ None
  absent_above o m k all = get-entries m k ∙ find_above k (map.entries m) (above o k (map.entries m) all)

-- what holds of each element by one test holds of each by another that follows
pub all_follow : {A : Type 0} (P Q : A → Type 0) (xs : List A) → ((x : A) → P x → Q x) → AllByRecursion P xs → AllByRecursion Q xs
all_follow P Q [] follows all = tt
all_follow P Q (x ∷ xs) follows all = (follows x all.0, all_follow P Q xs follows all.1)

pub rises_follow : {A : Type 0} (P Q : A → A → Type 0) (done rest : List A) → ((x e : A) → P x e → Q x e) → Rises P done rest → Rises Q done rest
unfolding Rises
rises_follow P Q done [] follows all = tt
rises_follow P Q done (e ∷ rest) follows all = (
  all_follow (λ x. P x e) (λ x. Q x e) done (λ x h. follows x e h) all.0,
  rises_follow P Q (done ++ e ∷ []) rest follows all.1,
)

-- less by the order of numbers is below, and the other way round
pub number_less : (x y : ℕ) → nat_cmp x y ≡ Less → x < y
number_less x y h = ranked x y Less (sym h)

pub less_number : (x y : ℕ) → x < y → nat_cmp x y ≡ Less
less_number x y h = sym (nat_cmp_is x y Less h)

-- and so by the order of positions
pub pair_less : (x y : ℕ × ℕ) → position_cmp x y ≡ Less → is_below x y ≡ true
pair_less x y h = by (nat_cmp x.0 y.0) refl h
  where
    by : (r : Ordering) → nat_cmp x.0 y.0 ≡ r → ordering_then r (nat_cmp x.1 y.1) ≡ Less → is_below x y ≡ true
    by Less e g = ap (λ b. b || ((x.0 == y.0) && nat_lt x.1 y.1)) (lt-ltb x.0 y.0 (number_less x.0 y.0 e))
    by Equal e g = or_right (nat_lt x.0 y.0) (and_true (eq-eqb x.0 y.0 (ranked x.0 y.0 Equal (sym e))) (lt-ltb x.1 y.1 (number_less x.1 y.1 g)))
    by Greater e g = cc

pub less_pair : (x y : ℕ × ℕ) → is_below x y ≡ true → position_cmp x y ≡ Less
less_pair x y h = by (nat_lt x.0 y.0) refl h
  where
    by : (b : Bool) → nat_lt x.0 y.0 ≡ b → (b || ((x.0 == y.0) && nat_lt x.1 y.1)) ≡ true → position_cmp x y ≡ Less
    by true e g = ap (λ r. ordering_then r (nat_cmp x.1 y.1)) (less_number x.0 y.0 (ltb-true x.0 y.0 e))
    by false e g =
        let parts = both g in
        let same : nat_cmp x.0 y.0 ≡ Equal = sym (nat_cmp_is x.0 y.0 Equal (eqb-true x.0 y.0 parts.0)) in
        ap (λ r. ordering_then r (nat_cmp x.1 y.1)) same ∙ less_number x.1 y.1 (ltb-true x.1 y.1 parts.1)

-- a key compares as equal to itself
itself : {K : Type 0} (R : K → K → Ordering) (o : IsTotalOrder R) (k : K) → R k k ≡ Equal
itself R o k = by (R k k) (o.antisymm k k)
  where
    by : (r : Ordering) → r ≡ ordering_reverse r → r ≡ Equal
    by Less h = cc
    by Equal h = refl
    by Greater h = cc

module _ {K X : Type 0} (R : K → K → Ordering) (o : IsTotalOrder R) where
  -- an entry behind lower keys is found
  find_middle : (done : List (K × X)) (y : K × X) (rest : List (K × X)) → AllByRecursion (λ e. R e.0 y.0 ≡ Less) done → find R y.0 (done ++ y ∷ rest) ≡ Some y.1
  find_middle [] y rest all = ap (λ r. cond (is_eq r) (Some y.1) (find R y.0 rest)) (itself R o y.0)
  find_middle (e ∷ done) y rest all =
      ap (λ r. cond (is_eq r) (Some e.1) (find R y.0 (done ++ y ∷ rest))) (o.antisymm y.0 e.0 ∙ ap ordering_reverse all.0) ∙ find_middle done y rest all.1

  each_found : (P : K × X → Type 0) (m : map.FinMap R X) → ((e : K × X) → map.get m e.0 ≡ Some e.1 → P e)
      → (done rest : List (K × X)) → map.entries m ≡ done ++ rest
      → Rises (λ x e. R x.0 e.0 ≡ Less) done rest → AllByRecursion P rest
  unfolding Rises
  each_found P m each done [] whole rises = tt
  each_found P m each done (e ∷ rest) whole rises = (
    each e (get-entries m e.0 ∙ ap (find R e.0) whole ∙ find_middle done e rest rises.0),
    each_found P m each (done ++ e ∷ []) rest (whole ∙ sym (append_assoc done (e ∷ []) rest)) rises.1,
  )

  -- what holds of each key with its value holds of each entry
  pub each_entry : (P : K × X → Type 0) (m : map.FinMap R X) → ((e : K × X) → map.get m e.0 ≡ Some e.1 → P e) → AllByRecursion P (map.entries m)
  each_entry P m each = each_found P m each [] (map.entries m) refl (rises_entries R m)
