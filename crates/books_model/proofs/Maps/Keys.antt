-- Keys in order: in a list in order each is below those behind it.
use Rattle.books_model.proofs.Common.{sym, subst, Ordering, Less, Equal, Greater, IsTotalOrder, nat_cmp, is_lt, below_all, is_sorted}
use Rattle.std.specs.Prelude.{◌≡◌, ℕ, Bool, true, false, cond, nat_lt, ◌==◌, ◌&&◌, T, List, [], ◌∷◌, refl}

first_of : (a b : Bool) → T (a && b) → T a
first_of true b h = tt
first_of false b h = h

second_of : (a b : Bool) → T (a && b) → T b
second_of true b h = h
second_of false b h = absurd h

-- an order that is less
pub less_of : (r : Ordering) → T (is_lt r) → r ≡ Less
less_of Less h = refl
less_of Equal h = absurd h
less_of Greater h = absurd h

-- one number below another by the order of numbers
pub is_lt-nat_cmp : (a b : ℕ) → nat_lt a b ≡ is_lt (nat_cmp a b)
is_lt-nat_cmp a b = of_tests (nat_lt a b) (a == b) where
  of_tests : (above same : Bool) → above ≡ is_lt (cond above Less (cond same Equal Greater))
  of_tests true same = refl
  of_tests false true = refl
  of_tests false false = refl

module _ {K X : Type 0} (R : K → K → Ordering) where
  -- a key below all is below the first
  pub below_first : (x : K) (e : K × X) (es : List (K × X)) → T (below_all R x (e ∷ es)) → R x e.0 ≡ Less
  below_first x e es h = less_of (R x e.0) (first_of (is_lt (R x e.0)) (below_all R x es) h)

  -- and below the others
  pub below_rest : (x : K) (e : K × X) (es : List (K × X)) → T (below_all R x (e ∷ es)) → T (below_all R x es)
  below_rest x e es h = second_of (is_lt (R x e.0)) (below_all R x es) h

  -- the first key is below the others
  pub sorted_first : (e : K × X) (es : List (K × X)) → T (is_sorted R (e ∷ es)) → T (below_all R e.0 es)
  sorted_first e es h = first_of (below_all R e.0 es) (is_sorted R es) h

  -- and they are in order
  pub sorted_rest : (e : K × X) (es : List (K × X)) → T (is_sorted R (e ∷ es)) → T (is_sorted R es)
  sorted_rest e es h = second_of (below_all R e.0 es) (is_sorted R es) h

  -- a key below one that is below all is below all
  pub below_less : IsTotalOrder R → (x y : K) (es : List (K × X)) → R x y ≡ Less → T (below_all R y es) → T (below_all R x es)
  below_less o x y [] less h = tt
  below_less o x y (e ∷ es) less h =
      subst (λ r. T (is_lt r && below_all R x es)) (sym (o.trans x y e.0 less (below_first y e es h))) (below_less o x y es less (below_rest y e es h))
