-- In which order resting orders are served: a total order, in which no two orders of a book tie.
use Rattle.order_text.proofs.Common.{◌≡◌, Bool, true, false, List, [], ◌∷◌, refl, ap, eq_by_cmp, is_eq, nat_cmp, IsTotalOrder, Ordering, Less, Equal, Greater}
use Rattle.order_text.proofs.Common.{Resting, serving_cmp, by_number}
use Rattle.std.specs.List.{IsDistinct}
use Rattle.std.specs.List.Sorted.{IsStrictlySortedBy}
use Rattle.std.specs.Ordering.{ordering_then}
use Rattle.std.proofs.lemmas.Cmp.{back_total, nat_cmp_total, on_total, then_total}
use Rattle.order_text.proofs.Members.{of_all, of_one}

pub serving_total : (buys : Bool) → IsTotalOrder (serving_cmp buys)
serving_total true = then_total (on_total (λ (r : Resting). r.price) (back_total nat_cmp_total)) (on_total (λ (r : Resting). r.number) nat_cmp_total)
serving_total false = then_total (on_total (λ (r : Resting). r.price) nat_cmp_total) (on_total (λ (r : Resting). r.number) nat_cmp_total)

pub number_total : IsTotalOrder by_number
number_total = on_total (λ (r : Resting). r.number) nat_cmp_total

second_decides : (a b : Ordering) → is_eq b ≡ false → is_eq (ordering_then a b) ≡ false
second_decides Less b e = refl
second_decides Equal b e = e
second_decides Greater b e = refl

-- orders whose numbers rise do not tie
pub none_tie : (buys : Bool) (orders : List Resting) → IsStrictlySortedBy by_number orders → IsDistinct (eq_by_cmp (serving_cmp buys)) orders
unfolding IsStrictlySortedBy IsDistinct
none_tie buys [] rising = tt
none_tie buys (r ∷ rs) rising = (
  of_all (λ z. eq_by_cmp (serving_cmp buys) r z ≡ false) rs (λ z t.
      second_decides _ (nat_cmp r.number z.number) (ap is_eq (of_one (λ w. by_number r w ≡ Less) rs z rising.0 t))),
  none_tie buys rs rising.1,
)
