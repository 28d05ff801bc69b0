-- What rests after an order has entered: if something is left of it, all its partners are filled.
use Rattle.order_text.proofs.Common.{◌≡◌, ◌≢◌, ℕ, ◌+◌, ◌-◌, ◌<◌, Bool, true, false, cond, not, ◌==◌, nat_lt, min, ◌⊎◌, inl, inr, ⊎_elim, List, [], ◌∷◌, ◌++◌}
use Rattle.order_text.proofs.Common.{map, filter, Some, refl, sym, ap, ◌∙◌, subst, arith, eq-eqb, ne_eqb, if◌then◌else◌, Less, Equal, nat_tests, tied_itself}
use Rattle.order_text.proofs.Common.{Resting, Trade, after_trades, has_quantity, may_trade, orders_after, partners, rest_of, serving_cmp, trade_with}
use Rattle.order_text.proofs.Common.{trades_down, volume, by_number}
use Rattle.std.proofs.Common.{find}
use Rattle.std.specs.List.Sorted.{IsStrictlySortedBy}
use Rattle.std.proofs.lemmas.List.Sums.{sum_by-cons}
use mathlib.Core.Logic.{dite}
use native.Mathlib.Decide.{ℕ_discrete}
use Rattle.order_text.specs.Matching.{quantity_of, traded_by}
use Rattle.order_text.proofs.Members.{Has, filtered_has, has_either, has_filtered, has_mapped, of_one}
use Rattle.order_text.proofs.Serving.{number_total, serving_total}
use Rattle.order_text.proofs.Sorting.{has_in_order, in_order_has}
use Rattle.order_text.proofs.Trading.{trades_first}

-- no two orders have one number
abbrev pub AreUnique : List Resting → Type 0
AreUnique orders = (x y : Resting) → Has x orders → Has y orders → x.number ≡ y.number → x ≡ y

not_itself : (x y : Resting) → by_number x y ≡ Less → x.number ≢ y.number
not_itself x y lt e = let tied : by_number x x ≡ Equal = tied_itself number_total x in
    let z : Less ≡ Equal = sym (subst (λ (n : ℕ). by_number x (record y { number = n }) ≡ Less) (sym e) lt) ∙ tied in absurd (cc)

pub unique_numbers : (orders : List Resting) → IsStrictlySortedBy by_number orders → AreUnique orders
unfolding IsStrictlySortedBy
unique_numbers [] rising x y hx hy e = absurd hx
unique_numbers (r ∷ rs) rising x y hx hy e =
    ⊎_elim (λ (ex : x ≡ r). ⊎_elim (λ ey. ex ∙ sym ey)
    (λ ty. absurd (not_itself r y (of_one (λ w. by_number r w ≡ Less) rs y rising.0 ty) (ap (λ (w : Resting). w.number) (sym ex) ∙ e))) hy)
    (λ tx. ⊎_elim (λ (ey : y ≡ r).
    absurd (not_itself r x (of_one (λ w. by_number r w ≡ Less) rs x rising.0 tx) (ap (λ (w : Resting). w.number) (sym ey) ∙ sym e)))
    (λ ty. unique_numbers rs rising.1 x y tx ty e) hy) hx

-- if something is left of an order, each partner traded all that it had
found_first : (n : ℕ) (t : Trade) (ts : List Trade) → t.order ≡ n → find (λ x. x.order == n) (t ∷ ts) ≡ Some t
found_first n t ts e = ap (λ (b : Bool). cond b (Some t) (find (λ x. x.order == n) ts)) (eq-eqb t.order n e)

found_later : (n : ℕ) (t : Trade) (ts : List Trade) → t.order ≢ n → find (λ x. x.order == n) (t ∷ ts) ≡ find (λ x. x.order == n) ts
found_later n t ts e = ap (λ (b : Bool). cond b (Some t) (find (λ x. x.order == n) ts)) (ne_eqb t.order n e)

pub all_filled : (quantity : ℕ) (ps : List Resting) → AreUnique ps → 0 < quantity - volume (trades_down quantity ps) → (r : Resting) → Has r ps
    → traded_by r.number (trades_down quantity ps) ≡ r.quantity
all_filled quantity [] unique left r h = absurd h
all_filled quantity (p ∷ ps) unique left r h =
    let some_left : quantity ≢ 0 = λ e. absurd (omega arith) in
    let rest : List Trade = trades_down (quantity - min p.quantity quantity) ps in
    let first = trades_first quantity p ps some_left in
    let sum : volume (trades_down quantity (p ∷ ps)) ≡ min p.quantity quantity + volume rest =
    ap volume first ∙ sum_by-cons (λ (t : Trade). t.quantity) (trade_with quantity p) rest in
    let whole : min p.quantity quantity ≡ p.quantity = omega arith in
    let later : 0 < (quantity - min p.quantity quantity) - volume rest = omega arith in
    let here : (x : Resting) → x ≡ p → traded_by x.number (trades_down quantity (p ∷ ps)) ≡ x.quantity =
    (λ x e. ap (traded_by x.number) first ∙ (ap quantity_of (found_first x.number (trade_with quantity p) rest (ap (λ (w : Resting). w.number) (sym e)))
    ∙ (whole ∙ ap (λ (w : Resting). w.quantity) (sym e)))) in
    ⊎_elim (λ e. here r e)
    (λ t. dite (ℕ_discrete p.number r.number) (λ e. here r (unique r p (inr t) (inl refl) (sym e)))
    (λ ne. ap (traded_by r.number) first ∙ (ap quantity_of (found_later r.number (trade_with quantity p) rest ne)
    ∙ all_filled (quantity - min p.quantity quantity) ps (λ x y hx hy e. unique x y (inr hx) (inr hy) e) later r t))) h

module _ (order : Resting) (orders : List Resting) (rising : IsStrictlySortedBy by_number orders) where
  abbrev served : List Resting
  served = partners order orders

  abbrev trades : List Trade
  trades = trades_down order.quantity served

  served_rest : (r : Resting) → Has r served → Has r orders
  served_rest r h = (has_filtered (may_trade order) orders r
      (in_order_has (serving_cmp (not order.buys)) (serving_total (not order.buys)) (filter (may_trade order) orders) r h)).0

  served_unique : AreUnique served
  served_unique x y hx hy e = unique_numbers orders rising x y (served_rest x hx) (served_rest y hy) e

  -- nobody with whom it may trade is left
  pub no_partner_left : (r : Resting) → Has r orders → may_trade order r ≡ true → 0 < order.quantity - volume trades
      → has_quantity (after_trades trades r) ≡ false
  no_partner_left r h may left =
      let there = has_in_order (serving_cmp (not order.buys)) (serving_total (not order.buys)) (filter (may_trade order) orders) r
      (filtered_has (may_trade order) orders r h may) in
      let all = all_filled order.quantity served served_unique left r there in
      ap (λ (n : ℕ). nat_lt 0 (r.quantity - n)) all ∙ nothing r.quantity
    where
      nothing : (n : ℕ) → nat_lt 0 (n - n) ≡ false
      nothing n = grind (arith, nat_tests)

-- an order that rested before and has something left, and the new one with what is left of it
abbrev pub Stayed : List Trade → List Resting → Resting → Type 0
Stayed trades orders z = (r : Resting) × (Has r orders × (z ≡ after_trades trades r) × (has_quantity z ≡ true))

abbrev pub IsRest : Resting → ℕ → Resting → Type 0
IsRest order left z = (left ≢ 0) × (z ≡ record order { quantity = left })

-- no other order rests then
pub entered_has : (trades : List Trade) (orders : List Resting) (order : Resting) (left : ℕ) (z : Resting)
    → Has z (orders_after trades orders ++ rest_of order left) → Stayed trades orders z ⊎ IsRest order left z
entered_has trades orders order left z h = ⊎_elim
    (λ (t : Has z (orders_after trades orders)). let f = has_filtered has_quantity (map (after_trades trades) orders) z t in
    let m = has_mapped (after_trades trades) orders z f.0 in inl (m.0, (m.1.0, m.1.1, f.1)))
    (λ (t : Has z (rest_of order left)). inr (by (left == 0) refl t)) (has_either (orders_after trades orders) (rest_of order left) z h)
  where
    by : (b : Bool) → (left == 0) ≡ b → Has z (if b then [] else record order { quantity = left } ∷ []) → IsRest order left z
    by true e t = absurd t
    by false e t = (
      λ none. let both : true ≡ false = sym (eq-eqb left 0 none) ∙ e in absurd (cc),
      ⊎_elim (λ (f : z ≡ record order { quantity = left }). f) (λ n. absurd n) t,
    )
