-- Best prices, and the prices of all orders: each is reached, and none is better.
use Rattle.order_text.proofs.Common.{◌≡◌, ◌≢◌, ℕ, ◌<◌, ◌≤◌, Bool, true, false, not, ◌&&◌, ◌==◌, min, inl, inr, ⊎_elim, List, [], ◌∷◌, refl, sym, ap, ◌∙◌, arith}
use Rattle.order_text.proofs.Common.{eq-eqb, if◌then◌else◌, unwrap_or, cases_lt, nat_tests, Resting, BestPricesApart, best_buy, best_sell, is_on}
use Rattle.std.proofs.Common.{max}
use Rattle.std.specs.List.{fold, reduce}
use Rattle.order_text.specs.Orders.{prices_on}
use Rattle.order_text.proofs.Members.{Has, filtered_has, has_filtered, has_mapped, mapped_has}

-- the greatest and the least of numbers
greatest_at : (a : ℕ) (xs : List ℕ) → Has (fold max a xs) (a ∷ xs)
greatest_at a [] = inl refl
greatest_at a (x ∷ xs) = ⊎_elim (λ (e : fold max (max a x) xs ≡ max a x). ⊎_elim
    (λ (lt : a < x). let m : max a x ≡ x = omega arith in inr (inl (e ∙ m)))
    (λ (le : x ≤ a). let m : max a x ≡ a = omega arith in inl (e ∙ m)) (cases_lt a x))
    (λ t. inr (inr t)) (greatest_at (max a x) xs)

greatest_over : (a : ℕ) (xs : List ℕ) (p : ℕ) → Has p (a ∷ xs) → p ≤ fold max a xs
greatest_over a [] p h = ⊎_elim (λ (e : p ≡ a). omega arith) (λ t. absurd t) h
greatest_over a (x ∷ xs) p h = let over : max a x ≤ fold max (max a x) xs = greatest_over (max a x) xs (max a x) (inl refl) in
    ⊎_elim (λ (e : p ≡ a). omega arith) (λ t. ⊎_elim (λ (e : p ≡ x). omega arith) (λ u. greatest_over (max a x) xs p (inr u)) t) h

least_at : (a : ℕ) (xs : List ℕ) → Has (fold min a xs) (a ∷ xs)
least_at a [] = inl refl
least_at a (x ∷ xs) = ⊎_elim (λ (e : fold min (min a x) xs ≡ min a x). ⊎_elim
    (λ (lt : a < x). let m : min a x ≡ a = omega arith in inl (e ∙ m))
    (λ (le : x ≤ a). let m : min a x ≡ x = omega arith in inr (inl (e ∙ m))) (cases_lt a x))
    (λ t. inr (inr t)) (least_at (min a x) xs)

least_under : (a : ℕ) (xs : List ℕ) (p : ℕ) → Has p (a ∷ xs) → fold min a xs ≤ p
least_under a [] p h = ⊎_elim (λ (e : p ≡ a). omega arith) (λ t. absurd t) h
least_under a (x ∷ xs) p h = let under : fold min (min a x) xs ≤ min a x = least_under (min a x) xs (min a x) (inl refl) in
    ⊎_elim (λ (e : p ≡ a). omega arith) (λ t. ⊎_elim (λ (e : p ≡ x). omega arith) (λ u. least_under (min a x) xs p (inr u)) t) h

abbrev highest : List ℕ → ℕ
highest prices = unwrap_or (reduce max prices) 0

abbrev lowest : List ℕ → ℕ
lowest prices = unwrap_or (reduce min prices) 0

highest_at : (prices : List ℕ) → highest prices ≢ 0 → Has (highest prices) prices
highest_at [] some_price = absurd (some_price refl)
highest_at (p ∷ ps) some_price = greatest_at p ps

highest_over : (prices : List ℕ) (p : ℕ) → Has p prices → p ≤ highest prices
highest_over [] p h = absurd h
highest_over (q ∷ ps) p h = greatest_over q ps p h

lowest_at : (prices : List ℕ) → lowest prices ≢ 0 → Has (lowest prices) prices
lowest_at [] some_price = absurd (some_price refl)
lowest_at (p ∷ ps) some_price = least_at p ps

lowest_under : (prices : List ℕ) (p : ℕ) → Has p prices → lowest prices ≤ p
lowest_under [] p h = absurd h
lowest_under (q ∷ ps) p h = least_under q ps p h

lowest_of_some : (prices : List ℕ) (p : ℕ) → Has p prices → Has (lowest prices) prices
lowest_of_some [] p h = absurd h
lowest_of_some (q ∷ ps) p h = least_at q ps

-- what the test of an order's instrument and side says
both_true : (a b : Bool) → (a && b) ≡ true → (a ≡ true) × (b ≡ true)
both_true true true e = (refl, refl)
both_true true false e = absurd (cc)
both_true false b e = absurd (cc)

side_is : (buys b : Bool) → (if buys then b else not b) ≡ true → b ≡ buys
side_is true b e = e
side_is false true e = absurd (cc)
side_is false false e = refl

pub on_is : (instrument : ℕ) (buys : Bool) (r : Resting) → is_on instrument buys r ≡ true → (r.instrument ≡ instrument) × (r.buys ≡ buys)
on_is instrument buys r e = let t = both_true (r.instrument == instrument) (if buys then r.buys else not r.buys) e in
    (grind (arith, nat_tests, t.0), side_is buys r.buys t.1)

side_true : (buys b : Bool) → b ≡ buys → (if buys then b else not b) ≡ true
side_true true b e = e
side_true false b e = ap not e

pub is_on_true : (instrument : ℕ) (buys : Bool) (r : Resting) → r.instrument ≡ instrument → r.buys ≡ buys → is_on instrument buys r ≡ true
is_on_true instrument buys r e f =
    ap (λ (b : Bool). b && (if buys then r.buys else not r.buys)) (eq-eqb r.instrument instrument e) ∙ side_true buys r.buys f

-- every buy of an instrument is below every sell
abbrev pub AreApart : List Resting → Type 0
AreApart orders = (b s : Resting) → Has b orders → Has s orders → b.buys ≡ true → s.buys ≡ false → b.instrument ≡ s.instrument → b.price < s.price

-- an order's price is among those of its instrument and side
price_on : (orders : List Resting) (r : Resting) (instrument : ℕ) (buys : Bool) → Has r orders → r.instrument ≡ instrument → r.buys ≡ buys
    → Has r.price (prices_on instrument buys orders)
price_on orders r instrument buys h e f =
    mapped_has (λ (x : Resting). x.price) _ r (filtered_has (is_on instrument buys) orders r h (is_on_true instrument buys r e f))

order_of_price : (orders : List Resting) (instrument : ℕ) (buys : Bool) (price : ℕ) → Has price (prices_on instrument buys orders)
    → (r : Resting) × (Has r orders × ((r.instrument ≡ instrument) × (r.buys ≡ buys)) × (price ≡ r.price))
order_of_price orders instrument buys price h = let m = has_mapped (λ (x : Resting). x.price) _ price h in
    let f = has_filtered (is_on instrument buys) orders m.0 m.1.0 in (m.0, (f.0, on_is instrument buys m.0 f.1, m.1.1))

-- so the best prices are apart exactly if all are, if no price is 0
pub best_apart : (orders : List Resting) → AreApart orders → BestPricesApart orders
best_apart orders apart instrument bought sold =
    let b = order_of_price orders instrument true (best_buy instrument orders) (highest_at (prices_on instrument true orders) bought) in
    let s = order_of_price orders instrument false (best_sell instrument orders) (lowest_at (prices_on instrument false orders) sold) in
    let lt = apart b.0 s.0 b.1.0 s.1.0 b.1.1.1 s.1.1.1 (b.1.1.0 ∙ sym s.1.1.0) in let eb = b.1.2 in let es = s.1.2 in omega arith

pub all_apart : (orders : List Resting) → ((r : Resting) → Has r orders → 1 ≤ r.price) → BestPricesApart orders → AreApart orders
all_apart orders priced apart b s hb hs buys sells same =
    let i : ℕ = b.instrument in
    let at_buy = price_on orders b i true hb refl buys in let at_sell = price_on orders s i false hs (sym same) sells in
    let over = highest_over (prices_on i true orders) b.price at_buy in let under = lowest_under (prices_on i false orders) s.price at_sell in
    let reached = order_of_price orders i false (best_sell i orders) (lowest_of_some (prices_on i false orders) s.price at_sell) in
    let low = priced b hb in let high = priced reached.0 reached.1.0 in let is = reached.1.2 in
    let lt = apart i (omega arith) (omega arith) in omega arith
