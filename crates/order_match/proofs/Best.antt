-- The best price of a side, by the first key of its tree.
use Rattle.order_match.proofs.Common.{◌≡◌, ℕ, ◌≤◌, Bool, true, false, min, ◌⊎◌, inl, inr, ⊎_elim, List, [], ◌∷◌, map, filter, Option, Some, None, refl, sym, ap}
use Rattle.order_match.proofs.Common.{◌∙◌, subst, arith, cases_lt, IsStrictlySortedBy, unwrap_or, nat_cmp, ordering_then, Ordering, Less, Greater, Resting}
use Rattle.order_match.proofs.Common.{in_order, serving_cmp, is_on, Has, has_mapped, none_tie, serving_total, has_in_order, in_order_has, in_order_sorted}
use Rattle.order_match.proofs.Common.{resting_key, price_in, side_at, quantities_on, best_on, first_in, first_of}
use Rattle.std.proofs.Common.{max}
use Rattle.std.specs.List.{fold, reduce}
use Rattle.order_text.specs.Orders.{prices_on}
use Rattle.order_text.proofs.Members.{mapped_has}
use Rattle.order_match.proofs.Books.{price_told}
use Rattle.order_match.proofs.Served.{AreOrders, nat_greater, on_orders, side_is, sorted_first, trees_served}

-- the greatest and the least of numbers, which one of them is
greatest : (m a : ℕ) (xs : List ℕ) → a ≤ m → ((y : ℕ) → Has y xs → y ≤ m) → (a ≡ m) ⊎ Has m xs → fold max a xs ≡ m
greatest m a [] le all at = ⊎_elim (λ (e : a ≡ m). e) (λ h. absurd h) at
greatest m a (x ∷ xs) le all at =
    let below : x ≤ m = all x (inl refl) in
    greatest m (max a x) xs (omega (arith, le, below)) (λ y h. all y (inr h))
    (⊎_elim (λ (e : a ≡ m). inl (omega (arith, e, below))) (λ h. ⊎_elim (λ (e : m ≡ x). inl (omega (arith, e, le))) (λ t. inr t) h) at)

least : (m a : ℕ) (xs : List ℕ) → m ≤ a → ((y : ℕ) → Has y xs → m ≤ y) → (a ≡ m) ⊎ Has m xs → fold min a xs ≡ m
least m a [] le all at = ⊎_elim (λ (e : a ≡ m). e) (λ h. absurd h) at
least m a (x ∷ xs) le all at =
    let above : m ≤ x = all x (inl refl) in
    least m (min a x) xs (omega (arith, le, above)) (λ y h. all y (inr h))
    (⊎_elim (λ (e : a ≡ m). inl (omega (arith, e, above))) (λ h. ⊎_elim (λ (e : m ≡ x). inl (omega (arith, e, le))) (λ t. inr t) h) at)

highest_is : (m : ℕ) (xs : List ℕ) → Has m xs → ((y : ℕ) → Has y xs → y ≤ m) → unwrap_or (reduce max xs) 0 ≡ m
highest_is m [] h all = absurd h
highest_is m (x ∷ xs) h all = greatest m x xs (all x (inl refl)) (λ y t. all y (inr t)) (⊎_elim (λ (e : m ≡ x). inl (sym e)) (λ t. inr t) h)

lowest_is : (m : ℕ) (xs : List ℕ) → Has m xs → ((y : ℕ) → Has y xs → m ≤ y) → unwrap_or (reduce min xs) 0 ≡ m
lowest_is m [] h all = absurd h
lowest_is m (x ∷ xs) h all = least m x xs (all x (inl refl)) (λ y t. all y (inr t)) (⊎_elim (λ (e : m ≡ x). inl (sym e)) (λ t. inr t) h)

-- who is served first has the best price
no_later : (a b : ℕ) (r : Ordering) → ordering_then (nat_cmp a b) r ≡ Less → a ≤ b
no_later a b r e = elim (cases_lt b a) [
  | inl gt ↦ absurd (let z : Greater ≡ Less = sym (ap (λ (s : Ordering). ordering_then s r) (nat_greater a b gt)) ∙ e in cc)
  | inr le ↦ le
]

-- the price that a first entry tells
abbrev pub price_first : Bool → Option (ℕ × ℕ) → ℕ
price_first buys None = 0
price_first buys (Some e) = price_in buys e.0

module _ (instrument : ℕ) (buys : Bool) (orders : List Resting) (are : AreOrders orders) (low : 1 ≤ instrument) where
  abbrev on : List Resting
  on = filter (is_on instrument buys) orders

  best_at : (b : Bool) → buys ≡ b → (p : Resting) → Has p on → ((r : Resting) → Has r on → (r ≡ p) ⊎ (serving_cmp buys p r ≡ Less))
      → best_on instrument b orders ≡ p.price
  best_at true is p h first = highest_is p.price (prices_on instrument true orders)
      (subst (λ b. Has p.price (prices_on instrument b orders)) is (mapped_has (λ (r : Resting). r.price) on p h))
      (λ y t. let m = has_mapped (λ (r : Resting). r.price) on y (subst (λ b. Has y (prices_on instrument b orders)) (sym is) t) in
      let told : y ≡ m.0.price = m.1.1 in
      ⊎_elim (λ (e : m.0 ≡ p). let q = ap (λ (r : Resting). r.price) e in omega (arith, told, q))
      (λ less. let le = no_later m.0.price p.price (nat_cmp p.number m.0.number) (subst (λ b. serving_cmp b p m.0 ≡ Less) is less) in omega (arith, told, le))
      (first m.0 m.1.0))
  best_at false is p h first = lowest_is p.price (prices_on instrument false orders)
      (subst (λ b. Has p.price (prices_on instrument b orders)) is (mapped_has (λ (r : Resting). r.price) on p h))
      (λ y t. let m = has_mapped (λ (r : Resting). r.price) on y (subst (λ b. Has y (prices_on instrument b orders)) (sym is) t) in
      let told : y ≡ m.0.price = m.1.1 in
      ⊎_elim (λ (e : m.0 ≡ p). let q = ap (λ (r : Resting). r.price) e in omega (arith, told, q))
      (λ less. let le = no_later p.price m.0.price (nat_cmp p.number m.0.number) (subst (λ b. serving_cmp b p m.0 ≡ Less) is less) in omega (arith, told, le))
      (first m.0 m.1.0))

  best_none : (b : Bool) → buys ≡ b → on ≡ [] → best_on instrument b orders ≡ 0
  best_none true is none = ap (λ (rs : List Resting). unwrap_or (reduce max (map (λ (r : Resting). r.price) rs)) 0)
      (ap (λ b. filter (is_on instrument b) orders) (sym is) ∙ none)
  best_none false is none = ap (λ (rs : List Resting). unwrap_or (reduce min (map (λ (r : Resting). r.price) rs)) 0)
      (ap (λ b. filter (is_on instrument b) orders) (sym is) ∙ none)

  -- the first entry of a side's tree tells its best price
  pub best_first : price_first buys (first_in (quantities_on (side_at instrument buys) orders)) ≡ best_on instrument buys orders
  best_first = ap (λ es. price_first buys (first_of es)) (trees_served instrument buys orders are low)
      ∙ at (in_order (serving_cmp buys) on) refl
    where
      cmp : Resting → Resting → Ordering
      cmp = serving_cmp buys

      at : (rs : List Resting) → in_order (serving_cmp buys) on ≡ rs
          → price_first buys (first_of (map (λ (r : Resting). (resting_key r, r.quantity)) rs)) ≡ best_on instrument buys orders
      at [] is = sym (best_none buys refl (nothing on (λ r h. subst (Has r) is (has_in_order (serving_cmp buys) (serving_total buys) on r h))))
        where
          nothing : (rs : List Resting) → ((r : Resting) → Has r rs → ⊥) → rs ≡ []
          nothing [] none = refl
          nothing (r ∷ rs) none = absurd (none r (inl refl))
      at (p ∷ rs) is =
          let mine : Has p on = in_order_has (serving_cmp buys) (serving_total buys) on p (subst (Has p) (sym is) (inl refl)) in
          let fit = (on_orders instrument buys orders are).fit p mine in
          let same = side_is instrument buys orders are p mine in
          ap (λ b. price_in b (resting_key p)) (sym same) ∙ price_told p fit
          ∙ sym (best_at buys refl p mine (λ r h. ⊎_elim (λ (e : r ≡ p). inl e)
          (λ t. inr (sorted_first (serving_cmp buys) p rs (subst (IsStrictlySortedBy (serving_cmp buys)) is
          (in_order_sorted (serving_cmp buys) (serving_total buys) on (none_tie buys on (on_orders instrument buys orders are).rising))) r t))
          (subst (Has r) is (has_in_order (serving_cmp buys) (serving_total buys) on r h))))
