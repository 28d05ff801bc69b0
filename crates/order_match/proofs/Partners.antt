-- The partner that an order trades with first, by the first entry of the other side.
use Rattle.order_match.proofs.Common.{◌≡◌, ℕ, ◌≤◌, Bool, true, false, not, cond, if◌then◌else◌, inl, List, [], ◌∷◌, map, filter, Option, Some, None, refl, sym}
use Rattle.order_match.proofs.Common.{ap, ◌∙◌, subst, same_Some, IsStrictlySortedBy, Resting, allows, partners, serving_cmp, is_on, Has, has_filtered, on_is}
use Rattle.order_match.proofs.Common.{serving_total, in_order_has, resting_key, number_in, price_in, side_at, quantities_on, first_in, first_of}
use Rattle.order_match.proofs.Books.{number_told, price_told}
use Rattle.order_match.proofs.Served.{AreOrders, better, none_pass, partners_allowed, served, served_sorted, sorted_first, trees_served}

-- the order that a first entry of the other side tells, if its price is allowed
abbrev pub order_told : Resting → ℕ × ℕ → Resting
order_told order e = record {
  number = number_in e.0;
  instrument = order.instrument;
  buys = not order.buys;
  price = price_in (not order.buys) e.0;
  quantity = e.1;
}

abbrev pub partner_told : Resting → Option (ℕ × ℕ) → Option Resting
partner_told order None = None
partner_told order (Some e) = if allows order (price_in (not order.buys) e.0) then Some (order_told order e) else None

module _ (order : Resting) (orders : List Resting) (are : AreOrders orders) (low : 1 ≤ order.instrument) where
  told_as : (p : Resting) → Has p (served order orders) → order_told order (resting_key p, p.quantity) ≡ p
  told_as p h =
      let k = has_filtered (is_on order.instrument (not order.buys)) orders p (in_order_has (serving_cmp (not order.buys)) (serving_total (not order.buys))
      (filter (is_on order.instrument (not order.buys)) orders) p h) in
      let on = on_is order.instrument (not order.buys) p k.1 in
      let fit = are.fit p k.0 in
      let price : price_in (not order.buys) (resting_key p) ≡ p.price = ap (λ b. price_in b (resting_key p)) (sym on.1) ∙ price_told p fit in
      λ i. record { number = number_told p fit i; instrument = sym on.0 i; buys = sym on.1 i; price = price i; quantity = p.quantity }

  pub partner_first : partner_told order (first_in (quantities_on (side_at order.instrument (not order.buys)) orders)) ≡ first_of (partners order orders)
  partner_first = ap (λ es. partner_told order (first_of es)) (trees_served order.instrument (not order.buys) orders are low)
      ∙ (at (served order orders) refl ∙ sym (ap first_of (partners_allowed order orders are)))
    where
      at : (rs : List Resting) → served order orders ≡ rs
          → partner_told order (first_of (map (λ (r : Resting). (resting_key r, r.quantity)) rs)) ≡ first_of (filter (λ r. allows order r.price) rs)
      at [] is = refl
      at (p ∷ rs) is = by (allows order p.price) refl
        where
          same : order_told order (resting_key p, p.quantity) ≡ p
          same = told_as p (subst (Has p) (sym is) (inl refl))

          decided : partner_told order (Some (resting_key p, p.quantity)) ≡ cond (allows order p.price) (Some p) None
          decided = ap (λ (x : Resting). cond (allows order x.price) (Some x) None) same

          by : (b : Bool) → allows order p.price ≡ b → partner_told order (Some (resting_key p, p.quantity))
              ≡ first_of (cond (allows order p.price) (p ∷ filter (λ r. allows order r.price) rs) (filter (λ r. allows order r.price) rs))
          by true e = decided ∙ (ap (λ b. cond b (Some p) None) e
              ∙ sym (ap (λ b. first_of (cond b (p ∷ filter (λ r. allows order r.price) rs) (filter (λ r. allows order r.price) rs))) e))
          by false e =
              let none : filter (λ r. allows order r.price) rs ≡ [] = none_pass (serving_cmp (not order.buys)) (λ r. allows order r.price) p rs e
              (λ y h may. better order p y (sorted_first (serving_cmp (not order.buys)) p rs
              (subst (IsStrictlySortedBy (serving_cmp (not order.buys))) is (served_sorted order orders are)) y h) may) in
              decided ∙ (ap (λ b. cond b (Some p) None) e
              ∙ sym (ap (λ b. first_of (cond b (p ∷ filter (λ r. allows order r.price) rs) (filter (λ r. allows order r.price) rs))) e ∙ ap first_of none))

-- a first item is in front of a rest
pub first_rest : {X : Type 0} (xs : List X) (x : X) → Some x ≡ first_of xs → (rest : List X) × (xs ≡ x ∷ rest)
first_rest [] x e = absurd (cc)
first_rest (y ∷ ys) x e = (ys, ap (λ z. z ∷ ys) (sym (same_Some x y e)))

pub first_nothing : {X : Type 0} (xs : List X) → None ≡ first_of xs → xs ≡ []
first_nothing [] e = refl
first_nothing (y ∷ ys) e = absurd (cc)
