-- What the parts hold for a book, and after a change of it.
use Rattle.order_match.proofs.Common.{◌≡◌, ◌≢◌, ℕ, ◌/◌, ◌%◌, ◌==◌, Bool, true, false, cond, not, ◌&&◌, inl, inr, if◌then◌else◌, List, [], ◌∷◌, ◌++◌, filter}
use Rattle.order_match.proofs.Common.{Some, None, refl, sym, ap, ◌∙◌, arith, append-nil, eq-eqb, eqb-true, ne_eqb, option_map, dite, ℕ_discrete, both_ways}
use Rattle.order_match.proofs.Common.{Resting, OrderBook, all_but, order_at, unique_numbers, Has, has_filtered, filtered_has, Entries, HALF, key_at}
use Rattle.order_match.proofs.Common.{resting_key, number_in, place_of, price_in, side_of, Held, held_of, places_of, quantities_on, with_places, with_side}
use Rattle.std.proofs.lemmas.List.Elements.{filter-append}
use Rattle.order_match.proofs.Keyed.{first_has, first_is, get_map, map_of, map_with, map_without}
use Rattle.order_match.proofs.Served.{AreOrders, Fits, filter_alike, filter_twice}
use Rattle.std.specs.FinMap as finite

-- what a key and a place tell
pub number_told : (r : Resting) → Fits r → number_in (resting_key r) ≡ r.number
number_told r fit = let low = fit.number in omega arith

pub price_told : (r : Resting) → Fits r → price_in r.buys (resting_key r) ≡ r.price
price_told r fit = at r.buys
  where
    at : (b : Bool) → price_in b (key_at b r.price r.number) ≡ r.price
    at true = let low = fit.number in let p = fit.price in omega arith
    at false = let low = fit.number in omega arith

pub side_told : (r : Resting) → Fits r → place_of r / HALF ≡ side_of r
side_told r fit = let p = fit.price in omega arith

pub price_there : (r : Resting) → Fits r → place_of r % HALF ≡ r.price
price_there r fit = let p = fit.price in omega arith

pub keys_number : (x y : Resting) → Fits x → Fits y → resting_key x ≡ resting_key y → x.number ≡ y.number
keys_number x y p q e = sym (number_told x p) ∙ (ap number_in e ∙ number_told y q)

-- tests in either order
pub filter_swap : {X : Type 0} (p q : X → Bool) (xs : List X) → filter p (filter q xs) ≡ filter q (filter p xs)
filter_swap p q xs = sym (filter_twice q p xs) ∙ (filter_alike (λ x. q x && p x) (λ x. p x && q x) xs (λ x h. swap (q x) (p x)) ∙ filter_twice p q xs)
  where
    swap : (a b : Bool) → (a && b) ≡ (b && a)
    swap true true = refl
    swap true false = refl
    swap false true = refl
    swap false false = refl

pub filter_all : {X : Type 0} (p : X → Bool) (xs : List X) → ((x : X) → Has x xs → p x ≡ true) → filter p xs ≡ xs
filter_all p [] all = refl
filter_all p (x ∷ xs) all = ap (λ b. cond b (x ∷ filter p xs) (filter p xs)) (all x (inl refl))
    ∙ ap (λ ys. x ∷ ys) (filter_all p xs (λ y h. all y (inr h)))

-- without an order that is not there
pub none_taken : (number : ℕ) (orders : List Resting) → order_at number orders ≡ None → all_but number orders ≡ orders
none_taken number [] none = refl
none_taken number (r ∷ rs) none = at (r.number == number) refl (λ told. none_taken number rs told)
  where
    at : (b : Bool) → (r.number == number) ≡ b → (order_at number rs ≡ None → all_but number rs ≡ rs) → all_but number (r ∷ rs) ≡ r ∷ rs
    at true e rest = absurd (let z : Some r ≡ None = sym (ap (λ b. cond b (Some r) (order_at number rs)) e) ∙ none in cc)
    at false e rest = ap (λ b. cond (not b) (r ∷ all_but number rs) (all_but number rs)) e
        ∙ ap (λ l. r ∷ l) (rest (sym (ap (λ b. cond b (Some r) (order_at number rs)) e) ∙ none))

-- what is held, from its parts
pub held_by : {h k : Held} → h.last ≡ k.last → h.places ≡ k.places → ((side : ℕ) → h.sides side ≡ k.sides side) → h ≡ k
held_by a b c = λ i. record { last = a i; places = b i; sides = λ side. c side i }

abbrev on_side_of : ℕ → Resting → Bool
on_side_of side r = side_of r == side

abbrev quantity_in : Resting → ℕ
quantity_in r = r.quantity

abbrev number_of : Resting → ℕ
number_of r = r.number

module _ (orders : List Resting) (are : AreOrders orders) where
  abbrev on : ℕ → List Resting
  on side = filter (on_side_of side) orders

  pub unique : (x y : Resting) → Has x orders → Has y orders → x.number ≡ y.number → x ≡ y
  unique = unique_numbers orders are.rising

  pub order_there : (r : Resting) → Has r orders → order_at r.number orders ≡ Some r
  order_there r h = first_is number_of number_of r.number r orders h refl (λ x k e. unique x r k h e)

  pub place_found : (number : ℕ) → finite.get (places_of orders) number ≡ option_map place_of (order_at number orders)
  place_found number = get_map number_of place_of number orders

  pub order_is : (number : ℕ) (r : Resting) → order_at number orders ≡ Some r → Has r orders × (r.number ≡ number)
  order_is number r e = first_has number_of number_of number r orders e

  -- the orders of a side
  pub on_has : (side : ℕ) (x : Resting) → Has x (on side) → Has x orders × (side_of x ≡ side)
  on_has side x h = let t = has_filtered (on_side_of side) orders x h in (t.0, eqb-true (side_of x) side t.1)

  pub quantity_found : (r : Resting) → Has r orders → finite.get (quantities_on (side_of r) orders) (resting_key r) ≡ Some r.quantity
  quantity_found r h = get_map resting_key quantity_in (resting_key r) (on (side_of r))
      ∙ ap (option_map quantity_in)
      (first_is resting_key quantity_in (resting_key r) r (on (side_of r))
      (filtered_has (on_side_of (side_of r)) orders r h (eq-eqb (side_of r) (side_of r) refl)) refl
      (λ x k e. let t = on_has (side_of r) x k in unique x r t.0 h (keys_number x r (are.fit x t.0) (are.fit r h) e)))

  -- without an order
  module _ (r : Resting) (h : Has r orders) where
    pub places_without : places_of (all_but r.number orders) ≡ finite.remove (places_of orders) r.number
    places_without = map_without number_of place_of r.number orders

    pub side_without : quantities_on (side_of r) (all_but r.number orders) ≡ finite.remove (quantities_on (side_of r) orders) (resting_key r)
    side_without = ap (map_of resting_key quantity_in)
        (filter_swap (on_side_of (side_of r)) (λ x. not (x.number == r.number)) orders
        ∙ filter_alike (λ x. not (x.number == r.number)) (λ x. not (resting_key x == resting_key r)) (on (side_of r))
        (λ x k. let t = on_has (side_of r) x k in ap not (both_ways (x.number == r.number) (resting_key x == resting_key r)
        (λ e. eq-eqb (resting_key x) (resting_key r) (ap resting_key (unique x r t.0 h (eqb-true x.number r.number e))))
        (λ e. eq-eqb x.number r.number (keys_number x r (are.fit x t.0) (are.fit r h) (eqb-true (resting_key x) (resting_key r) e))))))
        ∙ map_without resting_key quantity_in (resting_key r) (on (side_of r))

    pub sides_without : (side : ℕ) → side ≢ side_of r → quantities_on side (all_but r.number orders) ≡ quantities_on side orders
    sides_without side ne = ap (map_of resting_key quantity_in)
        (filter_swap (on_side_of side) (λ x. not (x.number == r.number)) orders
        ∙ filter_all (λ x. not (x.number == r.number)) (on side)
        (λ x k. let t = on_has side x k in ap not (ne_eqb x.number r.number (λ e. ne (sym t.1 ∙ ap side_of (unique x r t.0 h e))))))

  -- with one more
  module _ (r : Resting) (new : (x : Resting) → Has x orders → x.number ≢ r.number) (fit : Fits r) where
    pub places_with : places_of (orders ++ r ∷ []) ≡ finite.insert (places_of orders) r.number (place_of r)
    places_with = map_with number_of place_of r orders new

    pub side_with : quantities_on (side_of r) (orders ++ r ∷ []) ≡ finite.insert (quantities_on (side_of r) orders) (resting_key r) r.quantity
    side_with = ap (map_of resting_key quantity_in)
        (filter-append (on_side_of (side_of r)) orders (r ∷ [])
        ∙ ap (λ b. on (side_of r) ++ cond b (r ∷ []) []) (eq-eqb (side_of r) (side_of r) refl))
        ∙ map_with resting_key quantity_in r (on (side_of r))
        (λ x k e. let t = on_has (side_of r) x k in new x t.0 (keys_number x r (are.fit x t.0) fit e))

    pub sides_with : (side : ℕ) → side ≢ side_of r → quantities_on side (orders ++ r ∷ []) ≡ quantities_on side orders
    sides_with side ne = ap (map_of resting_key quantity_in)
        (filter-append (on_side_of side) orders (r ∷ [])
        ∙ (ap (λ b. on side ++ cond b (r ∷ []) []) (ne_eqb (side_of r) side (λ e. ne (sym e)))
        ∙ append-nil (on side)))

-- the parts of a book after a change of one side
pub one_side : (side : ℕ) (entries : Entries) (held : Held) (sides : ℕ → Entries) → sides side ≡ entries → ((t : ℕ) → t ≢ side → sides t ≡ held.sides t)
    → (t : ℕ) → (if t == side then entries else held.sides t) ≡ sides t
one_side side entries held sides here there t = dite (ℕ_discrete t side)
    (λ e. ap (λ b. cond b entries (held.sides t)) (eq-eqb t side e) ∙ sym (ap sides e ∙ here))
    (λ ne. ap (λ b. cond b entries (held.sides t)) (ne_eqb t side ne) ∙ sym (there t ne))

-- what is held after an order was taken out
pub held_without : (book : OrderBook) → AreOrders book.orders → (r : Resting) → Has r book.orders
    → with_side (side_of r) (finite.remove (quantities_on (side_of r) book.orders) (resting_key r))
    (with_places (finite.remove (places_of book.orders) r.number) (held_of book))
    ≡ held_of (record book { orders = all_but r.number book.orders })
held_without book are r h = held_by refl (sym (places_without book.orders are r h))
    (one_side (side_of r) (finite.remove (quantities_on (side_of r) book.orders) (resting_key r)) (held_of book)
    (λ t. quantities_on t (all_but r.number book.orders)) (side_without book.orders are r h) (sides_without book.orders are r h))

-- and after one was put in
pub held_with : (book : OrderBook) → AreOrders book.orders → (r : Resting) → ((x : Resting) → Has x book.orders → x.number ≢ r.number) → Fits r
    → with_places (finite.insert (places_of book.orders) r.number (place_of r))
    (with_side (side_of r) (finite.insert (quantities_on (side_of r) book.orders) (resting_key r) r.quantity) (held_of book))
    ≡ held_of (record book { orders = book.orders ++ r ∷ [] })
held_with book are r new fit = held_by refl (sym (places_with book.orders are r new fit))
    (one_side (side_of r) (finite.insert (quantities_on (side_of r) book.orders) (resting_key r) r.quantity) (held_of book)
    (λ t. quantities_on t (book.orders ++ r ∷ [])) (side_with book.orders are r new fit) (sides_with book.orders are r new fit))
