-- The book that words stand for is one, and takes the blocks that are not free.
use Rattle.order_match.proofs.Common.{◌≡◌, ℕ, suc, ◌+◌, ◌-◌, ◌*◌, ◌/◌, ◌%◌, ◌<◌, ◌≤◌, ◌==◌, Bool, true, false, cond, inl, inr, List, [], ◌∷◌, filter, length}
use Rattle.order_match.proofs.Common.{Option, Some, None, refl, sym, ap, ◌∙◌, subst, arith, eq-eqb, ne_eqb, nat_tests, same_Some, range_with_len, sum_by}
use Rattle.order_match.proofs.Common.{nat_cmp, option_map, Less, Equal, IsWithin, Resting, OrderBook, blocks_of, by_number, order_at, IsBookOf, IsRestingOrder}
use Rattle.order_match.proofs.Common.{Has, of_every, of_one, one_sorted, OrderShape, HALF, chains_of, key_at, resting_key, place_of, side_of, sides_of, tree_of}
use Rattle.order_match.proofs.Common.{held_of, places_of, quantities_on, entries_in}
use Rattle.std.specs.List.Sorted.{IsStrictlySortedBy}
use Rattle.order_text.proofs.Serving.{number_total}
use Rattle.order_match.specs.Statements.{FreeBlocksCounted, FullWithoutTwo, OneBook}
use Rattle.order_match.proofs.Books.{keys_number, order_is, order_there, place_found, price_there, quantity_found, side_told}
use Rattle.order_match.proofs.Family.{counted}
use Rattle.order_match.proofs.Sums.{sum_alike, sum_changed, sum_none}
use Rattle.order_match.proofs.Keyed.{HaveKeys, len_map}
use Rattle.order_match.proofs.Served.{AreOrders, fewer_orders, nat_equal, orders_of, sides_differ}
use Rattle.std.specs.FinMap as finite
use Rattle.txn_hash_map.proofs.OneMap as chains
use Rattle.txn_tree_map.proofs.Maps as trees

-- the side of an order whose instrument is one of the shape's is one of its sides
pub side_in_range : (instruments : ℕ) (r : Resting) → IsWithin 1 instruments r.instrument → side_of r < 2 * instruments
side_in_range instruments r is = at r.buys is.0 is.1
  where
    at : (b : Bool) → 1 ≤ r.instrument → r.instrument ≤ instruments → 2 * (r.instrument - 1) + cond b 0 1 < 2 * instruments
    at true low high = omega (arith, low, high)
    at false low high = omega (arith, low, high)

side_in : (instruments : ℕ) (r : Resting) → IsRestingOrder instruments r → side_of r < 2 * instruments
side_in instruments r is = side_in_range instruments r is.limits_are.instrument_is

-- an order is found by what the parts hold
module _ (orders others : List Resting) (are : AreOrders orders) (also : AreOrders others)
    (places : places_of orders ≡ places_of others)
    (sides : (r : Resting) → Has r orders → quantities_on (side_of r) orders ≡ quantities_on (side_of r) others) where
  same_order : (r : Resting) → Has r orders → Has r others
  same_order r h = at (order_at r.number others) refl
    where
      here : finite.get (places_of others) r.number ≡ Some (place_of r)
      here = ap (λ m. finite.get m r.number) (sym places) ∙ place_found orders are r.number ∙ ap (option_map place_of) (order_there orders are r h)

      at : (o : Option Resting) → order_at r.number others ≡ o → Has r others
      at None e = absurd (let z : None ≡ Some (place_of r) = ap (option_map place_of) (sym e) ∙ (sym (place_found others also r.number) ∙ here) in cc)
      at (Some x) e =
          let there = order_is others also r.number x e in
          let fx = also.fit x there.0 in
          let fr = are.fit r h in
          let place : place_of x ≡ place_of r = same_Some (place_of x) (place_of r)
          (ap (option_map place_of) (sym e) ∙ (sym (place_found others also r.number) ∙ here)) in
          let side : side_of x ≡ side_of r = sym (side_told x fx) ∙ (ap (λ p. p / HALF) place ∙ side_told r fr) in
          let price : x.price ≡ r.price = sym (price_there x fx) ∙ (ap (λ p. p % HALF) place ∙ price_there r fr) in
          let on = sides_differ x.instrument r.instrument x.buys r.buys (also.numbered x there.0) (are.numbered r h) side in
          let key : resting_key x ≡ resting_key r = λ i. key_at (on.1 i) (price i) (there.1 i) in
          let mine : finite.get (quantities_on (side_of r) others) (resting_key r) ≡ Some r.quantity =
          ap (λ m. finite.get m (resting_key r)) (sym (sides r h)) ∙ quantity_found orders are r h in
          let theirs : finite.get (quantities_on (side_of r) others) (resting_key r) ≡ Some x.quantity =
          ap (λ k. finite.get (quantities_on (side_of r) others) k) (sym key) ∙ (ap (λ s. finite.get (quantities_on s others) (resting_key x)) (sym side)
          ∙ quantity_found others also x there.0) in
          let quantity : x.quantity ≡ r.quantity = same_Some x.quantity r.quantity (sym theirs ∙ mine) in
          let all : x ≡ r = λ i. record { number = there.1 i; instrument = on.0 i; buys = on.1 i; price = price i; quantity = quantity i } in
          subst (λ z. Has z others) all there.0

pub one_book : OneBook
one_book shape words book other h k =
    let are = orders_of shape.instruments book h.book_is in
    let also = orders_of shape.instruments other k.book_is in
    let places = (chains.one_map (chains_of shape) words (places_of book.orders) (places_of other.orders) h.parts.chain_used k.parts.chain_used
    h.parts.chains k.parts.chains).0 in
    let last : book.last ≡ other.last = same_Some book.last other.last (sym h.parts.last ∙ k.parts.last) in
    let blocks : book.blocks ≡ other.blocks = h.blocks_are ∙ sym k.blocks_are in
    let orders : book.orders ≡ other.orders = one_sorted by_number number_total book.orders other.orders are.rising also.rising
    (λ z t. same_order book.orders other.orders are also places (λ r m. one_side r (in_of book h.book_is r m)) z t)
    (λ z t. same_order other.orders book.orders also are (sym places) (λ r m. sym (one_side r (in_of other k.book_is r m))) z t) in
    λ i. record { blocks = blocks i; last = last i; orders = orders i }
  where
    in_of : (b : OrderBook) → IsBookOf shape.instruments b → (r : Resting) → Has r b.orders → side_of r < sides_of shape
    in_of b is r m = side_in shape.instruments r (of_every (IsRestingOrder shape.instruments) b.orders r is.each m)

    one_side : (r : Resting) → side_of r < sides_of shape → quantities_on (side_of r) book.orders ≡ quantities_on (side_of r) other.orders
    one_side r lt = (trees.one_map (tree_of shape (side_of r)) words (quantities_on (side_of r) book.orders) (quantities_on (side_of r) other.orders)
        (h.parts.side_used (side_of r)) (k.parts.side_used (side_of r)) (h.parts.trees (side_of r) lt) (k.parts.trees (side_of r) lt)).0

abbrev quantity_in : Resting → ℕ
quantity_in r = r.quantity

-- orders whose numbers rise have different keys, if keys tell numbers
keys_apart : (key value : Resting → ℕ) (rs : List Resting) → IsStrictlySortedBy by_number rs
    → ((x y : Resting) → Has x rs → Has y rs → key x ≡ key y → x.number ≡ y.number) → HaveKeys key value rs
unfolding IsStrictlySortedBy
keys_apart key value [] rising tell = tt
keys_apart key value (r ∷ rs) rising tell = (
  λ y h e. let less : nat_cmp r.number y.number ≡ Less = of_one (λ z. by_number r z ≡ Less) rs y rising.0 h in
      let z : Equal ≡ Less = sym (nat_equal r.number y.number (sym (tell y r (inr h) (inl refl) e))) ∙ less in absurd (cc),
  keys_apart key value rs rising.1 (λ x y h k. tell x y (inr h) (inr k)),
)

pub places_many : (orders : List Resting) → AreOrders orders → finite.len (places_of orders) ≡ length orders
places_many orders are = len_map (λ (r : Resting). r.number) place_of orders
    (keys_apart (λ (r : Resting). r.number) place_of orders are.rising (λ x y h k e. e))

-- the orders of a side
abbrev on_side : ℕ → List Resting → List Resting
on_side side orders = filter (λ (r : Resting). side_of r == side) orders

side_many : (side : ℕ) (orders : List Resting) → AreOrders orders
    → finite.len (quantities_on side orders) ≡ length (on_side side orders)
side_many side orders are =
    let on = fewer_orders (λ (r : Resting). side_of r == side) orders are in
    len_map resting_key quantity_in (on_side side orders)
    (keys_apart resting_key quantity_in (on_side side orders) on.rising
    (λ x y h k e. keys_number x y (on.fit x h) (on.fit y k) e))

-- each order is on one side
all_sides : (n : ℕ) (orders : List Resting) → ((r : Resting) → Has r orders → side_of r < n)
    → sum_by (λ side. length (on_side side orders)) (range_with_len 0 n) ≡ length orders
all_sides n [] within = sum_none 0 n (λ side. length (on_side side [])) (λ t low high. refl)
all_sides n (r ∷ rs) within =
    let here : length (on_side (side_of r) (r ∷ rs)) ≡ suc (length (on_side (side_of r) rs)) =
    ap (λ b. length (cond b (r ∷ on_side (side_of r) rs) (on_side (side_of r) rs)))
    (eq-eqb (side_of r) (side_of r) refl) in
    let changed = sum_changed 0 n (side_of r) (λ side. length (on_side side (r ∷ rs)))
    (λ side. length (on_side side rs))
    (λ side ne. ap (λ b. length (cond b (r ∷ on_side side rs) (on_side side rs)))
    (ne_eqb (side_of r) side (λ e. ne (sym e)))) (omega arith) (omega (arith, within r (inl refl))) in
    let rest = all_sides n rs (λ x h. within x (inr h)) in
    omega (arith, here, changed, rest)

sum_same : (n : ℕ) (f g : ℕ → ℕ) → ((t : ℕ) → f t ≡ g t) → sum_by f (range_with_len 0 n) ≡ sum_by g (range_with_len 0 n)
sum_same n f g same = sum_alike 0 n f g (λ t low. same t)

-- two entries for each order
pub entries_counted : (shape : OrderShape) (book : OrderBook) → IsBookOf shape.instruments book → entries_in shape (held_of book) ≡ blocks_of book.orders
entries_counted shape book is =
    let are = orders_of shape.instruments book is in
    let n = sides_of shape in
    let places = places_many book.orders are in
    let sides = sum_same n (λ side. finite.len (quantities_on side book.orders)) (λ side. length (on_side side book.orders))
    (λ side. side_many side book.orders are) in
    let all = all_sides n book.orders (λ r h. side_in shape.instruments r (of_every (IsRestingOrder shape.instruments) book.orders r is.each h)) in
    omega (arith, places, sides, all)

pub free_counted : FreeBlocksCounted
free_counted shape words book stand =
    omega (arith, counted shape words (held_of book) stand.parts, entries_counted shape book stand.book_is)

pub full_without_two : FullWithoutTwo
full_without_two shape words book stand =
    let all = free_counted shape words book stand in
    let blocks = stand.blocks_are in
    (λ few. grind (arith, nat_tests, few, all, blocks), λ full. grind (arith, nat_tests, full, all, blocks))
