-- The orders of a book go by their numbers, and have their blocks.
use Rattle.order_text.proofs.Common.{◌≡◌, ◌≢◌, ℕ, ◌+◌, ◌<◌, ◌≤◌, Bool, true, false, ◌&&◌, ◌==◌, nat_lt, inl, inr, ⊎_elim, List, [], ◌∷◌, ◌++◌, map, filter, All}
use Rattle.order_text.proofs.Common.{refl, sym, ap, ◌∙◌, subst, arith, append-nil, if◌then◌else◌, nat_cmp, Less, nat_tests, All-filter}
use Rattle.order_text.proofs.Common.{IsStrictlySortedBy-filter, GREATEST_ORDER, Resting, Trade, after_trades, has_quantity, orders_after, rest_of, OrderBook}
use Rattle.order_text.proofs.Common.{blocks_of, by_number, empty_book, HasRoom, IsBlockCount}
use Rattle.std.proofs.Common.{length-append}
use Rattle.std.specs.List.Sorted.{IsStrictlySortedBy}
use Rattle.std.proofs.lemmas.List.{length-map}
use Rattle.std.proofs.lemmas.List.Elements.{All-append, All-map}
use Rattle.std.proofs.lemmas.List.Sums.{count_by-le-length, length-filter}
use Rattle.order_text.proofs.Members.{Has, has_either, has_mapped, of_all, of_each, of_every, of_one}

-- no orders have room
pub empty_has_room : (blocks : ℕ) → IsBlockCount blocks → HasRoom (empty_book blocks)
unfolding IsStrictlySortedBy
empty_has_room blocks range = record {
  blocks_are = range;
  enough = omega arith;
  rising = tt;
  given = λ k d lt. absurd (omega arith);
  last_is = omega arith;
}

-- nor do fewer orders take more
no_more : (p : Resting → Bool) (orders : List Resting) → blocks_of (filter p orders) ≤ blocks_of orders
no_more p orders = omega (arith, length-filter p orders, count_by-le-length p orders)

pub fewer_have_room : (p : Resting → Bool) (book : OrderBook) → HasRoom book → HasRoom (record book { orders = filter p book.orders })
fewer_have_room p book room = record {
  blocks_are = room.blocks_are;
  enough = omega (arith, no_more p book.orders, room.enough);
  rising = IsStrictlySortedBy-filter by_number p book.orders room.rising;
  given = All-filter p (λ (r : Resting). r.number ≤ book.last) book.orders room.given;
  last_is = room.last_is;
}

-- nor do orders that traded
pub no_more_after : (trades : List Trade) (orders : List Resting) → blocks_of (orders_after trades orders) ≤ blocks_of orders
no_more_after trades orders = omega (arith, no_more has_quantity (map (after_trades trades) orders), length-map orders (after_trades trades))

-- whose numbers are the same
mapped_rise : (trades : List Trade) (rs : List Resting) → IsStrictlySortedBy by_number rs → IsStrictlySortedBy by_number (map (after_trades trades) rs)
unfolding IsStrictlySortedBy
mapped_rise trades [] rising = tt
mapped_rise trades (r ∷ rs) rising = (
  of_all (λ z. by_number (after_trades trades r) z ≡ Less) (map (after_trades trades) rs) (λ z t. let m = has_mapped (after_trades trades) rs z t in
      ap (λ (w : Resting). nat_cmp r.number w.number) m.1.1 ∙ of_one (λ w. by_number r w ≡ Less) rs m.0 rising.0 m.1.0),
  mapped_rise trades rs rising.1,
)

-- an order with a greater number behind them
less : (a b : ℕ) → a < b → nat_cmp a b ≡ Less
less a b lt = grind (arith, nat_tests)

pushed_rise : (rs : List Resting) (r : Resting) → IsStrictlySortedBy by_number rs → ((z : Resting) → Has z rs → z.number < r.number)
    → IsStrictlySortedBy by_number (rs ++ r ∷ [])
unfolding IsStrictlySortedBy
pushed_rise [] r rising above = (tt, tt)
pushed_rise (y ∷ ys) r rising above = (
  of_all (λ z. by_number y z ≡ Less) (ys ++ r ∷ []) (λ z t. ⊎_elim (λ u. of_one (λ w. by_number y w ≡ Less) ys z rising.0 u)
      (λ u. ⊎_elim (λ e. subst (λ (w : Resting). by_number y w ≡ Less) (sym e) (less y.number r.number (above y (inl refl)))) (λ n. absurd n) u)
      (has_either ys (r ∷ []) z t)),
  pushed_rise ys r rising.1 (λ z t. above z (inr t)),
)

-- an order has entered, and what is left of it has its blocks
module _ (blocks last : ℕ) (orders : List Resting) (trades : List Trade) (order : Resting)
    (room : HasRoom (record { blocks = blocks; last = last; orders = orders })) (next : order.number ≡ last + 1) where
  abbrev after : List Resting
  after = orders_after trades orders

  after_rises : IsStrictlySortedBy by_number after
  after_rises = IsStrictlySortedBy-filter by_number has_quantity (map (after_trades trades) orders) (mapped_rise trades orders room.rising)

  after_given : All (λ (r : Resting). r.number ≤ last) after
  after_given = All-filter has_quantity (λ (r : Resting). r.number ≤ last) (map (after_trades trades) orders)
      (All-map (λ (r : Resting). r.number ≤ last) (after_trades trades) orders room.given)

  rest_rises : (left : ℕ) → IsStrictlySortedBy by_number (after ++ rest_of order left)
  rest_rises left = by (left == 0)
    where
      by : (b : Bool) → IsStrictlySortedBy by_number (after ++ (if b then [] else record order { quantity = left } ∷ []))
      by true = subst (λ (l : List Resting). IsStrictlySortedBy by_number l) (sym (append-nil after)) after_rises
      by false = pushed_rise after (record order { quantity = left }) after_rises
          (λ z t. let low = of_every (λ (r : Resting). r.number ≤ last) after z after_given t in omega arith)

  rest_given : (left : ℕ) → All (λ (r : Resting). r.number ≤ last + 1) (after ++ rest_of order left)
  rest_given left = All-append (λ (r : Resting). r.number ≤ last + 1) after (rest_of order left)
      (λ k d lt. let low = after_given k d lt in omega arith) (by (left == 0))
    where
      by : (b : Bool) → All (λ (r : Resting). r.number ≤ last + 1) (if b then [] else record order { quantity = left } ∷ [])
      by true = λ k d lt. absurd (omega arith)
      by false = of_each (λ (r : Resting). r.number ≤ last + 1) (record order { quantity = left } ∷ [])
          (λ z t. ⊎_elim (λ e. subst (λ (r : Resting). r.number ≤ last + 1) (sym e) (omega arith)) (λ u. absurd u) t)

  rest_fits : (left : ℕ) → (nat_lt 0 left && nat_lt blocks (blocks_of after + 2)) ≡ false → blocks_of (after ++ rest_of order left) ≤ blocks
  rest_fits left fits = by (left == 0) refl
    where
      few : blocks_of after ≤ blocks
      few = omega (arith, no_more_after trades orders, room.enough)

      by : (b : Bool) → (left == 0) ≡ b → blocks_of (after ++ (if b then [] else record order { quantity = left } ∷ [])) ≤ blocks
      by true e = omega (arith, length-append after [], few)
      by false e = let long = length-append after (record order { quantity = left } ∷ []) in grind (arith, nat_tests, fits, long, e)

  pub entered_has_room : (left : ℕ) → last ≢ GREATEST_ORDER → (nat_lt 0 left && nat_lt blocks (blocks_of after + 2)) ≡ false
      → HasRoom (record { blocks = blocks; last = last + 1; orders = after ++ rest_of order left })
  entered_has_room left below fits = record {
    blocks_are = room.blocks_are;
    enough = rest_fits left fits;
    rising = rest_rises left;
    given = rest_given left;
    last_is = let most = room.last_is in omega arith;
  }
