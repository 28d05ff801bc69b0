-- What the chains hold, by keys: the price of each instrument, and each position; and how many entries that are.
use Rattle.txn_books.proofs.Common.{◌≡◌, ◌≢◌, ℕ, ◌+◌, ◌<◌, ◌≤◌, true, T, List, ◌++◌, map, length, Option, Some, None, IsSome, refl, sym, ap, ◌∙◌, subst, arith}
use Rattle.txn_books.proofs.Common.{length-append, Ordering, Less, Equal, Greater, nat_cmp_total, nat_cmp, ordering_then, AllByRecursion}
use Rattle.txn_books.proofs.Common.{nat_cmp-IsAntisymmetric, is_sorted, length-map, MOST_INSTRUMENTS, ClearingBooks, position_cmp, AreInRange, positions_total}
use Rattle.txn_books.proofs.Common.{exact_positions, All-entries, price_key_of, position_key_of, chained, IsInstrument}
use Rattle.txn_books.proofs.OneState.Keyed.{less_than, AreBelow, AreFrom, find_none, find_past, find_front, sorted_append, all_keyed, sorted_keyed, find_keyed}
use Rattle.std.specs.FinMap as entry_map

-- an account's number and an instrument's
abbrev pub IsPlace : ℕ × ℕ → Type 0
IsPlace p = (1 ≤ p.0) × IsInstrument p.1

abbrev key_of : ℕ × ℕ → ℕ
key_of p = position_key_of p.0 p.1

-- other positions have other keys
pub key_differs : (x y : ℕ × ℕ) → IsInstrument x.1 → IsInstrument y.1 → key_of x ≡ key_of y → (x.0 ≡ y.0) × (x.1 ≡ y.1)
key_differs x y p q e = (omega (arith, p.0, p.1, q.0, q.1, e), omega (arith, p.0, p.1, q.0, q.1, e))

pub price_differs : (i j : ℕ) → 1 ≤ i → 1 ≤ j → price_key_of i ≡ price_key_of j → i ≡ j
price_differs i j p q e = omega (arith, p, q, e)

-- and later ones higher keys
key_rises : (x y : ℕ × ℕ) → IsPlace x → IsPlace y → position_cmp x y ≡ Less → key_of x < key_of y
key_rises x y p q less = at (nat_cmp x.0 y.0) refl
  where
    at : (r : Ordering) → nat_cmp x.0 y.0 ≡ r → key_of x < key_of y
    at Less e = let lt : x.0 < y.0 = less_than x.0 y.0 e in omega (arith, lt, p.1.0, p.1.1, q.1.0, q.1.1)
    at Equal e =
        let same : x.0 ≡ y.0 = nat_cmp-IsAntisymmetric x.0 y.0 e in
        let lt : x.1 < y.1 = less_than x.1 y.1 (sym (ap (λ r. ordering_then r (nat_cmp x.1 y.1)) e) ∙ less) in
        omega (arith, same, lt, p.1.0, q.1.0)
    at Greater e = let no : Greater ≡ Less = sym (ap (λ r. ordering_then r (nat_cmp x.1 y.1)) e) ∙ less in absurd (cc)

price_rises : (i j : ℕ) → IsInstrument i → IsInstrument j → nat_cmp i j ≡ Less → price_key_of i < price_key_of j
price_rises i j p q less = let lt : i < j = less_than i j less in omega (arith, lt, p.0, q.0)

pub some_of : (o : Option ℕ) → IsSome o → (x : ℕ) × (o ≡ Some x)
some_of None h = absurd (cc)
some_of (Some x) h = (x, refl)

module _ (books : ClearingBooks) (range : AreInRange books) where
  pub price_in : (i price : ℕ) → entry_map.get books.prices i ≡ Some price → IsInstrument i
  price_in i price e =
      let r = (range.prices i price e).0 in
      let most = range.instruments.1 in
      (r.0, omega (arith, r.1, most))

  pub position_in : (p : ℕ × ℕ) (quantity : ℕ) → entry_map.get books.positions p ≡ Some quantity → IsPlace p
  position_in p quantity e =
      let r = range.positions p.0 p.1 quantity e in
      let account = some_of (entry_map.get books.accounts p.0) r.0 in
      let price = some_of (entry_map.get books.prices p.1) r.1 in
      ((range.accounts p.0 account.0 account.1).0.0, price_in p.1 price.0 price.1)

  all_prices : AllByRecursion (λ e. IsInstrument e.0) (entry_map.entries books.prices)
  all_prices = All-entries nat_cmp_total nat_cmp-IsAntisymmetric (λ e. IsInstrument e.0) books.prices price_in

  all_positions : AllByRecursion (λ e. IsPlace e.0) (entry_map.entries books.positions)
  all_positions = All-entries positions_total exact_positions (λ e. IsPlace e.0) books.positions position_in

  by_price : List (ℕ × ℕ)
  by_price = map (λ e. (price_key_of e.0, e.1)) (entry_map.entries books.prices)

  by_position : List (ℕ × ℕ)
  by_position = map (λ e. (position_key_of e.0.0 e.0.1, e.1)) (entry_map.entries books.positions)

  prices_below : AreBelow MOST_INSTRUMENTS by_price
  unfolding by_price
  prices_below = all_keyed price_key_of IsInstrument (λ k. k < MOST_INSTRUMENTS) (λ i p. omega (arith, p.0, p.1)) (entry_map.entries books.prices) all_prices

  positions_from : AreFrom MOST_INSTRUMENTS by_position
  unfolding by_position
  positions_from = all_keyed key_of IsPlace (λ k. MOST_INSTRUMENTS ≤ k) (λ x p. omega (arith, p.0)) (entry_map.entries books.positions) all_positions

  sorted : is_sorted nat_cmp (by_price ++ by_position) ≡ true
  unfolding by_price by_position
  sorted = sorted_append MOST_INSTRUMENTS by_price by_position prices_below positions_from
      (sorted_keyed price_key_of IsInstrument price_rises (entry_map.entries books.prices) all_prices (entry_map.entries_sorted books.prices))
      (sorted_keyed key_of IsPlace key_rises (entry_map.entries books.positions) all_positions (entry_map.entries_sorted books.positions))

  is_list : T (is_sorted nat_cmp (by_price ++ by_position))
  is_list = subst T (sym sorted) tt

  -- what stands under a price's key
  pub get_price : (i : ℕ) → IsInstrument i → entry_map.get (chained books) (price_key_of i) ≡ entry_map.get books.prices i
  unfolding by_price by_position
  get_price i p =
      entry_map.get-from_sorted nat_cmp (by_price ++ by_position) (price_key_of i) is_list
      ∙ find_front (price_key_of i) by_price by_position (find_none (price_key_of i) by_position
      (all_keyed key_of IsPlace (λ k. price_key_of i ≢ k) (λ x q e. omega (arith, p.0, p.1, q.0, e)) (entry_map.entries books.positions) all_positions))
      ∙ find_keyed price_key_of IsInstrument nat_cmp_total nat_cmp-IsAntisymmetric (λ x y q r e.
      price_differs x y q.0 r.0 e) i p (entry_map.entries books.prices) all_prices
      ∙ sym (entry_map.get-entries books.prices i)

  -- and under a position's
  pub get_position : (a i : ℕ) → 1 ≤ a → IsInstrument i → entry_map.get (chained books) (position_key_of a i) ≡ entry_map.get books.positions (a, i)
  unfolding by_price by_position
  get_position a i le p =
      entry_map.get-from_sorted nat_cmp (by_price ++ by_position) (position_key_of a i) is_list
      ∙ find_past (position_key_of a i) by_price by_position (find_none (position_key_of a i) by_price
      (all_keyed price_key_of IsInstrument (λ k. position_key_of a i ≢ k) (λ j q e. omega (arith, q.0, q.1, le, e))
      (entry_map.entries books.prices) all_prices))
      ∙ find_keyed key_of IsPlace positions_total exact_positions
      (λ x y q r e. let same = key_differs x y q.1 r.1 e in λ z. (same.0 z, same.1 z)) (a, i) (le, p) (entry_map.entries books.positions) all_positions
      ∙ sym (entry_map.get-entries books.positions (a, i))

  -- there are as many as prices and positions
  pub len_chained : entry_map.len (chained books) ≡ entry_map.len books.prices + entry_map.len books.positions
  unfolding by_price by_position
  len_chained =
      let prices : length by_price ≡ length (entry_map.entries books.prices) = length-map (entry_map.entries books.prices) (λ e. (price_key_of e.0, e.1)) in
      let positions : length by_position ≡ length (entry_map.entries books.positions) =
      length-map (entry_map.entries books.positions) (λ e. (position_key_of e.0.0 e.0.1, e.1)) in
      let whole : entry_map.len (chained books) ≡ length by_price + length by_position =
      entry_map.len-entries (chained books)
      ∙ ap length (entry_map.entries-from_sorted nat_cmp (by_price ++ by_position) is_list) ∙ length-append by_price by_position in
      omega (arith, whole, prices, positions, entry_map.len-entries books.prices, entry_map.len-entries books.positions)
