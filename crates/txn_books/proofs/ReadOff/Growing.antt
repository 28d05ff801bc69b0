-- Books that grow entry by entry, in the order of a walk over others.
use Rattle.txn_books.proofs.Common.{◌≡◌, ℕ, ◌+◌, ◌<◌, List, [], ◌∷◌, ◌++◌, length, take, slice_get, nat_lt, Option, Some, None, refl, sym, ap, ◌∙◌, subst}
use Rattle.txn_books.proofs.Common.{arith, find, nat_cmp_total, nat_cmp, is_lt, ordering_then, nat_cmp-IsAntisymmetric, same_Some, get_or_from_slice_get}
use Rattle.txn_books.proofs.Common.{slice_get_within, ClearingBooks, position_cmp, AreInRange, IsCall, positions_total, exact_positions, is_lt-nat_cmp, Entries}
use Rattle.txn_books.proofs.Common.{AddsUp, nothing_yet, with_accounts, with_prices, with_positions, above}
use Rattle.std.specs.Option.{option_map}
use Rattle.std.proofs.lemmas.List.{take_more, length-take-le}
use Rattle.txn_books.proofs.OneState.Chained.{price_in, position_in}
use Rattle.txn_books.proofs.ReadOff.Filling.{NextAccount, account_next, NewPrice, new_price, NewPosition, new_position}
use Rattle.txn_books.proofs.ReadOff.Stages.{accounts_range, prices_range, positions_range}
use Rattle.txn_books.proofs.ReadOff.Walking.{above_next, above_end, walk_all, above_zero}
use Rattle.std.specs.FinMap as entry_map

-- the first entry above a number
pub number_next : (k : ℕ) (e : ℕ × ℕ) (m : Entries) → Some e ≡ find (λ d. nat_lt k d.0) (entry_map.entries m)
    → above nat_cmp k (entry_map.entries m) ≡ e ∷ above nat_cmp e.0 (entry_map.entries m)
number_next k e m f = above_next nat_cmp_total k e (entry_map.entries m) (entry_map.entries_sorted m)
    ((λ i. find (λ d. sym (is_lt-nat_cmp k d.0) i) (entry_map.entries m)) ∙ sym f)

-- a map of numbers into which the entries up to a number were put
module _ (m done : Entries) (last : ℕ) (left : AddsUp done (above nat_cmp last (entry_map.entries m)) m) where
  pub number_more : (e : ℕ × ℕ) → Some e ≡ find (λ d. nat_lt last d.0) (entry_map.entries m)
      → AddsUp done (e ∷ above nat_cmp e.0 (entry_map.entries m)) m
  number_more e f = subst (λ es. AddsUp done es m) (number_next last e m f) left

  pub number_done : None ≡ find (λ d. nat_lt last d.0) (entry_map.entries m) → done ≡ m
  number_done f = subst (λ es. AddsUp done es m) (above_end nat_cmp_total last (entry_map.entries m)
      ((λ i. find (λ d. sym (is_lt-nat_cmp last d.0) i) (entry_map.entries m)) ∙ sym f)) left

-- one entry more than those above it
pub one_less : {K : Type 0} (e : K × ℕ) (xs ys : List (K × ℕ)) → xs ≡ e ∷ ys → length ys < length xs
one_less e xs ys is = let long : length xs ≡ length (e ∷ ys) = ap length is in omega (arith, long)

-- a position and its quantity, side by side
abbrev pub flat : (ℕ × ℕ) × ℕ → ℕ × ℕ × ℕ
flat e = (e.0.0, e.0.1, e.1)

abbrev pub flat_found : Option ((ℕ × ℕ) × ℕ) → Option (ℕ × ℕ × ℕ)
flat_found found = option_map flat found

abbrev pub flat_is : ℕ → ℕ → ℕ → Option (ℕ × ℕ × ℕ)
flat_is a i quantity = Some (a, i, quantity)

abbrev pub none_flat : Option (ℕ × ℕ × ℕ)
none_flat = None

module _ {books : ClearingBooks} (range : AreInRange books) where
  pub accounts_first : AddsUp entry_map.empty (above nat_cmp 0 (entry_map.entries books.accounts)) books.accounts
  accounts_first = walk_all nat_cmp_total nat_cmp-IsAntisymmetric books.accounts 0 (λ a cash there. above_zero a (range.accounts a cash there).0.0)

  pub prices_first : AddsUp entry_map.empty (above nat_cmp 0 (entry_map.entries books.prices)) books.prices
  prices_first = walk_all nat_cmp_total nat_cmp-IsAntisymmetric books.prices 0 (λ i price there. above_zero i (price_in books range i price there).0)

  pub positions_first : AddsUp entry_map.empty (above position_cmp (0, 0) (entry_map.entries books.positions)) books.positions
  positions_first = walk_all positions_total exact_positions books.positions (0, 0)
      (λ p quantity there. ap (λ r. ordering_then r (nat_cmp 0 p.1)) (above_zero p.0 (position_in books range p quantity there).0))

  pub account_step : (done : Entries) (last : ℕ) → AddsUp done (above nat_cmp last (entry_map.entries books.accounts)) books.accounts → (e : ℕ × ℕ)
      → Some e ≡ find (λ d. nat_lt last d.0) (entry_map.entries books.accounts)
      → NextAccount e (above nat_cmp e.0 (entry_map.entries books.accounts)) (record (nothing_yet books) { accounts = done }) (with_accounts books)
  account_step done last left e f = account_next e (above nat_cmp e.0 (entry_map.entries books.accounts))
      (record (nothing_yet books) { accounts = done }) (with_accounts books)
      (record { adds = number_more books.accounts done last left e f; same = refl; range = accounts_range books range })

  pub price_step : (done : Entries) (last : ℕ) → AddsUp done (above nat_cmp last (entry_map.entries books.prices)) books.prices → (e : ℕ × ℕ)
      → Some e ≡ find (λ d. nat_lt last d.0) (entry_map.entries books.prices)
      → NewPrice e.0 e.1 (record (with_accounts books) { prices = done })
      × AddsUp (entry_map.insert done e.0 e.1) (above nat_cmp e.0 (entry_map.entries books.prices)) books.prices
  price_step done last left e f =
      let more = number_more books.prices done last left e f in (
        new_price e.0 e.1 (above nat_cmp e.0 (entry_map.entries books.prices)) (record (with_accounts books) { prices = done })
            (with_prices books) more refl (prices_range books range),
        more.1,
      )

  module _ (done : entry_map.FinMap position_cmp ℕ) (last : ℕ
      × ℕ) (left : AddsUp done (above position_cmp last (entry_map.entries books.positions)) books.positions) where
    -- the first position above one
    pub position_found : (a i quantity : ℕ) → flat_is a i quantity ≡ flat_found (find (λ e. is_lt (position_cmp last e.0)) (entry_map.entries books.positions))
        → above position_cmp last (entry_map.entries books.positions) ≡ ((a, i), quantity) ∷ above position_cmp (a, i) (entry_map.entries books.positions)
    position_found a i quantity f = at (find (λ e. is_lt (position_cmp last e.0)) (entry_map.entries books.positions)) refl f
      where
        at : (o : Option ((ℕ × ℕ) × ℕ)) → find (λ e. is_lt (position_cmp last e.0)) (entry_map.entries books.positions)
            ≡ o → flat_is a i quantity ≡ flat_found o
            → above position_cmp last (entry_map.entries books.positions) ≡ ((a, i), quantity) ∷ above position_cmp (a, i) (entry_map.entries books.positions)
        at None e g = absurd (cc)
        at (Some d) e g =
            let same : flat_is a i quantity ≡ Some (flat d) = g in
            let all = same_Some (a, i, quantity) (flat d) same in
            let first : a ≡ d.0.0 = ap (λ (z : ℕ × ℕ × ℕ). z.0) all in
            let second : i ≡ d.0.1 = ap (λ (z : ℕ × ℕ × ℕ). z.1) all in
            let third : quantity ≡ d.1 = ap (λ (z : ℕ × ℕ × ℕ). z.2) all in
            above_next positions_total last d (entry_map.entries books.positions) (entry_map.entries_sorted books.positions) e
            ∙ (λ j. ((sym first j, sym second j), sym third j) ∷ above position_cmp (sym first j, sym second j) (entry_map.entries books.positions))

    pub position_step : (a i quantity : ℕ) → flat_is a i quantity ≡ flat_found (find (λ e. is_lt (position_cmp last e.0)) (entry_map.entries books.positions))
        → NewPosition a i quantity (record (with_prices books) { positions = done })
        × AddsUp (entry_map.insert done (a, i) quantity) (above position_cmp (a, i) (entry_map.entries books.positions)) books.positions
    position_step a i quantity f =
        let more = subst (λ es. AddsUp done es books.positions) (position_found a i quantity f) left in (
          new_position a i quantity (above position_cmp (a, i) (entry_map.entries books.positions))
              (record (with_prices books) { positions = done }) (with_positions books) more refl (positions_range books range),
          more.1,
        )

    pub positions_done : none_flat ≡ flat_found (find (λ e. is_lt (position_cmp last e.0)) (entry_map.entries books.positions)) → done ≡ books.positions
    positions_done f = at (find (λ e. is_lt (position_cmp last e.0)) (entry_map.entries books.positions)) refl f
      where
        at : (o : Option ((ℕ × ℕ) × ℕ)) → find (λ e. is_lt (position_cmp last e.0)) (entry_map.entries books.positions)
            ≡ o → none_flat ≡ flat_found o → done ≡ books.positions
        at None e g = subst (λ es. AddsUp done es books.positions) (above_end positions_total last (entry_map.entries books.positions) e) left
        at (Some d) e g = absurd (cc)

  -- calls, front first
  module _ (n : ℕ) (call : ℕ × ℕ) (there : slice_get books.calls n ≡ Some call) where
    pub call_is : IsCall call
    call_is = subst IsCall (get_or_from_slice_get books.calls n call call there) (range.calls n call (slice_get_within books.calls n call there))

    pub call_fits : length (take n books.calls) < books.ring
    call_fits =
        let lt : n < length books.calls = slice_get_within books.calls n call there in
        let long : length (take n books.calls) ≡ n = length-take-le n books.calls (omega (arith, lt)) in
        omega (arith, lt, long, range.queue)

    pub call_step : take n books.calls ++ call ∷ [] ≡ take (n + 1) books.calls
    call_step = sym (take_more books.calls n call (slice_get_within books.calls n call there)
        ∙ ap (λ c. take n books.calls ++ c ∷ []) (get_or_from_slice_get books.calls n call call there))
