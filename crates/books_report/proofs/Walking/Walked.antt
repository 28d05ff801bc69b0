-- Walks over the three maps of books.
use Rattle.books_report.proofs.Common.{◌≡◌, ℕ, ◌<◌, [], Option, Some, None, nat_lt, refl, sym, ap, ◌∙◌, nat_cmp_total, is_lt, Less, ClearingBooks, position_cmp}
use Rattle.books_report.proofs.Common.{AreInRange, positions_total, is_lt-nat_cmp}
use Rattle.std.proofs.Common.{IsSome}
use Rattle.std.specs.Cmp.{nat_cmp_is}
use Rattle.std.specs.Ordering.{nat_cmp, ordering_then}
use Rattle.std.specs.Option.{option_map}
use Rattle.books_report.proofs.Walking.Walks.{up_to, none_up_to, below_found}
use Rattle.std.specs.FinMap as map

-- no account is up to 0
pub accounts_from : (books : ClearingBooks) → AreInRange books → up_to nat_lt 0 (map.entries books.accounts) ≡ []
accounts_from books h = none_up_to nat_cmp_total nat_lt is_lt-nat_cmp 0 (map.entries books.accounts)
    (below_found nat_cmp_total 0 (map.entries books.accounts) (map.entries_sorted books.accounts) (λ a cash found.
    sym (nat_cmp_is 0 a Less (h.accounts a cash (map.get-entries books.accounts a ∙ found)).0.0)))

-- no price is up to 0
pub prices_from : {books : ClearingBooks} → AreInRange books → up_to nat_lt 0 (map.entries books.prices) ≡ []
prices_from {books} h = none_up_to nat_cmp_total nat_lt is_lt-nat_cmp 0 (map.entries books.prices)
    (below_found nat_cmp_total 0 (map.entries books.prices) (map.entries_sorted books.prices) (λ i price found.
    sym (nat_cmp_is 0 i Less (h.prices i price (map.get-entries books.prices i ∙ found)).0.0)))

-- no position is up to account 0 and instrument 0
pub positions_from : (books : ClearingBooks) → AreInRange books → up_to (λ k q. is_lt (position_cmp k q)) (0, 0) (map.entries books.positions) ≡ []
positions_from books h = none_up_to positions_total (λ k q. is_lt (position_cmp k q)) (λ _ _. refl) (0, 0) (map.entries books.positions)
    (below_found positions_total (0, 0) (map.entries books.positions) (map.entries_sorted books.positions) (λ k quantity found.
    ap (λ r. ordering_then r (nat_cmp 0 k.1))
    (sym (nat_cmp_is 0 k.0 Less (numbered (map.get books.accounts k.0) k.0 refl
    (h.positions k.0 k.1 quantity (map.get-entries books.positions k ∙ found)).0)))))
  where
    numbered : (account : Option ℕ) (a : ℕ) → map.get books.accounts a ≡ account → IsSome account → 0 < a
    numbered None a is some = absurd (cc)
    numbered (Some cash) a is some = (h.accounts a cash is).0.0

-- a position that was found, as an entry
pub found_entry : (found : Option ((ℕ × ℕ) × ℕ)) (a i quantity : ℕ)
    → ◌≡◌ {A = Option (ℕ × ℕ × ℕ)} (Some (a, i, quantity)) (option_map (λ e. (e.0.0, e.0.1, e.1)) found) → found ≡ Some ((a, i), quantity)
found_entry None a i quantity is = absurd (cc)
found_entry (Some e) a i quantity is =
    let entry : ℕ × ℕ × ℕ → (ℕ × ℕ) × ℕ = λ x. ((x.0, x.1), x.2) in
    ap (option_map entry) (sym is)

-- no position was found
pub found_nothing : (found : Option ((ℕ × ℕ) × ℕ)) → ◌≡◌ {A = Option (ℕ × ℕ × ℕ)} None (option_map (λ e. (e.0.0, e.0.1, e.1)) found) → found ≡ None
found_nothing None is = refl
found_nothing (Some e) is = absurd (cc)
