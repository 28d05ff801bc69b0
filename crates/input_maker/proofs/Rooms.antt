-- The books of a generated day: their accounts are the 200 of its opening, so blocks never run out.
use Rattle.input_maker.proofs.Common.{◌≡◌, ℕ, ◌<◌, ◌≤◌, ◌==◌, true, false, cond, Option, Some, None, IsSome, inl, inr, refl, sym, ap, subst, arith}
use Rattle.input_maker.proofs.Common.{nat_cmp_total, nat_cmp, ne_eqb, exact_unsigned, ClearingBooks, used, cash_of, AreInRange, IsWithin, is_full, put_position}
use Rattle.input_maker.proofs.Common.{all_cash, all_held, AllByRecursion-weaker, All-entries, weigh, positions_total, exact_positions, sums, by_weights}
use Rattle.input_maker.proofs.Common.{all_quantities}
use Rattle.books_model.proofs.Common.{set_position}
use Rattle.std.proofs.Common.{unwrap_or}
use Rattle.books_model.proofs.Drafts.{used_position}
use Rattle.books_model.proofs.Maps.Entries.{sum_by-set_at}
use Rattle.books_model.proofs.Maps.Trees.{found_after_insert, stays_after_insert}
use Rattle.script_reader.proofs.books.WithoutFault.BooksFaultless.{some_of}
use Rattle.input_maker.proofs.Classes.{numbers_most, pairs_most}
use Rattle.std.specs.FinMap as map

-- the accounts are those from 1 to 200
pub record HasAccounts (accounts : map.FinMap nat_cmp ℕ) : Type 0 where
  pub only : (a cash : ℕ) → map.get accounts a ≡ Some cash → IsWithin 1 200 a
  pub every : (a : ℕ) → IsWithin 1 200 a → IsSome (map.get accounts a)

-- what holds of the books at each moment of a generated day
pub record AreOfDay (books : ClearingBooks) : Type 0 where
  pub range : AreInRange books
  pub blocks : books.blocks ≡ 4096
  pub instruments : books.instruments ≡ 8
  pub accounts : HasAccounts books.accounts

-- they are the same accounts if one of them has other cash
pub other_cash : {accounts : map.FinMap nat_cmp ℕ} {a : ℕ} (cash : ℕ) → HasAccounts accounts → IsWithin 1 200 a → HasAccounts (map.insert accounts a cash)
other_cash {accounts} {a} cash h within = record {
  only = λ q w found. elim (found_after_insert nat_cmp_total exact_unsigned accounts a q cash w found) [
    | inl this ↦ subst (IsWithin 1 200) (sym this.0) within
    | inr old ↦ h.only q w old
  ];
  every = λ q there. stays_after_insert nat_cmp_total accounts a q cash (h.every q there);
}

module _ {books : ClearingBooks} (h : AreOfDay books) where
  -- instruments and accounts are below these numbers
  priced : (i price : ℕ) → map.get books.prices i ≡ Some price → i < 9
  priced i price found = omega (arith, (h.range.prices i price found).0.1, h.instruments)

  placed : (q : ℕ × ℕ) (quantity : ℕ) → map.get books.positions q ≡ Some quantity → (q.0 < 201) × (q.1 < 9)
  placed q quantity found =
      let there = h.range.positions q.0 q.1 quantity found in
      let account = some_of (map.get books.accounts q.0) there.0 in
      let price = some_of (map.get books.prices q.1) there.1 in
      (omega (arith, (h.accounts.only q.0 account.0 account.1).1), priced q.1 price.0 price.1)

  -- so few blocks are used
  used_most : used books ≤ 2019
  used_most =
      let accounts = numbers_most 201 books.accounts (λ a cash found. omega (arith, (h.accounts.only a cash found).1)) in
      omega (arith, accounts, pairs_most 201 9 books.positions placed, numbers_most 9 books.prices priced)

  -- a block is left
  pub not_full : is_full books ≡ false
  not_full = ne_eqb (used books) books.blocks (λ same. omega (arith, same, used_most, h.blocks))

  -- also if a position was changed
  pub not_full_after : (a i quantity : ℕ) → is_full (put_position books a i quantity) ≡ false
  not_full_after a i quantity = elim (quantity == 0) as
      (λ t. is_full (record books { positions = cond t (map.remove books.positions (a, i)) (map.insert books.positions (a, i) quantity) }) ≡ false) [
        | true ↦ ne_eqb (used (set_position books a i None)) books.blocks (λ same. omega (arith, same, used_position books a i None, used_most, h.blocks))
        | false ↦ ne_eqb (used (set_position books a i (Some quantity))) books.blocks
            (λ same. omega (arith, same, used_position books a i (Some quantity), used_most, h.blocks))
      ]

  -- all quantities are those of each instrument together
  pub quantities_together : all_quantities books ≡ sums 9 (all_held books)
  quantities_together =
      by_weights (λ e. true) (λ e. e.0.1) (λ e. e.1) 9 (map.entries books.positions)
      (AllByRecursion-weaker (λ e. (e.0.0 < 201) × (e.0.1 < 9)) (λ e. true ≡ true → e.0.1 < 9) (λ e both _. both.1) (map.entries books.positions)
      (All-entries positions_total exact_positions (λ e. (e.0.0 < 201) × (e.0.1 < 9)) books.positions placed))

-- no account has more cash than all together
pub cash_within : (books : ClearingBooks) (a : ℕ) → cash_of books a ≤ all_cash books
cash_within books a = at (map.get books.accounts a) refl
  where
    at : (x : Option ℕ) → map.get books.accounts a ≡ x → unwrap_or x 0 ≤ all_cash books
    at None is = omega arith
    at (Some v) is = omega (arith, sum_by-set_at nat_cmp_total exact_unsigned (λ e. e.1) books.accounts a None, ap (weigh (λ (e : ℕ × ℕ). e.1) a) is)
