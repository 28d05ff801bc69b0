-- Books that stay in range.
use Rattle.books_model.proofs.Common.{◌≡◌, ℕ, ◌+◌, ◌<◌, ◌≤◌, length, ◌∷◌, [], Option, Some, None, IsSome, inl, inr, refl, sym, subst, ◌∙◌, arith, length-append}
use Rattle.books_model.proofs.Common.{nat_cmp_total, nat_cmp, exact_unsigned, GREATEST_CASH, GREATEST_PRICE, GREATEST_QUANTITY, ClearingBooks, put_call}
use Rattle.books_model.proofs.Common.{put_cash, put_price, put_quantity, used, position_cmp, AreInRange, IsWithin, IsAccountNumber, IsCall, IsInstrumentOf}
use Rattle.std.proofs.lemmas.List.Elements.{All-push}
use Rattle.std.proofs.lemmas.Option.{none-some}
use Rattle.books_model.proofs.Maps.Trees.{positions_total, exact_positions, found_after_insert, stays_after_insert, len_after_change, len_after_insert}
use Rattle.books_model.specs.declared.limits.TheConstants.{MOST_BLOCKS, MOST_INSTRUMENTS, MOST_RING}
use Rattle.books_model.specs.Books.{empty_books}
use Rattle.std.specs.FinMap as map

-- empty books are in range
pub empty_books-in_range : (blocks instruments ring : ℕ) → IsWithin 1 MOST_BLOCKS blocks
    → IsWithin 1 MOST_INSTRUMENTS instruments → IsWithin 1 MOST_RING ring → AreInRange (empty_books blocks instruments ring)
empty_books-in_range b i r hb hi hr = record {
  blocks = hb;
  instruments = hi;
  ring = hr;
  accounts = λ a cash h. absurd (none-some _ (sym (map.get-empty nat_cmp a) ∙ h));
  prices = λ a cash h. absurd (none-some _ (sym (map.get-empty nat_cmp a) ∙ h));
  positions = λ a j q h. absurd (none-some _ (sym (map.get-empty position_cmp (a, j)) ∙ h));
  calls = λ k d h. absurd (omega arith);
  queue = omega arith;
  blocks_used = omega (arith, map.len-empty nat_cmp ℕ, map.len-empty position_cmp ℕ);
}

-- books in range stay so when an account that may be new has other cash, if its block is counted
pub put_cash-in_range : (books : ClearingBooks) (a cash : ℕ) → AreInRange books → IsAccountNumber a
    → cash ≤ GREATEST_CASH → used (put_cash books a cash) ≤ books.blocks → AreInRange (put_cash books a cash)
put_cash-in_range books a cash h number fits room = record {
  blocks = h.blocks;
  instruments = h.instruments;
  ring = h.ring;
  accounts = λ q w found. elim (found_after_insert nat_cmp_total exact_unsigned books.accounts a q cash w found) [
    | inl new ↦ (subst IsAccountNumber (sym new.0) number, subst (λ n. n ≤ GREATEST_CASH) new.1 fits)
    | inr old ↦ h.accounts q w old
  ];
  prices = h.prices;
  positions = λ q i quantity found.
      let was = h.positions q i quantity found in
      (stays_after_insert nat_cmp_total books.accounts a q cash was.0, was.1, was.2);
  calls = h.calls;
  queue = h.queue;
  blocks_used = room;
}

-- books in range stay so when an instrument that may have none has another price, if its block is counted
pub put_price-in_range : (books : ClearingBooks) (i price : ℕ) → AreInRange books → IsInstrumentOf books i
    → IsWithin 1 GREATEST_PRICE price → used (put_price books i price) ≤ books.blocks → AreInRange (put_price books i price)
put_price-in_range books i price h number fits room = record {
  blocks = h.blocks;
  instruments = h.instruments;
  ring = h.ring;
  accounts = h.accounts;
  prices = λ q w found. elim (found_after_insert nat_cmp_total exact_unsigned books.prices i q price w found) [
    | inl new ↦ (subst (IsInstrumentOf books) (sym new.0) number, subst (IsWithin 1 GREATEST_PRICE) new.1 fits)
    | inr old ↦ h.prices q w old
  ];
  positions = λ a q quantity found.
      let was = h.positions a q quantity found in
      (was.0, stays_after_insert nat_cmp_total books.prices i q price was.1, was.2);
  calls = h.calls;
  queue = h.queue;
  blocks_used = room;
}

-- books in range stay so when an account holds another quantity of an instrument, if its block is counted
pub put_quantity-in_range : (books : ClearingBooks) (a i quantity : ℕ) → AreInRange books
    → IsSome (map.get books.accounts a) → IsSome (map.get books.prices i) → IsWithin 1 GREATEST_QUANTITY quantity
    → used (put_quantity books a i quantity) ≤ books.blocks → AreInRange (put_quantity books a i quantity)
put_quantity-in_range books a i quantity h account price fits room = record {
  blocks = h.blocks;
  instruments = h.instruments;
  ring = h.ring;
  accounts = h.accounts;
  prices = h.prices;
  positions = λ b j w found. elim (found_after_insert positions_total exact_positions books.positions (a, i) (b, j) quantity w found) [
    | inl new ↦ (
      subst (λ (k : ℕ × ℕ). IsSome (map.get books.accounts k.0)) (sym new.0) account,
      subst (λ (k : ℕ × ℕ). IsSome (map.get books.prices k.1)) (sym new.0) price,
      subst (IsWithin 1 GREATEST_QUANTITY) new.1 fits,
    )
    | inr old ↦ h.positions b j w old
  ];
  calls = h.calls;
  queue = h.queue;
  blocks_used = room;
}

-- books in range stay so when a margin call for which there is room is queued
pub put_call-in_range : (books : ClearingBooks) (a shortfall : ℕ) → AreInRange books → IsCall (a, shortfall)
    → length books.calls < books.ring → AreInRange (put_call books a shortfall)
put_call-in_range books a shortfall h call room = record {
  blocks = h.blocks;
  instruments = h.instruments;
  ring = h.ring;
  accounts = h.accounts;
  prices = h.prices;
  positions = h.positions;
  calls = All-push IsCall books.calls (a, shortfall) h.calls call;
  queue = omega (arith, length-append books.calls ((a, shortfall) ∷ []));
  blocks_used = h.blocks_used;
}

-- a new account takes a block
pub used_after_insert : (books : ClearingBooks) (a cash : ℕ) → map.get books.accounts a ≡ None → used (put_cash books a cash) ≡ used books + 1
used_after_insert books a cash absent = omega (arith, len_after_insert nat_cmp_total books.accounts a cash absent)

-- a new price takes a block
pub used_after_price : (books : ClearingBooks) (i price : ℕ) → map.get books.prices i ≡ None → used (put_price books i price) ≡ used books + 1
used_after_price books i price absent = omega (arith, len_after_insert nat_cmp_total books.prices i price absent)

-- a new position takes a block
pub used_after_position : (books : ClearingBooks) (a i quantity : ℕ) → map.get books.positions (a, i) ≡ None
    → used (put_quantity books a i quantity) ≡ used books + 1
used_after_position books a i quantity absent = omega (arith, len_after_insert positions_total books.positions (a, i) quantity absent)

-- other cash of an account takes no block
pub used_after_change : (books : ClearingBooks) (a cash : ℕ) → IsSome (map.get books.accounts a) → used (put_cash books a cash) ≡ used books
used_after_change books a cash there = omega (arith, len_after_change nat_cmp_total books.accounts a cash there)

-- an account has an account's number
pub number-in_range : (books : ClearingBooks) (a : ℕ) → AreInRange books → (found : Option ℕ)
    → found ≡ map.get books.accounts a → IsSome found → IsAccountNumber a
number-in_range books a h None is there = absurd (cc)
number-in_range books a h (Some cash) is there = (h.accounts a cash (sym is)).0

-- books in range stay so when an account has other cash
pub change-in_range : (books : ClearingBooks) (a cash : ℕ) → AreInRange books → IsSome (map.get books.accounts a)
    → cash ≤ GREATEST_CASH → AreInRange (put_cash books a cash)
change-in_range books a cash h there fits =
    let room : used (put_cash books a cash) ≤ books.blocks = omega (arith, used_after_change books a cash there, h.blocks_used) in
    put_cash-in_range books a cash h (number-in_range books a h (map.get books.accounts a) refl there) fits room
