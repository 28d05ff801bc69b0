-- What changes do to books in range.
use Rattle.books_model.proofs.Common.{◌≡◌, ◌≢◌, if◌then◌else◌, ℕ, ◌+◌, ◌<◌, ◌≤◌, Bool, true, false, cond, drop, Option, Some, None, IsSome, IfSome, is_some}
use Rattle.books_model.proofs.Common.{◌==◌, refl, sym, ap, subst, ◌∙◌, arith, eq-eqb, nat_cmp_total, nat_cmp, eq_by_cmp, All-drop, length-drop, exact_unsigned}
use Rattle.books_model.proofs.Common.{tells_apart, GREATEST_PRICE, GREATEST_QUANTITY, ClearingBooks, position_cmp, used, put_cash, put_price, put_quantity}
use Rattle.books_model.proofs.Common.{AreInRange, IsWithin, IsCall, IsInstrumentOf, holds_any, is_full, put_position, set_account, set_position, set_price}
use Rattle.books_model.proofs.Maps.Comparing.{below_most}
use Rattle.books_model.proofs.Maps.Trees.{positions_total, exact_positions}
use Rattle.books_model.proofs.InRange.{put_price-in_range, put_quantity-in_range, used_after_price, used_after_position}
use Rattle.books_model.proofs.Maps.Entries.{len-set_at, len_positive, none_found}
use Rattle.std.specs.FinMap as map

-- how many blocks are used after an account is changed
pub used_account : (books : ClearingBooks) (a : ℕ) (w : Option ℕ)
    → used (set_account books a w) + cond (is_some (map.get books.accounts a)) 1 0 ≡ used books + cond (is_some w) 1 0
used_account books a w = omega (arith, len-set_at nat_cmp_total books.accounts a w)

-- how many blocks are used after a position is changed
pub used_position : (books : ClearingBooks) (a i : ℕ) (w : Option ℕ)
    → used (set_position books a i w) + cond (is_some (map.get books.positions (a, i))) 1 0 ≡ used books + cond (is_some w) 1 0
used_position books a i w = omega (arith, len-set_at positions_total books.positions (a, i) w)

-- how many blocks are used after a price is changed
pub used_price : (books : ClearingBooks) (i : ℕ) (w : Option ℕ)
    → used (set_price books i w) + cond (is_some (map.get books.prices i)) 1 0 ≡ used books + cond (is_some w) 1 0
used_price books i w = omega (arith, len-set_at nat_cmp_total books.prices i w)

-- a count that goes along is right afterwards
pub counted : (result count now_used was_used : ℕ) (was found w : Option ℕ) → was ≡ found → count ≡ was_used
    → result + cond (is_some was) 1 0 ≡ count + cond (is_some w) 1 0
    → now_used + cond (is_some found) 1 0 ≡ was_used + cond (is_some w) 1 0 → result ≡ now_used
counted result count now_used was_used was found w same right step blocks =
    let e : cond (is_some was) 1 0 ≡ cond {A = ℕ} (is_some found) 1 0 = ap (λ (x : Option ℕ). cond (is_some x) 1 0) same in omega arith

-- an account takes a block
pub account_is_used : (books : ClearingBooks) (a : ℕ) → IsSome (map.get books.accounts a) → 0 < used books
account_is_used books a there = let more = len_positive nat_cmp_total books.accounts a there in omega arith

-- a position takes a block
pub position_is_used : (books : ClearingBooks) (a i : ℕ) → IsSome (map.get books.positions (a, i)) → 0 < used books
position_is_used books a i there = let more = len_positive positions_total books.positions (a, i) there in omega arith

-- a price takes a block
pub price_is_used : (books : ClearingBooks) (i : ℕ) → IsSome (map.get books.prices i) → 0 < used books
price_is_used books i there = let more = len_positive nat_cmp_total books.prices i there in omega arith

-- what is found after a key was taken out was there, at another key
found_after_remove : {X : Type 0} (b : Bool) (x : Option X) (v : X) → cond b None x ≡ Some v → (b ≡ false) × (x ≡ Some v)
found_after_remove true x v found = absurd (cc)
found_after_remove false x v found = (refl, found)

-- books that are not full have a block left
pub room_left : (books : ClearingBooks) → AreInRange books → is_full books ≡ false → used books < books.blocks
room_left books h not_full = below_most (used books) books.blocks h.blocks_used not_full

-- books in range stay so when an instrument has a price, for which there is a block if it had none
pub priced-in_range : (books : ClearingBooks) (i price : ℕ) → AreInRange books → IsInstrumentOf books i
    → IsWithin 1 GREATEST_PRICE price → (map.get books.prices i ≡ None → used books < books.blocks) → AreInRange (put_price books i price)
priced-in_range books i price h instrument fits room =
    put_price-in_range books i price h instrument fits (elim (map.get books.prices i) as (λ x. map.get books.prices i
    ≡ x → used (put_price books i price) ≤ books.blocks) [
      | None ↦ λ none. let more = room none in omega (arith, used_after_price books i price none)
      | Some p ↦ λ some. omega (arith, used_price books i (Some price), ap (λ (x : Option ℕ). cond {A = ℕ} (is_some x) 1 0) some, h.blocks_used)
    ] refl)

-- books in range stay so when an account holds another quantity, for which there is a block if it held none
pub held-in_range : (books : ClearingBooks) (a i quantity : ℕ) → AreInRange books → IsSome (map.get books.accounts a)
    → IsSome (map.get books.prices i) → IsWithin 1 GREATEST_QUANTITY quantity
    → (map.get books.positions (a, i) ≡ None → used books < books.blocks) → AreInRange (put_quantity books a i quantity)
held-in_range books a i quantity h account price fits room =
    put_quantity-in_range books a i quantity h account price fits
    (elim (map.get books.positions (a, i)) as (λ x. map.get books.positions (a, i) ≡ x → used (put_quantity books a i quantity) ≤ books.blocks) [
      | None ↦ λ none. let more = room none in omega (arith, used_after_position books a i quantity none)
      | Some p ↦ λ some. omega (arith, used_position books a i (Some quantity), ap (λ (x : Option ℕ). cond {A = ℕ} (is_some x) 1 0) some, h.blocks_used)
    ] refl)

-- the quantity of a position is in range
pub quantity-in_range : (books : ClearingBooks) (a i : ℕ) → AreInRange books → (found : Option ℕ)
    → found ≡ map.get books.positions (a, i) → IfSome found (IsWithin 1 GREATEST_QUANTITY)
quantity-in_range books a i h None is = tt
quantity-in_range books a i h (Some quantity) is = (h.positions a i quantity (sym is)).2

-- a price is in range
pub price-in_range : (books : ClearingBooks) (i : ℕ) → AreInRange books → (found : Option ℕ)
    → found ≡ map.get books.prices i → IfSome found (IsWithin 1 GREATEST_PRICE)
price-in_range books i h None is = tt
price-in_range books i h (Some price) is = (h.prices i price (sym is)).1

-- an account that holds nothing has no position
pub holds_none : (books : ClearingBooks) (a i : ℕ) → holds_any books a ≡ false → map.get books.positions (a, i) ≡ None
holds_none books a i none = map.get-entries books.positions (a, i)
    ∙ none_found positions_total exact_positions (λ e. e.0.0 == a) (a, i) (map.entries books.positions) (λ v. eq-eqb a a refl) none

-- books in range stay so when an account that holds nothing is taken out
pub closed-in_range : (books : ClearingBooks) (a : ℕ) → AreInRange books → holds_any books a ≡ false → AreInRange (set_account books a None)
closed-in_range books a h none = record {
  blocks = h.blocks;
  instruments = h.instruments;
  ring = h.ring;
  accounts = λ b cash found. h.accounts b cash (found_after_remove (eq_by_cmp nat_cmp b a) (map.get books.accounts b)
      cash (sym (map.get-remove nat_cmp_total books.accounts a b) ∙ found)).1;
  prices = h.prices;
  positions = λ b i quantity found.
      let was = h.positions b i quantity found in
      (stays b i quantity found was.0, was.1, was.2);
  calls = h.calls;
  queue = h.queue;
  blocks_used = omega (arith, used_account books a None, h.blocks_used);
}
  where
    stays : (b i quantity : ℕ) → map.get books.positions (b, i) ≡ Some quantity → IsSome (map.get books.accounts b)
        → IsSome (map.get (map.remove books.accounts a) b)
    stays b i quantity found there = elim (eq_by_cmp nat_cmp b a) as (λ c. eq_by_cmp nat_cmp b a ≡ c → IsSome (map.get (map.remove books.accounts a) b)) [
      | true ↦ λ at. let gone : map.get books.positions (b, i) ≡ None =
          ap (λ k. map.get books.positions (k, i)) (same b a at) ∙ holds_none books a i none in absurd (cc)
      | false ↦ λ apart. subst IsSome (sym (map.get-remove nat_cmp_total books.accounts a b ∙ ap (λ c. cond c None (map.get books.accounts b)) apart)) there
    ] refl
      where
        same : (b a : ℕ) → eq_by_cmp nat_cmp b a ≡ true → b ≡ a
        same b a at = tells_apart exact_unsigned b a at

-- books in range stay so when a position is taken out
pub unheld-in_range : (books : ClearingBooks) (a i : ℕ) → AreInRange books → AreInRange (set_position books a i None)
unheld-in_range books a i h = record {
  blocks = h.blocks;
  instruments = h.instruments;
  ring = h.ring;
  accounts = h.accounts;
  prices = h.prices;
  positions = λ b j quantity found.
      h.positions b j quantity (found_after_remove _ (map.get books.positions (b, j)) quantity
      (sym (map.get-remove positions_total books.positions (a, i) (b, j)) ∙ found)).1;
  calls = h.calls;
  queue = h.queue;
  blocks_used = omega (arith, used_position books a i None, h.blocks_used);
}

-- books in range stay so when the queue's front is taken
pub taken-in_range : (books : ClearingBooks) → AreInRange books → AreInRange (record books { calls = drop 1 books.calls })
taken-in_range books h = record {
  blocks = h.blocks;
  instruments = h.instruments;
  ring = h.ring;
  accounts = h.accounts;
  prices = h.prices;
  positions = h.positions;
  calls = All-drop IsCall 1 books.calls h.calls;
  queue = omega (arith, length-drop 1 books.calls, h.queue);
  blocks_used = h.blocks_used;
}

-- an account's cash leaves that of another
pub put_cash-apart : (books : ClearingBooks) (a b cash : ℕ) → a ≢ b → map.get (put_cash books a cash).accounts b ≡ map.get books.accounts b
put_cash-apart books a b cash apart = map.get-insert nat_cmp_total books.accounts a cash b ∙ ap (λ t. cond t (Some cash) (map.get books.accounts b)) test
  where
    test : eq_by_cmp nat_cmp b a ≡ false
    test = elim (eq_by_cmp nat_cmp b a) as (λ t. eq_by_cmp nat_cmp b a ≡ t → t ≡ false) [
      | true ↦ λ at. absurd (apart (sym (tells_apart exact_unsigned b a at)))
      | false ↦ λ _. refl
    ] refl

-- a trade of the seller leaves what the buyer holds
pub put_position-apart : (books : ClearingBooks) (a b i quantity : ℕ) → a ≢ b
    → map.get (put_position books b i quantity).positions (a, i) ≡ map.get books.positions (a, i)
put_position-apart books a b i quantity apart =
    elim (quantity == 0) as (λ t. map.get (if t then map.remove books.positions (b, i) else map.insert books.positions
    (b, i) quantity) (a, i) ≡ map.get books.positions (a, i)) [
      | true ↦ map.get-remove positions_total books.positions (b, i) (a, i) ∙ ap (λ t. cond t None (map.get books.positions (a, i))) test
      | false ↦ map.get-insert positions_total books.positions (b, i) quantity (a, i) ∙ ap (λ t. cond t (Some quantity) (map.get books.positions (a, i))) test
    ]
  where
    test : eq_by_cmp position_cmp (a, i) (b, i) ≡ false
    test = elim (eq_by_cmp position_cmp (a, i) (b, i)) as (λ t. eq_by_cmp position_cmp (a, i) (b, i) ≡ t → t ≡ false) [
      | true ↦ λ at. absurd (apart (ap (λ (k : ℕ × ℕ). k.0) (tells_apart exact_positions (a, i) (b, i) at)))
      | false ↦ λ _. refl
    ] refl
