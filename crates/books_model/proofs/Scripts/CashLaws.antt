-- What operations do to all cash, and to all that is held of an instrument.
use Rattle.books_model.proofs.Common.{◌≡◌, ℕ, ◌+◌, ◌-◌, ◌*◌, ◌≤◌, Bool, true, false, cond, not, ◌&&◌, ◌||◌, ◌==◌, nat_lt, Option, Some, None, unwrap_or, refl}
use Rattle.books_model.proofs.Common.{sym, ap, ◌∙◌, arith, nat_cmp_total, nat_cmp, eq_by_cmp, nat_tests, exact_unsigned, tells_apart, GREATEST_CASH}
use Rattle.books_model.proofs.Common.{GREATEST_QUANTITY, Value, ClearingBooks, cash_of, position_of, price_of, put_cash, is_account, is_full, put_position}
use Rattle.books_model.proofs.Common.{step_of}
use Rattle.books_model.specs.Laws.{all_cash, all_held}
use Rattle.books_model.proofs.Maps.Comparing.{enough, not_apart}
use Rattle.books_model.proofs.Maps.Trees.{positions_total, exact_positions}
use Rattle.books_model.proofs.Maps.Entries.{weigh, sum_by-set_at}
use Rattle.books_model.proofs.Drafts.{put_position-apart}
use Rattle.books_model.proofs.Scripts.Outcomes.{WhereDone, choice, gives, declines, finds_no_block}
use Rattle.std.specs.FinMap as map
use Rattle.books_model.specs.declared.script.Op.TheVariants as op
use Rattle.books_model.specs.declared.reply.Value.TheVariants as value

-- all cash, if one account has other cash
all_cash-put_cash : (books : ClearingBooks) (a cash : ℕ) → all_cash (put_cash books a cash) + cash_of books a ≡ all_cash books + cash
all_cash-put_cash books a cash =
    let e = sum_by-set_at nat_cmp_total exact_unsigned (λ e. e.1) books.accounts a (Some cash) in
    let w = weighed (map.get books.accounts a) in
    omega (arith, e, w)
  where
    weighed : (x : Option ℕ) → weigh (λ (e : ℕ × ℕ). e.1) a x ≡ unwrap_or x 0
    weighed None = refl
    weighed (Some v) = refl

-- other cash of one account leaves that of another
cash_of-apart : (books : ClearingBooks) (a b cash : ℕ) → (a == b) ≡ false → cash_of (put_cash books a cash) b ≡ cash_of books b
cash_of-apart books a b cash apart = ap (λ x. unwrap_or x 0) (map.get-insert nat_cmp_total books.accounts a cash b
    ∙ ap (λ t. cond t (Some cash) (map.get books.accounts b)) (other (eq_by_cmp nat_cmp b a) refl)) where
      other : (t : Bool) → eq_by_cmp nat_cmp b a ≡ t → eq_by_cmp nat_cmp b a ≡ false
      other true at = let same : b ≡ a = tells_apart exact_unsigned b a at in absurd (not_apart a b (sym same) apart)
      other false at = at

-- what one account gives to another is all there still
pub given : (books : ClearingBooks) (a b x : ℕ) → (a == b) ≡ false → x ≤ cash_of books a
    → all_cash (put_cash (put_cash books a (cash_of books a - x)) b (cash_of books b + x)) ≡ all_cash books
given books a b x apart fits =
    let first = all_cash-put_cash books a (cash_of books a - x) in
    let second = all_cash-put_cash (put_cash books a (cash_of books a - x)) b (cash_of books b + x) in
    let same = cash_of-apart books a b (cash_of books a - x) apart in
    omega (arith, first, second, same)

-- a deposit adds its amount
pub deposited : (books : ClearingBooks) (a x : ℕ) → WhereDone (λ _ after. all_cash after ≡ all_cash books + x) (step_of (op.Deposit a x) books)
deposited books a x = choice _ (not (is_account books a)) _ _ (λ _. declines _ _)
    (λ _. choice _ (nat_lt GREATEST_CASH (cash_of books a + x)) _ _ (λ _. declines _ _)
    (λ _. gives _ _ _ (omega (arith, all_cash-put_cash books a (cash_of books a + x)))))

-- a withdrawal takes its amount
pub withdrawn : (books : ClearingBooks) (a x : ℕ) → WhereDone (λ _ after. all_cash after + x ≡ all_cash books) (step_of (op.Withdraw a x) books)
withdrawn books a x = choice _ (not (is_account books a)) _ _ (λ _. declines _ _)
    (λ _. choice _ (nat_lt (cash_of books a) x) _ _ (λ _. declines _ _)
    (λ test. gives _ _ _ (omega (arith, all_cash-put_cash books a (cash_of books a - x), enough (cash_of books a) x test))))

-- a move keeps all cash
pub moved : (books : ClearingBooks) (a b x : ℕ) → WhereDone (λ _ after. all_cash after ≡ all_cash books) (step_of (op.Move a b x) books)
moved books a b x = choice _ (a == b) _ _ (λ _. declines _ _)
    (λ apart. choice _ (not (is_account books a && is_account books b)) _ _ (λ _. declines _ _)
    (λ _. choice _ (nat_lt (cash_of books a) x) _ _ (λ _. declines _ _)
    (λ test. choice _ (nat_lt GREATEST_CASH (cash_of books b + x)) _ _ (λ _. declines _ _)
    (λ _. gives _ _ _ (given books a b x apart (enough (cash_of books a) x test))))))

-- what holds of each trade that is done, from what is tested before it
pub traded : (C : Value → ClearingBooks → Type 0) (books : ClearingBooks) (a b i q : ℕ)
    → ((a == b) ≡ false → q ≤ position_of books b i → q * price_of books i ≤ cash_of books a
    → C value.Done (put_cash (put_cash (put_position (put_position books b i (position_of books b i - q)) a i
    (position_of books a i + q)) a (cash_of books a - q * price_of books i)) b (cash_of books b + q * price_of books i)))
    → WhereDone C (step_of (op.Trade a b i q) books)
traded C books a b i q h =
    choice C (a == b) _ _ (λ _. declines _ _) (λ apart. choice C (not (is_account books a && is_account books b)) _ _ (λ _. declines _ _) (λ _.
    choice C (not (map.contains_key books.prices i)) _ _ (λ _. declines _ _) (λ _. choice C (nat_lt (position_of books b i) q) _ _ (λ _. declines _ _) (λ sells.
    choice C (nat_lt (cash_of books a) (q * price_of books i)) _ _ (λ _. declines _ _) (λ pays.
    choice C (nat_lt GREATEST_CASH (cash_of books b + q * price_of books i) || nat_lt GREATEST_QUANTITY
    (position_of books a i + q)) _ _ (λ _. declines _ _) (λ _.
    choice C (not (map.contains_key books.positions (a, i)) && is_full (put_position books b i (position_of books b i - q))) _ _ (λ _. finds_no_block _) (λ _.
    gives _ _ _ (h apart (enough (position_of books b i) q sells) (enough (cash_of books a) (q * price_of books i) pays)))))))))

-- a trade keeps all cash
pub traded_cash : (books : ClearingBooks) (a b i q : ℕ) → WhereDone (λ _ after. all_cash after ≡ all_cash books) (step_of (op.Trade a b i q) books)
traded_cash books a b i q = traded _ books a b i q (λ apart _ pays.
    let exchanged = put_position (put_position books b i (position_of books b i - q)) a i (position_of books a i + q) in
    given exchanged a b (q * price_of books i) apart pays)

-- what is held of an instrument, if one account holds another quantity
all_held-put_position : (books : ClearingBooks) (a i quantity j : ℕ)
    → all_held (put_position books a i quantity) j + cond (i == j) (position_of books a i) 0 ≡ all_held books j + cond (i == j) quantity 0
all_held-put_position books a i quantity j =
    let f : (ℕ × ℕ) × ℕ → ℕ = λ e. cond (e.0.1 == j) e.1 0 in
    let was = weighed (map.get books.positions (a, i)) in
    elim (quantity == 0) as (λ t. (quantity == 0) ≡ t
    → all_held (record books {
      positions =
          cond t (map.remove books.positions (a, i)) (map.insert books.positions (a, i) quantity);
    }) j
    + cond (i == j) (position_of books a i) 0 ≡ all_held books j + cond (i == j) quantity 0) [
      | true ↦ λ test.
          let none : quantity ≡ 0 = grind (arith, nat_tests, test) in
          let zero : cond (i == j) quantity 0 ≡ 0 = ap (λ n. cond (i == j) n 0) none ∙ nothing (i == j) in
          omega (arith, was, zero, sum_by-set_at positions_total exact_positions f books.positions (a, i) None)
      | false ↦ λ _. omega (arith, was, sum_by-set_at positions_total exact_positions f books.positions (a, i) (Some quantity))
    ] refl
  where
    nothing : (t : Bool) → ◌≡◌ {A = ℕ} (cond t 0 0) 0
    nothing true = refl
    nothing false = refl

    weighed : (x : Option ℕ) → weigh (λ (e : (ℕ × ℕ) × ℕ). cond (e.0.1 == j) e.1 0) (a, i) x ≡ cond (i == j) (unwrap_or x 0) 0
    weighed None = sym (nothing (i == j))
    weighed (Some v) = refl

-- a trade keeps what is held of each instrument
pub traded_quantities : (books : ClearingBooks) (a b i q j : ℕ) → WhereDone (λ _ after. all_held after j ≡ all_held books j) (step_of (op.Trade a b i q) books)
traded_quantities books a b i q j = traded _ books a b i q (λ apart fits _.
    let lowered = put_position books b i (position_of books b i - q) in
    let sold = all_held-put_position books b i (position_of books b i - q) j in
    let bought = all_held-put_position lowered a i (position_of books a i + q) j in
    let same : position_of lowered a i ≡ position_of books a i =
    ap (λ x. unwrap_or x 0) (put_position-apart books a b i (position_of books b i - q) (λ e. not_apart a b e apart)) in
    in_all (i == j) (position_of books a i) (position_of books b i) q (all_held books j) (all_held lowered j) _ fits
    sold (ap (λ n. all_held (put_position lowered a i (position_of books a i + q)) j + cond (i == j) n 0) (sym same) ∙ bought))
  where
    in_all : (t : Bool) (pa pb q before lowered after : ℕ) → q ≤ pb → lowered + cond t pb 0 ≡ before + cond t (pb - q) 0
        → after + cond t pa 0 ≡ lowered + cond t (pa + q) 0 → after ≡ before
    in_all true pa pb q before lowered after fits sold bought = omega arith
    in_all false pa pb q before lowered after fits sold bought = omega arith
