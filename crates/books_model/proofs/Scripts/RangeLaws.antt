-- Books stay in range, whatever is run on them.
use Rattle.books_model.proofs.Common.{◌≡◌, ℕ, zero, suc, ◌+◌, ◌-◌, ◌*◌, ◌<◌, ◌≤◌, Bool, true, false, cond, not, ◌&&◌, ◌||◌, ◌==◌, nat_lt, List, [], ◌∷◌, length}
use Rattle.books_model.proofs.Common.{drop, All, Option, Some, None, IsSome, is_some, unwrap_or, refl, sym, ap, subst, ◌∙◌, arith, nat_cmp_total}
use Rattle.books_model.proofs.Common.{AllByRecursion, All-weaker, GREATEST_CASH, GREATEST_QUANTITY, Op, Part, operations_in, operations_of, ClearingBooks}
use Rattle.books_model.proofs.Common.{HaveSameSizes, cash_of, position_of, price_of, put_cash, used, AreInRange, IsWithin, IsAccountNumber, IsOperationFor}
use Rattle.books_model.proofs.Common.{holds_any, is_account, is_full, margin_of, next_of, put_position, shortfall_of, worth_of, run_from, step_of, run_part}
use Rattle.books_model.proofs.Common.{run_parts}
use Rattle.std.proofs.Math.Nat.{mul-le-mul_left}
use Rattle.std.proofs.lemmas.Bool.{and_parts}
use Rattle.std.proofs.lemmas.List.Elements.{recursion_from_All}
use Rattle.books_model.specs.declared.limits.TheConstants.{GREATEST_RATE, GREATEST_SHORTFALL}
use Rattle.books_model.specs.Interpreter.{trade_of}
use Rattle.books_model.proofs.Maps.Comparing.{at_least_one, below_most, enough, none_of, not_apart}
use Rattle.books_model.proofs.Maps.Trees.{stays_after_insert}
use Rattle.books_model.proofs.InRange.{put_cash-in_range, put_call-in_range, change-in_range, used_after_insert}
use Rattle.books_model.proofs.Drafts.{room_left, quantity-in_range, price-in_range, priced-in_range, held-in_range, unheld-in_range, closed-in_range}
use Rattle.books_model.proofs.Drafts.{taken-in_range, put_position-apart}
use Rattle.books_model.proofs.Maps.Entries.{AllByRecursion-weaker}
use Rattle.books_model.proofs.Sums.{most_worth, worth_below, worth_first, worth_next, worth_last, price_of_most}
use Rattle.books_model.proofs.Scripts.Outcomes.{WhereDone, WhereEnds, choice, gives, declines, finds_no_block, step_first, run_first, either_holds, both}
use Rattle.books_model.proofs.Scripts.Branches.{All-front, All-back}
use Rattle.books_model.proofs.Scripts.SizeLaws.{part_keeps}
use Rattle.std.specs.FinMap as map
use Rattle.books_model.specs.declared.script.Op.TheVariants as op
use Rattle.books_model.specs.declared.script.Part.TheVariants as part

-- in range, with as many instruments
abbrev pub Stays : ClearingBooks → ClearingBooks → Type 0
Stays books after = AreInRange after × (after.instruments ≡ books.instruments)

is_true : (b : Bool) → not b ≡ false → b ≡ true
is_true true _ = refl
is_true false no_test = absurd (cc)

-- an account's cash is in range
cash_most : (books : ClearingBooks) (a : ℕ) → AreInRange books → cash_of books a ≤ GREATEST_CASH
cash_most books a h = of_found (map.get books.accounts a) refl where
  of_found : (x : Option ℕ) → map.get books.accounts a ≡ x → unwrap_or x 0 ≤ GREATEST_CASH
  of_found None is = omega arith
  of_found (Some v) is = (h.accounts a v is).1

-- what an account holds is in range
held_most : (books : ClearingBooks) (a i : ℕ) → AreInRange books → position_of books a i ≤ GREATEST_QUANTITY
held_most books a i h = of_found (map.get books.positions (a, i)) refl where
  of_found : (x : Option ℕ) → map.get books.positions (a, i) ≡ x → unwrap_or x 0 ≤ GREATEST_QUANTITY
  of_found None is = omega arith
  of_found (Some v) is = (h.positions a i v is).2.1

-- books stay in range when an account holds another quantity, or none, with a block for it if it held none
positioned : (books : ClearingBooks) (a i quantity : ℕ) → AreInRange books → IsSome (map.get books.accounts a)
    → IsSome (map.get books.prices i) → quantity ≤ GREATEST_QUANTITY → (map.get books.positions (a, i) ≡ None → used books < books.blocks)
    → AreInRange (put_position books a i quantity)
positioned books a i quantity h account price fits room =
    elim (quantity == 0) as (λ t. (quantity == 0) ≡ t
    → AreInRange (record books { positions = cond t (map.remove books.positions (a, i)) (map.insert books.positions (a, i) quantity) })) [
      | true ↦ λ _. unheld-in_range books a i h
      | false ↦ λ test. held-in_range books a i quantity h account price (at_least_one quantity test, fits) room
    ] refl

-- books stay in range after a trade
exchanged : (books : ClearingBooks) (a b i q : ℕ) → AreInRange books → 1 ≤ q → (a == b) ≡ false
    → IsSome (map.get books.accounts a) → IsSome (map.get books.accounts b) → IsSome (map.get books.prices i) → q ≤ position_of books b i
    → (nat_lt GREATEST_CASH (cash_of books b + q * price_of books i) || nat_lt GREATEST_QUANTITY (position_of books a i + q)) ≡ false
    → WhereDone (λ _ after. Stays books after) (trade_of books (put_position books b i (position_of books b i - q)) a b i q (q * price_of books i))
exchanged books a b i q h some apart buyer seller price sells limit =
    let cost = q * price_of books i in
    let lowered = put_position books b i (position_of books b i - q) in
    let fits = held_most books b i h in
    let low : AreInRange lowered = positioned books b i (position_of books b i - q) h seller price (omega (arith, fits))
    (λ none. let zero : position_of books b i ≡ 0 = ap (λ x. unwrap_or x 0) none in absurd (omega (arith, zero, sells, some))) in
    let same = put_position-apart books a b i (position_of books b i - q) (λ e. not_apart a b e apart) in
    choice _ (not (map.contains_key books.positions (a, i)) && is_full lowered) _ _ (λ _. finds_no_block _) (λ block.
    let most = or_parts (nat_lt GREATEST_CASH (cash_of books b + cost)) (nat_lt GREATEST_QUANTITY (position_of books a i + q)) limit in
    let both : AreInRange (put_position lowered a i (position_of books a i + q)) =
    positioned lowered a i (position_of books a i + q) low buyer price
    (enough GREATEST_QUANTITY (position_of books a i + q) most.1)
    (λ none. room_left lowered low (full (map.get books.positions (a, i)) (is_full lowered) (sym same ∙ none) block)) in
    let paid = change-in_range (put_position lowered a i (position_of books a i + q)) a (cash_of books a - cost) both
    buyer (omega (arith, cash_most books a h)) in
    let taken = change-in_range (put_cash (put_position lowered a i (position_of books a i + q)) a
    (cash_of books a - cost)) b (cash_of books b + cost) paid (stays_after_insert nat_cmp_total books.accounts a b
    (cash_of books a - cost) seller) (enough GREATEST_CASH (cash_of books b + cost) most.0) in
    gives _ _ _ (taken, refl))
  where
    or_parts : (s t : Bool) → (s || t) ≡ false → (s ≡ false) × (t ≡ false)
    or_parts true t e = absurd (cc)
    or_parts false t e = (refl, e)

    full : (x : Option ℕ) (t : Bool) → x ≡ None → (not (is_some x) && t) ≡ false → t ≡ false
    full x t none test = ap (λ x. not (is_some {T = ℕ} x) && t) (sym none) ∙ test

-- what an account's positions are worth is in range
worth_most : (books : ClearingBooks) (a n : ℕ) → AreInRange books → worth_below books a (n + 1) ≤ n * most_worth
worth_most books a zero h = omega (arith, worth_first books a h)
worth_most books a (suc n) h =
    let before = worth_most books a n h in
    let i = n + 1 in
    let here = price_of_most (map.get books.positions (a, i)) (map.get books.prices i) _ _
    (quantity-in_range books a i h _ refl) (price-in_range books i h _ refl) refl refl in
    let next : suc n + 1 ≡ i + 1 = omega arith in
    let e : worth_below books a (suc n + 1) ≡ worth_below books a (i + 1) = ap (worth_below books a) next in
    omega (arith, before, here, e, worth_next books a i)

-- a shortfall is in range
shortfall_most : (books : ClearingBooks) (a rate : ℕ) → AreInRange books → rate ≤ GREATEST_RATE → shortfall_of books a rate ≤ GREATEST_SHORTFALL
shortfall_most books a rate h fits =
    let most = worth_most books a books.instruments h in
    let last = worth_last books a h in
    let product : worth_of books a * rate ≤ worth_of books a * GREATEST_RATE = mul-le-mul_left (worth_of books a) fits in
    omega (arith, most, last, product, h.instruments.1)

-- the queue's front is taken, or there is none
next_stays : (books : ClearingBooks) (calls : List (ℕ × ℕ)) → books.calls ≡ calls → AreInRange books
    → WhereDone (λ _ after. Stays books after) (next_of books calls)
next_stays books [] is h = gives _ _ _ (h, refl)
next_stays books (call ∷ calls) is h = gives _ _ _ (subst AreInRange (ap (λ cs. record books { calls = drop 1 cs }) is) (taken-in_range books h), refl)

-- a margin call is queued, or none
margin_stays : (books : ClearingBooks) (a shortfall : ℕ) → AreInRange books → IsAccountNumber a
    → shortfall ≤ GREATEST_SHORTFALL → (not (shortfall == 0) && (length books.calls == books.ring)) ≡ false
    → WhereDone (λ _ after. Stays books after) (margin_of books a shortfall)
margin_stays books a shortfall h number most test =
    choice _ (shortfall == 0) _ _ (λ _. gives _ _ _ (h, refl)) (λ some.
    let room : (length books.calls == books.ring) ≡ false = ap (λ t. not t && (length books.calls == books.ring)) (sym some) ∙ test in
    gives _ _ _ (
      put_call-in_range books a shortfall h (number, (at_least_one shortfall some, most))
          (below_most (length books.calls) books.ring h.queue room),
      refl,
    ))

-- books in range stay so after each step
step_stays : (o : Op) (books : ClearingBooks) → AreInRange books → IsOperationFor books o → WhereDone (λ _ after. Stays books after) (step_of o books)
step_stays (op.OpenAccount a) books h number =
    choice _ (is_account books a) _ _ (λ _. declines _ _) (λ absent. choice _ (is_full books) _ _ (λ _. finds_no_block _) (λ room.
    let more = room_left books h room in
    gives _ _ _ (
      put_cash-in_range books a 0 h number (omega arith)
          (omega (arith, more, used_after_insert books a 0 (none_of (map.get books.accounts a) absent))),
      refl,
    )))
step_stays (op.Close a) books h number =
    choice _ (not (is_account books a)) _ _ (λ _. declines _ _)
    (λ _. choice _ (not (cash_of books a == 0)) _ _ (λ _. declines _ _) (λ _. choice _ (holds_any books a) _ _ (λ _. declines _ _) (λ none.
    gives _ _ _ (closed-in_range books a h none, refl))))
step_stays (op.Deposit a x) books h within =
    choice _ (not (is_account books a)) _ _ (λ _. declines _ _) (λ there. choice _ (nat_lt GREATEST_CASH (cash_of books a + x)) _ _ (λ _. declines _ _) (λ fits.
    gives _ _ _ (change-in_range books a (cash_of books a + x) h (is_true (is_account books a) there) (enough GREATEST_CASH (cash_of books a + x) fits), refl)))
step_stays (op.Withdraw a x) books h within =
    choice _ (not (is_account books a)) _ _ (λ _. declines _ _) (λ there. choice _ (nat_lt (cash_of books a) x) _ _ (λ _. declines _ _) (λ _.
    gives _ _ _ (change-in_range books a (cash_of books a - x) h (is_true (is_account books a) there) (omega (arith, cash_most books a h)), refl)))
step_stays (op.Move a b x) books h within =
    choice _ (a == b) _ _ (λ _. declines _ _) (λ _. choice _ (not (is_account books a && is_account books b)) _ _ (λ _. declines _ _) (λ there.
    choice _ (nat_lt (cash_of books a) x) _ _ (λ _. declines _ _) (λ _. choice _ (nat_lt GREATEST_CASH (cash_of books b + x)) _ _ (λ _. declines _ _) (λ fits.
    let both = and_parts (is_account books a) (is_account books b) (is_true (is_account books a && is_account books b) there) in
    let paid = change-in_range books a (cash_of books a - x) h both.0 (omega (arith, cash_most books a h)) in
    gives _ _ _ (
      change-in_range (put_cash books a (cash_of books a - x)) b (cash_of books b + x) paid
          (stays_after_insert nat_cmp_total books.accounts a b (cash_of books a - x) both.1) (enough GREATEST_CASH (cash_of books b + x) fits),
      refl,
    )))))
step_stays (op.Price i p) books h within =
    choice _ (not (map.contains_key books.prices i) && is_full books) _ _ (λ _. finds_no_block _) (λ block.
    gives _ _ _ (
      priced-in_range books i p h within.0 within.1
          (λ none. room_left books h (ap (λ x. not (is_some {T = ℕ} x) && is_full books) (sym none) ∙ block)),
      refl,
    ))
step_stays (op.Trade a b i q) books h within =
    choice _ (a == b) _ _ (λ _. declines _ _) (λ apart. choice _ (not (is_account books a && is_account books b)) _ _ (λ _. declines _ _) (λ there.
    choice _ (not (map.contains_key books.prices i)) _ _ (λ _. declines _ _)
    (λ priced. choice _ (nat_lt (position_of books b i) q) _ _ (λ _. declines _ _) (λ sells.
    choice _ (nat_lt (cash_of books a) (q * price_of books i)) _ _ (λ _. declines _ _) (λ _.
    choice _ (nat_lt GREATEST_CASH (cash_of books b + q * price_of books i) || nat_lt GREATEST_QUANTITY
    (position_of books a i + q)) _ _ (λ _. declines _ _) (λ limit.
    let both = and_parts (is_account books a) (is_account books b) (is_true (is_account books a && is_account books b) there) in
    exchanged books a b i q h within.3.0 apart both.0 both.1 (is_true (map.contains_key books.prices i) priced)
    (enough (position_of books b i) q sells) limit))))))
step_stays (op.Margin a m) books h within =
    choice _ (not (is_account books a)) _ _ (λ _. declines _ _) (λ _.
    choice _ (not (shortfall_of books a m == 0) && (length books.calls == books.ring)) _ _ (λ _. declines _ _) (λ room.
    margin_stays books a (shortfall_of books a m) h within.0 (shortfall_most books a m h within.1.1) room))
step_stays op.Next books h within = next_stays books books.calls refl h
step_stays (op.Show a) books h within = choice _ (not (is_account books a)) _ _ (λ _. declines _ _) (λ _. gives _ _ _ (h, refl))
step_stays (op.Sum a b) books h within = gives _ _ _ (h, refl)

-- an operation for books is one for others with as many instruments
pub operation_for : (a b : ClearingBooks) → b.instruments ≡ a.instruments → (o : Op) → IsOperationFor a o → IsOperationFor b o
operation_for a b e (op.OpenAccount x) h = h
operation_for a b e (op.Close x) h = h
operation_for a b e (op.Deposit x y) h = h
operation_for a b e (op.Withdraw x y) h = h
operation_for a b e (op.Move x y z) h = h
operation_for a b e (op.Price i p) h = (subst (λ n. IsWithin 1 n i) (sym e) h.0, h.1)
operation_for a b e (op.Trade x y i q) h = (h.0, h.1, subst (λ n. IsWithin 1 n i) (sym e) h.2, h.3)
operation_for a b e (op.Margin x m) h = h
operation_for a b e op.Next h = h
operation_for a b e (op.Show x) h = h
operation_for a b e (op.Sum x y) h = h

-- books in range stay so after a run
pub run_stays : (k : ℕ) (ops : List Op) (books : ClearingBooks) → AreInRange books
    → AllByRecursion (IsOperationFor books) ops → WhereEnds (λ _ after. AreInRange after) (run_from k ops books)
run_stays k [] books h each = h
run_stays k (o ∷ ops) books h each =
    step_first (λ _ after. AreInRange after) (λ _ after. Stays books after) k (step_of o books)
    (λ next. run_from (k + 1) ops next) (step_stays o books h each.0)
    (λ v next stays. (
      λ _ after. AreInRange after,
      run_stays (k + 1) ops next stays.0 (AllByRecursion-weaker (IsOperationFor books) (IsOperationFor next)
          (operation_for books next stays.1) ops each.1),
      λ values after i. i,
    ))

-- and after a part
part_stays : (k : ℕ) (p : Part) (books : ClearingBooks) → AreInRange books
    → All (IsOperationFor books) (operations_in p) → WhereEnds (λ _ after. AreInRange after) (run_part k p books)
part_stays k (part.One o) books h each = run_stays k (o ∷ []) books h (recursion_from_All (IsOperationFor books) (o ∷ []) each)
part_stays k (part.Either first second) books h each =
    either_holds (λ _ after. AreInRange after) _ _
    (run_stays k first books h (recursion_from_All (IsOperationFor books) first (All-front (IsOperationFor books) first second each)))
    (run_stays (k + length first) second books h (recursion_from_All (IsOperationFor books) second (All-back (IsOperationFor books) first second each)))

-- and after a run of parts
pub parts_stay : (k : ℕ) (parts : List Part) (books : ClearingBooks) → AreInRange books
    → All (IsOperationFor books) (operations_of parts) → WhereEnds (λ _ after. AreInRange after) (run_parts k parts books)
parts_stay k [] books h each = h
parts_stay k (p ∷ parts) books h each =
    run_first (λ _ after. AreInRange after) (λ _ after. AreInRange after × HaveSameSizes books after) (run_part k p books)
    (λ next. run_parts (k + length (operations_in p)) parts next)
    (both (λ _ after. AreInRange after) (λ _ after. HaveSameSizes books after) _
    (part_stays k p books h (All-front (IsOperationFor books) (operations_in p) (operations_of parts) each)) (part_keeps k p books))
    (λ values next first. parts_stay (k + length (operations_in p)) parts next first.0
    (All-weaker (IsOperationFor books) (IsOperationFor next) (operation_for books next first.1.instruments)
    (operations_of parts) (All-back (IsOperationFor books) (operations_in p) (operations_of parts) each)))
