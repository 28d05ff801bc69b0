-- Sums over books: cash between two accounts, and what positions are worth.
use Rattle.books_model.proofs.Common.{◌≡◌, ℕ, ◌+◌, ◌*◌, ◌^◌, ◌<◌, ◌≤◌, Bool, true, false, cond, ◌&&◌, not, ◌==◌, nat_lt, List, [], ◌∷◌, length, Option, Some}
use Rattle.books_model.proofs.Common.{None, IsSome, IfSome, unwrap_or, refl, sym, ap, ◌∙◌, arith, eq-eqb, IsTotalOrder, nat_cmp_total, tied_itself, Ordering}
use Rattle.books_model.proofs.Common.{Less, Equal, Greater, nat_cmp, eq_by_cmp, is_eq, is_lt, entries_between, AllByRecursion, sum_by, list_any}
use Rattle.books_model.proofs.Common.{IsStrictlySortedBy, keys_of, nat_tests, sum_by-cons, sorted_tail, CmpEqualImpliesEq, exact_unsigned, GREATEST_CASH}
use Rattle.books_model.proofs.Common.{GREATEST_PRICE, GREATEST_QUANTITY, Change, ClearingBooks, position_cmp, price_of, AreInRange, IsWithin, cash_between}
use Rattle.books_model.proofs.Common.{worth_of, holds_any, KnowBefore, changed, set_at, before_between, now_between}
use Rattle.std.proofs.Common.{nat_le}
use Rattle.std.proofs.Math.Nat.{mul-le-mul}
use Rattle.std.specs.declared.ops.Bound.TheVariants.{Included}
use Rattle.std.specs.Ordering.{is_le}
use Rattle.books_model.proofs.Maps.Trees.{positions_total, exact_positions, entries-from_entries}
use Rattle.books_model.proofs.Maps.Changes.{get-changed, change_at_first, none_further, KnowBefore-further, KnowBefore-past, now_or}
use Rattle.books_model.proofs.Maps.Entries.{weigh, All-entries, some_found, sum_by-filter, sum_by-same, sum_by-plus, sum_by-most, sum_by-set_at, sum_by-one}
use Rattle.std.specs.FinMap as map

-- the tests of a range are those of its ends
tests_of : (a b k : ℕ) → (is_le (nat_cmp a k) && not (is_lt (nat_cmp b k))) ≡ (nat_le a k && nat_le k b)
tests_of a b k = λ i. low i && high i where
  le_of : (less same le : Bool) → (less ≡ true → le ≡ true) → (same ≡ true → le ≡ true)
      → (less ≡ false → same ≡ false → le ≡ false) → is_le (cond less Less (cond same Equal Greater)) ≡ le
  le_of true same le f g h = sym (f refl)
  le_of false true le f g h = sym (g refl)
  le_of false false le f g h = sym (h refl refl)

  not_lt_of : (less same le : Bool) → (less ≡ true → le ≡ false) → (less ≡ false → le ≡ true) → not (is_lt (cond less Less (cond same Equal Greater))) ≡ le
  not_lt_of true same le f g = sym (f refl)
  not_lt_of false true le f g = sym (g refl)
  not_lt_of false false le f g = sym (g refl)

  low : is_le (nat_cmp a k) ≡ nat_le a k
  low = le_of (nat_lt a k) (a == k) (nat_le a k) (λ e. grind (arith, nat_tests, e)) (λ e. grind (arith, nat_tests, e)) (λ e f. grind (arith, nat_tests, e, f))

  high : not (is_lt (nat_cmp b k)) ≡ nat_le k b
  high = not_lt_of (nat_lt b k) (b == k) (nat_le k b) (λ e. grind (arith, nat_tests, e)) (λ e. grind (arith, nat_tests, e))

-- a property of every element
all_of : {X : Type 0} (P : X → Type 0) → ((x : X) → P x) → (xs : List X) → AllByRecursion P xs
all_of P each [] = tt
all_of P each (x ∷ xs) = (each x, all_of P each xs)

-- a sum of nothing
zeros : {X : Type 0} (xs : List X) → sum_by (λ _. 0) xs ≡ 0
zeros [] = refl
zeros (x ∷ xs) = let rest = zeros xs in omega (arith, sum_by-cons (λ _. 0) x xs)

-- the sum over a range is that of what lies between its ends
pub sum_between : {X : Type 0} (f : ℕ × X → ℕ) (a b : ℕ) (es : List (ℕ × X))
    → sum_by f (entries_between nat_cmp (Included a) (Included b) es) ≡ sum_by (λ e. cond (nat_le a e.0 && nat_le e.0 b) (f e) 0) es
sum_between f a b es =
    sum_by-filter (λ e. is_le (nat_cmp a e.0) && not (is_lt (nat_cmp b e.0))) f es
    ∙ sum_by-same (λ e. cond (is_le (nat_cmp a e.0) && not (is_lt (nat_cmp b e.0))) (f e) 0)
    (λ e. cond (nat_le a e.0 && nat_le e.0 b) (f e) 0) es (all_of _ (λ e. ap (λ t. cond t (f e) 0) (tests_of a b e.0)) es)

-- the cash of the accounts in a range
pub range_cash : (books : ClearingBooks) (a b : ℕ) (es above : List (ℕ × ℕ)) → map.from_entries es ≡ books.accounts
    → IsStrictlySortedBy nat_cmp (keys_of es) → above ≡ entries_between nat_cmp (Included a) (Included b) es
    → sum_by (λ e. e.1) above ≡ cash_between books a b
range_cash books a b es above from sorted is =
    ap (sum_by (λ e. e.1)) is ∙ sum_between (λ e. e.1) a b es
    ∙ ap (sum_by (λ e. cond (nat_le a e.0 && nat_le e.0 b) e.1 0)) (sym (entries-from_entries nat_cmp_total es sorted) ∙ ap map.entries from)

-- the cash of accounts fits 128 bits
pub cash-fits : (books : ClearingBooks) (a b : ℕ) → AreInRange books → cash_between books a b < 2 ^ 128
cash-fits books a b h =
    let most : cash_between books a b ≤ length (map.entries books.accounts) * GREATEST_CASH =
    sum_by-most (λ e. cond (nat_le a e.0 && nat_le e.0 b) e.1 0) GREATEST_CASH (map.entries books.accounts)
    (All-entries nat_cmp_total exact_unsigned _ books.accounts (λ k v there. at_most (nat_le a k && nat_le k b) v GREATEST_CASH (h.accounts k v there).1)) in
    omega (arith, most, map.len-entries books.accounts, h.blocks_used, h.blocks.1)
  where
    at_most : (t : Bool) (v most : ℕ) → v ≤ most → cond t v 0 ≤ most
    at_most true v most le = le
    at_most false v most le = omega arith

module _ {K : Type 0} {R : K → K → Ordering} (o : IsTotalOrder R) (exact : CmpEqualImpliesEq R) (f : K × ℕ → ℕ) where
  -- what changed keys had is a part of the whole
  pub before-le : (m : map.FinMap R ℕ) (es : List (K × Change)) → IsStrictlySortedBy R (keys_of es) → KnowBefore m es
      → sum_by (λ e. weigh f e.0 e.1.before) es ≤ sum_by f (map.entries m)
  before-le m [] sorted known = omega arith
  before-le m (e ∷ es) sorted known =
      let rest = before-le (set_at m e.0 None) es (sorted_tail R e.0 (keys_of es) sorted) (KnowBefore-past o m e es None sorted known) in
      let here : weigh f e.0 e.1.before ≡ weigh f e.0 (map.get m e.0) = ap (weigh f e.0) (known e.0 e.1 (change_at_first o e es)) in
      omega (arith, rest, here, sum_by-set_at o exact f m e.0 None, sum_by-cons (λ e. weigh f e.0 e.1.before) e es)

  -- the whole after changes, with what their keys had, is the whole before them, with what they have now
  pub sum_by-changed : (m : map.FinMap R ℕ) (es : List (K × Change)) → IsStrictlySortedBy R (keys_of es) → KnowBefore m es
      → sum_by f (map.entries (changed m es)) + sum_by (λ e. weigh f e.0 e.1.before) es ≡ sum_by f (map.entries m) + sum_by (λ e. weigh f e.0 e.1.now) es
  sum_by-changed m [] sorted known = refl
  sum_by-changed m (e ∷ es) sorted known =
      let rest = sum_by-changed m es (sorted_tail R e.0 (keys_of es) sorted) (KnowBefore-further o m e es sorted known) in
      let was : map.get (changed m es) e.0 ≡ e.1.before =
      get-changed o m es e.0 ∙ ap (λ x. now_or x (map.get m e.0))
      (none_further o e es e.0 sorted (ap is_eq (tied_itself o e.0))) ∙ sym (known e.0 e.1 (change_at_first o e es)) in
      let here : weigh f e.0 (map.get (changed m es) e.0) ≡ weigh f e.0 e.1.before = ap (weigh f e.0) was in
      omega (
        arith,
        rest,
        here,
        sum_by-set_at o exact f (changed m es) e.0 e.1.now,
        sum_by-cons (λ e. weigh f e.0 e.1.before) e es,
        sum_by-cons (λ e. weigh f e.0 e.1.now) e es,
      )

-- the cash of an account that lies between two numbers
abbrev between : ℕ → ℕ → ℕ × ℕ → ℕ
between a b e = cond (nat_le a e.0 && nat_le e.0 b) e.1 0

weigh-between : (a b k : ℕ) (w : Option ℕ) → weigh (between a b) k w ≡ cond (nat_le a k && nat_le k b) (unwrap_or w 0) 0
weigh-between a b k (Some v) = refl
weigh-between a b k None = same (nat_le a k && nat_le k b) where
  same : (t : Bool) → ◌≡◌ {A = ℕ} 0 (cond t 0 0)
  same true = refl
  same false = refl

weigh-before : (a b : ℕ) (es : List (ℕ × Change)) → sum_by (λ e. weigh (between a b) e.0 e.1.before) es ≡ before_between es a b
weigh-before a b es = sum_by-same _ _ es (all_of _ (λ e. weigh-between a b e.0 e.1.before) es)

weigh-now : (a b : ℕ) (es : List (ℕ × Change)) → sum_by (λ e. weigh (between a b) e.0 e.1.now) es ≡ now_between es a b
weigh-now a b es = sum_by-same _ _ es (all_of _ (λ e. weigh-between a b e.0 e.1.now) es)

module _ (books after : ClearingBooks) (es : List (ℕ × Change)) (is : after.accounts ≡ changed books.accounts es)
    (sorted : IsStrictlySortedBy nat_cmp (keys_of es)) (known : KnowBefore books.accounts es) (a b : ℕ) where
  -- what changed accounts had is a part of all cash before
  pub before_between-le : before_between es a b ≤ cash_between books a b
  before_between-le = let le = before-le nat_cmp_total exact_unsigned (between a b) books.accounts es sorted known in omega (arith, le, weigh-before a b es)

  -- the cash after changes
  pub cash_changed : cash_between after a b + before_between es a b ≡ cash_between books a b + now_between es a b
  cash_changed =
      let e = sum_by-changed nat_cmp_total exact_unsigned (between a b) books.accounts es sorted known in
      let s : cash_between after a b ≡ sum_by (between a b) (map.entries (changed books.accounts es)) = ap (λ m. sum_by (between a b) (map.entries m)) is in
      omega (arith, e, s, weigh-before a b es, weigh-now a b es)

-- what an account's positions in instruments below a number are worth
abbrev pub worth_below : ClearingBooks → ℕ → ℕ → ℕ
worth_below books a i = sum_by (λ e. cond (e.0.0 == a && nat_lt e.0.1 i) (e.1 * price_of books e.0.1) 0) (map.entries books.positions)

-- one more instrument
one_more : (t : Bool) (k i v : ℕ) → cond (t && nat_lt k (i + 1)) v 0 ≡ cond (t && nat_lt k i) v 0 + cond (t && k == i) v 0
one_more false k i v = refl
one_more true k i v =
    elim (nat_lt k i) as (λ b. nat_lt k i ≡ b → cond (nat_lt k (i + 1)) v 0 ≡ cond b v 0 + cond (k == i) v 0) [
      | true ↦ λ e.
          let up : nat_lt k (i + 1) ≡ true = grind (arith, nat_tests, e) in
          let other : (k == i) ≡ false = grind (arith, nat_tests, e) in
          ap (λ t. cond t v 0) up ∙ sym (ap (λ t. v + cond t v 0) other ∙ omega arith)
      | false ↦ λ e.
          let same : nat_lt k (i + 1) ≡ (k == i) = same_test k i e in
          ap (λ t. cond t v 0) same ∙ omega arith
    ] refl
  where
    same_test : (k i : ℕ) → nat_lt k i ≡ false → nat_lt k (i + 1) ≡ (k == i)
    same_test k i e = elim (k == i) as (λ b. (k == i) ≡ b → nat_lt k (i + 1) ≡ b) [
      | true ↦ λ f. grind (arith, nat_tests, e, f)
      | false ↦ λ f. grind (arith, nat_tests, e, f)
    ] refl

-- two tests of a pair are the test of both parts
pair_test : (q k : ℕ × ℕ) → eq_by_cmp position_cmp q k ≡ false → (q.0 == k.0 && q.1 == k.1) ≡ false
pair_test q k apart = elim (q.0 == k.0) as (λ b. (q.0 == k.0) ≡ b → (b && q.1 == k.1) ≡ false) [
  | true ↦ λ e. elim (q.1 == k.1) as (λ b. (q.1 == k.1) ≡ b → b ≡ false) [
    | true ↦ λ f.
        let first : q.0 ≡ k.0 = grind (arith, nat_tests, e) in
        let second : q.1 ≡ k.1 = grind (arith, nat_tests, f) in
        let same : q ≡ k = λ i. (first i, second i) in
        let tied : eq_by_cmp position_cmp q k ≡ true = ap (λ p. eq_by_cmp position_cmp q p) (sym same) ∙ ap is_eq (tied_itself positions_total q) in
        absurd (cc)
    | false ↦ λ _. refl
  ] refl
  | false ↦ λ _. refl
] refl

-- the worth with one more instrument
pub worth_next : (books : ClearingBooks) (a i : ℕ)
    → worth_below books a (i + 1) ≡ worth_below books a i + unwrap_or (map.get books.positions (a, i)) 0 * unwrap_or (map.get books.prices i) 0
worth_next books a i =
    let here : (ℕ × ℕ) × ℕ → ℕ = λ e. cond (e.0.0 == a && e.0.1 == i) (e.1 * price_of books e.0.1) 0 in
    let split = sum_by-plus (λ e. cond (e.0.0 == a && nat_lt e.0.1 (i + 1)) (e.1 * price_of books e.0.1) 0)
    (λ e. cond (e.0.0 == a && nat_lt e.0.1 i) (e.1 * price_of books e.0.1) 0) here
    (λ e. one_more (e.0.0 == a) e.0.1 i (e.1 * price_of books e.0.1)) (map.entries books.positions) in
    let one = sum_by-one positions_total exact_positions here books.positions (
      a,
      i,
    ) (λ q v apart. ap (λ t. cond t (v * price_of books q.1) 0) (pair_test q (a, i) apart)) in
    let is : weigh here (a, i) (map.get books.positions (a, i)) ≡ unwrap_or (map.get books.positions (a, i)) 0 *
    price_of books i = at_pair (map.get books.positions (a, i)) in
    omega (arith, split, one, is)
  where
    at_pair : (w : Option ℕ) → weigh (λ (e : (ℕ × ℕ) × ℕ). cond (e.0.0 == a && e.0.1 == i) (e.1 * price_of books e.0.1)
        0) (a, i) w ≡ unwrap_or w 0 * price_of books i
    at_pair None = sym (zero_times (price_of books i)) where
      zero_times : (n : ℕ) → 0 * n ≡ 0
      zero_times n = omega arith
    at_pair (Some v) = ap (λ t. cond t (v * price_of books i) 0) (both (eq-eqb a a refl) (eq-eqb i i refl)) where
      both : {s t : Bool} → s ≡ true → t ≡ true → (s && t) ≡ true
      both e f = λ j. e j && f j

-- the instrument of a position is one of the books
instrument_of : (books : ClearingBooks) (a i quantity : ℕ) → AreInRange books
    → map.get books.positions (a, i) ≡ Some quantity → (1 ≤ i) × (i ≤ books.instruments)
instrument_of books a i quantity h there = priced (map.get books.prices i) refl (h.positions a i quantity there).1 where
  priced : (p : Option ℕ) → map.get books.prices i ≡ p → IsSome p → (1 ≤ i) × (i ≤ books.instruments)
  priced None is some = absurd (cc)
  priced (Some price) is some = (h.prices i price is).0

-- nothing is worth anything before the first instrument
pub worth_first : (books : ClearingBooks) (a : ℕ) → AreInRange books → worth_below books a 1 ≡ 0
worth_first books a h =
    sum_by-same _ (λ _. 0) (map.entries books.positions) (All-entries positions_total exact_positions _ books.positions (λ k v there.
    let low = (instrument_of books k.0 k.1 v h there).0 in
    let test : nat_lt k.1 1 ≡ false = grind (arith, nat_tests, low) in
    ap (λ t. cond ((k.0 == a) && t) (v * price_of books k.1) 0) test ∙ none (k.0 == a) (v * price_of books k.1)))
    ∙ zeros (map.entries books.positions)
  where
    none : (t : Bool) (v : ℕ) → cond (t && false) v 0 ≡ 0
    none true v = refl
    none false v = refl

-- past the last instrument all is counted
pub worth_last : (books : ClearingBooks) (a : ℕ) → AreInRange books → worth_below books a (books.instruments + 1) ≡ worth_of books a
worth_last books a h = sum_by-same _ _ (map.entries books.positions) (All-entries positions_total exact_positions _ books.positions (λ k v there.
    let high = (instrument_of books k.0 k.1 v h there).1 in
    let test : nat_lt k.1 (books.instruments + 1) ≡ true = grind (arith, nat_tests, high) in
    ap (λ t. cond ((k.0 == a) && t) (v * price_of books k.1) 0) test ∙ whole (k.0 == a) (v * price_of books k.1)))
  where
    whole : (t : Bool) (v : ℕ) → cond (t && true) v 0 ≡ cond t v 0
    whole true v = refl
    whole false v = refl

-- an account with no position in any instrument holds nothing
pub holds_nothing : (books : ClearingBooks) (a : ℕ) → AreInRange books
    → ((i : ℕ) → 1 ≤ i → i < books.instruments + 1 → map.get books.positions (a, i) ≡ None) → holds_any books a ≡ false
holds_nothing books a h none =
    no_entry (λ e. e.0.0 == a) (map.entries books.positions)
    (All-entries positions_total exact_positions (λ e. (e.0.0 == a) ≡ false) books.positions (λ k v there.
    elim (k.0 == a) as (λ b. (k.0 == a) ≡ b → b ≡ false) [
      | true ↦ λ e.
          let within = instrument_of books k.0 k.1 v h there in
          let same : k.0 ≡ a = grind (arith, nat_tests, e) in
          let absent : map.get books.positions k ≡ None = ap (λ b. map.get books.positions (b, k.1)) same ∙ none k.1 within.0 (omega (arith, within.1)) in
          absurd (cc)
      | false ↦ λ _. refl
    ] refl))
  where
    no_entry : {X : Type 0} (p : X → Bool) (xs : List X) → AllByRecursion (λ x. p x ≡ false) xs → list_any p xs ≡ false
    no_entry p [] h = refl
    no_entry p (x ∷ xs) h = rw h.0 (no_entry p xs h.1)

-- an account with a position holds something
pub holds_one : (books : ClearingBooks) (a i : ℕ) (found : Option ℕ) → found ≡ map.get books.positions (a, i) → IsSome found → true ≡ holds_any books a
holds_one books a i None is some = absurd (cc)
holds_one books a i (Some v) is some =
    sym (some_found positions_total exact_positions (λ e. e.0.0 == a) (a, i) v (map.entries books.positions)
    (sym (map.get-entries books.positions (a, i)) ∙ sym is) (eq-eqb a a refl))

-- the most that a position is worth
abbrev pub most_worth : ℕ
most_worth = GREATEST_QUANTITY * GREATEST_PRICE

pub price_of_most : (quantity price : Option ℕ) (q p : ℕ) → IfSome quantity (IsWithin 1 GREATEST_QUANTITY)
    → IfSome price (IsWithin 1 GREATEST_PRICE) → q ≡ unwrap_or quantity 0 → p ≡ unwrap_or price 0 → q * p ≤ most_worth
price_of_most quantity price q p most_quantity most_price e f =
    times q p (e_most quantity q GREATEST_QUANTITY most_quantity e) (e_most price p GREATEST_PRICE most_price f)
  where
    e_most : (x : Option ℕ) (n most : ℕ) → IfSome x (IsWithin 1 most) → n ≡ unwrap_or x 0 → n ≤ most
    e_most None n most h e = omega arith
    e_most (Some v) n most h e = omega (arith, h.1)

    times : (q p : ℕ) → q ≤ GREATEST_QUANTITY → p ≤ GREATEST_PRICE → q * p ≤ most_worth
    times q p h k = mul-le-mul h k

-- no account lies between a number and one below it
pub none_between : (books : ClearingBooks) (a b : ℕ) → b < a → 0 ≡ cash_between books a b
none_between books a b above =
    sym (sum_by-same (between a b) (λ _. 0) (map.entries books.accounts)
    (all_of _ (λ e. ap (λ t. cond t e.1 0)
    (never (nat_le a e.0) (nat_le e.0 b) (λ low high. absurd (apart e.0 low high)))) (map.entries books.accounts)) ∙ zeros (map.entries books.accounts)) where
      never : (s t : Bool) → (s ≡ true → t ≡ true → ⊥) → (s && t) ≡ false
      never true true h = absurd (h refl refl)
      never true false h = refl
      never false t h = refl

      apart : (k : ℕ) → nat_le a k ≡ true → nat_le k b ≡ true → ⊥
      apart k low high = let x : a ≤ k = grind (arith, nat_tests, low) in let y : k ≤ b = grind (arith, nat_tests, high) in omega arith
