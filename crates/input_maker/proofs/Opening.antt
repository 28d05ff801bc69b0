-- The opening books are in their ranges.
use Rattle.input_maker.proofs.Common.{◌≡◌, ℕ, zero, suc, ◌+◌, ◌*◌, ◌<◌, ◌≤◌, Bool, true, false, cond, ◌&&◌, List, [], ◌∷◌, ◌++◌, map, length, Option, Some}
use Rattle.input_maker.proofs.Common.{IsSome, refl, sym, ap, subst, ◌∙◌, length-append, append_assoc, true≢false, arith, AllByRecursion, flat_map}
use Rattle.input_maker.proofs.Common.{range_with_len, Ordering, nat_cmp, eq_by_cmp, length-map-range_with_len, append-nil, position_cmp, used, IsWithin}
use Rattle.input_maker.proofs.Common.{AreInRange, One, books_lines, header_line, account_line, price_line, position_line, made_books}
use Rattle.script_reader.proofs.Common.{AreBooksWithin}
use Rattle.std.proofs.Common.{T}
use Rattle.std.specs.declared.cmp.Ordering.TheVariants.{Less, Equal, Greater}
use Rattle.std.specs.Ordering.{is_lt, ordering_then}
use Rattle.std.specs.Cmp.{nat_cmp_is, Equal-is}
use Rattle.std.specs.FinMap.{nat_cmp-IsAntisymmetric, find, get-from_sorted, entries-from_sorted, len-entries}
use Rattle.std.specs.FinMap.Entries.{below_all, is_sorted}
use Rattle.script_reader.proofs.books.Printing.Sections.{less_number}
use Rattle.books_report.proofs.Outputs.Rows.{all_both}
use Rattle.input_maker.specs.Made.{accounts_to, prices_to, positions_in, positions_to}
use Rattle.std.specs.FinMap as finmap

and_T : {r : Ordering} (b : Bool) → r ≡ Less → T b → T (is_lt r && b)
and_T {r} b less h = subst (λ r. T (is_lt r && b)) (sym less) h

both_T : (a b : Bool) → T a → T b → T (a && b)
both_T true b p q = q
both_T false b p q = absurd p

equal_of : (a b : ℕ) → a ≡ b → nat_cmp a b ≡ Equal
equal_of a b same = sym (nat_cmp_is a b Equal same)

-- entries whose keys are numbers in a row
abbrev keyed : {X : Type 0} → (ℕ → X) → ℕ → ℕ → List (ℕ × X)
keyed v a n = map (λ i. (i, v i)) (range_with_len a n)

keyed_below : {X : Type 0} (v : ℕ → X) (k a n : ℕ) → k < a → T (below_all nat_cmp k (keyed v a n))
keyed_below v k a zero less = tt
keyed_below v k a (suc n) less = and_T _ (less_number k a less) (keyed_below v k (a + 1) n (omega arith))

keyed_sorted : {X : Type 0} (v : ℕ → X) (a n : ℕ) → T (is_sorted nat_cmp (keyed v a n))
keyed_sorted v a zero = tt
keyed_sorted v a (suc n) = both_T _ _ (keyed_below v a (a + 1) n (omega arith)) (keyed_sorted v (a + 1) n)

-- a number of the row has its entry
keyed_found : {X : Type 0} (v : ℕ → X) (q a n : ℕ) → a ≤ q → q < a + n → find nat_cmp q (keyed v a n) ≡ Some (v q)
keyed_found v q a zero low high = absurd (omega arith)
keyed_found v q a (suc n) low high =
    elim (eq_by_cmp nat_cmp q a) as (λ b. eq_by_cmp nat_cmp q a ≡ b → cond b (Some (v a)) (find nat_cmp q (keyed v (a + 1) n)) ≡ Some (v q)) [
      | true ↦ λ is. ap (λ k. Some (v k)) (sym (nat_cmp-IsAntisymmetric q a ((Equal-is (nat_cmp q a)).0 is)))
      | false ↦ λ is. let apart : q ≡ a → ⊥ = λ same. true≢false (sym ((Equal-is (nat_cmp q a)).1 (equal_of q a same))
          ∙ is) in keyed_found v q (a + 1) n (omega (arith, apart)) (omega arith)
    ] refl

-- what holds of a row's numbers holds of what is made of them
pub all_mapped : {X : Type 0} (P : X → Type 0) (f : ℕ → X) (a n : ℕ) → ((k : ℕ) → a ≤ k → k < a + n → P (f k)) → AllByRecursion P (map f (range_with_len a n))
all_mapped P f a zero each = tt
all_mapped P f a (suc n) each = (each a (omega arith) (omega arith), all_mapped P f (a + 1) n (λ k low high. each k (omega arith) (omega arith)))

-- what holds of all entries holds of one that is found
found_holds : {K X : Type 0} (R : K → K → Ordering) (same : (x y : K) → R x y ≡ Equal → x ≡ y) (P : K → X → Type 0) (q : K) {v : X} (es : List (K × X))
    → AllByRecursion (λ e. P e.0 e.1) es → find R q es ≡ Some v → P q v
found_holds R same P q [] all found = absurd cc
found_holds R same P q {v} (e ∷ es) all found =
    elim (eq_by_cmp R q e.0) as (λ b. eq_by_cmp R q e.0 ≡ b → cond b (Some e.1) (find R q es) ≡ Some v → P q v) [
      | true ↦ λ is f. let w : e.1 ≡ v = cc in subst (λ w. P q w) w (subst (λ k. P k e.1) (sym (same q e.0 ((Equal-is (R q e.0)).0 is))) all.0)
      | false ↦ λ is f. found_holds R same P q es all.1 f
    ] refl found

-- positions of one account go by instrument, and those of others by account
own_position : (a i j : ℕ) → i < j → position_cmp (a, i) (a, j) ≡ Less
own_position a i j less = ap (λ r. ordering_then r (nat_cmp i j)) (equal_of a a refl) ∙ less_number i j less

other_position : {a b : ℕ} (i j : ℕ) → a < b → position_cmp (a, i) (b, j) ≡ Less
other_position {a} {b} i j less = ap (λ r. ordering_then r (nat_cmp i j)) (less_number a b less)

ordered : (x y : Ordering) → ordering_then x y ≡ Equal → (x ≡ Equal) × (y ≡ Equal)
ordered Less y e = absurd cc
ordered Equal y e = (refl, e)
ordered Greater y e = absurd cc

same_position : (x y : ℕ × ℕ) → position_cmp x y ≡ Equal → x ≡ y
same_position x y e =
    let both = ordered (nat_cmp x.0 y.0) (nat_cmp x.1 y.1) e in
    λ t. (nat_cmp-IsAntisymmetric x.0 y.0 both.0 t, nat_cmp-IsAntisymmetric x.1 y.1 both.1 t)

-- positions of an account in a row of instruments, before others
abbrev row : ℕ → ℕ → ℕ → List ((ℕ × ℕ) × ℕ) → List ((ℕ × ℕ) × ℕ)
row a i n rest = map (λ j. ((a, j), 100)) (range_with_len i n) ++ rest

row_below : (k : ℕ × ℕ) (a i n : ℕ) (rest : List ((ℕ × ℕ) × ℕ)) → ((j : ℕ) → i ≤ j → position_cmp k (a, j) ≡ Less)
    → T (below_all position_cmp k rest) → T (below_all position_cmp k (row a i n rest))
row_below k a i zero rest each h = h
row_below k a i (suc n) rest each h = and_T _ (each i (omega arith)) (row_below k a (i + 1) n rest (λ j le. each j (omega arith)) h)

row_sorted : (a i n : ℕ) (rest : List ((ℕ × ℕ) × ℕ)) → ((j : ℕ) → T (below_all position_cmp (a, j) rest))
    → T (is_sorted position_cmp rest) → T (is_sorted position_cmp (row a i n rest))
row_sorted a i zero rest each h = h
row_sorted a i (suc n) rest each h =
    both_T _ _ (row_below (a, i) a (i + 1) n rest (λ j le. own_position a i j (omega arith)) (each i)) (row_sorted a (i + 1) n rest each h)

-- positions of the accounts of a row
abbrev rows : ℕ → ℕ → List ((ℕ × ℕ) × ℕ)
rows a n = flat_map (λ a. positions_in a 8) (range_with_len a n)

rows_below : (k : ℕ × ℕ) (a n : ℕ) → k.0 < a → T (below_all position_cmp k (rows a n))
unfolding positions_in
rows_below k a zero less = tt
rows_below k a (suc n) less = row_below k a 1 8 (rows (a + 1) n) (λ j le. other_position k.1 j less) (rows_below k (a + 1) n (omega arith))

rows_sorted : (a n : ℕ) → T (is_sorted position_cmp (rows a n))
unfolding positions_in
rows_sorted a zero = tt
rows_sorted a (suc n) = row_sorted a 1 8 (rows (a + 1) n) (λ j. rows_below (a, j) (a + 1) n (omega arith)) (rows_sorted (a + 1) n)

row_length : (a : ℕ) → length (positions_in a 8) ≡ 8
unfolding positions_in
row_length a = refl

rows_length : (a n : ℕ) → length (rows a n) ≡ 8 * n
rows_length a zero = refl
rows_length a (suc n) =
    let own : length (positions_in a 8) ≡ 8 = row_length a in
    omega (arith, own, rows_length (a + 1) n, length-append (positions_in a 8) (rows (a + 1) n))

-- what is known of a position
abbrev pub IsPosition : ℕ × ℕ → ℕ → Type 0
IsPosition key quantity = IsWithin 1 200 key.0 × IsWithin 1 8 key.1 × (quantity ≡ 100)

rows_hold : (a n : ℕ) → 1 ≤ a → a + n ≤ 201 → AllByRecursion (λ e. IsPosition e.0 e.1) (rows a n)
unfolding positions_in
rows_hold a zero low high = tt
rows_hold a (suc n) low high =
    all_both (λ (e : (ℕ × ℕ) × ℕ). IsPosition e.0 e.1) (positions_in a 8) (rows (a + 1) n)
    (all_mapped (λ (e : (ℕ × ℕ) × ℕ). IsPosition e.0 e.1) (λ i. ((a, i), 100)) 1 8 (λ i least most. ((low, omega arith), (least, omega arith), refl)))
    (rows_hold (a + 1) n (omega arith) (omega arith))

pub positions_hold : AllByRecursion (λ e. IsPosition e.0 e.1) (positions_to 200)
unfolding positions_to
positions_hold = rows_hold 1 200 (omega arith) (omega arith)

accounts_sorted : T (is_sorted nat_cmp (accounts_to 200))
unfolding accounts_to
accounts_sorted = keyed_sorted {X = ℕ} (λ a. 1000000) 1 200

prices_sorted : T (is_sorted nat_cmp (prices_to 8))
unfolding prices_to
prices_sorted = keyed_sorted {X = ℕ} (λ i. 100 * i) 1 8

positions_sorted : T (is_sorted position_cmp (positions_to 200))
unfolding positions_to
positions_sorted = rows_sorted 1 200

-- the lines of the books go by these entries
pub accounts_entries : finmap.entries made_books.accounts ≡ accounts_to 200
accounts_entries = entries-from_sorted nat_cmp (accounts_to 200) accounts_sorted

pub prices_entries : finmap.entries made_books.prices ≡ prices_to 8
prices_entries = entries-from_sorted nat_cmp (prices_to 8) prices_sorted

pub positions_entries : finmap.entries made_books.positions ≡ positions_to 200
positions_entries = entries-from_sorted position_cmp (positions_to 200) positions_sorted

pub account_found : (a : ℕ) {cash : ℕ} → finmap.get made_books.accounts a ≡ Some cash → IsWithin 1 200 a × (cash ≡ 1000000)
unfolding accounts_to
account_found a {cash} found =
    found_holds nat_cmp nat_cmp-IsAntisymmetric (λ a cash. IsWithin 1 200 a × (cash ≡ 1000000)) a (accounts_to 200)
    (all_mapped {X = ℕ × ℕ} (λ e. IsWithin 1 200 e.0 × (e.1 ≡ 1000000)) (λ a. (a, 1000000)) 1 200 (λ k low high. ((low, omega arith), refl)))
    (sym (get-from_sorted nat_cmp (accounts_to 200) a accounts_sorted) ∙ found)

price_found : (i : ℕ) {price : ℕ} → finmap.get made_books.prices i ≡ Some price → IsWithin 1 8 i × (price ≡ 100 * i)
unfolding prices_to
price_found i {price} found =
    found_holds nat_cmp nat_cmp-IsAntisymmetric (λ i price. IsWithin 1 8 i × (price ≡ 100 * i)) i (prices_to 8)
    (all_mapped {X = ℕ × ℕ} (λ e. IsWithin 1 8 e.0 × (e.1 ≡ 100 * e.0)) (λ i. (i, 100 * i)) 1 8 (λ k low high. ((low, omega arith), refl)))
    (sym (get-from_sorted nat_cmp (prices_to 8) i prices_sorted) ∙ found)

position_found : (a i : ℕ) {quantity : ℕ} → finmap.get made_books.positions (a, i) ≡ Some quantity → IsPosition (a, i) quantity
position_found a i found =
    found_holds position_cmp same_position IsPosition (a, i) (positions_to 200) positions_hold
    (sym (get-from_sorted position_cmp (positions_to 200) (a, i) positions_sorted) ∙ found)

pub account_there : (a : ℕ) → IsWithin 1 200 a → IsSome (finmap.get made_books.accounts a)
unfolding accounts_to
account_there a within =
    let e : finmap.get made_books.accounts a ≡ Some 1000000 =
    get-from_sorted nat_cmp (accounts_to 200) a accounts_sorted ∙ keyed_found {X = ℕ} (λ a. 1000000) a 1 200 within.0 (omega arith) in
    subst (λ (o : Option ℕ). IsSome o) (sym e) refl

price_there : {i : ℕ} → IsWithin 1 8 i → IsSome (finmap.get made_books.prices i)
unfolding prices_to
price_there {i} within =
    let e : finmap.get made_books.prices i ≡ Some (100 * i) = get-from_sorted nat_cmp (prices_to 8) i prices_sorted
    ∙ keyed_found {X = ℕ} (λ i. 100 * i) i 1 8 within.0 (omega arith) in
    subst (λ (o : Option ℕ). IsSome o) (sym e) refl

pub accounts_length : length (accounts_to 200) ≡ 200
unfolding accounts_to
accounts_length = length-map-range_with_len {X = ℕ × ℕ} (λ a. (a, 1000000)) 1 200

pub prices_length : length (prices_to 8) ≡ 8
unfolding prices_to
prices_length = length-map-range_with_len {X = ℕ × ℕ} (λ i. (i, 100 * i)) 1 8

pub positions_length : length (positions_to 200) ≡ 1600
unfolding positions_to
positions_length = rows_length 1 200

-- 1,808 blocks are used
blocks_used : used made_books ≡ 1808
blocks_used =
    let accounts = len-entries made_books.accounts ∙ ap length accounts_entries ∙ accounts_length in
    let prices = len-entries made_books.prices ∙ ap length prices_entries ∙ prices_length in
    let positions = len-entries made_books.positions ∙ ap length positions_entries ∙ positions_length in
    λ t. accounts t + positions t + prices t

pub made_books_in_range : AreInRange made_books
made_books_in_range = record {
  blocks = (omega arith, omega arith);
  instruments = (omega arith, omega arith);
  ring = (omega arith, omega arith);
  accounts = λ a cash found. let h = account_found a found in ((h.0.0, omega (arith, h.0.1)), omega (arith, h.1));
  prices = λ i price found. let h = price_found i found in (h.0, (omega (arith, h.0.0, h.1), omega (arith, h.0.1, h.1)));
  positions = λ a i quantity found. let h = position_found a i found in
      (account_there a h.0, price_there h.1, (omega (arith, h.2), omega (arith, h.2)));
  calls = λ k d less. absurd (omega arith);
  queue = omega arith;
  blocks_used = omega (arith, blocks_used);
}

-- and in the ranges of a text of version 1
pub made_books_within : AreBooksWithin One made_books
made_books_within = record { blocks = omega arith; cash = λ a cash found. omega (arith, (account_found a found).1) }

-- the lines of the opening books
pub opening_lines : books_lines One made_books ≡ header_line One made_books ++ flat_map account_line (accounts_to 200)
    ++ flat_map price_line (prices_to 8) ++ flat_map position_line (positions_to 200)
opening_lines =
    append-nil _
    ∙ (λ t. header_line One made_books ++ flat_map account_line (accounts_entries t) ++ flat_map price_line
    (prices_entries t) ++ flat_map position_line (positions_entries t))

-- and they are written one kind after the other
pub opening_written : (text : List ℕ) {header accounts prices positions : List ℕ} → header ≡ text ++ header_line One made_books
    → accounts ≡ header ++ flat_map account_line (accounts_to 200)
    → prices ≡ accounts ++ flat_map price_line (prices_to 8)
    → positions ≡ prices ++ flat_map position_line (positions_to 200) → positions ≡ text ++ books_lines One made_books
opening_written text h a p q =
    let H = header_line One made_books in
    let A = flat_map account_line (accounts_to 200) in
    let P = flat_map price_line (prices_to 8) in
    let Q = flat_map position_line (positions_to 200) in
    q ∙ ap (λ l. l ++ Q) (p ∙ ap (λ l. l ++ P) (a ∙ ap (λ l. l ++ A) h))
    ∙ ap (λ l. (l ++ P) ++ Q) (append_assoc text H A)
    ∙ ap (λ l. l ++ Q) (append_assoc text (H ++ A) P)
    ∙ append_assoc text ((H ++ A) ++ P) Q
    ∙ ap (λ l. text ++ l) (sym opening_lines)
