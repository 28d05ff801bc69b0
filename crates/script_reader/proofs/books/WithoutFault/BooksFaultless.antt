-- The lines of books in range have no fault.
use Rattle.script_reader.proofs.Common.{lit<, ◌≡◌, ℕ, ◌+◌, ◌<◌, ◌≤◌, ◌^◌, true, false, not, ◌||◌, ◌==◌, cond, List, [], ◌∷◌, ◌++◌, codes, map, length, Option}
use Rattle.script_reader.proofs.Common.{Some, None, IsSome, refl, sym, ap, subst, ◌∙◌, append_assoc, arith, list_any, AllByRecursion, nat_cmp_total, nat_cmp}
use Rattle.script_reader.proofs.Common.{is_eq, Ordering, Less, Equal, Greater, find, get-entries, len-entries, eq-eqb, ranked, append-nil, recursion_from_All}
use Rattle.script_reader.proofs.Common.{ClearingBooks, position_cmp, AreInRange, GREATEST_SHORTFALL, MOST_INSTRUMENTS, MOST_RING, positions_total, One, Two}
use Rattle.script_reader.proofs.Common.{version_word, most_blocks, greatest_cash, AreBooksWithin, IsWord, AreWords, AreNumbersIn, header_words, account_words}
use Rattle.script_reader.proofs.Common.{price_words, position_words, call_words, books_words, Words, accounts, prices, quantities, sizes, books_size_words}
use Rattle.script_reader.proofs.Common.{are_numbers, are_in_range, fault_of, first_reason, header_fault, Version}
use Rattle.books_model.proofs.Common.{IsCall}
use Rattle.script_reader.proofs.books.NoneFaulty.{AreFaultless}
use Rattle.script_reader.proofs.text.Tokens.Cutting.{word_from_test}
use Rattle.script_reader.proofs.text.Tokens.Numerals.{number-IsWord}
use Rattle.script_reader.proofs.books.Versions.{version_known, version_read, blocks_small, cash_small}
use Rattle.script_reader.proofs.Conditions.{or_right}
use Rattle.script_reader.proofs.books.Printing.Printed.{Printed, IsSmall}
use Rattle.script_reader.proofs.language.Listed.Numbers.{texts_are_numbers, texts_are_in_range, both_in, three_in}
use Rattle.script_reader.proofs.books.Printing.Sections.{rises_entries, rises_follow, number_less, pair_less, each_entry, all_follow}
use Rattle.script_reader.proofs.books.WithoutFault.Faultless.{IsAccount, IsPrice, IsPosition, IsMarginCall, small_price, small_position, accounts_faultless}
use Rattle.script_reader.proofs.books.WithoutFault.Faultless.{prices_faultless, positions_faultless, calls_faultless}
use Rattle.script_reader.proofs.Judging.{faultless_append}
use Rattle.std.specs.FinMap as finmap
use Rattle.script_reader.specs.declared.fault.Fault.TheVariants as fault

-- a key that is found is one of the keys
pub found_is_given : (a : ℕ) (es : List (ℕ × ℕ)) → IsSome (find nat_cmp a es) → list_any (λ x. x.0 == a) es ≡ true
found_is_given a [] h = cc
found_is_given a (e ∷ es) h = by (nat_cmp a e.0) refl h (found_is_given a es)
  where
    by : (r : Ordering) → nat_cmp a e.0 ≡ r → IsSome (cond (is_eq r) (Some e.1) (find nat_cmp a es))
        → (IsSome (find nat_cmp a es) → list_any (λ x. x.0 == a) es ≡ true) → ((e.0 == a) || list_any (λ x. x.0 == a) es) ≡ true
    by Equal same there rest = ap (λ b. b || list_any (λ x. x.0 == a) es) (eq-eqb e.0 a (sym (ranked a e.0 Equal (sym same))))
    by Less same there rest = or_right (e.0 == a) (rest there)
    by Greater same there rest = or_right (e.0 == a) (rest there)

-- books in range, as they are printed
abbrev pub printed : Version → ClearingBooks → Printed
printed version b = record {
  version = version;
  blocks = b.blocks;
  instruments = b.instruments;
  ring = b.ring;
  accounts =
      finmap.entries b.accounts;
  prices = finmap.entries b.prices;
  positions = finmap.entries b.positions;
  calls = b.calls;
}

-- what is given of each of some entries
given_for : (m : finmap.FinMap nat_cmp ℕ) (a : ℕ) → IsSome (finmap.get m a) → list_any (λ x. x.0 == a) (finmap.entries m) ≡ true
given_for m a h = found_is_given a (finmap.entries m) (subst IsSome (get-entries m a) h)

pub some_of : {A : Type 0} (o : Option A) → IsSome o → (x : A) × (o ≡ Some x)
some_of None h = cc
some_of (Some x) h = (x, refl)

module _ {b : ClearingBooks} (range : AreInRange b) where
  pub blocks_fit : b.blocks < 2 ^ 64
  blocks_fit = omega (arith, range.blocks.1)

  pub instruments_fit : b.instruments < 2 ^ 64
  instruments_fit = omega (arith, range.instruments.1)

  pub ring_fits : b.ring < 2 ^ 64
  ring_fits = omega (arith, range.ring.1)

  -- the entries keep to their ranges
  pub accounts_are : {version : Version} → AreBooksWithin version b → AllByRecursion (IsAccount version) (finmap.entries b.accounts)
  accounts_are {version} within = each_entry nat_cmp nat_cmp_total (IsAccount version) b.accounts (λ e found.
      both_in accounts (0, greatest_cash version) ((range.accounts e.0 e.1 found).0, (omega arith, within.cash e.0 e.1 found)) (lit< tt) (cash_small version))

  pub prices_are : AllByRecursion (IsPrice b.instruments) (finmap.entries b.prices)
  prices_are = each_entry nat_cmp nat_cmp_total (IsPrice b.instruments) b.prices
      (λ e found. both_in (1, b.instruments) prices (range.prices e.0 e.1 found) instruments_fit (lit< tt))

  pub positions_are : AllByRecursion (IsPosition b.instruments) (finmap.entries b.positions)
  positions_are = each_entry position_cmp positions_total (IsPosition b.instruments) b.positions (λ e found.
      let h = range.positions e.0.0 e.0.1 e.1 found in
      let account = some_of (finmap.get b.accounts e.0.0) h.0 in
      let price = some_of (finmap.get b.prices e.0.1) h.1 in
      three_in accounts (1, b.instruments) quantities
      ((range.accounts e.0.0 account.0 account.1).0, (range.prices e.0.1 price.0 price.1).0, h.2) (lit< tt) instruments_fit (lit< tt))

  positions_given : AllByRecursion (λ e. (list_any (λ x. x.0 == e.0.0) (finmap.entries b.accounts) ≡ true)
      × (list_any (λ x. x.0 == e.0.1) (finmap.entries b.prices) ≡ true)) (finmap.entries b.positions)
  positions_given = each_entry position_cmp positions_total _ b.positions (λ e found. let h =
      range.positions e.0.0 e.0.1 e.1 found in (given_for b.accounts e.0.0 h.0, given_for b.prices e.0.1 h.1))

  pub calls_are : AllByRecursion IsMarginCall b.calls
  calls_are = all_follow IsCall IsMarginCall b.calls (λ e h. both_in accounts (1, GREATEST_SHORTFALL) h (lit< tt) (lit< tt))
      (recursion_from_All IsCall b.calls range.calls)

  pub small_accounts : AllByRecursion (λ e. e.0 < 2 ^ 64) (finmap.entries b.accounts)
  small_accounts = each_entry nat_cmp nat_cmp_total (λ e. e.0 < 2 ^ 64) b.accounts (λ e found. omega (arith, (range.accounts e.0 e.1 found).0.1))

  pub small_prices : AllByRecursion (λ e. e.0 < 2 ^ 64) (finmap.entries b.prices)
  small_prices = all_follow (IsPrice b.instruments) (λ e. e.0 < 2 ^ 64) (finmap.entries b.prices) (small_price b.instruments) prices_are

  pub small_positions : AllByRecursion (λ e. (e.0.0 < 2 ^ 64) × (e.0.1 < 2 ^ 64)) (finmap.entries b.positions)
  small_positions = all_follow (IsPosition b.instruments) (λ e. (e.0.0 < 2 ^ 64)
      × (e.0.1 < 2 ^ 64)) (finmap.entries b.positions) (small_position b.instruments) positions_are

  -- what is printed of them has texts
  pub printed_small : (version : Version) → IsSmall (printed version b)
  printed_small version = record {
    blocks = blocks_fit;
    instruments = instruments_fit;
    ring = ring_fits;
    accounts =
        small_accounts;
    prices = small_prices;
    positions = small_positions;
  }

-- a word of a version can stand in a line
version_is_word : (version : Version) → IsWord (version_word version)
version_is_word One = word_from_test (codes "1") refl
version_is_word Two = word_from_test (codes "2") refl

module _ {version : Version} {b : ClearingBooks} (range : AreInRange b) (within : AreBooksWithin version b) where
  -- the header
  pub header_words_are : AreWords (header_words version b)
  header_words_are =
      let title = word_from_test (codes "books") refl in
      let blocks = word_from_test (codes "blocks") refl in
      let instruments = word_from_test (codes "instruments") refl in
      let ring = word_from_test (codes "ring") refl in
      let of_blocks = number-IsWord (blocks_fit range) in
      let of_instruments = number-IsWord (instruments_fit range) in
      let of_ring = number-IsWord (ring_fits range) in
      record { some = omega arith; each = (title, (version_is_word version, (blocks, (of_blocks, (instruments, (of_instruments, (ring, (of_ring, tt)))))))) }

  sizes_within : AreNumbersIn (sizes version) (b.blocks ∷ b.instruments ∷ b.ring ∷ [])
  sizes_within = three_in (1, most_blocks version) (1, MOST_INSTRUMENTS) (1, MOST_RING) ((range.blocks.0, within.blocks), range.instruments, range.ring)
      (blocks_small version) (lit< tt) (lit< tt)

  pub header_has_none : header_fault (header_words version b) ≡ None
  header_has_none =
      (λ i. first_reason (
      (not (version_known version i), fault.Header)
      ∷ (not (are_numbers (books_size_words (header_words version b))), fault.Number)
      ∷ (not (are_in_range (books_size_words (header_words version b)) (sizes (version_read version i))), fault.Limit)
      ∷ []
      ))
      ∙ (λ i. first_reason (
      (false, fault.Header)
      ∷ (not (texts_are_numbers (sizes version) (b.blocks ∷ b.instruments ∷ b.ring ∷ []) sizes_within i), fault.Number)
      ∷ (not (texts_are_in_range (sizes version) (b.blocks ∷ b.instruments ∷ b.ring ∷ []) sizes_within i), fault.Limit)
      ∷ []
      ))

  -- all lines of the books
  pub books_faultless : AreFaultless [] (books_words version b)
  books_faultless =
      let A : List Words = map account_words (finmap.entries b.accounts) in
      let P : List Words = map price_words (finmap.entries b.prices) in
      let Q : List Words = map position_words (finmap.entries b.positions) in
      let h : Words = header_words version b in
      let room : length (finmap.entries b.accounts) + length (finmap.entries b.prices)
      + length (finmap.entries b.positions) ≤ b.blocks =
      omega (arith, range.blocks_used, len-entries b.accounts, len-entries b.prices, len-entries b.positions) in (
        header_words_are,
        header_has_none,
        refl,
        faultless_append fault_of (h ∷ []) A _
            (accounts_faultless version b.blocks b.instruments b.ring (blocks_fit range) (instruments_fit range) (ring_fits range) []
            (finmap.entries b.accounts) tt (accounts_are range within) (rises_follow _ _ [] _ (λ x e. number_less x.0 e.0)
            (rises_entries nat_cmp b.accounts)) (omega (arith, room)))
            (faultless_append fault_of (h ∷ A) P _
            (subst (λ l. AreFaultless (h ∷ l) P) (append-nil A)
            (prices_faultless version b.blocks b.instruments b.ring (blocks_fit range) (instruments_fit range) (ring_fits range)
            (finmap.entries b.accounts) (small_accounts range) [] (finmap.entries b.prices) tt (prices_are range)
            (rises_follow _ _ [] _ (λ x e. number_less x.0 e.0) (rises_entries nat_cmp b.prices)) (omega (arith, room))))
            (faultless_append fault_of (h ∷ (A ++ P)) Q _
            (subst (λ l. AreFaultless (h ∷ (A ++ l)) Q) (append-nil P)
            (positions_faultless version b.blocks b.instruments b.ring (blocks_fit range) (instruments_fit range) (ring_fits range)
            (finmap.entries b.accounts) (small_accounts range) (finmap.entries b.prices) (small_prices range) []
            (finmap.entries b.positions) tt (positions_are range) (positions_given range)
            (rises_follow _ _ [] _ (λ x e. pair_less x.0 e.0) (rises_entries position_cmp b.positions)) (omega (arith, room))))
            (subst (λ l. AreFaultless (h ∷ l) (map call_words b.calls)) (ap (λ l. A ++ (P ++ l)) (append-nil Q) ∙ sym (append_assoc A P Q))
            (calls_faultless version b.blocks b.instruments b.ring (blocks_fit range) (instruments_fit range) (ring_fits range)
            (finmap.entries b.accounts) (small_accounts range) (finmap.entries b.prices) (small_prices range)
            (finmap.entries b.positions) (small_positions range) [] b.calls (calls_are range) (omega (arith, range.queue)))))),
      )
