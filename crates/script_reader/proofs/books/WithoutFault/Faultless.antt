-- The lines of an input have no fault.
use Rattle.script_reader.proofs.Common.{◌≡◌, ℕ, ◌+◌, ◌<◌, ◌≤◌, ◌^◌, true, ◌==◌, List, [], ◌∷◌, ◌++◌, codes, map, length, refl, subst, length-append, arith}
use Rattle.script_reader.proofs.Common.{list_any, AllByRecursion, Version, IsWord, AreWords, number, account_words, price_words, position_words, call_words}
use Rattle.script_reader.proofs.Common.{is_below, AreNumbersIn}
use Rattle.script_reader.proofs.books.RowRanges.{account_ranges, price_ranges, position_ranges, call_ranges}
use Rattle.script_reader.proofs.books.NoneFaulty.{AreFaultless}
use Rattle.script_reader.proofs.Conditions.{all_append}
use Rattle.script_reader.proofs.text.Tokens.Cutting.{word_from_test}
use Rattle.script_reader.proofs.language.Listed.Numbers.{texts_are_words}
use Rattle.script_reader.proofs.books.Printing.Printed.{Printed, IsSmall, header_of, print}
use Rattle.script_reader.proofs.books.Printing.Growing.{account_more, price_more, position_more, call_more}
use Rattle.script_reader.proofs.books.WithoutFault.NoFault.{account_has_none, price_has_none, position_has_none, call_has_none}
use Rattle.script_reader.proofs.books.Printing.Sections.{Rises}

-- a word and numbers behind it are words of a line
pub row_are_words : {k : List ℕ} (ns : List ℕ) (ranges : List (ℕ × ℕ)) → IsWord k → AreNumbersIn ranges ns → AreWords (k ∷ map number ns)
row_are_words ns ranges is h = record { some = omega arith; each = (is, texts_are_words ranges ns h) }

-- what the numbers of entries keep to
abbrev pub IsAccount : Version → ℕ × ℕ → Type 0
IsAccount version e = AreNumbersIn (account_ranges version) (e.0 ∷ e.1 ∷ [])

abbrev pub IsPrice : ℕ → ℕ × ℕ → Type 0
IsPrice instruments e = AreNumbersIn (price_ranges instruments) (e.0 ∷ e.1 ∷ [])

abbrev pub IsPosition : ℕ → (ℕ × ℕ) × ℕ → Type 0
IsPosition instruments e = AreNumbersIn (position_ranges instruments) (e.0.0 ∷ e.0.1 ∷ e.1 ∷ [])

abbrev pub IsMarginCall : ℕ × ℕ → Type 0
IsMarginCall e = AreNumbersIn call_ranges (e.0 ∷ e.1 ∷ [])

pub small_account : (version : Version) (e : ℕ × ℕ) → IsAccount version e → e.0 < 2 ^ 64
small_account version e h = h.2

pub small_price : (instruments : ℕ) (e : ℕ × ℕ) → IsPrice instruments e → e.0 < 2 ^ 64
small_price instruments e h = h.2

pub small_position : (instruments : ℕ) (e : (ℕ × ℕ) × ℕ) → IsPosition instruments e → (e.0.0 < 2 ^ 64) × (e.0.1 < 2 ^ 64)
small_position instruments e h = (h.2, h.3.2)

module _ (version : Version) (blocks instruments ring : ℕ) (small_blocks : blocks < 2 ^ 64) (small_instruments : instruments < 2 ^ 64)
    (small_ring : ring < 2 ^ 64) where
  -- books of these sizes
  abbrev pub sized : List (ℕ × ℕ) → List (ℕ × ℕ) → List ((ℕ × ℕ) × ℕ) → List (ℕ × ℕ) → Printed
  sized accounts prices positions calls = record {
    version = version;
    blocks = blocks;
    instruments = instruments;
    ring = ring;
    accounts =
        accounts;
    prices = prices;
    positions = positions;
    calls = calls;
  }

  -- if their keys have texts, all that is printed of them has
  is_small : (accounts prices : List (ℕ × ℕ)) (positions : List ((ℕ × ℕ) × ℕ)) (calls : List (ℕ × ℕ)) → AllByRecursion (λ e. e.0 < 2 ^ 64) accounts
      → AllByRecursion (λ e. e.0 < 2 ^ 64) prices → AllByRecursion (λ e. (e.0.0 < 2 ^ 64) × (e.0.1 < 2 ^ 64)) positions
      → IsSmall (sized accounts prices positions calls)
  is_small accounts prices positions calls a p q =
      record { blocks = small_blocks; instruments = small_instruments; ring = small_ring; accounts = a; prices = p; positions = q }

  -- accounts that rise behind accounts
  pub accounts_faultless : (done rest : List (ℕ × ℕ)) → AllByRecursion (λ e. e.0 < 2 ^ 64) done
      → AllByRecursion (IsAccount version) rest → Rises (λ x e. x.0 < e.0) done rest
      → length done + length rest ≤ blocks → AreFaultless (print (sized done [] [] [])) (map account_words rest)
  unfolding Rises
  accounts_faultless done [] small all rises room = tt
  accounts_faultless done (e ∷ rest) small all rises room =
      let p : Printed = sized done [] [] [] in (
        row_are_words (e.0 ∷ e.1 ∷ []) (account_ranges version) (word_from_test (codes "account") refl) all.0,
        account_has_none (is_small done [] [] [] small tt tt) e refl refl refl all.0 rises.0 (omega (arith, room)),
        refl,
        subst (λ ls. AreFaultless (header_of p ∷ ls) (map account_words rest)) (account_more done [] [] [] e refl refl refl)
            (accounts_faultless (done ++ e ∷ []) rest
            (all_append (λ e. e.0 < 2 ^ 64) done (e ∷ []) small (small_account version e all.0, tt)) all.1 rises.1
            (omega (arith, room, length-append done (e ∷ [])))),
      )

  module _ (accounts : List (ℕ × ℕ)) (small_accounts : AllByRecursion (λ e. e.0 < 2 ^ 64) accounts) where
    -- prices that rise behind accounts and prices
    pub prices_faultless : (done rest : List (ℕ × ℕ)) → AllByRecursion (λ e. e.0 < 2 ^ 64) done
        → AllByRecursion (IsPrice instruments) rest → Rises (λ x e. x.0 < e.0) done rest
        → length accounts + (length done + length rest) ≤ blocks → AreFaultless (print (sized accounts done [] [])) (map price_words rest)
    unfolding Rises
    prices_faultless done [] small all rises room = tt
    prices_faultless done (e ∷ rest) small all rises room =
        let p : Printed = sized accounts done [] [] in (
          row_are_words (e.0 ∷ e.1 ∷ []) (price_ranges instruments) (word_from_test (codes "price") refl) all.0,
          price_has_none (is_small accounts done [] [] small_accounts small tt) e refl refl all.0 rises.0 (omega (arith, room)),
          refl,
          subst (λ ls. AreFaultless (header_of p ∷ ls) (map price_words rest)) (price_more accounts done [] [] e refl refl)
              (prices_faultless (done ++ e ∷ []) rest
              (all_append (λ e. e.0 < 2 ^ 64) done (e ∷ []) small (small_price instruments e all.0, tt)) all.1 rises.1
              (omega (arith, room, length-append done (e ∷ [])))),
        )

    module _ (prices : List (ℕ × ℕ)) (small_prices : AllByRecursion (λ e. e.0 < 2 ^ 64) prices) where
      -- a position's account and its instrument's price are given
      abbrev pub IsGivenFor : (ℕ × ℕ) × ℕ → Type 0
      IsGivenFor e = (list_any (λ x. x.0 == e.0.0) accounts ≡ true) × (list_any (λ x. x.0 == e.0.1) prices ≡ true)

      -- positions that rise behind accounts, prices and positions
      pub positions_faultless : (done rest : List ((ℕ × ℕ) × ℕ))
          → AllByRecursion (λ e. (e.0.0 < 2 ^ 64) × (e.0.1 < 2 ^ 64)) done → AllByRecursion (IsPosition instruments) rest → AllByRecursion IsGivenFor rest
          → Rises (λ x e. is_below x.0 e.0 ≡ true) done rest
          → length accounts + length prices + (length done + length rest) ≤ blocks
          → AreFaultless (print (sized accounts prices done [])) (map position_words rest)
      unfolding Rises
      positions_faultless done [] small all given rises room = tt
      positions_faultless done (e ∷ rest) small all given rises room =
          let p : Printed = sized accounts prices done [] in (
            row_are_words (e.0.0 ∷ e.0.1 ∷ e.1 ∷ []) (position_ranges instruments) (word_from_test (codes "position") refl) all.0,
            position_has_none (is_small accounts prices done [] small_accounts small_prices small) e refl all.0 rises.0 given.0.0 given.0.1
                (omega (arith, room)),
            refl,
            subst (λ ls. AreFaultless (header_of p ∷ ls) (map position_words rest)) (position_more accounts prices done [] e refl)
                (positions_faultless (done ++ e ∷ []) rest
                (all_append (λ e. (e.0.0 < 2 ^ 64) × (e.0.1 < 2 ^ 64)) done (e ∷ []) small
                (small_position instruments e all.0, tt)) all.1 given.1 rises.1 (omega (arith, room, length-append done (e ∷ [])))),
          )

      module _ (positions : List ((ℕ × ℕ) × ℕ)) (small_positions : AllByRecursion (λ e. (e.0.0 < 2 ^ 64) × (e.0.1 < 2 ^ 64)) positions) where
        -- margin calls behind all these and margin calls
        pub calls_faultless : (done rest : List (ℕ × ℕ)) → AllByRecursion IsMarginCall rest
            → length done + length rest ≤ ring → AreFaultless (print (sized accounts prices positions done)) (map call_words rest)
        calls_faultless done [] all room = tt
        calls_faultless done (e ∷ rest) all room =
            let p : Printed = sized accounts prices positions done in (
              row_are_words (e.0 ∷ e.1 ∷ []) call_ranges (word_from_test (codes "call") refl) all.0,
              call_has_none (is_small accounts prices positions done small_accounts small_prices small_positions) e all.0 (omega (arith, room)),
              refl,
              subst (λ ls. AreFaultless (header_of p ∷ ls) (map call_words rest))
                  (call_more accounts prices positions done e) (calls_faultless (done ++ e ∷ []) rest all.1 (omega (arith, room, length-append done (e ∷ [])))),
            )
