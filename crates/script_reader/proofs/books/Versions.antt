-- The versions of texts: their words, and that their ranges are within those of the language.
use Rattle.script_reader.proofs.Common.{lit<, ◌≡◌, inl, inr, ℕ, ◌<◌, ◌≤◌, ◌+◌, ◌^◌, Bool, true, false, cond, ◌||◌, List, [], ◌∷◌, ◌++◌, length, length-append}
use Rattle.script_reader.proofs.Common.{sum_by, All, refl, sym, ap, subst, ◌∙◌, arith, nat_cmp_total, bytes_eq, bytes_eq-Decides, ClearingBooks, IsWithin}
use Rattle.script_reader.proofs.Common.{operations_in, operations_of, alternatives_in, behind_parts, All-append, sum_by-append, MOST_BLOCKS, MOST_OPERATIONS}
use Rattle.script_reader.proofs.Common.{MOST_ALTERNATIVES, GREATEST_CASH, GREATEST_AMOUNT, Part, Version, One, Two, Row, Caller, AreCallersFor, version_word}
use Rattle.script_reader.proofs.Common.{most_blocks, greatest_cash, greatest_amount, AreBooksWithin, IsOperationOf, IsScriptOf, AreCallersOf, with_row}
use Rattle.std.proofs.lemmas.Map.Lookups.{exact_unsigned}
use Rattle.books_model.proofs.Maps.Trees.{found_after_insert}
use Rattle.books_model.specs.Ranges.{IsScriptFor}
use Rattle.script_reader.specs.Versions.{is_version, version_of, IsScriptWithin}
use Rattle.script_reader.proofs.text.Tokens.Numerals.{greatest_u64}
use Rattle.script_reader.specs.Inner.BooksRows.{IsRowWithin}
use Rattle.script_reader.specs.declared.books.Row.TheVariants as row

-- the word of a version is one, and that of this version
pub version_known : (v : Version) → is_version (version_word v) ≡ true
version_known One = refl
version_known Two = refl

pub version_read : (v : Version) → version_of (version_word v) ≡ v
version_read One = refl
version_read Two = refl

-- two versions with one word are one
pub one_version : (v w : Version) → version_word v ≡ version_word w → v ≡ w
one_version v w e = sym (version_read v) ∙ ap version_of e ∙ version_read w

-- a word that is that of a version
pub word_of_version : (word : List ℕ) → is_version word ≡ true → word ≡ version_word (version_of word)
word_of_version word h = by (bytes_eq word (version_word One)) refl h
  where
    by : (b : Bool) → bytes_eq word (version_word One) ≡ b → (b || bytes_eq word (version_word Two)) ≡ true
        → word ≡ version_word (cond b One Two)
    by true e g = (bytes_eq-Decides word (version_word One)).0 e
    by false e g = (bytes_eq-Decides word (version_word Two)).0 g

-- the ranges of a version are within those of the language
pub blocks_within : (v : Version) → most_blocks v ≤ MOST_BLOCKS
blocks_within One = omega arith
blocks_within Two = omega arith

pub cash_within : (v : Version) → greatest_cash v ≤ GREATEST_CASH
cash_within One = omega arith
cash_within Two = omega arith

pub amount_within : (v : Version) → greatest_amount v ≤ GREATEST_AMOUNT
amount_within One = omega arith
amount_within Two = omega arith

-- a number in the range of the version's amounts is an amount
pub amount_for : (v : Version) {x : ℕ} → IsWithin 1 (greatest_amount v) x → IsWithin 1 GREATEST_AMOUNT x
amount_for v h = (h.0, omega (arith, h.1, amount_within v))

-- they have texts
pub blocks_small : (v : Version) → most_blocks v < 2 ^ 64
blocks_small One = lit< tt
blocks_small Two = lit< tt

-- and are told from those that do not fit
pub blocks_exact : (v : Version) → most_blocks v < greatest_u64
blocks_exact One = lit< tt
blocks_exact Two = lit< tt

pub cash_small : (v : Version) → greatest_cash v < 2 ^ 64
cash_small One = lit< tt
cash_small Two = lit< tt

pub amount_small : (v : Version) → greatest_amount v < 2 ^ 64
amount_small One = lit< tt
amount_small Two = lit< tt

module _ (v : Version) (b : ClearingBooks) where
  -- a script that a text of a version can give, the language has, and its amounts are in the range of the version
  script_for : {script : List Part} → IsScriptOf v b script → IsScriptFor b script
  script_for h = record {
    few = h.few;
    few_alternatives = h.few_alternatives;
    each = λ k d less. (h.each k d less).0;
  }

  script_within : {script : List Part} → IsScriptOf v b script → IsScriptWithin v script
  script_within h = λ k d less. (h.each k d less).1

  -- which is all that it takes
  pub script_of : {script : List Part} → IsScriptFor b script → IsScriptWithin v script → IsScriptOf v b script
  script_of h fits = record {
    few = h.few;
    few_alternatives = h.few_alternatives;
    each = λ k d less. (h.each k d less, fits k d less);
  }

  -- and for callers
  pub callers_for : (callers : List Caller) → AreCallersOf v b callers → AreCallersFor b callers
  callers_for callers h = record {
    few = h.few;
    few_scripts = h.few_scripts;
    names = h.names;
    names_differ = h.names_differ;
    scripts = λ k d less i e low. script_for (h.scripts k d less i e low);
    some_scripts = h.some_scripts;
  }

  pub callers_within : (callers : List Caller) → AreCallersOf v b callers → All (λ c. All (IsScriptWithin v) c.scripts) callers
  callers_within callers h = λ k d less i e low. script_within (h.scripts k d less i e low)

  pub callers_of_version : {callers : List Caller} → AreCallersFor b callers
      → All (λ c. All (IsScriptWithin v) c.scripts) callers → AreCallersOf v b callers
  callers_of_version h fits = record {
    few = h.few;
    few_scripts = h.few_scripts;
    names = h.names;
    names_differ = h.names_differ;
    scripts = λ k d less i e low. script_of (h.scripts k d less i e low) (fits k d less i e low);
    some_scripts = h.some_scripts;
  }

-- a script with one more part for which there is room
pub script_of_more : {v : Version} {b : ClearingBooks} {script : List Part} (p : Part) → IsScriptOf v b script → All (IsOperationOf v b) (operations_in p)
    → length (operations_of script) + length (operations_in p) ≤ MOST_OPERATIONS
    → sum_by alternatives_in script + alternatives_in p ≤ MOST_ALTERNATIVES → IsScriptOf v b (script ++ p ∷ [])
script_of_more {v} {b} {script} p valid each few few_alternatives = record {
  few = omega (arith, few, ap length (behind_parts script p), length-append (operations_of script) (operations_in p));
  few_alternatives = omega (arith, few_alternatives, sum_by-append alternatives_in script (p ∷ []));
  each = subst (All (IsOperationOf v b)) (sym (behind_parts script p))
      (All-append (IsOperationOf v b) (operations_of script) (operations_in p) valid.each each);
}

-- books with a row more are within the ranges if the row is
pub row_within : {v : Version} {b : ClearingBooks} (r : Row) → AreBooksWithin v b → IsRowWithin v r → AreBooksWithin v (with_row b r)
row_within {v} {b} (row.Account a cash) h fits = record {
  blocks = h.blocks;
  cash = λ q w found. elim (found_after_insert nat_cmp_total exact_unsigned b.accounts a q cash w found) [
    | inl new ↦ subst (λ n. n ≤ greatest_cash v) new.1 fits
    | inr old ↦ h.cash q w old
  ];
}
row_within (row.Price i p) h fits = record { blocks = h.blocks; cash = h.cash }
row_within (row.Position a i q) h fits = record { blocks = h.blocks; cash = h.cash }
row_within (row.Call a d) h fits = record { blocks = h.blocks; cash = h.cash }
