-- The texts of a limit order book: `orders 1 blocks B instruments S`, and the operations `buy`, `sell`, `cancel` and `best`.
use Rattle.std.specs.Prelude.{◌≡◌, ℕ, ◌<◌, ◌^◌, List, [], ◌∷◌, codes, true, false, if◌then◌else◌, slice_index_or, refl}
use Rattle.std.specs.List.{AllByRecursion}
use Rattle.std.specs.Str.{bytes_eq}
use Rattle.std.proofs.Common.{lit<}
use Rattle.books_model.specs.declared.limits.TheConstants.{MOST_INSTRUMENTS, GREATEST_PRICE, GREATEST_QUANTITY}
use Rattle.order_text.specs.declared.limits.TheConstants.{LEAST_BLOCKS, MOST_BLOCKS, GREATEST_ORDER}
use Rattle.order_text.specs.declared.script.OrderOp.{OrderOp}
use Rattle.order_text.specs.declared.script.OrderOp.TheVariants as op
use Rattle.script_reader.specs.Forms.{Form, form}
use Rattle.script_reader.specs.ListLanguage.{ListLanguage, AreSizes, IsFormOfOperations, IsListLanguage, size, is_word}
use Rattle.script_reader.proofs.language.Listed.Numbers.{one_number, three_numbers}

-- the ranges of the numbers of an order: its instrument, of so many, its price and its quantity
abbrev pub limit_ranges : ℕ → List (ℕ × ℕ)
limit_ranges instruments = (1, instruments) ∷ (1, GREATEST_PRICE) ∷ (1, GREATEST_QUANTITY) ∷ []

-- the kinds of operation, with the ranges of their numbers
abbrev pub order_forms : ℕ → List Form
order_forms instruments =
    form (codes "buy") (limit_ranges instruments)
    ∷ form (codes "sell") (limit_ranges instruments)
    ∷ form (codes "cancel") ((1, GREATEST_ORDER) ∷ [])
    ∷ form (codes "best") ((1, instruments) ∷ [])
    ∷ []

-- the first word of an operation's line
abbrev pub keyword_of : OrderOp → List ℕ
keyword_of (op.Buy instrument price quantity) = codes "buy"
keyword_of (op.Sell instrument price quantity) = codes "sell"
keyword_of (op.Cancel number) = codes "cancel"
keyword_of (op.Best instrument) = codes "best"

-- the numbers behind it
abbrev pub numbers_of : OrderOp → List ℕ
numbers_of (op.Buy instrument price quantity) = instrument ∷ price ∷ quantity ∷ []
numbers_of (op.Sell instrument price quantity) = instrument ∷ price ∷ quantity ∷ []
numbers_of (op.Cancel number) = number ∷ []
numbers_of (op.Best instrument) = instrument ∷ []

-- the number at a place
abbrev pub number_at : List ℕ → ℕ → ℕ
number_at numbers i = slice_index_or numbers i 0

-- the operation of a first word and of the numbers behind it
abbrev pub operation_of : List ℕ → List ℕ → OrderOp
operation_of keyword numbers =
    if bytes_eq keyword (codes "buy") then op.Buy (number_at numbers 0) (number_at numbers 1) (number_at numbers 2)
    else (if bytes_eq keyword (codes "sell") then op.Sell (number_at numbers 0) (number_at numbers 1) (number_at numbers 2)
    else (if bytes_eq keyword (codes "cancel") then op.Cancel (number_at numbers 0)
    else op.Best (number_at numbers 0)))

-- the language: the sizes of a header are the blocks and the instruments
abbrev pub order_language : ListLanguage OrderOp (List OrderOp)
order_language = record {
  title = codes "orders";
  sizes = size (codes "blocks") (LEAST_BLOCKS, MOST_BLOCKS) ∷ size (codes "instruments") (1, MOST_INSTRUMENTS) ∷ [];
  forms = λ sizes. order_forms (number_at sizes 1);
  keyword = keyword_of;
  numbers = numbers_of;
  operation = operation_of;
  operations = λ script. script;
}

-- its words are words, an operation is told by its line, and each line of a form is that of an operation
pub order_language_lawful : IsListLanguage order_language
order_language_lawful = record {
  title = refl;
  names = refl;
  keywords = words;
  no_script = scripts;
  no_end = ends;
  no_finish = finishes;
  one_operation = one;
  one_script = λ s t e. e;
  size_bits = (lit< tt, (lit< tt, tt));
  every_form = forms;
  every_script = λ ops. (ops, refl);
}
  where
    words : (o : OrderOp) → is_word (keyword_of o) ≡ true
    words (op.Buy instrument price quantity) = refl
    words (op.Sell instrument price quantity) = refl
    words (op.Cancel number) = refl
    words (op.Best instrument) = refl

    scripts : (o : OrderOp) → bytes_eq (keyword_of o) (codes "script") ≡ false
    scripts (op.Buy instrument price quantity) = refl
    scripts (op.Sell instrument price quantity) = refl
    scripts (op.Cancel number) = refl
    scripts (op.Best instrument) = refl

    ends : (o : OrderOp) → bytes_eq (keyword_of o) (codes "end") ≡ false
    ends (op.Buy instrument price quantity) = refl
    ends (op.Sell instrument price quantity) = refl
    ends (op.Cancel number) = refl
    ends (op.Best instrument) = refl

    finishes : (o : OrderOp) → bytes_eq (keyword_of o) (codes "finish") ≡ false
    finishes (op.Buy instrument price quantity) = refl
    finishes (op.Sell instrument price quantity) = refl
    finishes (op.Cancel number) = refl
    finishes (op.Best instrument) = refl

    one : (o : OrderOp) → operation_of (keyword_of o) (numbers_of o) ≡ o
    one (op.Buy instrument price quantity) = refl
    one (op.Sell instrument price quantity) = refl
    one (op.Cancel number) = refl
    one (op.Best instrument) = refl

    instruments : (sizes : List ℕ) → AreSizes order_language sizes → number_at sizes 1 < 2 ^ 64
    instruments [] h = absurd h
    instruments (blocks ∷ []) h = absurd h.3
    instruments (blocks ∷ many ∷ sizes) h = h.3.2

    forms : (sizes : List ℕ) → AreSizes order_language sizes
        → AllByRecursion (IsFormOfOperations order_language) (order_forms (number_at sizes 1))
    forms sizes h = (
      record { bits = (instruments sizes h, (lit< tt, (lit< tt, tt))); keyword = λ ns k. refl; numbers = three_numbers _ _ _ },
      (
        record { bits = (instruments sizes h, (lit< tt, (lit< tt, tt))); keyword = λ ns k. refl; numbers = three_numbers _ _ _ },
        (
          record { bits = (lit< tt, tt); keyword = λ ns k. refl; numbers = one_number _ },
          (record { bits = (instruments sizes h, tt); keyword = λ ns k. refl; numbers = one_number _ }, tt),
        ),
      ),
    )
