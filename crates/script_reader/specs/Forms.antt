-- The kinds of line of a text: the first word of each, and the range of each number after it.
use Rattle.std.specs.Prelude.{ℕ, ◌+◌, Bool, ◌&&◌, ◌==◌, nat_le, List, [], ◌∷◌, ◌++◌, Option, Some, None, codes, length, find}
use Rattle.std.specs.List.{list_all, zip}
use Rattle.std.specs.Str.{bytes_eq}
use Rattle.std.specs.Str.Parse.{digits_value}
use Rattle.books_model.specs.declared.limits.TheConstants.{MOST_INSTRUMENTS, MOST_RING, GREATEST_ACCOUNT}
use Rattle.books_model.specs.declared.limits.TheConstants.{GREATEST_PRICE, GREATEST_QUANTITY, GREATEST_RATE, GREATEST_SHORTFALL}
use Rattle.script_reader.specs.declared.books.version.Version.{Version}
use Rattle.script_reader.specs.Lines.{word_at}
use Rattle.script_reader.specs.Number.{is_number}
use Rattle.script_reader.specs.Input.{is_name}
use Rattle.script_reader.specs.Versions.{is_version, most_blocks, greatest_cash, greatest_amount}

-- a line, as its words
abbrev pub Words : Type 0
Words = List (List ℕ)

-- a kind of line: its first word, and the least and the greatest of each number after it
pub record Form : Type 0 where
  pub keyword : List ℕ
  pub ranges : List (ℕ × ℕ)

abbrev pub form : List ℕ → List (ℕ × ℕ) → Form
form keyword ranges = record { keyword = keyword; ranges = ranges }

-- the ranges of numbers in a text
abbrev pub accounts : ℕ × ℕ
accounts = (1, GREATEST_ACCOUNT)

abbrev pub amounts : Version → ℕ × ℕ
amounts version = (1, greatest_amount version)

abbrev pub prices : ℕ × ℕ
prices = (1, GREATEST_PRICE)

abbrev pub quantities : ℕ × ℕ
quantities = (1, GREATEST_QUANTITY)

-- the sizes of a header: blocks, instruments and ring
abbrev pub sizes : Version → List (ℕ × ℕ)
sizes version = (1, most_blocks version) ∷ (1, MOST_INSTRUMENTS) ∷ (1, MOST_RING) ∷ []

-- the lines of books with so many instruments, and the line that ends them, in the order of their kinds
abbrev pub books_forms : Version → ℕ → List Form
books_forms version instruments =
    form (codes "account") (accounts ∷ (0, greatest_cash version) ∷ [])
    ∷ form (codes "price") ((1, instruments) ∷ prices ∷ [])
    ∷ form (codes "position") (accounts ∷ (1, instruments) ∷ quantities ∷ [])
    ∷ form (codes "call") (accounts ∷ (1, GREATEST_SHORTFALL) ∷ [])
    ∷ form (codes "scripts") []
    ∷ []

-- the operations of a script on books with so many instruments
abbrev pub operation_forms : Version → ℕ → List Form
operation_forms version instruments =
    form (codes "open") (accounts ∷ [])
    ∷ form (codes "close") (accounts ∷ [])
    ∷ form (codes "deposit") (accounts ∷ amounts version ∷ [])
    ∷ form (codes "withdraw") (accounts ∷ amounts version ∷ [])
    ∷ form (codes "move") (accounts ∷ accounts ∷ amounts version ∷ [])
    ∷ form (codes "price") ((1, instruments) ∷ prices ∷ [])
    ∷ form (codes "trade") (accounts ∷ accounts ∷ (1, instruments) ∷ quantities ∷ [])
    ∷ form (codes "margin") (accounts ∷ (1, GREATEST_RATE) ∷ [])
    ∷ form (codes "next") []
    ∷ form (codes "show") (accounts ∷ [])
    ∷ form (codes "sum") (accounts ∷ accounts ∷ [])
    ∷ []

-- where in a script a line stands: between its parts, or in a branch of an alternative
pub data Region : Type 0 where
  InScript : Region
  InFirstBranch : Region
  InSecondBranch : Region

-- the lines of a script that are no operations, by where they may stand
abbrev pub turning_forms : Region → List Form
turning_forms InScript = form (codes "end") [] ∷ form (codes "try") [] ∷ []
turning_forms InFirstBranch = form (codes "else") [] ∷ []
turning_forms InSecondBranch = form (codes "done") [] ∷ []

-- the lines that may stand there, on books with so many instruments
abbrev pub script_forms : Version → Region → ℕ → List Form
script_forms version region instruments = operation_forms version instruments ++ turning_forms region

-- the line begins with this word
abbrev pub begins : List ℕ → Words → Bool
begins keyword words = bytes_eq (word_at words 0) keyword

-- the line is this word and no more
abbrev pub is_only : List ℕ → Words → Bool
is_only keyword words = begins keyword words && length words == 1

-- the line has the first word of the form, and as many words
abbrev pub has_form : Words → Form → Bool
has_form words f = begins f.keyword words && length words == 1 + length f.ranges

-- the form of a line
abbrev pub form_of : List Form → Words → Option Form
form_of forms words = find (has_form words) forms

-- the ranges of a form's numbers
abbrev pub ranges_of : Option Form → List (ℕ × ℕ)
ranges_of None = []
ranges_of (Some f) = f.ranges

-- the line begins a script of a caller
abbrev pub is_script_line : Words → Bool
is_script_line words = begins (codes "script") words && length words == 2 && is_name (word_at words 1)

-- eight words, with those of a header around its version and its sizes
abbrev pub has_header_words : Words → Bool
has_header_words words =
    (length words == 8) && bytes_eq (word_at words 0) (codes "books") && bytes_eq (word_at words 2) (codes "blocks")
    && bytes_eq (word_at words 4) (codes "instruments") && bytes_eq (word_at words 6) (codes "ring")

-- and a version among them
abbrev pub is_header : Words → Bool
is_header words = has_header_words words && is_version (word_at words 1)

-- the words of a header that are sizes
abbrev pub books_size_words : Words → Words
books_size_words words = word_at words 3 ∷ word_at words 5 ∷ word_at words 7 ∷ []

-- the number that digits are, however many they are
abbrev pub value_of : List ℕ → ℕ
value_of word = digits_value 10 word

-- the number at a place of a line
abbrev pub word_value : Words → ℕ → ℕ
word_value words i = value_of (word_at words i)

-- a word is a number from the least to the greatest
abbrev pub is_in_range : List ℕ × (ℕ × ℕ) → Bool
is_in_range e = nat_le e.1.0 (value_of e.0) && nat_le (value_of e.0) e.1.1

-- each word is a number
abbrev pub are_numbers : Words → Bool
are_numbers words = list_all is_number words

-- each word that is a number is in its range
abbrev pub are_in_range : Words → List (ℕ × ℕ) → Bool
are_in_range words ranges = list_all is_in_range (zip words ranges)
