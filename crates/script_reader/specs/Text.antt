-- The text of clearing books and of scripts: lines of words.
use Rattle.std.specs.Prelude.{ℕ, List, [], ◌∷◌, ◌++◌, codes, map as map_list}
use Rattle.std.specs.List.{join_with_byte, flat_map}
use Rattle.std.specs.Fmt.{decimal}
use Rattle.std.specs.FinMap as map
use Rattle.books_model.specs.declared.script.Op.{Op}
use Rattle.books_model.specs.declared.script.Op.TheVariants as op
use Rattle.books_model.specs.declared.script.Part.{Part}
use Rattle.books_model.specs.declared.script.Part.TheVariants as part
use Rattle.books_model.specs.Books.{ClearingBooks}
use Rattle.script_reader.specs.declared.text.words.TheConstants.{SPACE, LINE_FEED}
use Rattle.script_reader.specs.declared.books.version.Version.{Version}
use Rattle.script_reader.specs.Versions.{version_word}

-- a number in a text: decimal digits, with no zero in front
abbrev pub number : ℕ → List ℕ
number n = decimal n

-- words separated by exactly one space, and the line feed that ends the line
abbrev pub line : List (List ℕ) → List ℕ
line words = join_with_byte SPACE words ++ LINE_FEED ∷ []

-- the words of the header
abbrev pub header_words : Version → ClearingBooks → List (List ℕ)
header_words version books =
    codes "books" ∷ version_word version
    ∷ codes "blocks" ∷ number books.blocks
    ∷ codes "instruments" ∷ number books.instruments
    ∷ codes "ring" ∷ number books.ring ∷ []

-- the first line: the version of the text, and the sizes of books
abbrev pub header_line : Version → ClearingBooks → List ℕ
header_line version books = line (header_words version books)

-- the words of an account
abbrev pub account_words : ℕ × ℕ → List (List ℕ)
account_words (account, cash) = codes "account" ∷ number account ∷ number cash ∷ []

-- an account and its cash
abbrev pub account_line : ℕ × ℕ → List ℕ
account_line account = line (account_words account)

-- the words of a price
abbrev pub price_words : ℕ × ℕ → List (List ℕ)
price_words (instrument, price) = codes "price" ∷ number instrument ∷ number price ∷ []

-- an instrument and its price
abbrev pub price_line : ℕ × ℕ → List ℕ
price_line price = line (price_words price)

-- the words of a position
abbrev pub position_words : (ℕ × ℕ) × ℕ → List (List ℕ)
position_words ((account, instrument), quantity) =
    codes "position" ∷ number account ∷ number instrument ∷ number quantity ∷ []

-- an account, an instrument and the quantity that is held
abbrev pub position_line : (ℕ × ℕ) × ℕ → List ℕ
position_line position = line (position_words position)

-- the words of a margin call
abbrev pub call_words : ℕ × ℕ → List (List ℕ)
call_words (account, shortfall) = codes "call" ∷ number account ∷ number shortfall ∷ []

-- a margin call: an account and its shortfall
abbrev pub call_line : ℕ × ℕ → List ℕ
call_line call = line (call_words call)

-- the lines of books: the header, and then accounts, prices and positions in rising order, and the queue from its front
abbrev pub books_lines : Version → ClearingBooks → List ℕ
books_lines version books =
    header_line version books
    ++ flat_map account_line (map.entries books.accounts)
    ++ flat_map price_line (map.entries books.prices)
    ++ flat_map position_line (map.entries books.positions)
    ++ flat_map call_line books.calls

-- the words of an operation
abbrev pub books_operation_words : Op → List (List ℕ)
books_operation_words (op.OpenAccount a) = codes "open" ∷ number a ∷ []
books_operation_words (op.Close a) = codes "close" ∷ number a ∷ []
books_operation_words (op.Deposit a x) = codes "deposit" ∷ number a ∷ number x ∷ []
books_operation_words (op.Withdraw a x) = codes "withdraw" ∷ number a ∷ number x ∷ []
books_operation_words (op.Move a b x) = codes "move" ∷ number a ∷ number b ∷ number x ∷ []
books_operation_words (op.Price i p) = codes "price" ∷ number i ∷ number p ∷ []
books_operation_words (op.Trade a b i q) =
    codes "trade" ∷ number a ∷ number b ∷ number i ∷ number q ∷ []
books_operation_words (op.Margin a m) = codes "margin" ∷ number a ∷ number m ∷ []
books_operation_words op.Next = codes "next" ∷ []
books_operation_words (op.Show a) = codes "show" ∷ number a ∷ []
books_operation_words (op.Sum a b) = codes "sum" ∷ number a ∷ number b ∷ []

-- the lines of a part, as their words: an operation, or an alternative with its two branches
abbrev pub part_words : Part → List (List (List ℕ))
part_words (part.One o) = books_operation_words o ∷ []
part_words (part.Either first second) =
    (codes "try" ∷ []) ∷ (map_list books_operation_words first
    ++ ((codes "else" ∷ []) ∷ (map_list books_operation_words second ++ (codes "done" ∷ []) ∷ [])))

-- the parts of a script
abbrev pub script_lines : List Part → List ℕ
script_lines script = flat_map line (flat_map part_words script)

-- the line before the scripts
abbrev pub scripts_line : List ℕ
scripts_line = line (codes "scripts" ∷ [])

-- the last line
abbrev pub finish_line : List ℕ
finish_line = line (codes "finish" ∷ [])

-- the line that ends a script
abbrev pub end_line : List ℕ
end_line = line (codes "end" ∷ [])
