-- Which books lack the room for a call on words that stand for them. What such a call answers and does is said by the
-- forms of txn_words' Access.
use Rattle.std.specs.Prelude.{ℕ, Bool, not, ◌&&◌, ◌==◌}
use Rattle.std.specs.FinMap as map
use Rattle.books_model.specs.Books.{ClearingBooks}
use Rattle.books_model.specs.Interpreter.{is_full}

-- the instrument has no price, and no block is left for one
abbrev pub lacks_price_room : ℕ → ClearingBooks → Bool
lacks_price_room i books = not (map.contains_key books.prices i) && is_full books

-- the account has no position of the instrument, and no block is left for one of this much; 0 takes none
abbrev pub lacks_position_room : ℕ → ℕ → ℕ → ClearingBooks → Bool
lacks_position_room a i quantity books =
    not (quantity == 0) && (not (map.contains_key books.positions (a, i)) && is_full books)
