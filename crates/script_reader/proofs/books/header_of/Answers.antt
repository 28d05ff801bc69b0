use Rattle.script_reader.proofs.Common.{◌≡◌, sym, subst, ◌∙◌, MOST_BLOCKS, MOST_INSTRUMENTS, MOST_RING, empty_books, IsWithin, AreBooksWithin, books_words}
use Rattle.script_reader.proofs.books.Printing.Extending.{header_adds, books_of_header}
use Rattle.script_reader.proofs.books.header_of.Goals.{After-new}
use Rattle.script_reader.proofs.books.header_of.Goals as goal

pub new-requires-clause-blocks : goal.new-requires-clause-blocks
new-requires-clause-blocks c =
    subst (IsWithin 1 MOST_BLOCKS) (sym c.in_ok-blocks.ensures.found.0) (header_adds c.args.words.now c.in_ok-blocks.ensures.fine).in_range.blocks

pub new-requires-clause-instruments : goal.new-requires-clause-instruments
new-requires-clause-instruments c =
    subst (IsWithin 1 MOST_INSTRUMENTS) (sym c.in_ok-blocks.ensures.found.1) (header_adds c.args.words.now c.in_ok-blocks.ensures.fine).in_range.instruments

pub new-requires-clause-ring : goal.new-requires-clause-ring
new-requires-clause-ring c = subst (IsWithin 1 MOST_RING) (sym c.in_ok-blocks.ensures.found.2)
    (header_adds c.args.words.now c.in_ok-blocks.ensures.fine).in_range.ring

-- the books are those of the header
books_are : (c : After-new) → c.new.result ≡ books_of_header c.args.words.now
books_are c =
    c.new.ensures ∙ (λ i. empty_books (c.in_ok-blocks.ensures.found.0 i) (c.in_ok-blocks.ensures.found.1 i) (c.in_ok-blocks.ensures.found.2 i))

pub returns-clause-found : goal.returns-clause-found
returns-clause-found c =
    (λ i. books_words (c.in_ok-version.ensures.found.1 i) (books_are (goal.at.returns-clause-found c).After-new i))
    ∙ (header_adds c.args.words.now c.in_ok-blocks.ensures.fine).lines

pub returns-clause-within : goal.returns-clause-within
returns-clause-within c =
    subst (λ v. AreBooksWithin v c.new.result) (sym c.in_ok-version.ensures.found.1)
    (subst (AreBooksWithin _) (sym (books_are (goal.at.returns-clause-within c).After-new)) (header_adds c.args.words.now c.in_ok-blocks.ensures.fine).within)
