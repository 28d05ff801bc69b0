-- What the calls inside a building of words say.
use Rattle.std.specs.Prelude.{◌≡◌, ℕ, ◌<◌, List, Some, length, filter, nat_eq}
use Rattle.std.specs.List.{IsDistinct}
use Rattle.std.specs.FinSet as set
use Rattle.txn_words.specs.Frames.{KeepsOthers}
use Rattle.txn_alloc.specs.declared.arena.Arena.{Arena}
use Rattle.txn_alloc.specs.FreeLists.{IsHeadFor, Takes}
use Rattle.txn_alloc.specs.EntryMaps.{Blocks}
use Rattle.std.specs.declared.cmp.Ordering.{Ordering}
use Rattle.std.specs.Ordering.{is_lt}
use Rattle.books_model.specs.Books.{ClearingBooks}
use Rattle.txn_books.specs.declared.shape.BooksShape.{BooksShape}
use Rattle.txn_books.specs.Layout.{words_of}
use Rattle.txn_books.specs.Standing.{Stands}

-- as many words as books of these sizes take, and they stand for these books
pub record IsBuilt (shape : BooksShape) (words : List ℕ) (books : ClearingBooks) : Type 0 where
  pub count : length words ≡ words_of shape
  pub stands : Stands shape words books

-- the entries of a map whose keys are above this one
abbrev pub above : {K : Type 0} → (K → K → Ordering) → K → List (K × ℕ) → List (K × ℕ)
above R k es = filter (λ e. is_lt (R k e.0)) es

-- a free block was taken out of its list, whose head alone was written
pub record IsTaken (arena : Arena) (block : ℕ) (old new : List ℕ) : Type 0 where
  pub below : block < arena.blocks
  pub takes : Takes arena (Some block) old new
  pub kept : KeepsOthers (IsHeadFor arena block) old new

-- these are the free blocks, each once
pub record AreFree (free : Blocks) (order : List ℕ) : Type 0 where
  pub once : IsDistinct nat_eq order
  pub all : set.from_list order ≡ free
