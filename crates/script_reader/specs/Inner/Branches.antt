-- The branches of an alternative.
use Rattle.std.specs.Prelude.{ℕ, List, codes}
use Rattle.books_model.specs.declared.script.Op.{Op}
use Rattle.script_reader.specs.declared.books.scripts.Branch.{Branch}
use Rattle.script_reader.specs.declared.books.scripts.Branch.TheVariants as branch
use Rattle.script_reader.specs.Inner.LinesAsWords.{Open, InFirst, InSecond}

-- the word of the line that ends a branch
abbrev pub closing_word : Branch → List ℕ
closing_word branch.First = codes "else"
closing_word branch.Second = codes "done"

-- a script in a branch with these operations: behind a first branch, if it is the second
abbrev pub branch_with : Branch → List Op → List Op → Open
branch_with branch.First first ops = InFirst ops
branch_with branch.Second first ops = InSecond first ops
