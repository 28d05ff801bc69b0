-- The lines of operations.
use Rattle.std.specs.Prelude.{ℕ, List}
use Rattle.std.specs.List.{flat_map}
use Rattle.books_model.specs.declared.script.Op.{Op}
use Rattle.script_reader.specs.Text.{line, books_operation_words}

-- operations, a line each
abbrev pub operation_lines : List Op → List ℕ
operation_lines ops = flat_map (λ o. line (books_operation_words o)) ops
