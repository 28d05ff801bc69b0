-- What a script has: the operations of its parts, and alternatives.
use Rattle.std.specs.Prelude.{ℕ, List, [], ◌∷◌, ◌++◌}
use Rattle.std.specs.List.{flat_map}
use Rattle.books_model.specs.declared.script.Op.{Op}
use Rattle.books_model.specs.declared.script.Part.{Part}
use Rattle.books_model.specs.declared.script.Part.TheVariants as part

-- the operations of a part: an operation, or those of both branches
abbrev pub operations_in : Part → List Op
operations_in (part.One o) = o ∷ []
operations_in (part.Either first second) = first ++ second

-- the operations of a script, those of both branches of its alternatives
abbrev pub operations_of : List Part → List Op
operations_of script = flat_map operations_in script

-- how many alternatives a part is
abbrev pub alternatives_in : Part → ℕ
alternatives_in (part.One o) = 0
alternatives_in (part.Either first second) = 1
