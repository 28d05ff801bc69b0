-- Orders that are looked up one by one.
use Rattle.std.specs.Prelude.{List, [], ◌∷◌, Option, Some, None}
use Rattle.order_text.specs.declared.order.Resting.{Resting}

-- the order that was found, if one was
abbrev pub found_order : Option Resting → List Resting
found_order None = []
found_order (Some r) = r ∷ []
