use Rattle.script_reader.proofs.Common.{◌≡◌, nat_lt, true, List, [], ◌∷◌, length, refl, ap, ◌∙◌, arith, list_any, lt-ltb}
use Rattle.script_reader.proofs.books.has_calls.Goals as goal

-- a list with elements is longer than 0
some : {A : Type 0} (xs : List A) → nat_lt 0 (length xs) ≡ list_any (λ _. true) xs
some [] = refl
some (x ∷ xs) = lt-ltb 0 (length (x ∷ xs)) (omega arith)

pub returns : goal.returns
returns c = ap (nat_lt 0) c.calls.ensures ∙ some c.args.books.now.calls
