-- Scripts by their operations: those of each branch, and of one more part.
use Rattle.books_model.proofs.Common.{◌≡◌, List, [], ◌∷◌, ◌++◌, All, length, ap, subst, ◌∙◌, drop-append_seam, All-drop, Part, operations_in, operations_of}
use Rattle.std.proofs.Math.Seq.{take-append_seam}
use Rattle.std.proofs.lemmas.List.{append-nil}
use Rattle.std.proofs.lemmas.List.Concat.{flat_map-append}
use Rattle.std.proofs.lemmas.List.Elements.{All-take}

-- what holds of the elements of two lists holds of those of the first
pub All-front : {X : Type 0} (P : X → Type 0) (xs ys : List X) → All P (xs ++ ys) → All P xs
All-front P xs ys each = subst (All P) (take-append_seam xs ys) (All-take P (length xs) (xs ++ ys) each)

-- and of the second
pub All-back : {X : Type 0} (P : X → Type 0) (xs ys : List X) → All P (xs ++ ys) → All P ys
All-back P xs ys each = subst (All P) (drop-append_seam xs ys) (All-drop P (length xs) (xs ++ ys) each)

-- the operations of a part stand behind those of the parts before it
pub behind_parts : (parts : List Part) (p : Part) → operations_of (parts ++ p ∷ []) ≡ operations_of parts ++ operations_in p
behind_parts parts p = flat_map-append operations_in parts (p ∷ []) ∙ ap (λ l. operations_of parts ++ l) (append-nil (operations_in p))
