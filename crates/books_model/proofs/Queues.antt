-- Queues from which some were taken at the front.
use Rattle.books_model.proofs.Common.{◌≡◌, ℕ, ◌+◌, ◌≤◌, List, [], ◌∷◌, ◌++◌, length, drop, sym, ap, ◌∙◌, arith, append_assoc}
use Rattle.books_model.proofs.Common.{length-append}
use Rattle.std.proofs.lemmas.List.{drop-append-le, drop-drop}

-- what joins the back stands behind what is left
pub drop-push : {X : Type 0} (t : ℕ) (xs ys : List X) (z : X) → t ≤ length xs + length ys → drop t (xs ++ (ys ++ z ∷ [])) ≡ drop t (xs ++ ys) ++ z ∷ []
drop-push t xs ys z within =
    let most : t ≤ length (xs ++ ys) = omega (arith, length-append xs ys) in
    ap (drop t) (sym (append_assoc xs ys (z ∷ []))) ∙ drop-append-le t (xs ++ ys) (z ∷ []) most

-- one more is taken from the front of what is left
pub drop-next : {X : Type 0} (t : ℕ) (xs : List X) → drop (t + 1) xs ≡ drop 1 (drop t xs)
drop-next t xs = sym (drop-drop 1 t xs)
