-- What a loop over a list's items has given, and what is left.
use Rattle.txn_threads.proofs.Common.{◌≡◌, ℕ, List, [], ◌∷◌, ◌++◌, length, map, sym, ap, ◌∙◌}
use Rattle.std.proofs.Common.{append_assoc, take}
use Rattle.std.proofs.lemmas.List.{map_push}
use Rattle.std.proofs.Math.Seq.{take-append_seam}

-- the next item is given
pub one_given : {X : Type 0} (given left after all : List X) (x : X) → left ≡ x ∷ after → given ++ left ≡ all → (given ++ x ∷ []) ++ after ≡ all
one_given given left after all x steps is = append_assoc given (x ∷ []) after ∙ ap (λ l. given ++ l) (sym steps) ∙ is

-- what was made of the items, with one more
pub made_push : {X Y : Type 0} (f : X → Y) (given : List X) (made more : List Y) (x : X) → more ≡ made ++ f x ∷ []
    → made ≡ map f given → more ≡ map f (given ++ x ∷ [])
made_push f given made more x is was = is ∙ ap (λ l. l ++ f x ∷ []) was ∙ sym (map_push f given x)

-- a list that was written back over one of its length
pub written_back : {X : Type 0} (len : ℕ) (new rest : List X) → length new ≡ len → take len (new ++ rest) ≡ new
written_back len new rest is = ap (λ n. take n (new ++ rest)) (sym is) ∙ take-append_seam new rest
