-- The owners, one after another, and the workers that get them.
use Rattle.worker_pool.proofs.Common.{◌≡◌, ℕ, suc, ◌+◌, ◌<◌, List, [], ◌∷◌, ◌++◌, map, length, get_or, reverse, sym, ap, ◌∙◌, subst, arith, length-append, refl}
use Rattle.worker_pool.proofs.Common.{Some, dite, ℕ_discrete, range_with_len, get_or_append_left, get_or_push, Worker}
use Rattle.std.proofs.Common.{Option, IfSome, add-zero}
use Rattle.std.proofs.lemmas.List.{reverse-append}
use Rattle.worker_pool.proofs.Opening.{OwnerOf}

abbrev pub own_of : Worker → OwnerOf
own_of worker = worker.queue.own

-- the numbers of items that are numbered from a on
pub numbered : {X : Type 0} (n : X → ℕ) (a : ℕ) (xs : List X)
    → ((j : ℕ) (d : X) → j < length xs → n (get_or xs j d) ≡ a + j) → map n xs ≡ range_with_len a (length xs)
numbered n a [] each = refl
numbered n a (x ∷ xs) each =
    let head : n x ≡ a = each 0 x (omega arith) ∙ add-zero a in
    let tail = numbered n (a + 1) xs (λ j d lt. omega (arith, each (suc j) d (omega arith))) in
    λ i. head i ∷ tail i

-- items that have the numbers of their places, and one more
pub numbered_push : {X : Type 0} (n : X → ℕ) (xs more : List X) (x : X) → more ≡ xs ++ x ∷ [] → n x ≡ length xs
    → ((k : ℕ) (d : X) → k < length xs → n (get_or xs k d) ≡ k) → (k : ℕ) (d : X) → k < length more → n (get_or more k d) ≡ k
numbered_push n xs more x is here each k d lt = ap (λ l. n (get_or l k d)) is ∙ dite (ℕ_discrete k (length xs))
    (λ at. ap n (get_or_push xs x d k (sym at)) ∙ here ∙ sym at)
    (λ off. let less : k < length xs = omega (arith, off, lt, ap length is, length-append xs (x ∷ [])) in
    ap n (get_or_append_left xs (x ∷ []) d k less) ∙ each k d less)

-- the last of a list is the first of it, turned round
pub turned : {X : Type 0} (xs ys : List X) (x : X) → xs ≡ ys ++ x ∷ [] → reverse xs ≡ x ∷ reverse ys
turned xs ys x is = ap reverse is ∙ reverse-append ys (x ∷ [])

at_seam : {X : Type 0} (given after : List X) (x d : X) → get_or (given ++ x ∷ after) (length given) d ≡ x
at_seam [] after x d = refl
at_seam (y ∷ ys) after x d = at_seam ys after x d

-- the next owner stands at the place that it has
pub next_owner : (given left after owners : List OwnerOf) (own : OwnerOf) → left ≡ own ∷ after → given ++ left ≡ owners
    → own ≡ get_or owners (length given) own
next_owner given left after owners own steps is =
    sym (at_seam given after own own) ∙ ap (λ l. get_or l (length given) own) (ap (λ l. given ++ l) (sym steps) ∙ is)

pub one_has : {X : Type 0} (P : X → Type 0) (r : Option X) (x : X) → r ≡ Some x → IfSome r P → P x
one_has P r x is h = subst (λ (o : Option _). IfSome o P) is h
