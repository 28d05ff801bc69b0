-- What a loop over a list's items has given, and what is left.
use Rattle.worker_pool.proofs.Common.{◌≡◌, ℕ, suc, ◌<◌, get_or, List, [], ◌∷◌, ◌++◌, length, map, flat_map, refl, sym, ap, ◌∙◌, arith, append-nil}
use Rattle.std.proofs.lemmas.List.Concat.{flat_map-append}
use Rattle.txn_threads.proofs.Yielded.{one_given}
pub use Rattle.txn_threads.proofs.Yielded.{made_push}

-- the next item is given
pub next_given : {X : Type 0} (given : List X) {left after all : List X} {x : X} → left ≡ x ∷ after → given ++ left ≡ all → (given ++ x ∷ []) ++ after ≡ all
next_given given {left} {after} {all} {x} steps is = one_given given left after all x steps is

-- all items are given
pub all_given : {X : Type 0} {given : List X} (left : List X) {all : List X} → length left ≡ 0 → given ++ left ≡ all → given ≡ all
all_given {given = given} [] none is = sym (append-nil given) ∙ is
all_given (x ∷ xs) none is = absurd (omega arith)

-- what the items have, put together, with one more
pub joined_push : {X Y : Type 0} (f : X → List Y) (given : List X) (joined more : List Y) (x : X) → more ≡ joined ++ f x
    → joined ≡ flat_map f given → more ≡ flat_map f (given ++ x ∷ [])
joined_push f given joined more x is was = is ∙ ap (λ l. l ++ f x) was
    ∙ ap (λ l. flat_map f given ++ l) (sym (append-nil (f x))) ∙ sym (flat_map-append f given (x ∷ []))

-- items that are alike, each if the other is
pub map_same : {X Y : Type 0} (f : X → Y) (xs ys : List X) → length ys ≡ length xs
    → ((k : ℕ) (d : X) → k < length xs → f (get_or ys k d) ≡ f (get_or xs k d)) → map f ys ≡ map f xs
map_same f [] [] e h = refl
map_same f [] (y ∷ ys) e h = absurd (omega arith)
map_same f (x ∷ xs) [] e h = absurd (omega arith)
map_same f (x ∷ xs) (y ∷ ys) e h = λ i. h 0 x (omega arith) i ∷ map_same f xs ys (omega arith) (λ k d lt. h (suc k) d (omega arith)) i
