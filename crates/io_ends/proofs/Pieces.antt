-- Bytes that go from one place to another in pieces.
use Rattle.io_ends.proofs.Common.{◌≡◌, ◌≤◌, ◌+◌, ◌-◌, ◌++◌, length, take, drop, sym, ap, ◌∙◌, arith, Appends, Consumes}
use Rattle.std.proofs.Common.{ℕ, List, Option, Some, None, append_assoc, length-take, length-drop}
use Rattle.std.proofs.lemmas.List.{take-append-drop, take_at, drop-drop}
use Rattle.std.proofs.Math.Seq.{take-add}

-- what is left from a place on is the piece that was copied into the start of a buffer, and what is left after it
pub prefix_and_rest : (xs piece others : List ℕ) (at n : ℕ) → piece ≡ take n (drop at xs) → at + n ≤ length xs
    → drop at xs ≡ take n (piece ++ others) ++ drop (at + n) xs
prefix_and_rest xs piece others at n e within =
    let long : length piece ≡ n = ap length e ∙ simp (length-take, length-drop) (omega arith) in
    sym (ap (λ ys. ys ++ drop (at + n) xs) (take_at piece others n long ∙ e)
    ∙ ap (λ ys. take n (drop at xs) ++ ys) (sym (drop-drop n at xs)) ∙ take-append-drop n (drop at xs))

-- the prefix up to a place, and a piece from there on, are the prefix up to the piece's end
pub prefix_and_piece : (text rest : List ℕ) (n : ℕ) → rest ≡ drop (length text - length rest) text
    → length rest ≤ length text → n ≤ length rest → take (length text - length rest) text ++ take n rest ≡ take (length text - length (drop n rest)) text
prefix_and_piece text rest n e within short =
    let k : ℕ = length text - length rest in
    let at : length text - length (drop n rest) ≡ k + n = simp length-drop (omega arith) in
    ap (λ ys. take k text ++ take n ys) e ∙ sym (take-add k n text) ∙ ap (λ i. take i text) (sym at)

-- what is left after a piece of what was left
pub rest_of_rest : (text rest : List ℕ) (n : ℕ) → rest ≡ drop (length text - length rest) text
    → length rest ≤ length text → n ≤ length rest → drop n rest ≡ drop (length text - length (drop n rest)) text
rest_of_rest text rest n e within short =
    let k : ℕ = length text - length rest in
    let at : length text - length (drop n rest) ≡ k + n = simp length-drop (omega arith) in
    ap (drop n) e ∙ drop-drop n k text ∙ ap (λ i. drop i text) (sym at)

-- two pieces that were taken one after the other
pub Consumes-append : (before between now : Option (List ℕ)) (xs ys : List ℕ) → Consumes before between xs
    → Consumes between now ys → Consumes before now (xs ++ ys)
Consumes-append None between now xs ys h k = tt
Consumes-append (Some before) None now xs ys h k = absurd h
Consumes-append (Some before) (Some between) None xs ys h k = absurd k
Consumes-append (Some before) (Some between) (Some now) xs ys h k = h ∙ ap (λ zs. xs ++ zs) k ∙ sym (append_assoc xs ys now)

-- two pieces that were appended one after the other
pub Appends-append : (before between now : Option (List ℕ)) (xs ys : List ℕ) → Appends before between xs
    → Appends between now ys → Appends before now (xs ++ ys)
Appends-append None between now xs ys h k = tt
Appends-append (Some before) None now xs ys h k = absurd h
Appends-append (Some before) (Some between) None xs ys h k = absurd k
Appends-append (Some before) (Some between) (Some now) xs ys h k = k ∙ ap (λ zs. zs ++ ys) h ∙ append_assoc before xs ys
