-- The lines of cells, one after another, and the values of their words.
use Rattle.twoplsf.proofs.Common.{◌≡◌, ℕ, suc, ◌+◌, ◌<◌, List, [], ◌∷◌, ◌++◌, Some, length, take, refl, sym, ap, ◌∙◌, arith, append_assoc, append-nil, CELLS}
use Rattle.twoplsf.proofs.Common.{AreCellValues, cell_line, cells_text}
use Rattle.std.proofs.Common.{slice_get, add-one}
use Rattle.std.specs.List.{enumerate_from, flat_map}
use Rattle.std.proofs.lemmas.Option.{slice_get_within}
use Rattle.std.proofs.lemmas.List.{length-take-le}
use Rattle.history_model.proofs.ListPlaces.{take-more}
use Rattle.txn_cells.specs.contracts.numbers.U128Coded.TheImpl.{ghosts as numbers}
use Rattle.txn_cells.specs.Spelling.{one_of_halves}
use Rattle.txn_cells.proofs.Values.{one_values}

-- the lines of cells from a place on, and one more
lines_push : (n : ℕ) (xs : List ℕ) (y : ℕ)
    → flat_map cell_line (enumerate_from n (xs ++ y ∷ [])) ≡ flat_map cell_line (enumerate_from n xs) ++ cell_line (n + length xs, y)
lines_push n [] y = append-nil (cell_line (n, y)) ∙ ap (λ k. cell_line (k, y)) (none n)
  where
    none : (m : ℕ) → m ≡ m + 0
    none m = omega arith
lines_push n (x ∷ xs) y =
    ap (λ l. cell_line (n, x) ++ l) (lines_push (n + 1) xs y)
    ∙ (sym (append_assoc (cell_line (n, x)) (flat_map cell_line (enumerate_from (n + 1) xs)) (cell_line (n + 1 + length xs, y)))
    ∙ ap (λ k. (cell_line (n, x) ++ flat_map cell_line (enumerate_from (n + 1) xs)) ++ cell_line (k, y)) (next n (length xs)))
  where
    next : (m k : ℕ) → m + 1 + k ≡ m + suc k
    next m k = omega arith

-- the lines of the first cells, and that of the next
pub line_more : (values : List ℕ) (k x : ℕ) → slice_get values k ≡ Some x → cells_text (take (k + 1) values) ≡ cells_text (take k values) ++ cell_line (k, x)
line_more values k x at =
    let next : k + 1 ≡ suc k = add-one k in
    let lt : k < length values = slice_get_within values k x at in
    let long : length (take k values) ≡ k = length-take-le k values (omega (arith, lt)) in
    ap (λ n. cells_text (take n values)) next ∙ (ap cells_text (take-more k values x at)
    ∙ (lines_push 0 (take k values) x ∙ ap (λ n. cells_text (take k values) ++ cell_line (n, x)) (here (length (take k values)) ∙ long)))
  where
    here : (m : ℕ) → 0 + m ≡ m
    here m = omega arith

-- the words of cells have one list of values
pub one_list : (s xs ys : List ℕ) → AreCellValues numbers 0 CELLS s xs → AreCellValues numbers 0 CELLS s ys → xs ≡ ys
one_list = one_values numbers (λ x _. refl) one_of_halves 0 CELLS
