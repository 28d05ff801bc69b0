-- Cells that have 0.
use Rattle.txn_cells.proofs.Common.{◌≡◌, ◌⊎◌, ⊎_elim, [], ◌∷◌, ℕ, ◌+◌, ◌-◌, ◌*◌, ◌<◌, List, length, replicate, take, refl, sym, ap, ◌∙◌, arith}
use Rattle.txn_cells.proofs.Common.{get_or-replicate, get_or_from_slice_get, slice_get_within, CELLS, AreCellValues}
use Rattle.std.specs.List.{AllByRecursion}
use Rattle.std.proofs.lemmas.List.{take-replicate, drop-replicate}
use Rattle.txn_cells.specs.contracts.numbers.U128Coded.TheImpl.{ghosts as numbers}
use Rattle.txn_cells.specs.Spelling.{halves_of}

-- words that were made as clones of 0
all_zeros : (xs : List ℕ) → AllByRecursion (λ y. (y ≡ 0) ⊎ (y ≡ 0)) xs → xs ≡ replicate (length xs) 0
all_zeros [] all = refl
all_zeros (x ∷ xs) all = ap (λ y. y ∷ xs) (⊎_elim (λ e. e) (λ e. e) all.0) ∙ ap (λ l. 0 ∷ l) (all_zeros xs all.1)

pub zeros : (n : ℕ) (xs : List ℕ) → length xs ≡ n → AllByRecursion (λ y. (y ≡ 0) ⊎ (y ≡ 0)) xs → xs ≡ replicate n 0
zeros n xs long all = all_zeros xs all ∙ ap (λ k. replicate k 0) long

-- are the words of cells that have 0
pub zero_cells : AreCellValues numbers 0 CELLS (replicate (CELLS * 2) 0) (replicate CELLS 0)
zero_cells = record {
  count = refl;
  each = λ i x e.
      let lt : i < CELLS = slice_get_within (replicate CELLS 0) i x e in
      let none : x ≡ 0 = sym (get_or_from_slice_get (replicate CELLS 0) i x 0 e) ∙ get_or-replicate CELLS i 0 0 lt in (
        omega (arith, none),
        ap (take 2) (drop-replicate (0 + i * 2) (CELLS * 2) 0) ∙ (take-replicate 2 (CELLS * 2 - (0 + i * 2)) 0 (omega (arith, lt)) ∙ ap halves_of (sym none)),
      );
}
