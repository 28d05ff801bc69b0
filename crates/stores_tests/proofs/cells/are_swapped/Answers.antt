use Rattle.std.proofs.Common.{◌≡◌, ℕ, zero, suc, ◌+◌, ◌*◌, ◌<◌, ◌^◌, List, [], ◌∷◌, Some, length, slice_get, refl, sym, ap, ◌∙◌, subst, arith}
use Rattle.std.proofs.lemmas.Option.{same_Some}
use Rattle.history_model.specs.Traces.{after}
use Rattle.txn_words.specs.Plainly.{PlainView}
use Rattle.txn_cells.specs.Spelling.{halves_of}
use Rattle.txn_cells.specs.Cells.{AreCells, cell_words}
use Rattle.txn_cells.specs.contracts.numbers.U128Coded.TheImpl.{ghosts as numbers}
use Rattle.stores_tests.proofs.cells.are_swapped.Goals as goal

first : ℕ
first = 1 + 2 * 2 ^ 64

second : ℕ
second = 3 + 4 * 2 ^ 64

-- the two numbers of the test's words
two_numbers : AreCells numbers 1 2 (9 ∷ 1 ∷ 2 ∷ 3 ∷ 4 ∷ [])
unfolding first second
two_numbers = (first ∷ second ∷ [], record { count = refl; each = each })
  where
    spelled : ℕ → ℕ → Type 0
    spelled i x = (x < 2 ^ 128) × (cell_words numbers 1 i (9 ∷ 1 ∷ 2 ∷ 3 ∷ 4 ∷ []) ≡ halves_of x)

    each : (i : ℕ) (x : ℕ) → slice_get (first ∷ second ∷ []) i ≡ Some x → (x < 2 ^ 128) × (cell_words numbers 1 i (9 ∷ 1 ∷ 2 ∷ 3 ∷ 4 ∷ []) ≡ halves_of x)
    each zero x e = subst (spelled 0) (same_Some first x e) (omega arith, refl)
    each (suc zero) x e = subst (spelled 1) (same_Some second x e) (omega arith, refl)
    each (suc (suc i)) x e = absurd (cc e)

cells_at : (a b l m : ℕ) (s t : List ℕ) → a ≡ b → l ≡ m → s ≡ t → AreCells numbers a l s → AreCells numbers b m t
cells_at a b l m s t e f h cells = subst (λ z. AreCells numbers z m t) e (subst (λ z. AreCells numbers a z t) f (subst (AreCells numbers a l) h cells))

pub new-plain-requires : goal.new-plain-requires
new-plain-requires c =
    let items : 9 ∷ 1 ∷ 2 ∷ 3 ∷ 4 ∷ [] ≡ c.in_ok-words.words.items = sym c.in_ok-words.ensures.items in
    record {
      count = ap length (sym items) ∙ omega (arith, c.new.ensures.at, c.new.ensures.len);
      good = cells_at 1 c.new.result.at 2 c.new.result.len _ _ (sym c.new.ensures.at) (sym c.new.ensures.len) items two_numbers;
    }

pub set_and_swap-requires-clause-cells : goal.set_and_swap-requires-clause-cells
unfolding after
set_and_swap-requires-clause-cells c = record {
  at = λ s fit.
      let shape : c.new-plain.result.shape ≡ c.new.result = ap (λ (v : PlainView _). v.shape) c.new-plain.ensures.view in
      let trace : c.new-plain.result.trace ≡ [] = ap (λ (v : PlainView _). v.trace) c.new-plain.ensures.view in
      subst (λ t. AreCells numbers c.new-cells.result.at c.new-cells.result.len (after t s)) (sym trace)
      (cells_at c.new-plain.result.shape.at c.new-cells.result.at c.new-plain.result.shape.len c.new-cells.result.len s s
      (ap (λ z. z.at) shape ∙ c.new.ensures.at ∙ sym c.new-cells.ensures.at) (ap (λ z. z.len) shape ∙ c.new.ensures.len
      ∙ sym c.new-cells.ensures.len) refl fit.good);
}
