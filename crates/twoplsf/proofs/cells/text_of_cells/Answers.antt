use Rattle.twoplsf.proofs.Common.{◌≡◌, ◌++◌, ℕ, Vec, Global, take, sym, ap, ◌∙◌, subst, arith, CELLS, AreCellValues, cell_line, cells_text}
use Rattle.txn_cells.proofs.Common.{AreCells}
use Rattle.std.proofs.lemmas.List.{take_all}
use Rattle.txn_cells.specs.contracts.numbers.U128Coded.TheImpl.{ghosts as numbers}
use Rattle.twoplsf.proofs.CellLines.{line_more}
use Rattle.twoplsf.proofs.cells.text_of_cells.Goals as goal

-- what is said of all cells is said of an array that has them
of_array : (P : ℕ → ℕ → Type 0) (at len : ℕ) → at ≡ 0 → len ≡ CELLS → P 0 CELLS → P at len
of_array P at len first all p = subst (λ a. P a len) (sym first) (subst (λ l. P 0 l) (sym all) p)

pub value_in-requires-clause-cells : goal.value_in-requires-clause-cells
value_in-requires-clause-cells c =
    of_array (λ a l. AreCells numbers a l c.args.words.now) c.new-cells.result.at c.new-cells.result.len
    c.new-cells.ensures.at c.new-cells.ensures.len c.requires.cells

pub loop-place-preserved : goal.loop-place-preserved
loop-place-preserved c = record {
  lines = λ values are.
      let at = c.loop-place in
      let value = c.value_in.result in
      let found = c.value_in.ensures values
      (of_array (λ a l. AreCellValues numbers a l c.args.words.now values) c.new-cells.result.at c.new-cells.result.len
      c.new-cells.ensures.at c.new-cells.ensures.len are) in
      c.in_ok-write_cell.ensures ∙ (ap (λ l. l ++ cell_line (at.place, value)) (at.invariant.lines values are)
      ∙ sym (line_more values at.place value found));
}

pub returns : goal.returns
returns c values are =
    let at = c.loop-place in
    let end : at.place ≡ CELLS = omega (arith, c.loop-place-test.false) in
    let whole : take at.place values ≡ values = take_all at.place values (omega (arith, are.count, end)) in
    ap (λ (v : Vec ℕ Global). v.items) c.into_bytes.ensures.value ∙ (at.invariant.lines values are ∙ ap cells_text whole)
