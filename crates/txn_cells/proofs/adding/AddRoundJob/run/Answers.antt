use Rattle.txn_cells.proofs.Common.{◌≡◌, ◌+◌, ◌*◌, ◌%◌, sym, ◌∙◌, subst, arith, Fits, after, CELLS, AreCells}
use Rattle.txn_cells.specs.contracts.numbers.U128Coded.TheImpl.{ghosts as numbers}
use Rattle.txn_cells.proofs.Additions.{cells_at_first, round_adds}
use Rattle.txn_cells.proofs.adding.AddRoundJob.run.Goals as goal

pub add_to-requires-clause-cells : goal.add_to-requires-clause-cells
add_to-requires-clause-cells g c =
    let shape = c.args.self.now.shape in
    let cells = c.new-cells.result in
    cells_at_first g.W.Words _ numbers cells.at cells.len c.args.w.now c.requires.fresh
    (λ s h. subst (λ a. AreCells numbers a cells.len s) (sym c.new-cells.ensures.at)
    (subst (λ l. AreCells numbers shape.at l s) (sym c.new-cells.ensures.len) (subst (λ z. AreCells numbers z.at z.len s) c.requires.shape h)))

pub returns-clause-meaning : goal.returns-clause-meaning
returns-clause-meaning g c s fit =
    let job = c.args.self.now in
    let cells = c.new-cells.result in
    let one = c.in_ok-add_to.ensures in
    let other = c.in_ok-add_to-2.ensures in
    let turn : c.cell_at.result ≡ (job.caller + job.round) % CELLS = omega (arith, c.cell_at.ensures) in
    let next : c.cell_at-2.result ≡ (job.caller + job.round + 1) % CELLS = omega (arith, c.cell_at-2.ensures) in
    round_adds g.W.Words _ numbers cells.at cells.len c.args.w.now c.add_to.new.w c.add_to-2.new.w job.caller job.round
    c.cell_at.result c.cell_at-2.result c.from-3.result (c.new-cells.ensures.at ∙ job.whole.0) (c.new-cells.ensures.len ∙ job.whole.1)
    turn next (omega arith) c.requires.fresh one.goes_on.shape other.goes_on.begins one.added other.added s
    (subst (λ z. Fits (z.at + z.len * 2) (AreCells numbers z.at z.len) (g.W.Words.trace c.add_to-2.new.w) s) (sym c.requires.shape) fit)

pub returns-clause-good : goal.returns-clause-good
returns-clause-good g c = λ kept s fit.
    let job = c.args.self.now in
    let one = c.in_ok-add_to.ensures in
    let other = c.in_ok-add_to-2.ensures in
    let shape = other.goes_on.shape ∙ one.goes_on.shape ∙ c.requires.shape in
    let left = other.cells.at s
    (subst (λ z. Fits (z.at + z.len * 2) (AreCells numbers z.at z.len) (g.W.Words.trace c.add_to-2.new.w) s) (sym shape) fit) in
    let end = after (g.W.Words.trace c.add_to-2.new.w) s in
    subst (λ a. AreCells numbers a job.shape.len end) c.new-cells.ensures.at
    (subst (λ l. AreCells numbers c.new-cells.result.at l end) c.new-cells.ensures.len left)
