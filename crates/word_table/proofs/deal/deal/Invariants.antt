use Rattle.word_table.proofs.Common.{◌≡◌, ◌-◌, [], opening_view, numbers}
use Rattle.word_table.proofs.Openings.Opening.{Dealt}
use Rattle.word_table.proofs.deal.deal.Given as goal

-- the seat that deals has the numbers from j on, and the passes have the others
abbrev pub invariant-loop-j : goal.invariant-loop-j
invariant-loop-j g l = (l.seat.table_id ≡ l.table.table_id)
    × (l.seat.steps ≡ 0) × (l.seat.me ≡ (opening_view l.table.key.base.items l.n (numbers l.j (l.n - l.j)) [], []))
    × Dealt l.table.key.base.items l.n l.table.table_id l.j l.passes.items
