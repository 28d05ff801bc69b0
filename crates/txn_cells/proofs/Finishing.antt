-- A closed table whose callers have made their rounds.
use Rattle.txn_cells.proofs.Common.{◌≡◌, ℕ, ◌*◌, ◌<◌, ◌≤◌, List, replicate, sym, subst, Entry, IsIn, MOST_PASSES, ClosedView, AreRecords, AreSeenBy, IsCoherent}
use Rattle.txn_cells.proofs.Common.{IsLegalInEachOrder, PassView, CELLS, MOST_ROUNDS, AreAllCells, sums_of, AreCellValues, AreSoMany, IsRound}
use Rattle.txn_cells.specs.contracts.numbers.U128Coded.TheImpl.{ghosts as numbers}
use Rattle.txn_cells.specs.Rounds.{HaveRounds}
use Rattle.txn_cells.proofs.AddingUp.{all_kept, are_sums, so_many}
use Rattle.txn_cells.proofs.Beginning.{zero_cells}
use Rattle.txn_cells.proofs.Gathering.{HaveMade, each_made, none_besides}

-- what is known of a table when it is closed
pub record HasClosed {S : Type 0} (workers rounds : ℕ) (closed : ClosedView S) : Type 0 where
  pub began : closed.base ≡ replicate (CELLS * 2) 0
  pub coherent : IsCoherent (AreAllCells numbers) closed
  pub legal : IsLegalInEachOrder (AreAllCells numbers) closed
  pub records : AreRecords closed
  pub passes : List PassView
  pub made : HaveMade workers rounds passes
  pub seen : AreSeenBy passes closed.records

module _ {S : Type 0} (workers rounds : ℕ) (closed : ClosedView S) (h : HasClosed workers rounds closed) where
  each : (c r : ℕ) → c < workers → r < rounds → IsRound numbers closed.records c r
  each c r lt less = each_made workers rounds h.passes h.made closed h.seen c r lt less

  near : (e : Entry) → IsIn e closed.records → (e.who < workers) × (1 ≤ e.call) × (e.call ≤ rounds)
  near e is = none_besides workers rounds h.passes h.made closed h.seen e is

  pub have_rounds : HaveRounds numbers workers rounds closed.records
  have_rounds = record {
    each = each;
    kept = all_kept numbers workers rounds closed h.coherent h.legal h.records each near;
    no_more = near;
  }

  pub counted : AreSoMany workers rounds closed.records
  counted = so_many numbers workers rounds closed h.coherent h.legal h.records each near

  pub summed_up : workers ≤ MOST_PASSES → rounds ≤ MOST_ROUNDS → AreCellValues numbers 0 CELLS closed.words (sums_of workers rounds)
  summed_up few short = are_sums numbers workers rounds closed h.coherent h.legal h.records each near (λ x is. is)
      (subst (λ s. AreCellValues numbers 0 CELLS s (replicate CELLS 0)) (sym h.began) zero_cells) few short
