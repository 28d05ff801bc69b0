use Rattle.twoplsf.proofs.Common.{sym, subst, CELLS, sums_of, AreCellValues}
use Rattle.txn_cells.specs.contracts.numbers.U128Coded.TheImpl.{ghosts as numbers}
use Rattle.twoplsf.proofs.cells.add_to_cells.Goals as goal

pub text_of_cells-requires : goal.text_of_cells-requires
text_of_cells-requires g c = record {
  cells = (
    sums_of c.args.workers c.args.rounds,
    subst (λ s. AreCellValues numbers 0 CELLS s (sums_of c.args.workers c.args.rounds)) (sym c.words.ensures) c.in_ok-closed.ensures.sums,
  );
}

pub returns-clause-text : goal.returns-clause-text
returns-clause-text g c = c.in_ok-text.ensures (sums_of c.args.workers c.args.rounds)
    (subst (λ s. AreCellValues numbers 0 CELLS s (sums_of c.args.workers c.args.rounds)) (sym c.words.ensures) c.in_ok-closed.ensures.sums)

pub returns-clause-run : goal.returns-clause-run
returns-clause-run g c =
    let run = c.in_ok-closed.ensures in
    record {
      shape = run.shape;
      began = run.began;
      seats = run.seats;
      coherent = run.coherent;
      legal = run.legal;
      records = run.records;
      count = run.count;
      rounds_made = run.rounds;
      sums = run.sums;
    }
