use Rattle.word_table.proofs.Common.{rules}
use Rattle.word_table.proofs.desk.Desk.begin.Goals as goal

pub returns : goal.returns
returns g c = let begun = c.begin_call.ensures in record {
  desk = begun.table;
  steps = begun.steps;
  number = begun.number;
  step = begun.view;
  taken = search rules;
  fits = search rules;
}
