use Rattle.word_table.proofs.Common.{IsGood, IsSound}
use Rattle.word_table.proofs.step.add.Given as goal

abbrev pub ghosts-add_by : goal.ghosts-add_by
ghosts-add_by g a = record {
  step = a.step.now;
  sound =
      IsSound (IsGood (g.S.Shape.word_count a.table.now.key.shape) (g.S.Shape.good a.table.now.key.shape)) a.table.now.key.seats a.table.now.key.base.items;
}
