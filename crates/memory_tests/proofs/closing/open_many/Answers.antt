use Rattle.std.proofs.Common.{List, subst}
use Rattle.word_table.specs.Closing.{AreAllPasses}
use Rattle.word_table.specs.Copies.{PassView}
use Rattle.memory_tests.proofs.closing.open_many.Goals as goal

pub returns-clause-all : goal.returns-clause-all
returns-clause-all c = let d = c.in_ok-desk.desk in
    subst (λ (l : List PassView). AreAllPasses d.table d.seats l) c.in-Some.ensures.items c.in_ok-desk.ensures.all
