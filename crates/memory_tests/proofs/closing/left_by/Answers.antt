use Rattle.std.proofs.Common.{List, sym, subst}
use Rattle.word_table.specs.Closing.{AreAllPasses}
use Rattle.word_table.specs.Copies.{PassView}
use Rattle.word_table.proofs.Joined.Gathering.{last_went_on}
use Rattle.memory_tests.proofs.closing.left_by.Goals as goal

pub close_all-requires : goal.close_all-requires
close_all-requires g c = let d = c.in_ok-desk.desk in record {
  all = subst (λ (l : List PassView). AreAllPasses d.table d.seats l) (sym c.in_ok-push.ensures.items)
      (last_went_on d.table d.seats c.in_ok-desk.passes.items c.in_ok-desk.last c.write_or_not.new.pass c.in_ok-desk.ensures.all
      c.write_or_not.ensures.desk c.write_or_not.ensures.idle.0 c.write_or_not.ensures.idle.1);
}
