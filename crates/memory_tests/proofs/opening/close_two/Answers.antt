use Rattle.lock_or_yield.proofs.TwoPasses.{closes_two}
use Rattle.memory_tests.proofs.opening.close_two.Goals as goal

pub close-requires : goal.close-requires
close-requires g c = record {
  all =
      closes_two c.args.desk c.in_ok-passes.passes.items c.args.zero c.args.one c.requires.seats c.in_ok-passes.ensures.items c.requires.zero c.requires.one;
}
