use Rattle.std.proofs.Common.{refl, ◌∙◌}
use Rattle.history_model.proofs.Traces.TraceLaws.{begins_refl, begins_trans}
use Rattle.memory_tests.proofs.transactions.write_below.Goals as goal

pub loop-a-init : goal.loop-a-init
loop-a-init g c = record { begins = begins_refl _; going = c.requires.going; sound = c.requires.sound; shape = refl; origin = refl }

pub loop-a-preserved : goal.loop-a-preserved
loop-a-preserved g c = record {
  begins = begins_trans _ _ _ c.loop-a.invariant.begins c.in_ok-write.ensures.begins;
  going = c.in_ok-write.ensures.stops;
  sound = c.in_ok-write.ensures.sound;
  shape = c.in_ok-write.ensures.shape ∙ c.loop-a.invariant.shape;
  origin = c.in_ok-write.ensures.origin ∙ c.loop-a.invariant.origin;
}
