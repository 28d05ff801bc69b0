use Rattle.std.proofs.Common.{◌≡◌, None}
use Rattle.history_model.specs.Traces.{Begins}
use Rattle.memory_tests.proofs.transactions.write_below.Given as goal

-- another write may be made
abbrev pub invariant-loop-a : goal.invariant-loop-a
invariant-loop-a g l = record {
  begins : Begins (g.W.Words.trace l.initial.w) (g.W.Words.trace l.w);
  going : g.W.Words.stop l.w ≡ None;
  sound : g.W.Words.is_sound l.w;
  shape : g.W.Words.shape l.w ≡ g.W.Words.shape l.initial.w;
  origin : g.W.Words.origin l.w ≡ g.W.Words.origin l.initial.w;
}
