use Rattle.script_reader.proofs.Common.{◌≡◌, ◌++◌, length, into_iter_items, callers_of, callers_in, IsEven, AreCallersOf}
use Rattle.std.specs.Vec.Iter.{into_iter_len}
use Rattle.script_reader.proofs.books.pieces.input_of.Given as goal

abbrev pub invariant-loop-submitted : goal.invariant-loop-submitted
invariant-loop-submitted l = record {
  even : IsEven l.callers;
  made : callers_in l.callers ≡ callers_of l.yielded;
  valid : AreCallersOf l.fn.opening.version l.fn.opening.books (callers_of l.yielded);
  sized : into_iter_len l.submitted-iterator ≡ length (into_iter_items l.submitted-iterator);
  whole : l.fn.scripts.items ≡ l.yielded ++ into_iter_items l.submitted-iterator;
}
