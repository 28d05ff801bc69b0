use Rattle.io_ends.proofs.Common.{◌≤◌, ◌≡◌, ◌-◌, length, take, drop, Appends}
use Rattle.io_ends.proofs.writing.write_all_of.Given as goal

-- what was written so far is a prefix of the text, and the rest is what is left of it
abbrev pub invariant-loop-rest : goal.invariant-loop-rest
invariant-loop-rest g l =
    let sink = g.K.Sink in
    record {
      within : length l.rest ≤ length l.text;
      rest : l.rest ≡ drop (length l.text - length l.rest) l.text;
      written : Appends (sink.taken l.fn.sink) (sink.taken l.sink) (take (length l.text - length l.rest) l.text);
      faults : sink.faults l.fn.sink ≤ sink.faults l.sink;
    }

abbrev pub decreases-loop-rest : goal.decreases-loop-rest
decreases-loop-rest g l = length l.rest
