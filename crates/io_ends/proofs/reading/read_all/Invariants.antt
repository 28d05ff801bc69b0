use Rattle.io_ends.proofs.Common.{◌+◌, ◌-◌, ◌≤◌, Consumes}
use Rattle.std.proofs.Common.{vec_len}
use Rattle.io_ends.proofs.reading.read_all.Given as goal

-- each read so far took a byte, and all that was taken is kept
abbrev pub invariant-loop-chunk : goal.invariant-loop-chunk
invariant-loop-chunk g l =
    let source = g.S.Source in
    record {
      kept : Consumes (source.left l.fn.source) (source.left l.source) l.bytes.items;
      within : vec_len l.bytes ≤ l.limit + 1;
      faults : source.faults l.fn.source ≤ source.faults l.source;
      reads : source.reads l.source ≤ source.reads l.fn.source + vec_len l.bytes;
    }

abbrev pub decreases-loop-chunk : goal.decreases-loop-chunk
decreases-loop-chunk g l = l.limit + 1 - vec_len l.bytes
