use Rattle.txn_records.proofs.Common.{◌≡◌, ◌-◌, None, printed_of, Leads, Saw, Stands}
use Rattle.txn_records.proofs.Listed.{IsListed, records_course}
use Rattle.txn_records.proofs.closing.all_records.Given as goal

-- what is listed so far, and those from the key on, are all records
abbrev pub invariant-loop : goal.invariant-loop
invariant-loop g l =
    let words = g.W.Words in
    record {
      origin : words.origin l.w ≡ words.origin l.fn.w;
      stop : words.stop l.w ≡ None;
      sound : words.is_sound l.w;
      looks : Leads words g.W.Shape.Shape l.fn.w l.w (Saw (Stands l.shape)
          (IsListed records_course printed_of l.all.items (l.shape.blocks - l.counter) l.key));
    }
