use Rattle.txn_records.proofs.Common.{◌≡◌, ◌-◌, None, ids_from, Leads, Saw, Stands}
use Rattle.txn_records.proofs.Listed.{IsListed, ids_course}
use Rattle.txn_records.proofs.listing.ids_from.Given as goal

-- what is listed so far, and the first of those from the key on, are the whole list
abbrev pub invariant-loop : goal.invariant-loop
invariant-loop g l =
    let words = g.W.Words in
    record {
      origin : words.origin l.w ≡ words.origin l.fn.w;
      stop : words.stop l.w ≡ None;
      sound : words.is_sound l.w;
      looks : Leads words g.W.Shape.Shape l.fn.w l.w
          (Saw (Stands l.shape) (IsListed ids_course (ids_from l.rank l.most) l.ids (l.most - l.counter) l.key));
    }
