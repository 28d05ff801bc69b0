use Rattle.order_match.proofs.Common.{◌≡◌, None, Stands, Leads, Saw}
use Rattle.order_match.proofs.Lookups.{IsListed}
use Rattle.order_match.proofs.closing.all_orders.Given as goal

-- what is listed so far are the orders up to the number before
abbrev pub invariant-loop-before : goal.invariant-loop-before
invariant-loop-before g l =
    let words = g.W.Words in
    record {
      origin : words.origin l.w ≡ words.origin l.fn.w;
      stop : words.stop l.w ≡ None;
      sound : words.is_sound l.w;
      looks : Leads words g.W.Shape.Shape l.fn.w l.w (Saw (Stands l.shape) (IsListed l.shape.instruments l.last l.before l.all.items));
    }
