use Rattle.order_match.proofs.Common.{◌≡◌, None, Leads, Turns, Stands}
use Rattle.order_match.proofs.Entering.{IsTrading}
use Rattle.order_match.proofs.trading.trade_down.Given as goal

-- what the order comes to on the book as it is now, with the trades so far in front, is what it comes to at all
abbrev pub invariant-loop-left : goal.invariant-loop-left
invariant-loop-left g l =
    let words = g.W.Words in
    record {
      origin : words.origin l.w ≡ words.origin l.fn.w;
      stop : words.stop l.w ≡ None;
      sound : words.is_sound l.w;
      run : Leads words g.W.Shape.Shape l.fn.w l.w (Turns (Stands l.shape) (IsTrading l.order l.trades l.left));
    }

-- each partner has something, and so less is left
abbrev pub decreases-loop-left : goal.decreases-loop-left
decreases-loop-left g l = l.left
