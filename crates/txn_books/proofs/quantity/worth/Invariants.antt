use Rattle.txn_books.proofs.Common.{◌≡◌, ◌+◌, ◌*◌, ◌≤◌, None, Begins, GREATEST_QUANTITY, GREATEST_PRICE, worth_below, LeadsTo}
use Rattle.txn_books.proofs.OnBooks.Looking.{Saw}
use Rattle.txn_books.proofs.quantity.worth.Given as goal

-- the total is the worth of the positions so far, each at most a million at a thousand million
abbrev pub invariant-loop-instrument : goal.invariant-loop-instrument
invariant-loop-instrument g l =
    let words = g.W.Words in
    record {
      shape : words.shape l.w ≡ words.shape l.fn.w;
      origin : words.origin l.w ≡ words.origin l.fn.w;
      begins : Begins (words.trace l.fn.w) (words.trace l.w);
      stop : words.stop l.w ≡ None;
      sound : words.is_sound l.w;
      from : 1 ≤ l.instrument;
      worth : LeadsTo words g.W.Shape.Shape l.fn.w l.w (Saw l.shape (λ books. l.total ≡ worth_below books l.account l.instrument));
      most : l.total + GREATEST_QUANTITY * GREATEST_PRICE ≤ l.instrument * (GREATEST_QUANTITY * GREATEST_PRICE);
    }
