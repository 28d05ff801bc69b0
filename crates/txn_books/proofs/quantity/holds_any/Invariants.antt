use Rattle.txn_books.proofs.Common.{◌≡◌, ℕ, ◌<◌, ◌≤◌, None, Begins, LeadsTo}
use Rattle.txn_books.proofs.OnBooks.Looking.{Saw}
use Rattle.std.specs.FinMap as map
use Rattle.txn_books.proofs.quantity.holds_any.Given as goal

-- the account has no position in the instruments so far
abbrev pub invariant-loop-instrument : goal.invariant-loop-instrument
invariant-loop-instrument g l =
    let words = g.W.Words in
    record {
      shape : words.shape l.w ≡ words.shape l.fn.w;
      origin : words.origin l.w ≡ words.origin l.fn.w;
      begins : Begins (words.trace l.fn.w) (words.trace l.w);
      stop : words.stop l.w ≡ None;
      sound : words.is_sound l.w;
      from : 1 ≤ l.instrument;
      none : LeadsTo words g.W.Shape.Shape l.fn.w l.w (Saw l.shape (λ books. (j : ℕ) → 1 ≤ j → j < l.instrument
          → map.get books.positions (l.account, j) ≡ None));
    }
