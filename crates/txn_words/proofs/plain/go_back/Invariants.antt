use Rattle.txn_words.proofs.Common.{◌≡◌, ◌≤◌, Fits, count_writes}
use Rattle.txn_words.proofs.GoingBack.{GoneBack}
use Rattle.txn_words.proofs.plain.go_back.Given as goal

-- the writes from this place on are taken back
abbrev pub invariant-loop-place : goal.invariant-loop-place
invariant-loop-place g l =
    let first = l.initial.plain in let now = l.plain in record {
      to : l.to ≤ l.place;
      place : l.place ≤ count_writes first.trace;
      same : now ≡ record first { trace = now.trace };
      fits : Fits (g.S.Shape.word_count now.shape) (g.S.Shape.good now.shape) now.trace now.origin;
      back : GoneBack (g.S.Shape.word_count first.shape) (g.S.Shape.good first.shape) l.place first.trace now.trace;
    }

abbrev pub decreases-loop-place : goal.decreases-loop-place
decreases-loop-place g l = l.place
