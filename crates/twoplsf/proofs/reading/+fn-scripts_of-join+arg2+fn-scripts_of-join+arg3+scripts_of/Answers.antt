use Rattle.twoplsf.proofs.Common.{sym, subst, IfSome}
use Rattle.script_reader.specs.Pieces.{AreScripts}
use Rattle.script_reader.proofs.books.Texts.Piecing.{both_pieces}
use Rattle.twoplsf.proofs.reading.+fn-scripts_of-join+arg2+fn-scripts_of-join+arg3+scripts_of.Goals as goal

pub returns : goal.returns
returns g t c =
    let v = c.args.version in
    let b = c.args.books.now in
    let first = subst (λ o. IfSome o (λ s. AreScripts v b c.cut.result.0.now s.items)) c.in_ok-scripts.was c.join-first.ensures.first in
    let second = subst (λ o. IfSome o (λ s. AreScripts v b c.cut.result.1.now s.items)) c.in_ok-behind.was c.join-first.ensures.second in
    subst (AreScripts v b c.args.piece.now) (sym c.in-Ok.ensures.items)
    (both_pieces v b c.args.piece.now c.cut.result.0.now c.cut.result.1.now c.in_ok-scripts.scripts.items c.in_ok-behind.behind.items
    first second c.cut.ensures.whole)
