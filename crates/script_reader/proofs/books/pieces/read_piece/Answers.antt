use Rattle.script_reader.proofs.Common.{◌++◌, All, sym, ap, subst, ◌∙◌, flat_map, All-push, submission_lines, CanStand}
use Rattle.script_reader.proofs.books.Texts.Piecing.{one_more_submission, submission_shorter}
use Rattle.script_reader.proofs.books.pieces.read_piece.Goals as goal

pub loop-lines-preserved : goal.loop-lines-preserved
loop-lines-preserved c =
    let v = c.loop-lines.invariant in
    let more = sym c.in-Ok-push.ensures.items in
    record {
      text = one_more_submission c.submitted_of.new.lines c.loop-lines.scripts.items c.in-Ok.submitted
          v.text c.in-Ok.ensures.text ∙ ap (λ l. flat_map submission_lines l ++ c.submitted_of.new.lines) more;
      each = subst (All (CanStand c.args.version c.args.books.now)) more
          (All-push (CanStand c.args.version c.args.books.now) c.loop-lines.scripts.items c.in-Ok.submitted v.each c.in-Ok.ensures.stands);
    }

pub loop-lines-smaller : goal.loop-lines-smaller
loop-lines-smaller c = submission_shorter c.submitted_of.new.lines c.in-Ok.submitted c.in-Ok.ensures.text
