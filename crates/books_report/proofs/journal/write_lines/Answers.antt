use Rattle.books_report.proofs.Common.{◌≡◌, ◌∷◌, length, List, Bor, All, ap, subst, arith, zip_first, zip_second, iter_rest, string_bytes, All-drop, IsPlace}
use Rattle.books_report.proofs.Common.{Reply, Line, lent, place_of_line}
use Rattle.books_report.proofs.Outputs.Journals.{line_next}
use Rattle.books_report.proofs.journal.write_lines.Goals as goal

pub loop-line-preserved : goal.loop-line-preserved
loop-line-preserved c =
    let lines = iter_rest (zip_first c.loop-line.line-iterator) in
    let left = iter_rest (zip_first c.next.new.self) in
    let replies = iter_rest (zip_second c.loop-line.line-iterator) in
    let others = iter_rest (zip_second c.next.new.self) in
    let next : lines ≡ c.in-Some.line.now ∷ left = c.in-Some.ensures.steps.0 in
    let answered : replies ≡ c.in-Some.reply.now ∷ others = c.in-Some.ensures.steps.1 in
    record {
      left = omega (arith, c.loop-line.invariant.left, ap (λ (ls : List Line). length ls) next);
      beside = omega (arith, c.loop-line.invariant.beside, ap (λ (ls : List Line). length ls) next, ap (λ (rs : List (Bor Reply)). length rs) answered);
      places = All-drop (λ l. IsPlace c.args.input.now (place_of_line l)) 1 (c.in-Some.line.now ∷ left)
          (subst (λ ls. All (λ l. IsPlace c.args.input.now (place_of_line l)) ls) next c.loop-line.invariant.places);
      text = line_next c.args.input.now (string_bytes c.loop-line.text) c.loop-line.serial
          c.loop-line.invariant.text next (ap lent answered)
          c.name-name.ensures c.in_ok-write_line.ensures;
    }
