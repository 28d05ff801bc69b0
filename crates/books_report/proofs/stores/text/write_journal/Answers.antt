use Rattle.books_report.proofs.Common.{◌≡◌, ◌∷◌, length, List, All, ap, subst, arith, zip_first, zip_second, iter_rest, string_bytes, All-drop, Line}
use Rattle.books_report.proofs.Common.{place_of_line, lent, IsPlaceOf}
use Rattle.books_report.proofs.AnyStore.Printing.{line_next}
use Rattle.books_report.proofs.stores.text.write_journal.Goals as goal

pub loop-line-preserved : goal.loop-line-preserved
loop-line-preserved g c =
    let lines = iter_rest (zip_first c.loop-line.line-iterator) in
    let left = iter_rest (zip_first c.next.new.self) in
    let replies = iter_rest (zip_second c.loop-line.line-iterator) in
    let others = iter_rest (zip_second c.next.new.self) in
    let next : lines ≡ c.in-Some.line.now ∷ left = c.in-Some.ensures.steps.0 in
    let answered : replies ≡ c.in-Some.reply.now ∷ others = c.in-Some.ensures.steps.1 in
    record {
      left = omega (arith, c.loop-line.invariant.left, ap (λ (ls : List Line). length ls) next);
      beside = omega (arith, c.loop-line.invariant.beside, ap (λ (ls : List Line). length ls) next, ap (λ rs. length rs) answered);
      places = All-drop (λ l. IsPlaceOf c.args.callers.now (place_of_line l)) 1 (c.in-Some.line.now ∷ left)
          (subst (λ ls. All (λ l. IsPlaceOf c.args.callers.now (place_of_line l)) ls) next c.loop-line.invariant.places);
      text = line_next g.V.ToldValue.word c.args.callers.now (string_bytes c.loop-line.text) c.loop-line.serial
          c.loop-line.invariant.text next (ap lent answered)
          c.name-name.ensures c.in_ok-write_line.ensures;
    }
