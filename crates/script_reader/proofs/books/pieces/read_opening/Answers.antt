use Rattle.script_reader.proofs.Common.{drop, length, ◌-◌, ◌++◌, sym, ◌∙◌, bytes_eq-Decides, finish_line}
use Rattle.std.proofs.lemmas.List.{take-append-drop}
use Rattle.script_reader.proofs.books.Texts.Piecing.{opened_text}
use Rattle.script_reader.proofs.books.pieces.read_opening.Goals as goal

pub returns : goal.returns
returns c =
    let rest = c.rest.result.now in
    let cases = c.in_ok-scripts.ensures.cases in
    let last = (bytes_eq-Decides (drop (length rest - 7) rest) finish_line).0 cases.0 in
    let ends = sym (take-append-drop (length rest - 7) rest) ∙ (λ i. sym cases.1 i ++ last i) in
    record {
      text = opened_text c.in-Ok.version c.in-Ok.books c.in_ok-scripts.scripts.now
          (sym c.new-lines.ensures ∙ c.in-Ok.ensures.text) (sym c.rest.ensures ∙ ends);
      within = c.in-Ok.ensures.within;
    }
