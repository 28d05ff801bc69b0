use Rattle.twoplsf.proofs.Common.{◌-◌, ◌++◌, ℕ, List, length, take, sym, ap, ◌∙◌, Err, inl, IfOk-weaker, IsFrontFault, ClearingInput, Spells, AreTwoTexts}
use Rattle.twoplsf.proofs.Common.{IsComparisonOf}
use Rattle.std.proofs.Common.{drop, take-append-drop}
use Rattle.std.proofs.lemmas.List.{take_rest}
use Rattle.twoplsf.proofs.Serving.{refusing}
use Rattle.twoplsf.proofs.Served.{no_front}
use Rattle.twoplsf.proofs.check.check_answer.Goals as goal

-- what is read of bytes, and the rest of them
two_texts : (bytes : List ℕ) (input : ClearingInput) (end : ℕ) → Spells (take end bytes) input
    → AreTwoTexts bytes input (take (length bytes - end) (drop end bytes))
two_texts bytes input end spelled = record {
  front = take end bytes;
  spelled = spelled;
  bytes_are = sym (take-append-drop end bytes) ∙ ap (λ l. take end bytes ++ l) (sym (take_rest bytes end));
}

pub returns : goal.returns
returns c =
    let bytes = c.args.bytes.now in let input = c.in-Ok.front.0 in let end = c.in-Ok.front.1 in
    IfOk-weaker c.compare.result _ _
    (λ answer said. inl ((input, take (length bytes - end) (drop end bytes)), two_texts bytes input end c.in-Ok.ensures.ok.1, said)) c.compare.ensures

pub returns-in-Err-Line : goal.returns-in-Err-Line
returns-in-Err-Line c =
    let line = c.in-Err-Line.line in let why = c.in-Err-Line.why in let bytes = c.args.bytes.now in
    let first = c.read_front.ensures.refused line why (c.in-Err-Line.is ∙ ap Err c.in-Err-Line.field-0-is) in
    IfOk-weaker c.refusal.result _ _
    (refusing (λ (bytes : List ℕ) (two : ClearingInput × List ℕ). AreTwoTexts bytes two.0 two.1) IsFrontFault IsComparisonOf bytes line why first
    (no_front bytes line why first)) c.refusal.ensures
