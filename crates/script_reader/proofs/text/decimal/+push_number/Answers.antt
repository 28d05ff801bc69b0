use Rattle.script_reader.proofs.Common.{◌≡◌, ◌++◌, ◌/◌, ap, ◌∙◌, arith, IfOk-weaker, string_bytes, number}
use Rattle.script_reader.proofs.text.Tokens.Decimals.{two_more}
use Rattle.script_reader.proofs.text.decimal.+push_number.Goals.{then-most-lt100+in_ok-push_short, else-most-lt100+in_ok-push_number+in_ok-push_pair}
use Rattle.script_reader.proofs.text.decimal.+push_number.Goals as goal

pub returns : goal.returns
returns t c =
    let before = string_bytes c.args.text.now in
    let most : string_bytes c.if-most-lt100.text ≡ before ++ number (c.args.value / 100) =
    elim c.if-most-lt100.branch [
      | then-most-lt100+in_ok-push_short w ↦ ap string_bytes w.text-is ∙ w.in_ok-push_short.ensures
      | else-most-lt100+in_ok-push_number+in_ok-push_pair w ↦
          ap string_bytes w.text-is
          ∙ two_more before
          w.if-most-lt100.false (omega (arith, c.ranges.value.fits)) w.in_ok-push_number.ensures w.in_ok-push_pair.ensures
    ] in
    IfOk-weaker c.push_pair-2.result _ _
    (λ _ h. two_more before
    c.if-value-lt100.false (omega (arith, c.ranges.value.fits)) most h)
    c.push_pair-2.ensures
