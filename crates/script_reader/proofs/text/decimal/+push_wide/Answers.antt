use Rattle.script_reader.proofs.Common.{arith, IfOk-weaker, string_bytes}
use Rattle.script_reader.proofs.text.Tokens.Decimals.{two_more}
use Rattle.script_reader.proofs.text.decimal.+push_wide.Goals as goal

pub returns : goal.returns
returns t c =
    IfOk-weaker c.push_pair.result _ _
    (λ _ h. two_more (string_bytes c.args.text.now)
    (omega (arith, c.if-value.false)) c.ranges.value.fits c.in_ok-push_wide.ensures h)
    c.push_pair.ensures
