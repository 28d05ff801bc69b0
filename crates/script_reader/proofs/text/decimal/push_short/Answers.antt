use Rattle.script_reader.proofs.Common.{IfOk-weaker, string_bytes}
use Rattle.script_reader.proofs.text.Tokens.Decimals.{one_digit, two_digits}
use Rattle.script_reader.proofs.text.decimal.push_short.Goals as goal

pub returns-then-value-lt10 : goal.returns-then-value-lt10
returns-then-value-lt10 c =
    IfOk-weaker c.push_digit.result _ _
    (λ _ h. one_digit (string_bytes c.args.text.now) c.if-value-lt10.true h) c.push_digit.ensures

pub returns-else-value-lt10 : goal.returns-else-value-lt10
returns-else-value-lt10 c =
    IfOk-weaker c.push_pair.result _ _
    (λ _ h. two_digits (string_bytes c.args.text.now)
    c.if-value-lt10.false c.requires h) c.push_pair.ensures
