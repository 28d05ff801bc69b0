use Rattle.twoplsf.proofs.Common.{Ok, ap, inr, ◌∙◌, IfOk-weaker}
use Rattle.twoplsf.proofs.check.compare.Goals as goal

pub returns-in-Differs : goal.returns-in-Differs
returns-in-Differs c =
    let wrong = c.check_text.ensures.differs c.in-Differs.line (c.in_ok-check_text.was ∙ ap Ok c.in-Differs.is) in
    IfOk-weaker c.differs.result _ _ (λ answer line. inr (c.in-Differs.line, wrong, line)) c.differs.ensures
