use Rattle.books_report.proofs.Common.{◌≡◌, ◌≢◌, ℕ, ◌<◌, length, Option, Some, None, sym, ap, subst, ◌∙◌, rules, IfSome, IfNone, IsUtf8, caller_at}
use Rattle.script_reader.proofs.text.Tokens.Naming.{IsName-text}
use Rattle.books_report.proofs.Outputs.Rows.{caller_named}
use Rattle.books_report.proofs.Order.Histories.{one_caller}
use Rattle.books_report.proofs.check.caller_of.Goals as goal

pub returns-in_default : goal.returns-in_default
returns-in_default c = record {
  within = tt;
  named = λ caller within same.
      absurd (c.in_default.ensures.cases.0
      (subst IsUtf8 (sym same) (IsName-text (caller_at c.args.input.now.callers caller).name (caller_named c.requires.valid within))));
}

pub returns : goal.returns
returns c = record {
  within = search rules;
  named = λ caller within same. by caller within (c.in-Ok.ensures.cases.0 ∙ same) c.caller_named.result
      c.caller_named.ensures.found c.caller_named.ensures.none;
}
  where
    by : (caller : ℕ) → caller < length c.args.input.now.callers → c.in-Ok.name.now ≡ (caller_at c.args.input.now.callers caller).name → (r : Option ℕ)
        → IfSome r (λ d. (d < length c.args.input.now.callers) × ((caller_at c.args.input.now.callers d).name ≡ c.in-Ok.name.now))
        → IfNone r ((d : ℕ) → d < length c.args.input.now.callers → (caller_at c.args.input.now.callers d).name ≢ c.in-Ok.name.now) → r ≡ Some caller
    by caller within same (Some d) found none = ap Some (one_caller c.requires.valid found.0 within (found.1 ∙ same))
    by caller within same None found none = absurd (none caller within (sym same))
