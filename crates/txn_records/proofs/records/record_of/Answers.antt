use Rattle.txn_records.proofs.Common.{ℕ, Option, Some, sym, ap, ◌∙◌, rules, goes_then, goes_as, looked, look_then, tells}
use Rattle.txn_records.proofs.Held.{no_record, record_is}
use Rattle.txn_records.proofs.records.record_of.Goals as goal

abbrev stored : ℕ → ℕ → Option (ℕ × ℕ)
stored rank content = Some (rank, content)

pub returns : goal.returns
returns g c =
    let first = c.in_ok-rank.ensures.goes_on in
    let second = c.in_ok-data_at.ensures.goes_on in
    record {
      told =
          tells (look_then second.shape second.begins
          (looked first.shape first.begins (rw c.in-Some.is at c.in_ok-rank.ensures.told)) c.in_ok-data_at.ensures.told)
          (λ records k. ap (stored c.in-Some.rank) c.unwrap_or-content.ensures ∙ record_is _ c.in-Some.rank c.in_ok-data_at.field-0 k.0 k.1);
      stands = c.in_ok-data_at.ensures.stands;
      goes_on = goes_as (goes_then first second) (search rules);
    }

pub returns-in_default : goal.returns-in_default
returns-in_default g c =
    let first = c.in_ok-rank.ensures.goes_on in
    record {
      told = tells (looked first.shape first.begins (rw c.in_default.is at c.in_ok-rank.ensures.told)) (λ records k. sym (no_record _ (sym k)));
      stands = c.in_ok-rank.ensures.stands;
      goes_on = goes_as first (search rules);
    }

pub returns-in_err-rank-clause-goes_on : goal.returns-in_err-rank-clause-goes_on
returns-in_err-rank-clause-goes_on g c = goes_as c.in_err-rank.ensures.goes_on (search rules)

pub returns-in_err-data_at-clause-goes_on : goal.returns-in_err-data_at-clause-goes_on
returns-in_err-data_at-clause-goes_on g c = goes_as (goes_then c.in_ok-rank.ensures.goes_on c.in_err-data_at.ensures.goes_on) (search rules)
