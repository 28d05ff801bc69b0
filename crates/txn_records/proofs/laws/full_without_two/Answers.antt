use Rattle.txn_records.proofs.Whole.{full_without_two}
use Rattle.txn_records.proofs.laws.full_without_two.Goals as goal

pub returns : goal.returns
returns c = full_without_two
