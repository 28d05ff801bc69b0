use Rattle.std.specs.FinMap as finite
use Rattle.record_text.proofs.Common.{entries_sorted, index_of}
use Rattle.record_text.proofs.Ranked.{printed_by_rank}
use Rattle.record_text.proofs.laws.records_are_printed_by_rank.Goals as goal

pub returns : goal.returns
returns c stored = printed_by_rank (finite.entries (index_of stored)) (entries_sorted (index_of stored))
