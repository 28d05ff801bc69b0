use Rattle.order_rebuild.proofs.Common.{◌+◌, ◌-◌, vec_len}
use Rattle.order_rebuild.proofs.readers.count_reader.Given as goal

abbrev pub decreases-grow : goal.decreases-grow
decreases-grow l = (l.version + 1) - vec_len l.row
