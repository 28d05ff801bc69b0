use Rattle.record_text.proofs.Kept.{room_after}
use Rattle.record_text.proofs.laws.room_is_kept.Goals as goal

pub returns : goal.returns
returns c = room_after
