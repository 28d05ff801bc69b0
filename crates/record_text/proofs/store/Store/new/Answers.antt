use Rattle.record_text.proofs.Rooms.{empty_has_room}
use Rattle.record_text.proofs.store.Store.new.Goals as goal

pub invariant_of-result : goal.invariant_of-result
invariant_of-result c = rw c.new.ensures.empty (empty_has_room c.args.blocks c.requires)
