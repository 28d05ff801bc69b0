use Rattle.order_text.proofs.Rooms.{empty_has_room}
use Rattle.order_text.proofs.book.Book.new.Goals as goal

pub invariant_of-result : goal.invariant_of-result
invariant_of-result c = rw c.new.ensures.items (empty_has_room c.args.blocks c.requires)
