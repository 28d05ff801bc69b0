-- What contracts cite of the queue. Declares nothing.
pub use Rattle.txn_ring.specs.Queues.{HasCount, IsEmpty, IsFull, IsInOrder, IsLaidOut, Pops, Pushes, QueueHolds}
