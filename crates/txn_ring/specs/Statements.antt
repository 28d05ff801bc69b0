-- What the laws of queues say.
use Rattle.std.specs.Prelude.{◌≡◌, ℕ, List, length, slice_get}
use Rattle.txn_ring.specs.declared.ring.Ring.{Ring}
use Rattle.txn_ring.specs.Queues.{IsOwn, QueueHolds}

-- in one word list the queue is one list of items
abbrev pub OneQueue : Type 0
OneQueue =
    (ring : Ring) (words : List ℕ) (items others : List (ℕ × ℕ))
    → QueueHolds ring words items → QueueHolds ring words others → items ≡ others

-- lists of as many words, with the same words in the ring, have the same queue
abbrev pub QueueStands : Type 0
QueueStands =
    (ring : Ring) (old new : List ℕ) (items : List (ℕ × ℕ))
    → QueueHolds ring old items
    → length new ≡ length old
    → ((a : ℕ) → IsOwn ring a → slice_get new a ≡ slice_get old a)
    → QueueHolds ring new items
