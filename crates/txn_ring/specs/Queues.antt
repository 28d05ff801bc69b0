-- The queue that lies on a ring, as the list of its items, front first.
-- Only `QueueHolds` knows how the items go round; all else speaks of the list.
use Rattle.std.specs.Prelude.{◌≡◌, ℕ, ◌+◌, ◌*◌, ◌%◌, ◌^◌, ◌<◌, ◌≤◌, Bool, true, false, List, [], ◌∷◌, ◌++◌, Option, Some, None, length, slice_get}
use Rattle.txn_ring.specs.declared.ring.Ring.{Ring}

-- the first word of place p
abbrev pub place_at : Ring → ℕ → ℕ
place_at ring p = ring.at + 2 + 2 * p

-- a is one of the ring's words
pub record IsOwn (ring : Ring) (a : ℕ) : Type 0 where
  pub low : ring.at ≤ a
  pub high : a < ring.at + 2 + 2 * ring.capacity

-- all of the ring's words are words of the list; a place has 64 bits
pub record IsLaidOut (ring : Ring) (words : List ℕ) : Type 0 where
  pub places : length words ≤ 2 ^ 64
  pub whole : ring.at + 2 + 2 * ring.capacity ≤ length words

-- the two words of place p are this item
pub record HasItem (ring : Ring) (words : List ℕ) (p : ℕ) (item : ℕ × ℕ) : Type 0 where
  pub first : slice_get words (place_at ring p) ≡ Some item.0
  pub second : slice_get words (place_at ring p + 1) ≡ Some item.1

-- the queue is these items: from the front's place on they stand one after another, and after the last place comes the first
pub record QueueHolds (ring : Ring) (words : List ℕ) (items : List (ℕ × ℕ)) : Type 0 where
  pub laid_out : IsLaidOut ring words
  pub front : ℕ
  pub below : front < ring.capacity
  pub front_word : slice_get words ring.at ≡ Some front
  pub room : length items ≤ ring.capacity
  pub count_word : slice_get words (ring.at + 1) ≡ Some (length items)
  pub stands : (i : ℕ) (item : ℕ × ℕ) → slice_get items i ≡ Some item
      → HasItem ring words ((front + i) % ring.capacity) item

-- the ring holds some queue
abbrev pub IsInOrder : Ring → List ℕ → Type 0
IsInOrder ring words = (items : List (ℕ × ℕ)) × QueueHolds ring words items

-- the queue holds as many items as there are places
abbrev pub IsFull : Ring → List ℕ → Type 0
IsFull ring words = (items : List (ℕ × ℕ)) × QueueHolds ring words items × (length items ≡ ring.capacity)

-- the queue holds no item
abbrev pub IsEmpty : Ring → List ℕ → Type 0
IsEmpty ring words = QueueHolds ring words []

-- the queue holds n items
abbrev pub HasCount : Ring → ℕ → List ℕ → Type 0
HasCount ring n words = (items : List (ℕ × ℕ)) → QueueHolds ring words items → length items ≡ n

-- from state to state: the item comes behind the others, or is refused, and then nothing changes
abbrev pub Pushes : Ring → ℕ × ℕ → Bool → List ℕ → List ℕ → Type 0
Pushes ring item true old new =
    (items : List (ℕ × ℕ)) → QueueHolds ring old items → QueueHolds ring new (items ++ item ∷ [])
Pushes ring item false old new = new ≡ old

-- the item was the first, and the queue is the others
pub record TakesFront (ring : Ring) (item : ℕ × ℕ) (new : List ℕ) (items : List (ℕ × ℕ)) : Type 0 where
  pub rest : List (ℕ × ℕ)
  pub is_first : items ≡ item ∷ rest
  pub left : QueueHolds ring new rest

-- from state to state: the first item is taken, or none, and then nothing changes
abbrev pub Pops : Ring → Option (ℕ × ℕ) → List ℕ → List ℕ → Type 0
Pops ring None old new = new ≡ old
Pops ring (Some item) old new = (items : List (ℕ × ℕ)) → QueueHolds ring old items → TakesFront ring item new items
