-- What maps from keys to values on blocks have in common, over the relation that says which map a word list holds.
-- Of each used block, word 0 has a key and word 1 its value; how the blocks hang together is the map's own affair.
use Rattle.std.specs.Prelude.{◌≡◌, ℕ, ◌+◌, ◌≤◌, ◌⊎◌, Bool, true, false, ◌&&◌, nat_le, List, [], ◌∷◌, Option, Some, None, slice_get, if◌then◌else◌, ◌==◌, sum_by}
use Rattle.std.specs.Ordering.{nat_cmp}
use Rattle.std.specs.FinSet as set
use Rattle.std.specs.FinMap as entry_map
use Rattle.txn_alloc.specs.declared.arena.Arena.{Arena}
use Rattle.txn_alloc.specs.declared.put.Put.{Put}
use Rattle.txn_alloc.specs.declared.put.Put.TheVariants.{New, Old, Full}
use Rattle.txn_alloc.specs.FreeLists.{block_at, IsHead, IsInBlock, IsHeadFor, IsHeadTo, IsNearest, FreeListsHold}

-- an entry, and the block that holds it
pub record Cell : Type 0 where
  pub block : ℕ
  pub key : ℕ
  pub value : ℕ

-- the entries, as a finite map
abbrev pub Entries : Type 0
Entries = entry_map.FinMap nat_cmp ℕ

-- a set of blocks
abbrev pub Blocks : Type 0
Blocks = set.FinSet nat_cmp

-- what cells say of a key: the value of the first that has it
abbrev pub value_of : ℕ → List Cell → Option ℕ
value_of key [] = None
value_of key (c ∷ cs) = if c.key == key then Some c.value else value_of key cs

-- no two cells have the same key
abbrev pub HasKeysOnce : List Cell → Type 0
HasKeysOnce [] = Unit {0}
HasKeysOnce (c ∷ cs) = (value_of c.key cs ≡ None) × HasKeysOnce cs

-- whether one of the cells is in block b
abbrev pub has_block : ℕ → List Cell → Bool
has_block b [] = false
has_block b (c ∷ cs) = if c.block == b then true else has_block b cs

-- the sum of the values of the keys from low to high
abbrev pub sum_between : ℕ → ℕ → Entries → ℕ
sum_between low high entries =
    sum_by (λ e. if nat_le low e.0 && nat_le e.0 high then e.1 else 0) (entry_map.entries entries)

-- a map's part of the words: its arena; which words hold which entries, in which blocks; the map's own words outside blocks
-- that a call for a key goes through; and the words of a block that name other blocks
pub record Part : Type 1 where
  pub arena : Arena
  pub Holds : List ℕ → Entries → Blocks → Type 0
  pub IsRoot : ℕ → ℕ → Type 0
  pub IsName : ℕ → ℕ → Type 0

module _ (part : Part) where
  -- some entries are held
  pub record HasMap (words : List ℕ) : Type 0 where
    pub entries : Entries
    pub used : Blocks
    pub holds : part.Holds words entries used

  -- the map and the free lists of the arena hold, and no block is both used and free
  pub record HoldsApart (words : List ℕ) (entries : Entries) (used free : Blocks) : Type 0 where
    pub map : part.Holds words entries used
    pub free_lists : FreeListsHold part.arena words free
    pub apart : (b : ℕ) → set.contains used b ≡ true → set.contains free b ≡ false

  -- some entries are held, and some blocks are free
  pub record HasMapApart (words : List ℕ) : Type 0 where
    pub entries : Entries
    pub used : Blocks
    pub free : Blocks
    pub holds : HoldsApart words entries used free

  -- from state to state: nothing changes, and the answer is what the entries have at the key
  pub record Finds (key : ℕ) (answer : Option ℕ) (old new : List ℕ) : Type 0 where
    pub same : new ≡ old
    pub found : (entries : Entries) (used : Blocks) → part.Holds old entries used → answer ≡ entry_map.get entries key

  -- a block is used by the map
  abbrev pub IsUsedIn : List ℕ → ℕ → Type 0
  IsUsedIn words b =
      (entries : Entries) × (used : Blocks) × part.Holds words entries used × (set.contains used b ≡ true)

  -- a block is used in one of two states and not in the other: it was taken or given back between them
  abbrev pub IsMoved : List ℕ → List ℕ → ℕ → Type 0
  IsMoved before after b = (IsUsedIn before b × ¬ IsUsedIn after b) ⊎ (IsUsedIn after b × ¬ IsUsedIn before b)

  -- a is the word of the key of block b, or of the name of another block, or of its value if it has one of these keys
  abbrev pub IsSeenIn : (ℕ → Type 0) → List ℕ → ℕ → ℕ → Type 0
  IsSeenIn IsKey words b a =
      (a ≡ block_at part.arena b)
      ⊎ (part.IsName b a
      ⊎ ((a ≡ block_at part.arena b + 1)
      × ((key : ℕ) × IsKey key × (slice_get words (block_at part.arena b) ≡ Some key))))

  -- what a search from a key on that asks for the values of these keys may read: the map's own words, of its own blocks alone
  abbrev pub IsSeen : ℕ → (ℕ → Type 0) → List ℕ → ℕ → Type 0
  IsSeen first IsKey words a = part.IsRoot first a ⊎ ((b : ℕ) × IsUsedIn words b × IsSeenIn IsKey words b a)

  -- what a look for this key may read
  abbrev pub MayRead : ℕ → List ℕ → List ℕ → ℕ → Type 0
  MayRead key before after a = IsSeen key (λ k. k ≡ key) before a

  -- what a look for the keys from low to high may read
  abbrev pub MayReadRange : ℕ → ℕ → List ℕ → List ℕ → ℕ → Type 0
  MayReadRange low high before after a = IsSeen low (λ k. (low ≤ k) × (k ≤ high)) before a

  -- what an insert may read, by its answer: if a block was taken, the heads from that of the key round to its own, and its
  -- words, too; if none was free, the heads too
  abbrev pub MayReadToInsert : ℕ → Put → List ℕ → List ℕ → ℕ → Type 0
  MayReadToInsert key New before after a =
      MayRead key before after a
      ⊎ ((b : ℕ) × IsMoved before after b × (IsHeadTo part.arena key b a ⊎ IsInBlock part.arena b a))
  MayReadToInsert key (Old was) before after a = MayRead key before after a
  MayReadToInsert key Full before after a = MayRead key before after a ⊎ IsHead part.arena a

  -- from state to state: each block that is used now and was not is the one that a take near the key gives
  abbrev pub TakesNearest : ℕ → List ℕ → List ℕ → Type 0
  TakesNearest key before after = (b : ℕ) → IsUsedIn after b → ¬ IsUsedIn before b → IsNearest part.arena key b before

  -- what a removal may read, by its answer: if a block was given back, its head too
  abbrev pub MayReadToRemove : ℕ → Option ℕ → List ℕ → List ℕ → ℕ → Type 0
  MayReadToRemove key None before after a = MayRead key before after a
  MayReadToRemove key (Some was) before after a =
      MayRead key before after a ⊎ ((b : ℕ) × IsMoved before after b × IsHeadFor part.arena b a)

  -- a is the word of the key's value, in a block that the map uses before
  abbrev pub IsValue : ℕ → List ℕ → List ℕ → ℕ → Type 0
  IsValue key before after a =
      (b : ℕ) × IsUsedIn before b × (slice_get before (block_at part.arena b) ≡ Some key)
      × (a ≡ block_at part.arena b + 1)

  -- what a call for the key may write: the map's own words outside blocks, its blocks before and after, and the head for a block
  -- that was taken or given back
  abbrev pub IsOwn : ℕ → List ℕ → List ℕ → ℕ → Type 0
  IsOwn key before after a =
      part.IsRoot key a
      ⊎ (((b : ℕ) × (IsUsedIn before b ⊎ IsUsedIn after b) × IsInBlock part.arena b a)
      ⊎ ((b : ℕ) × IsMoved before after b × IsHeadFor part.arena b a))

  -- the key was absent, and is there with the value, in a block that was free
  pub record InsertsNew (key value : ℕ) (new : List ℕ) (entries : Entries) (used free : Blocks) : Type 0 where
    pub absent : entry_map.get entries key ≡ None
    pub block : ℕ
    pub was_free : set.contains free block ≡ true
    pub left : HoldsApart new (entry_map.insert entries key value) (set.insert used block) (set.remove free block)

  -- the key was there with a value, and is there with another, in the same blocks
  pub record InsertsOld (key value was : ℕ) (new : List ℕ) (entries : Entries) (used free : Blocks) : Type 0 where
    pub present : entry_map.get entries key ≡ Some was
    pub left : HoldsApart new (entry_map.insert entries key value) used free

  -- from state to state: the key has the value, or there was no room for it, and then nothing changes
  abbrev pub Inserts : ℕ → ℕ → Put → List ℕ → List ℕ → Type 0
  Inserts key value New old new = (entries : Entries) (used free : Blocks) → HoldsApart old entries used free
      → InsertsNew key value new entries used free
  Inserts key value (Old was) old new = (entries : Entries) (used free : Blocks) → HoldsApart old entries used free
      → InsertsOld key value was new entries used free
  Inserts key value Full old new = new ≡ old

  -- the key is absent, and no block is free
  abbrev pub LacksRoom : ℕ → List ℕ → Type 0
  LacksRoom key words = (entries : Entries) (used free : Blocks) → HoldsApart words entries used free
      → (entry_map.get entries key ≡ None) × (free ≡ set.empty)

  -- the key was there with a value, and is there no more; its block is free
  pub record RemovesOne (key was : ℕ) (new : List ℕ) (entries : Entries) (used free : Blocks) : Type 0 where
    pub present : entry_map.get entries key ≡ Some was
    pub block : ℕ
    pub was_used : set.contains used block ≡ true
    pub left : HoldsApart new (entry_map.remove entries key) (set.remove used block) (set.insert free block)

  -- from state to state: the key is there no more, or was absent, and then nothing changes
  abbrev pub Removes : ℕ → Option ℕ → List ℕ → List ℕ → Type 0
  Removes key None old new = Finds key None old new
  Removes key (Some was) old new = (entries : Entries) (used free : Blocks) → HoldsApart old entries used free
      → RemovesOne key was new entries used free

  -- from state to state: nothing changes, and the total is the sum of the values of the keys from low to high
  pub record SumsRange (low high total : ℕ) (old new : List ℕ) : Type 0 where
    pub same : new ≡ old
    pub sum : (entries : Entries) (used : Blocks) → part.Holds old entries used → total ≡ sum_between low high entries
