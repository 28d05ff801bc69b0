-- A change of one part leaves the others.
use Rattle.txn_books.proofs.Common.{◌≡◌, ◌≢◌, ℕ, ◌+◌, ◌<◌, ◌⊎◌, true, List, [], ◌∷◌, ◌==◌, slice_get, subst, arith, nat_cmp, count_by, ClearingBooks}
use Rattle.txn_books.proofs.Common.{position_cmp, KeepsOthers, IsHead, IsInBlock, FreeListsHold, Entries, Blocks, IsOwn, times_among, times_of, two_among}
use Rattle.txn_books.proofs.Common.{three_among, TreeHolds, tree_part, tree_stands, IsBucket, ChainsHold, chain_part, chains_stand, QueueHolds, queue_stands}
use Rattle.txn_books.proofs.Common.{BooksShape, shape_of, arena_of, tree_of, chains_of, queue_of, chained, HasParts}
use Rattle.txn_hash_map.proofs.Common.{free_kept}
use Rattle.txn_alloc.proofs.Apart.{other_out, not_own}
use Rattle.txn_tree_map.proofs.Searches.Gets.{used_below}
use Rattle.txn_hash_map.proofs.Steps.{uses_below}
use Rattle.txn_hash_map.proofs.Fronts.{bucket_is}
use Rattle.txn_books.proofs.OneState.Apart.{bucket_apart, ring_apart, block_apart, head_apart, root_apart}
use Rattle.std.specs.FinSet as set
use Rattle.std.specs.FinMap as entry_map
use Rattle.txn_tree_map.proofs.Inserts.InsertCalls as trees
use Rattle.txn_hash_map.proofs.Inserts as chains
use Rattle.txn_ring.specs.Queues as ring

-- the blocks of a part are the arena's
pub tree_below : {words : List ℕ} {books : ClearingBooks} {in_hand : List ℕ} (parts : HasParts words books in_hand)
    (d : ℕ) → set.contains parts.tree_used d ≡ true → d < books.blocks
tree_below {words} {books} parts d k = used_below (tree_of (shape_of books)) words books.accounts parts.tree_used d parts.accounts k

pub chain_below : {words : List ℕ} {books : ClearingBooks} {in_hand : List ℕ} (parts : HasParts words books in_hand)
    (d : ℕ) → set.contains parts.chain_used d ≡ true → d < books.blocks
chain_below {words} {books} parts d k = uses_below (chains_of (shape_of books)) 0 words d (chained books, parts.chain_used, parts.chains, k)

module _ (old new : List ℕ) (books : ClearingBooks) (in_hand : List ℕ) (parts : HasParts old books in_hand) where
  abbrev shape : BooksShape
  shape = shape_of books

  pub at_once : (d : ℕ) → d < books.blocks → times_of parts.tree_used d + times_of parts.chain_used d
      + times_of parts.free d + count_by (λ c. c == d) in_hand ≡ 1
  at_once d lt = let one = parts.parted d lt in let three = three_among d parts.tree_used parts.chain_used parts.free in omega (arith, one, three)

  -- a block is a part's or free as many times as before
  counts : (mine after free : Blocks) → ((b : ℕ) → times_among b (after ∷ free ∷ []) ≡ times_among b (mine ∷ parts.free ∷ []))
      → (b : ℕ) → times_of after b + times_of free b ≡ times_of mine b + times_of parts.free b
  counts mine after free as_many b = let same = as_many b in omega (arith, same, two_among b after free, two_among b mine parts.free)

  -- a change of the tree
  module _ (accounts : Entries) (after free : Blocks) (key : ℕ)
      (tree : TreeHolds (tree_of shape) new accounts after) (lists : FreeListsHold (arena_of shape) new free)
      (as_many : (b : ℕ) → times_among b (after ∷ free ∷ []) ≡ times_among b (parts.tree_used ∷ parts.free ∷ []))
      (kept : KeepsOthers (IsOwn (tree_part (tree_of shape)) key old new) old new) where
    -- no block of the chains is the tree's, before or after
    chain_out : (d a e : ℕ) → set.contains parts.chain_used d ≡ true → IsInBlock (arena_of shape) d a
        → (set.contains parts.tree_used e ≡ true) ⊎ (set.contains after e ≡ true) → ¬ IsInBlock (arena_of shape) e a
    chain_out d a e k mine =
        let once = at_once d (chain_below parts d k) in
        other_out (arena_of shape) parts.chain_used parts.tree_used parts.free after free d a e k (omega (arith, once))
        (counts parts.tree_used after free as_many d) mine

    stays : (a : ℕ) → a ≢ (tree_of shape).root → ¬ IsHead (arena_of shape) a
        → ((d : ℕ) → (set.contains parts.tree_used d ≡ true) ⊎ (set.contains after d ≡ true) → ¬ IsInBlock (arena_of shape) d a)
        → slice_get new a ≡ slice_get old a
    stays a root head out = kept.same a
        (not_own (tree_part (tree_of shape)) (trees.is_one (tree_of shape)) key old new
        books.accounts accounts parts.tree_used after parts.accounts tree a root head out)

    pub tree_change : HasParts new (record books { accounts = accounts }) in_hand
    tree_change = record {
      tree_used = after;
      chain_used = parts.chain_used;
      free = free;
      accounts = tree;
      chains = chains_stand (chains_of shape) old new (chained books) parts.chain_used parts.chains kept.count
          (λ a bucket. let k = bucket_apart shape a bucket in stays a k.0 k.1 (λ d uses. k.2 d))
          (λ d a m mine. let k = block_apart shape d a mine in stays a k.0 k.1 (λ e uses. chain_out d a e m mine uses));
      queue = queue_stands (queue_of shape) old new books.calls parts.queue kept.count (λ a own. let k =
          ring_apart shape a own in stays a k.0 k.1 (λ d uses. k.3 d));
      free_lists = lists;
      hand_below = parts.hand_below;
      parted = λ b lt.
          let once = at_once b lt in
          let many = counts parts.tree_used after free as_many b in
          omega (arith, once, many, three_among b after parts.chain_used free);
    }

  -- a change of the chains
  module _ (entries : Entries) (after free : Blocks) (key : ℕ)
      (held : ChainsHold (chains_of shape) new entries after)
      (as_many : (b : ℕ) → times_among b (after ∷ free ∷ []) ≡ times_among b (parts.chain_used ∷ parts.free ∷ []))
      (kept : KeepsOthers (IsOwn (chain_part (chains_of shape)) key old new) old new) where
    -- no block of the tree is the chains', before or after
    tree_out : (d a e : ℕ) → set.contains parts.tree_used d ≡ true → IsInBlock (arena_of shape) d a
        → (set.contains parts.chain_used e ≡ true) ⊎ (set.contains after e ≡ true) → ¬ IsInBlock (arena_of shape) e a
    tree_out d a e k mine =
        let once = at_once d (tree_below parts d k) in
        other_out (arena_of shape) parts.tree_used parts.chain_used parts.free after free d a e k (omega (arith, once))
        (counts parts.chain_used after free as_many d) mine

    stay : (a : ℕ) → ¬ IsBucket (chains_of shape) a → ¬ IsHead (arena_of shape) a
        → ((d : ℕ) → (set.contains parts.chain_used d ≡ true) ⊎ (set.contains after d ≡ true) → ¬ IsInBlock (arena_of shape) d a)
        → slice_get new a ≡ slice_get old a
    stay a bucket head out = kept.same a
        (not_own (chain_part (chains_of shape)) (chains.is_one (chains_of shape)) key old new
        (chained books) entries parts.chain_used after parts.chains held a
        (λ e. bucket (bucket_is (chains_of shape) key a e)) head out)

    -- the words of the tree's blocks stay, and so does the tree
    pub tree_block_stays : (d a : ℕ) → set.contains parts.tree_used d ≡ true → IsInBlock (arena_of shape) d a
        → slice_get new a ≡ slice_get old a
    tree_block_stays d a m mine = let w = block_apart shape d a mine in stay a w.2 w.1 (λ e uses. tree_out d a e m mine uses)

    pub tree_stays : TreeHolds (tree_of shape) new books.accounts parts.tree_used
    tree_stays =
        let k = root_apart shape in
        tree_stands (tree_of shape) old new books.accounts parts.tree_used parts.accounts kept.count
        (stay (tree_of shape).root k.1 k.0 (λ d uses. k.3 d)) tree_block_stays

    pub chain_change : (positions : entry_map.FinMap position_cmp ℕ) (prices : entry_map.FinMap nat_cmp ℕ)
        → entries ≡ chained (record books { positions = positions; prices = prices })
        → FreeListsHold (arena_of shape) new free
        → HasParts new (record books { positions = positions; prices = prices }) in_hand
    chain_change positions prices is lists = record {
      tree_used = parts.tree_used;
      chain_used = after;
      free = free;
      accounts = tree_stays;
      chains = subst (λ f. ChainsHold (chains_of shape) new f after) is held;
      queue = queue_stands (queue_of shape) old new books.calls parts.queue kept.count (λ a own. let k =
          ring_apart shape a own in stay a k.2 k.1 (λ d uses. k.3 d));
      free_lists = lists;
      hand_below = parts.hand_below;
      parted = λ b lt.
          let once = at_once b lt in
          let many = counts parts.chain_used after free as_many b in
          omega (arith, once, many, three_among b parts.tree_used after free);
    }

  -- a change of the queue
  pub queue_change : (calls : List (ℕ × ℕ)) → QueueHolds (queue_of shape) new calls
      → KeepsOthers (ring.IsOwn (queue_of shape)) old new → HasParts new (record books { calls = calls }) in_hand
  queue_change calls held kept = record {
    tree_used = parts.tree_used;
    chain_used = parts.chain_used;
    free = parts.free;
    accounts = tree_stands (tree_of shape) old new books.accounts parts.tree_used parts.accounts kept.count
        (kept.same (tree_of shape).root (root_apart shape).2)
        (λ d a m mine. kept.same a (block_apart shape d a mine).3);
    chains = chains_stand (chains_of shape) old new (chained books) parts.chain_used parts.chains kept.count
        (λ a bucket. kept.same a (λ own. (ring_apart shape a own).2 bucket))
        (λ d a m mine. kept.same a (block_apart shape d a mine).3);
    queue = held;
    free_lists = free_kept (arena_of shape) old new parts.free parts.free_lists kept.count
        (λ a head. kept.same a (head_apart shape a head))
        (λ d a m mine. kept.same a (block_apart shape d a mine).3);
    hand_below = parts.hand_below;
    parted = parts.parted;
  }
