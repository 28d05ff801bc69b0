-- The parts of books lie apart, and a block is in one of them alone.
use Rattle.txn_books.proofs.Common.{◌≢◌, ℕ, arith, IsHead, IsInBlock, IsBucket, BooksShape, arena_of, chains_of, queue_of}
use Rattle.txn_books.specs.declared.layout.TheConstants.{ROOT}
use Rattle.txn_ring.specs.Queues as ring

module _ (shape : BooksShape) where
  -- a bucket is not the root, no head and in no block
  pub bucket_apart : (a : ℕ) → IsBucket (chains_of shape) a → (a ≢ ROOT) × (¬ IsHead (arena_of shape) a) × ((d : ℕ) → ¬ IsInBlock (arena_of shape) d a)
  bucket_apart a k = (λ e. omega (arith, k.low, e), λ head. omega (arith, k.low, head.high), λ d mine. omega (arith, k.high, mine.low))

  -- and so with a word of the ring, which is no bucket either
  pub ring_apart : (a : ℕ) → ring.IsOwn (queue_of shape) a → (a ≢ ROOT) × (¬ IsHead (arena_of shape) a)
      × (¬ IsBucket (chains_of shape) a) × ((d : ℕ) → ¬ IsInBlock (arena_of shape) d a)
  ring_apart a k = (
    λ e. omega (arith, k.low, e),
    λ head. omega (arith, k.low, head.high),
    λ bucket. omega (arith, k.low, bucket.high),
    λ d mine. omega (arith, k.high, mine.low),
  )

  -- a block's word is not the root, no head, no bucket and none of the ring's
  pub block_apart : (d a : ℕ) → IsInBlock (arena_of shape) d a → (a ≢ ROOT) × (¬ IsHead (arena_of shape) a)
      × (¬ IsBucket (chains_of shape) a) × (¬ ring.IsOwn (queue_of shape) a)
  block_apart d a mine = (
    λ e. omega (arith, mine.low, e),
    λ head. omega (arith, mine.low, head.high),
    λ bucket. omega (arith, mine.low, bucket.high),
    λ own. omega (arith, mine.low, own.high),
  )

  -- a head is no word of the ring, and neither is the root
  pub head_apart : (a : ℕ) → IsHead (arena_of shape) a → ¬ ring.IsOwn (queue_of shape) a
  head_apart a head own = omega (arith, head.high, own.low)

  pub root_apart : (¬ IsHead (arena_of shape) ROOT) × (¬ IsBucket (chains_of shape) ROOT)
      × (¬ ring.IsOwn (queue_of shape) ROOT) × ((d : ℕ) → ¬ IsInBlock (arena_of shape) d ROOT)
  root_apart = (λ head. omega (arith, head.low), λ bucket. omega (arith, bucket.low), λ own. omega (arith, own.low), λ d mine. omega (arith, mine.low))
