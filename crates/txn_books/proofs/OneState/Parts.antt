-- What words that hold the parts of some books say of each map, and what an insert or a removal leaves of a map.
use Rattle.txn_books.proofs.Common.{◌≡◌, ℕ, true, false, List, [], ◌∷◌, Some, refl, subst, arith, ClearingBooks, Trace, after, each_fresh, Put, New, Old, Full}
use Rattle.txn_books.proofs.Common.{FreeListsHold, Entries, Blocks, Part, HoldsApart, HasMapApart, Inserts, Removes, times_among, free_unused, two_among}
use Rattle.txn_books.proofs.Common.{tree_part, chain_part, BooksShape, shape_of, words_of, tree_of, chains_of, chained, HasParts, IsGoodFor, had_room}
use Rattle.txn_hash_map.proofs.Common.{InEach}
use Rattle.txn_alloc.proofs.Apart.{moved_block, out_other}
use Rattle.txn_books.proofs.OneState.Changes.{at_once, tree_below, chain_below}
use Rattle.std.specs.FinSet as set
use Rattle.std.specs.FinMap as entry_map

module _ {words : List ℕ} {books : ClearingBooks} {in_hand : List ℕ} (parts : HasParts words books in_hand) where
  -- neither the tree nor the chains use a free block
  pub tree_free : HoldsApart (tree_part (tree_of (shape_of books))) words books.accounts parts.tree_used parts.free
  tree_free = record {
    map = parts.accounts;
    free_lists = parts.free_lists;
    apart = λ b k. let once = at_once words words books in_hand parts b (tree_below parts b k) in
        out_other parts.tree_used parts.free b k (omega (arith, once));
  }

  pub chains_free : HoldsApart (chain_part (chains_of (shape_of books))) words (chained books) parts.chain_used parts.free
  chains_free = record {
    map = parts.chains;
    free_lists = parts.free_lists;
    apart = λ b k. let once = at_once words words books in_hand parts b (chain_below parts b k) in
        out_other parts.chain_used parts.free b k (omega (arith, once));
  }

-- a block that goes back is in as many sets as before
pub back_among : (used free : Blocks) (c : ℕ) → set.contains used c ≡ true → set.contains free c ≡ false → (b : ℕ)
    → times_among b (set.remove used c ∷ set.insert free c ∷ []) ≡ times_among b (used ∷ free ∷ [])
back_among used free c member out b =
    let moved = moved_block free used c out member b in
    omega (
      arith,
      moved,
      two_among b (set.remove used c) (set.insert free c),
      two_among b (set.insert free c) (set.remove used c),
      two_among b used free,
      two_among b free used,
    )

-- words that hold the parts of some books of these sizes
abbrev pub HasSomeParts : BooksShape → List ℕ → Type 0
HasSomeParts shape words = (books : ClearingBooks) × (shape_of books ≡ shape) × HasParts words books []

pub good_parts : (shape : BooksShape) (words : List ℕ) → IsGoodFor shape words → HasSomeParts shape words
good_parts shape words good = (good.0, good.1.sizes, good.1.parts)

pub some_tree : (shape : BooksShape) (words : List ℕ) → HasSomeParts shape words → HasMapApart (tree_part (tree_of shape)) words
some_tree shape words some = subst (λ z. HasMapApart (tree_part (tree_of z)) words) some.1
    (record { entries = some.0.accounts; used = some.2.tree_used; free = some.2.free; holds = tree_free some.2 })

pub some_chains : (shape : BooksShape) (words : List ℕ) → HasSomeParts shape words → HasMapApart (chain_part (chains_of shape)) words
some_chains shape words some = subst (λ z. HasMapApart (chain_part (chains_of z)) words) some.1
    (record { entries = chained some.0; used = some.2.chain_used; free = some.2.free; holds = chains_free some.2 })

-- what a call left of a map and of the free blocks: these entries, in blocks that were the map's or free
pub record Leaves (part : Part) (new : List ℕ) (entries : Entries) (used free : Blocks) : Type 0 where
  pub after : Blocks
  pub left : Blocks
  pub map : part.Holds new entries after
  pub free_lists : FreeListsHold part.arena new left
  pub as_many : (b : ℕ) → times_among b (after ∷ left ∷ []) ≡ times_among b (used ∷ free ∷ [])

module _ (part : Part) (old new : List ℕ) (f : Entries) (used free : Blocks) (hold : HoldsApart part old f used free) (key : ℕ) where
  -- what an insert leaves that found room
  pub put_leaves : (x : ℕ) (put : Put) → had_room put ≡ true → Inserts part key x put old new → Leaves part new (entry_map.insert f key x) used free
  put_leaves x New had inserts =
      let k = inserts f used free hold in
      record {
        after = set.insert used k.block;
        left = set.remove free k.block;
        map = k.left.map;
        free_lists = k.left.free_lists;
        as_many = moved_block used free k.block (free_unused part old f used free k.block hold k.was_free) k.was_free;
      }
  put_leaves x (Old was) had inserts =
      let k = inserts f used free hold in
      record { after = used; left = free; map = k.left.map; free_lists = k.left.free_lists; as_many = λ b. refl }
  put_leaves x Full had inserts = absurd (cc)

  -- and a removal of a key that was there
  pub cut_leaves : (was : ℕ) → Removes part key (Some was) old new → Leaves part new (entry_map.remove f key) used free
  cut_leaves was removes =
      let k = removes f used free hold in
      record {
        after = set.remove used k.block;
        left = set.insert free k.block;
        map = k.left.map;
        free_lists = k.left.free_lists;
        as_many = back_among used free k.block k.was_used (hold.apart k.block k.was_used);
      }

-- words at which nothing was done yet stand for some books, and hold their parts
pub fresh_books : (shape other : BooksShape) (t : Trace) → shape ≡ other → t ≡ [] → InEach (words_of shape) (IsGoodFor shape) t (IsGoodFor other)
fresh_books shape other t e is = record { at = λ s fit. subst (λ z. IsGoodFor z (after t s)) e ((each_fresh (words_of shape) (IsGoodFor shape) t is).at s fit) }

pub fresh_parts : (shape other : BooksShape) (t : Trace) → shape ≡ other → t ≡ [] → InEach (words_of shape) (IsGoodFor shape) t (HasSomeParts other)
fresh_parts shape other t e is = record { at = λ s fit. good_parts other (after t s) ((fresh_books shape other t e is).at s fit) }
