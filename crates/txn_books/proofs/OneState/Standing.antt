-- Books with other accounts, prices or positions; and each account stands in the block where it stood, while the chains change.
use Rattle.txn_books.proofs.Common.{◌≡◌, ℕ, true, List, [], Option, Some, None, refl, sym, ap, ◌∙◌, subst, arith, nat_cmp, ClearingBooks, position_cmp}
use Rattle.txn_books.proofs.Common.{AreInRange, KeepsOthers, Put, New, Old, Full, block_at, IsInBlock, Entries, IsOwn, Inserts, Removes, HasKeyIn, KeepsBlocks}
use Rattle.txn_books.proofs.Common.{tree_part, chain_part, BooksShape, shape_of, arena_of, tree_of, chains_of, chained, HasParts, Stands}
use Rattle.txn_tree_map.proofs.Maps.{one_map}
use Rattle.txn_books.specs.Standing.{StandsFor}
use Rattle.txn_books.proofs.OneState.Changes.{tree_block_stays, tree_stays, tree_change, chain_change}
use Rattle.txn_books.proofs.OneState.Parts.{Leaves, put_leaves, cut_leaves}
use Rattle.txn_books.proofs.OneState.States.{chains_apart}
use Rattle.std.specs.FinSet as set
use Rattle.std.specs.FinMap as entry_map

-- an account stands where it stood, after a change of the chains
still : (old new : List ℕ) (books : ClearingBooks) (parts : HasParts old books []) (key : ℕ) (entries : Entries)
    → Leaves (chain_part (chains_of (shape_of books))) new entries parts.chain_used parts.free
    → KeepsOthers (IsOwn (chain_part (chains_of (shape_of books))) key old new) old new → KeepsBlocks (tree_of (shape_of books)) old new
still old new books parts key entries h kept k b there =
    let uses = there.0 in
    let same = (one_map (tree_of (shape_of books)) old uses.0 books.accounts uses.1 parts.tree_used uses.2 parts.accounts).1 in
    let used : set.contains parts.tree_used b ≡ true = ap (λ u. set.contains u b) (sym same) ∙ uses.3 in
    let mine : IsInBlock (arena_of (shape_of books)) b (block_at (arena_of (shape_of books)) b) =
    record { low = omega arith; high = omega arith } in (
      (books.accounts, parts.tree_used, tree_stays old new books [] parts entries h.after h.left key h.map h.as_many kept, used),
      tree_block_stays old new books [] parts entries h.after h.left key h.map h.as_many kept b _ used mine ∙ there.1,
    )

-- if nothing changes, each key stands where it stood
pub same_keeps : (shape : BooksShape) (old new : List ℕ) → new ≡ old → KeepsBlocks (tree_of shape) old new
same_keeps shape old new same k b there = subst (λ z. HasKeyIn (tree_of shape) k b z) (sym same) there

module _ (shape : BooksShape) (old new : List ℕ) (key : ℕ) (books : ClearingBooks) (stand : Stands shape old books) where
  -- other accounts
  pub accounts_left : (accounts : Entries) → Leaves (tree_part (tree_of shape)) new accounts stand.parts.tree_used stand.parts.free
      → KeepsOthers (IsOwn (tree_part (tree_of shape)) key old new) old new → AreInRange (record books { accounts = accounts })
      → Stands shape new (record books { accounts = accounts })
  accounts_left accounts left kept range = record {
    sizes = stand.sizes;
    range = range;
    parts = subst (λ z. Leaves (tree_part (tree_of z)) new accounts stand.parts.tree_used stand.parts.free
        → KeepsOthers (IsOwn (tree_part (tree_of z)) key old new) old new → StandsFor new (record books { accounts = accounts })) stand.sizes
        (λ h own. tree_change old new books [] stand.parts accounts h.after h.left key h.map h.free_lists h.as_many own) left kept;
  }

  module _ (kept : KeepsOthers (IsOwn (chain_part (chains_of shape)) key old new) old new) where
    -- other prices and positions
    pub chains_left : (positions : entry_map.FinMap position_cmp ℕ) (prices : entry_map.FinMap nat_cmp ℕ) (entries : Entries)
        → entries ≡ chained (record books { positions = positions; prices = prices })
        → Leaves (chain_part (chains_of shape)) new entries stand.parts.chain_used stand.parts.free
        → AreInRange (record books { positions = positions; prices = prices }) → Stands shape new (record books { positions = positions; prices = prices })
    chains_left positions prices entries same left range = record {
      sizes = stand.sizes;
      range = range;
      parts = subst (λ z. Leaves (chain_part (chains_of z)) new entries stand.parts.chain_used stand.parts.free
          → KeepsOthers (IsOwn (chain_part (chains_of z)) key old new) old new
          → StandsFor new (record books { positions = positions; prices = prices })) stand.sizes
          (λ h own. chain_change old new books [] stand.parts entries h.after h.left key h.map h.as_many own positions prices same h.free_lists) left kept;
    }

    -- and each account where it stood
    chains_still : (entries : Entries) → Leaves (chain_part (chains_of shape)) new entries stand.parts.chain_used stand.parts.free
        → KeepsBlocks (tree_of shape) old new
    chains_still entries left = subst (λ z. Leaves (chain_part (chains_of z)) new entries stand.parts.chain_used stand.parts.free
        → KeepsOthers (IsOwn (chain_part (chains_of z)) key old new) old new → KeepsBlocks (tree_of z) old new) stand.sizes
        (still old new books stand.parts key entries) left kept

    pub put_keeps : (x : ℕ) (put : Put) → Inserts (chain_part (chains_of shape)) key x put old new → KeepsBlocks (tree_of shape) old new
    put_keeps x New inserts = chains_still _ (put_leaves _ old new _ _ _ (chains_apart shape old books stand) key x New refl inserts)
    put_keeps x (Old was) inserts = chains_still _ (put_leaves _ old new _ _ _ (chains_apart shape old books stand) key x (Old was) refl inserts)
    put_keeps x Full inserts = same_keeps shape old new inserts

    pub cut_keeps : (answer : Option ℕ) → Removes (chain_part (chains_of shape)) key answer old new → KeepsBlocks (tree_of shape) old new
    cut_keeps None removes = same_keeps shape old new removes.same
    cut_keeps (Some was) removes = chains_still _ (cut_leaves _ old new _ _ _ (chains_apart shape old books stand) key was removes)
