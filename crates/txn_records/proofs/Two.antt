-- Two trees over one arena: a change of one leaves the other.
use Rattle.txn_records.proofs.Common.{◌≡◌, ◌≢◌, ℕ, ◌+◌, ◌<◌, inl, inr, true, false, ◌==◌, List, [], ◌∷◌, Option, Some, None, slice_get, refl, sym, ap, ◌∙◌}
use Rattle.txn_records.proofs.Common.{subst, arith, eq-eqb, ne_eqb, nat_cmp, KeepsOthers, Put, New, Old, Full, IsHead, FreeListsHold, Entries, times_of}
use Rattle.txn_records.proofs.Common.{TreeHolds, tree_part, remove_absent, three_among, put_answer, put_by}
use Rattle.txn_alloc.proofs.Common.{IsInBlock, Blocks, HoldsApart, IsOwn, Inserts, LacksRoom}
use Rattle.txn_tree_map.proofs.Common.{Removes, free_below}
use Rattle.std.proofs.Common.{◌⊎◌}
use Rattle.std.specs.List.{sum_by}
use Rattle.txn_alloc.specs.declared.arena.Arena.{Arena}
use Rattle.txn_alloc.specs.EntryMaps.{InsertsNew, InsertsOld, RemovesOne}
use Rattle.txn_alloc.proofs.Maps.Counting.{lengths_sum, some_member}
use Rattle.txn_alloc.proofs.Maps.Parts.{free_unused}
use Rattle.txn_tree_map.specs.declared.map.TreeMap.{TreeMap}
use Rattle.txn_tree_map.proofs.Maps.{tree_stands}
use Rattle.txn_tree_map.proofs.Searches.Gets.{used_below}
use Rattle.txn_tree_map.proofs.Inserts.InsertCalls.{is_one}
use Rattle.txn_tree_map.proofs.Held.Numbers.{as_many_blocks}
use Rattle.txn_alloc.proofs.Apart.{out_other, out_above, not_own, other_out, moved_times}
use Rattle.std.specs.FinSet as set
use Rattle.std.specs.FinMap as finite

-- a tree of the arena
abbrev pub at_root : Arena → ℕ → TreeMap
at_root arena root = record { root = root; arena = arena }

-- a tree, another beside it, and free lists; each block is in one of them
pub record HasTwo (arena : Arena) (root other : ℕ) (words : List ℕ) (mine theirs : Entries) : Type 0 where
  pub used : Blocks
  pub beside : Blocks
  pub free : Blocks
  pub tree : TreeHolds (at_root arena root) words mine used
  pub other_tree : TreeHolds (at_root arena other) words theirs beside
  pub free_lists : FreeListsHold arena words free
  pub parted : (b : ℕ) → b < arena.blocks → times_of used b + times_of beside b + times_of free b ≡ 1

module _ {arena : Arena} {root other : ℕ} {old : List ℕ} {mine theirs : Entries} (two : HasTwo arena root other old mine theirs) where
  -- free blocks and those of both trees are all blocks
  pub counted : set.len two.free + (finite.len mine + finite.len theirs) ≡ arena.blocks
  counted =
      let three : List Blocks = two.used ∷ two.beside ∷ two.free ∷ [] in
      let all : sum_by (λ s. set.len s) three ≡ arena.blocks = lengths_sum arena.blocks three
      (λ b lt. three_among b two.used two.beside two.free ∙ two.parted b lt)
      (λ b le.
      let first = out_above two.used arena.blocks b (λ d k. used_below _ _ _ _ d two.tree k) le in
      let second = out_above two.beside arena.blocks b (λ d k. used_below _ _ _ _ d two.other_tree k) le in
      let free = out_above two.free arena.blocks b (λ d k. free_below _ _ _ d two.free_lists k) le in
      omega (arith, first, second, free, three_among b two.used two.beside two.free)) in
      let each : sum_by (λ s. set.len s) three ≡ set.len two.used + set.len two.beside + set.len two.free = omega arith in
      omega (
        arith,
        all,
        each,
        as_many_blocks _ _ _ _ two.tree,
        as_many_blocks _ _ _ _ two.other_tree,
      )

  -- the tree uses no free block
  pub apart : HoldsApart (tree_part (at_root arena root)) old mine two.used two.free
  apart = record {
    map = two.tree;
    free_lists = two.free_lists;
    apart = λ b k. let once = two.parted b (used_below _ _ _ _ b two.tree k) in
        out_other two.used two.free b k (omega (arith, once));
  }

module _ {arena : Arena} {root other : ℕ} (differ : root ≢ other) {old new : List ℕ} {mine theirs : Entries}
    (two : HasTwo arena root other old mine theirs) (key : ℕ)
    (kept : KeepsOthers (IsOwn (tree_part (at_root arena root)) key old new) old new) where
  beside_below : (d : ℕ) → set.contains two.beside d ≡ true → d < arena.blocks
  beside_below d k = used_below _ _ _ _ d two.other_tree k

  -- a change of the one tree
  module _ (now : Entries) (after free : Blocks) (tree : TreeHolds (at_root arena root) new now after) (lists : FreeListsHold arena new free)
      (as_many : (b : ℕ) → times_of after b + times_of free b ≡ times_of two.used b + times_of two.free b) where
    -- no block of the other is the tree's, before or after
    out : (d a e : ℕ) → set.contains two.beside d ≡ true → IsInBlock arena d a
        → (set.contains two.used e ≡ true) ⊎ (set.contains after e ≡ true) → ¬ IsInBlock arena e a
    out d a e k here =
        let once = two.parted d (beside_below d k) in
        other_out arena two.beside two.used two.free after free d a e k (omega (arith, once)) (as_many d) here

    mine_below : (e : ℕ) → (set.contains two.used e ≡ true) ⊎ (set.contains after e ≡ true) → e < arena.blocks
    mine_below e (inl k) = used_below _ _ _ _ e two.tree k
    mine_below e (inr k) = used_below _ _ _ _ e tree k

    stays : (a : ℕ) → a ≢ root → ¬ IsHead arena a
        → ((e : ℕ) → (set.contains two.used e ≡ true) ⊎ (set.contains after e ≡ true) → ¬ IsInBlock arena e a)
        → slice_get new a ≡ slice_get old a
    stays a ne head elsewhere = kept.same a
        (not_own (tree_part (at_root arena root)) (is_one (at_root arena root)) key old new mine now two.used after two.tree tree a ne head elsewhere)

    other_stands : TreeHolds (at_root arena other) new theirs two.beside
    other_stands = tree_stands (at_root arena other) old new theirs two.beside two.other_tree kept.count
        (stays other (λ e. differ (sym e)) two.other_tree.laid.no_head (λ e uses. two.other_tree.laid.outside e (mine_below e uses)))
        (λ d a k here. stays a
        (λ e. two.tree.laid.outside d (beside_below d k) (subst (λ z. IsInBlock arena d z) e here))
        (two.tree.laid.arena.outside d a (beside_below d k) here)
        (λ e uses. out d a e k here uses))

    changed : HasTwo arena root other new now theirs
    changed = record {
      used = after;
      beside = two.beside;
      free = free;
      tree = tree;
      other_tree = other_stands;
      free_lists = lists;
      parted = λ b lt. let once = two.parted b lt in let many = as_many b in omega (arith, once, many);
    }

  put_new : (x : ℕ) → InsertsNew (tree_part (at_root arena root)) key x new mine two.used two.free
      → HasTwo arena root other new (finite.insert mine key x) theirs
  put_new x k =
      let out = free_unused (tree_part (at_root arena root)) old mine two.used two.free k.block (apart two) k.was_free in
      changed (finite.insert mine key x) (set.insert two.used k.block) (set.remove two.free k.block) k.left.map k.left.free_lists
      (moved_times two.used two.free k.block out k.was_free)

  put_old : (x was : ℕ) → InsertsOld (tree_part (at_root arena root)) key x was new mine two.used two.free
      → HasTwo arena root other new (finite.insert mine key x) theirs
  put_old x was k = changed (finite.insert mine key x) two.used two.free k.left.map k.left.free_lists (λ b. refl)

  cut_one : (was : ℕ) → RemovesOne (tree_part (at_root arena root)) key was new mine two.used two.free
      → HasTwo arena root other new (finite.remove mine key) theirs
  cut_one was k =
      let out = (apart two).apart k.block k.was_used in
      changed (finite.remove mine key) (set.remove two.used k.block) (set.insert two.free k.block) k.left.map k.left.free_lists
      (λ b. let moved = moved_times two.free two.used k.block out k.was_used b in omega (arith, moved))

  -- what an insert answers, and what it leaves
  pub put_two : (x : ℕ) (put : Put) → Inserts (tree_part (at_root arena root)) key x put old new
      → (put ≡ Full → LacksRoom (tree_part (at_root arena root)) key old)
      → (put ≡ put_answer (finite.get mine key) (finite.len mine + finite.len theirs == arena.blocks))
      × HasTwo arena root other new (put_by put key x mine) theirs
  put_two x New inserts full =
      let k = inserts mine two.used two.free (apart two) in
      let some = some_member two.free k.block k.was_free in
      let left : (finite.len mine + finite.len theirs == arena.blocks) ≡ false = ne_eqb (finite.len mine + finite.len theirs) arena.blocks
      (λ e. absurd (omega (arith, e, some, counted two))) in
      (rw (k.absent, left) refl, put_new x k)
  put_two x (Old was) inserts full =
      let k = inserts mine two.used two.free (apart two) in
      (rw k.present refl, put_old x was k)
  put_two x Full inserts full =
      let k = full refl mine two.used two.free (apart two) in
      let none : set.len two.free ≡ 0 = ap set.len k.1 ∙ set.len-empty nat_cmp in
      let left : (finite.len mine + finite.len theirs == arena.blocks) ≡ true = eq-eqb (finite.len mine + finite.len theirs) arena.blocks
      (omega (arith, none, counted two)) in (
        rw (k.0, left) refl,
        rw inserts two,
      )

  -- what a removal answers, and what it leaves
  pub cut_two : (answer : Option ℕ) → Removes (tree_part (at_root arena root)) key answer old new
      → (answer ≡ finite.get mine key) × HasTwo arena root other new (finite.remove mine key) theirs
  cut_two None removes =
      let none : None ≡ finite.get mine key = removes.found mine two.used two.tree in (
        none,
        rw (remove_absent mine key (sym none), removes.same) two,
      )
  cut_two (Some was) removes =
      let k = removes mine two.used two.free (apart two) in
      (sym k.present, cut_one was k)
