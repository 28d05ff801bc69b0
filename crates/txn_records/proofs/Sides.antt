-- The two trees of a record store, each beside the other.
use Rattle.txn_records.proofs.Common.{◌≡◌, ◌≢◌, ℕ, ◌+◌, ◌==◌, List, Option, refl, ap, ◌∙◌, arith, Tells, TellsAndChanges, Put, Entries, Finds, tree_part}
use Rattle.txn_records.proofs.Common.{FindsFirst, FindsFirstKey, three_among, RecordShape, ById, ByRank, arena_of, tree_of, Trees, HasTrees, HasSomeTrees}
use Rattle.txn_records.proofs.Common.{entries_in, first_in, first_key_in, is_used_up, put_answer, put_by}
use Rattle.txn_alloc.proofs.Common.{HasMap, HasMapApart}
use Rattle.txn_tree_map.proofs.Common.{held}
use Rattle.txn_stores.proofs.Turning.{IsPut, IsCut}
use Rattle.txn_records.specs.declared.layout.Order.{Order}
use Rattle.txn_records.specs.Layout.{root_of}
use Rattle.txn_records.specs.Access.{with_entries}
use Rattle.txn_records.proofs.Two.{HasTwo, apart, counted, put_two, cut_two}
use Rattle.std.specs.FinMap as finite
use Rattle.std.specs.FinSet as set

abbrev pub beside : Order → Order
beside ById = ByRank
beside ByRank = ById

roots_differ : (o : Order) → root_of o ≢ root_of (beside o)
roots_differ ById e = omega (arith, e)
roots_differ ByRank e = omega (arith, e)

-- one of the trees, with the other beside it
pub two_of : {shape : RecordShape} (o : Order) {words : List ℕ} {trees : Trees} → HasTrees shape words trees
    → HasTwo (arena_of shape) (root_of o) (root_of (beside o)) words (entries_in o trees) (entries_in (beside o) trees)
two_of ById h = record {
  used = h.id_used;
  beside = h.index_used;
  free = h.free;
  tree = h.by_id;
  other_tree = h.by_rank;
  free_lists = h.free_lists;
  parted = λ b lt. let once = h.parted b lt in omega (arith, once, three_among b h.id_used h.index_used h.free);
}
two_of ByRank h = record {
  used = h.index_used;
  beside = h.id_used;
  free = h.free;
  tree = h.by_rank;
  other_tree = h.by_id;
  free_lists = h.free_lists;
  parted = λ b lt. let once = h.parted b lt in omega (arith, once, three_among b h.id_used h.index_used h.free);
}

-- the trees, with other entries in one of them
trees_of : {shape : RecordShape} (o : Order) {words : List ℕ} (trees : Trees) {entries : Entries}
    → HasTwo (arena_of shape) (root_of o) (root_of (beside o)) words entries (entries_in (beside o) trees)
    → HasTrees shape words (with_entries o entries trees)
trees_of ById trees two = record {
  id_used = two.used;
  index_used = two.beside;
  free = two.free;
  by_id = two.tree;
  by_rank = two.other_tree;
  free_lists = two.free_lists;
  parted = λ b lt. let once = two.parted b lt in omega (arith, once, three_among b two.used two.beside two.free);
}
trees_of ByRank trees two = record {
  id_used = two.beside;
  index_used = two.used;
  free = two.free;
  by_id = two.other_tree;
  by_rank = two.tree;
  free_lists = two.free_lists;
  parted = λ b lt. let once = two.parted b lt in omega (arith, once, three_among b two.beside two.used two.free);
}

-- free blocks and those of the trees are all blocks
pub trees_counted : {shape : RecordShape} {words : List ℕ} {trees : Trees} (h : HasTrees shape words trees)
    → set.len h.free + (finite.len trees.ranks + finite.len trees.index) ≡ shape.blocks
unfolding two_of
trees_counted h = counted (two_of ById h)

-- the lengths of both, in either order
both_lengths : (o : Order) (trees : Trees) → finite.len (entries_in o trees) + finite.len (entries_in (beside o) trees)
    ≡ finite.len trees.ranks + finite.len trees.index
both_lengths ById trees = refl
both_lengths ByRank trees = omega arith

module _ (shape : RecordShape) (o : Order) where
  pub tree_apart : (x : List ℕ) → HasSomeTrees shape x → HasMapApart (tree_part (tree_of shape o)) x
  tree_apart x some =
      let two = two_of o some.1 in
      record {
        entries = entries_in o some.0;
        used = two.used;
        free = two.free;
        holds = apart two;
      }

  pub tree_there : (x : List ℕ) → HasSomeTrees shape x → HasMap (tree_part (tree_of shape o)) x
  tree_there x some = held (tree_apart x some)

  pub tells_get : (key : ℕ) (answer : Option ℕ) (x y : List ℕ) → Finds (tree_part (tree_of shape o)) key answer x y
      → Tells (HasTrees shape) (λ trees. finite.get (entries_in o trees) key) answer x y
  tells_get key answer x y finds = record {
    same = finds.same;
    told = λ trees h. let two = two_of o h in finds.found (entries_in o trees) two.used two.tree;
  }

  pub tells_first : (key : ℕ) (answer : Option (ℕ × ℕ)) (x y : List ℕ) → FindsFirst (tree_of shape o) key answer x y
      → Tells (HasTrees shape) (λ trees. first_in key (entries_in o trees)) answer x y
  tells_first key answer x y finds = record {
    same = finds.same;
    told = λ trees h. let two = two_of o h in finds.first (entries_in o trees) two.used two.tree;
  }

  pub tells_first_key : (key : ℕ) (answer : Option ℕ) (x y : List ℕ) → FindsFirstKey (tree_of shape o) key answer x y
      → Tells (HasTrees shape) (λ trees. first_key_in key (entries_in o trees)) answer x y
  tells_first_key key answer x y finds = record {
    same = finds.same;
    told = λ trees h. let two = two_of o h in finds.first (entries_in o trees) two.used two.tree;
  }

  pub puts : (key value : ℕ) (put : Put) (x y : List ℕ) → IsPut (tree_part (tree_of shape o)) key value put x y
      → TellsAndChanges (HasTrees shape) (λ trees. put_answer (finite.get (entries_in o trees) key) (is_used_up shape trees))
      (λ trees. with_entries o (put_by put key value (entries_in o trees)) trees) put x y
  puts key value put x y is = record {
    told = λ trees h. (put_two (roots_differ o) (two_of o h) key is.keeps value put is.inserts is.full).0
        ∙ ap (λ n. put_answer (finite.get (entries_in o trees) key) (n == shape.blocks)) (both_lengths o trees);
    left = λ trees h. trees_of o trees (put_two (roots_differ o) (two_of o h) key is.keeps value put is.inserts is.full).1;
  }

  pub cuts : (key : ℕ) (answer : Option ℕ) (x y : List ℕ) → IsCut (tree_part (tree_of shape o)) key answer x y
      → TellsAndChanges (HasTrees shape) (λ trees. finite.get (entries_in o trees) key)
      (λ trees. with_entries o (finite.remove (entries_in o trees) key) trees) answer x y
  cuts key answer x y is = record {
    told = λ trees h. (cut_two (roots_differ o) (two_of o h) key is.keeps answer is.removes).0;
    left = λ trees h. trees_of o trees (cut_two (roots_differ o) (two_of o h) key is.keeps answer is.removes).1;
  }
