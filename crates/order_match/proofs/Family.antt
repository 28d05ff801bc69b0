-- The parts of a book as one family: a change of one leaves all others.
use Rattle.order_match.proofs.Common.{◌≡◌, ◌≢◌, ℕ, zero, suc, ◌+◌, ◌<◌, ◌≤◌, ◌⊎◌, true, cond, ◌==◌, length, List, ◌∷◌, Some, slice_get, refl, sym, ap, ◌∙◌}
use Rattle.order_match.proofs.Common.{subst, arith, eq-eqb, ne_eqb, dite, ℕ_discrete, sum_by-cons, KeepsOthers, IsHead, FreeListsHold, Entries, Blocks, IsOwn}
use Rattle.order_match.proofs.Common.{times_of, ChainsHold, TreeHolds, OrderShape, LAST_AT, BUCKETS_AT, ROOTS_AT, arena_of, chains_of, tree_of, sides_of, Held}
use Rattle.order_match.proofs.Common.{HasParts, entries_in, with_last, with_places, with_side}
use Rattle.txn_alloc.proofs.Common.{IsInBlock, block_at, Part}
use Rattle.txn_hash_map.proofs.Common.{free_below, free_kept, IsBucket, bucket_of}
use Rattle.txn_alloc.proofs.Maps.Counting.{lengths_sum}
use Rattle.txn_alloc.proofs.Maps.Parts.{IsOne}
use Rattle.txn_hash_map.proofs.Stands.{chains_stand}
use Rattle.txn_hash_map.proofs.Steps.{uses_below}
use Rattle.txn_hash_map.proofs.Fronts.{bucket_is}
use Rattle.txn_tree_map.proofs.Maps.{tree_stands}
use Rattle.txn_tree_map.proofs.Searches.Gets.{used_below}
use Rattle.txn_tree_map.proofs.Held.Numbers.{as_many_blocks}
use Rattle.txn_alloc.specs.Blocks.{times_among}
use Rattle.txn_alloc.proofs.Apart.{not_own, other_out, out_above}
use Rattle.order_match.specs.Standing.{of_sides}
use Rattle.order_match.proofs.Sums.{count_first, count_sum, sum_map, total, total_changed, total_has_two, total_none}
use Rattle.std.specs.FinSet as set
use Rattle.std.specs.FinMap as finite
use Rattle.txn_hash_map.proofs.Inserts as chains
use Rattle.txn_hash_map.proofs.Numbers as numbers
use Rattle.txn_tree_map.proofs.Inserts.InsertCalls as trees

-- the parts by their numbers: the chains have 0, and the tree of each side that of the side and one more
abbrev pub HoldsAt : OrderShape → ℕ → List ℕ → Entries → Blocks → Type 0
HoldsAt shape zero = ChainsHold (chains_of shape)
HoldsAt shape (suc side) = TreeHolds (tree_of shape side)

abbrev pub IsRootAt : ℕ → ℕ → ℕ → Type 0
IsRootAt zero key a = a ≡ BUCKETS_AT + bucket_of key
IsRootAt (suc side) key a = a ≡ ROOTS_AT + side

abbrev pub IsNameAt : OrderShape → ℕ → ℕ → ℕ → Type 0
IsNameAt shape zero b a = a ≡ block_at (arena_of shape) b + 2
IsNameAt shape (suc side) b a = (a ≡ block_at (arena_of shape) b + 2) ⊎ (a ≡ block_at (arena_of shape) b + 3)

abbrev pub part_at : OrderShape → ℕ → Part
part_at shape i = record { arena = arena_of shape; Holds = HoldsAt shape i; IsRoot = IsRootAt i; IsName = IsNameAt shape i }

abbrev pub entries_at : ℕ → Held → Entries
entries_at zero held = held.places
entries_at (suc side) held = held.sides side

abbrev pub with_entries : ℕ → Entries → Held → Held
with_entries zero entries held = with_places entries held
with_entries (suc side) entries held = with_side side entries held

-- what holds of each part by itself
one_at : (shape : OrderShape) (i : ℕ) → IsOne (part_at shape i)
one_at shape zero = chains.is_one (chains_of shape)
one_at shape (suc side) = trees.is_one (tree_of shape side)

below_at : (shape : OrderShape) (i : ℕ) (words : List ℕ) (f : Entries) (u : Blocks) (d : ℕ) → HoldsAt shape i words f u
    → set.contains u d ≡ true → d < shape.blocks
below_at shape zero words f u d h k = uses_below (chains_of shape) 0 words d (f, u, h, k)
below_at shape (suc side) words f u d h k = used_below (tree_of shape side) words f u d h k

pub many_at : (shape : OrderShape) (i : ℕ) (words : List ℕ) (f : Entries) (u : Blocks) → HoldsAt shape i words f u → set.len u ≡ finite.len f
many_at shape zero words f u h = numbers.as_many_blocks (chains_of shape) words f u h
many_at shape (suc side) words f u h = as_many_blocks (tree_of shape side) words f u h

-- a word outside the blocks that a part goes through
abbrev pub IsRootOf : OrderShape → ℕ → ℕ → Type 0
IsRootOf shape zero a = IsBucket (chains_of shape) a
IsRootOf shape (suc side) a = a ≡ ROOTS_AT + side

rooted : (shape : OrderShape) (i key a : ℕ) → IsRootAt i key a → IsRootOf shape i a
rooted shape zero key a e = bucket_is (chains_of shape) key a e
rooted shape (suc side) key a e = e

stand_at : (shape : OrderShape) (i : ℕ) (old new : List ℕ) (f : Entries) (u : Blocks) → HoldsAt shape i old f u → length new ≡ length old
    → ((a : ℕ) → IsRootOf shape i a → slice_get new a ≡ slice_get old a)
    → ((d a : ℕ) → set.contains u d ≡ true → IsInBlock (arena_of shape) d a → slice_get new a ≡ slice_get old a) → HoldsAt shape i new f u
stand_at shape zero old new f u h count roots blocks = chains_stand (chains_of shape) old new f u h count roots blocks
stand_at shape (suc side) old new f u h count roots blocks =
    tree_stands (tree_of shape side) old new f u h count (roots (ROOTS_AT + side) refl) blocks

-- where their words lie: all apart
root_no_head : (shape : OrderShape) (i a : ℕ) → IsRootOf shape i a → ¬ IsHead (arena_of shape) a
root_no_head shape zero a root head = omega (arith, root.low, head.high)
root_no_head shape (suc side) a root head = omega (arith, root, head.high)

root_no_block : (shape : OrderShape) (i a d : ℕ) → i ≤ sides_of shape → IsRootOf shape i a → ¬ IsInBlock (arena_of shape) d a
root_no_block shape zero a d le root mine = omega (arith, root.high, mine.low)
root_no_block shape (suc side) a d le root mine = omega (arith, root, mine.low, le)

root_no_count : (shape : OrderShape) (i : ℕ) → ¬ IsRootOf shape i LAST_AT
root_no_count shape zero root = omega (arith, root.low)
root_no_count shape (suc side) root = omega (arith, root)

roots_apart : (shape : OrderShape) (i j a : ℕ) → i ≢ j → IsRootOf shape i a → ¬ IsRootOf shape j a
roots_apart shape zero zero a ne root other = ne refl
roots_apart shape zero (suc side) a ne root other = omega (arith, root.high, other)
roots_apart shape (suc side) zero a ne root other = omega (arith, root, other.high)
roots_apart shape (suc side) (suc more) a ne root other = ne (omega (arith, root, other))

block_no_head : (shape : OrderShape) (d a : ℕ) → IsInBlock (arena_of shape) d a → ¬ IsHead (arena_of shape) a
block_no_head shape d a mine head = omega (arith, mine.low, head.high)

-- the parts lie in the words, each block used by one of them or free
pub record Family (shape : OrderShape) (words : List ℕ) (held : Held) : Type 0 where
  pub used : ℕ → Blocks
  pub free : Blocks
  pub last : slice_get words LAST_AT ≡ Some held.last
  pub holds : (i : ℕ) → i ≤ sides_of shape → HoldsAt shape i words (entries_at i held) (used i)
  pub free_lists : FreeListsHold (arena_of shape) words free
  pub parted : (b : ℕ) → b < shape.blocks → times_of free b + total (sides_of shape) (λ i. times_of (used i) b) ≡ 1

abbrev pub used_at : Blocks → (ℕ → Blocks) → ℕ → Blocks
used_at chain sides zero = chain
used_at chain sides (suc side) = sides side

pub times_all : (shape : OrderShape) (chain free : Blocks) (sides : ℕ → Blocks) (b : ℕ) → times_among b (chain ∷ free ∷ of_sides shape sides)
    ≡ times_of free b + total (sides_of shape) (λ i. times_of (used_at chain sides i) b)
times_all shape chain free sides b =
    omega (
      arith,
      count_sum 0 (sides_of shape) b sides,
      count_first (λ s. set.contains s b) chain (free ∷ of_sides shape sides),
      count_first (λ s. set.contains s b) free (of_sides shape sides),
    )

abbrev pub family_of : (shape : OrderShape) (words : List ℕ) (held : Held) → HasParts shape words held → Family shape words held
family_of shape words held parts = record {
  used = used_at parts.chain_used parts.side_used;
  free = parts.free;
  last = parts.last;
  holds = each;
  free_lists = parts.free_lists;
  parted = λ b lt. sym (times_all shape parts.chain_used parts.free parts.side_used b) ∙ parts.parted b lt;
}
  where
    each : (i : ℕ) → i ≤ sides_of shape → HoldsAt shape i words (entries_at i held) (used_at parts.chain_used parts.side_used i)
    each zero le = parts.chains
    each (suc side) le = parts.trees side (omega (arith, le))

pub parts_of : (shape : OrderShape) (words : List ℕ) (held : Held) → Family shape words held → HasParts shape words held
parts_of shape words held family = record {
  chain_used = family.used 0;
  side_used = λ side. family.used (suc side);
  free = family.free;
  last = family.last;
  chains = family.holds 0 (omega arith);
  trees = λ side lt. family.holds (suc side) (omega (arith, lt));
  free_lists = family.free_lists;
  parted = λ b lt. times_all shape (family.used 0) family.free (λ side. family.used (suc side)) b ∙ family.parted b lt;
}

-- a family that holds the same
pub family_as : (shape : OrderShape) (words : List ℕ) (held other : Held) → held.last ≡ other.last
    → ((i : ℕ) → i ≤ sides_of shape → entries_at i held ≡ entries_at i other) → Family shape words held → Family shape words other
family_as shape words held other last same family = record {
  used = family.used;
  free = family.free;
  last = family.last ∙ ap Some last;
  holds = λ i le. subst (λ f. HoldsAt shape i words f (family.used i)) (same i le) (family.holds i le);
  free_lists = family.free_lists;
  parted = family.parted;
}

pub entries_here : (i : ℕ) (f : Entries) (held : Held) → entries_at i (with_entries i f held) ≡ f
entries_here zero f held = refl
entries_here (suc side) f held = ap (λ b. cond b f (held.sides side)) (eq-eqb side side refl)

pub entries_there : (i j : ℕ) (f : Entries) (held : Held) → j ≢ i → entries_at j (with_entries i f held) ≡ entries_at j held
entries_there zero zero f held ne = absurd (ne refl)
entries_there zero (suc side) f held ne = refl
entries_there (suc side) zero f held ne = refl
entries_there (suc side) (suc other) f held ne =
    ap (λ b. cond b f (held.sides other)) (ne_eqb other side (λ e. ne (ap (λ n. suc n) e)))

last_stays : (i : ℕ) (f : Entries) (held : Held) → (with_entries i f held).last ≡ held.last
last_stays zero f held = refl
last_stays (suc side) f held = refl

module _ (shape : OrderShape) (old : List ℕ) (held : Held) (family : Family shape old held) where
  pub family_below : (i d : ℕ) → i ≤ sides_of shape → set.contains (family.used i) d ≡ true → d < shape.blocks
  family_below i d le k = below_at shape i old (entries_at i held) (family.used i) d (family.holds i le) k

  -- a change of the part i
  module _ (new : List ℕ) (i : ℕ) (le : i ≤ sides_of shape) (key : ℕ) (kept : KeepsOthers (IsOwn (part_at shape i) key old new) old new)
      (now : Entries) (after free : Blocks) (holds : HoldsAt shape i new now after) (lists : FreeListsHold (arena_of shape) new free)
      (as_many : (b : ℕ) → times_of after b + times_of free b ≡ times_of (family.used i) b + times_of family.free b) where
    stays : (a : ℕ) → ¬ IsRootOf shape i a → ¬ IsHead (arena_of shape) a
        → ((e : ℕ) → (set.contains (family.used i) e ≡ true) ⊎ (set.contains after e ≡ true) → ¬ IsInBlock (arena_of shape) e a)
        → slice_get new a ≡ slice_get old a
    stays a root head out = kept.same a
        (not_own (part_at shape i) (one_at shape i) key old new (entries_at i held) now (family.used i) after (family.holds i le) holds a
        (λ r. root (rooted shape i key a r)) head out)

    out : (j d a e : ℕ) → j ≤ sides_of shape → j ≢ i → set.contains (family.used j) d ≡ true → IsInBlock (arena_of shape) d a
        → (set.contains (family.used i) e ≡ true) ⊎ (set.contains after e ≡ true) → ¬ IsInBlock (arena_of shape) e a
    out j d a e low ne k mine =
        let once = family.parted d (family_below j d low k) in
        let two = total_has_two (sides_of shape) i j (λ l. times_of (family.used l) d) le low ne in
        other_out (arena_of shape) (family.used j) (family.used i) family.free after free d a e k (omega (arith, once, two)) (as_many d) mine

    other_holds : (j : ℕ) → j ≤ sides_of shape → j ≢ i → HoldsAt shape j new (entries_at j held) (family.used j)
    other_holds j low ne = stand_at shape j old new (entries_at j held) (family.used j) (family.holds j low) kept.count
        (λ a root. stays a (roots_apart shape j i a ne root) (root_no_head shape j a root) (λ e uses. root_no_block shape j a e low root))
        (λ d a k mine. stays a (λ root. root_no_block shape i a d le root mine) (block_no_head shape d a mine)
        (λ e uses. out j d a e low ne k mine uses))

    abbrev used_now : ℕ → Blocks
    used_now j = cond (j == i) after (family.used j)

    used_here : used_now i ≡ after
    used_here = ap (λ b. cond b after (family.used i)) (eq-eqb i i refl)

    used_there : (j : ℕ) → j ≢ i → used_now j ≡ family.used j
    used_there j ne = ap (λ b. cond b after (family.used j)) (ne_eqb j i ne)

    each_holds : (j : ℕ) → j ≤ sides_of shape → HoldsAt shape j new (entries_at j (with_entries i now held)) (used_now j)
    each_holds j low = dite (ℕ_discrete j i)
        (λ e. subst (λ l. HoldsAt shape l new (entries_at l (with_entries i now held)) (used_now l)) (sym e)
        (subst (HoldsAt shape i new (entries_at i (with_entries i now held))) (sym used_here)
        (subst (λ f. HoldsAt shape i new f after) (sym (entries_here i now held)) holds)))
        (λ ne. subst (HoldsAt shape j new (entries_at j (with_entries i now held))) (sym (used_there j ne))
        (subst (λ f. HoldsAt shape j new f (family.used j)) (sym (entries_there i j now held ne)) (other_holds j low ne)))

    pub changed : Family shape new (with_entries i now held)
    changed = record {
      used = used_now;
      free = free;
      last = stays LAST_AT (root_no_count shape i) (λ head. omega (arith, head.low)) (λ e uses mine. omega (arith, mine.low))
          ∙ family.last ∙ ap Some (sym (last_stays i now held));
      holds = each_holds;
      free_lists = lists;
      parted = λ b lt.
          let once = family.parted b lt in
          let many = as_many b in
          let same = total_changed (sides_of shape) i (λ j. times_of (used_now j) b) (λ j. times_of (family.used j) b) le
          (λ j ne. ap (λ u. times_of u b) (used_there j ne)) in
          let here = ap (λ u. times_of u b) used_here in
          omega (arith, once, many, same, here);
    }

  -- another last number
  pub last_changed : (new : List ℕ) (last : ℕ) → slice_get new LAST_AT ≡ Some last → KeepsOthers (λ a. a ≡ LAST_AT) old new
      → Family shape new (with_last last held)
  last_changed new last there kept = record {
    used = family.used;
    free = family.free;
    last = there;
    holds = each;
    free_lists = free_kept (arena_of shape) old new family.free family.free_lists kept.count
        (λ a head. kept.same a (λ e. omega (arith, head.low, e))) (λ d a k mine. kept.same a (λ e. omega (arith, mine.low, e)));
    parted = family.parted;
  }
    where
      at : (i : ℕ) → i ≤ sides_of shape → HoldsAt shape i new (entries_at i held) (family.used i)
      at i le = stand_at shape i old new (entries_at i held) (family.used i) (family.holds i le) kept.count
          (λ a root. kept.same a (λ e. root_no_count shape i (subst (IsRootOf shape i) e root)))
          (λ d a k mine. kept.same a (λ e. omega (arith, mine.low, e)))

      each : (i : ℕ) → i ≤ sides_of shape → HoldsAt shape i new (entries_at i (with_last last held)) (family.used i)
      each zero le = at zero le
      each (suc side) le = at (suc side) le

-- free blocks and one for each entry are all blocks
pub counted : (shape : OrderShape) (words : List ℕ) (held : Held) (parts : HasParts shape words held)
    → set.len parts.free + entries_in shape held ≡ shape.blocks
counted shape words held parts =
    let n = sides_of shape in
    let family = family_of shape words held parts in
    let all = lengths_sum shape.blocks (parts.chain_used ∷ parts.free ∷ of_sides shape parts.side_used) parts.parted
    (λ b le. times_all shape parts.chain_used parts.free parts.side_used b ∙ none b le) in
    let chain = many_at shape 0 words held.places parts.chain_used parts.chains in
    let sides = sum_map 0 n parts.side_used (λ s. set.len s) (λ t. finite.len (held.sides t))
    (λ t low high. many_at shape (suc t) words (held.sides t) (parts.side_used t) (parts.trees t (omega (arith, high)))) in
    omega (
      arith,
      all,
      chain,
      sides,
      sum_by-cons (λ s. set.len s) parts.chain_used (parts.free ∷ of_sides shape parts.side_used),
      sum_by-cons (λ s. set.len s) parts.free (of_sides shape parts.side_used),
    )
  where
    none : (b : ℕ) → shape.blocks ≤ b
        → times_of parts.free b + total (sides_of shape) (λ i. times_of (used_at parts.chain_used parts.side_used i) b) ≡ 0
    none b le =
        let family = family_of shape words held parts in
        let free = out_above parts.free shape.blocks b (λ d k. free_below (arena_of shape) words parts.free d parts.free_lists k) le in
        let rest = total_none (sides_of shape) (λ i. times_of (used_at parts.chain_used parts.side_used i) b)
        (λ i low. out_above (used_at parts.chain_used parts.side_used i) shape.blocks b (λ d k. family_below shape words held family i d low k) le) in
        omega (arith, free, rest)
