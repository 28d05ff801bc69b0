-- The list of the free blocks, gone through, and laid anew beside parts that stand.
use Rattle.txn_books.proofs.Common.{◌≡◌, ◌≢◌, ℕ, zero, suc, ◌+◌, ◌-◌, ◌%◌, ◌<◌, ◌≤◌, ◌⊎◌, inl, inr, Bool, true, false, nat_eq, List, [], ◌∷◌, ◌++◌, length}
use Rattle.txn_books.proofs.Common.{slice_get, Some, refl, sym, ap, ◌∙◌, subst, arith, rules, length-append, append_assoc, true≢false, dite, ℕ_discrete}
use Rattle.txn_books.proofs.Common.{list_any, nat_cmp, nat_cmp_total, contains-from_list_nat, append-nil, same_Some, slice_get_within, ClearingBooks}
use Rattle.txn_books.proofs.Common.{KeepsOthers, Arena, block_at, IsHead, IsInBlock, HasList, FreeListsHold, in_here, out_empty, Blocks, times_of, free_below}
use Rattle.txn_books.proofs.Common.{tree_stands, chains_stand, queue_stands, BooksShape, IsBuilt, AreFree, shape_of, arena_of, tree_of, chains_of, queue_of}
use Rattle.txn_books.proofs.Common.{chained, HasParts, IsAmong, IsWrittenByLaying, times_among, member_one}
use Rattle.txn_hash_map.proofs.Common.{same_block}
use Rattle.std.proofs.Common.{eqb}
use Rattle.std.specs.List.{All, IsDistinct}
use Rattle.std.specs.FinSet.{nat_cmp-IsAntisymmetric}
use Rattle.std.specs.List.Sorted.{IsPermutation}
use Rattle.std.proofs.lemmas.List.Sorted.{All-permutation, list_any-IsPermutation}
use Rattle.std.proofs.lemmas.Map.Keys.{IsDistinct-IsPermutation, IsDistinct-tail}
use Rattle.std.proofs.lemmas.Map.Steps.{length-le_from_distinct_below}
use Rattle.txn_alloc.specs.declared.arena.TheConstants.{HEADS}
use Rattle.txn_alloc.specs.FreeLists.{FreeListHolds}
use Rattle.txn_alloc.proofs.Sets.{in_there, in_or, out_rest, distinct_more}
use Rattle.txn_alloc.proofs.FreeLists.Lists.{blocks_of, one_list}
use Rattle.txn_books.proofs.OneState.Apart.{bucket_apart, ring_apart, block_apart, root_apart}
use Rattle.txn_books.proofs.OneState.Changes.{at_once, tree_below, chain_below}
use Rattle.std.specs.FinSet as set

-- the list goes on at a name: the blocks that were gone through, and then those, are all
pub record GoesThrough (arena : Arena) (words : List ℕ) (name : ℕ) (gone whole : List ℕ) : Type 0 where
  pub place : ℕ
  pub rest : List ℕ
  pub named : slice_get words place ≡ Some name
  pub list : HasList arena words place rest
  pub all : gone ++ rest ≡ whole

module _ {arena : Arena} {words gone whole : List ℕ} {name : ℕ} where
  pub through_none : name ≡ 0 → GoesThrough arena words name gone whole → gone ≡ whole
  through_none none h = at (h.rest) h.list h.all
    where
      at : (rest : List ℕ) → HasList arena words h.place rest → gone ++ rest ≡ whole → gone ≡ whole
      at [] list all = sym (append-nil gone) ∙ all
      at (b ∷ bs) list all = let e : name ≡ b + 1 = same_Some name (b + 1) (sym h.named ∙ list.0) in absurd (omega (arith, none, e))

  pub through_below : name ≢ 0 → GoesThrough arena words name gone whole → (name ≤ arena.blocks) × (length gone + 1 ≤ length whole)
  through_below some h = at (h.rest) h.list h.all
    where
      at : (rest : List ℕ) → HasList arena words h.place rest → gone ++ rest ≡ whole → (name ≤ arena.blocks) × (length gone + 1 ≤ length whole)
      at [] list all = absurd (some (same_Some name 0 (sym h.named ∙ list)))
      at (b ∷ bs) list all =
          let e : name ≡ b + 1 = same_Some name (b + 1) (sym h.named ∙ list.0) in
          let long : length gone + length (b ∷ bs) ≡ length whole = sym (length-append gone (b ∷ bs)) ∙ ap length all in
          (omega (arith, e, list.1), omega (arith, long))

  pub through_next : (next : ℕ) → name ≢ 0 → slice_get words (block_at arena (name - 1)) ≡ Some next
      → GoesThrough arena words name gone whole → GoesThrough arena words next (gone ++ (name - 1) ∷ []) whole
  through_next next some word h = at (h.rest) h.list h.all
    where
      at : (rest : List ℕ) → HasList arena words h.place rest → gone ++ rest ≡ whole → GoesThrough arena words next (gone ++ (name - 1) ∷ []) whole
      at [] list all = absurd (some (same_Some name 0 (sym h.named ∙ list)))
      at (b ∷ bs) list all =
          let e : name ≡ b + 1 = same_Some name (b + 1) (sym h.named ∙ list.0) in
          let block : name - 1 ≡ b = omega (arith, e) in
          record {
            place = block_at arena b;
            rest = bs;
            named = ap (λ d. slice_get words (block_at arena d)) (sym block) ∙ word;
            list = list.2;
            all = append_assoc gone ((name - 1) ∷ []) bs ∙ ap (λ d. gone ++ d ∷ bs) block ∙ all;
          }

-- the word that heads a list is there
pub list_there : (arena : Arena) (words : List ℕ) (place : ℕ) (bs : List ℕ) → HasList arena words place bs → place < length words
list_there arena words place [] h = slice_get_within words place 0 h
list_there arena words place (b ∷ bs) h = slice_get_within words place (b + 1) h.0

any_below : (arena : Arena) (words : List ℕ) (place : ℕ) (bs : List ℕ) (q : ℕ) → HasList arena words place bs → list_any (eqb q) bs ≡ true → q < arena.blocks
any_below arena words place [] q h m = absurd (cc)
any_below arena words place (b ∷ bs) q h m = dite (ℕ_discrete q b)
    (λ e. subst (λ d. d < arena.blocks) (sym e) h.1)
    (λ ne. any_below arena words (block_at arena b) bs q h.2 (grind (rules, ne, m)))

-- a list is no longer than the arena has blocks, and goes through the arena's blocks
pub list_short : (arena : Arena) (words : List ℕ) (place : ℕ) (bs : List ℕ) → HasList arena words place bs → IsDistinct eqb bs → length bs ≤ arena.blocks
list_short arena words place bs h once = length-le_from_distinct_below bs arena.blocks once (λ q m. any_below arena words place bs q h m)

pub list_all : (arena : Arena) (words : List ℕ) (place : ℕ) (bs : List ℕ) → HasList arena words place bs → All (λ b. b < arena.blocks) bs
list_all arena words place [] h i d lt = absurd (omega (arith, lt))
list_all arena words place (b ∷ bs) h zero d lt = h.1
list_all arena words place (b ∷ bs) h (suc i) d lt = list_all arena words (block_at arena b) bs h.2 i d (omega (arith, lt))

-- what holds of each block among those of a list holds of all of it
all_among : (P : ℕ → Type 0) (bs : List ℕ) → ((b : ℕ) → IsAmong bs b → P b) → All P bs
all_among P [] each i d lt = absurd (omega (arith, lt))
all_among P (b ∷ bs) each zero d lt = each b (in_here (blocks_of bs) b)
all_among P (b ∷ bs) each (suc i) d lt = all_among P bs (λ c m. each c (in_there (blocks_of bs) b c m)) i d (omega (arith, lt))

-- one list after another
among_append : (bs cs : List ℕ) (b : ℕ) → IsAmong (bs ++ cs) b → IsAmong bs b ⊎ IsAmong cs b
among_append [] cs b m = inr m
among_append (c ∷ bs) cs b m = elim (in_or (blocks_of (bs ++ cs)) c b m) [
  | inl e ↦ inl (ap (λ k. set.contains (blocks_of (c ∷ bs)) k) e ∙ in_here (blocks_of bs) c)
  | inr k ↦ elim (among_append bs cs b k) [ inl l ↦ inl (in_there (blocks_of bs) c b l) | inr r ↦ inr r ]
]

among_first : (bs cs : List ℕ) (b : ℕ) → IsAmong bs b → IsAmong (bs ++ cs) b
among_first [] cs b m = absurd (true≢false (sym m ∙ out_empty b))
among_first (c ∷ bs) cs b m = elim (in_or (blocks_of bs) c b m) [
  | inl e ↦ ap (λ k. set.contains (blocks_of (c ∷ (bs ++ cs))) k) e ∙ in_here (blocks_of (bs ++ cs)) c
  | inr k ↦ in_there (blocks_of (bs ++ cs)) c b (among_first bs cs b k)
]

among_last : (bs cs : List ℕ) (b : ℕ) → IsAmong cs b → IsAmong (bs ++ cs) b
among_last [] cs b m = m
among_last (c ∷ bs) cs b m = in_there (blocks_of (bs ++ cs)) c b (among_last bs cs b m)

not_among : (bs : List ℕ) (b : ℕ) → ¬ IsAmong bs b → set.contains (blocks_of bs) b ≡ false
not_among bs b out = at (set.contains (blocks_of bs) b) refl
  where
    at : (m : Bool) → set.contains (blocks_of bs) b ≡ m → set.contains (blocks_of bs) b ≡ false
    at true e = absurd (out e)
    at false e = e

once_append : (bs cs : List ℕ) → IsDistinct nat_eq bs → IsDistinct nat_eq cs → ((b : ℕ) → IsAmong bs b → ¬ IsAmong cs b) → IsDistinct nat_eq (bs ++ cs)
once_append [] cs first last apart = last
once_append (c ∷ bs) cs first last apart =
    let rest : IsDistinct nat_eq (bs ++ cs) = once_append bs cs (IsDistinct-tail nat_eq c bs first) last (λ b m. apart b (in_there (blocks_of bs) c b m)) in
    distinct_more c (bs ++ cs)
    (not_among (bs ++ cs) c (λ m. elim (among_append bs cs c m) [
      | inl k ↦
          true≢false (sym k ∙ out_rest c bs first)
      | inr k ↦ apart c (in_here (blocks_of bs) c) k
    ])) rest

-- the free blocks of the lists up to here, each once
pub record AreFreeBelow (free : Blocks) (n : ℕ) (order : List ℕ) : Type 0 where
  pub once : IsDistinct nat_eq order
  pub among : (b : ℕ) → IsAmong order b → (set.contains free b ≡ true) × (b % HEADS < n)
  pub all : (b : ℕ) → set.contains free b ≡ true → b % HEADS < n → IsAmong order b

pub free_none : (free : Blocks) → AreFreeBelow free 0 []
unfolding IsDistinct
free_none free = record { once = tt; among = λ b m. absurd (true≢false (sym m ∙ out_empty b)); all = λ b m lt. absurd (omega (arith, lt)) }

pub free_more : (arena : Arena) (words : List ℕ) (free : Blocks) (n : ℕ) (order bs : List ℕ)
    → FreeListsHold arena words free → n < HEADS → HasList arena words (arena.heads + n) bs
    → AreFreeBelow free n order → AreFreeBelow free (n + 1) (order ++ bs)
free_more arena words free n order bs hold lt list h =
    let l : FreeListHolds arena words free n = hold.lists n lt in
    let same : l.order ≡ bs = one_list arena words (arena.heads + n) (arena.heads + n) l.order bs refl l.list list in
    let back : (b : ℕ) → IsAmong bs b → IsAmong l.order b = λ b m. ap (λ z. set.contains (blocks_of z) b) same ∙ m in
    record {
      once = once_append order bs h.once (subst (λ z. IsDistinct nat_eq z) same l.once) (λ b m k. let own =
          l.own b (back b k) in let low = (h.among b m).1 in omega (arith, own, low));
      among = λ b m. elim (among_append order bs b m) [
        | inl k ↦ let r = h.among b k in (r.0, omega (arith, r.1))
        | inr k ↦ let own : b % HEADS ≡ n = l.own b (back b k) in (l.all b own ∙ back b k, omega (arith, own))
      ];
      all = λ b m low. dite (ℕ_discrete (b % HEADS) n)
          (λ e. among_last order bs b (ap (λ z. set.contains (blocks_of z) b) (sym same) ∙ sym (l.all b e) ∙ m))
          (λ ne. among_first order bs b (h.all b m (omega (arith, low, ne))));
    }

pub free_all : (free : Blocks) (n : ℕ) (order : List ℕ) → HEADS ≤ n → AreFreeBelow free n order → AreFree free order
free_all free n order le h = record {
  once = h.once;
  all = set.same_set nat_cmp_total nat_cmp-IsAntisymmetric (set.from_list order) free (λ q. at q (set.contains free q) refl);
}
  where
    at : (q : ℕ) (m : Bool) → set.contains free q ≡ m → set.contains (blocks_of order) q ≡ set.contains free q
    at q true e = let low : q % HEADS < 16 = omega arith in h.all q e (omega (arith, low, le)) ∙ sym e
    at q false e = not_among order q (λ m. true≢false (sym (h.among q m).0 ∙ e)) ∙ sym e

-- the free blocks laid anew leave the other parts
module _ (old new : List ℕ) (books : ClearingBooks) (parts : HasParts old books []) (order : List ℕ) (same : set.from_list {R = nat_cmp} order ≡ parts.free)
    (lists : FreeListsHold (arena_of (shape_of books)) new (set.from_list order))
    (kept : KeepsOthers (IsWrittenByLaying (arena_of (shape_of books)) order) old new) where
  abbrev shape : BooksShape
  shape = shape_of books

  stays : (a : ℕ) → ¬ IsHead (arena_of shape) a
      → ((b : ℕ) → set.contains parts.free b ≡ true → ¬ IsInBlock (arena_of shape) b a) → slice_get new a ≡ slice_get old a
  stays a head out = kept.same a (λ own. elim own [
    | inl is ↦ head is
    | inr k ↦ let e = k.2 in out k.0 (ap (λ s. set.contains s k.0) (sym same) ∙ k.1) (record { low = omega (arith, e); high = omega (arith, e) })
  ])

  free_out : (theirs : Blocks) (d a : ℕ) → set.contains theirs d ≡ true → times_of theirs d + times_of parts.free d ≤ 1
      → IsInBlock (arena_of shape) d a → (b : ℕ) → set.contains parts.free b ≡ true → ¬ IsInBlock (arena_of shape) b a
  free_out theirs d a k once mine b free other =
      let is : b ≡ d = same_block (arena_of shape) b d a other mine in
      let here : times_of parts.free d ≡ 1 = member_one parts.free d (ap (λ z. set.contains parts.free z) (sym is) ∙ free) in
      let one : times_of theirs d ≡ 1 = member_one theirs d k in
      omega (arith, here, one, once)

  pub relaid : HasParts new books []
  relaid = record {
    tree_used = parts.tree_used;
    chain_used = parts.chain_used;
    free = set.from_list order;
    accounts = let k = root_apart shape in tree_stands (tree_of shape) old new books.accounts parts.tree_used parts.accounts kept.count
        (stays (tree_of shape).root k.0 (λ b free. k.3 b))
        (λ d a m mine. stays a (block_apart shape d a mine).1 (free_out parts.tree_used d a m (let once =
        at_once old old books [] parts d (tree_below parts d m) in omega (arith, once)) mine));
    chains = chains_stand (chains_of shape) old new (chained books) parts.chain_used parts.chains kept.count
        (λ a bucket. let k = bucket_apart shape a bucket in stays a k.1 (λ b free. k.2 b))
        (λ d a m mine. stays a (block_apart shape d a mine).1 (free_out parts.chain_used d a m (let once =
        at_once old old books [] parts d (chain_below parts d m) in omega (arith, once)) mine));
    queue = queue_stands (queue_of shape) old new books.calls parts.queue kept.count (λ a own. let k =
        ring_apart shape a own in stays a k.1 (λ b free. k.3 b));
    free_lists = lists;
    hand_below = parts.hand_below;
    parted = λ b lt. subst (λ s. times_among b (parts.tree_used ∷ parts.chain_used ∷ s ∷ []) + 0 ≡ 1) (sym same) (parts.parted b lt);
  }

eqb_flips : (x y : ℕ) → nat_eq x y ≡ nat_eq y x
eqb_flips x y = dite (ℕ_discrete x y) (λ e. grind (rules, e)) (λ ne. let other : y ≢ x = λ e. ne (sym e) in grind (rules, ne, other))

-- words whose free blocks are laid by rising number
module _ {shape : BooksShape} {words : List ℕ} {books : ClearingBooks} (built : IsBuilt shape words books) where
  pub free_held : FreeListsHold (arena_of shape) words built.stands.parts.free
  free_held = subst (λ z. FreeListsHold (arena_of z) words built.stands.parts.free) built.stands.sizes built.stands.parts.free_lists

  module _ (order sorted : List ℕ) (are : AreFree built.stands.parts.free order) (moved : IsPermutation order sorted) where
    pub sorted_once : IsDistinct nat_eq sorted
    sorted_once = IsDistinct-IsPermutation nat_eq eqb_flips order sorted moved are.once

    pub sorted_below : All (λ b. b < shape.blocks) sorted
    sorted_below = All-permutation (λ b. b < shape.blocks) order sorted moved
        (all_among (λ b. b < shape.blocks) order (λ b m. free_below (arena_of shape) words built.stands.parts.free b
        free_held (ap (λ s. set.contains s b) (sym are.all) ∙ m)))

    sorted_same : set.from_list {R = nat_cmp} sorted ≡ built.stands.parts.free
    sorted_same =
        set.same_set nat_cmp_total nat_cmp-IsAntisymmetric (set.from_list sorted) (set.from_list order)
        (λ q. contains-from_list_nat sorted q ∙ sym (list_any-IsPermutation (λ y. nat_eq y q) order sorted moved) ∙ sym (contains-from_list_nat order q))
        ∙ are.all

    pub relaid_built : (new : List ℕ) → FreeListsHold (arena_of shape) new (set.from_list sorted)
        → KeepsOthers (IsWrittenByLaying (arena_of shape) sorted) words new → IsBuilt shape new books
    relaid_built new lists kept =
        let back : shape ≡ shape_of books = sym built.stands.sizes in
        record {
          count = kept.count ∙ built.count;
          stands = record {
            sizes = built.stands.sizes;
            range = built.stands.range;
            parts = relaid words new books built.stands.parts sorted sorted_same
                (subst (λ z. FreeListsHold (arena_of z) new (set.from_list sorted)) back lists)
                (subst (λ z. KeepsOthers (IsWrittenByLaying (arena_of z) sorted) words new) back kept);
          };
        }
