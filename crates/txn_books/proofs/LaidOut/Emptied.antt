-- The words of empty books: zeros, but for the list of the free blocks.
use Rattle.txn_books.proofs.Common.{◌≡◌, ◌≢◌, ℕ, zero, suc, ◌+◌, ◌*◌, ◌<◌, ◌≤◌, inl, inr, true, false, List, [], ◌++◌, map, length, slice_get, Some, None}
use Rattle.txn_books.proofs.Common.{nat_eq, replicate, refl, sym, ap, ◌∙◌, arith, rules, true≢false, dite, ℕ_discrete, Ordering, nat_cmp, AllByRecursion}
use Rattle.txn_books.proofs.Common.{list_any, contains-from_list_nat, nil_from_length, length-replicate, MOST_INSTRUMENTS, position_cmp, empty_books, IsWithin}
use Rattle.txn_books.proofs.Common.{KeepsOthers, IsHead, FreeListsHold, times_of, out_empty, TreeHolds, Leaf, ChainsHold, QueueHolds, BooksShape, words_of}
use Rattle.txn_books.proofs.Common.{arena_of, tree_of, chains_of, queue_of, price_key_of, position_key_of, chained, Stands, IsAmong, IsWrittenByLaying}
use Rattle.txn_books.proofs.Common.{member_one, out_none, three_among}
use Rattle.std.specs.List.{All, IsDistinct, range_with_len}
use Rattle.std.proofs.lemmas.List.FromFn.{length-range_with_len, get_or-range_with_len}
use Rattle.std.proofs.lemmas.Map.Keys.{IsDistinct-cons}
use Rattle.books_model.specs.declared.limits.TheConstants.{MOST_BLOCKS, MOST_RING}
use Rattle.books_model.proofs.InRange.{empty_books-in_range}
use Rattle.history_model.proofs.ListPlaces.{zero_there}
use Rattle.std.specs.FinSet as set
use Rattle.std.specs.FinMap as entry_map

-- the numbers of all blocks
abbrev pub all_blocks : BooksShape → List ℕ
all_blocks shape = range_with_len 0 shape.blocks

pub all_below : (n : ℕ) → All (λ b. b < n) (range_with_len 0 n)
all_below n i d lt =
    let there : i < n = omega (arith, lt, length-range_with_len 0 n) in
    let same = get_or-range_with_len 0 n i d there in
    omega (arith, there, same)

above_differ : (c a n : ℕ) → c < a → AllByRecursion (λ y. nat_eq c y ≡ false) (range_with_len a n)
above_differ c a zero lt = tt
above_differ c a (suc n) lt = (let ne : c ≢ a = λ e. omega (arith, lt, e) in grind (rules, ne), above_differ c (a + 1) n (omega (arith, lt)))

pub all_once : (a n : ℕ) → IsDistinct nat_eq (range_with_len a n)
unfolding IsDistinct
all_once a zero = tt
all_once a (suc n) = IsDistinct-cons nat_eq a (range_with_len (a + 1) n) (above_differ a (a + 1) n (omega arith)) (all_once (a + 1) n)

any_there : (b a n : ℕ) → a ≤ b → b < a + n → list_any (λ y. nat_eq y b) (range_with_len a n) ≡ true
any_there b a zero le lt = absurd (omega (arith, le, lt))
any_there b a (suc n) le lt = dite (ℕ_discrete a b)
    (λ e. grind (rules, e))
    (λ ne. let rest : list_any (λ y. nat_eq y b) (range_with_len (a + 1) n) ≡ true =
    any_there b (a + 1) n (omega (arith, le, ne)) (omega (arith, lt)) in grind (rules, ne, rest))

pub all_among : (n b : ℕ) → b < n → IsAmong (range_with_len 0 n) b
all_among n b lt = contains-from_list_nat (range_with_len 0 n) b ∙ any_there b 0 n (omega arith) (omega (arith, lt))

pub no_entries : {K : Type 0} (R : K → K → Ordering) → entry_map.entries (entry_map.empty {X = ℕ} {R = R}) ≡ []
no_entries R = nil_from_length (entry_map.entries entry_map.empty) (sym (entry_map.len-entries entry_map.empty) ∙ entry_map.len-empty R ℕ)

-- the chains hold nothing
pub none_chained : (b i r : ℕ) (key : ℕ) → entry_map.get (chained (empty_books b i r)) key ≡ None
none_chained b i r key =
    ap (λ es. entry_map.get (entry_map.from_sorted {R =
    nat_cmp} (map (λ e. (price_key_of e.0, e.1)) es ++ map (λ e. (position_key_of e.0.0 e.0.1, e.1))
    (entry_map.entries (empty_books b i r).positions))) key) (no_entries nat_cmp)
    ∙ ap (λ es. entry_map.get (entry_map.from_sorted {R = nat_cmp} (map (λ e. (position_key_of e.0.0 e.0.1, e.1)) es)) key) (no_entries position_cmp)
    ∙ entry_map.get-from_sorted nat_cmp [] key tt

module _ (shape : BooksShape) (blocks : IsWithin 1 MOST_BLOCKS shape.blocks)
    (instruments : IsWithin 1 MOST_INSTRUMENTS shape.instruments) (ring : IsWithin 1 MOST_RING shape.ring)
    (first words : List ℕ) (zeros : first ≡ replicate (words_of shape) 0)
    (kept : KeepsOthers (IsWrittenByLaying (arena_of shape) (all_blocks shape)) first words)
    (free : FreeListsHold (arena_of shape) words (set.from_list (all_blocks shape))) where
  count : length words ≡ words_of shape
  count = let nil : ℕ = 0 in kept.count ∙ ap length zeros ∙ length-replicate (words_of shape) nil

  -- a word that is no head and in no block is 0
  zero_at : (a : ℕ) → a < 275 + 2 * shape.ring → ¬ IsHead (arena_of shape) a → slice_get words a ≡ Some 0
  zero_at a lt no_head =
      kept.same a (λ own. elim own [ inl head ↦ no_head head | inr k ↦ let e = k.2 in omega (arith, lt, e) ])
      ∙ zero_there (words_of shape) a first zeros (omega (arith, lt))

  tree_none : TreeHolds (tree_of shape) words entry_map.empty set.empty
  tree_none = record {
    laid = record {
      arena = free.laid_out;
      root = omega (arith, count);
      no_head = λ head. omega (arith, head.low);
      outside = λ b lt mine. omega (arith, mine.low);
    };
    tree = Leaf;
    spelled = (zero_at 0 (omega arith) (λ head. omega (arith, head.low)), tt);
    search = tt;
    heap = tt;
    entries_are = λ key. entry_map.get-empty nat_cmp key;
    used_are = out_empty;
  }

  chains_none : ChainsHold (chains_of shape) words (chained (empty_books shape.blocks shape.instruments shape.ring)) set.empty
  chains_none = record {
    laid = record {
      arena = free.laid_out;
      buckets = omega (arith, count);
      no_head = λ a is head. omega (arith, is.low, head.high);
      outside = λ b a lt in_block is. omega (arith, in_block.low, is.high);
    };
    cells = λ i. [];
    chain = λ i lt. zero_at (17 + i) (omega (arith, lt)) (λ head. omega (arith, head.high));
    own = λ i lt. tt;
    once = λ i lt. tt;
    entries_are = none_chained shape.blocks shape.instruments shape.ring;
    used_in = λ b m. absurd (true≢false (sym m ∙ out_empty b));
    in_used = λ b i lt m. absurd (true≢false (sym m));
  }

  queue_none : QueueHolds (queue_of shape) words []
  queue_none = record {
    laid_out = record { places = omega (arith, count, blocks.1, ring.1); whole = omega (arith, count) };
    front = 0;
    below = omega (arith, ring.0);
    front_word = zero_at 273 (omega arith) (λ head. omega (arith, head.high));
    room = omega arith;
    count_word = zero_at 274 (omega arith) (λ head. omega (arith, head.high));
    stands = λ i item e. absurd (cc);
  }

  pub empty_stands : Stands shape words (empty_books shape.blocks shape.instruments shape.ring)
  empty_stands = record {
    sizes = refl;
    range = empty_books-in_range shape.blocks shape.instruments shape.ring blocks instruments ring;
    parts = record {
      tree_used = set.empty;
      chain_used = set.empty;
      free = set.from_list (all_blocks shape);
      accounts = tree_none;
      chains = chains_none;
      queue = queue_none;
      free_lists = free;
      hand_below = λ k d lt. absurd (omega (arith, lt));
      parted = λ b lt.
          let out : times_of set.empty b ≡ 0 = out_none set.empty b (out_empty b) in
          let one : times_of (set.from_list (all_blocks shape)) b ≡ 1 = member_one (set.from_list (all_blocks shape)) b (all_among shape.blocks b lt) in
          omega (arith, out, one, three_among b set.empty set.empty (set.from_list (all_blocks shape)));
    };
  }
