-- The books that words stand for are one, and use the blocks that are neither free nor in hand.
use Rattle.txn_books.proofs.Common.{◌≡◌, ◌≢◌, ℕ, suc, ◌+◌, ◌<◌, ◌≤◌, Bool, true, false, cond, List, [], ◌∷◌, ◌++◌, ◌==◌, length, refl, sym, ap, ◌∙◌, subst}
use Rattle.txn_books.proofs.Common.{arith, rules, dite, ℕ_discrete, nat_cmp, count_by, ClearingBooks, used, AreInRange, Blocks, times_among, times_of}
use Rattle.txn_books.proofs.Common.{free_below, out_none, three_among, TreeHolds, ChainsHold, QueueHolds, one_queue, BooksShape, shape_of, arena_of, tree_of}
use Rattle.txn_books.proofs.Common.{chains_of, queue_of, chained, HasParts, Stands}
use Rattle.std.specs.List.{All, sum_by}
use Rattle.std.specs.FinSet.{members}
use Rattle.std.proofs.lemmas.List.Sums.{sum_by-cons, sum_by-append}
use Rattle.txn_alloc.proofs.Maps.Counting.{lengths_sum}
use Rattle.txn_books.proofs.OneState.Chained.{len_chained}
use Rattle.txn_books.proofs.OneState.ChainedChanges.{prices, positions, Alike, alike_one, prices_alike, positions_alike}
use Rattle.txn_books.proofs.OneState.Changes.{tree_below, chain_below}
use Rattle.std.specs.FinSet as set
use Rattle.txn_tree_map.proofs.Maps as trees
use Rattle.txn_tree_map.proofs.Held.Numbers as tree_numbers
use Rattle.txn_hash_map.proofs.OneMap as chains
use Rattle.txn_hash_map.proofs.Numbers as chain_numbers

-- books of the same parts are one
same_books : (b c : ClearingBooks) → shape_of b ≡ shape_of c → b.accounts ≡ c.accounts → b.positions ≡ c.positions
    → b.prices ≡ c.prices → b.calls ≡ c.calls → b ≡ c
same_books b c s p q r t = λ i. record {
  blocks = (s i).blocks;
  instruments = (s i).instruments;
  ring =
      (s i).ring;
  accounts = p i;
  positions = q i;
  prices = r i;
  calls = t i;
}

pub one_books : (shape : BooksShape) (words : List ℕ) (books others : ClearingBooks) → Stands shape words books → Stands shape words others → books ≡ others
one_books shape words books others h k =
    let sizes : shape_of books ≡ shape_of others = h.sizes ∙ sym k.sizes in
    let tree = subst (λ z. TreeHolds (tree_of z) words others.accounts k.parts.tree_used) (sym sizes) k.parts.accounts in
    let chain = subst (λ z. ChainsHold (chains_of z) words (chained others) k.parts.chain_used) (sym sizes) k.parts.chains in
    let queue = subst (λ z. QueueHolds (queue_of z) words others.calls) (sym sizes) k.parts.queue in
    let same : chained books ≡ chained others =
    (chains.one_map (chains_of (shape_of books)) words (chained books) (chained others) h.parts.chain_used k.parts.chain_used h.parts.chains chain).0 in
    same_books books others sizes
    (trees.one_map (tree_of (shape_of books)) words books.accounts others.accounts h.parts.tree_used k.parts.tree_used h.parts.accounts tree).0
    (alike_one positions
    (subst (λ f. Alike positions f books.positions) same (positions_alike h.range)) (positions_alike k.range))
    (alike_one prices
    (subst (λ f. Alike prices f books.prices) same (prices_alike h.range)) (prices_alike k.range))
    (one_queue (queue_of (shape_of books)) words books.calls others.calls h.parts.queue queue)

-- the blocks in hand, each as a set of its own
abbrev singles : List ℕ → List Blocks
singles [] = []
singles (c ∷ cs) = set.insert set.empty c ∷ singles cs

single_has : (c b : ℕ) → set.contains (set.insert (set.empty {R = nat_cmp}) c) b ≡ (c == b)
single_has c b = dite (ℕ_discrete c b) (λ e. grind (members, rules, e)) (λ ne. grind (members, rules, ne))

single_len : (c : ℕ) → set.len (set.insert (set.empty {R = nat_cmp}) c) ≡ 1
single_len c = grind (members, rules)

singles_count : (b : ℕ) (cs : List ℕ) → times_among b (singles cs) ≡ count_by (λ c. c == b) cs
singles_count b [] = refl
singles_count b (c ∷ cs) =
    sum_by-cons (λ s. cond (set.contains s b) 1 0) (set.insert set.empty c) (singles cs) ∙ ap (λ m. cond m 1 0 + times_among b (singles cs)) (single_has c b)
    ∙ ap (λ n. cond (c == b) 1 0 + n) (singles_count b cs) ∙ sym (sum_by-cons (λ d. cond (d == b) 1 0) c cs)

singles_len : (cs : List ℕ) → sum_by (λ s. set.len s) (singles cs) ≡ length cs
singles_len [] = refl
singles_len (c ∷ cs) =
    let rest : sum_by (λ s. set.len s) (singles cs) ≡ length cs = singles_len cs in
    let parts : sum_by (λ s. set.len s) (singles (c ∷ cs)) ≡ set.len (set.insert (set.empty {R = nat_cmp}) c)
    + sum_by (λ s. set.len s) (singles cs) = sum_by-cons (λ s. set.len s) (set.insert set.empty c) (singles cs) in
    omega (arith, rest, parts, single_len c)

-- 1 if the two are one
abbrev times_at : ℕ → ℕ → ℕ
times_at c b = cond (c == b) 1 0

not_at : (c b : ℕ) → c ≢ b → times_at c b ≡ 0
not_at c b ne = grind (rules, ne)

-- none of them is past all blocks
hand_none : (n b : ℕ) (cs : List ℕ) → n ≤ b → All (λ c. c < n) cs → count_by (λ c. c == b) cs ≡ 0
hand_none n b [] le h = refl
hand_none n b (c ∷ cs) le h =
    let lt : c < n = h 0 0 (omega arith) in
    let ne : c ≢ b = λ e. omega (arith, lt, le, e) in
    let here : times_at c b ≡ 0 = not_at c b ne in
    let rest : count_by (λ d. d == b) cs ≡ 0 = hand_none n b cs le (λ k d less. h (suc k) d (omega (arith, less))) in
    let parts : count_by (λ d. d == b) (c ∷ cs) ≡ times_at c b + count_by (λ d. d == b) cs = sum_by-cons (λ d. cond (d == b) 1 0) c cs in
    omega (arith, here, rest, parts)

out_above : (s : Blocks) (n b : ℕ) → ((d : ℕ) → set.contains s d ≡ true → d < n) → n ≤ b → times_of s b ≡ 0
out_above s n b below le = at (set.contains s b) refl
  where
    at : (m : Bool) → set.contains s b ≡ m → times_of s b ≡ 0
    at false e = out_none s b e
    at true e = let lt : b < n = below b e in absurd (omega (arith, lt, le))

pub counted : (words : List ℕ) (books : ClearingBooks) (in_hand : List ℕ) (parts : HasParts words books in_hand)
    → AreInRange books → set.len parts.free + length in_hand + used books ≡ books.blocks
counted words books in_hand parts range =
    let three : List Blocks = parts.tree_used ∷ parts.chain_used ∷ parts.free ∷ [] in
    let all : sum_by (λ s. set.len s) (three ++ singles in_hand) ≡ books.blocks = lengths_sum books.blocks (three ++ singles in_hand)
    (λ b lt. split b ∙ parts.parted b lt)
    (λ b le. split b ∙ (
    let tree = out_above parts.tree_used books.blocks b (tree_below parts) le in
    let chain = out_above parts.chain_used books.blocks b (chain_below parts) le in
    let free = out_above parts.free books.blocks b (λ d k. free_below (arena_of (shape_of books)) words parts.free d parts.free_lists k) le in
    let hand = hand_none books.blocks b in_hand le parts.hand_below in
    omega (arith, tree, chain, free, hand, three_among b parts.tree_used parts.chain_used parts.free))) in
    let lens : sum_by (λ s. set.len s) (three ++ singles in_hand) ≡ sum_by (λ s. set.len s) three
    + sum_by (λ s. set.len s) (singles in_hand) = sum_by-append (λ s. set.len s) three (singles in_hand) in
    let each : sum_by (λ s. set.len s) three ≡ set.len parts.tree_used + set.len parts.chain_used + set.len parts.free = omega arith in
    omega (
      arith,
      all,
      lens,
      each,
      tree_numbers.as_many_blocks (tree_of (shape_of books)) words books.accounts parts.tree_used parts.accounts,
      chain_numbers.as_many_blocks (chains_of (shape_of books)) words (chained books) parts.chain_used parts.chains,
      len_chained books range,
      singles_len in_hand,
    )
  where
    split : (b : ℕ) → times_among b ((parts.tree_used ∷ parts.chain_used ∷ parts.free ∷ []) ++ singles in_hand)
        ≡ times_among b (parts.tree_used ∷ parts.chain_used ∷ parts.free ∷ []) + count_by (λ c. c == b) in_hand
    split b = sum_by-append (λ s. cond (set.contains s b) 1 0) (parts.tree_used ∷ parts.chain_used ∷ parts.free ∷ []) (singles in_hand)
        ∙ ap (λ n. times_among b (parts.tree_used ∷ parts.chain_used ∷ parts.free ∷ []) + n) (singles_count b in_hand)
