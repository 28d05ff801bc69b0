-- A cell cut out of its chain.
use Rattle.txn_hash_map.proofs.Common.{◌≡◌, ◌≢◌, ℕ, ◌+◌, ◌<◌, ◌⊎◌, inl, inr, Bool, true, false, List, [], ◌∷◌, ◌++◌, length, slice_get, slice_set, Some, None}
use Rattle.txn_hash_map.proofs.Common.{eqb, cond, refl, sym, ap, ◌∙◌, subst, arith, rules, true≢false, dite, ℕ_discrete, length-set, same_Some}
use Rattle.txn_hash_map.proofs.Common.{slice_get_within, get_set_same, get_set_other, KeepsOthers, Arena, block_at, IsHead, IsInBlock, Lacks, Gives}
use Rattle.txn_hash_map.proofs.Common.{IsAnyHeadOrIn, free_kept, free_below, same_block, out_itself, value_past, value_first, value_later, has_middle}
use Rattle.txn_hash_map.proofs.Common.{first_block, later_block, ChainMap, BUCKETS, Cell, value_of, has_block, Entries, Blocks, HoldsApart, HasKeysOnce}
use Rattle.txn_hash_map.proofs.Common.{HasChain, HasKeysIn, bucket_of, IsLaid, ChainsHold, chain_part, place_after, IsFoundAt}
use Rattle.std.specs.FinSet.{members}
use Rattle.txn_alloc.proofs.FreeLists.Lists.{one_set}
use Rattle.txn_alloc.proofs.Sets.{out_both}
use Rattle.txn_alloc.proofs.Maps.Cells.{value_less, less_block, remove_same, remove_other}
use Rattle.txn_alloc.specs.EntryMaps.{RemovesOne}
use Rattle.txn_hash_map.proofs.Cells.{bucket_below, one_chain, block_key, block_once, key_own, place_kind}
use Rattle.txn_hash_map.proofs.Steps.{found_key, found_value, found_names}
use Rattle.txn_hash_map.proofs.Stands.{laid_alike, chains_stand}
use Rattle.txn_hash_map.proofs.Fronts.{bucket_is}
use Rattle.txn_hash_map.proofs.Changes.{found_used, found_below, used_below}
use Rattle.std.specs.FinSet as set
use Rattle.std.specs.FinMap as entry_map

less_in : (u : Blocks) (b d : ℕ) → set.contains (set.remove u b) d ≡ true → set.contains u d ≡ true
less_in u b d h = grind (members, rules)

less_other : (u : Blocks) (b d : ℕ) → set.contains (set.remove u b) d ≡ true → d ≢ b
less_other u b d h e = true≢false (sym h ∙ ap (set.contains (set.remove u b)) e ∙ out_itself u b)

in_less : (u : Blocks) (b d : ℕ) → d ≢ b → set.contains u d ≡ true → set.contains (set.remove u b) d ≡ true
in_less u b d ne h = grind (members, rules)

-- cells without one of them
less_own : (i : ℕ) (front rest : List Cell) (c : Cell) → HasKeysIn i (front ++ c ∷ rest) → HasKeysIn i (front ++ rest)
less_own i [] rest c h = h.1
less_own i (d ∷ front) rest c h = (h.0, less_own i front rest c h.1)

less_none : (k : ℕ) (front rest : List Cell) (c : Cell) → value_of k (front ++ c ∷ rest) ≡ None → value_of k (front ++ rest) ≡ None
less_none k [] rest c h = dite (ℕ_discrete c.key k) (λ e. absurd (cc (value_first k c rest e))) (λ e. sym (value_later k c rest e) ∙ h)
less_none k (d ∷ front) rest c h = dite (ℕ_discrete d.key k)
    (λ e. absurd (cc (value_first k d (front ++ c ∷ rest) e)))
    (λ e. value_later k d (front ++ rest) e ∙ less_none k front rest c (sym (value_later k d (front ++ c ∷ rest) e) ∙ h))

less_once : (front rest : List Cell) (c : Cell) → HasKeysOnce (front ++ c ∷ rest) → HasKeysOnce (front ++ rest)
less_once [] rest c h = h.1
less_once (d ∷ front) rest c h = (less_none d.key front rest c h.0, less_once front rest c h.1)

once_rest : (front rest : List Cell) (c : Cell) → HasKeysOnce (front ++ c ∷ rest) → value_of c.key rest ≡ None
once_rest [] rest c h = h.0
once_rest (d ∷ front) rest c h = once_rest front rest c h.1

-- the cells of each bucket, with others in bucket j
swapped : ℕ → List Cell → (ℕ → List Cell) → ℕ → List Cell
swapped j ds cells i = cond (eqb i j) ds (cells i)

swapped_here : (j : ℕ) (ds : List Cell) (cells : ℕ → List Cell) → swapped j ds cells j ≡ ds
unfolding swapped
swapped_here j ds cells = grind rules

swapped_there : (j i : ℕ) (ds : List Cell) (cells : ℕ → List Cell) → i ≢ j → swapped j ds cells i ≡ cells i
unfolding swapped
swapped_there j i ds cells e = grind (rules, e)

swapped_all : (P : ℕ → List Cell → Type 0) (j : ℕ) (ds : List Cell) (cells : ℕ → List Cell) → P j ds → (i : ℕ)
    → (i ≢ j → P i (cells i)) → P i (swapped j ds cells i)
swapped_all P j ds cells here i there = dite (ℕ_discrete i j)
    (λ e. subst (λ k. P k (swapped j ds cells k)) (sym e) (subst (P j) (sym (swapped_here j ds cells)) here))
    (λ e. subst (P i) (sym (swapped_there j i ds cells e)) (there e))

-- the word at p, which named block b, now names what x names
module _ (arena : Arena) (s : List ℕ) (p b x : ℕ) (names : slice_get s p ≡ Some (b + 1)) (no_key : (d : ℕ)
    → d < arena.blocks → block_at arena d ≢ p) (no_value : (d : ℕ) → d < arena.blocks → block_at arena d + 1 ≢ p) where
  not_named : (q : ℕ) (cs : List Cell) → HasChain arena s q cs → has_block b cs ≡ false → q ≢ p
  not_named q [] h m e = let z : 0 ≡ b + 1 = same_Some 0 (b + 1) (sym h ∙ ap (slice_get s) e ∙ names) in absurd (omega arith)
  not_named q (c ∷ cs) h m e =
      let z : c.block + 1 ≡ b + 1 = same_Some (c.block + 1) (b + 1) (sym h.0 ∙ ap (slice_get s) e ∙ names) in
      let same : c.block ≡ b = omega arith in
      absurd (true≢false (sym (first_block b c cs same) ∙ m))

  -- a chain without the block stays
  cut_kept : (q r : ℕ) (cs : List Cell) → slice_get (slice_set s p x) r ≡ slice_get s q → has_block b cs ≡ false
      → HasChain arena s q cs → HasChain arena (slice_set s p x) r cs
  cut_kept q r [] e m h = e ∙ h
  cut_kept q r (c ∷ cs) e m h =
      let other : c.block ≢ b = λ k. true≢false (sym (first_block b c cs k) ∙ m) in
      let later : has_block b cs ≡ false = sym (later_block b c cs other) ∙ m in (
        e ∙ h.0,
        h.1,
        get_set_other s p (block_at arena c.block) x (no_key c.block h.1) ∙ h.2,
        get_set_other s p (block_at arena c.block + 1) x (no_value c.block h.1) ∙ h.3,
        cut_kept (block_at arena c.block + 2) (block_at arena c.block + 2) cs
            (get_set_other s p (block_at arena c.block + 2) x (not_named (block_at arena c.block + 2) cs h.4 later)) later h.4,
      )

  -- the chain of the block goes on after it
  cut_chain : (q : ℕ) (front rest : List Cell) (c : Cell) → c.block ≡ b → p ≡ place_after arena q front
      → slice_get s (block_at arena b + 2) ≡ Some x → HasKeysOnce (front ++ c ∷ rest) → HasChain arena s q (front ++ c ∷ rest)
      → HasChain arena (slice_set s p x) q (front ++ rest)
  cut_chain q [] rest c is_block at next once h =
      let link : slice_get (slice_set s p x) q ≡ slice_get s (block_at arena c.block + 2) =
      ap (slice_get (slice_set s p x)) (sym at) ∙ get_set_same s p x (slice_get_within s p (b + 1) names)
      ∙ sym next ∙ ap (λ d. slice_get s (block_at arena d + 2)) (sym is_block) in
      cut_kept (block_at arena c.block + 2) q rest link (ap (λ d. has_block d rest) (sym is_block) ∙ block_once arena s q c rest h once) h.4
  cut_chain q (d ∷ front) rest c is_block at next once h =
      let there : has_block b (front ++ c ∷ rest) ≡ true = has_middle b front rest c is_block in
      let other : d.block ≢ b = λ e. true≢false (sym there ∙ ap (λ k. has_block k (front ++ c ∷ rest)) (sym e)
      ∙ block_once arena s q d (front ++ c ∷ rest) h once) in
      let apart : q ≢ p = λ e. let z : d.block + 1 ≡ b + 1 =
      same_Some (d.block + 1) (b + 1) (sym h.0 ∙ ap (slice_get s) e ∙ names) in other (omega arith) in (
        get_set_other s p q x apart ∙ h.0,
        h.1,
        get_set_other s p (block_at arena d.block) x (no_key d.block h.1) ∙ h.2,
        get_set_other s p (block_at arena d.block + 1) x (no_value d.block h.1) ∙ h.3,
        cut_chain (block_at arena d.block + 2) front rest c is_block at next once.1 h.4,
      )

module _ (map : ChainMap) (key : ℕ) (s : List ℕ) (f : Entries) (u v : Blocks)
    (hold : HoldsApart (chain_part map) s f u v) (p b : ℕ) (m : IsFoundAt map key p b s) where
  -- the place is the bucket's word or in a used block
  pub place_used : (p ≡ map.buckets + bucket_of key) ⊎ ((e : ℕ) × (set.contains u e ≡ true) × (p ≡ block_at map.arena e + 2))
  place_used =
      let j : ℕ = bucket_of key in
      let same : hold.map.cells j ≡ m.front ++ m.cell ∷ m.rest =
      one_chain map.arena s (map.buckets + j) (map.buckets + j) (hold.map.cells j) (m.front ++ m.cell ∷ m.rest) refl
      (hold.map.chain j (bucket_below key)) m.chain in
      elim (place_kind map.arena s (map.buckets + j) m.front (m.cell ∷ m.rest) m.chain) [
        | inl e ↦ inl (m.at ∙ e)
        | inr k ↦ inr (k.0, hold.map.in_used k.0 j (bucket_below key) (ap (has_block k.0) same ∙ k.1), m.at ∙ k.2)
      ]

  -- and so no word of a block but such a third one, and no head
  place_apart : {d a : ℕ} → d < map.arena.blocks → IsInBlock map.arena d a → (set.contains u d ≡ true → a ≢ block_at map.arena d + 2) → a ≢ p
  place_apart {d} {a} lt k out e = elim place_used [
    | inl w ↦ hold.map.laid.outside d a lt k (bucket_is map key a (e ∙ w))
    | inr w ↦
        let same : w.0 ≡ d = omega (arith, k.low, k.high, w.2) in
        out (ap (set.contains u) (sym same) ∙ w.1) (e ∙ w.2 ∙ ap (λ q. block_at map.arena q + 2) same)
  ]

  place_no_head : ¬ IsHead map.arena p
  place_no_head head = elim place_used [
    | inl w ↦ hold.map.laid.no_head p (bucket_is map key p w) head
    | inr w ↦ hold.map.laid.arena.outside w.0 p (used_below map hold w.0 w.1) (omega (arith, w.2)) head
  ]

  -- the cell is out, and its block neither used nor free
  pub cut : (x : ℕ) → slice_get s (block_at map.arena b + 2) ≡ Some x
      → HoldsApart (chain_part map) (slice_set s p x) (entry_map.remove f key) (set.remove u b) v
  cut x next =
      let a : Arena = map.arena in
      let j : ℕ = bucket_of key in
      let jt : j < BUCKETS = bucket_below key in
      let t : List ℕ = slice_set s p x in
      let h : ChainsHold map s f u = hold.map in
      let long : length t ≡ length s = length-set s p x in
      let names : slice_get s p ≡ Some (b + 1) = found_names map key s m in
      let is_key : slice_get s (block_at a b) ≡ Some key = found_key map key s m in
      let below : b < a.blocks = found_below hold m in
      let no_key : (d : ℕ) → d < a.blocks → block_at a d ≢ p =
      λ d lt. place_apart lt (omega arith) (λ k e. absurd (omega arith)) in
      let no_value : (d : ℕ) → d < a.blocks → block_at a d + 1 ≢ p =
      λ d lt. place_apart lt (omega arith) (λ k e. absurd (omega arith)) in
      let ds : List Cell = m.front ++ m.rest in
      let same : h.cells j ≡ m.front ++ m.cell ∷ m.rest =
      one_chain a s (map.buckets + j) (map.buckets + j) (h.cells j) (m.front ++ m.cell ∷ m.rest) refl (h.chain j jt) m.chain in
      let elsewhere : (i : ℕ) → i < BUCKETS → i ≢ j → has_block b (h.cells i) ≡ false = λ i lt ne. not_elsewhere h i lt ne (has_block b (h.cells i)) refl in
      let gone : value_of key ds ≡ None = value_past key m.front m.rest m.lacking
      ∙ ap (λ k. value_of k m.rest) (sym m.is_key) ∙ once_rest m.front m.rest m.cell m.once in
      let own : (i : ℕ) → i < BUCKETS → HasKeysIn i (swapped j ds h.cells i) =
      λ i lt. swapped_all (λ k cs. HasKeysIn k cs) j ds h.cells
      (less_own j m.front m.rest m.cell (subst (HasKeysIn j) same (h.own j jt))) i (λ ne. h.own i lt) in
      let chain : (i : ℕ) → i < BUCKETS → HasChain a t (map.buckets + i) (swapped j ds h.cells i) =
      λ i lt. swapped_all (λ k cs. HasChain a t (map.buckets + k) cs) j ds h.cells
      (cut_chain a s p b x names no_key no_value (map.buckets + j) m.front m.rest m.cell m.is_block m.at next m.once m.chain) i
      (λ ne. cut_kept a s p b x names no_key no_value (map.buckets + i) (map.buckets + i) (h.cells i)
      (get_set_other s p (map.buckets + i) x (not_named a s p b x names no_key no_value (map.buckets + i) (h.cells i) (h.chain i lt) (elsewhere i lt ne)))
      (elsewhere i lt ne) (h.chain i lt)) in
      let still_key : slice_get t (block_at a b) ≡ Some key = get_set_other s p (block_at a b) x (no_key b below) ∙ is_key in
      let absent : (i : ℕ) → i < BUCKETS → has_block b (swapped j ds h.cells i) ≡ true → ⊥ = λ i lt k.
      let has : value_of key (swapped j ds h.cells i) ≢ None = block_key a t (map.buckets + i) b key (swapped j ds h.cells i) (chain i lt) k still_key in
      let is_j : j ≡ i = key_own i key (swapped j ds h.cells i) (own i lt) has in
      has (ap (λ q. value_of key (swapped j ds h.cells q)) (sym is_j) ∙ ap (value_of key) (swapped_here j ds h.cells) ∙ gone) in
      record {
        map = record {
          laid = laid_alike t long h.laid;
          cells = swapped j ds h.cells;
          chain = chain;
          own = own;
          once = λ i lt. swapped_all (λ k cs. HasKeysOnce cs) j ds h.cells (less_once m.front m.rest m.cell m.once) i (λ ne. h.once i lt);
          entries_are = λ k. dite (ℕ_discrete k key)
              (λ e. subst (λ q. entry_map.get (entry_map.remove f key) q ≡ value_of q (swapped j ds h.cells (bucket_of q))) (sym e)
              (remove_same f key ∙ sym (ap (value_of key) (swapped_here j ds h.cells) ∙ gone)))
              (λ e. remove_other f key k e ∙ h.entries_are k
              ∙ sym (swapped_all (λ i cs. value_of k cs ≡ value_of k (h.cells i)) j ds h.cells
              (value_less k m.front m.rest m.cell (λ w. e (sym w ∙ m.is_key)) ∙ ap (value_of k) (sym same)) (bucket_of k) (λ ne. refl)));
          used_in = λ d k.
              let q = h.used_in d (less_in u b d k) in
              let other : m.cell.block ≢ d = λ w. less_other u b d k (sym w ∙ m.is_block) in (
                q.0,
                q.1,
                swapped_all (λ i cs. has_block d (h.cells i) ≡ true → has_block d cs ≡ true) j ds h.cells
                    (λ w. less_block d m.front m.rest m.cell other ∙ ap (has_block d) (sym same) ∙ w) q.0 (λ ne w. w) q.2,
              );
          in_used = λ d i lt k.
              let other : d ≢ b = λ e. absent i lt (ap (λ q. has_block q (swapped j ds h.cells i)) (sym e) ∙ k) in
              in_less u b d other (h.in_used d i lt (swapped_all (λ l cs. has_block d cs ≡ true → has_block d (h.cells l) ≡ true) j ds h.cells
              (λ w. ap (has_block d) same ∙ sym (less_block d m.front m.rest m.cell (λ w. other (sym w ∙ m.is_block))) ∙ w) i (λ ne w. w) k));
        };
        free_lists = free_kept a s t v hold.free_lists long
            (λ c head. get_set_other s p c x (λ e. place_no_head (subst (IsHead a) e head)))
            (λ d c free k. get_set_other s p c x (place_apart (free_below a s v d hold.free_lists free) k
            (λ w. absurd (true≢false (sym free ∙ hold.apart d w)))));
        apart = λ d k. hold.apart d (less_in u b d k);
      }
    where
      not_elsewhere : (h : ChainsHold map s f u) (i : ℕ) → i < BUCKETS → i ≢ bucket_of key → (k : Bool)
          → has_block b (h.cells i) ≡ k → has_block b (h.cells i) ≡ false
      not_elsewhere h i lt ne false e = e
      not_elsewhere h i lt ne true e =
          absurd (ne (sym (key_own i key (h.cells i) (h.own i lt)
          (block_key map.arena s (map.buckets + i) b key (h.cells i) (h.chain i lt) e (found_key map key s m)))))

  -- in between, the block is in no list
  pub cut_lacks : (x : ℕ) → slice_get s (block_at map.arena b + 2) ≡ Some x → Lacks map.arena b (slice_set s p x)
  cut_lacks x next w free =
      ap (λ z. set.contains z b) (one_set map.arena (slice_set s p x) w v free ((cut x next).free_lists)) ∙ hold.apart b (found_used hold m)

  -- the block is given back
  module _ (x y : ℕ) {t : List ℕ} (next : slice_get s (block_at map.arena b + 2) ≡ Some x) (value : slice_get s (block_at map.arena b + 1) ≡ Some y)
      (gives : Gives map.arena b (slice_set s p x) t) (kept : KeepsOthers (IsAnyHeadOrIn map.arena b) (slice_set s p x) t) where
    pub removed_left : HoldsApart (chain_part map) t (entry_map.remove f key) (set.remove u b) (set.insert v b)
    removed_left =
        let k : HoldsApart (chain_part map) (slice_set s p x) (entry_map.remove f key) (set.remove u b) v = cut x next in
        let l : IsLaid map (slice_set s p x) = k.map.laid in
        let below : b < map.arena.blocks = found_below hold m in
        record {
          map = chains_stand map (slice_set s p x) t (entry_map.remove f key) (set.remove u b) k.map kept.count
              (λ c w. kept.same c (λ o. elim o [ inl head ↦ l.no_head c w head | inr mine ↦ l.outside b c below mine w ]))
              (λ d c w q. kept.same c (λ o. elim o [
                | inl head ↦ l.arena.outside d c (used_below map hold d (less_in u b d w)) q head
                | inr mine ↦ less_other u b d w (same_block map.arena d b c q mine)
              ]));
          free_lists = gives v k.free_lists;
          apart = λ d w. out_both v b d (less_other u b d w) (hold.apart d (less_in u b d w));
        }

    pub removed : RemovesOne (chain_part map) key y t f u v
    removed = record {
      present = found_value map key s y m value hold.map;
      block = b;
      was_used =
          found_used hold m;
      left = removed_left;
    }
