-- What an insert leaves.
use Rattle.txn_hash_map.proofs.Common.{◌≡◌, ◌≢◌, ℕ, ◌+◌, ◌<◌, ◌⊎◌, inl, inr, true, false, List, [], ◌∷◌, ◌++◌, length, slice_get, slice_set, Some, None, eqb}
use Rattle.txn_hash_map.proofs.Common.{cond, refl, sym, ap, ◌∙◌, subst, arith, rules, true≢false, dite, ℕ_discrete, length-set, same_Some, get_set_same}
use Rattle.txn_hash_map.proofs.Common.{get_set_other, Arena, KeepsOthers, block_at, IsHead, IsInBlock, TakesBlock, free_kept, free_below, same_block, in_here}
use Rattle.txn_hash_map.proofs.Common.{out_itself, value_first, value_later, has_first, has_later, has_middle, ChainMap, BUCKETS, Cell, value_of, has_block}
use Rattle.txn_hash_map.proofs.Common.{Entries, Blocks, HoldsApart, HasKeysOnce, HasChain, HasKeysIn, bucket_of, IsLaid, IsBucket, ChainsHold, chain_part}
use Rattle.txn_hash_map.proofs.Common.{IsFoundAt, IsMissing, IsPutInFront}
use Rattle.txn_alloc.proofs.Sets.{in_there, in_or, out_less}
use Rattle.txn_alloc.proofs.Maps.Cells.{insert_same, insert_other}
use Rattle.txn_alloc.proofs.Maps.Parts.{free_unused}
use Rattle.txn_hash_map.proofs.Cells.{bucket_below, one_chain, block_key, block_below}
use Rattle.txn_hash_map.proofs.Steps.{found_key, missing_value}
use Rattle.txn_hash_map.proofs.Stands.{chain_kept, laid_alike, chains_stand}
use Rattle.std.specs.FinSet as set
use Rattle.std.specs.FinMap as entry_map

-- the value of a cell in block c, if block b has x
pub if_block : ℕ → ℕ → ℕ → ℕ → ℕ
if_block b x c y = cond (eqb c b) x y

if_here : (b x c y : ℕ) → c ≡ b → if_block b x c y ≡ x
unfolding if_block
if_here b x c y e = grind (rules, e)

if_there : (b x c y : ℕ) → c ≢ b → if_block b x c y ≡ y
unfolding if_block
if_there b x c y e = grind (rules, e)

-- the cells with the value x in block b
abbrev pub revalued : ℕ → ℕ → List Cell → List Cell
revalued b x [] = []
revalued b x (c ∷ cs) = record { block = c.block; key = c.key; value = if_block b x c.block c.value } ∷ revalued b x cs

module _ (arena : Arena) (s : List ℕ) (b x : ℕ) (within : block_at arena b + 1 < length s) where
  revalued_chain : (p : ℕ) (cs : List Cell) → p ≢ block_at arena b + 1 → HasChain arena s p cs
      → HasChain arena (slice_set s (block_at arena b + 1) x) p (revalued b x cs)
  revalued_chain p [] ne h = get_set_other s (block_at arena b + 1) p x ne ∙ h
  revalued_chain p (c ∷ cs) ne h = (
    get_set_other s (block_at arena b + 1) p x ne ∙ h.0,
    h.1,
    get_set_other s (block_at arena b + 1) (block_at arena c.block) x (λ e. absurd (omega arith)) ∙ h.2,
    dite (ℕ_discrete c.block b)
        (λ e. ap (λ d. slice_get (slice_set s (block_at arena b + 1) x) (block_at arena d + 1)) e
        ∙ get_set_same s (block_at arena b + 1) x within ∙ ap Some (sym (if_here b x c.block c.value e)))
        (λ e. get_set_other s (block_at arena b + 1) (block_at arena c.block + 1) x (λ k. e (omega arith)) ∙ h.3
        ∙ ap Some (sym (if_there b x c.block c.value e))),
    revalued_chain (block_at arena c.block + 2) cs (λ e. absurd (omega arith)) h.4,
  )

revalued_own : (i b x : ℕ) (cs : List Cell) → HasKeysIn i cs → HasKeysIn i (revalued b x cs)
revalued_own i b x [] h = tt
revalued_own i b x (c ∷ cs) h = (h.0, revalued_own i b x cs h.1)

revalued_none : (k b x : ℕ) (cs : List Cell) → value_of k cs ≡ None → value_of k (revalued b x cs) ≡ None
revalued_none k b x [] h = refl
revalued_none k b x (c ∷ cs) h = dite (ℕ_discrete c.key k)
    (λ e. absurd (cc (value_first k c cs e)))
    (λ e. value_later k (record { block = c.block; key = c.key; value = if_block b x c.block c.value })
    (revalued b x cs) e ∙ revalued_none k b x cs (sym (value_later k c cs e) ∙ h))

revalued_once : (b x : ℕ) (cs : List Cell) → HasKeysOnce cs → HasKeysOnce (revalued b x cs)
revalued_once b x [] h = tt
revalued_once b x (c ∷ cs) h = (revalued_none c.key b x cs h.0, revalued_once b x cs h.1)

revalued_blocks : (d b x : ℕ) (cs : List Cell) → has_block d (revalued b x cs) ≡ has_block d cs
revalued_blocks d b x [] = refl
revalued_blocks d b x (c ∷ cs) = grind (rules, revalued_blocks d b x cs)

-- other keys keep their values
revalued_other : (arena : Arena) (s : List ℕ) (p b x key k : ℕ) (cs : List Cell) → HasChain arena s p cs
    → slice_get s (block_at arena b) ≡ Some key → k ≢ key → value_of k (revalued b x cs) ≡ value_of k cs
revalued_other arena s p b x key k [] h e ne = refl
revalued_other arena s p b x key k (c ∷ cs) h e ne =
    let d : Cell = record { block = c.block; key = c.key; value = if_block b x c.block c.value } in
    dite (ℕ_discrete c.key k)
    (λ is_key.
    let other : c.block ≢ b = λ same. ne (sym is_key ∙ same_Some c.key key (sym h.2 ∙ ap (λ j. slice_get s (block_at arena j)) same ∙ e)) in
    value_first k d (revalued b x cs) is_key ∙ ap Some (if_there b x c.block c.value other) ∙ sym (value_first k c cs is_key))
    (λ is_other. value_later k d (revalued b x cs) is_other
    ∙ revalued_other arena s (block_at arena c.block + 2) b x key k cs h.4 e ne ∙ sym (value_later k c cs is_other))

-- the key of the block has the new one
revalued_same : (arena : Arena) (s : List ℕ) (p b x key : ℕ) (cs : List Cell) → HasChain arena s p cs → HasKeysOnce cs
    → slice_get s (block_at arena b) ≡ Some key → has_block b cs ≡ true → value_of key (revalued b x cs) ≡ Some x
revalued_same arena s p b x key [] h once e m = absurd (true≢false (sym m))
revalued_same arena s p b x key (c ∷ cs) h once e m =
    let d : Cell = record { block = c.block; key = c.key; value = if_block b x c.block c.value } in
    dite (ℕ_discrete c.block b)
    (λ same.
    let is_key : c.key ≡ key = same_Some c.key key (sym h.2 ∙ ap (λ j. slice_get s (block_at arena j)) same ∙ e) in
    value_first key d (revalued b x cs) is_key ∙ ap Some (if_here b x c.block c.value same))
    (λ other.
    let there : has_block b cs ≡ true = grind rules in
    let not_none : value_of key cs ≢ None = block_key arena s (block_at arena c.block + 2) b key cs h.4 there e in
    value_later key d (revalued b x cs) (λ k. not_none (ap (λ j. value_of j cs) (sym k) ∙ once.0))
    ∙ revalued_same arena s (block_at arena c.block + 2) b x key cs h.4 once.1 e there)

module _ {map : ChainMap} {key : ℕ} {s : List ℕ} {f : Entries} {u v : Blocks} (hold : HoldsApart (chain_part map) s f u v) where
  -- the block where the key was found is in the chain of its bucket
  pub found_block : {p b : ℕ} → IsFoundAt map key p b s → has_block b (hold.map.cells (bucket_of key)) ≡ true
  found_block {b} m =
      let i : ℕ = bucket_of key in
      ap (has_block b) (one_chain map.arena s (map.buckets + i) (map.buckets + i) (hold.map.cells i)
      (m.front ++ m.cell ∷ m.rest) refl (hold.map.chain i (bucket_below key)) m.chain)
      ∙ has_middle b m.front m.rest m.cell m.is_block

  pub found_used : {p b : ℕ} → IsFoundAt map key p b s → set.contains u b ≡ true
  found_used {b} m = hold.map.in_used b (bucket_of key) (bucket_below key) (found_block m)

  pub found_below : {p b : ℕ} → IsFoundAt map key p b s → b < map.arena.blocks
  found_below {b} m = let i : ℕ = bucket_of key in
      block_below map.arena s (map.buckets + i) b (hold.map.cells i) (hold.map.chain i (bucket_below key)) (found_block m)

  -- the value is another
  pub inserted_old : {p b : ℕ} (x : ℕ) → IsFoundAt map key p b s
      → HoldsApart (chain_part map) (slice_set s (block_at map.arena b + 1) x) (entry_map.insert f key x) u v
  inserted_old {b} x m =
      let a : Arena = map.arena in
      let t : List ℕ = slice_set s (block_at a b + 1) x in
      let h : ChainsHold map s f u = hold.map in
      let below : b < a.blocks = found_below m in
      let long : length t ≡ length s = length-set s (block_at a b + 1) x in
      let within : block_at a b + 1 < length s = omega (arith, h.laid.arena.blocks b below) in
      let is_key : slice_get s (block_at a b) ≡ Some key = found_key map key s m in
      let mine : IsInBlock a b (block_at a b + 1) = omega arith in
      record {
        map = record {
          laid = laid_alike t long h.laid;
          cells = λ i. revalued b x (h.cells i);
          chain = λ i lt. revalued_chain a s b x within (map.buckets + i) (h.cells i)
              (λ e. h.laid.outside b (block_at a b + 1) below mine (record { low = omega arith; high = omega arith })) (h.chain i lt);
          own = λ i lt. revalued_own i b x (h.cells i) (h.own i lt);
          once = λ i lt. revalued_once b x (h.cells i) (h.once i lt);
          entries_are = λ k. dite (ℕ_discrete k key)
              (λ e. subst (λ j. entry_map.get (entry_map.insert f key x) j ≡ value_of j (revalued b x (h.cells (bucket_of j)))) (sym e)
              (insert_same f key x ∙ sym (revalued_same a s (map.buckets + bucket_of key) b x key
              (h.cells (bucket_of key)) (h.chain (bucket_of key) (bucket_below key))
              (h.once (bucket_of key) (bucket_below key)) is_key (found_block m))))
              (λ e. insert_other f key x k e ∙ h.entries_are k
              ∙ sym (revalued_other a s (map.buckets + bucket_of k) b x key k (h.cells (bucket_of k)) (h.chain (bucket_of k) (bucket_below k)) is_key e));
          used_in = λ d k. let q = h.used_in d k in (q.0, q.1, revalued_blocks d b x (h.cells q.0) ∙ q.2);
          in_used = λ d i lt k. h.in_used d i lt (sym (revalued_blocks d b x (h.cells i)) ∙ k);
        };
        free_lists = free_kept a s t v hold.free_lists long
            (λ c head. get_set_other s (block_at a b + 1) c x
            (λ e. h.laid.arena.outside b c below (omega arith) head))
            (λ d c free k. get_set_other s (block_at a b + 1) c x (λ e.
            let same : d ≡ b = omega (arith, k.low, k.high) in
            true≢false (sym free ∙ ap (set.contains v) same ∙ hold.apart b (found_used m))));
        apart = hold.apart;
      }

-- the cells of each bucket, with one more in front of bucket j
hung : ℕ → Cell → (ℕ → List Cell) → ℕ → List Cell
hung j c cells i = cond (eqb i j) (c ∷ cells i) (cells i)

hung_here : (j : ℕ) (c : Cell) (cells : ℕ → List Cell) → hung j c cells j ≡ c ∷ cells j
unfolding hung
hung_here j c cells = grind rules

hung_there : (j i : ℕ) (c : Cell) (cells : ℕ → List Cell) → i ≢ j → hung j c cells i ≡ cells i
unfolding hung
hung_there j i c cells e = grind (rules, e)

-- what holds of the new cells of bucket j, and of the others, holds of each
hung_all : (P : ℕ → List Cell → Type 0) (j : ℕ) (c : Cell) (cells : ℕ → List Cell) → P j (c ∷ cells j) → (i : ℕ)
    → (i ≢ j → P i (cells i)) → P i (hung j c cells i)
hung_all P j c cells here i there = dite (ℕ_discrete i j)
    (λ e. subst (λ k. P k (hung j c cells k)) (sym e) (subst (P j) (sym (hung_here j c cells)) here))
    (λ e. subst (P i) (sym (hung_there j i c cells e)) (there e))

hung_value : (k j i : ℕ) (c : Cell) (cells : ℕ → List Cell) → c.key ≢ k → value_of k (hung j c cells i) ≡ value_of k (cells i)
hung_value k j i c cells ne = hung_all (λ l cs. value_of k cs ≡ value_of k (cells l)) j c cells (value_later k c (cells j) ne) i (λ e. refl)

hung_later : (d j i : ℕ) (c : Cell) (cells : ℕ → List Cell) → has_block d (cells i) ≡ true → has_block d (hung j c cells i) ≡ true
hung_later d j i c cells = hung_all (λ l cs. has_block d (cells l) ≡ true → has_block d cs ≡ true) j c cells (has_later d c (cells j)) i (λ e m. m)

first_or : (d : ℕ) (c : Cell) (cs : List Cell) → has_block d (c ∷ cs) ≡ true → (d ≡ c.block) ⊎ (has_block d cs ≡ true)
first_or d c cs m = dite (ℕ_discrete c.block d) (λ e. inl (sym e)) (λ e. inr (grind rules))

hung_or : (d j i : ℕ) (c : Cell) (cells : ℕ → List Cell) → has_block d (hung j c cells i) ≡ true → (d ≡ c.block) ⊎ (has_block d (cells i) ≡ true)
hung_or d j i c cells = hung_all (λ l cs. has_block d cs ≡ true → (d ≡ c.block) ⊎ (has_block d (cells l) ≡ true)) j c
    cells (first_or d c (cells j)) i (λ e m. inr m)

module _ (map : ChainMap) {s : List ℕ} {f : Entries} {u v : Blocks} (hold : HoldsApart (chain_part map) s f u v) where
  pub used_below : (d : ℕ) → set.contains u d ≡ true → d < map.arena.blocks
  used_below d m =
      let q = hold.map.used_in d m in
      block_below map.arena s (map.buckets + q.0) d (hold.map.cells q.0) (hold.map.chain q.0 q.1) q.2

-- the map stands if heads alone are written
pub chains_headed : (map : ChainMap) (s r : List ℕ) (f : Entries) (u v : Blocks) → HoldsApart (chain_part map) s f u v
    → KeepsOthers (IsHead map.arena) s r → ChainsHold map r f u
chains_headed map s r f u v hold kept =
    let l : IsLaid map s = hold.map.laid in
    chains_stand map s r f u hold.map kept.count (λ c k. kept.same c (l.no_head c k))
    (λ d c m k. kept.same c (l.arena.outside d c (used_below map hold d m) k))

-- a new key, in a block that was neither used nor free
pub put_apart : {map : ChainMap} {key x b : ℕ} {r t : List ℕ} {f : Entries} {u v : Blocks} → HoldsApart (chain_part map) r f u v
    → entry_map.get f key ≡ None → b < map.arena.blocks → set.contains u b ≡ false → set.contains v b ≡ false → IsPutInFront map key x b r t
    → HoldsApart (chain_part map) t (entry_map.insert f key x) (set.insert u b) v
put_apart {map} {key} {x} {b} {r} {t} {f} {u} {v} hold absent below unused lacks put =
    let a : Arena = map.arena in
    let j : ℕ = bucket_of key in
    let h : ChainsHold map r f u = hold.map in
    let l : IsLaid map r = h.laid in
    let c : Cell = record { block = b; key = key; value = x } in
    let bucket : (i : ℕ) → i < BUCKETS → IsBucket map (map.buckets + i) = λ i lt. record { low = omega arith; high = omega arith } in
    let here : IsBucket map (map.buckets + j) = bucket j (bucket_below key) in
    let keep : (d e : ℕ) → set.contains u d ≡ true → IsInBlock a d e → slice_get t e ≡ slice_get r e = λ d e m k.
    put.others e (λ w. l.outside d e (used_below map hold d m) k (subst (IsBucket map) (sym w) here))
    (λ mine. true≢false (sym m ∙ ap (set.contains u) (same_block a d b e k mine) ∙ unused)) in
    record {
      map = record {
        laid = laid_alike t put.count h.laid;
        cells = hung j c h.cells;
        chain = λ i lt. hung_all (λ k cs. HasChain a t (map.buckets + k) cs) j c h.cells (
          put.name,
          below,
          put.key_there,
          put.value_there,
          chain_kept a r t (map.buckets + j) (block_at a b + 2) (h.cells j) put.next_there
              (λ d e m k. keep d e (h.in_used d j (bucket_below key) m) k) (h.chain j (bucket_below key)),
        )
            i
            (λ ne. chain_kept a r t (map.buckets + i) (map.buckets + i) (h.cells i)
            (put.others (map.buckets + i) (λ e. ne (omega arith)) (λ k. l.outside b (map.buckets + i) below k (bucket i lt)))
            (λ d e m k. keep d e (h.in_used d i lt m) k) (h.chain i lt));
        own = λ i lt. hung_all (λ k cs. HasKeysIn k cs) j c h.cells (refl, h.own j (bucket_below key)) i (λ ne. h.own i lt);
        once = λ i lt. hung_all (λ k cs. HasKeysOnce cs) j c h.cells (sym (h.entries_are key) ∙ absent, h.once j (bucket_below key)) i (λ ne. h.once i lt);
        entries_are = λ k. dite (ℕ_discrete k key)
            (λ e. subst (λ q. entry_map.get (entry_map.insert f key x) q ≡ value_of q (hung j c h.cells (bucket_of q))) (sym e)
            (insert_same f key x ∙ sym (ap (value_of key) (hung_here j c h.cells) ∙ value_first key c (h.cells j) refl)))
            (λ e. insert_other f key x k e ∙ h.entries_are k ∙ sym (hung_value k j (bucket_of k) c h.cells (λ q. e (sym q))));
        used_in = λ d m. elim (in_or u b d m) [
          | inl e ↦ (j, bucket_below key, ap (has_block d) (hung_here j c h.cells) ∙ ap (λ q. has_block q (c ∷ h.cells j)) e ∙ has_first c (h.cells j))
          | inr k ↦ ((h.used_in d k).0, (h.used_in d k).1, hung_later d j (h.used_in d k).0 c h.cells (h.used_in d k).2)
        ];
        in_used = λ d i lt m. elim (hung_or d j i c h.cells m) [
          | inl e ↦ ap (set.contains (set.insert u b)) e ∙ in_here u b
          | inr k ↦ in_there u b d (h.in_used d i lt k)
        ];
      };
      free_lists = free_kept a r t v hold.free_lists put.count
          (λ e head. put.others e (λ w. l.no_head e (subst (IsBucket map) (sym w) here) head) (λ k. l.arena.outside b e below k head))
          (λ d e free k. put.others e
          (λ w. l.outside d e (free_below a r v d hold.free_lists free) k (subst (IsBucket map) (sym w) here))
          (λ mine. true≢false (sym free ∙ ap (set.contains v) (same_block a d b e k mine) ∙ lacks)));
      apart = λ d m. elim (in_or u b d m) [ inl e ↦ ap (set.contains v) e ∙ lacks | inr k ↦ hold.apart d k ];
    }

-- and in a block that was free
pub left_new : {map : ChainMap} {key x b : ℕ} {s r t : List ℕ} {f : Entries} {u v : Blocks} → HoldsApart (chain_part map) s f u v → IsMissing map key s
    → TakesBlock map.arena b s r v → KeepsOthers (IsHead map.arena) s r → IsPutInFront map key x b r t
    → HoldsApart (chain_part map) t (entry_map.insert f key x) (set.insert u b) (set.remove v b)
left_new {map} {key} {b} {s} {r} {f} {u} {v} hold missing taken kept put = put_apart
    (record { map = chains_headed map s r f u v hold kept; free_lists = taken.left; apart = λ d m. out_less v b d (hold.apart d m) })
    (missing_value map key s missing hold.map) (free_below map.arena s v b hold.free_lists taken.was_free)
    (free_unused (chain_part map) s f u v b hold taken.was_free) (out_itself v b) put
