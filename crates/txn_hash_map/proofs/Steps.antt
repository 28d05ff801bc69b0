-- The steps of a search, in one word list.
use Rattle.txn_hash_map.proofs.Common.{◌≡◌, ◌≢◌, ℕ, ◌+◌, ◌^◌, ◌<◌, ◌≤◌, inl, inr, true, List, [], ◌∷◌, ◌++◌, length, slice_get, Some, None, refl, sym, ap, ◌∙◌}
use Rattle.txn_hash_map.proofs.Common.{subst, arith, slice_get_within, same_Some, block_at, value_past, value_first, value_later, has_middle, ChainMap, Cell}
use Rattle.txn_hash_map.proofs.Common.{value_of, has_block, Entries, Blocks, IsUsedIn, HasKeysOnce, HasChain, bucket_of, IsLaid, ChainsHold, chain_part}
use Rattle.txn_hash_map.proofs.Common.{place_after, IsFoundAt, IsMissing, IsLink}
use Rattle.std.proofs.Common.{append_assoc, length-append}
use Rattle.txn_alloc.specs.EntryMaps.{IsSeen}
use Rattle.txn_hash_map.proofs.Passed.{IsPassed}
use Rattle.txn_hash_map.specs.Searches.{IsOfChain}
use Rattle.txn_hash_map.proofs.Cells.{bucket_below, one_chain, chain_rest, place_after_more, place_kind, chain_short, block_below}
use Rattle.std.specs.FinSet as set
use Rattle.std.specs.FinMap as entry_map

module _ (map : ChainMap) (key : ℕ) (s : List ℕ) where
  -- the search begins at the bucket
  pub passed_none : {f : Entries} {u : Blocks} (p : ℕ) → p ≡ map.buckets + bucket_of key → ChainsHold map s f u → IsPassed map key p 0 s
  passed_none p e h = record {
    laid = h.laid;
    front = [];
    rest = h.cells (bucket_of key);
    chain = h.chain (bucket_of key) (bucket_below key);
    once = h.once (bucket_of key) (bucket_below key);
    at = e;
    lacking = refl;
    count = refl;
  }

  pub bucket_fits : IsLaid map s → map.buckets + bucket_of key < 2 ^ 64
  bucket_fits l = omega (arith, bucket_below key, l.buckets, l.arena.places)

  -- the word at the place is a word of the list
  pub passed_within : {p n : ℕ} → IsPassed map key p n s → p < length s
  passed_within {p} h = at (h.rest) (chain_rest map.arena s (map.buckets + bucket_of key) h.front h.rest h.chain)
    where
      at : (cs : List Cell) → HasChain map.arena s (place_after map.arena (map.buckets + bucket_of key) h.front) cs → p < length s
      at [] k = slice_get_within s p 0 (ap (slice_get s) h.at ∙ k)
      at (c ∷ cs) k = slice_get_within s p (c.block + 1) (ap (slice_get s) h.at ∙ k.0)

  -- the chain ends
  pub passed_end : {p n : ℕ} → IsPassed map key p n s → slice_get s p ≡ Some 0 → IsMissing map key s
  passed_end {p} h e = record {
    cells = h.front ++ h.rest;
    chain = h.chain;
    lacking = value_past key h.front h.rest h.lacking ∙ ap (value_of key)
        (one_chain map.arena s p p h.rest [] refl (subst (λ q. HasChain map.arena s q h.rest) (sym h.at)
        (chain_rest map.arena s (map.buckets + bucket_of key) h.front h.rest h.chain)) e);
  }

  -- the block that the word at the place names
  pub passed_names : {p n : ℕ} (b : ℕ) → IsPassed map key p n s → slice_get s p ≡ Some (b + 1) → b < map.arena.blocks
  passed_names b h e = at (h.rest) (chain_rest map.arena s (map.buckets + bucket_of key) h.front h.rest h.chain)
    where
      at : (cs : List Cell) → HasChain map.arena s (place_after map.arena (map.buckets + bucket_of key) h.front) cs → b < map.arena.blocks
      at [] k = let z : b + 1 ≡ 0 = same_Some (b + 1) 0 (sym e ∙ ap (slice_get s) h.at ∙ k) in absurd (omega arith)
      at (c ∷ cs) k = let z : b + 1 ≡ c.block + 1 = same_Some (b + 1) (c.block + 1) (sym e ∙ ap (slice_get s) h.at ∙ k.0) in omega (arith, k.1)

  -- a cell whose key is another is passed
  more_at : (p n b k : ℕ) (front rest : List Cell) → IsLaid map s
      → HasChain map.arena s (map.buckets + bucket_of key) (front ++ rest) → HasKeysOnce (front ++ rest)
      → p ≡ place_after map.arena (map.buckets + bucket_of key) front → value_of key front ≡ None → length front ≡ n
      → slice_get s p ≡ Some (b + 1) → slice_get s (block_at map.arena b) ≡ Some k → k ≢ key → IsPassed map key (block_at map.arena b + 2) (n + 1) s
  more_at p n b k front [] laid chain once at lacking count e f ne =
      let z : b + 1 ≡ 0 = same_Some (b + 1) 0 (sym e ∙ ap (slice_get s) at
      ∙ chain_rest map.arena s (map.buckets + bucket_of key) front [] chain) in absurd (omega arith)
  more_at p n b k front (c ∷ cs) laid chain once at lacking count e f ne =
      let here = chain_rest map.arena s (map.buckets + bucket_of key) front (c ∷ cs) chain in
      let z : b + 1 ≡ c.block + 1 = same_Some (b + 1) (c.block + 1) (sym e ∙ ap (slice_get s) at ∙ here.0) in
      let same : b ≡ c.block = omega arith in
      let is_key : k ≡ c.key = same_Some k c.key (sym f ∙ ap (λ d. slice_get s (block_at map.arena d)) same ∙ here.2) in
      let split : (front ++ c ∷ []) ++ cs ≡ front ++ c ∷ cs = append_assoc front (c ∷ []) cs in
      record {
        laid = laid;
        front = front ++ c ∷ [];
        rest = cs;
        chain = subst (HasChain map.arena s (map.buckets + bucket_of key)) (sym split) chain;
        once = subst HasKeysOnce (sym split) once;
        at = ap (λ d. block_at map.arena d + 2) same ∙ sym (place_after_more map.arena (map.buckets + bucket_of key) front c);
        lacking = value_past key front (c ∷ []) lacking ∙ value_later key c [] (λ w. ne (is_key ∙ w));
        count = omega (arith, length-append front (c ∷ []));
      }

  pub passed_more : {p n : ℕ} (b k : ℕ) → IsPassed map key p n s → slice_get s p ≡ Some (b + 1)
      → slice_get s (block_at map.arena b) ≡ Some k → k ≢ key → IsPassed map key (block_at map.arena b + 2) (n + 1) s
  passed_more {p} {n} b k h e f ne = more_at p n b k h.front h.rest h.laid h.chain h.once h.at h.lacking h.count e f ne

  -- the cell with the key
  found_in : (p b : ℕ) (front rest : List Cell) → IsLaid map s
      → HasChain map.arena s (map.buckets + bucket_of key) (front ++ rest) → HasKeysOnce (front ++ rest)
      → p ≡ place_after map.arena (map.buckets + bucket_of key) front → value_of key front ≡ None
      → slice_get s p ≡ Some (b + 1) → slice_get s (block_at map.arena b) ≡ Some key → IsFoundAt map key p b s
  found_in p b front [] laid chain once at lacking e f =
      let z : b + 1 ≡ 0 = same_Some (b + 1) 0 (sym e ∙ ap (slice_get s) at
      ∙ chain_rest map.arena s (map.buckets + bucket_of key) front [] chain) in absurd (omega arith)
  found_in p b front (c ∷ cs) laid chain once at lacking e f =
      let here = chain_rest map.arena s (map.buckets + bucket_of key) front (c ∷ cs) chain in
      let z : b + 1 ≡ c.block + 1 = same_Some (b + 1) (c.block + 1) (sym e ∙ ap (slice_get s) at ∙ here.0) in
      let same : c.block ≡ b = omega arith in
      record {
        laid = laid;
        front = front;
        cell = c;
        rest = cs;
        chain = chain;
        once = once;
        at = at;
        lacking = lacking;
        is_block = same;
        is_key = same_Some c.key key (sym here.2 ∙ ap (λ d. slice_get s (block_at map.arena d)) same ∙ f);
      }

  pub passed_found : {p n : ℕ} (b : ℕ) → IsPassed map key p n s → slice_get s p ≡ Some (b + 1)
      → slice_get s (block_at map.arena b) ≡ Some key → IsFoundAt map key p b s
  passed_found {p} b h e f = found_in p b h.front h.rest h.laid h.chain h.once h.at h.lacking e f

  -- as many cells as there are blocks are all
  pub passed_all : {p n : ℕ} → map.arena.blocks ≤ n → IsPassed map key p n s → IsMissing map key s
  passed_all le h = record {
    cells = h.front ++ h.rest;
    chain = h.chain;
    lacking = value_past key h.front h.rest h.lacking ∙ none (h.rest) (length-append h.front h.rest);
  }
    where
      short : length (h.front ++ h.rest) ≤ map.arena.blocks
      short = chain_short map.arena s (map.buckets + bucket_of key) (h.front ++ h.rest) h.chain h.once

      none : (cs : List Cell) → length (h.front ++ h.rest) ≡ length h.front + length cs → value_of key cs ≡ None
      none [] e = refl
      none (c ∷ cs) e = absurd (omega (arith, short, e, le, h.count))

  -- what the entries have at a key that is missing, and at one that is found
  pub missing_value : {f : Entries} {u : Blocks} → IsMissing map key s → ChainsHold map s f u → entry_map.get f key ≡ None
  missing_value m h =
      let i : ℕ = bucket_of key in
      h.entries_are key
      ∙ ap (value_of key) (one_chain map.arena s (map.buckets + i) (map.buckets + i) (h.cells i) m.cells refl (h.chain i (bucket_below key)) m.chain)
      ∙ m.lacking

  pub found_value : {f : Entries} {u : Blocks} {p b : ℕ} (x : ℕ) → IsFoundAt map key p b s
      → slice_get s (block_at map.arena b + 1) ≡ Some x → ChainsHold map s f u → entry_map.get f key ≡ Some x
  found_value x m e h =
      let i : ℕ = bucket_of key in
      let here = chain_rest map.arena s (map.buckets + i) m.front (m.cell ∷ m.rest) m.chain in
      h.entries_are key
      ∙ ap (value_of key) (one_chain map.arena s (map.buckets + i) (map.buckets + i) (h.cells i)
      (m.front ++ m.cell ∷ m.rest) refl (h.chain i (bucket_below key)) m.chain)
      ∙ value_past key m.front (m.cell ∷ m.rest) m.lacking ∙ value_first key m.cell m.rest m.is_key
      ∙ sym here.3 ∙ ap (λ d. slice_get s (block_at map.arena d + 1)) m.is_block ∙ e

  pub found_names : {p b : ℕ} → IsFoundAt map key p b s → slice_get s p ≡ Some (b + 1)
  found_names m =
      let here = chain_rest map.arena s (map.buckets + bucket_of key) m.front (m.cell ∷ m.rest) m.chain in
      ap (slice_get s) m.at ∙ here.0 ∙ ap (λ d. Some (d + 1)) m.is_block

  -- a used block is the arena's
  pub uses_below : (b : ℕ) → IsUsedIn (chain_part map) s b → b < map.arena.blocks
  uses_below b u =
      let h : ChainsHold map s u.0 u.1 = u.2 in
      let m = h.used_in b u.3 in
      block_below map.arena s (map.buckets + m.0) b (h.cells m.0) (h.chain m.0 m.1) m.2

  -- the place is a word that a search reads
  pub passed_link : {p n : ℕ} → IsPassed map key p n s → IsLink map key s p
  passed_link h = elim (place_kind map.arena s (map.buckets + bucket_of key) h.front h.rest h.chain) [
    | inl e ↦ inl (h.at ∙ e)
    | inr k ↦ inr (
      k.0,
      λ cells chain.
          ap (has_block k.0) (one_chain map.arena s (map.buckets + bucket_of key) (map.buckets + bucket_of key)
          cells (h.front ++ h.rest) refl chain h.chain) ∙ k.1,
      inr (h.at ∙ k.2),
    )
  ]

  -- and so is the key of the block that it names
  named_of : (p b : ℕ) (front rest : List Cell) → HasChain map.arena s (map.buckets + bucket_of key) (front ++ rest)
      → p ≡ place_after map.arena (map.buckets + bucket_of key) front
      → slice_get s p ≡ Some (b + 1) → has_block b (front ++ rest) ≡ true
  named_of p b front [] chain at e =
      let z : b + 1 ≡ 0 = same_Some (b + 1) 0 (sym e ∙ ap (slice_get s) at
      ∙ chain_rest map.arena s (map.buckets + bucket_of key) front [] chain) in absurd (omega arith)
  named_of p b front (c ∷ cs) chain at e =
      let here = chain_rest map.arena s (map.buckets + bucket_of key) front (c ∷ cs) chain in
      let z : b + 1 ≡ c.block + 1 = same_Some (b + 1) (c.block + 1) (sym e ∙ ap (slice_get s) at ∙ here.0) in
      let same : c.block ≡ b = omega arith in
      has_middle b front cs c same

  pub passed_key : {p n : ℕ} (b : ℕ) → IsPassed map key p n s → slice_get s p ≡ Some (b + 1) → IsLink map key s (block_at map.arena b)
  passed_key {p} b h e =
      inr (
        b,
        λ cells chain. ap (has_block b) (one_chain map.arena s (map.buckets + bucket_of key)
            (map.buckets + bucket_of key) cells (h.front ++ h.rest) refl chain h.chain) ∙ named_of p b h.front h.rest h.chain h.at e,
        inl refl,
      )

  -- a block of the chain is used
  pub chain_used : {f : Entries} {u : Blocks} (b : ℕ) → ChainsHold map s f u → IsOfChain map key b s → set.contains u b ≡ true
  chain_used b hold k = let i : ℕ = bucket_of key in hold.in_used b i (bucket_below key) (k (hold.cells i) (hold.chain i (bucket_below key)))

  -- the block where the key was found is one of the chain
  pub found_of : {p b : ℕ} → IsFoundAt map key p b s → IsOfChain map key b s
  found_of {b} m cells chain =
      ap (has_block b) (one_chain map.arena s (map.buckets + bucket_of key) (map.buckets + bucket_of key) cells
      (m.front ++ m.cell ∷ m.rest) refl chain m.chain) ∙ has_middle b m.front m.rest m.cell m.is_block

  pub held_used : {f : Entries} {u : Blocks} → ChainsHold map s f u → {p b : ℕ} → IsFoundAt map key p b s → set.contains u b ≡ true
  held_used hold {b} m = chain_used b hold (found_of m)

  -- so what a search reads is the map's own
  pub link_seen : (IsKey : ℕ → Type 0) {f : Entries} {u : Blocks} (a : ℕ) → ChainsHold map s f u → IsLink map key s a → IsSeen (chain_part map) key IsKey s a
  link_seen IsKey a hold (inl e) = inl e
  link_seen IsKey {f} {u} a hold (inr (b, of, inl e)) = inr (b, (f, u, hold, chain_used b hold of), inl e)
  link_seen IsKey {f} {u} a hold (inr (b, of, inr e)) = inr (b, (f, u, hold, chain_used b hold of), inr (inl e))

  pub found_key : {p b : ℕ} → IsFoundAt map key p b s → slice_get s (block_at map.arena b) ≡ Some key
  found_key m =
      let here = chain_rest map.arena s (map.buckets + bucket_of key) m.front (m.cell ∷ m.rest) m.chain in
      ap (λ d. slice_get s (block_at map.arena d)) (sym m.is_block) ∙ here.2 ∙ ap Some m.is_key
