-- What a call that only reads learns, of every fitting state at once.
use Rattle.txn_hash_map.proofs.Common.{◌≡◌, ℕ, ◌+◌, ◌<◌, List, [], ◌∷◌, ◌++◌, length, slice_get, Some, sym, ap, ◌∙◌, subst, arith, Read, Trace, after, SomeFits}
use Rattle.txn_hash_map.proofs.Common.{length-after, block_at, Looks, looks_map, looks_read, ChainMap, chain_part, IsLink, IsFoundAt}
use Rattle.txn_alloc.proofs.Maps.Founds.{IsOwnNear, IsKeysBlock}
use Rattle.txn_hash_map.proofs.Passed.{IsPassed}
use Rattle.txn_hash_map.proofs.Steps.{passed_within, passed_names, passed_link, passed_key, found_value, found_key, held_used, link_seen}

module _ {n : ℕ} {G : List ℕ → Type 0} {t : Trace} {IsSeen : List ℕ → ℕ → Type 0} where
  -- what some state says, said of the number of words
  module _ (map : ChainMap) (key : ℕ) where
    pub looks_within : {u : Trace} {p k : ℕ} → Looks n G t u IsSeen (IsPassed map key p k) → SomeFits n G u → p < n
    looks_within {u} l some =
        let s : List ℕ = after u some.0 in
        let long : length s ≡ n = length-after u some.0 ∙ some.1.count in
        omega (arith, passed_within map key s (l.holds some.0 some.1))

    pub looks_names : {u : Trace} (p k h b : ℕ) → Looks n G t u IsSeen (λ s. IsPassed map key p k s
        × (slice_get s p ≡ Some h)) → h ≡ b + 1 → SomeFits n G u → b < map.arena.blocks
    looks_names {u} p k h b l e some =
        let q = l.holds some.0 some.1 in
        passed_names map key (after u some.0) b q.0 (q.1 ∙ ap Some e)

-- the name at the place was read
pub looks_name : {map : ChainMap} {key n : ℕ} {G : List ℕ → Type 0} {t u : Trace} (v : Trace) {p k : ℕ} (h : ℕ)
    → Looks n G t u (IsLink map key) (IsPassed map key p k) → v ≡ u ++ Read p h ∷ []
    → Looks n G t v (IsLink map key) (λ s. IsPassed map key p k s × (slice_get s p ≡ Some h))
looks_name {map} {key} {n} {G} {t} {u} v {p} {k} h l e = looks_read n G t (IsLink map key) u v p h (IsPassed map key p k) l e (λ s q. passed_link map key s q)

-- and then the key of the block that it names
pub looks_key : {map : ChainMap} {key n : ℕ} {G : List ℕ → Type 0} {t u : Trace} (v w : Trace) {p k : ℕ} (h b a x : ℕ)
    → Looks n G t u (IsLink map key) (IsPassed map key p k) → v ≡ u ++ Read p h ∷ [] → w ≡ v ++ Read a x ∷ []
    → h ≡ b + 1 → a ≡ block_at map.arena b
    → Looks n G t w (IsLink map key) (λ s. IsPassed map key p k s × (slice_get s p ≡ Some (b + 1)) × (slice_get s (block_at map.arena b) ≡ Some x))
looks_key {map} {key} {n} {G} {t} v w {p} {k} h b a x l e f is_name is_block =
    looks_map n G t (IsLink map key) w _ _ (λ s q. (q.0.0, q.0.1 ∙ ap Some is_name, ap (slice_get s) (sym is_block) ∙ q.1))
    (looks_read n G t (IsLink map key) v w a x (λ s. IsPassed map key p k s × (slice_get s p ≡ Some h)) (looks_name v h l e) f
    (λ s q. subst (IsLink map key s) (sym is_block) (passed_key map key s b q.0 (q.1 ∙ ap Some is_name))))

-- what is near a search is the map's own
pub near_own : (map : ChainMap) (key : ℕ) → IsOwnNear (chain_part map) key (IsLink map key)
near_own map key s f u hold a k = link_seen map key s (λ d. d ≡ key) a hold k

-- and the block where it found the key is the key's
pub keys_block : (map : ChainMap) (key p b : ℕ) → IsKeysBlock (chain_part map) key b (IsFoundAt map key p b)
keys_block map key p b = record {
  used = λ s f u m hold. held_used map key s hold m;
  key_there = λ s m. found_key map key s m;
  value = λ s f u x m e hold. found_value map key s x m e hold;
}
