-- What a sum over keys learns and reads, in every fitting state at once.
use Rattle.txn_tree_map.proofs.Common.{◌≡◌, ℕ, ◌+◌, ◌<◌, ◌≤◌, true, List, [], ◌∷◌, ◌++◌, slice_get, Some, None, inl, inr, sym, ap, ◌∙◌, subst, arith, Read}
use Rattle.txn_tree_map.proofs.Common.{Trace, after, Fits, SomeFits, InEach, Leads, fits_begins, AppendsReads, sees_more, sees_then, block_at, HasMap}
use Rattle.txn_tree_map.proofs.Common.{MayReadRange, Looks, looks_map, looks_wider, seen_before, TreeMap, Named, Walk, tree_part, IsLink, IsAnyWord}
use Rattle.txn_tree_map.proofs.Common.{IsFirstFrom, IsNext, HasNoneTo, IsWalk, HasCome, IsNearOr, looks_value, Reads}
use Rattle.txn_alloc.specs.EntryMaps.{SumsRange}
use Rattle.txn_tree_map.proofs.Summed.{IsSummed, IsTotal}
use Rattle.txn_tree_map.proofs.Searches.Links.{nearest_of, tree_uses, link_seen}
use Rattle.txn_tree_map.proofs.InOrder.SumSteps.{nearest_below, nearest_key, nearest_from, nearest_next, nearest_past, nearest_none, total_sum}

module _ {map : TreeMap} {n : ℕ} {G : List ℕ → Type 0} {t u : Trace} where
  -- what a walk that has come to the first node from a key on says of it, and where it then stands
  module _ {walk : Walk} {least : ℕ} where
    pub come_some : {node : Named} → Looks n G t u (IsLink map) (HasCome map walk least (Some node))
        → Looks n G t u (IsLink map) (IsFirstFrom map least (Some node))
    come_some {node} l = looks_map n G t (IsLink map) u (HasCome map walk least (Some node)) (IsFirstFrom map least (Some node)) (λ s h. h.0) l

    pub come_behind : {node : Named} → Looks n G t u (IsLink map) (HasCome map walk least (Some node)) → InEach n G u (IsWalk map walk (node.key + 1) 0)
    come_behind l = record { at = λ s fit. (l.holds s fit).1 }

  pub come_none : (walk : Walk) (least : ℕ) → walk.whole ≡ true → Looks n G t u (IsLink map) (HasCome map walk least None)
      → Looks n G t u (IsLink map) (IsFirstFrom map least None)
  come_none walk least whole l = looks_map n G t (IsLink map) u (HasCome map walk least None) (IsFirstFrom map least None) (λ s h. h whole) l

  -- a look along links reads no value, whatever the range
  pub links_from : (least high : ℕ) {P : List ℕ → Type 0} → Looks n G t u (IsLink map) P → InEach n G t (HasMap (tree_part map))
      → Reads n G t u (MayReadRange (tree_part map) least high)
  links_from least high l order s fit =
      let o = order.at s (fits_begins n G t u s l.begins fit) in
      sees_more (IsLink map (after t s)) (MayReadRange (tree_part map) least high (after t s) (after u s)) t u
      (λ a k. link_seen o.holds least (λ d. (least ≤ d) × (d ≤ high)) a k) (l.reads s fit)

  -- the first node from a key on, and its value
  module _ {least : ℕ} where
    pub none_from : (high : ℕ) → Looks n G t u (IsLink map) (IsFirstFrom map least None) → Looks n G t u IsAnyWord (HasNoneTo map least high)
    none_from high l = looks_map n G t IsAnyWord u (IsFirstFrom map least None) (HasNoneTo map least high)
        (λ s h. nearest_none high h) (looks_wider n G t u (IsLink map) IsAnyWord (IsFirstFrom map least None) (λ s h a k. tt) l)

    pub past_from : (high : ℕ) {node : Named} → high < node.key → Looks n G t u (IsLink map) (IsFirstFrom map least (Some node))
        → Looks n G t u IsAnyWord (HasNoneTo map least high)
    past_from high {node} lt l = looks_map n G t IsAnyWord u (IsFirstFrom map least (Some node)) (HasNoneTo map least high)
        (λ s h. nearest_past node h high lt)
        (looks_wider n G t u (IsLink map) IsAnyWord (IsFirstFrom map least (Some node)) (λ s h a k. tt) l)

    pub node_below : {node : Named} → Looks n G t u (IsLink map) (IsFirstFrom map least (Some node)) → SomeFits n G u → node.block < map.arena.blocks
    node_below {node} l some = nearest_below node (l.holds some.0 some.1)

    pub node_from : {node : Named} → Looks n G t u (IsLink map) (IsFirstFrom map least (Some node)) → SomeFits n G u → least ≤ node.key
    node_from {node} l some = nearest_from node (l.holds some.0 some.1)

    module _ {node : Named} {v : Trace} {q : ℕ} (x : ℕ) (is_value : q ≡ block_at map.arena node.block + 1)
        (l : Looks n G t u (IsLink map) (IsFirstFrom map least (Some node))) (e : v ≡ u ++ Read q x ∷ []) where
      both_from : Looks n G t v (IsNearOr (IsLink map) q) (λ s. IsFirstFrom map least (Some node) s × (slice_get s q ≡ Some x))
      both_from = looks_value n G t u l v q x e

      pub next_from : Looks n G t v IsAnyWord (IsNext map least node.key x)
      next_from = looks_map n G t IsAnyWord v _ (IsNext map least node.key x)
          (λ s h. nearest_next node h.0 x (ap (slice_get s) (sym is_value) ∙ h.1))
          (looks_wider n G t v (IsNearOr (IsLink map) q) IsAnyWord _ (λ s h a k. tt) both_from)

      pub value_from : {high : ℕ} → node.key ≤ high → InEach n G t (HasMap (tree_part map)) → Reads n G t v (MayReadRange (tree_part map) least high)
      value_from {high} le order s fit =
          let seen = seen_before n G t v both_from s fit in
          let o = order.at s (fits_begins n G t v s both_from.begins fit) in
          let IsKey : ℕ → Type 0 = λ d. (least ≤ d) × (d ≤ high) in
          let step : (a : ℕ) → IsNearOr (IsLink map) q (after t s) a → MayReadRange (tree_part map) least high (after t s) (after v s) a = λ a k. elim k [
            | inl m ↦ link_seen o.holds least IsKey a m
            | inr d ↦ inr (
              node.block,
              tree_uses o.holds node.block (nearest_of node seen.0),
              inr (inr (d ∙ is_value, (node.key, (nearest_from node seen.0, le), nearest_key node seen.0))),
            )
          ] in
          sees_more (IsNearOr (IsLink map) q (after t s)) (MayReadRange (tree_part map) least high (after t s) (after v s)) t v step (both_from.reads s fit)

-- of a range within another no more values are read
pub range_more : (map : TreeMap) (low least high : ℕ) (s t : List ℕ) (a : ℕ) → low ≤ least
    → MayReadRange (tree_part map) least high s t a → MayReadRange (tree_part map) low high s t a
range_more map low least high s t a le (inl e) = inl e
range_more map low least high s t a le (inr k) = inr (
  k.0,
  k.1,
  elim (k.2) [
    | inl e ↦ inl e
    | inr d ↦ inr (elim d [ inl e ↦ inl e | inr q ↦ let is = q.1.1 in inr (q.0, (q.1.0, (omega (arith, is.0), is.1), q.1.2)) ])
  ],
)

-- one entry after another
module _ {map : TreeMap} {low high least turns total : ℕ} {n : ℕ} {G : List ℕ → Type 0} {t u v : Trace}
    (l : Looks n G t u IsAnyWord (IsSummed map low high least turns total)) where
  pub reads_on : {P : List ℕ → Type 0} → Looks n G u v IsAnyWord P → low ≤ least
      → Reads n G t u (MayReadRange (tree_part map) low high)
      → Reads n G u v (MayReadRange (tree_part map) least high)
      → Reads n G t v (MayReadRange (tree_part map) low high)
  reads_on m le first second s fit =
      let fit_u : Fits n G u s = fits_begins n G u v s m.begins fit in
      let may : ℕ → Type 0 = MayReadRange (tree_part map) low high (after t s) (after v s) in
      let more : AppendsReads u v (MayReadRange (tree_part map) least high (after t s) (after v s)) =
      subst (λ z. AppendsReads u v (MayReadRange (tree_part map) least high z (after v s))) (l.same s fit_u) (second s fit) in
      sees_then may t u v (first s fit_u) (sees_more (MayReadRange (tree_part map) least high (after t s) (after v s))
      may u v (λ a k. range_more map low least high (after t s) (after v s) a le k) more)

-- the whole sum
pub sums_range : {map : TreeMap} {low high total : ℕ} {n : ℕ} {G : List ℕ → Type 0} {t u : Trace}
    → Looks n G t u IsAnyWord (IsTotal map low high total) → Leads n G t u (SumsRange (tree_part map) low high total)
sums_range {low} {high} {n} {G} {t} {u} l = record {
  at = λ s fit. record { same = l.same s fit; sum = λ f used hold. total_sum low high (seen_before n G t u l s fit) hold };
}
