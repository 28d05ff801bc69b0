-- What an insert of a new key leads to, writes and reads, in every fitting state at once.
use Rattle.txn_tree_map.proofs.Common.{◌≡◌, ℕ, inl, inr, true, List, ◌++◌, Some, ◌∙◌, subst, Trace, after, Begins, Fits, InEach, Leads, begins_trans}
use Rattle.txn_tree_map.proofs.Common.{fits_begins, KeepsOthers, AppendsOnly, AppendsReads, Looks, leads_back, seen_before, IsHead, IsInBlock, TakesBlock}
use Rattle.txn_tree_map.proofs.Common.{Entries, Blocks, has_block, HasMapApart, HoldsApart, IsUsedIn, IsOwn, TreeMap, tree_part, before_of, after_of, IsLink}
use Rattle.txn_tree_map.proofs.Common.{IsMissing, CanPut, IsPut, IsPutOwn, IsPutSeen, Writes, Reads}
use Rattle.txn_alloc.proofs.Common.{IsNearest, IsWrittenByTake, IsReadByTake, Takes, MayReadToInsert, Inserts, TakesNearest}
use Rattle.txn_alloc.specs.declared.put.Put.TheVariants.{New}
use Rattle.txn_alloc.proofs.Maps.Parts.{IsOne}
use Rattle.txn_tree_map.proofs.Held.Places.{at_used}
use Rattle.txn_tree_map.proofs.Searches.Gets.{near_own}
use Rattle.txn_tree_map.proofs.Maps.{one_map, tree_headed, can_put, inserted_new}
use Rattle.txn_alloc.proofs.Maps.Founds as founds

-- in one word list the map is one
pub is_one : (map : TreeMap) → IsOne (tree_part map)
is_one map = λ s f g u v. one_map map s f g u v

module _ {map : TreeMap} {key : ℕ} (x : ℕ) {n : ℕ} {G : List ℕ
    → Type 0} {t u : Trace} (order : InEach n G t (HasMapApart (tree_part map)))
    (l : Looks n G t u (IsLink map) (IsMissing map key)) {v : Trace} (bv : Begins u v)
    (b : ℕ) (takes : Leads n G u v (Takes map.arena (Some b))) (keeps : Leads n G u v (KeepsOthers (IsHead map.arena))) where
  order_start : {s : List ℕ} → Fits n G v s → HasMapApart (tree_part map) (after t s)
  order_start {s} fit = order.at s (fits_begins n G t u s l.begins (fits_begins n G u v s bv fit))

  missing_start : {s : List ℕ} → Fits n G v s → IsMissing map key (after t s)
  missing_start {s} fit = seen_before n G t u l s (fits_begins n G u v s bv fit)

  taken : {s : List ℕ} → Fits n G v s → {f : Entries} {used free : Blocks}
      → HoldsApart (tree_part map) (after t s) f used free → TakesBlock map.arena b (after t s) (after v s) free
  taken {s} fit {free} hold = (leads_back n G t u l v (Takes map.arena (Some b)) bv takes).at s fit free hold.free_lists

  kept : {s : List ℕ} → Fits n G v s → KeepsOthers (IsHead map.arena) (after t s) (after v s)
  kept {s} fit = (leads_back n G t u l v (KeepsOthers (IsHead map.arena)) bv keeps).at s fit

  -- the block that was taken may be put in
  can_start : (s : List ℕ) → Fits n G v s → CanPut map key b (after v s)
  can_start s fit =
      let o = order_start fit in
      can_put o.holds (missing_start fit) (taken fit o.holds) (kept fit)

  pub can_put_each : InEach n G v (CanPut map key b)
  can_put_each = record { at = can_start }

  module _ {w : Trace} (bw : Begins v w) (puts : Leads n G v w (IsPut map key x b)) where
    begins : Begins t w
    begins = begins_trans t u w l.begins (begins_trans u v w bv bw)

    fits_v : {s : List ℕ} → Fits n G w s → Fits n G v s
    fits_v {s} fit = fits_begins n G v w s bw fit

    inserted : (s : List ℕ) → Fits n G w s → (f : Entries) (used free : Blocks)
        → HoldsApart (tree_part map) (after t s) f used free → founds.InsertsIn (tree_part map) key x b (after w s) f used free
    inserted s fit f used free hold =
        inserted_new hold (missing_start (fits_v fit))
        (taken (fits_v fit) hold) (kept (fits_v fit)) (puts.at s fit)

    pub inserts_new : Leads n G t w (Inserts (tree_part map) key x New)
    inserts_new = founds.inserts_new (tree_part map) (is_one map) key x n G t w b begins inserted

    pub takes_new : Leads n G u v (λ x y. IsNearest map.arena key b x) → Leads n G t w (TakesNearest (tree_part map) key)
    takes_new nearest = founds.takes_new (tree_part map) (is_one map) key x n G t w b begins inserted order u v l bv bw nearest

    -- a block of the tree was used before
    uses_old : {s : List ℕ} (fit : Fits n G w s) (d : ℕ) → (let none = (can_start s (fits_v fit)).missing in
        has_block d (before_of none.path ++ after_of none.path) ≡ true) → IsUsedIn (tree_part map) (after t s) d
    uses_old {s} fit d k =
        let o = order_start (fits_v fit) in
        let none : IsMissing map key (after v s) = (can_start s (fits_v fit)).missing in
        let headed =
        tree_headed map (after t s) (after v s) o.entries o.used o.holds.map (kept (fits_v fit)) in
        (o.entries, o.used, o.holds.map, at_used none.is_at headed d ∙ k)

    pub owns_new : AppendsOnly u v (IsWrittenByTake map.arena (Some b))
        → Writes n G v w (IsPutOwn map key b)
        → Writes n G t w (IsOwn (tree_part map) key)
    owns_new heads own s fit = founds.owns_new (tree_part map) (is_one map) key x n G t w b begins inserted order u v l s fit heads (own s fit)
        (λ a k. elim (k (can_start s (fits_v fit))) [
          | inl e ↦ inl e
          | inr m ↦ elim (m.1) [
            | inl e ↦ inr (inl (
              b,
              inr (founds.uses_new (tree_part map) (is_one map) key x n G t w b begins inserted
                  order s fit),
              subst (λ d. IsInBlock map.arena d a) e m.2,
            ))
            | inr z ↦ inr (inl (m.0, inl (uses_old fit m.0 z), m.2))
          ]
        ])

    pub sees_new : AppendsReads u v (IsReadByTake map.arena key (Some b))
        → Reads n G v w (IsPutSeen map key b)
        → Reads n G t w (MayReadToInsert (tree_part map) key New)
    sees_new names seen s fit = founds.sees_new (tree_part map) (is_one map) key x n G t w b begins inserted order u v l
        s fit (near_own map key) bv bw names (seen s fit)
        (λ a k. elim (k (can_start s (fits_v fit))) [
          | inl e ↦ inl (inl e)
          | inr m ↦ elim m [
            | inl here ↦ inr (b, founds.moved_new (tree_part map) (is_one map) key x n G t w b begins inserted order s fit, inr here)
            | inr q ↦ inl (inr (q.0, uses_old fit q.0 q.1, elim (q.2) [ inl e ↦ inl e | inr d ↦ inr (inl d) ]))
          ]
        ])
