-- What an insert of a new key leads to, writes and reads, in every fitting state at once.
use Rattle.txn_hash_map.proofs.Common.{ℕ, inl, inr, List, Some, Trace, after, Begins, Fits, InEach, Leads, begins_trans, fits_begins, KeepsOthers, AppendsOnly}
use Rattle.txn_hash_map.proofs.Common.{AppendsReads, Looks, each_looked, seen_before, IsHead, TakesBlock, Entries, Blocks, HasMapApart, HoldsApart, IsOwn}
use Rattle.txn_hash_map.proofs.Common.{ChainMap, IsLaid, chain_part, IsMissing, IsLink, IsPutInFront, IsBucketOrIn}
use Rattle.txn_alloc.proofs.Common.{leads_back, IsNearest, IsWrittenByTake, IsReadByTake, Takes, Inserts, TakesNearest, MayReadToInsert}
use Rattle.txn_alloc.specs.declared.put.Put.TheVariants.{New}
use Rattle.txn_alloc.proofs.Maps.Parts.{IsOne}
use Rattle.txn_hash_map.proofs.OneMap.{one_map}
use Rattle.txn_hash_map.proofs.Steps.{missing_value}
use Rattle.txn_hash_map.proofs.Looks.{near_own}
use Rattle.txn_hash_map.proofs.Stands.{laid_alike}
use Rattle.txn_hash_map.proofs.Changes.{left_new}
use Rattle.txn_alloc.proofs.Maps.Founds as founds

-- in one word list the map is one
pub is_one : (map : ChainMap) → IsOne (chain_part map)
is_one map = λ s f g u v. one_map map s f g u v

module _ {map : ChainMap} {key : ℕ} (x : ℕ) {n : ℕ} {G : List ℕ
    → Type 0} {t u : Trace} (order : InEach n G t (HasMapApart (chain_part map)))
    (l : Looks n G t u (IsLink map key) (IsMissing map key)) {v : Trace} (bv : Begins u v) where
  -- the map lies as before
  pub laid_taken : Leads n G u v (KeepsOthers (IsHead map.arena)) → InEach n G v (IsLaid map)
  laid_taken keeps = record {
    at = λ s fit. laid_alike (after v s) ((keeps.at s fit).count)
        (((each_looked n G t u l (HasMapApart (chain_part map)) order).at s (fits_begins n G u v s bv fit)).holds.map.laid);
  }

  -- a block was taken, and put in front of the chain
  module _ {w : Trace} {b : ℕ} (bw : Begins v w) (takes : Leads n G u v (Takes map.arena (Some b))) (keeps : Leads n G u v (KeepsOthers (IsHead map.arena)))
      (puts : Leads n G v w (IsPutInFront map key x b)) where
    begins : Begins t w
    begins = begins_trans t u w l.begins (begins_trans u v w bv bw)

    inserted : (s : List ℕ) → Fits n G w s → (f : Entries) (used free : Blocks)
        → HoldsApart (chain_part map) (after t s) f used free → founds.InsertsIn (chain_part map) key x b (after w s) f used free
    inserted s fit f used free hold =
        let fit_v : Fits n G v s = fits_begins n G v w s bw fit in
        let missing : IsMissing map key (after t s) = seen_before n G t u l s (fits_begins n G u v s bv fit_v) in
        let taken : TakesBlock map.arena b (after t s) (after v s) free =
        (leads_back n G t u l v (Takes map.arena (Some b)) bv takes).at s fit_v free hold.free_lists in
        let kept : KeepsOthers (IsHead map.arena) (after t s) (after v s) = (leads_back n G t u l v (KeepsOthers (IsHead map.arena)) bv keeps).at s fit_v in
        record {
          absent = missing_value map key (after t s) missing hold.map;
          was_free = taken.was_free;
          left =
              left_new hold missing taken kept (puts.at s fit);
        }

    pub inserts_new : Leads n G t w (Inserts (chain_part map) key x New)
    inserts_new = founds.inserts_new (chain_part map) (is_one map) key x n G t w b begins inserted

    pub takes_new : Leads n G u v (λ x y. IsNearest map.arena key b x) → Leads n G t w (TakesNearest (chain_part map) key)
    takes_new nearest = founds.takes_new (chain_part map) (is_one map) key x n G t w b begins inserted order u v l bv bw nearest

    pub owns_new : AppendsOnly u v (IsWrittenByTake map.arena (Some b)) → AppendsOnly v w (IsBucketOrIn map key b)
        → (s : List ℕ) → Fits n G w s → AppendsOnly t w (IsOwn (chain_part map) key (after t s) (after w s))
    owns_new heads front s fit = founds.owns_new (chain_part map) (is_one map) key x n G t w b begins inserted order u v l s fit heads front
        (λ a k. elim k [
          | inl m ↦ inl m
          | inr m ↦
              inr (inl (b, inr (founds.uses_new (chain_part map) (is_one map) key x n G t w b begins inserted order s fit), m))
        ])

    pub sees_new : AppendsReads u v (IsReadByTake map.arena key (Some b)) → AppendsReads v w (IsBucketOrIn map key b)
        → (s : List ℕ) → Fits n G w s → AppendsReads t w (MayReadToInsert (chain_part map) key New (after t s) (after w s))
    sees_new names front s fit = founds.sees_new (chain_part map) (is_one map) key x n G t w b begins inserted order u v
        l s fit (near_own map key) bv bw names front
        (λ a k. elim k [
          | inl e ↦ inl (inl e)
          | inr m ↦
              inr (b, founds.moved_new (chain_part map) (is_one map) key x n G t w b begins inserted order s fit, inr m)
        ])
