-- In one word list the map is one.
use Rattle.txn_hash_map.proofs.Common.{◌≡◌, ℕ, ◌+◌, ◌<◌, Bool, true, false, List, refl, sym, ap, ◌∙◌, ChainMap, BUCKETS, Entries, Blocks, value_of, has_block}
use Rattle.txn_hash_map.proofs.Common.{ChainsHold, bucket_of}
use Rattle.std.specs.Cmp.{nat_cmp_total}
use Rattle.std.specs.FinSet.{nat_cmp-IsAntisymmetric}
use Rattle.txn_hash_map.proofs.Cells.{bucket_below, one_chain}
use Rattle.std.specs.FinSet as set
use Rattle.std.specs.FinMap as entry_map

pub both : (a b : Bool) → (a ≡ true → b ≡ true) → (b ≡ true → a ≡ true) → a ≡ b
both true b f g = sym (f refl)
both false true f g = g refl
both false false f g = refl

module _ (map : ChainMap) (s : List ℕ) (f g : Entries) (u w : Blocks) (h : ChainsHold map s f u) (k : ChainsHold map s g w) where
  same_cells : (i : ℕ) → i < BUCKETS → h.cells i ≡ k.cells i
  same_cells i lt = one_chain map.arena s (map.buckets + i) (map.buckets + i) (h.cells i) (k.cells i) refl (h.chain i lt) (k.chain i lt)

  pub one_map : (f ≡ g) × (u ≡ w)
  one_map = (
    entry_map.same_map nat_cmp_total nat_cmp-IsAntisymmetric f g (λ q. h.entries_are q
        ∙ ap (value_of q) (same_cells (bucket_of q) (bucket_below q)) ∙ sym (k.entries_are q)),
    set.same_set nat_cmp_total nat_cmp-IsAntisymmetric u w (λ q. both (set.contains u q) (set.contains w q)
        (λ m. let d = h.used_in q m in k.in_used q d.0 d.1 (ap (has_block q) (sym (same_cells d.0 d.1)) ∙ d.2))
        (λ m. let d = k.used_in q m in h.in_used q d.0 d.1 (ap (has_block q) (same_cells d.0 d.1) ∙ d.2))),
  )
