-- The records that words stand for are one, and take the blocks that are not free.
use Rattle.txn_records.proofs.Common.{◌≡◌, ℕ, ◌+◌, ◌<◌, true, List, Option, Some, None, refl, sym, ap, ◌∙◌, arith, nat_tests, nat_cmp_total}
use Rattle.txn_records.proofs.Common.{nat_cmp-IsAntisymmetric, Records, is_store_full, data_at_rank, RecordShape, ById, ByRank, tree_of, index_key_of, Trees}
use Rattle.txn_records.proofs.Common.{HoldRecords, RecordsAreInRange, Stands, rank_in}
use Rattle.record_text.proofs.Common.{blocks_of}
use Rattle.std.proofs.Common.{◌↔◌}
use Rattle.txn_records.proofs.Held.{id_below, some_record, no_record, data_here}
use Rattle.txn_records.proofs.Lengths.{lengths}
use Rattle.txn_records.proofs.Sides.{trees_counted}
use Rattle.std.specs.FinSet as set
use Rattle.std.specs.FinMap as finite
use Rattle.txn_tree_map.proofs.Maps as trees

-- a rank with data
abbrev with_rank : ℕ → Option ℕ → Option (ℕ × ℕ)
with_rank rank None = None
with_rank rank (Some x) = Some (rank, x)

-- trees that hold the same hold the same records
module _ (mine theirs : Trees) (records others : Records) (held : HoldRecords mine records) (holds : HoldRecords theirs others)
    (range : RecordsAreInRange records) (ranks : mine.ranks ≡ theirs.ranks) (index : mine.index ≡ theirs.index) where
  same_rank : (id : ℕ) → rank_in (finite.get records id) ≡ rank_in (finite.get others id)
  same_rank id = sym (held.ranks id) ∙ ap (λ m. finite.get m id) ranks ∙ holds.ranks id

  same_at : (id : ℕ) (o : Option (ℕ × ℕ)) → finite.get records id ≡ o → finite.get records id ≡ finite.get others id
  same_at id None is = is ∙ sym (no_record (finite.get others id) (sym (same_rank id) ∙ ap rank_in is))
  same_at id (Some stored) is =
      let lt = id_below id (range id stored.0 stored.1 is).0 in
      let other = some_record (finite.get others id) stored.0 (sym (same_rank id) ∙ ap rank_in is) in
      let here : finite.get mine.index (index_key_of stored.0 id) ≡ Some stored.1 =
      held.index stored.0 id lt ∙ ap (data_at_rank stored.0) is ∙ data_here stored.0 stored.1 in
      let there : finite.get theirs.index (index_key_of stored.0 id) ≡ Some other.0 =
      holds.index stored.0 id lt ∙ ap (data_at_rank stored.0) other.1 ∙ data_here stored.0 other.0 in
      let same : Some stored.1 ≡ Some other.0 = sym here ∙ ap (λ m. finite.get m (index_key_of stored.0 id)) index ∙ there in
      is ∙ ap (λ (x : Option ℕ). with_rank stored.0 x) same ∙ sym other.1

  pub same_records : records ≡ others
  same_records = finite.same_map nat_cmp_total nat_cmp-IsAntisymmetric records others (λ id. same_at id (finite.get records id) refl)

pub one_map : (shape : RecordShape) (words : List ℕ) (records others : Records) → Stands shape words records → Stands shape words others → records ≡ others
one_map shape words records others h k =
    same_records h.trees k.trees records others h.held k.held h.range
    (trees.one_map (tree_of shape ById) words h.trees.ranks k.trees.ranks h.parts.id_used k.parts.id_used h.parts.by_id k.parts.by_id).0
    (trees.one_map (tree_of shape ByRank) words h.trees.index k.trees.index h.parts.index_used k.parts.index_used h.parts.by_rank k.parts.by_rank).0

pub free_counted : (shape : RecordShape) (words : List ℕ) (records : Records) (stand : Stands shape words records)
    → set.len stand.parts.free + blocks_of records ≡ shape.blocks
free_counted shape words records stand =
    let lens = lengths (finite.len records) _ _ refl stand.range stand.held in
    omega (arith, lens.0, lens.1, trees_counted stand.parts)

pub full_without_two : (shape : RecordShape) (words : List ℕ) (records : Records) (stand : Stands shape words records)
    → (set.len stand.parts.free < 2) ↔ (is_store_full shape.blocks records ≡ true)
full_without_two shape words records stand =
    let all = free_counted shape words records stand in
    (λ few. grind (arith, nat_tests, few, all), λ full. grind (arith, nat_tests, full, all))
