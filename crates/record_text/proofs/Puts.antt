-- Putting a record: what the step comes to, and the blocks after it.
use Rattle.record_text.proofs.Common.{◌≡◌, ℕ, ◌≤◌, Bool, true, false, not, ◌&&◌, Option, Some, None, refl, sym, ap, ◌∙◌, subst, arith, nat_cmp, nat_cmp_total}
use Rattle.record_text.proofs.Common.{nat_tests, get-lookup, RecordValue, RecordStore, blocks_of, is_store_full, record_step_of, Gives, Full, HasRoom}
use Rattle.std.proofs.Common.{IsSome, is_some}
use Rattle.std.specs.Bool.{if◌then◌else◌}
use Rattle.std.specs.BTreeMap.{BTreeMap, get_by}
use Rattle.books_model.proofs.Maps.Trees.{len_after_change, len_after_insert}
use Rattle.std.specs.FinMap as finite
use Rattle.record_text.specs.declared.script.RecordOp.TheVariants as op
use Rattle.record_text.specs.declared.reply.RecordValue.TheVariants as value

-- the value of a record that is put, by whether it was there
abbrev pub put_value : Bool → RecordValue
put_value b = if b then value.Old else value.New

-- whether the record is there, as the tree tells it
pub contains_tree : (tree : BTreeMap ℕ (ℕ × ℕ)) (store : RecordStore) (id : ℕ) (found : Bool) → finite.from_entries tree.entries ≡ store.records
    → found ≡ is_some (get_by (nat_cmp id) tree) → finite.contains_key store.records id ≡ found
contains_tree tree store id found view is = ap (λ records. finite.contains_key records id) (sym view)
    ∙ ap is_some (get-lookup nat_cmp_total tree.entries id) ∙ sym is

-- the two ends of a step, by its test
by_test : {X : Type 0} (b : Bool) (x y : X) → b ≡ true → (if b then x else y) ≡ x
by_test true x y e = refl
by_test false x y e = absurd (cc)

by_other : {X : Type 0} (b : Bool) (x y : X) → b ≡ false → (if b then x else y) ≡ y
by_other true x y e = absurd (cc)
by_other false x y e = refl

module _ (store : RecordStore) (id rank content : ℕ) where
  abbrev lacks : Bool
  lacks = not (finite.contains_key store.records id) && is_store_full store.blocks store.records

  abbrev there : Bool
  there = finite.contains_key store.records id

  pub lacks_blocks : lacks ≡ true → record_step_of store.blocks (op.Put id rank content) store.records ≡ Full
  lacks_blocks e = by_test lacks Full (Gives (put_value there) (finite.insert store.records id (rank, content))) e

  pub is_put : lacks ≡ false → record_step_of store.blocks (op.Put id rank content) store.records
      ≡ Gives (put_value there) (finite.insert store.records id (rank, content))
  is_put e = by_other lacks Full (Gives (put_value there) (finite.insert store.records id (rank, content))) e

  -- how many blocks the records take after it
  longer : (found : Option (ℕ × ℕ)) → finite.get store.records id ≡ found → (not (is_some found) && is_store_full store.blocks store.records) ≡ false
      → blocks_of store.records ≤ store.blocks → blocks_of (finite.insert store.records id (rank, content)) ≤ store.blocks
  longer (Some was) e test enough = omega (
    arith,
    len_after_change nat_cmp_total store.records id (rank, content) (subst IsSome (sym e) refl),
    enough,
  )
  longer None e test enough = grind (arith, len_after_insert nat_cmp_total store.records id (rank, content) e, enough, nat_tests)

  pub put_fits : lacks ≡ false → blocks_of store.records ≤ store.blocks → blocks_of (finite.insert store.records id (rank, content)) ≤ store.blocks
  put_fits e enough = longer (finite.get store.records id) refl e enough

  pub has_room : lacks ≡ false → HasRoom store → HasRoom (record store { records = finite.insert store.records id (rank, content) })
  has_room e room = record { blocks = room.blocks; enough = put_fits e room.enough }
