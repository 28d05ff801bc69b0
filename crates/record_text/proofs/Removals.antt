-- Taking a record out: what the step comes to, and the blocks after it.
use Rattle.record_text.proofs.Common.{◌≡◌, ℕ, ◌≤◌, Bool, true, false, cond, List, Some, None, ap, ◌∙◌, arith, is_at, lookup, nat_cmp, nat_cmp_total}
use Rattle.record_text.proofs.Common.{exact_unsigned, Records, RecordStore, blocks_of, with_record, record_step_of, Gives, HasRoom}
use Rattle.books_report.proofs.Common.{Absent}
use Rattle.std.proofs.Common.{◌-◌}
use Rattle.std.specs.FinMap.{len-remove}
use Rattle.books_model.proofs.Maps.Trees.{from_entries-removed}
use Rattle.std.specs.FinMap as finite
use Rattle.record_text.specs.declared.reply.RecordValue.TheVariants as value
use Rattle.record_text.specs.declared.script.RecordOp.TheVariants as op

-- as many records or one less
fewer : (b : Bool) (n : ℕ) → cond b (n - 1) n ≤ n
fewer true n = omega arith
fewer false n = omega arith

pub no_more : (records : Records) (id : ℕ) → blocks_of (finite.remove records id) ≤ blocks_of records
no_more records id = omega (arith, len-remove nat_cmp_total records id, fewer (finite.contains_key records id) (finite.len records))

-- the records without one have room
pub keeps_room : (store : RecordStore) (id : ℕ) → HasRoom store → HasRoom (record store { records = finite.remove store.records id })
keeps_room store id room = record { blocks = room.blocks; enough = omega (arith, no_more store.records id, room.enough) }

-- what is taken out of a tree is taken out of the records
pub removed_from_tree : (tree now : List (ℕ × (ℕ × ℕ))) (records : Records) (id : ℕ) → finite.from_entries tree ≡ records
    → ((q : ℕ) → lookup (is_at (nat_cmp q)) now ≡ cond (is_at (nat_cmp id) q) None (lookup (is_at (nat_cmp q)) tree))
    → finite.from_entries now ≡ finite.remove records id
removed_from_tree tree now records id view changed =
    from_entries-removed nat_cmp_total exact_unsigned tree now id changed ∙ ap (λ m. finite.remove m id) view

module _ (store : RecordStore) (id : ℕ) where
  pub is_gone : (was : ℕ × ℕ) → finite.get store.records id ≡ Some was
      → record_step_of store.blocks (op.Remove id) store.records ≡ Gives value.Gone (finite.remove store.records id)
  is_gone was found = ap (λ r. with_record r (λ stored. Gives value.Gone (finite.remove store.records id))) found

  pub is_absent : finite.get store.records id ≡ None → record_step_of store.blocks (op.Remove id) store.records ≡ Absent
  is_absent found = ap (λ r. with_record r (λ stored. Gives value.Gone (finite.remove store.records id))) found
