-- How many blocks records take.
use Rattle.record_text.proofs.Common.{◌≡◌, ℕ, ◌*◌, length, ap, arith, nat_cmp_total, nat_cmp, blocks_of, HasRoom}
use Rattle.std.specs.FinMap.{len-empty}
use Rattle.books_model.proofs.Maps.Trees.{len-from_entries}
use Rattle.record_text.specs.Ranges.{IsBlockCount}
use Rattle.std.specs.FinMap as finite
use Rattle.std.specs.BTreeMap as tree

-- no records take none
pub empty_has_room : (blocks : ℕ) → IsBlockCount blocks → HasRoom (record { blocks = blocks; records = finite.empty })
empty_has_room blocks range = record { blocks = range; enough = omega (arith, len-empty nat_cmp (ℕ × ℕ)) }

-- records of a tree take two blocks each
pub blocks_of_tree : (records : tree.BTreeMap ℕ (ℕ × ℕ)) → tree.IsOrdered nat_cmp records
    → blocks_of (finite.from_entries records.entries) ≡ 2 * length records.entries
blocks_of_tree records ordered = ap (λ n. 2 * n) (len-from_entries nat_cmp_total records.entries ordered)
