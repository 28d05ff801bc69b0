-- What a call on one part leaves, as laws.
use Rattle.order_match.proofs.Common.{suc, arith, with_last, with_places, with_side}
use Rattle.txn_alloc.proofs.Apart.{two_among}
use Rattle.order_match.specs.Statements.{ChainChangeStands, LastChangeStands, TreeChangeStands}
use Rattle.order_match.proofs.Family.{changed, family_of, last_changed, parts_of}

pub tree_change_stands : TreeChangeStands
tree_change_stands shape old new held parts side entries used_after free key lt tree lists as_many kept =
    parts_of shape new (with_side side entries held)
    (changed shape old held (family_of shape old held parts) new (suc side) (omega (arith, lt)) key kept entries used_after free tree lists
    (λ b. let same = as_many b in omega (arith, same, two_among b used_after free, two_among b (parts.side_used side) parts.free)))

pub chain_change_stands : ChainChangeStands
chain_change_stands shape old new held parts places used_after free key chains lists as_many kept =
    parts_of shape new (with_places places held)
    (changed shape old held (family_of shape old held parts) new 0 (omega arith) key kept places used_after free chains lists
    (λ b. let same = as_many b in omega (arith, same, two_among b used_after free, two_among b parts.chain_used parts.free)))

pub last_change_stands : LastChangeStands
last_change_stands shape old new held last parts there kept =
    parts_of shape new (with_last last held) (last_changed shape old held (family_of shape old held parts) new last there kept)
