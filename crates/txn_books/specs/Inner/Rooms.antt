-- What an insert's answer says of room.
use Rattle.std.specs.Prelude.{Bool, true, false}
use Rattle.txn_alloc.specs.declared.put.Put.{Put}
use Rattle.txn_alloc.specs.declared.put.Put.TheVariants.{New, Old, Full}

-- whether a block was there for what was put in, if it needed one
abbrev pub had_room : Put → Bool
had_room New = true
had_room (Old was) = true
had_room Full = false
