use Rattle.std.proofs.Common.{◌+◌, ◌<◌, ◌^◌, arith}
use Rattle.transfers.proofs.Summing.{read_room}
use Rattle.memory_tests.proofs.counting.added_to.Goals as goal

pub add_to-requires-clause-room : goal.add_to-requires-clause-room
add_to-requires-clause-room c =
    let held = c.in_ok-read.field-0 in
    let fits : held + 2 < 2 ^ 64 = omega (arith, c.if-branch-ne40.false) in
    record { at = (read_room _ _ _ _ 0 held c.in_ok-read.ensures.value 2 fits).at }
