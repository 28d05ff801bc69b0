use Rattle.script_reader.proofs.Common.{codes, take, drop, length, ◌+◌, ◌-◌, sym, ◌∙◌, bytes_eq-Decides}
use Rattle.script_reader.proofs.books.Texts.Piecing.{begins_behind}
use Rattle.script_reader.proofs.books.pieces.script_from.Goals as goal

pub returns-then-starts_with-clause-between : goal.returns-then-starts_with-clause-between
returns-then-starts_with-clause-between c =
    let bytes = c.args.bytes.now in
    let behind = c.loop-place.place + 1 in
    let after = take (length bytes - behind) (drop behind bytes) in
    begins_behind bytes c.loop-place-test.true c.if-bytes-place-eq-LINE_FEED.true
    ((bytes_eq-Decides (codes "script ") (take 7 after)).0 (sym c.starts_with.ensures.value ∙ c.if-starts_with.true))
