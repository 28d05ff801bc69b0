use Rattle.script_reader.proofs.Common.{◌≡◌, ◌+◌, nat_le, length, arith, len-entries}
use Rattle.std.specs.FinMap as map
use Rattle.script_reader.proofs.books.is_full.Goals as goal

pub returns : goal.returns
returns c =
    let b = c.args.books.now in
    let used : c.used.result ≡ length (map.entries b.accounts) + length (map.entries b.prices)
    + length (map.entries b.positions) = omega (arith, c.used.ensures, len-entries b.accounts, len-entries b.prices, len-entries b.positions) in
    λ i. nat_le (c.blocks-2.ensures i) (used i)
