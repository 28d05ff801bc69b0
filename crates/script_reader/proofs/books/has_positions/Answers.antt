use Rattle.script_reader.proofs.Common.{◌||◌, ◌&&◌, ◌==◌, true, nat_lt, ap, ◌∙◌, arith, is_some, is_lt, lt-ltb, position_cmp, positions_total}
use Rattle.script_reader.proofs.books.Printing.Sections.{each_entry, less_pair}
use Rattle.script_reader.proofs.books.WithoutFault.BooksFaultless.{some_of}
use Rattle.script_reader.proofs.Finding.{found_any, map_found}
use Rattle.std.specs.FinMap as map
use Rattle.script_reader.proofs.books.has_positions.Goals as goal

pub returns : goal.returns
returns c =
    c.is_some.ensures ∙ ap is_some c.position_after.ensures.first ∙ map_found _ _
    ∙ found_any (λ e. is_lt (position_cmp (0, 0) e.0)) (λ _. true) _ (each_entry position_cmp positions_total _ c.args.books.now.positions (λ e found.
    let range = c.ranges-2.ensures in
    let account = some_of (map.get c.args.books.now.accounts e.0.0) (range.positions e.0.0 e.0.1 e.1 found).0 in
    ap is_lt (less_pair (0, 0) e.0
    (ap (λ b. b || ((0 == e.0.0) && nat_lt 0 e.0.1)) (lt-ltb 0 e.0.0 (omega (arith, (range.accounts e.0.0 account.0 account.1).0.0)))))))
