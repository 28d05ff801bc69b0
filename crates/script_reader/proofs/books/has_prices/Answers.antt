use Rattle.script_reader.proofs.Common.{true, nat_lt, ap, ◌∙◌, arith, is_some, nat_cmp_total, nat_cmp, lt-ltb}
use Rattle.script_reader.proofs.books.Printing.Sections.{each_entry}
use Rattle.script_reader.proofs.Finding.{found_any}
use Rattle.script_reader.proofs.books.has_prices.Goals as goal

pub returns : goal.returns
returns c =
    c.is_some.ensures ∙ ap is_some c.price_after.ensures.first
    ∙ found_any (λ e. nat_lt 0 e.0) (λ _. true) _ (each_entry nat_cmp nat_cmp_total _ c.args.books.now.prices
    (λ e found. lt-ltb 0 e.0 (omega (arith, (c.ranges-2.ensures.prices e.0 e.1 found).0.0))))
