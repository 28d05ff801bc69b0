use Rattle.books_report.proofs.Common.{◌++◌, nat_lt, refl, sym, ap, ◌∙◌, append-nil, nat_cmp_total, string_bytes, flat_map, entries, entries_sorted}
use Rattle.books_report.proofs.Common.{is_lt-nat_cmp, price_line}
use Rattle.books_report.proofs.Walking.Walks.{up_to, up_to-next, up_to_all, written_next}
use Rattle.books_report.proofs.Walking.Walked.{prices_from}
use Rattle.books_report.proofs.books.write_prices.Goals as goal

pub loop-instrument-init : goal.loop-instrument-init
loop-instrument-init c = rw (prices_from c.requires, append-nil) refl

pub loop-instrument-preserved : goal.loop-instrument-preserved
loop-instrument-preserved c =
    let m = c.args.books.now.prices in
    let more = up_to-next nat_cmp_total nat_lt is_lt-nat_cmp c.loop-instrument.last (entries m) (
      c.in-Some.instrument,
      c.in-Some.price,
    ) (entries_sorted m) (sym c.in-Some.ensures.first) in
    written_next (string_bytes c.args.text.now) (string_bytes c.loop-instrument.text) (string_bytes c.write_price.new.text) price_line
    (up_to nat_lt c.loop-instrument.last (entries m)) (up_to nat_lt c.in-Some.instrument (entries m))
    (c.in-Some.instrument, c.in-Some.price) c.loop-instrument.invariant c.in_ok-write_price.ensures more

pub returns : goal.returns
returns c =
    let m = c.args.books.now.prices in
    let all = up_to_all nat_cmp_total nat_lt is_lt-nat_cmp c.loop-instrument.last (entries m) (sym c.in_default.ensures.first) in
    c.loop-instrument.invariant ∙ ap (λ es. string_bytes c.args.text.now ++ flat_map price_line es) all
