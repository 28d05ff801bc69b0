use Rattle.order_text.proofs.Common.{◌++◌, sym, ap, ◌∙◌, append-nil, iter_rest, string_bytes, flat_map, next_trade}
use Rattle.std.proofs.lemmas.List.{nil_from_length}
use Rattle.books_report.proofs.Outputs.Journals.{piece_next}
use Rattle.order_text.proofs.words.write_trades.Goals as goal

pub loop-trade-preserved : goal.loop-trade-preserved
loop-trade-preserved c =
    piece_next next_trade _ (string_bytes c.loop-trade.text) _ (iter_rest c.loop-trade.trade-iterator) (iter_rest c.next.new.self)
    c.in-Some.trade.now c.loop-trade.invariant c.in-Some.ensures.steps c.in_ok-write_next.ensures

pub returns : goal.returns
returns c =
    sym (append-nil _)
    ∙ sym (ap (λ trades. string_bytes c.loop-trade.text ++ flat_map next_trade trades) (nil_from_length _ c.in-None.ensures.steps.0))
    ∙ c.loop-trade.invariant
