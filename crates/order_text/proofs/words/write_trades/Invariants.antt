use Rattle.order_text.proofs.Common.{◌≡◌, ◌++◌, iter_rest, string_bytes, flat_map, next_trade}
use Rattle.order_text.proofs.words.write_trades.Given as goal

-- the text so far and the trades that are left are the whole
abbrev pub invariant-loop-trade : goal.invariant-loop-trade
invariant-loop-trade l = string_bytes l.text ++ flat_map next_trade (iter_rest l.trade-iterator) ≡ string_bytes l.fn.text ++ flat_map next_trade l.trades
