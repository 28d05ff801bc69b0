use Rattle.input_maker.proofs.Common.{string_bytes}
use Rattle.std.proofs.lemmas.Result.{on_ok_weaker}
use Rattle.input_maker.proofs.Opening.{opening_written}
use Rattle.input_maker.proofs.books.write_opening.Goals as goal

pub returns : goal.returns
returns c =
    on_ok_weaker c.write_positions.result
    (opening_written (string_bytes c.args.text.now)
    c.in_ok-write_header.ensures c.in_ok-write_accounts.ensures c.in_ok-write_prices.ensures) c.write_positions.ensures
