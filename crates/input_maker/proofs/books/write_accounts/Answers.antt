use Rattle.input_maker.proofs.Common.{◌+◌, string_bytes, account_line, written_next, accounts_to}
use Rattle.input_maker.proofs.Listing.{written_none, accounts-more, accounts-none}
use Rattle.input_maker.proofs.books.write_accounts.Goals as goal

pub loop-place-init : goal.loop-place-init
loop-place-init c = written_none account_line accounts-none

pub loop-place-preserved : goal.loop-place-preserved
loop-place-preserved c =
    let place = c.loop-place.place in
    written_next (string_bytes c.args.text.now) (string_bytes c.loop-place.text) (string_bytes c.write_account.new.text)
    account_line (accounts_to place) (accounts_to (place + 1)) (place + 1, 1000000)
    c.loop-place.invariant c.in_ok-write_account.ensures (accounts-more place)
