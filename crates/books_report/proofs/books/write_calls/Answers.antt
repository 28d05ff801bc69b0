use Rattle.books_report.proofs.Common.{string_bytes, take, ◌+◌, call_line}
use Rattle.books_report.proofs.Outputs.Journals.{take_next}
use Rattle.books_report.proofs.Walking.Walks.{written_next}
use Rattle.books_report.proofs.books.write_calls.Goals as goal

pub loop-place-preserved : goal.loop-place-preserved
loop-place-preserved c =
    let calls = c.args.books.now.calls in
    let place = c.loop-place.place in
    written_next (string_bytes c.args.text.now) (string_bytes c.loop-place.text) (string_bytes c.write_call.new.text)
    call_line (take place calls) (take (place + 1) calls) c.call_at-account.result
    c.loop-place.invariant c.in_ok-write_call.ensures (take_next calls place c.call_at-account.ensures)
