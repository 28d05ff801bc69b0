use Rattle.twoplsf.proofs.Common.{rules, ◌≡◌, ◌+◌, IfSome, refl, arith, inl, inr, TakesAtMost, count_taken, MOST_INPUT_BYTES, IsValidCommand, texts_of}
use Rattle.twoplsf.proofs.Common.{refused_size, refused_words}
use Rattle.txn_cells.specs.contracts.numbers.U128Coded.TheImpl.{ghosts as numbers}
use Rattle.twoplsf.proofs.CellLines.{one_list}
use Rattle.twoplsf.proofs.Serving.{by_answer, by_written, no_error, nothing_counted, printed_none, reading_by, valid_is, was_read}
use Rattle.twoplsf.specs.declared.status.Status.TheVariants as status
use Rattle.twoplsf.proofs.serve.serve_words.Goals as goal

pub returns-in_default : goal.returns-in_default
returns-in_default g c =
    let none : IsValidCommand (texts_of c.args.words.now) → ⊥ = c.in_default.ensures.none in
    let left = g.S.Source.left c.args.source.now in
    let taken : TakesAtMost left left (MOST_INPUT_BYTES + 1) = search rules in
    rw c.only.ensures (by_written g.S.Source g.K.Sink numbers one_list (texts_of c.args.words.now) c.args.source.now c.args.source.now
    c.args.sink.now c.finish.new.sink status.BadWords refused_words c.finish.result c.finish.ensures
    (record { unread = λ not. refl; taken = taken; reads = omega arith }) (inl (refl, none, refl)) (λ e. cc) (λ invalid. refl)
    (λ many. absurd (nothing_counted left many)))

pub returns-in-Err-TooLarge : goal.returns-in-Err-TooLarge
returns-in-Err-TooLarge g c =
    let words = texts_of c.args.words.now in let command = c.in-Some.command in let is = c.in-Some.ensures.some in
    let above : IfSome (count_taken (g.S.Source.left c.args.source.now) (g.S.Source.left c.bytes_for.new.source))
    (λ n. n ≡ MOST_INPUT_BYTES + 1) = search rules in
    rw c.only-in-Err-TooLarge.ensures (by_written g.S.Source g.K.Sink numbers one_list words c.args.source.now c.bytes_for.new.source
    c.args.sink.now c.finish-in-Err-TooLarge.new.sink status.TooLarge refused_size c.finish-in-Err-TooLarge.result
    c.finish-in-Err-TooLarge.ensures (was_read g.S.Source words command is c.args.source.now
    c.bytes_for.new.source _ c.bytes_for.ensures.unread c.bytes_for.ensures.taken c.bytes_for.ensures.reads)
    (inr (inl (refl, reading_by words command is c.bytes_for.result c.in-Err-TooLarge.field-0 _ c.in-Err-TooLarge.is c.bytes_for.ensures.unread, above, refl)))
    (λ e. cc) (λ invalid. absurd (invalid (valid_is words command is))) (λ many. refl))

pub returns-in-Ok-run_command : goal.returns-in-Ok-run_command
returns-in-Ok-run_command g c =
    let words = texts_of c.args.words.now in let command = c.in-Some.command in let is = c.in-Some.ensures.some in
    by_answer g.S.Source g.K.Sink numbers one_list words c.args.source.now c.bytes_for.new.source c.args.sink.now
    c.print_answer.new.sink command c.in-Ok.bytes.items c.in-Ok-run_command.answer c.print_answer.result c.print_answer.ensures
    (was_read g.S.Source words command is c.args.source.now c.bytes_for.new.source _ c.bytes_for.ensures.unread
    c.bytes_for.ensures.taken c.bytes_for.ensures.reads) is c.in-Ok.ensures.given
    (rw c.deref.ensures.value at c.in-Ok-run_command.ensures) (λ many. no_error c.in-Ok.bytes _ _ (c.in-Ok.ensures.above_limit many))

-- if there was no memory for the answer
pub returns : goal.returns
returns g c =
    let words = texts_of c.args.words.now in let command = c.in-Some.command in let is = c.in-Some.ensures.some in
    rw c.only-in-Err.ensures (printed_none g.S.Source g.K.Sink numbers one_list words c.args.source.now
    c.bytes_for.new.source c.args.sink.now c.args.sink.now (was_read g.S.Source words command is c.args.source.now
    c.bytes_for.new.source _ c.bytes_for.ensures.unread c.bytes_for.ensures.taken c.bytes_for.ensures.reads)
    (valid_is words command is) refl status.OutOfMemory tt (λ e. cc) (λ e. cc) (λ e. absurd (cc)) (λ many. refl))
