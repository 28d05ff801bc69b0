use Rattle.twoplsf.proofs.Common.{◌≡◌, ◌+◌, ◌++◌, IfOk, length, map, refl, subst, ◌∙◌, string_bytes, journal_lines, ran_of_item, reply_words}
use Rattle.twoplsf.proofs.Printed.{pieces_joined}
use Rattle.twoplsf.proofs.printing.+fn-write_shared-join+arg2+fn-write_shared-join+arg3+write_shared.Goals as goal

pub returns : goal.returns
returns g t c =
    let input = c.args.input.now in
    let first = c.args.first in
    let front = c.split_at.result.0.now in
    let back = c.split_at.result.1.now in
    let one = subst (λ o. IfOk o (λ whole. string_bytes whole ≡ string_bytes c.args.text
    ++ journal_lines reply_words input.callers first (map ran_of_item front)))
    c.in_ok-whole.was c.join-whole.ensures.first in
    let other = subst (λ o. IfOk o (λ more. string_bytes more ≡ journal_lines reply_words input.callers (first + length front) (map ran_of_item back)))
    c.in_ok-more.was c.join-whole.ensures.second in
    pieces_joined input first (first + length front) c.args.done.now front back
    (string_bytes c.args.text) (string_bytes c.in_ok-whole.whole) c.deref.result.now (string_bytes c.push_str.new.self)
    c.split_at.ensures.by_index.0 refl one (c.deref.ensures ∙ other) c.in_ok-push_str.ensures.bytes
