use Rattle.record_text.proofs.Common.{◌≡◌, ◌∷◌, ◌++◌, sym, ap, ◌∙◌, iter_rest, string_bytes, number, ids_word}
use Rattle.std.proofs.lemmas.Result.{IfOk-weaker}
use Rattle.record_text.proofs.Printing.{ids_joined}
use Rattle.record_text.proofs.words.write_ids.Goals as goal

pub returns-in_ok-push_number-in-Some : goal.returns-in_ok-push_number-in-Some
returns-in_ok-push_number-in-Some c =
    let left = iter_rest c.next.new.self in
    let ids : c.args.ids.now ≡ c.in-Some.first.now ∷ left = sym c.iter-left.ensures ∙ c.in-Some.ensures.steps in
    let first = c.in_ok-push_number-in-Some.ensures ∙ ap (λ n. string_bytes c.args.text.now ++ number n) c.from.ensures in
    IfOk-weaker c.write_more_ids.result _ _ (λ _ h. ids_joined (string_bytes c.args.text.now) (string_bytes c.push_number.new.text)
    (string_bytes c.write_more_ids.new.text) c.in-Some.first.now left first h
    ∙ ap (λ ids. string_bytes c.args.text.now ++ ids_word ids) (sym ids)) c.write_more_ids.ensures
