use Rattle.books_report.proofs.Common.{IfOk-weaker, string_bytes, word_of_value}
use Rattle.books_report.proofs.Outputs.Journals.{done_values}
use Rattle.books_report.proofs.words.write_reply.Goals as goal

pub returns-in_ok-push_str-in-Done : goal.returns-in_ok-push_str-in-Done
returns-in_ok-push_str-in-Done c =
    rw c.in-Done.is (IfOk-weaker c.write_values.result _ _ (λ _ h. done_values word_of_value (string_bytes c.args.text.now)
    c.in-Done.values
    c.in_ok-push_str-in-Done.ensures.bytes h) c.write_values.ensures)
