use Rattle.books_report.proofs.Outputs.Closing.{closing_books_open}
use Rattle.books_report.proofs.laws.closing_books_open.Goals as goal

pub returns : goal.returns
returns c = closing_books_open c.books_stay_in_range.ensures c.scripts_keep_sizes.ensures c.scripts_go_by_instruments.ensures c.each_input_is_within_two.ensures
