-- What a drill says of the closing books.
use Rattle.twoplsf.proofs.Common.{◌≡◌, ◌≤◌, ℕ, ◌+◌, ◌*◌, List, ◌++◌, length, codes, sym, ◌∙◌, arith, length-map, ClearingInput, IsOutput, DayEnd, place_of_item}
use Rattle.twoplsf.proofs.Common.{agrees_line, IsDayOf, closing_books}
use Rattle.input_maker.proofs.Common.{all_cash, made_submission, all_quantities}
use Rattle.worker_pool.proofs.Common.{places_of_items}
use Rattle.std.proofs.lemmas.List.FromFn.{length-map-range_with_len}
use Rattle.script_reader.proofs.language.Grouped.Outside.{scripts_counted}
use Rattle.books_report.proofs.Order.Turns.{length_of_journal}
use Rattle.input_maker.specs.Made.{made_input, made_submissions, submissions_to}
use Rattle.input_maker.specs.Statements.{AreForMake}
use Rattle.input_maker.specs.Days.{MadeCash, MadeQuantities, all_deposits}
use Rattle.twoplsf.specs.Made.{sum_line, drill_text}

-- an output stays one below a higher limit
pub output_below : (input : ClearingInput) (limit most : ℕ) (text : List ℕ) → limit ≤ most → IsOutput input limit text → IsOutput input most text
output_below input limit most text more output = record {
  scripts = output.scripts;
  journal = output.journal;
  below = λ k d less. let below = output.below k d less in omega arith;
  replies = output.replies;
  text_is = output.text_is;
}

module _ (seed callers scripts workers : ℕ) (day : DayEnd) (is : IsDayOf (made_input seed callers scripts) workers day) where
  -- each script that was asked for was run
  pub scripts_run : length day.done.items ≡ callers * scripts
  unfolding submissions_to
  scripts_run =
      sym (length-map day.done.items place_of_item)
      ∙ length_of_journal (made_input seed callers scripts) (places_of_items day.done.items) is.is_day.journal
      ∙ scripts_counted (made_submissions seed callers scripts)
      ∙ length-map-range_with_len (made_submission seed callers) 0 (callers * scripts)

  -- what is said of the closing books is what the laws say
  pub summary_is : MadeCash → MadeQuantities → AreForMake seed callers scripts → (text : List ℕ)
      → text ≡ sum_line (codes "scripts") (length day.done.items) ++ sum_line (codes "cash") (all_cash (closing_books (made_input seed callers scripts) day))
      ++ sum_line (codes "quantity") (all_quantities (closing_books (made_input seed callers scripts) day)) ++ agrees_line
      → text ≡ drill_text seed callers scripts
  summary_is cash_law quantity_law range text told =
      let places = places_of_items day.done.items in
      let cash_all : all_cash (closing_books (made_input seed callers scripts) day)
      ≡ 200000000 + all_deposits (made_input seed callers scripts) = cash_law seed callers scripts places range is.is_day.journal in
      let quantity_all : all_quantities (closing_books (made_input seed callers scripts) day) ≡ 160000 =
      quantity_law seed callers scripts places range is.is_day.journal in
      told ∙ (λ i. sum_line (codes "scripts") (scripts_run i) ++ sum_line (codes "cash") (cash_all i)
      ++ sum_line (codes "quantity") (quantity_all i) ++ agrees_line)
