-- The books at the end of a journal, and scripts for them.
use Rattle.books_report.proofs.Common.{◌≡◌, ℕ, ◌<◌, List, [], ◌∷◌, length, refl, ◌∙◌, AllByRecursion, All-weaker, recursion_from_All, caller_at, script_at}
use Rattle.books_report.proofs.Common.{ClearingBooks, AreInRange, Caller, ClearingInput, IsInput, Two, Place, IsPlace, books_after}
use Rattle.script_reader.proofs.Common.{AreCallersFor, callers_of}
use Rattle.std.specs.List.{All}
use Rattle.books_model.specs.Laws.{BooksStayInRange, ScriptsKeepSizes, ScriptsGoByInstruments}
use Rattle.books_model.specs.Ranges.{IsScriptFor}
use Rattle.script_reader.specs.Statements.{EachInputIsWithinTwo}
use Rattle.books_report.specs.Statements.{ClosingBooksOpen}

-- the script of a place can be given to the opening books
pub script_of_place : {input : ClearingInput} {caller index : ℕ} → IsInput input → caller < length input.callers
    → index < length (caller_at input.callers caller).scripts → IsScriptFor input.books (script_at input.callers caller index)
script_of_place {caller} {index} valid within at = valid.callers.scripts caller (record { name = []; scripts = [] }) within index [] at

module _ (in_range : BooksStayInRange) (keep_sizes : ScriptsKeepSizes) (by_instruments : ScriptsGoByInstruments)
    (within_two : EachInputIsWithinTwo) where
  -- scripts of places leave books in range, with as many instruments
  along : {input : ClearingInput} → IsInput input → (order : List Place) → AllByRecursion (IsPlace input) order
      → {books : ClearingBooks} → AreInRange books → books.instruments ≡ input.books.instruments
      → AreInRange (books_after input books order) × ((books_after input books order).instruments ≡ input.books.instruments)
  along valid [] each range same = (range, same)
  along {input} valid (p ∷ order) each {books} range same =
      let script = script_at input.callers p.caller p.index in
      let fits : IsScriptFor books script = by_instruments script input.books books same (script_of_place valid each.0.0 each.0.1) in
      along valid order each.1 (in_range script books range fits) ((keep_sizes script books).instruments ∙ same)

  -- callers with scripts for books are such for others with as many instruments
  callers_for : (books others : ClearingBooks) → others.instruments ≡ books.instruments → (callers : List Caller)
      → AreCallersFor books callers → AreCallersFor others callers
  callers_for books others same callers h = record {
    few = h.few;
    few_scripts = h.few_scripts;
    names = h.names;
    names_differ = h.names_differ;
    scripts = All-weaker (λ c. All (IsScriptFor books) c.scripts) (λ c. All (IsScriptFor others) c.scripts)
        (λ c all. All-weaker (IsScriptFor books) (IsScriptFor others) (λ script. by_instruments script books others same) c.scripts all) callers h.scripts;
    some_scripts = h.some_scripts;
  }

  -- closing books open a new input
  pub closing_books_open : ClosingBooksOpen
  closing_books_open input order submissions valid journal callers =
      let closing = books_after input input.books order in
      let stays = along valid order (recursion_from_All (IsPlace input) order journal.only) valid.books refl in
      let new : IsInput (record { books = closing; callers = callers_of submissions }) =
      record { books = stays.0; callers = callers_for input.books closing stays.1 (callers_of submissions) callers } in
      record {
        version = Two;
        submissions = submissions;
        text = refl;
        callers = refl;
        valid = new;
        within = within_two (record { books = closing; callers = callers_of submissions }) new;
      }
