-- What the code's lines and replies say of the scripts that were run.
use Rattle.std.specs.Borrow.{Bor}
use Rattle.std.specs.Prelude.{List, map}
use Rattle.std.specs.List.{zip}
use Rattle.script_reader.specs.Journal.{Place}
use Rattle.books_report.specs.Journals.{RanOf}
use Rattle.books_report.specs.declared.line.Line.{Line}

-- the place of the script that a line is about
abbrev pub place_of_line : Line → Place
place_of_line l = record { caller = l.caller; index = l.index }

module _ {R : Type 0} where
  -- a line and its reply
  abbrev pub ran_of_line : Line → R → RanOf R
  ran_of_line l answer = record { place = place_of_line l; restarts = l.restarts; reply = answer }

  -- the replies that are lent
  abbrev pub lent : List (Bor R) → List R
  lent replies = map (λ reply. reply.now) replies

  -- lines, each with the reply that stands beside it
  abbrev pub scripts_of : List Line → List R → List (RanOf R)
  scripts_of lines replies = map (λ pair. ran_of_line pair.0 pair.1) (zip lines replies)
