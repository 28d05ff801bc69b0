-- Jobs that were run as scripts of callers.
use Rattle.std.specs.Prelude.{ℕ, List, length, map}
use Rattle.txn_commit.specs.declared.lists.Done.{Done}
use Rattle.script_reader.specs.Gathered.{CallerOf, caller_at}
use Rattle.script_reader.specs.Journal.{Place}
use Rattle.books_report.specs.declared.line.Line.{Line}
use Rattle.books_report.specs.declared.stores.reply.StoreReply.{StoreReply}
use Rattle.books_report.specs.Journals.{RanOf}

-- the place of the script that was run
abbrev pub place_of_done : {A : Type 0} → Done A → Place
place_of_done item = record { caller = item.caller; index = item.index }

-- the places of items
abbrev pub places_of_done : {A : Type 0} → List (Done A) → List Place
places_of_done done = map place_of_done done

-- the line of an item
abbrev pub line_of_done : {A : Type 0} → Done A → Line
line_of_done item = record { caller = item.caller; index = item.index; restarts = item.restarts }

-- the items as they are printed
abbrev pub scripts_done : {V : Type 0} → List (Done (StoreReply V)) → List (RanOf (StoreReply V))
scripts_done done =
    map (λ item. record { place = place_of_done item; restarts = item.restarts; reply = item.reply }) done

-- how many scripts a caller has
abbrev pub script_count : {S : Type 0} → List (CallerOf S) → ℕ → ℕ
script_count callers c = length (caller_at callers c).scripts
