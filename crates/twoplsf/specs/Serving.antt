-- What serving a command comes to.
use Rattle.std.specs.Prelude.{◌≡◌, ◌⊎◌, ◌↔◌, ℕ, ◌+◌, ◌≤◌, List, Some, IfSome, IsSome}
use Rattle.io_ends.specs.declared.source.Source.{Ghosts as Sources}
use Rattle.io_ends.specs.declared.sink.Sink.{Ghosts as Sinks}
use Rattle.io_ends.specs.Counts.{Rose}
use Rattle.io_ends.specs.Taken.{TakesAtMost, count_taken}
use Rattle.script_reader.specs.declared.limits.TheConstants.{MOST_INPUT_BYTES}
use Rattle.txn_cells.specs.declared.coded.Coded.{Ghosts as Codes}
use Rattle.twoplsf.specs.Command.{IsAnyRunCommand, IsCells, IsDrill, IsOrders, IsReading, IsRecords, IsValidCommand}
use Rattle.twoplsf.specs.Answer.{OfBytesRead, IsDayFor, TookText}
use Rattle.twoplsf.specs.Cells.{IsCellsRunFor}
use Rattle.twoplsf.specs.Made.{IsDrillDay}
use Rattle.twoplsf.specs.Orders.{IsOrdersDayFor}
use Rattle.twoplsf.specs.Records.{IsRecordsDayFor}
use Rattle.twoplsf.specs.declared.serve.Served.{Served}
use Rattle.twoplsf.specs.declared.status.Status.TheVariants as status

-- words were served over a source and a sink, each as it was and as it is now; `sources` and `sinks` are what these tell
-- of themselves, and `code` is how a number of 128 bits is spelled
pub record IsServed {S K : Type 0} (sources : Sources S) (sinks : Sinks K) (code : Codes ℕ) (words : List (List ℕ))
    (source source' : S) (sink sink' : K) (result : Served) : Type 0 where
  -- what the sink took: exactly the text of the status, and after a write fault a prefix of the text in whose place it
  -- stands; the text says what words and bytes it is for, so a status that has one never comes with others
  pub text : TookText code result.status words (sources.left source) (sources.left source') (sinks.taken sink) (sinks.taken sink')
  pub unwritten : (result.status ≡ status.ReadFault) ⊎ (result.status ≡ status.OutOfMemory) → sink' ≡ sink
  -- the day is there exactly if scripts were run and their output was printed, or their sums after a drill: then it is
  -- one of the input by as many workers as the words say, and the text of `run` is the output for its items
  pub day : IsAnyRunCommand words → IfSome result.day
      (λ day. OfBytesRead (sources.left source) (λ bytes. IsDayFor words bytes (sinks.taken sink) (sinks.taken sink') day))
  pub drill_day : IsDrill words → IfSome result.day (IsDrillDay words)
  pub has_day : IsSome result.day ↔ ((IsAnyRunCommand words ⊎ IsDrill words) × (result.status ≡ status.Done))
  -- so are the closed table of a run over cells, whose values were printed, and the days of a record store and of a limit
  -- order book, whose texts were
  pub cells : IfSome result.cells (IsCellsRunFor code words (sinks.taken sink) (sinks.taken sink'))
  pub has_cells : IsSome result.cells ↔ (IsCells words × (result.status ≡ status.Done))
  pub records : IfSome result.records
      (λ day. OfBytesRead (sources.left source) (λ bytes. IsRecordsDayFor words bytes (sinks.taken sink) (sinks.taken sink') day))
  pub has_records : IsSome result.records ↔ (IsRecords words × (result.status ≡ status.Done))
  pub orders : IfSome result.orders
      (λ day. OfBytesRead (sources.left source) (λ bytes. IsOrdersDayFor words bytes (sinks.taken sink) (sinks.taken sink') day))
  pub has_orders : IsSome result.orders ↔ (IsOrders words × (result.status ≡ status.Done))
  -- nothing is read but by a command that reads, and of that no more than one byte too many
  pub unread : (¬ IsReading words) → source' ≡ source
  pub taken : TakesAtMost (sources.left source) (sources.left source') (MOST_INPUT_BYTES + 1)
  pub reads : sources.reads source' ≤ sources.reads source + MOST_INPUT_BYTES + 2
  -- what is refused if it is called for: wrong words before anything is read, and too many bytes
  pub words_first : (¬ IsValidCommand words) → (result.status ≡ status.BadWords) ⊎ (result.status ≡ status.WriteFault)
  pub above_limit : count_taken (sources.left source) (sources.left source') ≡ Some (MOST_INPUT_BYTES + 1)
      → (result.status ≡ status.TooLarge) ⊎ (result.status ≡ status.WriteFault) ⊎ (result.status ≡ status.OutOfMemory)
  -- faults of the outside come only if a read or a write failed
  pub read_fault : result.status ≡ status.ReadFault
      → IsReading words × Rose (sources.faults source) (sources.faults source')
  pub write_fault : result.status ≡ status.WriteFault → Rose (sinks.faults sink) (sinks.faults sink')
