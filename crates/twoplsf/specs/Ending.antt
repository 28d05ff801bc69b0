-- How the program ends.
use Rattle.std.specs.Prelude.{◌≡◌, ℕ, List}
use Rattle.io_ends.specs.declared.source.Source.{Ghosts as Sources}
use Rattle.io_ends.specs.declared.sink.Sink.{Ghosts as Sinks}
use Rattle.txn_cells.specs.declared.coded.Coded.{Ghosts as Codes}
use Rattle.twoplsf.specs.Serving.{IsServed}
use Rattle.twoplsf.specs.declared.serve.Served.{Served}
use Rattle.twoplsf.specs.declared.status.Status.{Status}
use Rattle.twoplsf.specs.declared.status.Status.TheVariants as status

-- the exit status of what became of a command
abbrev pub exit_status : Status → ℕ
exit_status status.Done = 0
exit_status status.Differs = 1
exit_status status.BadWords = 2
exit_status status.BadInput = 3
exit_status status.TooLarge = 4
exit_status status.ReadFault = 5
exit_status status.WriteFault = 6
exit_status status.OutOfMemory = 7

-- the number that the program ends with is that of the status of what serving the words came to
pub record EndsWith {S K : Type 0} (sources : Sources S) (sinks : Sinks K) (code : Codes ℕ) (n : ℕ) (words : List (List ℕ))
    (source source' : S) (sink sink' : K) : Type 0 where
  pub result : Served
  pub number_is : n ≡ exit_status result.status
  pub served : IsServed sources sinks code words source source' sink sink' result
