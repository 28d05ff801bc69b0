-- What each answer of the top call is the answer to. All of it follows from the text that the sink took.
use Rattle.std.specs.Prelude.{◌≡◌, ◌⊎◌, ℕ, ◌+◌, ◌≤◌, ◌<◌, List, Option, IfSome, length}
use Rattle.std.specs.Io.KnownBytes.{Appends}
use Rattle.io_ends.specs.Taken.{count_taken}
use Rattle.script_reader.specs.declared.fault.Fault.{Fault}
use Rattle.script_reader.specs.declared.limits.TheConstants.{MOST_INPUT_BYTES}
use Rattle.script_reader.specs.Faults.{IsFirstFault, IsFrontFault}
use Rattle.script_reader.specs.Grammar.{AreTwoTexts}
use Rattle.script_reader.specs.Input.{ClearingInput}
use Rattle.books_report.specs.declared.limits.TheConstants.{RESTARTS_BELOW}
use Rattle.books_report.specs.Output.{IsOutput}
use Rattle.books_report.specs.Checking.{IsFirstWrongLine}
use Rattle.record_text.specs.Grammar.{IsRecordFault}
use Rattle.order_text.specs.Grammar.{IsOrderFault}
use Rattle.twoplsf.specs.Command.{IsAnyRunCommand, IsCheck, IsOrders, IsReading, IsRecords, IsValidCommand}
use Rattle.twoplsf.specs.Check.{differs_line}
use Rattle.twoplsf.specs.Answer.{HaveInputFor, refused_line}
use Rattle.twoplsf.specs.declared.status.Status.{Status}
use Rattle.twoplsf.specs.declared.status.Status.TheVariants as status

-- trouble outside, in whose place no other answer comes
abbrev pub Failed : Status → Type 0
Failed is = (is ≡ status.ReadFault) ⊎ (is ≡ status.WriteFault) ⊎ (is ≡ status.OutOfMemory)

-- why the top call answers a status, by the words, by what the source had left and has left now, and by what the sink had
-- taken and has taken now
pub record HasCauses (is : Status) (words : List (List ℕ)) (left now before after : Option (List ℕ)) : Type 0 where
  -- wrong words, and more bytes than an input may have
  pub bad_words : is ≡ status.BadWords → ¬ IsValidCommand words
  pub too_large : is ≡ status.TooLarge → IfSome (count_taken left now) (λ n. n ≡ MOST_INPUT_BYTES + 1)
  pub too_many : IsReading words → IfSome left (λ bytes. MOST_INPUT_BYTES < length bytes → (is ≡ status.TooLarge) ⊎ Failed is)
  -- bytes that do not have the input that the command reads: the first faulty line is refused, with the first reason that
  -- applies to it
  pub first_fault : IsAnyRunCommand words → is ≡ status.BadInput → IfSome left (λ bytes. (number : ℕ) (why : Fault)
      → IsFirstFault bytes number why → Appends before after (refused_line number why))
  pub first_fault_in_front : IsCheck words → is ≡ status.BadInput → IfSome left (λ bytes. (number : ℕ) (why : Fault)
      → IsFrontFault bytes number why → Appends before after (refused_line number why))
  pub first_record_fault : IsRecords words → is ≡ status.BadInput → IfSome left (λ bytes. (number : ℕ) (why : Fault)
      → IsRecordFault bytes number why → Appends before after (refused_line number why))
  pub first_order_fault : IsOrders words → is ≡ status.BadInput → IfSome left (λ bytes. (number : ℕ) (why : Fault)
      → IsOrderFault bytes number why → Appends before after (refused_line number why))
  pub bad_input : is ≡ status.BadInput → IfSome left (λ bytes. ¬ HaveInputFor words bytes)
  pub no_input : IsReading words → IfSome left (λ bytes. length bytes ≤ MOST_INPUT_BYTES
      → (¬ HaveInputFor words bytes) → (is ≡ status.BadInput) ⊎ Failed is)
  -- a text behind an input: `Differs` comes in `check` alone, exactly if the text is no output of the input, with its
  -- first wrong line
  pub only_check : is ≡ status.Differs → IsCheck words
  pub differs : is ≡ status.Differs → IfSome left (λ bytes. (input : ClearingInput) (text : List ℕ)
      → AreTwoTexts bytes input text → ¬ IsOutput input RESTARTS_BELOW text)
  pub first_wrong : is ≡ status.Differs → IfSome left (λ bytes. (input : ClearingInput) (text : List ℕ) (number : ℕ)
      → AreTwoTexts bytes input text → IsFirstWrongLine input RESTARTS_BELOW text number
      → Appends before after (differs_line number))
  pub no_output : IsCheck words → IfSome left (λ bytes. length bytes ≤ MOST_INPUT_BYTES
      → (input : ClearingInput) (text : List ℕ) → AreTwoTexts bytes input text
      → (¬ IsOutput input RESTARTS_BELOW text) → (is ≡ status.Differs) ⊎ Failed is)
