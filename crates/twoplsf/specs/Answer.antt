-- What the top call prints.
use Rattle.std.specs.Prelude.{◌≡◌, ◌⊎◌, ℕ, ◌+◌, ◌≤◌, List, [], ◌∷◌, Option, Some, None, IfSome, codes, length, IsTrue}
use Rattle.std.specs.Io.KnownBytes.{Appends, Consumes, IsAtEnd}
use Rattle.io_ends.specs.Taken.{AppendsPrefix, count_taken}
use Rattle.script_reader.specs.declared.fault.Fault.{Fault}
use Rattle.script_reader.specs.Text.{line, number}
use Rattle.script_reader.specs.FaultWords.{fault_word}
use Rattle.script_reader.specs.Input.{ClearingInput}
use Rattle.script_reader.specs.Grammar.{Spells, IsValidInput, BeginWithInput, AreTwoTexts}
use Rattle.script_reader.specs.Faults.{IsFirstFault, IsFrontFault}
use Rattle.twoplsf.specs.Command.{IsRunCommand, IsReading, IsValidCommand, ByCommand}
use Rattle.books_report.specs.declared.limits.TheConstants.{RESTARTS_BELOW}
use Rattle.books_report.specs.Output.{IsOutput, output_of}
use Rattle.books_report.specs.Checking.{IsFirstWrongLine}
use Rattle.input_maker.specs.Made.{made_input_text}
use Rattle.txn_cells.specs.declared.coded.Coded.{Ghosts as Codes}
use Rattle.txn_cells.specs.Adding.{sums_of}
use Rattle.worker_pool.specs.declared.done.DayEnd.{DayEnd}
use Rattle.twoplsf.specs.Day.{IsDayOf, journal_of}
use Rattle.script_reader.specs.declared.limits.TheConstants.{MOST_INPUT_BYTES}
use Rattle.twoplsf.specs.Commands.{IsCommand, reads_text}
use Rattle.twoplsf.specs.declared.command.Plan.{Plan}
use Rattle.twoplsf.specs.declared.command.Command.{Command}
use Rattle.twoplsf.specs.declared.command.Command.TheVariants as command
use Rattle.twoplsf.specs.declared.status.Status.{Status}
use Rattle.twoplsf.specs.declared.status.Status.TheVariants as status
use Rattle.twoplsf.specs.declared.answer.Answer.{Answer}
use Rattle.twoplsf.specs.declared.answer.Answer.TheVariants.{Text, Day, Records, Orders, Cells}
use Rattle.twoplsf.specs.declared.serve.Served.{Served}
use Rattle.twoplsf.specs.Check.{agrees_line, differs_line}
use Rattle.twoplsf.specs.Cells.{IsCellsRun, cells_text}
use Rattle.twoplsf.specs.Made.{drill_text, planned_input}
use Rattle.record_text.specs.Grammar.{SpellsRecords, IsRecordFault}
use Rattle.record_text.specs.Input.{StoreInput}
use Rattle.twoplsf.specs.Records.{IsRecordsDayOf, IsRecordsText}
use Rattle.order_text.specs.Grammar.{SpellsOrders, IsOrderFault}
use Rattle.order_text.specs.Input.{BookInput}
use Rattle.twoplsf.specs.Orders.{IsOrdersDayOf, IsOrdersText}

-- this holds of the bytes that were read, which are those that were left, if the source tells them
pub record OfBytesRead (left : Option (List ℕ)) (P : List ℕ → Type 0) : Type 0 where
  pub bytes : List ℕ
  pub told : IfSome left (λ all. all ≡ bytes)
  pub holds : P bytes

-- the words are `run W`, the bytes are the text of an input, and this text is an output of that input with each
-- number of restarts below W
pub record IsOutputFor (words : List (List ℕ)) (bytes text : List ℕ) : Type 0 where
  pub workers : ℕ
  pub command : IsRunCommand words workers
  pub input : ClearingInput
  pub spelled : Spells bytes input
  pub output : IsOutput input workers text

-- one whole text was printed, an output for the words and the bytes
pub record PrintsOutput (words : List (List ℕ)) (bytes : List ℕ) (before now : Option (List ℕ)) : Type 0 where
  pub text : List ℕ
  pub output : IsOutputFor words bytes text
  pub printed : Appends before now text

-- what is printed for words that are no command
abbrev pub refused_words : List ℕ
refused_words = line (codes "refused" ∷ codes "words" ∷ [])

-- what is printed for bytes that are too many
abbrev pub refused_size : List ℕ
refused_size = line (codes "refused" ∷ codes "size" ∷ [])

-- what is printed for bytes that are no input
abbrev pub refused_line : ℕ → Fault → List ℕ
refused_line l why = line (codes "refused" ∷ codes "line" ∷ number l ∷ fault_word why ∷ [])

-- the text refuses the faulty line of the bytes that is the first by this relation, with the first reason for it
pub record IsRefusalOf (IsFirst : List ℕ → ℕ → Fault → Type 0) (bytes text : List ℕ) : Type 0 where
  pub number : ℕ
  pub why : Fault
  pub first : IsFirst bytes number why
  pub text_is : text ≡ refused_line number why

-- the status that an answer is printed with
abbrev pub status_of : Answer → Status
status_of (Text is text) = is
status_of _ = status.Done

-- its text
abbrev pub text_of_answer : Answer → List ℕ
text_of_answer (Text is text) = text.items
text_of_answer (Day text day) = text.items
text_of_answer (Records day) = day.text.items
text_of_answer (Orders day) = day.text.items
text_of_answer (Cells text closed) = text.items

-- what serving comes to with nothing to tell of what was done
abbrev pub only_status : Status → Served
only_status is = record { status = is; day = None; cells = None; records = None; orders = None }

-- and what it comes to if the text of this answer was written whole
abbrev pub served_of : Answer → Served
served_of (Text is text) = only_status is
served_of (Day text day) = record { status = status.Done; day = Some day; cells = None; records = None; orders = None }
served_of (Records day) = record { status = status.Done; day = None; cells = None; records = Some day; orders = None }
served_of (Orders day) = record { status = status.Done; day = None; cells = None; records = None; orders = Some day }
served_of (Cells text closed) = record { status = status.Done; day = None; cells = Some closed; records = None; orders = None }

-- the answer is this text with this status, and tells of nothing that was done
abbrev pub IsTextAlone : Status → List ℕ → Answer → Type 0
IsTextAlone is said (Text found text) = (found ≡ is) × (text.items ≡ said)
IsTextAlone is said _ = ⊥

-- the answer refuses the faulty line of the bytes that is the first by this relation, with the first reason for it
abbrev pub Refuses : (List ℕ → ℕ → Fault → Type 0) → List ℕ → Answer → Type 0
Refuses IsFirst bytes (Text is text) = (is ≡ status.BadInput) × IsRefusalOf IsFirst bytes text.items
Refuses IsFirst bytes _ = ⊥

-- bytes that are to be the text of an input: they spell one, and this is the answer to it; or they spell none, and the
-- answer refuses their first fault
abbrev pub Answers : {Input : Type 0} → (List ℕ → Input → Type 0) → (List ℕ → ℕ → Fault → Type 0)
    → (Input → Answer → Type 0) → List ℕ → Answer → Type 0
Answers {Input = Input} Spells IsFirst IsTo bytes answer =
    ((input : Input) × Spells bytes input × IsTo input answer)
    ⊎ (((input : Input) → ¬ Spells bytes input) × Refuses IsFirst bytes answer)

-- an input was run by so many workers: the text is an output of it, for the items of a day of it
abbrev pub IsRunOf : ℕ → ClearingInput → Answer → Type 0
IsRunOf workers input (Day text day) =
    IsOutput input workers text.items × IsDayOf input workers day × (text.items ≡ output_of input (journal_of day))
IsRunOf workers input _ = ⊥

-- a text was compared with the input that it stands behind: it is an output of it, or this is its first wrong line
abbrev pub IsComparisonOf : ClearingInput × List ℕ → Answer → Type 0
IsComparisonOf two answer =
    (IsOutput two.0 RESTARTS_BELOW two.1 × IsTextAlone status.Done agrees_line answer)
    ⊎ ((n : ℕ) × IsFirstWrongLine two.0 RESTARTS_BELOW two.1 n × IsTextAlone status.Differs (differs_line n) answer)

-- the input of a record store was run by so many workers: its text is an output of it, for the items of the day
abbrev pub IsRecordsRunOf : ℕ → StoreInput → Answer → Type 0
IsRecordsRunOf workers input (Records day) = IsRecordsDayOf input workers day
IsRecordsRunOf workers input _ = ⊥

-- so was the input of a limit order book
abbrev pub IsOrdersRunOf : ℕ → BookInput → Answer → Type 0
IsOrdersRunOf workers input (Orders day) = IsOrdersDayOf input workers day
IsOrdersRunOf workers input _ = ⊥

-- a made input was run by so many workers: the text sums up what the day of it left
abbrev pub IsDrillOf : ℕ → Plan → Answer → Type 0
IsDrillOf workers plan (Day text day) =
    (text.items ≡ drill_text plan.seed plan.callers plan.scripts)
    × IsDayOf (planned_input plan) workers day
IsDrillOf workers plan _ = ⊥

module _ (code : Codes ℕ) where
  -- workers added to cells, so many rounds each: the text has the sums of what they added
  abbrev pub IsCellsOf : ℕ → ℕ → Answer → Type 0
  IsCellsOf workers rounds (Cells text closed) =
      (text.items ≡ cells_text (sums_of workers rounds)) × IsCellsRun code workers rounds closed
  IsCellsOf workers rounds _ = ⊥

  -- the answer of each command to bytes, of which those that read nothing take no notice
  abbrev pub IsAnswer : Command → List ℕ → Answer → Type 0
  IsAnswer (command.Run workers) = Answers Spells IsFirstFault (IsRunOf workers)
  IsAnswer command.Check = Answers (λ bytes two. AreTwoTexts bytes two.0 two.1) IsFrontFault IsComparisonOf
  IsAnswer (command.Records workers) = Answers SpellsRecords IsRecordFault (IsRecordsRunOf workers)
  IsAnswer (command.Orders workers) = Answers SpellsOrders IsOrderFault (IsOrdersRunOf workers)
  IsAnswer (command.Make plan) = λ bytes. IsTextAlone status.Done (made_input_text plan.seed plan.callers plan.scripts)
  IsAnswer (command.Drill workers plan) = λ bytes. IsDrillOf workers plan
  IsAnswer (command.Cells workers rounds) = λ bytes. IsCellsOf workers rounds

-- the day of a run: that of the input that the bytes spell, by as many workers as the words say; and what was printed
-- is the output for its items, in their order and with their restarts
pub record IsDayFor (words : List (List ℕ)) (bytes : List ℕ) (before now : Option (List ℕ)) (day : DayEnd)
    : Type 0 where
  pub workers : ℕ
  pub command : IsRunCommand words workers
  pub input : ClearingInput
  pub spelled : Spells bytes input
  pub day_is : IsDayOf input workers day
  pub printed : Appends before now (output_of input (journal_of day))

-- what was given to a command that reads: all that was left, up to the end, within the size
abbrev pub WasGiven : Command → Option (List ℕ) → Option (List ℕ) → List ℕ → Type 0
WasGiven command left now bytes =
    IsTrue (reads_text command) → Consumes left now bytes × IsAtEnd now × (length bytes ≤ MOST_INPUT_BYTES)

-- the bytes have the input that the command reads: all of them are one, or they begin with one
abbrev pub HaveInputFor : List (List ℕ) → List ℕ → Type 0
HaveInputFor words bytes =
    ByCommand words (IsValidInput bytes) (BeginWithInput bytes) (IsRecordsText bytes) (IsOrdersText bytes)

module _ (code : Codes ℕ) where
  -- the words are a command's, and this is an answer of that to the bytes that were read
  pub record IsAnswerTo (words : List (List ℕ)) (left now : Option (List ℕ)) (answer : Answer) : Type 0 where
    pub command : Command
    pub words_are : IsCommand words command
    pub bytes : List ℕ
    pub given : WasGiven command left now bytes
    pub answer_is : IsAnswer code command bytes answer

  -- the text goes with the status: the refusal of words that are no command, or of bytes that are too many, or an answer's
  abbrev pub IsTextFor : Status → List (List ℕ) → Option (List ℕ) → Option (List ℕ) → List ℕ → Type 0
  IsTextFor is words left now text =
      ((is ≡ status.BadWords) × (¬ IsValidCommand words) × (text ≡ refused_words))
      ⊎ ((is ≡ status.TooLarge) × IsReading words × IfSome (count_taken left now) (λ n. n ≡ MOST_INPUT_BYTES + 1)
      × (text ≡ refused_size))
      ⊎ ((answer : Answer) × IsAnswerTo words left now answer × (is ≡ status_of answer) × (text ≡ text_of_answer answer))

  -- the sink took a whole text that goes with the status; after a write fault a prefix of one that goes with another; and
  -- nothing is said of it after a read fault and out of memory
  abbrev pub TookText : Status → List (List ℕ) → Option (List ℕ) → Option (List ℕ) → Option (List ℕ) → Option (List ℕ)
      → Type 0
  TookText status.ReadFault words left now before after = Unit {0}
  TookText status.OutOfMemory words left now before after = Unit {0}
  TookText status.WriteFault words left now before after =
      (is : Status) × (text : List ℕ) × IsTextFor is words left now text × AppendsPrefix before after text
  TookText is words left now before after =
      (text : List ℕ) × IsTextFor is words left now text × Appends before after text
