-- What goes with each status, said by the words and the bytes that were read.
use Rattle.twoplsf.proofs.Common.{◌≡◌, ◌≤◌, ◌⊎◌, ◌+◌, ℕ, List, length, Option, IfSome, Appends, IsAtEnd, AppendsPrefix, count_taken, MOST_INPUT_BYTES}
use Rattle.twoplsf.proofs.Common.{IsFirstFault, IsFrontFault, AreTwoTexts, ClearingInput, RESTARTS_BELOW, IsOutput, IsFirstWrongLine, IsRecordFault}
use Rattle.twoplsf.proofs.Common.{IsOrderFault, ByCommand, IsCheck, IsReading, IsValidCommand, agrees_line, differs_line, IsMadeText, IsRefusalOf, OfBytesRead}
use Rattle.twoplsf.proofs.Common.{refused_size, refused_words, Status}
use Rattle.twoplsf.specs.Orders.{IsOrderOutputFor}
use Rattle.twoplsf.specs.Records.{IsRecordOutputFor}
use Rattle.twoplsf.specs.Answer.{IsOutputFor}
use Rattle.twoplsf.specs.declared.status.Status.TheVariants as status

-- the text behind the input is an output of it
pub record HoldOutput (bytes : List ℕ) : Type 0 where
  pub input : ClearingInput
  pub text : List ℕ
  pub two : AreTwoTexts bytes input text
  pub output : IsOutput input RESTARTS_BELOW text

-- the text behind the input has this first wrong line
pub record HoldWrongLine (bytes : List ℕ) (number : ℕ) : Type 0 where
  pub input : ClearingInput
  pub text : List ℕ
  pub two : AreTwoTexts bytes input text
  pub wrong : IsFirstWrongLine input RESTARTS_BELOW text number

-- what a command that did its work prints: an output, or that the text behind the input is one, or an output of a record
-- store or of a limit order book
abbrev pub IsDoneText : List (List ℕ) → List ℕ → List ℕ → Type 0
IsDoneText words bytes text = ByCommand words (IsOutputFor words bytes text)
    (HoldOutput bytes × (text ≡ agrees_line)) (IsRecordOutputFor words bytes text) (IsOrderOutputFor words bytes text)

-- what is printed for a text behind an input that is no output of it
abbrev pub IsDifferenceFor : List (List ℕ) → List ℕ → List ℕ → Type 0
IsDifferenceFor words bytes text = IsCheck words × ((n : ℕ) × HoldWrongLine bytes n × (text ≡ differs_line n))

-- what refuses bytes that do not have the input that the command reads
abbrev pub IsRefusalFor : List (List ℕ) → List ℕ → List ℕ → Type 0
IsRefusalFor words bytes text = ByCommand words (IsRefusalOf IsFirstFault bytes text)
    (IsRefusalOf IsFrontFault bytes text) (IsRefusalOf IsRecordFault bytes text) (IsRefusalOf IsOrderFault bytes text)

-- a text goes with a status, by the words and by what the source had left and has left now
abbrev pub IsTextBy : Status → List (List ℕ) → Option (List ℕ) → Option (List ℕ) → List ℕ → Type 0
IsTextBy status.Done words left now text =
    (IsReading words × IsAtEnd now
    × OfBytesRead left (λ bytes. (length bytes ≤ MOST_INPUT_BYTES) × IsDoneText words bytes text))
    ⊎ IsMadeText words text
IsTextBy status.Differs words left now text = IsReading words × IsAtEnd now
    × OfBytesRead left (λ bytes. (length bytes ≤ MOST_INPUT_BYTES) × IsDifferenceFor words bytes text)
IsTextBy status.BadWords words left now text = (¬ IsValidCommand words) × (text ≡ refused_words)
IsTextBy status.BadInput words left now text = IsReading words × IsAtEnd now
    × OfBytesRead left (λ bytes. (length bytes ≤ MOST_INPUT_BYTES) × IsRefusalFor words bytes text)
IsTextBy status.TooLarge words left now text =
    IsReading words × IfSome (count_taken left now) (λ n. n ≡ MOST_INPUT_BYTES + 1) × (text ≡ refused_size)
IsTextBy status.ReadFault words left now text = ⊥
IsTextBy status.WriteFault words left now text = ⊥
IsTextBy status.OutOfMemory words left now text = ⊥

-- the sink took a whole text that goes with the status; after a write fault a prefix of one that goes with another; and
-- nothing is said of it after a read fault and out of memory
abbrev pub TookBy : Status → List (List ℕ) → Option (List ℕ) → Option (List ℕ) → Option (List ℕ) → Option (List ℕ)
    → Type 0
TookBy status.Done words left now before after =
    (text : List ℕ) × IsTextBy status.Done words left now text × Appends before after text
TookBy status.Differs words left now before after =
    (text : List ℕ) × IsTextBy status.Differs words left now text × Appends before after text
TookBy status.BadWords words left now before after =
    (text : List ℕ) × IsTextBy status.BadWords words left now text × Appends before after text
TookBy status.BadInput words left now before after =
    (text : List ℕ) × IsTextBy status.BadInput words left now text × Appends before after text
TookBy status.TooLarge words left now before after =
    (text : List ℕ) × IsTextBy status.TooLarge words left now text × Appends before after text
TookBy status.WriteFault words left now before after =
    (is : Status) × (text : List ℕ) × IsTextBy is words left now text × AppendsPrefix before after text
TookBy status.ReadFault words left now before after = Unit {0}
TookBy status.OutOfMemory words left now before after = Unit {0}
