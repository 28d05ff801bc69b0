-- What a day of a record store is, and what is printed of it.
use Rattle.std.specs.Prelude.{◌≡◌, ℕ, List, Option}
use Rattle.std.specs.FinMap as finite
use Rattle.std.specs.Io.KnownBytes.{Appends}
use Rattle.history_model.specs.Fitting.{IsGood}
use Rattle.record_text.specs.Grammar.{SpellsRecords}
use Rattle.record_text.specs.Input.{StoreInput}
use Rattle.record_text.specs.Output.{IsRecordOutput, closing_of, text_of}
use Rattle.txn_commit.specs.Lists.{AreDealt}
use Rattle.txn_stores.specs.Journals.{scripts_done}
use Rattle.txn_records.specs.Days.{IsRecordDay, RecordDay}
use Rattle.txn_records.specs.Layout.{words_of}
use Rattle.txn_records.specs.Standing.{IsGoodFor, Stands}
use Rattle.word_table.specs.Closing.{AreRecords, IsCoherent, IsLegalInEachOrder}
use Rattle.twoplsf.specs.Command.{IsRecordsCommand}
use Rattle.twoplsf.specs.Stores.{OfInput, PrintsText}

-- a day of the input by so many workers: a table with a seat for each, of as many blocks as the input says, whose words
-- stood for no record; all that was committed on it, with the attempts that gave way, has an arrangement, and each
-- arrangement is a legal history; each caller was run by the seat of its number modulo the workers; and its text is the
-- journal of its items, with the records that they leave
pub record IsRecordsDayOf (input : StoreInput) (workers : ℕ) (day : RecordDay) : Type 0 where
  pub shape : day.closed.shape ≡ record { blocks = input.blocks }
  pub seats : day.closed.seats ≡ workers
  pub opening : Stands day.closed.shape day.closed.base finite.empty
  pub coherent : IsCoherent (IsGood (words_of day.closed.shape) (IsGoodFor day.closed.shape)) day.closed
  pub legal : IsLegalInEachOrder (IsGood (words_of day.closed.shape) (IsGoodFor day.closed.shape)) day.closed
  pub records : AreRecords day.closed
  pub is_day : IsRecordDay input day.closed day.done.items
  pub dealt : AreDealt workers day.done.items
  pub text_is : day.text.items
      ≡ text_of input (scripts_done day.done.items) (closing_of input (scripts_done day.done.items))
  pub output : IsRecordOutput input workers day.text.items

-- the bytes are the text of some input of a record store
abbrev pub IsRecordsText : List ℕ → Type 0
IsRecordsText bytes = (input : StoreInput) × SpellsRecords bytes input

-- the words are `records W`, the bytes are the text of an input of a record store, and this text is an output of that
-- input with each number of restarts below W
abbrev pub IsRecordOutputFor : List (List ℕ) → List ℕ → List ℕ → Type 0
IsRecordOutputFor words bytes text =
    OfInput IsRecordsCommand SpellsRecords words bytes (λ input workers. IsRecordOutput input workers text)

-- one whole text was printed, an output of a record store for the words and the bytes
abbrev pub PrintsRecordOutput : List (List ℕ) → List ℕ → Option (List ℕ) → Option (List ℕ) → Type 0
PrintsRecordOutput words bytes before now = PrintsText (IsRecordOutputFor words bytes) before now

-- the day of `records`: that of the input that the bytes spell, by as many workers as the words say; and its text was
-- printed
abbrev pub IsRecordsDayFor : List (List ℕ) → List ℕ → Option (List ℕ) → Option (List ℕ) → RecordDay → Type 0
IsRecordsDayFor words bytes before now day = OfInput IsRecordsCommand SpellsRecords words bytes
    (λ input workers. IsRecordsDayOf input workers day × Appends before now day.text.items)
