-- The output: a journal of the scripts in the order in which they were run, and the records that they leave.
use Rattle.std.specs.Prelude.{◌≡◌, ℕ, List, [], ◌∷◌, map, AllPairs, codes}
use Rattle.std.specs.List.{flat_map}
use Rattle.std.specs.FinMap as finite
use Rattle.std.specs.declared.cmp.Ordering.TheVariants.{Less}
use Rattle.record_text.specs.declared.script.RecordOp.{RecordOp}
use Rattle.record_text.specs.declared.reply.RecordValue.{RecordValue}
use Rattle.record_text.specs.Replies.{RecordReply}
use Rattle.record_text.specs.Records.{Records, index_cmp, index_of}
use Rattle.record_text.specs.Interpreter.{record_step_of}
use Rattle.record_text.specs.Language.{record_language}
use Rattle.record_text.specs.Input.{StoreInput}
use Rattle.record_text.specs.Words.{value_word}
use Rattle.script_reader.specs.Text.{number, line}
use Rattle.script_reader.specs.Journal.{Place}
use Rattle.script_reader.specs.ListLanguage.{head_words}
use Rattle.books_report.specs.Stores.Output as stores
use Rattle.books_report.specs.Journals.{RanOf}
use Rattle.books_report.specs.Stores.Output.{IsOutputOf, StoreOf, state_left}

-- a script that was run: its place, how often it was restarted, and its reply
abbrev pub RecordRan : Type 0
RecordRan = RanOf RecordReply

-- a record as it is printed: its identifier, its rank and its data
abbrev pub Printed : Type 0
Printed = ℕ × ℕ × ℕ

-- the header of the input's text
abbrev pub record_header_line : StoreInput → List ℕ
record_header_line input = line (head_words record_language (input.blocks ∷ []))

-- the line of a record
abbrev pub record_line : Printed → List ℕ
record_line (id, rank, content) = line (codes "record" ∷ number id ∷ number rank ∷ number content ∷ [])

-- a record goes before another by rank, and by identifier if they have one rank: the order of the index
abbrev pub IsBefore : Printed → Printed → Type 0
IsBefore r s = index_cmp (r.1, r.0) (s.1, s.0) ≡ Less

-- a list of records is in this order
abbrev pub AreByRank : List Printed → Type 0
AreByRank closing = AllPairs IsBefore closing

-- the records of a store in this order, which is that of its index
abbrev pub printed_of : Records → List Printed
printed_of stored = map (λ e. (e.0.1, e.0.0, e.1)) (finite.entries (index_of stored))

-- the store of an input: it begins empty
abbrev pub record_store : StoreInput → StoreOf RecordOp RecordValue Records
record_store input = record {
  callers = input.callers;
  begins = finite.empty;
  step = record_step_of input.blocks;
  value_word = value_word;
  header = record_header_line input;
  closing = λ stored. flat_map record_line (printed_of stored);
}

-- the whole text of a journal and of closing records
abbrev pub text_of : StoreInput → List RecordRan → List Printed → List ℕ
text_of input scripts closing = stores.text_of (record_store input) scripts (flat_map record_line closing)

-- what the interpreter replies to the scripts at these places, run one after the other from these records
abbrev pub replies_of : StoreInput → Records → List Place → List RecordReply
replies_of input = stores.replies_of (record_store input)

-- the scripts are those of the input, run one after the other in some order from an empty store
abbrev pub AreRun : StoreInput → ℕ → List RecordRan → Type 0
AreRun input = stores.AreRun (record_store input)

-- the records that scripts leave of none, as they are printed
abbrev pub closing_of : StoreInput → List RecordRan → List Printed
closing_of input scripts = printed_of (state_left (record_store input) scripts)

-- the text is an output of the input: the journal of its scripts, as they were run, and then the records that they leave
abbrev pub IsRecordOutput : StoreInput → ℕ → List ℕ → Type 0
IsRecordOutput input = IsOutputOf (record_store input)
