-- A language of texts whose scripts are lists of operations, each a line: a word and numbers.
-- A text is a header, the line `scripts`, the scripts of callers, and the line `finish`. Each number and each space has
-- one spelling, so a text is of one header and of one list of scripts at most.
use Rattle.std.specs.Prelude.{◌≡◌, ◌⊎◌, ℕ, ◌+◌, ◌<◌, ◌≤◌, ◌^◌, Bool, true, false, not, ◌&&◌, ◌==◌, nat_le, if◌then◌else◌, List, [], ◌∷◌, ◌++◌, Option}
use Rattle.std.specs.Prelude.{Some, None}
use Rattle.std.specs.Prelude.{codes, length, map, drop, fold, All}
use Rattle.std.specs.List.{flat_map, list_all, AllByRecursion}
use Rattle.std.specs.Option.{is_none}
use Rattle.std.specs.Str.{bytes_eq}
use Rattle.books_model.specs.declared.limits.TheConstants.{MOST_OPERATIONS}
use Rattle.script_reader.specs.declared.fault.Fault.{Fault}
use Rattle.script_reader.specs.declared.fault.Fault.TheVariants as fault
use Rattle.script_reader.specs.declared.text.words.TheConstants.{SPACE, LINE_FEED}
use Rattle.script_reader.specs.Lines.{word_at}
use Rattle.script_reader.specs.Text.{number, line, finish_line}
use Rattle.script_reader.specs.Forms.{Words, Form, begins, is_only, form_of, ranges_of, value_of, are_numbers, are_in_range}
use Rattle.script_reader.specs.Faults.{first_reason, outside_fault}
use Rattle.script_reader.specs.Gathered.{CallerOf, SubmissionOf, AreCallers, callers_of}
use Rattle.script_reader.specs.Reading.{Judge, IsFaultInFront, GoesOnBehind}

-- a size in a header: the word in front of it, and its least and its greatest
pub record Size : Type 0 where
  pub name : List ℕ
  pub range : ℕ × ℕ

abbrev pub size : List ℕ → ℕ × ℕ → Size
size name range = record { name = name; range = range }

-- a language with operations of the type O, and scripts of the type S
pub record ListLanguage (O S : Type 0) : Type 0 where
  -- the first word of a text, and the sizes of its header
  pub title : List ℕ
  pub sizes : List Size
  -- the kinds of operation, in a text with these sizes
  pub forms : List ℕ → List Form
  -- the first word of an operation's line and the numbers behind it, and the operation that these give
  pub keyword : O → List ℕ
  pub numbers : O → List ℕ
  pub operation : List ℕ → List ℕ → O
  -- the operations of a script, in order
  pub operations : S → List O

-- bytes that can stand as a word
abbrev pub is_word : List ℕ → Bool
is_word word = list_all (λ b. not (b == SPACE) && not (b == LINE_FEED)) word

-- each number is in its range, and one of 64 bits
abbrev pub AreNumbersIn : List (ℕ × ℕ) → List ℕ → Type 0
AreNumbersIn [] [] = Unit {0}
AreNumbersIn [] (n ∷ ns) = ⊥
AreNumbersIn (r ∷ ranges) [] = ⊥
AreNumbersIn (r ∷ ranges) (n ∷ ns) = (r.0 ≤ n) × (n ≤ r.1) × (n < 2 ^ 64) × AreNumbersIn ranges ns

-- sizes in a header, each behind its name
abbrev pub size_pairs : List Size → List ℕ → Words
size_pairs [] ns = []
size_pairs (s ∷ sizes) [] = []
size_pairs (s ∷ sizes) (n ∷ ns) = s.name ∷ number n ∷ size_pairs sizes ns

-- the words are pairs, and the first of each is the name of a size
abbrev pub have_names : List Size → Words → Bool
have_names [] [] = true
have_names [] (w ∷ words) = false
have_names (s ∷ sizes) [] = false
have_names (s ∷ sizes) (name ∷ []) = false
have_names (s ∷ sizes) (name ∷ n ∷ words) = bytes_eq name s.name && have_names sizes words

-- the second words of pairs
abbrev pub seconds : Words → Words
seconds [] = []
seconds (name ∷ []) = []
seconds (name ∷ n ∷ words) = n ∷ seconds words

-- the words of a header in the places of its sizes, and the sizes that they are
abbrev pub size_words : Words → Words
size_words words = seconds (drop 2 words)

abbrev pub sizes_at : Words → List ℕ
sizes_at words = map value_of (size_words words)

module _ (title : List ℕ) (sizes : List Size) where
  -- the words of the header with this title and these numbers
  abbrev pub head_with : List ℕ → Words
  head_with numbers = title ∷ codes "1" ∷ size_pairs sizes numbers

  -- the line has the words of a header around its sizes
  abbrev pub is_head_with : Words → Bool
  is_head_with words =
      bytes_eq (word_at words 0) title && bytes_eq (word_at words 1) (codes "1") && have_names sizes (drop 2 words)

  -- what is wrong with the first line
  abbrev pub head_fault_with : Words → Option Fault
  head_fault_with words = first_reason (
      (not (is_head_with words), fault.Header)
      ∷ (not (are_numbers (size_words words)), fault.Number)
      ∷ (not (are_in_range (size_words words) (map (λ s. s.range) sizes)), fault.Limit)
      ∷ []
      )

-- where a line behind the line `scripts` stands: between scripts, or in one behind so many operations
pub data LinePlace : Type 0 where
  BetweenScripts : LinePlace
  WithinScript : ℕ → LinePlace

-- where the line behind a line stands
abbrev pub place_after : LinePlace → Words → LinePlace
place_after BetweenScripts words = if begins (codes "script") words then WithinScript 0 else BetweenScripts
place_after (WithinScript count) words = if is_only (codes "end") words then BetweenScripts else WithinScript (count + 1)

-- where the line behind lines that stand behind the line `scripts` stands
abbrev pub place_behind : List Words → LinePlace
place_behind lines = fold place_after BetweenScripts lines

-- what is wrong with an operation's line of one of these forms, behind so many operations
abbrev pub operation_fault : List Form → ℕ → Words → Option Fault
operation_fault forms count words =
    let form = form_of forms words in
    first_reason (
    (is_none form, fault.Word)
    ∷ (not (are_numbers (drop 1 words)), fault.Number)
    ∷ (not (are_in_range (drop 1 words) (ranges_of form)), fault.Limit)
    ∷ (nat_le MOST_OPERATIONS count, fault.Limit)
    ∷ []
    )

-- what is wrong with a line behind lines that stand behind the line `scripts`
abbrev pub script_line_fault : List Form → List Words → LinePlace → Words → Option Fault
script_line_fault forms lines BetweenScripts words = outside_fault lines words
script_line_fault forms lines (WithinScript count) words =
    if is_only (codes "end") words then None else operation_fault forms count words

module _ {O S : Type 0} (g : ListLanguage O S) where
  -- the ranges of the sizes
  abbrev pub size_ranges : List (ℕ × ℕ)
  size_ranges = map (λ s. s.range) g.sizes

  -- sizes that a header can have
  abbrev pub AreSizes : List ℕ → Type 0
  AreSizes sizes = AreNumbersIn size_ranges sizes

  -- the words of the header with these sizes
  abbrev pub head_words : List ℕ → Words
  head_words sizes = head_with g.title g.sizes sizes

  -- the words of an operation, and of a script with the line that begins it and the one that ends it
  abbrev pub operation_words : O → Words
  operation_words o = g.keyword o ∷ map number (g.numbers o)

  abbrev pub submission_words : SubmissionOf S → List Words
  submission_words s =
      (codes "script" ∷ s.caller ∷ []) ∷ (map operation_words (g.operations s.script) ++ (codes "end" ∷ []) ∷ [])

  -- the lines of a text before its last, and the text
  abbrev pub lines_of : List ℕ → List (SubmissionOf S) → List Words
  lines_of sizes submissions = head_words sizes ∷ (codes "scripts" ∷ []) ∷ flat_map submission_words submissions

  abbrev pub language_text : List ℕ → List (SubmissionOf S) → List ℕ
  language_text sizes submissions = flat_map line (lines_of sizes submissions) ++ finish_line

  -- an operation has a form of the text with these sizes, and its numbers are in their ranges
  pub record IsOperationIn (sizes : List ℕ) (o : O) : Type 0 where
    pub kind : Form
    pub kind_is : form_of (g.forms sizes) (operation_words o) ≡ Some kind
    pub within : AreNumbersIn kind.ranges (g.numbers o)

  -- a script that a text with these sizes can have
  pub record IsScriptIn (sizes : List ℕ) (script : S) : Type 0 where
    pub few : length (g.operations script) ≤ MOST_OPERATIONS
    pub each : All (IsOperationIn sizes) (g.operations script)

  -- the bytes are the text with these sizes, and with scripts that the callers gave in some order
  pub record IsTextOf (bytes : List ℕ) (sizes : List ℕ) (callers : List (CallerOf S)) : Type 0 where
    pub submissions : List (SubmissionOf S)
    pub text : bytes ≡ language_text sizes submissions
    pub callers_are : callers ≡ callers_of submissions
    pub sized : AreSizes sizes
    pub valid : AreCallers (IsScriptIn sizes) callers

  -- the bytes are a text
  abbrev pub IsText : List ℕ → Type 0
  IsText bytes = (sizes : List ℕ) × (callers : List (CallerOf S)) × IsTextOf bytes sizes callers

  -- what is wrong with the first line
  abbrev pub head_fault : Words → Option Fault
  head_fault words = head_fault_with g.title g.sizes words

  -- what is wrong with a line of a text, beside the lines before it
  abbrev pub judge : Judge
  judge [] words = head_fault words
  judge (header ∷ []) words = first_reason ((not (is_only (codes "scripts") words), fault.Word) ∷ [])
  judge (header ∷ scripts ∷ lines) words =
      script_line_fault (g.forms (sizes_at header)) lines (place_behind lines) words

  -- the first fault of a whole text; lines are numbered from 1
  abbrev pub IsFirstFaultIn : List ℕ → ℕ → Fault → Type 0
  IsFirstFaultIn text number why = IsFaultInFront judge text number why ⊎ GoesOnBehind IsText text number why

  -- numbers in the ranges of a form, which are of 64 bits, are those of an operation with its word
  pub record IsFormOfOperations (kind : Form) : Type 0 where
    pub bits : AllByRecursion (λ r. r.1 < 2 ^ 64) kind.ranges
    pub keyword : (ns : List ℕ) → AreNumbersIn kind.ranges ns → g.keyword (g.operation kind.keyword ns) ≡ kind.keyword
    pub numbers : (ns : List ℕ) → AreNumbersIn kind.ranges ns → g.numbers (g.operation kind.keyword ns) ≡ ns

  -- what the words of a language have to be, that an operation is told by its line, and a script by its operations, and
  -- that each line of a form is that of an operation, and all operations make a script
  pub record IsListLanguage : Type 0 where
    pub title : is_word g.title ≡ true
    pub names : list_all (λ s. is_word s.name) g.sizes ≡ true
    pub keywords : (o : O) → is_word (g.keyword o) ≡ true
    pub no_script : (o : O) → bytes_eq (g.keyword o) (codes "script") ≡ false
    pub no_end : (o : O) → bytes_eq (g.keyword o) (codes "end") ≡ false
    pub no_finish : (o : O) → bytes_eq (g.keyword o) (codes "finish") ≡ false
    pub one_operation : (o : O) → g.operation (g.keyword o) (g.numbers o) ≡ o
    pub one_script : (s t : S) → g.operations s ≡ g.operations t → s ≡ t
    pub size_bits : AllByRecursion (λ r. r.1 < 2 ^ 64) size_ranges
    pub every_form : (sizes : List ℕ) → AreSizes sizes → AllByRecursion IsFormOfOperations (g.forms sizes)
    pub every_script : (ops : List O) → (s : S) × (g.operations s ≡ ops)
