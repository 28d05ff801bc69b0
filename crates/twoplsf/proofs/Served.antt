-- What follows of words, of the bytes that were read, and of the text that was printed.
use Rattle.twoplsf.proofs.Common.{◌≡◌, ◌≤◌, ◌+◌, ◌*◌, ◌++◌, ℕ, List, length, Option, Some, None, IfSome, sym, ap, ◌∙◌, subst, inl, inr, arith, append-nil, []}
use Rattle.twoplsf.proofs.Common.{◌∷◌, Consumes, IsAtEnd, Fault, IsFirstFault, IsFrontFault, ClearingInput, AreTwoTexts, Spells, ByCommand, IsAnyRunCommand}
use Rattle.twoplsf.proofs.Common.{IsCells, IsCheck, IsDrill, IsMaking, IsOrders, IsReading, IsRecords, not_both, RESTARTS_BELOW, IsOutput, IsFirstWrongLine}
use Rattle.twoplsf.proofs.Common.{IsRecordFault, SpellsRecords, StoreInput, IsOrderFault, SpellsOrders, BookInput, differs_line, OfBytesRead, IsRefusalOf}
use Rattle.twoplsf.proofs.Common.{HaveInputFor, refused_line}
use Rattle.script_reader.proofs.Common.{word_at}
use Rattle.record_text.proofs.Common.{record_language}
use Rattle.order_text.proofs.Common.{order_language}
use Rattle.twoplsf.specs.Command.{IsMake}
use Rattle.script_reader.proofs.books.Texts.Deciding.{one_fault}
use Rattle.script_reader.proofs.books.Texts.FrontLaws.{never_both, one_front}
use Rattle.script_reader.proofs.language.Listed.Telling.{one_fault as one_in_language, not_both as not_in_language}
use Rattle.books_report.proofs.Checks.Wrong.{one_wrong, none_of_output}
use Rattle.record_text.specs.Language.{record_language_lawful}
use Rattle.order_text.specs.Language.{order_language_lawful}
use Rattle.twoplsf.proofs.ByWords.{IsDoneText, IsDifferenceFor, IsRefusalFor}

-- what was read to the end is all that was left
pub all_read : (left now : Option (List ℕ)) (bytes : List ℕ) → Consumes left now bytes → IsAtEnd now → IfSome left (λ all. all ≡ bytes)
all_read None now bytes h end = tt
all_read (Some all) None bytes h end = absurd h
all_read (Some all) (Some rest) bytes h end = h ∙ ap (λ xs. bytes ++ xs) end ∙ append-nil bytes

-- what holds of the bytes that were read holds of those that were left
pub of_left : {P Q : List ℕ → Type 0} (left : Option (List ℕ)) → OfBytesRead left P → ((bytes : List ℕ) → P bytes → Q bytes) → IfSome left Q
of_left None read h = tt
of_left {P = P} (Some all) read h = h all (subst P (sym read.told) read.holds)

-- a command is told by how many words there are and how long the first of them is
abbrev pub mark : List (List ℕ) → ℕ
mark words = length words + 10 * length (word_at words 0)

module _ (words : List (List ℕ)) where
  pub run_mark : IsAnyRunCommand words → mark words ≡ 32
  run_mark run = ap mark run.1.words_are

  pub check_mark : IsCheck words → mark words ≡ 51
  check_mark check = ap mark check

  pub records_mark : IsRecords words → mark words ≡ 72
  records_mark records = ap mark records.1.words_are

  pub orders_mark : IsOrders words → mark words ≡ 62
  orders_mark orders = ap mark orders.1.words_are

  pub make_mark : IsMake words → mark words ≡ 44
  make_mark make = ap mark make.3.words_are

  pub drill_mark : IsDrill words → mark words ≡ 55
  drill_mark drill = ap mark drill.4.words_are

  pub cells_mark : IsCells words → mark words ≡ 53
  cells_mark cells = ap mark cells.2.words_are

  -- so no words are both `check` and one with workers
  pub run_not_check : IsAnyRunCommand words → IsCheck words → ⊥
  run_not_check run check = omega (arith, run_mark run, check_mark check)

  pub records_not_check : IsRecords words → IsCheck words → ⊥
  records_not_check records check = omega (arith, records_mark records, check_mark check)

  pub orders_not_check : IsOrders words → IsCheck words → ⊥
  orders_not_check orders check = omega (arith, orders_mark orders, check_mark check)

  -- and of what is said by the command, that of the one that the words are holds
  module _ {A B C D : Type 0} where
    pub by_run : ByCommand words A B C D → IsAnyRunCommand words → A
    by_run (inl h) run = h.1
    by_run (inr (inl h)) run = absurd (run_not_check run h.0)
    by_run (inr (inr (inl h))) run = absurd (omega (arith, run_mark run, records_mark h.0))
    by_run (inr (inr (inr h))) run = absurd (omega (arith, run_mark run, orders_mark h.0))

    pub by_check : ByCommand words A B C D → IsCheck words → B
    by_check (inl h) check = absurd (run_not_check h.0 check)
    by_check (inr (inl h)) check = h.1
    by_check (inr (inr (inl h))) check = absurd (records_not_check h.0 check)
    by_check (inr (inr (inr h))) check = absurd (orders_not_check h.0 check)

    pub by_records : ByCommand words A B C D → IsRecords words → C
    by_records (inl h) records = absurd (omega (arith, run_mark h.0, records_mark records))
    by_records (inr (inl h)) records = absurd (records_not_check records h.0)
    by_records (inr (inr (inl h))) records = h.1
    by_records (inr (inr (inr h))) records = absurd (omega (arith, orders_mark h.0, records_mark records))

    pub by_orders : ByCommand words A B C D → IsOrders words → D
    by_orders (inl h) orders = absurd (omega (arith, run_mark h.0, orders_mark orders))
    by_orders (inr (inl h)) orders = absurd (orders_not_check orders h.0)
    by_orders (inr (inr (inl h))) orders = absurd (omega (arith, records_mark h.0, orders_mark orders))
    by_orders (inr (inr (inr h))) orders = h.1

-- a command that reads has two words at most, and one that reads nothing has more
reading_short : (words : List (List ℕ)) → IsReading words → length words ≤ 2
reading_short words (inl run) = omega (arith, ap length run.1.words_are)
reading_short words (inr (inl check)) = omega (arith, ap length check)
reading_short words (inr (inr (inl records))) = omega (arith, ap length records.1.words_are)
reading_short words (inr (inr (inr orders))) = omega (arith, ap length orders.1.words_are)

making_long : (words : List (List ℕ)) → IsMaking words → 3 ≤ length words
making_long words (inl make) = omega (arith, ap length make.3.words_are)
making_long words (inr (inl drill)) = omega (arith, ap length drill.4.words_are)
making_long words (inr (inr cells)) = omega (arith, ap length cells.2.words_are)

-- the words of a command that reads are not those of one that reads nothing
pub read_not_made : (words : List (List ℕ)) → IsReading words → IsMaking words → ⊥
read_not_made words reading making = omega (arith, reading_short words reading, making_long words making)

-- bytes whose text is printed have the input that the command reads
pub done_input : (words : List (List ℕ)) (bytes text : List ℕ) → IsDoneText words bytes text → HaveInputFor words bytes
done_input words bytes text (inl (run, output)) = inl (run, (output.input, output.spelled))
done_input words bytes text (inr (inl (check, h))) = inr (inl (check, record { input = h.0.input; text = h.0.text; two = h.0.two }))
done_input words bytes text (inr (inr (inl (records, output)))) = inr (inr (inl (records, (output.input, output.spelled))))
done_input words bytes text (inr (inr (inr (orders, output)))) = inr (inr (inr (orders, (output.input, output.spelled))))

pub difference_input : (words : List (List ℕ)) (bytes text : List ℕ) → IsDifferenceFor words bytes text → HaveInputFor words bytes
difference_input words bytes text d = inr (inl (d.0, record { input = d.1.1.input; text = d.1.1.text; two = d.1.1.two }))

-- a fault that is the first one is the only one that is
abbrev pub IsOnly : (List ℕ → ℕ → Fault → Type 0) → Type 0
IsOnly IsFirst = (bytes : List ℕ) (n m : ℕ) (v w : Fault) → IsFirst bytes n v → IsFirst bytes m w → (n ≡ m) × (v ≡ w)

pub refused_first : (IsFirst : List ℕ → ℕ → Fault → Type 0) (bytes text : List ℕ) → IsOnly IsFirst → IsRefusalOf IsFirst bytes text
    → (number : ℕ) (why : Fault) → IsFirst bytes number why → text ≡ refused_line number why
refused_first IsFirst bytes text only refusal number why fault =
    let same = only bytes refusal.number number refusal.why why refusal.first fault in
    refusal.text_is ∙ (λ i. refused_line (same.0 i) (same.1 i))

-- so it is for each command that reads
pub only_fault : IsOnly IsFirstFault
only_fault bytes n m v w = one_fault bytes n m v w

pub only_front : IsOnly IsFrontFault
only_front bytes n m v w first second = one_fault bytes n m v w (inl first) (inl second)

pub only_record : IsOnly IsRecordFault
only_record = one_in_language record_language record_language_lawful

pub only_order : IsOnly IsOrderFault
only_order = one_in_language order_language order_language_lawful

-- bytes with a first fault spell no input
pub no_input : (bytes : List ℕ) (number : ℕ) (why : Fault) → IsFirstFault bytes number why → (input : ClearingInput) → Spells bytes input → ⊥
no_input bytes number why fault input spelled = not_both bytes (input, spelled) (number, why, fault)

pub no_front : (bytes : List ℕ) (number : ℕ) (why : Fault) → IsFrontFault bytes number why
    → (two : ClearingInput × List ℕ) → AreTwoTexts bytes two.0 two.1 → ⊥
no_front bytes number why fault two spelled =
    never_both bytes (record { input = two.0; text = two.1; two = spelled }) (number, why, fault)

pub no_records : (bytes : List ℕ) (number : ℕ) (why : Fault) → IsRecordFault bytes number why → (input : StoreInput) → SpellsRecords bytes input → ⊥
no_records bytes number why fault input spelled =
    not_in_language record_language record_language_lawful bytes (input.blocks ∷ []) input.callers number why spelled fault

pub no_orders : (bytes : List ℕ) (number : ℕ) (why : Fault) → IsOrderFault bytes number why → (input : BookInput) → SpellsOrders bytes input → ⊥
no_orders bytes number why fault input spelled =
    not_in_language order_language order_language_lawful bytes (input.blocks ∷ input.instruments ∷ []) input.callers number why spelled fault

-- bytes that are refused do not have the input
pub refused_none : (words : List (List ℕ)) (bytes text : List ℕ) → IsRefusalFor words bytes text → HaveInputFor words bytes → ⊥
refused_none words bytes text (inl (run, r)) have = let h = by_run words have run in no_input bytes r.number r.why r.first h.0 h.1
refused_none words bytes text (inr (inl (check, r))) have = let h = by_check words have check in no_front bytes r.number r.why r.first (h.input, h.text) h.two
refused_none words bytes text (inr (inr (inl (records, r)))) have = let h = by_records words have records in no_records bytes r.number r.why r.first h.0 h.1
refused_none words bytes text (inr (inr (inr (orders, r)))) have = let h = by_orders words have orders in no_orders bytes r.number r.why r.first h.0 h.1

-- a text with a wrong line is no output of its input
pub wrong_is_none : (words : List (List ℕ)) (bytes printed : List ℕ) → IsDifferenceFor words bytes printed
    → (input : ClearingInput) (text : List ℕ) → AreTwoTexts bytes input text → IsOutput input RESTARTS_BELOW text → ⊥
wrong_is_none words bytes printed (check, (n, h, is)) input text two output =
    let same = one_front bytes h.input input h.text text h.two two in
    none_of_output input RESTARTS_BELOW two.spelled.valid text n output
    (subst (λ t. IsFirstWrongLine input RESTARTS_BELOW t n) same.2 (subst (λ i. IsFirstWrongLine i RESTARTS_BELOW h.text n) same.1 h.wrong))

-- and that line is its first wrong one
pub wrong_is_first : (words : List (List ℕ)) (bytes printed : List ℕ) → IsDifferenceFor words bytes printed
    → (input : ClearingInput) (text : List ℕ) (number : ℕ) → AreTwoTexts bytes input text
    → IsFirstWrongLine input RESTARTS_BELOW text number → printed ≡ differs_line number
wrong_is_first words bytes printed (check, (n, h, is)) input text number two wrong =
    let same = one_front bytes h.input input h.text text h.two two in
    is ∙ ap differs_line (one_wrong input RESTARTS_BELOW two.spelled.valid text n number
    (subst (λ t. IsFirstWrongLine input RESTARTS_BELOW t n) same.2 (subst (λ i. IsFirstWrongLine i RESTARTS_BELOW h.text n) same.1 h.wrong)) wrong)

-- a text that agrees is an output of its input
pub done_is_output : (words : List (List ℕ)) (bytes printed : List ℕ) → IsCheck words → IsDoneText words bytes printed
    → (input : ClearingInput) (text : List ℕ) → AreTwoTexts bytes input text → IsOutput input RESTARTS_BELOW text
done_is_output words bytes printed check done input text two =
    let h = (by_check words done check).0 in
    let same = one_front bytes h.input input h.text text h.two two in
    subst (λ t. IsOutput input RESTARTS_BELOW t) same.2 (subst (λ i. IsOutput i RESTARTS_BELOW h.text) same.1 h.output)
