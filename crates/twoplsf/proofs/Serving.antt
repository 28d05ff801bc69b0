-- From what was read and answered to what serving came to.
use Rattle.twoplsf.proofs.Common.{◌≡◌, ◌≢◌, ◌≤◌, ◌+◌, ◌⊎◌, ℕ, List, length, Option, Some, None, IfSome, IsSome, true, false, refl, sym, ◌∙◌, subst, inl, inr}
use Rattle.twoplsf.proofs.Common.{arith, true≢false, Vec, Global, Result, Ok, Err, ◌-◌, Appends, Consumes, IsAtEnd, Rose, AppendsPrefix, TakesAtMost}
use Rattle.twoplsf.proofs.Common.{count_taken, Fault, MOST_INPUT_BYTES, IsFirstFault, IsFrontFault, Spells, AreTwoTexts, ClearingInput, StoreInput, BookInput}
use Rattle.twoplsf.proofs.Common.{DayEnd, SpellsRecords, IsRecordFault, SpellsOrders, IsOrderFault, CELLS, sums_of, AreCellValues, IsAnyRunCommand, IsCells}
use Rattle.twoplsf.proofs.Common.{IsCheck, IsDrill, IsMaking, IsOrders, IsReading, IsRecords, IsValidCommand, agrees_line, differs_line, cells_text}
use Rattle.twoplsf.proofs.Common.{IsComparisonOf, IsDayFor, IsOrdersRunOf, IsRecordsRunOf, IsRunOf, IsRefusalOf, OfBytesRead, refused_line, Status}
use Rattle.std.proofs.Common.{◌↔◌, IsOk}
use Rattle.io_ends.specs.declared.source.Source.{Ghosts as Sources}
use Rattle.io_ends.specs.declared.sink.Sink.{Ghosts as Sinks}
use Rattle.input_maker.specs.Made.{made_input_text}
use Rattle.txn_records.specs.Days.{RecordDay}
use Rattle.order_match.specs.Days.{OrderDay}
use Rattle.txn_cells.specs.declared.coded.Coded.{Ghosts as Codes}
use Rattle.twoplsf.specs.Command.{IsCellsCommand, IsDrillCommand, IsMakeCommand, IsOrdersCommand, IsRecordsCommand, IsRunCommand}
use Rattle.twoplsf.specs.Commands.{IsCommand, reads_text}
use Rattle.twoplsf.specs.Cells.{IsCellsRunFor}
use Rattle.twoplsf.specs.Made.{IsDrillDay}
use Rattle.twoplsf.specs.Orders.{IsOrdersDayFor}
use Rattle.twoplsf.specs.Records.{IsRecordsDayFor}
use Rattle.twoplsf.specs.Serving.{IsServed}
use Rattle.twoplsf.specs.Answer.{Answers, IsAnswer, IsCellsOf, IsDrillOf, IsTextAlone, IsTextFor, Refuses, TookText, WasGiven, only_status, served_of}
use Rattle.twoplsf.specs.Answer.{status_of, text_of_answer}
use Rattle.twoplsf.specs.declared.answer.Answer.{Answer}
use Rattle.twoplsf.specs.declared.answer.Answer.TheVariants.{Text, Day, Records, Orders, Cells}
use Rattle.twoplsf.specs.declared.command.Command.{Command}
use Rattle.twoplsf.specs.declared.command.Plan.{Plan}
use Rattle.twoplsf.specs.declared.serve.Served.{Served}
use Rattle.twoplsf.proofs.ByWords.{IsDifferenceFor, IsDoneText, IsRefusalFor, IsTextBy, TookBy}
use Rattle.twoplsf.proofs.Served.{all_read, run_mark, check_mark, records_mark, orders_mark, make_mark, drill_mark, cells_mark, mark}
use Rattle.twoplsf.specs.declared.command.Command.TheVariants as command
use Rattle.twoplsf.specs.declared.status.Status.TheVariants as status

-- a command that reads has the words of one, and another those of one that does not
pub reading_is : (words : List (List ℕ)) (o : Command) → IsCommand words o → reads_text o ≡ true → IsReading words
reading_is words (command.Run w) is reads = inl (w, is)
reading_is words command.Check is reads = inr (inl is)
reading_is words (command.Records w) is reads = inr (inr (inl (w, is)))
reading_is words (command.Orders w) is reads = inr (inr (inr (w, is)))
reading_is words (command.Make plan) is reads = absurd (true≢false (sym reads))
reading_is words (command.Drill w plan) is reads = absurd (true≢false (sym reads))
reading_is words (command.Cells w rounds) is reads = absurd (true≢false (sym reads))

making_is : (words : List (List ℕ)) (o : Command) → IsCommand words o → reads_text o ≡ false → IsMaking words
making_is words (command.Make plan) is reads = inl (plan.seed, plan.callers, plan.scripts, is)
making_is words (command.Drill w plan) is reads = inr (inl (w, plan.seed, plan.callers, plan.scripts, is))
making_is words (command.Cells w rounds) is reads = inr (inr (w, rounds, is))
making_is words (command.Run w) is reads = absurd (true≢false reads)
making_is words command.Check is reads = absurd (true≢false reads)
making_is words (command.Records w) is reads = absurd (true≢false reads)
making_is words (command.Orders w) is reads = absurd (true≢false reads)

-- it reads or not
pub reads_or_not : (o : Command) → (reads_text o ≡ true) ⊎ (reads_text o ≡ false)
reads_or_not (command.Run w) = inl refl
reads_or_not command.Check = inl refl
reads_or_not (command.Records w) = inl refl
reads_or_not (command.Orders w) = inl refl
reads_or_not _ = inr refl

pub valid_is : (words : List (List ℕ)) (o : Command) → IsCommand words o → IsValidCommand words
valid_is words o is = by (reads_or_not o)
  where
    by : (reads_text o ≡ true) ⊎ (reads_text o ≡ false) → IsValidCommand words
    by (inl reads) = inl (reading_is words o is reads)
    by (inr not) = inr (making_is words o is not)

-- what is said of a text and its status, of the refusal of bytes, and of the answer to an input, holds of the answer
module _ (P : Answer → Type 0) where
  said : (is : Status) (line : List ℕ) (answer : Answer) → IsTextAlone is line answer
      → ((text : Vec ℕ Global) → text.items ≡ line → P (Text is text)) → P answer
  said is line (Text found text) h holds = subst (λ (s : Status). P (Text s text)) (sym h.0) (holds text h.1)
  said is line _ h holds = absurd h

  refused : (IsFirst : List ℕ → ℕ → Fault → Type 0) (bytes : List ℕ) (answer : Answer) → Refuses IsFirst bytes answer
      → ((text : Vec ℕ Global) → IsRefusalOf IsFirst bytes text.items → P (Text status.BadInput text)) → P answer
  refused IsFirst bytes (Text found text) h holds = subst (λ (s : Status). P (Text s text)) (sym h.0) (holds text h.1)
  refused IsFirst bytes _ h holds = absurd h

  answered : {Input : Type 0} (Spelled : List ℕ → Input → Type 0) (IsFirst : List ℕ → ℕ → Fault → Type 0)
      (IsTo : Input → Answer → Type 0) (bytes : List ℕ) (answer : Answer) → Answers Spelled IsFirst IsTo bytes answer
      → ((input : Input) → Spelled bytes input → IsTo input answer → P answer)
      → ((text : Vec ℕ Global) → IsRefusalOf IsFirst bytes text.items → P (Text status.BadInput text)) → P answer
  answered Spelled IsFirst IsTo bytes answer (inl (input, spelled, to)) holds refusal = holds input spelled to
  answered Spelled IsFirst IsTo bytes answer (inr (none, refuses)) holds refusal = refused IsFirst bytes answer refuses refusal

-- bytes are refused that spell no input
pub refusing : {Input : Type 0} (Spelled : List ℕ → Input → Type 0) (IsFirst : List ℕ → ℕ → Fault → Type 0)
    (IsTo : Input → Answer → Type 0) (bytes : List ℕ) (number : ℕ) (why : Fault) → IsFirst bytes number why
    → ((input : Input) → Spelled bytes input → ⊥) → (answer : Answer) → IsTextAlone status.BadInput (refused_line number why) answer
    → Answers Spelled IsFirst IsTo bytes answer
refusing Spelled IsFirst IsTo bytes number why first none (Text is text) h =
    inr (none, (h.0, record { number = number; why = why; first = first; text_is = h.1 }))
refusing Spelled IsFirst IsTo bytes number why first none _ h = absurd h

-- what is told of what was done
pub record Told (code : Codes ℕ) (words : List (List ℕ)) (left before after : Option (List ℕ)) (result : Served) : Type 0 where
  pub day : IsAnyRunCommand words → IfSome result.day (λ day. OfBytesRead left (λ bytes. IsDayFor words bytes before after day))
  pub drill_day : IsDrill words → IfSome result.day (IsDrillDay words)
  pub has_day : IsSome result.day ↔ ((IsAnyRunCommand words ⊎ IsDrill words) × (result.status ≡ status.Done))
  pub cells : IfSome result.cells (IsCellsRunFor code words before after)
  pub has_cells : IsSome result.cells ↔ (IsCells words × (result.status ≡ status.Done))
  pub records : IfSome result.records (λ day. OfBytesRead left (λ bytes. IsRecordsDayFor words bytes before after day))
  pub has_records : IsSome result.records ↔ (IsRecords words × (result.status ≡ status.Done))
  pub orders : IfSome result.orders (λ day. OfBytesRead left (λ bytes. IsOrdersDayFor words bytes before after day))
  pub has_orders : IsSome result.orders ↔ (IsOrders words × (result.status ≡ status.Done))

module _ (code : Codes ℕ) (words : List (List ℕ)) (left before after : Option (List ℕ)) where
  -- no day is told of a command that has none
  no_day : (m : ℕ) → mark words ≡ m → m ≢ 32 → m ≢ 55 → IsAnyRunCommand words ⊎ IsDrill words → ⊥
  no_day m at run drill (inl is) = run (sym at ∙ run_mark words is)
  no_day m at run drill (inr is) = drill (sym at ∙ drill_mark words is)

  -- nothing is told beside a text
  nothing_told : (is : Status) → (is ≡ status.Done → (mark words ≡ 51) ⊎ (mark words ≡ 44))
      → Told code words left before after (only_status is)
  nothing_told is quiet = record {
    day = λ run. tt;
    drill_day = λ drill. tt;
    has_day = (λ some. absurd (true≢false (sym some)), λ both. absurd (day (quiet both.1) both.0));
    cells = tt;
    has_cells = (
      λ some. absurd (true≢false (sym some)),
      λ both. absurd (other 53 (λ e. omega arith) (λ e. omega arith) (quiet both.1) (cells_mark words both.0)),
    );
    records = tt;
    has_records = (
      λ some. absurd (true≢false (sym some)),
      λ both. absurd (other 72 (λ e. omega arith) (λ e. omega arith) (quiet both.1) (records_mark words both.0)),
    );
    orders = tt;
    has_orders = (
      λ some. absurd (true≢false (sym some)),
      λ both. absurd (other 62 (λ e. omega arith) (λ e. omega arith) (quiet both.1) (orders_mark words both.0)),
    );
  }
    where
      day : (mark words ≡ 51) ⊎ (mark words ≡ 44) → IsAnyRunCommand words ⊎ IsDrill words → ⊥
      day (inl at) is = no_day 51 at (λ e. omega arith) (λ e. omega arith) is
      day (inr at) is = no_day 44 at (λ e. omega arith) (λ e. omega arith) is

      other : (m : ℕ) → m ≢ 51 → m ≢ 44 → (mark words ≡ 51) ⊎ (mark words ≡ 44) → mark words ≡ m → ⊥
      other m check make (inl at) is = check (sym is ∙ at)
      other m check make (inr at) is = make (sym is ∙ at)

  -- a day is told of a run or of a drill
  day_told : (day : DayEnd) → IsAnyRunCommand words ⊎ IsDrill words
      → (IsAnyRunCommand words → OfBytesRead left (λ bytes. IsDayFor words bytes before after day))
      → (IsDrill words → IsDrillDay words day)
      → Told code words left before after (record { status = status.Done; day = Some day; cells = None; records = None; orders = None })
  day_told day is of_run of_drill = record {
    day = of_run;
    drill_day = of_drill;
    has_day = (λ some. (is, refl), λ both. refl);
    cells = tt;
    has_cells = (λ some. absurd (true≢false (sym some)), λ both. absurd (no_day 53 (cells_mark words both.0) (λ e. omega arith) (λ e. omega arith) is));
    records = tt;
    has_records = (λ some. absurd (true≢false (sym some)), λ both. absurd (no_day 72 (records_mark words both.0) (λ e. omega arith) (λ e. omega arith) is));
    orders = tt;
    has_orders = (λ some. absurd (true≢false (sym some)), λ both. absurd (no_day 62 (orders_mark words both.0) (λ e. omega arith) (λ e. omega arith) is));
  }

  records_told : (day : RecordDay) → IsRecords words → OfBytesRead left (λ bytes. IsRecordsDayFor words bytes before after day)
      → Told code words left before after (record { status = status.Done; day = None; cells = None; records = Some day; orders = None })
  records_told day is of_day = record {
    day = λ run. tt;
    drill_day = λ drill. tt;
    has_day = (λ some. absurd (true≢false (sym some)), λ both. absurd (no_day 72 (records_mark words is) (λ e. omega arith) (λ e. omega arith) both.0));
    cells = tt;
    has_cells = (λ some. absurd (true≢false (sym some)), λ both. absurd (omega (arith, records_mark words is, cells_mark words both.0)));
    records = of_day;
    has_records = (λ some. (is, refl), λ both. refl);
    orders = tt;
    has_orders = (λ some. absurd (true≢false (sym some)), λ both. absurd (omega (arith, records_mark words is, orders_mark words both.0)));
  }

  orders_told : (day : OrderDay) → IsOrders words → OfBytesRead left (λ bytes. IsOrdersDayFor words bytes before after day)
      → Told code words left before after (record { status = status.Done; day = None; cells = None; records = None; orders = Some day })
  orders_told day is of_day = record {
    day = λ run. tt;
    drill_day = λ drill. tt;
    has_day = (λ some. absurd (true≢false (sym some)), λ both. absurd (no_day 62 (orders_mark words is) (λ e. omega arith) (λ e. omega arith) both.0));
    cells = tt;
    has_cells = (λ some. absurd (true≢false (sym some)), λ both. absurd (omega (arith, orders_mark words is, cells_mark words both.0)));
    records = tt;
    has_records = (λ some. absurd (true≢false (sym some)), λ both. absurd (omega (arith, orders_mark words is, records_mark words both.0)));
    orders = of_day;
    has_orders = (λ some. (is, refl), λ both. refl);
  }

module _ (code : Codes ℕ) (one : (s xs ys : List ℕ) → AreCellValues code 0 CELLS s xs → AreCellValues code 0 CELLS s ys → xs ≡ ys)
    (words : List (List ℕ)) (left now before after : Option (List ℕ)) (bytes : List ℕ) where
  -- what an answer is to be, before and after it is printed
  abbrev Printed : Answer → Type 0
  Printed answer =
      IsTextBy (served_of answer).status words left now (text_of_answer answer)
      × (Appends before after (text_of_answer answer) → Told code words left before after (served_of answer))

  -- all that was left was read, and not too much
  abbrev WasRead : Type 0
  WasRead = Consumes left now bytes × IsAtEnd now × (length bytes ≤ MOST_INPUT_BYTES)

  -- so what holds of the bytes holds of those that were read
  of_read : (P : List ℕ → Type 0) → WasRead → P bytes → OfBytesRead left P
  of_read P read p = record { bytes = bytes; told = all_read left now bytes read.0 read.1; holds = p }

  for_text : (P : List ℕ → Type 0) → IsReading words → WasRead → P bytes
      → IsReading words × IsAtEnd now × OfBytesRead left (λ all. (length all ≤ MOST_INPUT_BYTES) × P all)
  for_text P reading read p = (reading, read.1, of_read (λ all. (length all ≤ MOST_INPUT_BYTES) × P all) read (read.2, p))

  -- the rows of the table of answers, one for each command
  refusal_row : IsReading words → WasRead → (text : Vec ℕ Global) → IsRefusalFor words bytes text.items → Printed (Text status.BadInput text)
  refusal_row reading read text refusal = (
    for_text (λ all. IsRefusalFor words all text.items) reading read refusal,
    λ printed. nothing_told code words left before after status.BadInput (λ e. absurd (cc)),
  )

  run_row : (w : ℕ) → IsRunCommand words w → WasRead → (input : ClearingInput) → Spells bytes input → (answer : Answer)
      → IsRunOf w input answer → Printed answer
  run_row w is read input spelled (Day text day) of_run = (
    inl (for_text (λ all. IsDoneText words all text.items) (inl (w, is)) read (inl (
      (w, is),
      record { workers = w; command = is; input = input; spelled = spelled; output = of_run.0 },
    ))),
    λ printed. day_told code words left before after day (inl (w, is))
        (λ run. of_read (λ all. IsDayFor words all before after day) read (record {
          workers = w;
          command = is;
          input = input;
          spelled = spelled;
          day_is = of_run.1;
          printed = subst (Appends before after) of_run.2 printed;
        }))
        (λ drill. absurd (omega (arith, run_mark words (w, is), drill_mark words drill))),
  )
  run_row w is read input spelled _ of_run = absurd of_run

  check_row : IsCheck words → WasRead → (input : ClearingInput) (text : List ℕ) → AreTwoTexts bytes input text → (answer : Answer)
      → IsComparisonOf (input, text) answer → Printed answer
  check_row is read input text two answer (inl (output, line)) =
      said Printed status.Done agrees_line answer line (λ printed same. (
        inl (for_text (λ all. IsDoneText words all printed.items) (inr (inl is)) read
            (inr (inl (is, (record { input = input; text = text; two = two; output = output }, same))))),
        λ whole. nothing_told code words left before after status.Done (λ e. inl (check_mark words is)),
      ))
  check_row is read input text two answer (inr (n, wrong, line)) =
      said Printed status.Differs (differs_line n) answer line (λ printed same. (
        for_text (λ all. IsDifferenceFor words all printed.items) (inr (inl is)) read
            (is, (n, record { input = input; text = text; two = two; wrong = wrong }, same)),
        λ whole. nothing_told code words left before after status.Differs (λ e. absurd (cc)),
      ))

  records_row : (w : ℕ) → IsRecordsCommand words w → WasRead → (input : StoreInput) → SpellsRecords bytes input → (answer : Answer)
      → IsRecordsRunOf w input answer → Printed answer
  records_row w is read input spelled (Records day) of_run = (
    inl (for_text (λ all. IsDoneText words all day.text.items) (inr (inr (inl (w, is)))) read
        (inr (inr (inl ((w, is), record { workers = w; command = is; input = input; spelled = spelled; holds = of_run.output }))))),
    λ printed. records_told code words left before after day (w, is) (of_read (λ all. IsRecordsDayFor words all before after day) read
        (record { workers = w; command = is; input = input; spelled = spelled; holds = (of_run, printed) })),
  )
  records_row w is read input spelled _ of_run = absurd of_run

  orders_row : (w : ℕ) → IsOrdersCommand words w → WasRead → (input : BookInput) → SpellsOrders bytes input → (answer : Answer)
      → IsOrdersRunOf w input answer → Printed answer
  orders_row w is read input spelled (Orders day) of_run = (
    inl (for_text (λ all. IsDoneText words all day.text.items) (inr (inr (inr (w, is)))) read
        (inr (inr (inr ((w, is), record { workers = w; command = is; input = input; spelled = spelled; holds = of_run.output }))))),
    λ printed. orders_told code words left before after day (w, is) (of_read (λ all. IsOrdersDayFor words all before after day) read
        (record { workers = w; command = is; input = input; spelled = spelled; holds = (of_run, printed) })),
  )
  orders_row w is read input spelled _ of_run = absurd of_run

  make_row : (plan : Plan) → IsMakeCommand words plan.seed plan.callers plan.scripts → (answer : Answer)
      → IsTextAlone status.Done (made_input_text plan.seed plan.callers plan.scripts) answer → Printed answer
  make_row plan is answer line =
      said Printed status.Done (made_input_text plan.seed plan.callers plan.scripts) answer line (λ text same. (
        inr (inl (record { seed = plan.seed; callers = plan.callers; scripts = plan.scripts; command = is; text_is = same })),
        λ whole. nothing_told code words left before after status.Done (λ e. inr (make_mark words (plan.seed, plan.callers, plan.scripts, is))),
      ))

  drill_row : (w : ℕ) (plan : Plan) → IsDrillCommand words w plan.seed plan.callers plan.scripts → (answer : Answer)
      → IsDrillOf w plan answer → Printed answer
  drill_row w plan is (Day text day) of_drill = (
    inr (inr (inl (record {
      workers = w;
      seed = plan.seed;
      callers = plan.callers;
      scripts = plan.scripts;
      command = is;
      text_is = of_drill.0;
    }))),
    λ printed. day_told code words left before after day (inr (w, plan.seed, plan.callers, plan.scripts, is))
        (λ run. absurd (omega (arith, run_mark words run, drill_mark words (w, plan.seed, plan.callers, plan.scripts, is))))
        (λ drill. record {
          workers = w;
          seed = plan.seed;
          callers = plan.callers;
          scripts = plan.scripts;
          command = is;
          day_is = of_drill.1;
        }),
  )
  drill_row w plan is _ of_drill = absurd of_drill

  cells_row : (w rounds : ℕ) → IsCellsCommand words w rounds → (answer : Answer) → IsCellsOf code w rounds answer → Printed answer
  cells_row w rounds is (Cells text closed) of_cells = (
    inr (inr (inr (record { workers = w; rounds = rounds; command = is; text_is = of_cells.0 }))),
    λ printed. record {
      day = λ run. tt;
      drill_day = λ drill. tt;
      has_day = (
        λ some. absurd (true≢false (sym some)),
        λ both. absurd (no_day code words left before after 53
            (cells_mark words (w, rounds, is)) (λ e. omega arith) (λ e. omega arith) both.0),
      );
      cells = record {
        workers = w;
        rounds = rounds;
        command = is;
        run = of_cells.1;
        printed = λ values are. subst (λ v. Appends before after (cells_text v)) (one closed.words (sums_of w rounds) values of_cells.1.sums are)
            (subst (Appends before after) of_cells.0 printed);
      };
      has_cells = (λ some. ((w, rounds, is), refl), λ both. refl);
      records = tt;
      has_records = (λ some. absurd (true≢false (sym some)), λ both. absurd (omega (arith, cells_mark words (w, rounds, is), records_mark words both.0)));
      orders = tt;
      has_orders = (λ some. absurd (true≢false (sym some)), λ both. absurd (omega (arith, cells_mark words (w, rounds, is), orders_mark words both.0)));
    },
  )
  cells_row w rounds is _ of_cells = absurd of_cells

  pub row : (o : Command) → IsCommand words o → WasGiven o left now bytes → (answer : Answer) → IsAnswer code o bytes answer → Printed answer
  row (command.Run w) is given answer h =
      answered Printed Spells IsFirstFault (IsRunOf w) bytes answer h
      (λ input spelled of_run. run_row w is (given refl) input spelled answer of_run)
      (λ text refusal. refusal_row (inl (w, is)) (given refl) text (inl ((w, is), refusal)))
  row command.Check is given answer h =
      answered Printed (λ (bytes : List ℕ) (two : ClearingInput × List ℕ). AreTwoTexts bytes two.0 two.1) IsFrontFault IsComparisonOf bytes answer h
      (λ two spelled of_two. check_row is (given refl) two.0 two.1 spelled answer of_two)
      (λ text refusal. refusal_row (inr (inl is)) (given refl) text (inr (inl (is, refusal))))
  row (command.Records w) is given answer h =
      answered Printed SpellsRecords IsRecordFault (IsRecordsRunOf w) bytes answer h
      (λ input spelled of_run. records_row w is (given refl) input spelled answer of_run)
      (λ text refusal. refusal_row (inr (inr (inl (w, is)))) (given refl) text (inr (inr (inl ((w, is), refusal)))))
  row (command.Orders w) is given answer h =
      answered Printed SpellsOrders IsOrderFault (IsOrdersRunOf w) bytes answer h
      (λ input spelled of_run. orders_row w is (given refl) input spelled answer of_run)
      (λ text refusal. refusal_row (inr (inr (inr (w, is)))) (given refl) text (inr (inr (inr ((w, is), refusal)))))
  row (command.Make plan) is given answer h = make_row plan is answer h
  row (command.Drill w plan) is given answer h = drill_row w plan is answer h
  row (command.Cells w rounds) is given answer h = cells_row w rounds is answer h

-- what serving an answer comes to has its status
same_status : (answer : Answer) → (served_of answer).status ≡ status_of answer
same_status (Text is text) = refl
same_status (Day text day) = refl
same_status (Records day) = refl
same_status (Orders day) = refl
same_status (Cells text closed) = refl

module _ (code : Codes ℕ) (one : (s xs ys : List ℕ) → AreCellValues code 0 CELLS s xs → AreCellValues code 0 CELLS s ys → xs ≡ ys)
    (words : List (List ℕ)) (left now : Option (List ℕ)) where
  -- a text that goes with a status does so by the words and the bytes
  text_by : (is : Status) (text : List ℕ) → IsTextFor code is words left now text → IsTextBy is words left now text
  text_by is text (inl h) = subst (λ (s : Status). IsTextBy s words left now text) (sym h.0) (h.1, h.2)
  text_by is text (inr (inl h)) = subst (λ (s : Status). IsTextBy s words left now text) (sym h.0) (h.1, h.2, h.3)
  text_by is text (inr (inr (answer, to, is_status, is_text))) =
      let by = (row code one words left now None None to.bytes to.command to.words_are to.given answer to.answer_is).0 in
      subst (λ (s : Status). IsTextBy s words left now text) (same_status answer ∙ sym is_status)
      (subst (λ (t : List ℕ). IsTextBy (served_of answer).status words left now t) (sym is_text) by)

  -- so does what the sink took
  pub took_by : (is : Status) (before after : Option (List ℕ)) → TookText code is words left now before after → TookBy is words left now before after
  took_by status.Done before after (text, for, took) = (text, text_by status.Done text for, took)
  took_by status.Differs before after (text, for, took) = (text, text_by status.Differs text for, took)
  took_by status.BadWords before after (text, for, took) = (text, text_by status.BadWords text for, took)
  took_by status.BadInput before after (text, for, took) = (text, text_by status.BadInput text for, took)
  took_by status.TooLarge before after (text, for, took) = (text, text_by status.TooLarge text for, took)
  took_by status.WriteFault before after (is, text, for, took) = (is, text, text_by is text for, took)
  took_by status.ReadFault before after took = tt
  took_by status.OutOfMemory before after took = tt

  -- the sink took a text that goes with a status, whole
  took_whole : (is : Status) (before after : Option (List ℕ)) (text : List ℕ) → IsTextFor code is words left now text
      → Appends before after text → TookText code is words left now before after
  took_whole status.Done before after text for took = (text, for, took)
  took_whole status.Differs before after text for took = (text, for, took)
  took_whole status.BadWords before after text for took = (text, for, took)
  took_whole status.BadInput before after text for took = (text, for, took)
  took_whole status.TooLarge before after text for took = (text, for, took)
  took_whole status.WriteFault before after text for took = absurd (text_by status.WriteFault text for)
  took_whole status.ReadFault before after text for took = tt
  took_whole status.OutOfMemory before after text for took = tt

-- what was read of a source
pub record HasRead {S : Type 0} (sources : Sources S) (words : List (List ℕ)) (source source' : S) : Type 0 where
  pub unread : (¬ IsReading words) → source' ≡ source
  pub taken : TakesAtMost (sources.left source) (sources.left source') (MOST_INPUT_BYTES + 1)
  pub reads : sources.reads source' ≤ sources.reads source + MOST_INPUT_BYTES + 2

-- a command reads, or leaves the source as it was
pub was_read : {S : Type 0} (sources : Sources S) (words : List (List ℕ)) (o : Command) → IsCommand words o → (source source' : S) (X : Type 0)
    → (reads_text o ≡ false → source' ≡ source × X)
    → TakesAtMost (sources.left source) (sources.left source') (MOST_INPUT_BYTES + 1)
    → sources.reads source' ≤ sources.reads source + MOST_INPUT_BYTES + 2 → HasRead sources words source source'
was_read sources words o is source source' X unread taken reads = record { unread = λ none. by none (reads_or_not o); taken = taken; reads = reads }
  where
    by : (¬ IsReading words) → (reads_text o ≡ true) ⊎ (reads_text o ≡ false) → source' ≡ source
    by none (inl reads) = absurd (none (reading_is words o is reads))
    by none (inr not) = (unread not).0

module _ {S K : Type 0} (sources : Sources S) (sinks : Sinks K) (code : Codes ℕ)
    (one : (s xs ys : List ℕ) → AreCellValues code 0 CELLS s xs → AreCellValues code 0 CELLS s ys → xs ≡ ys)
    (words : List (List ℕ)) (source source' : S) (sink sink' : K) where
  -- a text was printed whole
  pub printed_whole : HasRead sources words source source' → (result : Served) (text : List ℕ)
      → IsTextFor code result.status words (sources.left source) (sources.left source') text
      → Appends (sinks.taken sink) (sinks.taken sink') text
      → Told code words (sources.left source) (sinks.taken sink) (sinks.taken sink') result
      → ((¬ IsValidCommand words) → result.status ≡ status.BadWords)
      → (count_taken (sources.left source) (sources.left source') ≡ Some (MOST_INPUT_BYTES + 1) → result.status ≡ status.TooLarge)
      → IsServed sources sinks code words source source' sink sink' result
  printed_whole read result text for printed told valid above = record {
    text = took_whole code one words (sources.left source) (sources.left source') result.status (sinks.taken sink) (sinks.taken sink') text for printed;
    unwritten = none;
    day = told.day;
    drill_day = told.drill_day;
    has_day = told.has_day;
    cells = told.cells;
    has_cells = told.has_cells;
    records = told.records;
    has_records = told.has_records;
    orders = told.orders;
    has_orders = told.has_orders;
    unread = read.unread;
    taken = read.taken;
    reads = read.reads;
    words_first = λ invalid. inl (valid invalid);
    above_limit = λ many. inl (above many);
    read_fault = λ e. absurd (at status.ReadFault e);
    write_fault = λ e. absurd (at status.WriteFault e);
  }
    where
      at : (s : Status) → result.status ≡ s → IsTextBy s words (sources.left source) (sources.left source') text
      at s e = text_by code one words (sources.left source) (sources.left source') s text
          (subst (λ (s : Status). IsTextFor code s words (sources.left source) (sources.left source') text) e for)

      none : (result.status ≡ status.ReadFault) ⊎ (result.status ≡ status.OutOfMemory) → sink' ≡ sink
      none (inl e) = absurd (at status.ReadFault e)
      none (inr e) = absurd (at status.OutOfMemory e)

  -- the text of a status was not printed whole
  pub printed_part : HasRead sources words source source' → (is : Status) (text : List ℕ)
      → IsTextFor code is words (sources.left source) (sources.left source') text
      → AppendsPrefix (sinks.taken sink) (sinks.taken sink') text → Rose (sinks.faults sink) (sinks.faults sink')
      → IsServed sources sinks code words source source' sink sink' (only_status status.WriteFault)
  printed_part read is text for printed rose =
      let told = nothing_told code words (sources.left source) (sinks.taken sink) (sinks.taken sink') status.WriteFault (λ e. absurd (cc)) in
      record {
        text = (is, text, for, printed);
        unwritten = none;
        day = told.day;
        drill_day = told.drill_day;
        has_day = told.has_day;
        cells = told.cells;
        has_cells = told.has_cells;
        records = told.records;
        has_records = told.has_records;
        orders = told.orders;
        has_orders = told.has_orders;
        unread = read.unread;
        taken = read.taken;
        reads = read.reads;
        words_first = λ invalid. inr refl;
        above_limit = λ many. inr (inl refl);
        read_fault = λ e. absurd (cc);
        write_fault = λ e. rose;
      }
    where
      none : (status.WriteFault ≡ status.ReadFault) ⊎ (status.WriteFault ≡ status.OutOfMemory) → sink' ≡ sink
      none (inl e) = absurd (cc)
      none (inr e) = absurd (cc)

  -- nothing was printed
  pub printed_none : HasRead sources words source source' → IsValidCommand words → sink' ≡ sink → (is : Status)
      → TookText code is words (sources.left source) (sources.left source') (sinks.taken sink) (sinks.taken sink')
      → is ≢ status.Done → is ≢ status.WriteFault
      → (is ≡ status.ReadFault → IsReading words × Rose (sources.faults source) (sources.faults source'))
      → (count_taken (sources.left source) (sources.left source') ≡ Some (MOST_INPUT_BYTES + 1) → is ≡ status.OutOfMemory)
      → IsServed sources sinks code words source source' sink sink' (only_status is)
  printed_none read valid same is text done write fault above =
      let told = nothing_told code words (sources.left source) (sinks.taken sink) (sinks.taken sink') is (λ e. absurd (done e)) in
      record {
        text = text;
        unwritten = λ either. same;
        day = told.day;
        drill_day = told.drill_day;
        has_day = told.has_day;
        cells = told.cells;
        has_cells = told.has_cells;
        records = told.records;
        has_records = told.has_records;
        orders = told.orders;
        has_orders = told.has_orders;
        unread = read.unread;
        taken = read.taken;
        reads = read.reads;
        words_first = λ invalid. absurd (invalid valid);
        above_limit = λ many. inr (inr (above many));
        read_fault = fault;
        write_fault = λ e. absurd (write e);
      }

  -- by what was written of a text, with the status that it goes with
  pub by_written : (is : Status) (text : List ℕ) (result : Status)
      → (result ≡ is × Appends (sinks.taken sink) (sinks.taken sink') text)
      ⊎ (result ≡ status.WriteFault × Rose (sinks.faults sink) (sinks.faults sink') × AppendsPrefix (sinks.taken sink) (sinks.taken sink') text)
      → HasRead sources words source source' → IsTextFor code is words (sources.left source) (sources.left source') text → is ≢ status.Done
      → ((¬ IsValidCommand words) → is ≡ status.BadWords)
      → (count_taken (sources.left source) (sources.left source') ≡ Some (MOST_INPUT_BYTES + 1) → is ≡ status.TooLarge)
      → IsServed sources sinks code words source source' sink sink' (only_status result)
  by_written is text result (inl whole) read for done valid above =
      subst (λ (s : Status). IsServed sources sinks code words source source' sink sink' (only_status s)) (sym whole.0)
      (printed_whole read (only_status is) text for whole.1
      (nothing_told code words (sources.left source) (sinks.taken sink) (sinks.taken sink') is (λ e. absurd (done e))) valid above)
  by_written is text result (inr part) read for done valid above =
      subst (λ (s : Status). IsServed sources sinks code words source source' sink sink' (only_status s)) (sym part.0)
      (printed_part read is text for part.2 part.1)

  -- and of an answer
  pub by_answer : (o : Command) (bytes : List ℕ) (answer : Answer) (result : Served)
      → (result ≡ served_of answer × Appends (sinks.taken sink) (sinks.taken sink') (text_of_answer answer))
      ⊎ (result ≡ only_status status.WriteFault × Rose (sinks.faults sink) (sinks.faults sink')
      × AppendsPrefix (sinks.taken sink) (sinks.taken sink') (text_of_answer answer))
      → HasRead sources words source source' → IsCommand words o → WasGiven o (sources.left source) (sources.left source') bytes → IsAnswer code o bytes answer
      → count_taken (sources.left source) (sources.left source') ≢ Some (MOST_INPUT_BYTES + 1)
      → IsServed sources sinks code words source source' sink sink' result
  by_answer o bytes answer result written read is given answers few = by written
    where
      for : IsTextFor code (served_of answer).status words (sources.left source) (sources.left source') (text_of_answer answer)
      for = inr (inr (
        answer,
        record { command = o; words_are = is; bytes = bytes; given = given; answer_is = answers },
        same_status answer,
        refl,
      ))

      is_row : Printed code one words (sources.left source) (sources.left source') (sinks.taken sink) (sinks.taken sink') bytes answer
      is_row = row code one words (sources.left source) (sources.left source') (sinks.taken sink) (sinks.taken sink') bytes o is given answer answers

      by : (result ≡ served_of answer × Appends (sinks.taken sink) (sinks.taken sink') (text_of_answer answer))
          ⊎ (result ≡ only_status status.WriteFault × Rose (sinks.faults sink) (sinks.faults sink')
          × AppendsPrefix (sinks.taken sink) (sinks.taken sink') (text_of_answer answer))
          → IsServed sources sinks code words source source' sink sink' result
      by (inl whole) =
          subst (λ (r : Served). IsServed sources sinks code words source source' sink sink' r) (sym whole.0)
          (printed_whole read (served_of answer) (text_of_answer answer) for whole.1 (is_row.1 whole.1)
          (λ invalid. absurd (invalid (valid_is words o is))) (λ many. absurd (few many)))
      by (inr part) =
          subst (λ (r : Served). IsServed sources sinks code words source source' sink sink' r) (sym part.0)
          (printed_part read (served_of answer).status (text_of_answer answer) for part.2 part.1)

-- nothing that was taken is not one byte too many
pub nothing_counted : (left : Option (List ℕ)) → count_taken left left ≡ Some (MOST_INPUT_BYTES + 1) → ⊥
nothing_counted None same = cc
nothing_counted (Some bytes) same = let one : length bytes - length bytes ≡ MOST_INPUT_BYTES + 1 = cc in omega arith

-- if reading was refused the command is one that reads
pub reading_by : {T E : Type 0} (words : List (List ℕ)) (o : Command) → IsCommand words o → (r : Result T E) (e : E) (X : Type 0) → r ≡ Err e
    → (reads_text o ≡ false → X × IsOk r) → IsReading words
reading_by words o is r e X refused unread = by (reads_or_not o)
  where
    by : (reads_text o ≡ true) ⊎ (reads_text o ≡ false) → IsReading words
    by (inl reads) = reading_is words o is reads
    by (inr not) = let ok = subst IsOk refused (unread not).1 in absurd (true≢false (sym ok))

-- a value is neither of two errors
pub no_error : {T E : Type 0} (x : T) (a b : E) → (let r : Result T E = Ok x in (r ≡ Err a) ⊎ (r ≡ Err b)) → ⊥
no_error x a b (inl same) = cc
no_error x a b (inr same) = cc
