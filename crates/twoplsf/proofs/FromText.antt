-- What follows from the text that the sink took.
use Rattle.twoplsf.proofs.Common.{◌≡◌, ◌≢◌, ◌+◌, ◌≤◌, ◌<◌, ◌⊎◌, ℕ, List, length, refl, subst, Option, Some, None, IfSome, inl, inr, arith, Appends, IfSome_then}
use Rattle.twoplsf.proofs.Common.{TakesAtMost, count_taken, IsValidInput, AreTwoTexts, BeginWithInput, Fault, IsFirstFault, IsFrontFault, ClearingInput}
use Rattle.twoplsf.proofs.Common.{RESTARTS_BELOW, IsOutput, IsFirstWrongLine, MOST_INPUT_BYTES, Status, IsRecordFault, IsOrderFault, IsAnyRunCommand, IsCheck}
use Rattle.twoplsf.proofs.Common.{IsMaking, IsOrders, IsReading, IsRecords, IsValidCommand, differs_line, IsMadeText, IsRefusalOf, HaveInputFor, OfBytesRead}
use Rattle.twoplsf.proofs.Common.{refused_line, IsOrdersText, IsRecordsText}
use Rattle.twoplsf.specs.Causes.{Failed, HasCauses}
use Rattle.twoplsf.specs.Made.{PrintsMade}
use Rattle.twoplsf.specs.Answer.{PrintsOutput}
use Rattle.twoplsf.proofs.ByWords.{IsDoneText, IsDifferenceFor, IsRefusalFor, TookBy}
use Rattle.twoplsf.specs.Orders.{PrintsOrderOutput}
use Rattle.twoplsf.specs.Records.{PrintsRecordOutput}
use Rattle.twoplsf.proofs.Served.{of_left, run_not_check, records_not_check, orders_not_check, read_not_made, by_run, by_check, by_records, by_orders, IsOnly}
use Rattle.twoplsf.proofs.Served.{done_input, difference_input, done_is_output, refused_none, refused_first, only_fault, only_front, only_record, only_order}
use Rattle.twoplsf.proofs.Served.{wrong_is_none, wrong_is_first}
use Rattle.twoplsf.specs.declared.status.Status.TheVariants as status

-- the ways in which a command that reads ends on the bytes that were left
pub data EndsOn (result : Status) (words : List (List ℕ)) (bytes : List ℕ) : Type 0 where
  IsDone : result ≡ status.Done → length bytes ≤ MOST_INPUT_BYTES → (text : List ℕ) → IsDoneText words bytes text → EndsOn result words bytes
  IsOther : result ≡ status.Differs → length bytes ≤ MOST_INPUT_BYTES → (text : List ℕ) → IsDifferenceFor words bytes text → EndsOn result words bytes
  IsRefused : result ≡ status.BadInput → length bytes ≤ MOST_INPUT_BYTES → (text : List ℕ) → IsRefusalFor words bytes text → EndsOn result words bytes
  IsTooLarge : result ≡ status.TooLarge → MOST_INPUT_BYTES < length bytes → EndsOn result words bytes
  HasFailed : Failed result → EndsOn result words bytes

-- what always holds does so of bytes that are told
always : (left : Option (List ℕ)) (P : List ℕ → Type 0) → ((bytes : List ℕ) → P bytes) → IfSome left P
always None P h = tt
always (Some bytes) P h = h bytes

-- if one byte too many was taken, more were left than an input may have
above_most : (left now : Option (List ℕ)) → TakesAtMost left now (MOST_INPUT_BYTES + 1)
    → IfSome (count_taken left now) (λ n. n ≡ MOST_INPUT_BYTES + 1) → IfSome left (λ bytes. MOST_INPUT_BYTES < length bytes)
above_most None now taken above = tt
above_most (Some bytes) None taken above = absurd taken.1
above_most (Some bytes) (Some rest) taken above = omega arith

-- the words of a command whose text is made
made_text_is : (words : List (List ℕ)) (text : List ℕ) → IsMadeText words text → IsMaking words
made_text_is words text (inl input) = inl (input.seed, input.callers, input.scripts, input.command)
made_text_is words text (inr (inl sums)) = inr (inl (sums.workers, sums.seed, sums.callers, sums.scripts, sums.command))
made_text_is words text (inr (inr cells)) = inr (inr (cells.workers, cells.rounds, cells.command))

-- a command that reads ends in one of these ways
ends : (result : Status) (words : List (List ℕ)) (left now before after : Option (List ℕ))
    → TookBy result words left now before after → TakesAtMost left now (MOST_INPUT_BYTES + 1) → IsReading words
    → IfSome left (EndsOn result words)
ends status.Done words left now before after (text, inl h, printed) taken reading = of_left left h.2 (λ bytes is. IsDone refl is.0 text is.1)
ends status.Done words left now before after (text, inr made, printed) taken reading = absurd (read_not_made words reading (made_text_is words text made))
ends status.Differs words left now before after (text, h, printed) taken reading = of_left left h.2 (λ bytes is. IsOther refl is.0 text is.1)
ends status.BadWords words left now before after (text, h, printed) taken reading = absurd (h.0 (inl reading))
ends status.BadInput words left now before after (text, h, printed) taken reading = of_left left h.2 (λ bytes is. IsRefused refl is.0 text is.1)
ends status.TooLarge words left now before after (text, h, printed) taken reading =
    IfSome_then left (above_most left now taken h.1) (λ bytes many. IsTooLarge refl many)
ends status.ReadFault words left now before after h taken reading = always left (EndsOn status.ReadFault words) (λ bytes. HasFailed (inl refl))
ends status.WriteFault words left now before after h taken reading = always left (EndsOn status.WriteFault words) (λ bytes. HasFailed (inr (inl refl)))
ends status.OutOfMemory words left now before after h taken reading = always left (EndsOn status.OutOfMemory words) (λ bytes. HasFailed (inr (inr refl)))

module _ (result : Status) (words : List (List ℕ)) (bytes : List ℕ) where
  -- on more bytes than an input may have
  on_many : EndsOn result words bytes → MOST_INPUT_BYTES < length bytes → (result ≡ status.TooLarge) ⊎ Failed result
  on_many (IsDone is few text h) many = absurd (omega arith)
  on_many (IsOther is few text h) many = absurd (omega arith)
  on_many (IsRefused is few text h) many = absurd (omega arith)
  on_many (IsTooLarge is above) many = inl is
  on_many (HasFailed failed) many = inr failed

  -- on bytes that do not have the input
  on_no_input : EndsOn result words bytes → length bytes ≤ MOST_INPUT_BYTES → (HaveInputFor words bytes → ⊥) → (result ≡ status.BadInput) ⊎ Failed result
  on_no_input (IsDone is few text h) within none = absurd (none (done_input words bytes text h))
  on_no_input (IsOther is few text h) within none = absurd (none (difference_input words bytes text h))
  on_no_input (IsRefused is few text h) within none = inl is
  on_no_input (IsTooLarge is above) within none = absurd (omega arith)
  on_no_input (HasFailed failed) within none = inr failed

  -- on a text that is no output of the input in front
  on_no_output : IsCheck words → EndsOn result words bytes → length bytes ≤ MOST_INPUT_BYTES
      → (input : ClearingInput) (other : List ℕ) → AreTwoTexts bytes input other
      → (IsOutput input RESTARTS_BELOW other → ⊥) → (result ≡ status.Differs) ⊎ Failed result
  on_no_output check (IsDone is few text h) within input other two none = absurd (none (done_is_output words bytes text check h input other two))
  on_no_output check (IsOther is few text h) within input other two none = inl is
  on_no_output check (IsRefused is few text h) within input other two none =
      absurd (refused_none words bytes text h (inr (inl (check, record { input = input; text = other; two = two }))))
  on_no_output check (IsTooLarge is above) within input other two none = absurd (omega arith)
  on_no_output check (HasFailed failed) within input other two none = inr failed

  -- on bytes that have the input, if no fault came
  on_input : EndsOn result words bytes → length bytes ≤ MOST_INPUT_BYTES → HaveInputFor words bytes → result ≢ status.ReadFault → result ≢ status.WriteFault
      → (result ≡ status.Done) ⊎ (result ≡ status.Differs) ⊎ (result ≡ status.OutOfMemory)
  on_input (IsDone is few text h) within have read write = inl is
  on_input (IsOther is few text h) within have read write = inr (inl is)
  on_input (IsRefused is few text h) within have read write = absurd (refused_none words bytes text h have)
  on_input (IsTooLarge is above) within have read write = absurd (omega arith)
  on_input (HasFailed (inl fault)) within have read write = absurd (read fault)
  on_input (HasFailed (inr (inl fault))) within have read write = absurd (write fault)
  on_input (HasFailed (inr (inr memory))) within have read write = inr (inr memory)

  -- and for words that are not `check`, which alone compares texts
  on_no_check : (result ≡ status.Differs → IsCheck words) → ¬ IsCheck words
      → (result ≡ status.Done) ⊎ (result ≡ status.Differs) ⊎ (result ≡ status.OutOfMemory)
      → (result ≡ status.Done) ⊎ (result ≡ status.OutOfMemory)
  on_no_check only not (inl is) = inl is
  on_no_check only not (inr (inl is)) = absurd (not (only is))
  on_no_check only not (inr (inr memory)) = inr memory

-- a command that reads nothing ends so if no fault came
makes : (result : Status) (words : List (List ℕ)) (left now before after : Option (List ℕ))
    → TookBy result words left now before after → (result ≡ status.ReadFault → IsReading words) → result ≢ status.WriteFault → IsMaking words
    → (result ≡ status.Done) ⊎ (result ≡ status.OutOfMemory)
makes status.Done words left now before after h read write making = inl refl
makes status.Differs words left now before after (text, h, printed) read write making = absurd (read_not_made words h.0 making)
makes status.BadWords words left now before after (text, h, printed) read write making = absurd (h.0 (inr making))
makes status.BadInput words left now before after (text, h, printed) read write making = absurd (read_not_made words h.0 making)
makes status.TooLarge words left now before after (text, h, printed) read write making = absurd (read_not_made words h.0 making)
makes status.ReadFault words left now before after h read write making = absurd (read_not_made words (read refl) making)
makes status.WriteFault words left now before after h read write making = absurd (write refl)
makes status.OutOfMemory words left now before after h read write making = inr refl

-- a command has ended: what its sink took, by what its source gave, and what two of the statuses say besides
pub record HasEnded (result : Status) (words : List (List ℕ)) (left now before after : Option (List ℕ)) (Read Write : Type 0) : Type 0 where
  pub text : TookBy result words left now before after
  pub taken : TakesAtMost left now (MOST_INPUT_BYTES + 1)
  pub read : result ≡ status.ReadFault → IsReading words × Read
  pub write : result ≡ status.WriteFault → Write

module _ {result : Status} {words : List (List ℕ)} {left now before after : Option (List ℕ)} {Read Write : Type 0}
    (h : HasEnded result words left now before after Read Write) where
  -- the text of the status that it is
  text_of : (is : Status) → result ≡ is → TookBy is words left now before after
  text_of is same = subst (λ s. TookBy s words left now before after) same h.text

  -- what is printed by a command that reads
  done_read : (Prints : List ℕ → Type 0) → IsReading words
      → ((bytes text : List ℕ) → IsDoneText words bytes text → Appends before after text → Prints bytes)
      → result ≡ status.Done → OfBytesRead left Prints
  done_read Prints reading prints is = by (text_of status.Done is)
    where
      by : TookBy status.Done words left now before after → OfBytesRead left Prints
      by (text, inl t, printed) =
          let read = t.2 in
          record { bytes = read.bytes; told = read.told; holds = prints read.bytes text read.holds.1 printed }
      by (text, inr made, printed) = absurd (read_not_made words reading (made_text_is words text made))

  pub headline : IsAnyRunCommand words → result ≡ status.Done → OfBytesRead left (λ bytes. PrintsOutput words bytes before after)
  headline run = done_read (λ bytes. PrintsOutput words bytes before after) (inl run)
      (λ bytes text done printed. record { text = text; output = by_run words done run; printed = printed })

  pub headline_records : IsRecords words → result ≡ status.Done → OfBytesRead left (λ bytes. PrintsRecordOutput words bytes before after)
  headline_records records = done_read (λ bytes. PrintsRecordOutput words bytes before after) (inr (inr (inl records)))
      (λ bytes text done printed. record { text = text; output = by_records words done records; printed = printed })

  pub headline_orders : IsOrders words → result ≡ status.Done → OfBytesRead left (λ bytes. PrintsOrderOutput words bytes before after)
  headline_orders orders = done_read (λ bytes. PrintsOrderOutput words bytes before after) (inr (inr (inr orders)))
      (λ bytes text done printed. record { text = text; output = by_orders words done orders; printed = printed })

  -- and by a command that reads nothing
  pub made : IsMaking words → result ≡ status.Done → PrintsMade words before after
  made making is = by (text_of status.Done is)
    where
      by : TookBy status.Done words left now before after → PrintsMade words before after
      by (text, inl t, printed) = absurd (read_not_made words t.0 making)
      by (text, inr made, printed) = record { text = text; made = made; printed = printed }

  -- words are refused that are no command
  pub bad_words : result ≡ status.BadWords → IsValidCommand words → ⊥
  bad_words is = (text_of status.BadWords is).1.0

  -- so are bytes of which one too many was taken
  pub too_large : result ≡ status.TooLarge → IfSome (count_taken left now) (λ n. n ≡ MOST_INPUT_BYTES + 1)
  too_large is = (text_of status.TooLarge is).1.1

  pub too_many : IsReading words → IfSome left (λ bytes. MOST_INPUT_BYTES < length bytes → (result ≡ status.TooLarge) ⊎ Failed result)
  too_many reading = IfSome_then left (ends result words left now before after h.text h.taken reading) (on_many result words)

  -- bytes are refused that do not have the input, and their first fault is named
  refused : (IsFirst : List ℕ → ℕ → Fault → Type 0) → IsOnly IsFirst
      → ((bytes text : List ℕ) → IsRefusalFor words bytes text → IsRefusalOf IsFirst bytes text) → result ≡ status.BadInput
      → IfSome left (λ bytes. (number : ℕ) (why : Fault) → IsFirst bytes number why → Appends before after (refused_line number why))
  refused IsFirst only refusal_of is =
      let t = text_of status.BadInput is in
      of_left left t.1.2 (λ bytes refusal number why fault.
      subst (Appends before after) (refused_first IsFirst bytes t.0 only (refusal_of bytes t.0 refusal.1) number why fault) t.2)

  pub first_fault : IsAnyRunCommand words → result ≡ status.BadInput → IfSome left (λ bytes. (number : ℕ) (why : Fault)
      → IsFirstFault bytes number why → Appends before after (refused_line number why))
  first_fault run = refused IsFirstFault only_fault (λ bytes text refusal. by_run words refusal run)

  pub first_fault_in_front : IsCheck words → result ≡ status.BadInput → IfSome left (λ bytes. (number : ℕ) (why : Fault)
      → IsFrontFault bytes number why → Appends before after (refused_line number why))
  first_fault_in_front check = refused IsFrontFault only_front (λ bytes text refusal. by_check words refusal check)

  pub first_record_fault : IsRecords words → result ≡ status.BadInput → IfSome left (λ bytes. (number : ℕ) (why : Fault)
      → IsRecordFault bytes number why → Appends before after (refused_line number why))
  first_record_fault records = refused IsRecordFault only_record (λ bytes text refusal. by_records words refusal records)

  pub first_order_fault : IsOrders words → result ≡ status.BadInput → IfSome left (λ bytes. (number : ℕ) (why : Fault)
      → IsOrderFault bytes number why → Appends before after (refused_line number why))
  first_order_fault orders = refused IsOrderFault only_order (λ bytes text refusal. by_orders words refusal orders)

  pub bad_input : result ≡ status.BadInput → IfSome left (λ bytes. HaveInputFor words bytes → ⊥)
  bad_input is = let t = text_of status.BadInput is in of_left left t.1.2 (λ bytes refused. refused_none words bytes t.0 refused.1)

  pub no_input : IsReading words → IfSome left (λ bytes. length bytes ≤ MOST_INPUT_BYTES
      → (HaveInputFor words bytes → ⊥) → (result ≡ status.BadInput) ⊎ Failed result)
  no_input reading = IfSome_then left (ends result words left now before after h.text h.taken reading) (on_no_input result words)

  -- a text differs that is no output, and its first wrong line is named
  pub differs : result ≡ status.Differs → IfSome left (λ bytes. (input : ClearingInput) (other : List ℕ)
      → AreTwoTexts bytes input other → IsOutput input RESTARTS_BELOW other → ⊥)
  differs is = let t = text_of status.Differs is in of_left left t.1.2 (λ bytes difference. wrong_is_none words bytes t.0 difference.1)

  pub first_wrong : result ≡ status.Differs
      → IfSome left (λ bytes. (input : ClearingInput) (other : List ℕ) (number : ℕ) → AreTwoTexts bytes input other
      → IsFirstWrongLine input RESTARTS_BELOW other number → Appends before after (differs_line number))
  first_wrong is =
      let t = text_of status.Differs is in
      of_left left t.1.2 (λ bytes difference input other number two wrong.
      subst (Appends before after) (wrong_is_first words bytes t.0 difference.1 input other number two wrong) t.2)

  pub no_output : IsCheck words
      → IfSome left (λ bytes. length bytes ≤ MOST_INPUT_BYTES → (input : ClearingInput) (other : List ℕ)
      → AreTwoTexts bytes input other → (IsOutput input RESTARTS_BELOW other → ⊥) → (result ≡ status.Differs) ⊎ Failed result)
  no_output check = IfSome_then left (ends result words left now before after h.text h.taken (inr (inl check))) (λ bytes. on_no_output result words bytes check)

  -- no command but `check` finds that a text differs
  pub only_check : result ≡ status.Differs → IsCheck words
  only_check is = (text_of status.Differs is).1.2.holds.1.0

  -- so each status has its cause
  pub causes : HasCauses result words left now before after
  causes = record {
    bad_words = bad_words;
    too_large = too_large;
    too_many = too_many;
    first_fault = first_fault;
    first_fault_in_front = first_fault_in_front;
    first_record_fault = first_record_fault;
    first_order_fault = first_order_fault;
    bad_input = bad_input;
    no_input = no_input;
    only_check = only_check;
    differs = differs;
    first_wrong = first_wrong;
    no_output = no_output;
  }

  -- if nothing is wrong, the work is done, or a text differs
  complete_reading : IsReading words
      → IfSome left (λ bytes. length bytes ≤ MOST_INPUT_BYTES → HaveInputFor words bytes → (Read → ⊥) → (Write → ⊥)
      → (result ≡ status.Done) ⊎ (result ≡ status.Differs) ⊎ (result ≡ status.OutOfMemory))
  complete_reading reading =
      IfSome_then left (ends result words left now before after h.text h.taken reading)
      (λ bytes end within have read write.
      on_input result words bytes end within have (λ is. read (h.read is).1) (λ is. write (h.write is)))

  complete_running : (IsText : List ℕ → Type 0) → IsReading words → ¬ IsCheck words → ((bytes : List ℕ) → IsText bytes → HaveInputFor words bytes)
      → IfSome left (λ bytes. length bytes ≤ MOST_INPUT_BYTES → IsText bytes → (Read → ⊥) → (Write → ⊥)
      → (result ≡ status.Done) ⊎ (result ≡ status.OutOfMemory))
  complete_running IsText reading not have =
      IfSome_then left (complete_reading reading)
      (λ bytes ends within text read write. on_no_check result words bytes only_check not (ends within (have bytes text) read write))

  pub complete : IsAnyRunCommand words → IfSome left (λ bytes. length bytes ≤ MOST_INPUT_BYTES → IsValidInput bytes → (Read → ⊥)
      → (Write → ⊥) → (result ≡ status.Done) ⊎ (result ≡ status.OutOfMemory))
  complete run = complete_running IsValidInput (inl run) (run_not_check words run) (λ bytes valid. inl (run, valid))

  pub complete_check : IsCheck words
      → IfSome left (λ bytes. length bytes ≤ MOST_INPUT_BYTES → BeginWithInput bytes → (Read → ⊥) → (Write → ⊥)
      → (result ≡ status.Done) ⊎ (result ≡ status.Differs) ⊎ (result ≡ status.OutOfMemory))
  complete_check check = IfSome_then left (complete_reading (inr (inl check))) (λ bytes ends within begins. ends within (inr (inl (check, begins))))

  pub complete_records : IsRecords words → IfSome left (λ bytes. length bytes ≤ MOST_INPUT_BYTES → IsRecordsText bytes → (Read → ⊥)
      → (Write → ⊥) → (result ≡ status.Done) ⊎ (result ≡ status.OutOfMemory))
  complete_records records = complete_running IsRecordsText (inr (inr (inl records))) (records_not_check words records)
      (λ bytes text. inr (inr (inl (records, text))))

  pub complete_orders : IsOrders words → IfSome left (λ bytes. length bytes ≤ MOST_INPUT_BYTES → IsOrdersText bytes → (Read → ⊥)
      → (Write → ⊥) → (result ≡ status.Done) ⊎ (result ≡ status.OutOfMemory))
  complete_orders orders = complete_running IsOrdersText (inr (inr (inr orders))) (orders_not_check words orders)
      (λ bytes text. inr (inr (inr (orders, text))))

  pub complete_making : IsMaking words → (Write → ⊥) → (result ≡ status.Done) ⊎ (result ≡ status.OutOfMemory)
  complete_making making write = makes result words left now before after h.text (λ is. (h.read is).0) (λ is. write (h.write is)) making
