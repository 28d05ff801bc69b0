-- What is read up to the last line, or the first fault.
use Rattle.script_reader.proofs.Common.{◌≡◌, inl, ℕ, ◌-◌, ◌≤◌, ◌==◌, List, [], Err, length, take, drop, sym, ap, subst, ◌∙◌, take-append-drop, length-append}
use Rattle.script_reader.proofs.Common.{arith, count_by, LINE_FEED, ClearingInput, Spells, HasFront, IsFaultyBehind, IsFrontFault}
use Rattle.std.proofs.Common.{length-take}
use Rattle.script_reader.specs.declared.fault.Fault.{Fault as AnyFault}
use Rattle.script_reader.proofs.books.Texts.Counting.{told, in_front}
use Rattle.script_reader.proofs.Judged.{feeds}
use Rattle.script_reader.proofs.books.Texts.Deciding.{front_not_both, fronts_once, one_fault}
use Rattle.script_reader.proofs.books.Texts.Fronting.{take_front}
use Rattle.script_reader.proofs.books.Texts.OneInput.{one_input}
use Rattle.script_reader.specs.declared.fault.InputFault.TheVariants as refused
use Rattle.script_reader.proofs.books.front.read_front.Goals as goal

-- a front that was read
ok_read : {text left : List ℕ} {input other : ClearingInput} {end : ℕ} → HasFront input text left → end ≤ length text
    → Spells (take end text) other → (input ≡ other) × (length text - length left ≡ end)
ok_read {text} {left} {input} {other} {end} h short k =
    let same = fronts_once text h.front left (take end text) (drop end text) h.text (sym (take-append-drop end text)) (input, h.spelled) (other, k) in (
      one_input h.front input other h.spelled (subst (λ t. Spells t other) (sym same.0) k),
      omega (arith, ap length h.text, ap length same.0, length-append h.front left, length-take end text, short),
    )

-- what is known of the text if a line is faulty
in_text : {text start left : List ℕ} {why : AnyFault} → start ≡ text → IsFaultyBehind [] start left why → IsFaultyBehind [] text left why
in_text {left} {why} e h = subst (λ l. IsFaultyBehind [] l left why) e h

behind : (c : goal.After-len-in-Err-LineFault) → IsFaultyBehind [] c.args.bytes.now c.input_of.new.lines c.in-Err-LineFault.why
behind c = in_text c.new-lines.ensures
    (c.input_of.ensures.fault c.in-Err-LineFault.why (c.in-Err-LineFault.is ∙ ap Err c.in-Err-LineFault.field-0-is))

pub slice_bounds-occurrences-count : goal.slice_bounds-occurrences-count
slice_bounds-occurrences-count c =
    omega (arith, c.len-in-Err-LineFault.ensures, (told c.args.bytes.now c.input_of.new.lines c.in-Err-LineFault.why (behind c)).shorter)

behind_counted : (c : goal.After-occurrences-read) → IsFaultyBehind [] c.args.bytes.now c.input_of.new.lines c.in-Err-LineFault.why
behind_counted c = in_text
    c.new-lines.ensures (c.input_of.ensures.fault c.in-Err-LineFault.why (c.in-Err-LineFault.is ∙ ap Err c.in-Err-LineFault.field-0-is))

behind_numbered : (c : goal.After-faulty_line-line) → IsFaultyBehind [] c.args.bytes.now c.input_of.new.lines c.in-Err-LineFault.why
behind_numbered c = in_text
    c.new-lines.ensures (c.input_of.ensures.fault c.in-Err-LineFault.why (c.in-Err-LineFault.is ∙ ap Err c.in-Err-LineFault.field-0-is))

-- how many line feeds there are in front of what is left
counted : (c : goal.After-occurrences-read) → c.occurrences-read.result ≡ feeds c.args.bytes.now c.input_of.new.lines
counted c = c.occurrences-read.ensures
    ∙ ap (λ n. count_by (λ b. b == LINE_FEED) (take (length c.args.bytes.now - n) c.args.bytes.now)) c.len-in-Err-LineFault.ensures

pub faulty_line-line-requires : goal.faulty_line-line-requires
faulty_line-line-requires c = omega (arith, counted c, (told c.args.bytes.now c.input_of.new.lines c.in-Err-LineFault.why (behind_counted c)).few)

front : (c : goal.After-len) → HasFront c.in-Ok.input c.args.bytes.now c.input_of.new.lines
front c = subst (λ l. HasFront c.in-Ok.input l c.input_of.new.lines) c.new-lines.ensures c.in-Ok.ensures.found

pub returns-in-Ok-clause-ok : goal.returns-in-Ok-clause-ok
returns-in-Ok-clause-ok c =
    let h = front c in
    let end = ap (λ n. length c.args.bytes.now - n) c.len.ensures in (
      omega arith,
      subst (λ t. Spells t c.in-Ok.input)
          (sym (take_front c.input_of.new.lines (length c.args.bytes.now - c.len.result) h.text end)) h.spelled,
    )

pub returns-in-Ok-clause-read : goal.returns-in-Ok-clause-read
returns-in-Ok-clause-read c input end short h =
    let same = ok_read (front c) short h in
    (same.0, ap (λ n. length c.args.bytes.now - n) c.len.ensures ∙ same.1)

pub returns-in-Ok-clause-faulty : goal.returns-in-Ok-clause-faulty
returns-in-Ok-clause-faulty c number why h =
    front_not_both c.args.bytes.now (front c).front c.input_of.new.lines number why (front c).text (c.in-Ok.input, (front c).spelled) h

numbered : (c : goal.After-faulty_line-line) → c.occurrences-read.result ≡ feeds c.args.bytes.now c.input_of.new.lines
numbered c = c.occurrences-read.ensures
    ∙ ap (λ n. count_by (λ b. b == LINE_FEED) (take (length c.args.bytes.now - n) c.args.bytes.now)) c.len-in-Err-LineFault.ensures

faulty : (c : goal.After-faulty_line-line) → IsFrontFault c.args.bytes.now c.faulty_line-line.result c.in-Err-LineFault.why
faulty c = in_front c.args.bytes.now c.input_of.new.lines c.in-Err-LineFault.why (behind_numbered c)
    c.occurrences-read.result c.faulty_line-line.result (numbered c) c.faulty_line-line.ensures.missing c.faulty_line-line.ensures.whole

pub returns-in-Err-LineFault-clause-read : goal.returns-in-Err-LineFault-clause-read
returns-in-Err-LineFault-clause-read c input end short h =
    absurd (front_not_both c.args.bytes.now (take end c.args.bytes.now) (drop end c.args.bytes.now)
    c.faulty_line-line.result c.in-Err-LineFault.why (sym (take-append-drop end c.args.bytes.now)) (input, h) (faulty c))

pub returns-in-Err-LineFault-clause-refused : goal.returns-in-Err-LineFault-clause-refused
returns-in-Err-LineFault-clause-refused c number why e =
    let same_number : c.faulty_line-line.result ≡ number = cc in
    let same_reason : c.in-Err-LineFault.why ≡ why = cc in
    subst (λ n. IsFrontFault c.args.bytes.now n why) same_number (subst (IsFrontFault c.args.bytes.now c.faulty_line-line.result) same_reason (faulty c))

pub returns-in-Err-LineFault-clause-faulty : goal.returns-in-Err-LineFault-clause-faulty
returns-in-Err-LineFault-clause-faulty c number why h =
    let same = one_fault c.args.bytes.now c.faulty_line-line.result number c.in-Err-LineFault.why why (inl (faulty c)) (inl h) in
    inl (λ i. refused.Line (same.0 i) (same.1 i))
