use Rattle.script_reader.proofs.Common.{◌≡◌, [], inl, inr, ◌+◌, ◌-◌, ◌==◌, Err, length, take, sym, ap, subst, ◌∙◌, arith, count_by, LINE_FEED, IsFaultBehind}
use Rattle.script_reader.proofs.Common.{IsFaultInFront, GoesOnBehind, IsTextOf, IsText, IsFirstFaultIn, judge, HasTextInFront}
use Rattle.script_reader.proofs.Judged.{feeds}
use Rattle.script_reader.proofs.language.Listed.Telling.{one_text, one_fault, not_both}
use Rattle.script_reader.proofs.language.Listed.Ending.{told, in_front, whole_text, goes_on, few_feeds}
use Rattle.script_reader.proofs.language.reader.read_text.Given.{Over}
use Rattle.script_reader.specs.declared.fault.Fault.TheVariants as fault
use Rattle.script_reader.specs.declared.fault.InputFault.TheVariants as refused
use Rattle.script_reader.proofs.language.reader.read_text.Goals as goal

-- nothing is left
whole : (g : Over) (c : goal.Then-len-eq0 g) → IsTextOf g.L.Language.language c.args.bytes.now (g.L.Language.sizes_of c.in-Ok.found.0) c.in-Ok.found.1
whole g c =
    let language = g.L.Language.language in
    let ns = g.L.Language.sizes_of c.in-Ok.found.0 in
    let front = subst (λ l. HasTextInFront language ns c.in-Ok.found.1 l c.front_of.new.lines) c.new-lines.ensures c.in-Ok.ensures.found in
    whole_text language front (sym c.len.ensures ∙ c.if-len-eq0.true)

pub returns-then-len-eq0-clause-read : goal.returns-then-len-eq0-clause-read
returns-then-len-eq0-clause-read g c sizes callers h =
    one_text g.L.Language.language g.met.L.Language.lawful c.args.bytes.now (g.L.Language.sizes_of c.in-Ok.found.0) sizes c.in-Ok.found.1 callers (whole g c) h

pub returns-then-len-eq0-clause-faulty : goal.returns-then-len-eq0-clause-faulty
returns-then-len-eq0-clause-faulty g c number why h =
    not_both g.L.Language.language g.met.L.Language.lawful c.args.bytes.now (g.L.Language.sizes_of c.in-Ok.found.0) c.in-Ok.found.1 number why (whole g c) h

pub overflow_cast-line : goal.overflow_cast-line
overflow_cast-line g c =
    let language = g.L.Language.language in
    let ns = g.L.Language.sizes_of c.in-Ok.found.0 in
    let front = subst (λ l. HasTextInFront language ns c.in-Ok.found.1 l c.front_of.new.lines) c.new-lines.ensures c.in-Ok.ensures.found in
    let counted : c.occurrences-read.result ≡ feeds c.args.bytes.now c.front_of.new.lines = c.occurrences-read.ensures
    ∙ ap (λ n. count_by (λ b. b == LINE_FEED) (take (length c.args.bytes.now - n) c.args.bytes.now)) c.len-in-Ok.ensures in
    omega (arith, counted, few_feeds language front g.met.L.Language.lawful)

pub overflow_add-line : goal.overflow_add-line
overflow_add-line g c =
    let language = g.L.Language.language in
    let ns = g.L.Language.sizes_of c.in-Ok.found.0 in
    let front = subst (λ l. HasTextInFront language ns c.in-Ok.found.1 l c.front_of.new.lines) c.new-lines.ensures c.in-Ok.ensures.found in
    let counted : c.occurrences-read.result ≡ feeds c.args.bytes.now c.front_of.new.lines = c.occurrences-read.ensures
    ∙ ap (λ n. count_by (λ b. b == LINE_FEED) (take (length c.args.bytes.now - n) c.args.bytes.now)) c.len-in-Ok.ensures in
    omega (arith, counted, few_feeds language front g.met.L.Language.lawful)

pub faulty_line-line-requires : goal.faulty_line-line-requires
faulty_line-line-requires g c =
    let language = g.L.Language.language in
    let behind = subst (λ l. IsFaultBehind (judge language) [] l c.front_of.new.lines c.in-Err-LineFault.why) c.new-lines.ensures
    (c.front_of.ensures.fault c.in-Err-LineFault.why (c.in-Err-LineFault.is ∙ ap Err c.in-Err-LineFault.field-0-is)) in
    let counted : c.occurrences-read-in-Err-LineFault.result ≡ feeds c.args.bytes.now c.front_of.new.lines = c.occurrences-read-in-Err-LineFault.ensures
    ∙ ap (λ n. count_by (λ b. b == LINE_FEED) (take (length c.args.bytes.now - n) c.args.bytes.now)) c.len-in-Err-LineFault.ensures in
    omega (arith, counted, (told language c.args.bytes.now c.front_of.new.lines c.in-Err-LineFault.why behind).few)

-- the text goes on behind its last line
on : (g : Over) (c : goal.After-drop-found-in-Ok-4 g) → GoesOnBehind (IsText g.L.Language.language) c.args.bytes.now (c.occurrences-read.result + 1) fault.End
on g c =
    let language = g.L.Language.language in
    let ns = g.L.Language.sizes_of c.in-Ok.found.0 in
    let front = subst (λ l. HasTextInFront language ns c.in-Ok.found.1 l c.front_of.new.lines) c.new-lines.ensures c.in-Ok.ensures.found in
    let counted : c.occurrences-read.result ≡ feeds c.args.bytes.now c.front_of.new.lines = c.occurrences-read.ensures
    ∙ ap (λ n. count_by (λ b. b == LINE_FEED) (take (length c.args.bytes.now - n) c.args.bytes.now)) c.len-in-Ok.ensures in
    goes_on language front (λ none. c.if-len-eq0.false (c.len.ensures ∙ none))
    counted

pub returns-else-len-eq0-clause-read : goal.returns-else-len-eq0-clause-read
returns-else-len-eq0-clause-read g c sizes callers h =
    absurd (not_both g.L.Language.language g.met.L.Language.lawful c.args.bytes.now sizes callers (c.occurrences-read.result + 1) fault.End h (inr (on g c)))

pub returns-else-len-eq0-clause-refused : goal.returns-else-len-eq0-clause-refused
returns-else-len-eq0-clause-refused g c number why e =
    let same_number : c.occurrences-read.result + 1 ≡ number = cc in
    let same_reason : fault.End ≡ why = cc in
    subst (λ n. IsFirstFaultIn g.L.Language.language c.args.bytes.now n why) same_number
    (subst (IsFirstFaultIn g.L.Language.language c.args.bytes.now (c.occurrences-read.result + 1)) same_reason (inr (on g c)))

pub returns-else-len-eq0-clause-faulty : goal.returns-else-len-eq0-clause-faulty
returns-else-len-eq0-clause-faulty g c number why h =
    let same = one_fault g.L.Language.language g.met.L.Language.lawful c.args.bytes.now (c.occurrences-read.result + 1) number fault.End why
    (inr (on g c)) h in
    inl (λ i. refused.Line (same.0 i) (same.1 i))

-- a line is faulty
faulty : (g : Over) (c : goal.After-faulty_line-line g) → IsFaultInFront (judge g.L.Language.language) c.args.bytes.now c.faulty_line-line.result
    c.in-Err-LineFault.why
faulty g c =
    let language = g.L.Language.language in
    let behind = subst (λ l. IsFaultBehind (judge language) [] l c.front_of.new.lines c.in-Err-LineFault.why) c.new-lines.ensures
    (c.front_of.ensures.fault c.in-Err-LineFault.why (c.in-Err-LineFault.is ∙ ap Err c.in-Err-LineFault.field-0-is)) in
    let counted : c.occurrences-read-in-Err-LineFault.result ≡ feeds c.args.bytes.now c.front_of.new.lines = c.occurrences-read-in-Err-LineFault.ensures
    ∙ ap (λ n. count_by (λ b. b == LINE_FEED) (take (length c.args.bytes.now - n) c.args.bytes.now)) c.len-in-Err-LineFault.ensures in
    in_front language c.args.bytes.now c.front_of.new.lines c.in-Err-LineFault.why behind c.occurrences-read-in-Err-LineFault.result c.faulty_line-line.result
    counted c.faulty_line-line.ensures.missing c.faulty_line-line.ensures.whole

pub returns-in-Err-LineFault-clause-read : goal.returns-in-Err-LineFault-clause-read
returns-in-Err-LineFault-clause-read g c sizes callers h =
    absurd (not_both g.L.Language.language g.met.L.Language.lawful c.args.bytes.now sizes callers c.faulty_line-line.result c.in-Err-LineFault.why h
    (inl (faulty g c)))

pub returns-in-Err-LineFault-clause-refused : goal.returns-in-Err-LineFault-clause-refused
returns-in-Err-LineFault-clause-refused g c number why e =
    let same_number : c.faulty_line-line.result ≡ number = cc in
    let same_reason : c.in-Err-LineFault.why ≡ why = cc in
    subst (λ n. IsFirstFaultIn g.L.Language.language c.args.bytes.now n why) same_number
    (subst (IsFirstFaultIn g.L.Language.language c.args.bytes.now c.faulty_line-line.result) same_reason (inl (faulty g c)))

pub returns-in-Err-LineFault-clause-faulty : goal.returns-in-Err-LineFault-clause-faulty
returns-in-Err-LineFault-clause-faulty g c number why h =
    let same = one_fault g.L.Language.language g.met.L.Language.lawful c.args.bytes.now c.faulty_line-line.result number c.in-Err-LineFault.why why
    (inl (faulty g c)) h in
    inl (λ i. refused.Line (same.0 i) (same.1 i))
