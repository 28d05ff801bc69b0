-- A whole text, or its first fault.
use Rattle.script_reader.proofs.Common.{◌≡◌, ◌⊎◌, inl, inr, ℕ, ◌+◌, ◌≤◌, ◌<◌, ◌==◌, List, Err, length, take, drop, refl, sym, ap, subst, take-append-drop}
use Rattle.script_reader.proofs.Common.{length-append, arith, count_by, LINE_FEED, ClearingInput, Spells, IsFirstFault}
use Rattle.std.proofs.Common.{MatchResult, take_all, length-drop}
use Rattle.script_reader.specs.declared.fault.Fault.{Fault as AnyFault}
use Rattle.script_reader.specs.Faults.{GoesOn}
use Rattle.script_reader.proofs.HandedOn.{handed_on}
use Rattle.script_reader.proofs.books.Texts.Counting.{few_of_input}
use Rattle.script_reader.proofs.books.Texts.Deciding.{not_both, one_fault}
use Rattle.script_reader.proofs.books.Texts.Fronting.{take_front}
use Rattle.script_reader.proofs.books.Texts.OneInput.{one_input}
use Rattle.script_reader.specs.declared.fault.Fault.TheVariants as fault
use Rattle.script_reader.specs.declared.fault.InputFault.TheVariants as refused
use Rattle.script_reader.proofs.books.front.read_input.Goals as goal

-- a text that goes on begins with one of an input
front_read : {text : List ℕ} {number : ℕ} {why : AnyFault} → (g : GoesOn text number why)
    → (length g.front ≤ length text) × Spells (take (length g.front) text) g.spelled.0
front_read g = (
  omega (arith, ap length g.text_is, length-append g.front g.rest),
  subst (λ t. Spells t g.spelled.0) (sym (take_front g.rest (length g.front) g.text_is
      (omega (arith, ap length g.text_is, length-append g.front g.rest)))) g.spelled.1,
)

-- a text whose front is that of an input, and which is longer, goes on
goes_on : {text : List ℕ} {end number : ℕ} {input : ClearingInput} → end < length text → Spells (take end text) input
    → number ≡ count_by (λ b. b == LINE_FEED) (take end text) → GoesOn text (number + 1) fault.End
goes_on {text} {end} {input} shorter h counted = record {
  front = take end text;
  rest = drop end text;
  text_is = sym (take-append-drop end text);
  spelled = (input, h);
  some = λ none. omega (arith, ap length none, length-drop end text, shorter);
  number_is = ap (λ n. n + 1) counted;
  why_is = refl;
}

pub returns-in_err-input-clause-read : goal.returns-in_err-input-clause-read
returns-in_err-input-clause-read c input h =
    let is = handed_on c.from_residual.ensures.1 in
    let all = take_all (length c.args.bytes.now) c.args.bytes.now (omega arith) in
    subst (λ r. MatchResult r (λ found. found ≡ input) (λ fault. fault ≡ refused.OutOfMemory)) (sym is)
    (c.in_err-input.ensures.read input (length c.args.bytes.now) (omega arith) (subst (λ t. Spells t input) (sym all) h))

pub returns-in_err-input-clause-refused : goal.returns-in_err-input-clause-refused
returns-in_err-input-clause-refused c number why e =
    let same : c.in_err-input.field-0.0 ≡ refused.Line number why = cc (handed_on c.from_residual.ensures.1) in
    inl (c.in_err-input.ensures.refused number why (ap Err same))

pub returns-in_err-input-clause-faulty : goal.returns-in_err-input-clause-faulty
returns-in_err-input-clause-faulty c number why h =
    let is = handed_on c.from_residual.ensures.1 in
    subst (λ r. MatchResult r (λ x. ⊥) (λ fault. (fault ≡ refused.Line number why) ⊎ (fault ≡ refused.OutOfMemory))) (sym is) (elim h [
      | inl f ↦ c.in_err-input.ensures.faulty number why f
      | inr g ↦ let front = front_read g in inr (c.in_err-input.ensures.read g.spelled.0 (length g.front) front.0 front.1)
    ])

pub overflow_cast-result : goal.overflow_cast-result
overflow_cast-result c = omega (
  arith,
  c.occurrences.ensures,
  few_of_input c.in_ok-input.ensures.ok.1,
)

pub overflow_add-result : goal.overflow_add-result
overflow_add-result c = omega (
  arith,
  c.occurrences.ensures,
  few_of_input c.in_ok-input.ensures.ok.1,
)

more : (c : goal.After-drop-input-inside-then-end-bytes-8) → GoesOn c.args.bytes.now (c.occurrences.result + 1) fault.End
more c = goes_on c.if-end-bytes.true
    c.in_ok-input.ensures.ok.1 c.occurrences.ensures

pub returns-then-end-bytes-clause-read : goal.returns-then-end-bytes-clause-read
returns-then-end-bytes-clause-read c input h = absurd (not_both c.args.bytes.now (input, h) (c.occurrences.result + 1, fault.End, inr (more c)))

pub returns-then-end-bytes-clause-refused : goal.returns-then-end-bytes-clause-refused
returns-then-end-bytes-clause-refused c number why e =
    let same_number : c.occurrences.result + 1 ≡ number = cc in
    let same_reason : fault.End ≡ why = cc in
    subst (λ n. IsFirstFault c.args.bytes.now n why) same_number (subst (IsFirstFault c.args.bytes.now (c.occurrences.result + 1)) same_reason (inr (more c)))

pub returns-then-end-bytes-clause-faulty : goal.returns-then-end-bytes-clause-faulty
returns-then-end-bytes-clause-faulty c number why h =
    let same = one_fault c.args.bytes.now (c.occurrences.result + 1) number fault.End why (inr (more c)) h in
    inl (λ i. refused.Line (same.0 i) (same.1 i))

-- all was read
all_read : (c : goal.Else-end-bytes) → Spells c.args.bytes.now c.in_ok-input.input
all_read c = subst (λ t. Spells t c.in_ok-input.input)
    (take_all c.in_ok-input.end c.args.bytes.now (omega (arith, c.if-end-bytes.false))) c.in_ok-input.ensures.ok.1

pub returns-clause-ok : goal.returns-clause-ok
returns-clause-ok c = all_read c

pub returns-clause-read : goal.returns-clause-read
returns-clause-read c input h = one_input c.args.bytes.now c.in_ok-input.input input (all_read c) h

pub returns-clause-faulty : goal.returns-clause-faulty
returns-clause-faulty c number why h = not_both c.args.bytes.now (c.in_ok-input.input, all_read c) (number, why, h)
