use Rattle.twoplsf.proofs.Common.{◌≡◌, ◌≤◌, ◌<◌, ◌⊎◌, ◌∙◌, ℕ, List, length, Option, None, Some, IfSome, sym, ap, subst, inl, inr, arith, IfSome_then, Rose}
use Rattle.twoplsf.proofs.Common.{AreTwoTexts, BeginWithInput, IsValidInput, MOST_INPUT_BYTES, HaveInputFor, IsDayFor, OfBytesRead, texts_of, IsOrdersText}
use Rattle.twoplsf.proofs.Common.{IsRecordsText}
use Rattle.twoplsf.proofs.surely.serve_surely.Goals as goal

-- a count that is 0 before and after did not rise
never : Rose 0 0 → ⊥
never (inl less) = omega arith
never (inr last) = omega arith

-- of four, if two in the middle do not hold
first_or_last : {A B C D : Type 0} → (A ⊎ B ⊎ C ⊎ D) → (B → ⊥) → (C → ⊥) → A ⊎ D
first_or_last (inl a) b c = inl a
first_or_last (inr (inl h)) b c = absurd (b h)
first_or_last (inr (inr (inl h))) b c = absurd (c h)
first_or_last (inr (inr (inr d))) b c = inr d

-- of two and of three, if the second does not hold
first : {A B : Type 0} → A ⊎ B → (B → ⊥) → A
first (inl a) b = a
first (inr h) b = absurd (b h)

not_second : {A B C : Type 0} → A ⊎ B ⊎ C → (B → ⊥) → A ⊎ C
not_second (inl a) b = inl a
not_second (inr (inl h)) b = absurd (b h)
not_second (inr (inr c)) b = inr c

-- what holds on the bytes that were left does so on those that were given
on_given : (given left : List ℕ) (IsText : List ℕ → Type 0) (A : Type 0) → given ≡ left
    → (length left ≤ MOST_INPUT_BYTES → IsText left → ¬ Rose 0 0 → ¬ Rose 0 0 → A) → length given ≤ MOST_INPUT_BYTES → IsText given → A
on_given given left IsText A same holds within text =
    holds (subst (λ (l : List ℕ). length l ≤ MOST_INPUT_BYTES) same within) (subst IsText same text) never never

-- and what is told of those that were read
told_of_given : {T : Type 0} (told : Option T) (given left : List ℕ) (P : List ℕ → T → Type 0) → given ≡ left
    → IfSome told (λ day. OfBytesRead (Some left) (λ bytes. P bytes day)) → IfSome told (P given)
told_of_given told given left P same holds =
    IfSome_then told holds (λ day read. subst (λ (bytes : List ℕ). P bytes day) (sym (same ∙ read.told)) read.holds)

pub returns-clause-no_read_fault : goal.returns-clause-no_read_fault
returns-clause-no_read_fault g c is = never (c.serve.ensures.served.read_fault is).1

pub returns-clause-no_write_fault : goal.returns-clause-no_write_fault
returns-clause-no_write_fault g c is = never (c.serve.ensures.served.write_fault is)

pub returns-clause-bad_words : goal.returns-clause-bad_words
returns-clause-bad_words g c none = first (c.serve.ensures.served.words_first none) (λ e. never (c.serve.ensures.served.write_fault e))

pub returns-clause-run : goal.returns-clause-run
returns-clause-run g c run = on_given c.args.bytes.items c.new-source.result.left IsValidInput _ (sym (ap (λ s. s.left) c.new-source.ensures))
    (c.serve.ensures.complete run)

pub returns-clause-run_records : goal.returns-clause-run_records
returns-clause-run_records g c records =
    on_given c.args.bytes.items c.new-source.result.left IsRecordsText _ (sym (ap (λ s. s.left) c.new-source.ensures))
    (c.serve.ensures.complete_records records)

pub returns-clause-run_orders : goal.returns-clause-run_orders
returns-clause-run_orders g c orders =
    on_given c.args.bytes.items c.new-source.result.left IsOrdersText _ (sym (ap (λ s. s.left) c.new-source.ensures))
    (c.serve.ensures.complete_orders orders)

pub returns-clause-bad_input : goal.returns-clause-bad_input
returns-clause-bad_input g c reading within none =
    let given : c.args.bytes.items ≡ c.new-source.result.left = sym (ap (λ s. s.left) c.new-source.ensures) in
    first_or_last
    (c.serve.ensures.causes.no_input reading (subst (λ (l : List ℕ). length l ≤ MOST_INPUT_BYTES) given within)
    (λ have. none (subst (HaveInputFor (texts_of c.args.words.now)) (sym given) have)))
    (λ e. never (c.serve.ensures.served.read_fault e).1) (λ e. never (c.serve.ensures.served.write_fault e))

pub returns-clause-too_large : goal.returns-clause-too_large
returns-clause-too_large g c reading many =
    let given : c.args.bytes.items ≡ c.new-source.result.left = sym (ap (λ s. s.left) c.new-source.ensures) in
    first_or_last
    (c.serve.ensures.causes.too_many reading (subst (λ (l : List ℕ). MOST_INPUT_BYTES < length l) given many))
    (λ e. never (c.serve.ensures.served.read_fault e).1) (λ e. never (c.serve.ensures.served.write_fault e))

pub returns-clause-differs : goal.returns-clause-differs
returns-clause-differs g c check within input text two none =
    let given : c.args.bytes.items ≡ c.new-source.result.left = sym (ap (λ s. s.left) c.new-source.ensures) in
    first_or_last
    (c.serve.ensures.causes.no_output check (subst (λ (l : List ℕ). length l ≤ MOST_INPUT_BYTES) given within) input text
    (subst (λ (l : List ℕ). AreTwoTexts l input text) given two) none)
    (λ e. never (c.serve.ensures.served.read_fault e).1) (λ e. never (c.serve.ensures.served.write_fault e))

pub returns-clause-agrees : goal.returns-clause-agrees
returns-clause-agrees g c check within input text two output =
    let given : c.args.bytes.items ≡ c.new-source.result.left = sym (ap (λ s. s.left) c.new-source.ensures) in
    let found = subst (λ (l : List ℕ). AreTwoTexts l input text) given two in
    not_second
    (c.serve.ensures.complete_check check (subst (λ (l : List ℕ). length l ≤ MOST_INPUT_BYTES) given within)
    (record { input = input; text = text; two = found }) never never)
    (λ is. c.serve.ensures.causes.differs is input text found output)

pub returns-clause-day : goal.returns-clause-day
returns-clause-day g c run =
    told_of_given c.serve.result.day c.args.bytes.items c.new-source.result.left
    (λ bytes day. IsDayFor (texts_of c.args.words.now) bytes None None day) (sym (ap (λ s. s.left) c.new-source.ensures))
    (c.serve.ensures.served.day run)

pub returns-clause-check : goal.returns-clause-check
returns-clause-check g c check =
    on_given c.args.bytes.items c.new-source.result.left BeginWithInput _ (sym (ap (λ s. s.left) c.new-source.ensures))
    (c.serve.ensures.complete_check check)
