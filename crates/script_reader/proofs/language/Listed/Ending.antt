-- A text that was read up to its last line, or up to its first fault.
use Rattle.script_reader.proofs.Common.{◌≡◌, ◌≢◌, ℕ, ◌+◌, ◌-◌, ◌<◌, ◌≤◌, ◌^◌, ◌==◌, List, [], ◌∷◌, ◌++◌, length, take, refl, sym, ap, subst, ◌∙◌, length-append}
use Rattle.script_reader.proofs.Common.{arith, count_by, append-nil, LINE_FEED, Fault, CallerOf, IsFaultBehind, IsFaultInFront, GoesOnBehind, ListLanguage}
use Rattle.script_reader.proofs.Common.{IsListLanguage, IsTextOf, IsText, judge, HasTextInFront}
use Rattle.script_reader.proofs.Judged.{Told, feeds}
use Rattle.script_reader.proofs.books.Texts.Fronting.{take_front}
use Rattle.script_reader.proofs.language.Listed.Feeds.{few_lines, not_missing}
use Rattle.script_reader.proofs.language.Listed.Telling.{whole}
use Rattle.script_reader.specs.declared.fault.Fault.TheVariants as fault
use Rattle.script_reader.proofs.Judged as judged

-- no bytes
no_bytes : (left : List ℕ) → length left ≡ 0 → left ≡ []
no_bytes [] h = refl
no_bytes (b ∷ left) h = absurd (omega (arith, h))

module _ {O S : Type 0} (g : ListLanguage O S) where
  -- what is told of the faulty line, and its number
  pub told : (text left : List ℕ) (why : Fault) → (h : IsFaultBehind (judge g) [] text left why) → Told text left why (length h.more)
  told = judged.told (judge g) (few_lines g) (not_missing g)

  pub in_front : (text left : List ℕ) (why : Fault) → IsFaultBehind (judge g) [] text left why → (n number : ℕ) → n ≡ feeds text left
      → (why ≡ fault.End → number ≡ n + 1) → (why ≢ fault.End → number ≡ n) → IsFaultInFront (judge g) text number why
  in_front = judged.in_front (judge g) (few_lines g) (not_missing g)

  module _ {text left : List ℕ} {ns : List ℕ} {callers : List (CallerOf S)} (h : HasTextInFront g ns callers text left) where
    -- what stands in front of what is left
    front_is : take (length text - length left) text ≡ h.front
    front_is = take_front left (length text - length left) h.text refl

    pub shorter : length left ≤ length text
    shorter = omega (arith, ap length h.text, length-append h.front left)

    -- nothing is left
    pub whole_text : length left ≡ 0 → IsTextOf g text ns callers
    whole_text none = subst (λ t. IsTextOf g t ns callers) (sym (h.text ∙ ap (λ l. h.front ++ l) (no_bytes left none) ∙ append-nil h.front)) h.spelled

    -- something is left
    pub goes_on : (length left ≡ 0 → ⊥) → {n : ℕ} → n ≡ feeds text left → GoesOnBehind (IsText g) text (n + 1) fault.End
    goes_on more counted = record {
      front = h.front;
      rest = left;
      text_is = h.text;
      spelled = (ns, callers, h.spelled);
      some = λ none. more (ap length none);
      number_is = ap (λ m. m + 1) (counted ∙ ap (count_by (λ b. b == LINE_FEED)) front_is);
      why_is = refl;
    }

    pub few_feeds : IsListLanguage g → feeds text left + 1 < 2 ^ 32
    few_feeds lawful = subst (λ t. count_by (λ b. b == LINE_FEED) t + 1 < 2 ^ 32) (sym front_is)
        (judged.few_of_text (judge g) (few_lines g) (not_missing g) (whole g lawful h.front (ns, callers, h.spelled)))
