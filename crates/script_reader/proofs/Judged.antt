-- Whole texts by any judge: one that ends if nothing is wrong with its last line, and one with a first fault.
use Rattle.script_reader.proofs.Common.{◌≡◌, ◌≢◌, ◌⊎◌, inl, inr, ℕ, suc, zero, ◌+◌, ◌-◌, ◌<◌, ◌≤◌, ◌^◌, Bool, true, false, ◌==◌, if◌then◌else◌, List, [], ◌∷◌}
use Rattle.script_reader.proofs.Common.{◌++◌, codes, take, drop, length, Option, Some, None, refl, sym, ap, subst, ◌∙◌, append_assoc, length-append, arith}
use Rattle.script_reader.proofs.Common.{count_by, flat_map, position, slice_split, append-nil, sum_by-append, SPACE, LINE_FEED, Fault, AreWords, line}
use Rattle.script_reader.proofs.Common.{finish_line, Words, is_only, Judge, HaveNoFault, BeginsFaulty, IsFaultBehind, IsFaultInFront, GoesOnBehind}
use Rattle.script_reader.proofs.books.Texts.Following.{line_shorter}
use Rattle.script_reader.proofs.Joined.{joined}
use Rattle.script_reader.proofs.Judging.{count_line, count_lines, fault_once, faultless_append, finish_once, finish_words, no_fault}
use Rattle.script_reader.proofs.LineFaults.LineKinds.{only_word}
use Rattle.script_reader.proofs.books.Texts.Fronting.{take_front}
use Rattle.script_reader.proofs.text.Tokens.Cutting.{found_at, found_none, taken}
use Rattle.script_reader.specs.declared.fault.Fault.TheVariants as fault

-- the lines of a text before its last
pub record IsWhole (judge : Judge) (text : List ℕ) : Type 0 where
  pub lines : List Words
  pub faultless : HaveNoFault judge [] lines
  pub ends : judge lines (codes "finish" ∷ []) ≡ None
  pub text_is : text ≡ flat_map line lines ++ finish_line

-- a list is empty or not
empty_or_not : {A : Type 0} (xs : List A) → (xs ≡ []) ⊎ (xs ≢ [])
empty_or_not [] = inl refl
empty_or_not (x ∷ xs) = inr (λ e. cc)

-- a text up to its last line, and what follows it
with_rest : {text front : List ℕ} (rest : List ℕ) (ls : List Words) → text ≡ front ++ rest
    → front ≡ flat_map line ls ++ finish_line → text ≡ flat_map line ls ++ (finish_line ++ rest)
with_rest rest ls e is = e ∙ ap (λ l. l ++ rest) is ∙ append_assoc (flat_map line ls) finish_line rest

module _ (judge : Judge) (IsText : List ℕ → Type 0) where
  -- its first fault: of a line, or that it goes on
  abbrev pub IsFault : List ℕ → ℕ → Fault → Type 0
  IsFault text number why = IsFaultInFront judge text number why ⊎ GoesOnBehind IsText text number why

  abbrev pub HasFault : List ℕ → Type 0
  HasFault text = (number : ℕ) × (why : Fault) × IsFault text number why

  module _ (whole : (text : List ℕ) → IsText text → IsWhole judge text) where
    -- a front that is a text has no fault
    pub front_not_both : (text front rest : List ℕ) (number : ℕ) (why : Fault) → text ≡ front ++ rest → IsText front
        → IsFaultInFront judge text number why → ⊥
    front_not_both text front rest number why e h fault =
        let s = whole front h in
        no_fault judge [] fault.faulty.more s.lines fault.faulty.rest fault.left rest why fault.faulty.faultless s.faultless
        s.ends (sym fault.faulty.text_is ∙ with_rest rest s.lines e s.text_is) fault.faulty.here

    -- two fronts of one text have the same lines
    pub same_lines : {text : List ℕ} (front rest other left : List ℕ) → text ≡ front ++ rest → text ≡ other ++ left → (h : IsText front) (k : IsText other)
        → ((whole front h).lines ≡ (whole other k).lines) × (rest ≡ left)
    same_lines front rest other left e g h k =
        let s = whole front h in
        let t = whole other k in
        finish_once judge [] s.lines t.lines rest left s.faultless t.faultless
        (sym (with_rest rest s.lines e s.text_is) ∙ with_rest left t.lines g t.text_is)

    -- so they are the same
    pub fronts_once : (text front rest other left : List ℕ) → text ≡ front ++ rest → text ≡ other ++ left → IsText front → IsText other
        → (front ≡ other) × (rest ≡ left)
    fronts_once text front rest other left e g h k =
        let same = same_lines front rest other left e g h k in
        ((whole front h).text_is ∙ ap (λ l. flat_map line l ++ finish_line) same.0 ∙ sym (whole other k).text_is, same.1)

    -- a text has no fault
    pub not_both : (text : List ℕ) → IsText text → HasFault text → ⊥
    not_both text h (number, why, inl fault) = front_not_both text text [] number why (sym (append-nil text)) h fault
    not_both text h (number, why, inr on) = on.some (sym (fronts_once text text [] on.front on.rest (sym (append-nil text)) on.text_is h on.spelled).1)

    -- and one first fault at most
    pub one_fault : (text : List ℕ) (number other : ℕ) (why reason : Fault) → IsFault text number why → IsFault text other reason
        → (number ≡ other) × (why ≡ reason)
    one_fault text number other why reason (inl f) (inl g) =
        let same = fault_once judge [] f.faulty.more g.faulty.more f.faulty.rest g.faulty.rest f.left g.left why reason
        f.faulty.faultless g.faulty.faultless (sym f.faulty.text_is ∙ g.faulty.text_is) f.faulty.here g.faulty.here in
        (f.number_is ∙ ap (λ l. length l + 1) same.0 ∙ sym g.number_is, same.1)
    one_fault text number other why reason (inl f) (inr g) = absurd (front_not_both text g.front g.rest number why g.text_is g.spelled f)
    one_fault text number other why reason (inr f) (inl g) = absurd (front_not_both text f.front f.rest other reason f.text_is f.spelled g)
    one_fault text number other why reason (inr f) (inr g) =
        let same = fronts_once text f.front f.rest g.front g.rest f.text_is g.text_is f.spelled g.spelled in
        (f.number_is ∙ ap (λ l. count_by (λ b. b == LINE_FEED) l + 1) same.0 ∙ sym g.number_is, f.why_is ∙ sym g.why_is)

  -- lines behind which the last line may stand are those of a text
  module _ (spells : (lines : List Words) → HaveNoFault judge [] lines → judge lines (codes "finish" ∷ []) ≡ None
      → IsText (flat_map line lines ++ finish_line)) where
    -- reads on behind lines without fault
    read_on : (fuel : ℕ) (text : List ℕ) (before : List Words) (left : List ℕ) → length left < fuel → HaveNoFault judge [] before
        → text ≡ flat_map line before ++ left → IsText text ⊎ HasFault text
    read_on zero text before left enough f e = absurd (omega (arith, enough))
    read_on (suc fuel) text before left enough f e =
        by (position (λ b. b == LINE_FEED) left) refl (λ words after are is more fine. read_on fuel text (before ++ words ∷ []) after (shorter words after is)
        (faultless_append judge [] before (words ∷ []) f (are, fine, more, tt))
        (e ∙ simp (is, joined)))
      where
        shorter : (words : Words) (after : List ℕ) → left ≡ line words ++ after → length after < fuel
        shorter words after is = omega (arith, enough, line_shorter words after is)

        whole : (words : Words) (after : List ℕ) → AreWords words → left ≡ line words ++ after
            → ((more : is_only (codes "finish") words ≡ false) → judge before words ≡ None → IsText text ⊎ HasFault text)
            → (o : Option Fault) → judge before words ≡ o → (last : Bool) → is_only (codes "finish") words ≡ last → IsText text ⊎ HasFault text
        whole words after are is on (Some why) faulty last ends = inr (
          length before + 1,
          why,
          inl (record {
            left = after;
            faulty = record { more = before; rest = left; faultless = f; text_is = e; here = inl (words, are, is, faulty) };
            number_is = refl;
          }),
        )
        whole words after are is on None fine false ends = on ends fine
        whole words after are is on None fine true ends =
            let last : words ≡ codes "finish" ∷ [] = only_word (codes "finish") words ends in
            let is_text = spells before f (sym (ap (judge before) last) ∙ fine) in
            let front : List ℕ = flat_map line before ++ finish_line in
            let text_is : text ≡ front ++ after = e ∙ simp (is, last, joined) in
            elim (empty_or_not after) [
              | inl none ↦ inl (subst IsText (sym (text_is ∙ ap (λ l. front ++ l) none ∙ append-nil front)) is_text)
              | inr some ↦ inr (
                count_by (λ b. b == LINE_FEED) front + 1,
                fault.End,
                inr (record {
                  front = front;
                  rest = after;
                  text_is = text_is;
                  spelled = is_text;
                  some = some;
                  number_is = refl;
                  why_is = refl;
                }),
              )
            ]

        by : (o : Option ℕ) → position (λ b. b == LINE_FEED) left ≡ o
            → ((words : Words) (after : List ℕ) → AreWords words → left ≡ line words ++ after
            → is_only (codes "finish") words ≡ false → judge before words ≡ None → IsText text ⊎ HasFault text)
            → IsText text ⊎ HasFault text
        by None none on = inr (
          length before + 1,
          fault.End,
          inl (record {
            left = left;
            faulty = record { more = before; rest = left; faultless = f; text_is = e; here = inr (found_none LINE_FEED left none, refl, refl) };
            number_is = refl;
          }),
        )
        by (Some i) at on =
            let found = found_at LINE_FEED left at in
            let after : List ℕ = take (length (drop i left) - 1) (drop 1 (drop i left)) in
            let words : Words = slice_split (λ b. b == SPACE) (take i left) in
            let line_is = taken left (take i left) after words (found.2, found.1) refl in
            whole words after line_is.0 line_is.1 (on words after line_is.0 line_is.1) (judge before words) refl (is_only (codes "finish") words) refl

    -- so bytes are a text or have a first fault
    pub either : (text : List ℕ) → IsText text ⊎ HasFault text
    either text = read_on (length text + 1) text [] text (omega arith) tt refl

-- the line feeds of what was read
abbrev pub feeds : List ℕ → List ℕ → ℕ
feeds text left = count_by (λ b. b == LINE_FEED) (take (length text - length left) text)

-- what the line feeds of what was read tell of the faulty line
pub record Told (text left : List ℕ) (why : Fault) (before : ℕ) : Type 0 where
  pub shorter : length left ≤ length text
  pub few : feeds text left + 1 < 2 ^ 32
  pub either : (why ≡ fault.End) ⊎ (why ≢ fault.End)
  pub missing : why ≡ fault.End → feeds text left ≡ before
  pub whole : why ≢ fault.End → feeds text left ≡ before + 1

-- lines without fault are few, and none that is there is missing
module _ (judge : Judge) (few : (lines : List Words) → HaveNoFault judge [] lines → length lines + 2 < 2 ^ 32)
    (not_missing : (before : List Words) (words : Words) → judge before words ≢ Some fault.End) where
  -- what the line feeds of what was read tell of the faulty line
  pub told : (text left : List ℕ) (why : Fault) → (h : IsFaultBehind judge [] text left why) → Told text left why (length h.more)
  told text left why h = by h.here
    where
      small : length h.more + 2 < 2 ^ 32
      small = few h.more h.faultless

      lines : List ℕ
      lines = flat_map line h.more

      by : BeginsFaulty judge h.more h.rest left why → Told text left why (length h.more)
      by (inl (words, are, is, faulty)) =
          let e : text ≡ (lines ++ line words) ++ left = h.text_is ∙ ap (λ l. lines ++ l) is ∙ sym (append_assoc lines (line words) left) in
          let counted : feeds text left ≡ length h.more + 1 =
          ap (count_by (λ b. b == LINE_FEED)) (take_front left _ e refl)
          ∙ sum_by-append (λ b. if b == LINE_FEED then 1 else 0) lines (line words)
          ∙ (λ i. count_lines judge [] h.more h.faultless i + count_line words are i) in
          record {
            shorter = omega (arith, ap length e, length-append (lines ++ line words) left);
            few = omega (arith, counted, small);
            either = inr (λ is_end. not_missing h.more words (faulty ∙ ap Some is_end));
            missing = λ is_end. absurd (not_missing h.more words (faulty ∙ ap Some is_end));
            whole = λ other. counted;
          }
      by (inr (free, same, is_end)) =
          let e : text ≡ lines ++ left = h.text_is ∙ ap (λ l. lines ++ l) (sym same) in
          let counted : feeds text left ≡ length h.more =
          ap (count_by (λ b. b == LINE_FEED)) (take_front left _ e refl) ∙ count_lines judge [] h.more h.faultless in
          record {
            shorter = omega (arith, ap length e, length-append lines left);
            few = omega (arith, counted, small);
            either = inl is_end;
            missing = λ is_end. counted;
            whole = λ other. absurd (other is_end);
          }

  -- the faulty line has this number
  pub in_front : (text left : List ℕ) (why : Fault) → IsFaultBehind judge [] text left why → (n number : ℕ) → n ≡ feeds text left
      → (why ≡ fault.End → number ≡ n + 1) → (why ≢ fault.End → number ≡ n) → IsFaultInFront judge text number why
  in_front text left why behind n number counted missing whole = record { left = left; faulty = behind; number_is = by what.either }
    where
      what : Told text left why (length behind.more)
      what = told text left why behind

      by : (why ≡ fault.End) ⊎ (why ≢ fault.End) → number ≡ length behind.more + 1
      by (inl e) = omega (arith, missing e, counted, what.missing e)
      by (inr other) = omega (arith, whole other, counted, what.whole other)

  -- a text has few line feeds
  pub few_of_text : {text : List ℕ} → IsWhole judge text → count_by (λ b. b == LINE_FEED) text + 1 < 2 ^ 32
  few_of_text h = omega (
    arith,
    ap (count_by (λ b. b == LINE_FEED)) h.text_is,
    sum_by-append (λ b. if b == LINE_FEED then 1 else 0) (flat_map line h.lines) finish_line,
    count_lines judge [] h.lines h.faultless,
    count_line (codes "finish" ∷ []) finish_words,
    few h.lines h.faultless,
  )

-- another reason comes before those that follow
pub other : (c : Bool) (why : Fault) (rest : Option Fault) → why ≢ fault.End → rest ≢ Some fault.End → (if c then Some why else rest) ≢ Some fault.End
other true why rest differs none = λ e. differs cc
other false why rest differs none = none

pub no_more : None ≢ Some fault.End
no_more = λ e. cc
