-- A text is an output, or has a first wrong line.
use Rattle.books_report.proofs.Common.{◌≡◌, ◌≢◌, ◌⊎◌, inl, inr, ℕ, zero, suc, ◌+◌, ◌<◌, ◌≤◌, List, [], ◌∷◌, ◌++◌, codes, length, refl, sym, ap, ◌∙◌, subst}
use Rattle.books_report.proofs.Common.{append_assoc, append-nil, length-append, arith, concat, cases_lt, eqb_tells, caller_at, line, ClearingInput, IsInput}
use Rattle.books_report.proofs.Common.{count_scripts, Place, places_run, journal_line, Ran, reply_to, books_after, IsOutput, MayFollow, FollowInTurn}
use Rattle.books_report.proofs.Common.{journal_as_lines, closing_lines, StopsBefore, StopsAfter, reply_words}
use Rattle.books_report.specs.Statements.{HasWrongLine}
use Rattle.books_report.proofs.Order.Turns.{turns, turns_more}
use Rattle.books_report.proofs.Order.Histories.{journal_so_far}
use Rattle.books_report.proofs.Checks.Wrong.{wrong_title, wrong_script, wrong_closing, is_output}

-- a text begins with another, or does not
pub begins_or_not : (p s : List ℕ) → ((after : List ℕ) × (s ≡ p ++ after)) ⊎ ((after : List ℕ) → s ≢ p ++ after)
begins_or_not [] s = inl (s, refl)
begins_or_not (b ∷ p) [] = inr (λ after e. cc)
begins_or_not (b ∷ p) (c ∷ s) = elim (eqb_tells c b) [ inl same ↦ by same.1 (begins_or_not p s) | inr apart ↦ inr (λ after e. apart.1 cc) ]
  where
    by : c ≡ b → ((after : List ℕ) × (s ≡ p ++ after)) ⊎ ((after : List ℕ) → s ≢ p ++ after)
        → ((after : List ℕ) × (c ∷ s ≡ b ∷ p ++ after)) ⊎ ((after : List ℕ) → c ∷ s ≢ b ∷ p ++ after)
    by same (inl rest) = inl (rest.0, λ i. same i ∷ rest.1 i)
    by same (inr none) = inr (λ after e. none after cc)

-- what is true or not of each number is true of one below a bound, or of none
some_below : (P : ℕ → Type 0) → ((i : ℕ) → P i ⊎ ¬ P i) → (k : ℕ) → ((i : ℕ) × (i < k) × P i) ⊎ ((i : ℕ) → i < k → P i → ⊥)
some_below P tells zero = inr (λ i less p. omega (arith, less))
some_below P tells (suc k) = by (tells k) (some_below P tells k)
  where
    by : P k ⊎ ¬ P k → ((i : ℕ) × (i < k) × P i) ⊎ ((i : ℕ) → i < k → P i → ⊥) → ((i : ℕ) × (i < suc k) × P i) ⊎ ((i : ℕ) → i < suc k → P i → ⊥)
    by (inl here) below = inl (k, omega arith, here)
    by (inr not) (inl below) = inl (below.0, omega (arith, below.1), below.2)
    by (inr not) (inr none) = inr (λ i less p. elim (eqb_tells i k) [ inl at ↦ not (subst P at.1 p) | inr apart ↦ none i (omega (arith, less, apart.1)) p ])

-- one line more is right
pub stops_later : {line : List ℕ} {lines : List (List ℕ)} {text left : List ℕ} {count : ℕ} → text ≡ line ++ left
    → StopsAfter lines left count → StopsAfter (line ∷ lines) text (count + 1)
stops_later {line} {left} is s = record {
  done = line ∷ s.done;
  rest = s.rest;
  left = s.left;
  lines_are = ap (λ l. line ∷ l) s.lines_are;
  text_is = is ∙ ap (λ l. line ++ l) s.text_is ∙ sym (append_assoc line (concat s.done) s.left);
  stops = s.stops;
  count_is = omega (arith, s.count_is);
}

-- a text stops at once if it does not begin with the first line, or goes on behind the last
pub stops_here : {lines : List (List ℕ)} {text : List ℕ} → StopsBefore lines text → StopsAfter lines text 0
stops_here {lines} {text} stops = record { done = []; rest = lines; left = text; lines_are = refl; text_is = refl; stops = stops; count_is = refl }

-- lines are a text, or it stops somewhere
lines_or_not : (lines : List (List ℕ)) (text : List ℕ) → (text ≡ concat lines) ⊎ ((count : ℕ) × StopsAfter lines text count)
lines_or_not [] [] = inl refl
lines_or_not [] (b ∷ text) = inr (0, stops_here (λ e. cc))
lines_or_not (line ∷ lines) text = by (begins_or_not line text) (lines_or_not lines)
  where
    by : ((left : List ℕ) × (text ≡ line ++ left)) ⊎ ((left : List ℕ) → text ≢ line ++ left)
        → ((left : List ℕ) → (left ≡ concat lines) ⊎ ((count : ℕ) × StopsAfter lines left count))
        → (text ≡ concat (line ∷ lines)) ⊎ ((count : ℕ) × StopsAfter (line ∷ lines) text count)
    by (inl begins) more = on (more begins.0)
      where
        on : (begins.0 ≡ concat lines) ⊎ ((count : ℕ) × StopsAfter lines begins.0 count)
            → (text ≡ concat (line ∷ lines)) ⊎ ((count : ℕ) × StopsAfter (line ∷ lines) text count)
        on (inl same) = inl (begins.1 ∙ ap (λ l. line ++ l) same)
        on (inr (count, stops)) = inr (count + 1, stops_later begins.1 stops)
    by (inr none) more = inr (0, stops_here none)

module _ (input : ClearingInput) (limit : ℕ) (ours : List Ran) (left : List ℕ) where
  -- the next script of a caller, with so many restarts
  abbrev next_of : ℕ → ℕ → Ran
  next_of c r = let place : Place = record { caller = c; index = turns (places_run ours) c } in
      record { place = place; restarts = r; reply = reply_to input (books_after input input.books (places_run ours)) place }

  abbrev its_line : Ran → List ℕ
  its_line ran = journal_line reply_words (length ours + 1) (caller_at input.callers ran.place.caller).name ran

  -- what is left begins with its line
  abbrev Begins : ℕ → ℕ → Type 0
  Begins c r = (after : List ℕ) × (left ≡ its_line (next_of c r) ++ after)

  abbrev HasLine : ℕ → Type 0
  HasLine c = (turns (places_run ours) c < length (caller_at input.callers c).scripts) × ((r : ℕ) × (r < limit) × Begins c r)

  begins_tells : (c r : ℕ) → Begins c r ⊎ ¬ Begins c r
  begins_tells c r = elim (begins_or_not (its_line (next_of c r)) left) [ inl begins ↦ inl begins | inr none ↦ inr (λ b. none b.0 b.1) ]

  line_tells : (c : ℕ) → HasLine c ⊎ ¬ HasLine c
  line_tells c = by (cases_lt (turns (places_run ours) c) (length (caller_at input.callers c).scripts)) (some_below (Begins c) (begins_tells c) limit)
    where
      by : (turns (places_run ours) c < length (caller_at input.callers c).scripts)
          ⊎ (length (caller_at input.callers c).scripts ≤ turns (places_run ours) c) → ((r : ℕ) × (r < limit) × Begins c r)
          ⊎ ((r : ℕ) → r < limit → Begins c r → ⊥) → HasLine c ⊎ ¬ HasLine c
      by (inl less) (inl found) = inl (less, found)
      by (inl less) (inr none) = inr (λ h. none h.1.0 h.1.1 h.1.2)
      by (inr past) found = inr (λ h. omega (arith, past, h.0))

  -- one script that may follow
  pub record Follows : Type 0 where
    pub ran : Ran
    pub after : List ℕ
    pub may : MayFollow input limit ours ran
    pub is : left ≡ its_line ran ++ after

  -- what is left begins with the line of a script that may follow, or with none
  pub follows_or_not : Follows ⊎ ((ran : Ran) (after : List ℕ) → MayFollow input limit ours ran → left ≢ its_line ran ++ after)
  follows_or_not = by (some_below HasLine line_tells (length input.callers))
    where
      same_line : (ran : Ran) → MayFollow input limit ours ran → its_line ran ≡ its_line (next_of ran.place.caller ran.restarts)
      same_line ran m = λ i. journal_line reply_words (length ours + 1) (caller_at input.callers ran.place.caller).name (record {
        place = record { caller = ran.place.caller; index = m.next.next i };
        restarts = ran.restarts;
        reply = (m.reply ∙ ap (λ n. reply_to input (books_after input input.books (places_run ours))
            (record { caller = ran.place.caller; index = n })) m.next.next) i;
      })

      by : ((c : ℕ) × (c < length input.callers) × HasLine c) ⊎ ((c : ℕ) → c < length input.callers → HasLine c → ⊥)
          → Follows ⊎ ((ran : Ran) (after : List ℕ) → MayFollow input limit ours ran → left ≢ its_line ran ++ after)
      by (inl (c, within, (less, (r, below, (after, is))))) = inl (record {
        ran = next_of c r;
        after = after;
        may = record { next = record { left = (within, less); next = refl }; below = below; reply = refl };
        is = is;
      })
      by (inr none) = inr (λ ran after m is.
          none ran.place.caller m.next.left.0 (
            subst (λ n. n < length (caller_at input.callers ran.place.caller).scripts) m.next.next m.next.left.1,
            (ran.restarts, m.below, (after, is ∙ ap (λ l. l ++ after) (same_line ran m))),
          ))

-- the journal with one line more
pub journal_more : (input : ClearingInput) (ours : List Ran) (ran : Ran)
    → concat (journal_so_far input (ours ++ ran ∷ [])) ≡ concat (journal_so_far input ours)
    ++ journal_line reply_words (length ours + 1) (caller_at input.callers ran.place.caller).name ran
journal_more input ours ran =
    ap (λ l. line (codes "journal" ∷ []) ++ l) (behind ours 1)
    ∙ sym (append_assoc (line (codes "journal" ∷ [])) (concat (journal_as_lines input 1 ours))
    (journal_line reply_words (1 + length ours) (caller_at input.callers ran.place.caller).name ran))
    ∙ ap (λ n. concat (journal_so_far input ours) ++ journal_line reply_words n (caller_at input.callers ran.place.caller).name ran) number
  where
    number : 1 + length ours ≡ length ours + 1
    number = omega arith

    behind : (scripts : List Ran) (serial : ℕ) → concat (journal_as_lines input serial (scripts ++ ran ∷ []))
        ≡ concat (journal_as_lines input serial scripts) ++ journal_line reply_words (serial + length scripts)
        (caller_at input.callers ran.place.caller).name ran
    behind [] serial = append-nil (journal_line reply_words serial (caller_at input.callers ran.place.caller).name ran)
        ∙ ap (λ n. journal_line reply_words n (caller_at input.callers ran.place.caller).name ran) nothing
      where
        nothing : serial ≡ serial + 0
        nothing = omega arith
    behind (r ∷ scripts) serial =
        let first = journal_line reply_words serial (caller_at input.callers r.place.caller).name r in
        ap (λ l. first ++ l) (behind scripts (serial + 1))
        ∙ sym (append_assoc first (concat (journal_as_lines input (serial + 1) scripts))
        (journal_line reply_words (serial + 1 + length scripts) (caller_at input.callers ran.place.caller).name ran))
        ∙ ap (λ n. (first ++ concat (journal_as_lines input (serial + 1) scripts))
        ++ journal_line reply_words n (caller_at input.callers ran.place.caller).name ran) later
      where
        later : serial + 1 + length scripts ≡ serial + length (r ∷ scripts)
        later = omega arith

-- and what is left behind it
pub text_more : (input : ClearingInput) (ours : List Ran) (ran : Ran) {text left : List ℕ} (after : List ℕ)
    → text ≡ concat (journal_so_far input ours) ++ left → left ≡ journal_line reply_words (length ours + 1)
    (caller_at input.callers ran.place.caller).name ran ++ after
    → text ≡ concat (journal_so_far input (ours ++ ran ∷ [])) ++ after
text_more input ours ran after e is =
    e ∙ ap (λ l. concat (journal_so_far input ours) ++ l) is
    ∙ sym (append_assoc (concat (journal_so_far input ours))
    (journal_line reply_words (length ours + 1) (caller_at input.callers ran.place.caller).name ran) after)
    ∙ ap (λ l. l ++ after) (sym (journal_more input ours ran))

module _ {input : ClearingInput} (limit : ℕ) (valid : IsInput input) (text : List ℕ) where
  -- behind scripts in turn
  decided_behind : (fuel : ℕ) (ours : List Ran) (left : List ℕ) → FollowInTurn input limit [] ours
      → text ≡ concat (journal_so_far input ours) ++ left → fuel + length ours ≡ count_scripts input.callers
      → IsOutput input limit text ⊎ HasWrongLine input limit text
  decided_behind zero ours left t e all = by (lines_or_not (closing_lines (books_after input input.books (places_run ours))) left)
    where
      run : length ours ≡ count_scripts input.callers
      run = omega (arith, all)

      by : (left ≡ concat (closing_lines (books_after input input.books (places_run ours))))
          ⊎ ((count : ℕ) × StopsAfter (closing_lines (books_after input input.books (places_run ours))) left count)
          → IsOutput input limit text ⊎ HasWrongLine input limit text
      by (inl same) = inl (is_output input limit valid ours left t e run same)
      by (inr (count, s)) = inr (length ours + count + 2, wrong_closing limit valid ours left t e run s)
  decided_behind (suc fuel) ours left t e all = by (decided_behind fuel) (follows_or_not input limit ours left)
    where
      by : ((scripts : List Ran) (left : List ℕ) → FollowInTurn input limit [] scripts
          → text ≡ concat (journal_so_far input scripts) ++ left → fuel + length scripts ≡ count_scripts input.callers
          → IsOutput input limit text ⊎ HasWrongLine input limit text)
          → Follows input limit ours left ⊎ ((ran : Ran) (after : List ℕ) → MayFollow input limit ours ran
          → left ≢ journal_line reply_words (length ours + 1) (caller_at input.callers ran.place.caller).name ran ++ after)
          → IsOutput input limit text ⊎ HasWrongLine input limit text
      by more (inl f) = more (ours ++ f.ran ∷ []) f.after (turns_more [] ours t f.may)
          (text_more input ours f.ran f.after e f.is) (omega (arith, all, length-append ours (f.ran ∷ [])))
      by more (inr none) = inr (length ours + 2, wrong_script input limit valid ours left t e (omega (arith, all)) none)

  -- a text is an output, or has a first wrong line
  pub decided : IsOutput input limit text ⊎ HasWrongLine input limit text
  decided = by (begins_or_not (line (codes "journal" ∷ [])) text)
    where
      by : ((after : List ℕ) × (text ≡ line (codes "journal" ∷ []) ++ after))
          ⊎ ((after : List ℕ) → text ≢ line (codes "journal" ∷ []) ++ after) → IsOutput input limit text ⊎ HasWrongLine input limit text
      by (inl begins) = decided_behind (count_scripts input.callers) [] begins.0 tt (begins.1
          ∙ ap (λ l. l ++ begins.0) (sym (append-nil (line (codes "journal" ∷ []))))) (omega arith)
      by (inr none) = inr (1, wrong_title input limit valid none)
