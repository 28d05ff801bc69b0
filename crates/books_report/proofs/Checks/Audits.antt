-- One more line of a journal that is checked.
use Rattle.books_report.proofs.Common.{◌≡◌, ℕ, ◌+◌, ◌<◌, ◌==◌, cond, List, [], ◌∷◌, ◌++◌, length, set, slice_index, inl, inr, refl, sym, ap, ◌∙◌, append_assoc}
use Rattle.books_report.proofs.Common.{arith, join_with_byte, eqb_tells, map_push, caller_at, script_at, Reply, ClearingBooks, outcome_of, SPACE, LINE_FEED}
use Rattle.books_report.proofs.Common.{line, number, ClearingInput, IsPlace, RESTARTS_BELOW, Line, reply_words, places_run, journal_line, Ran, reply_to}
use Rattle.books_report.proofs.Common.{books_left, books_after, place_of_line, ran_of_line, MayFollow, HasRun, BeginsWithLine, four_words}
use Rattle.std.proofs.lemmas.List.{get_or-set_same, get_or-set_other}
use Rattle.books_report.proofs.Order.Turns.{turns, turns-push, books_after_ran, turns_more}
use Rattle.books_model.specs.declared.reply.Reply.TheVariants as reply

-- a reply has a first word
some_words : (r : Reply) → (w : List ℕ) × ((words : List (List ℕ)) × (reply_words r ≡ w ∷ words))
some_words (reply.Done values) = (_, (_, refl))
some_words (reply.Declined k why) = (_, (_, refl))
some_words (reply.Full k) = (_, (_, refl))

-- a line of more than four words begins with four words
line_words : (a b c d w : List ℕ) (words : List (List ℕ)) (after : List ℕ) → line (a ∷ b ∷ c ∷ d ∷ w ∷ words) ++ after
    ≡ four_words a b c d (join_with_byte SPACE (w ∷ words) ++ LINE_FEED ∷ after)
line_words a b c d w words after = simp append_assoc

-- so does the line of a script
pub words_of_line : (serial : ℕ) (name : List ℕ) (ran : Ran) (after : List ℕ)
    → (rest : List ℕ) × (journal_line reply_words serial name ran ++ after
    ≡ four_words (number serial) name (number (ran.place.index + 1)) (number ran.restarts) rest)
words_of_line serial name ran after =
    let w = some_words ran.reply in (
      join_with_byte SPACE (w.0 ∷ w.1.0) ++ LINE_FEED ∷ after,
      ap (λ words. line (number serial ∷ name ∷ number (ran.place.index + 1) ∷ number ran.restarts ∷ words) ++ after) w.1.1
          ∙ line_words (number serial) name (number (ran.place.index + 1)) (number ran.restarts) w.0 w.1.0 after,
    )

module _ (input : ClearingInput) (scripts : List Ran) (books : ClearingBooks) (done : List ℕ) (run : HasRun input scripts books done) where
  -- how many of a caller's scripts were run, by a script that may follow
  pub done_of : {ran : Ran} → MayFollow input RESTARTS_BELOW scripts ran → slice_index done ran.place.caller ≡ ran.place.index
  done_of {ran} m = run.done_are ran.place.caller m.next.left.0 ∙ sym m.next.next

  -- what a text that begins with the line of a script that may follow names
  pub record Named (text : List ℕ) (ran : Ran) : Type 0 where
    pub within : ran.place.caller < length input.callers
    pub left : slice_index done ran.place.caller < length (caller_at input.callers ran.place.caller).scripts
    pub below : ran.restarts < RESTARTS_BELOW
    pub rest : List ℕ
    pub text_is : text ≡ four_words (number (length scripts + 1)) (caller_at input.callers ran.place.caller).name
        (number (ran.place.index + 1)) (number ran.restarts) rest

  pub named : (text : List ℕ) (ran : Ran) (after : List ℕ) → MayFollow input RESTARTS_BELOW scripts ran
      → text ≡ journal_line reply_words (length scripts + 1) (caller_at input.callers ran.place.caller).name ran ++ after → Named text ran
  named text ran after m is =
      let words = words_of_line (length scripts + 1) (caller_at input.callers ran.place.caller).name ran after in
      record { within = m.next.left.0; left = omega (arith, done_of m, m.next.left.1); below = m.below; rest = words.0; text_is = is ∙ words.1 }

  module _ (l : Line) (answer : Reply) (after : ClearingBooks) (new : List ℕ) (even : length done
      ≡ length input.callers) (found : IsPlace input (place_of_line l)) (index_is : l.index ≡ slice_index done l.caller)
      (replied : answer ≡ (outcome_of (script_at input.callers l.caller l.index) books).0) (left_are : after
      ≡ (outcome_of (script_at input.callers l.caller l.index) books).1) (new_are : new ≡ set done l.caller (l.index + 1)) where
    -- a script that may follow, and that the line names, is the line's
    same_ran : {ran : Ran} → MayFollow input RESTARTS_BELOW scripts ran
        → l ≡ record { caller = ran.place.caller; index = slice_index done ran.place.caller; restarts = ran.restarts } → ran ≡ ran_of_line l answer
    same_ran {ran} m is = λ i. record { place = place i; restarts = restarts i; reply = reply i }
      where
        place : ran.place ≡ place_of_line l
        place = λ i. record { caller = sym (ap (λ (x : Line). x.caller) is) i; index = (sym (done_of m) ∙ sym (ap (λ (x : Line). x.index) is)) i }

        restarts : ran.restarts ≡ l.restarts
        restarts = sym (ap (λ (x : Line). x.restarts) is)

        reply : ran.reply ≡ answer
        reply = m.reply ∙ ap (reply_to input (books_after input input.books (places_run scripts))) place
            ∙ ap (λ b. reply_to input b (place_of_line l)) (sym run.books_are) ∙ sym replied

    -- so the text begins with the line that is expected
    pub expected_begins : (serial : ℕ) {text name expected : List ℕ} {ran : Ran} (behind : List ℕ)
        → length scripts + 1 ≡ serial → name ≡ (caller_at input.callers l.caller).name → expected ≡ journal_line reply_words serial name (ran_of_line l answer)
        → MayFollow input RESTARTS_BELOW scripts ran
        → l ≡ record { caller = ran.place.caller; index = slice_index done ran.place.caller; restarts = ran.restarts }
        → text ≡ journal_line reply_words (length scripts + 1) (caller_at input.callers ran.place.caller).name ran ++ behind → text ≡ expected ++ behind
    expected_begins serial behind at named written m is e =
        let same = same_ran m is in
        e ∙ ap (λ l. l ++ behind) ((λ i. journal_line reply_words (at i) (caller_at input.callers (same i).place.caller).name (same i))
        ∙ ap (λ n. journal_line reply_words serial n (ran_of_line l answer)) (sym named) ∙ sym written)

    -- if it begins with the line that is expected, one more script was run
    done_after : {c : ℕ} → c < length input.callers → slice_index new c ≡ turns (places_run scripts) c + cond (l.caller == c) 1 0
    done_after {c} within = elim (eqb_tells l.caller c) [
      | inl same ↦ ap (λ xs. slice_index xs c) new_are ∙ ap (λ k. slice_index (set done k (l.index + 1)) c) same.1
          ∙ get_or-set_same done c (l.index + 1) 0 (omega (arith, even, within))
          ∙ omega (arith, index_is, ap (slice_index done) same.1, run.done_are c within, ap {B = ℕ} (λ b. cond b 1 0) same.0)
      | inr apart ↦ ap (λ xs. slice_index xs c) new_are
          ∙ get_or-set_other done l.caller c (l.index + 1) 0 (λ same. apart.1 (sym same))
          ∙ omega (arith, run.done_are c within, ap {B = ℕ} (λ b. cond b 1 0) apart.0)
    ]

    pub begins_with_line : (serial : ℕ) (text name expected behind : List ℕ) → length scripts + 1 ≡ serial
        → name ≡ (caller_at input.callers l.caller).name → expected ≡ journal_line reply_words serial name (ran_of_line l answer)
        → l.restarts < RESTARTS_BELOW → text ≡ expected ++ behind → BeginsWithLine input scripts text behind after new
    begins_with_line serial text name expected behind at named written below e = record {
      ran = ran_of_line l answer;
      may_follow = may;
      text_is = e ∙ ap (λ l. l ++ behind) (written ∙ (λ i. journal_line reply_words (sym at i) (named i) (ran_of_line l answer)));
      has_run = record {
        in_turn = turns_more [] scripts run.in_turn may;
        books_are = left_are ∙ ap (λ b. books_left input b (place_of_line l)) run.books_are ∙ sym (books_after_ran input scripts (ran_of_line l answer));
        done_are = λ c within. done_after within ∙ sym (turns_of_more c);
      };
    }
      where
        may : MayFollow input RESTARTS_BELOW scripts (ran_of_line l answer)
        may = record {
          next = record { left = found; next = index_is ∙ run.done_are l.caller found.0 };
          below = below;
          reply = replied ∙ ap (λ b. reply_to input b (place_of_line l)) run.books_are;
        }

        turns_of_more : (c : ℕ) → turns (places_run (scripts ++ ran_of_line l answer ∷ [])) c ≡ turns (places_run scripts) c + cond (l.caller == c) 1 0
        turns_of_more c = ap (λ places. turns places c) (map_push (λ (r : Ran). r.place) scripts (ran_of_line l answer))
            ∙ turns-push (places_run scripts) (place_of_line l) c
