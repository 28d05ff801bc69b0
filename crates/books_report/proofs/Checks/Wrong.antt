-- First wrong lines.
use Rattle.books_report.proofs.Common.{◌≡◌, ◌≢◌, ℕ, ◌+◌, ◌<◌, List, [], ◌∷◌, ◌++◌, codes, length, refl, sym, ap, ◌∙◌, subst, append_assoc, append-nil}
use Rattle.books_report.proofs.Common.{length-append, arith, AllByRecursion, concat, length-map, caller_at, line, ClearingInput, IsInput, count_scripts}
use Rattle.books_report.proofs.Common.{places_run, journal_line, Ran, books_after, IsOutput, MayFollow, FollowInTurn, journal_as_lines, closing_lines}
use Rattle.books_report.proofs.Common.{lines_behind, output_lines, IsFirstWrongLine, StopsBefore, StopsAfter, reply_words}
use Rattle.std.proofs.lemmas.List.{append_cancel_left}
use Rattle.std.proofs.lemmas.List.Elements.{All-from_recursion}
use Rattle.books_report.specs.Checking.{CanBegin}
use Rattle.books_report.proofs.Order.Turns.{gone_of, journal_of_turns, length_of_journal, turns_of_journal, below_of_turns, replies_of_turns}
use Rattle.books_report.proofs.Outputs.Rows.{IsRow, row_some, all_first, concat-both, output_rows, output_text, behind_all, behind_some}
use Rattle.books_report.proofs.Checks.Comparing.{Compared, AreSame, IsShorter, IsLonger, compared}
use Rattle.books_report.proofs.Order.Histories.{journal_so_far, length-lines_of, follows_others, GoesOn, goes_on_behind, length_of_same, closing_of_all}

-- the first line behind others is one line
row_behind : (xs : List (List ℕ)) {y : List ℕ} (ys : List (List ℕ)) → AllByRecursion IsRow (xs ++ y ∷ ys) → IsRow y
row_behind [] ys rows = rows.0
row_behind (x ∷ xs) ys rows = row_behind xs ys rows.1

-- one line more, and those behind it
one_more : (xs : List (List ℕ)) (y : List ℕ) (ys zs : List (List ℕ)) → (xs ++ y ∷ ys) ++ zs ≡ (xs ++ y ∷ []) ++ (ys ++ zs)
one_more xs y ys zs = simp append_assoc

module _ (input : ClearingInput) (limit : ℕ) (valid : IsInput input) where
  -- lines with which an output can begin are lines
  begin_rows : {lines : List (List ℕ)} → CanBegin input limit lines → AllByRecursion IsRow lines
  begin_rows {lines} h = all_first IsRow lines h.more (subst (AllByRecursion IsRow) h.lines_are (output_rows limit valid h.scripts h.in_turn))

  -- it can begin with fewer of them
  begins_sooner : (front : List (List ℕ)) (next : List ℕ) (more : List (List ℕ))
      → CanBegin input limit (front ++ next ∷ more) → CanBegin input limit (front ++ next ∷ [])
  begins_sooner front next more h = record {
    scripts = h.scripts;
    in_turn = h.in_turn;
    more =
        more ++ h.more;
    lines_are = h.lines_are ∙ one_more front next more h.more;
  }

  -- what is left behind right lines does not begin with a right one
  stops_there : {text : List ℕ} {number : ℕ} (w : IsFirstWrongLine input limit text number) (next : List ℕ) (more : List (List ℕ)) (left : List ℕ)
      → CanBegin input limit (w.before ++ next ∷ more) → w.left ≡ concat (next ∷ more) ++ left → ⊥
  stops_there w next more left h e =
      w.wrong next (concat more ++ left) (begins_sooner w.before next more h) (e ∙ append_assoc next (concat more) left)

  -- there is one first wrong line at most
  pub one_wrong : (text : List ℕ) (number other : ℕ) → IsFirstWrongLine input limit text number → IsFirstWrongLine input limit text other → number ≡ other
  one_wrong text number other w v =
      by (compared w.before v.before (begin_rows w.right) (begin_rows v.right) (sym w.text_is ∙ v.text_is))
    where
      by : Compared w.before v.before w.left v.left → number ≡ other
      by (AreSame lines left) = w.number_is ∙ ap (λ l. length l + 1) lines ∙ sym v.number_is
      by (IsShorter next more lines left) = absurd (stops_there w next more v.left (subst (CanBegin input limit) lines v.right) left)
      by (IsLonger next more lines left) = absurd (stops_there v next more w.left (subst (CanBegin input limit) lines w.right) left)

  -- an output has none
  pub none_of_output : (text : List ℕ) (number : ℕ) → IsOutput input limit text → IsFirstWrongLine input limit text number → ⊥
  none_of_output text number o w =
      by (compared w.before lines (begin_rows w.right) (output_rows limit valid o.scripts in_turn) (sym w.text_is ∙ text_is))
    where
      in_turn : FollowInTurn input limit [] o.scripts
      in_turn = turns_of_journal input limit [] o.scripts o.journal o.below o.replies

      run : length o.scripts ≡ count_scripts input.callers
      run = sym (length-map o.scripts (λ (r : Ran). r.place)) ∙ length_of_journal input (places_run o.scripts) o.journal

      lines : List (List ℕ)
      lines = output_lines input o.scripts

      text_is : text ≡ concat lines ++ []
      text_is = o.text_is ∙ sym (output_text input o.scripts run) ∙ sym (append-nil (concat lines))

      by : Compared w.before lines w.left [] → ⊥
      by (AreSame same left) = w.unfinished (record { scripts = o.scripts; in_turn = in_turn; run = run; lines_are = sym same }) left
      by (IsShorter next more same left) =
          stops_there w next more [] (record {
            scripts = o.scripts;
            in_turn = in_turn;
            more =
                [];
            lines_are = same ∙ sym (append-nil (w.before ++ next ∷ more));
          }) left
      by (IsLonger next more same left) =
          row_some (concat more ++ w.left)
          (row_behind lines more (subst (AllByRecursion IsRow) same (begin_rows w.right)))
          (sym (append_assoc next (concat more) w.left) ∙ sym left)

  -- a text that does not begin with the first line of an output
  pub wrong_title : {text : List ℕ} → ((after : List ℕ) → text ≢ line (codes "journal" ∷ []) ++ after) → IsFirstWrongLine input limit text 1
  wrong_title {text} none = record {
    before = [];
    left = text;
    text_is = refl;
    right = record { scripts = []; in_turn = tt; more = output_lines input []; lines_are = refl };
    wrong = λ next after h e. none after (e ∙ ap (λ l. l ++ after) (sym (first next h.scripts h.more h.lines_are)));
    unfinished = λ h. absurd (nothing h.scripts h.lines_are);
    number_is = omega arith;
  }
    where
      first : (next : List ℕ) (scripts : List Ran) (more : List (List ℕ)) → output_lines input scripts ≡ next ∷ more → line (codes "journal" ∷ []) ≡ next
      first next scripts more e = cc

      nothing : (scripts : List Ran) → output_lines input scripts ≡ [] → ⊥
      nothing scripts e = cc

  module _ {text : List ℕ} (ours : List Ran) (left : List ℕ) (t : FollowInTurn input limit [] ours) (text_is : text
      ≡ concat (journal_so_far input ours) ++ left) where
    -- behind scripts in turn, a script is left, and no line of one that may come next
    pub wrong_script : length ours < count_scripts input.callers
        → ((ran : Ran) (after : List ℕ) → MayFollow input limit ours ran
        → left ≢ journal_line reply_words (length ours + 1) (caller_at input.callers ran.place.caller).name ran ++ after)
        → IsFirstWrongLine input limit text (length ours + 2)
    wrong_script less none = record {
      before = journal_so_far input ours;
      left = left;
      text_is = text_is;
      right = record {
        scripts = ours;
        in_turn = t;
        more = [];
        lines_are =
            ap (λ l. line (codes "journal" ∷ []) ∷ (journal_as_lines input 1 ours ++ l)) (behind_some input ours less);
      };
      wrong = λ next after h e. next_is next h.scripts h.in_turn h.more (h.lines_are ∙ append_assoc (journal_so_far input ours) (next ∷ []) h.more) after e;
      unfinished = λ h. absurd (omega (
        arith,
        less,
        h.run,
        ap length h.lines_are,
        length-append (journal_as_lines input 1 h.scripts) (lines_behind input h.scripts),
        length-lines_of input 1 h.scripts,
        length-lines_of input 1 ours,
      ));
      number_is = omega (arith, length-lines_of input 1 ours);
    }
      where
        next_is : (next : List ℕ) (theirs : List Ran) → FollowInTurn input limit [] theirs → (more : List (List ℕ))
            → output_lines input theirs ≡ journal_so_far input ours ++ next ∷ more → (after : List ℕ) → left ≢ next ++ after
        next_is next theirs u more e after is = by g.more g.in_turn g.parts g.lines
          where
            g : GoesOn input limit [] [] ours theirs 1 (next ∷ more) (lines_behind input theirs)
            g = goes_on_behind limit valid t u (omega (arith, less)) e

            by : (rest : List Ran) → FollowInTurn input limit g.same rest → theirs ≡ g.same ++ rest
                → journal_as_lines input (1 + length ours) rest ++ lines_behind input theirs ≡ next ∷ more → ⊥
            by [] turns parts lines =
                let few : length theirs ≡ length ours = ap length (parts ∙ append-nil g.same)
                ∙ length_of_same limit valid g in
                omega (arith, ap length lines, ap length (behind_some input theirs (omega (arith, few, less))))
            by (ran ∷ rest) turns parts lines =
                let number : 1 + length ours ≡ length ours + 1 = omega arith in
                let line_is : journal_line reply_words (1 + length ours) (caller_at input.callers ran.place.caller).name ran ≡ next = cc in
                none ran after (follows_others g.places turns.0)
                (is ∙ ap (λ l. l ++ after) (sym line_is ∙ ap (λ n. journal_line reply_words n (caller_at input.callers ran.place.caller).name ran) number))

    -- behind all scripts, the lines of the books and the last one
    pub is_output : length ours ≡ count_scripts input.callers
        → left ≡ concat (closing_lines (books_after input input.books (places_run ours))) → IsOutput input limit text
    is_output all is = record {
      scripts = ours;
      journal = journal_of_turns (gone_of limit ours t) (length-map ours (λ (r : Ran). r.place) ∙ all);
      below = All-from_recursion (λ (r : Ran). r.restarts < limit) ours (below_of_turns input limit [] ours t);
      replies = replies_of_turns input limit [] ours t;
      text_is =
          text_is ∙ ap (λ l. concat (journal_so_far input ours) ++ l) (is ∙ ap concat (sym (behind_all input ours all)))
          ∙ sym (concat-both (journal_so_far input ours) (lines_behind input ours)) ∙ output_text input ours all;
    }

module _ {input : ClearingInput} (limit : ℕ) (valid : IsInput input) {text : List ℕ} (ours : List Ran) (left : List ℕ)
    (t : FollowInTurn input limit [] ours) (text_is : text ≡ concat (journal_so_far input ours) ++ left) where
  -- behind all scripts, some of the lines of the books, and then another line than the next, or something behind the last
  pub wrong_closing : length ours ≡ count_scripts input.callers → {count : ℕ}
      → StopsAfter (closing_lines (books_after input input.books (places_run ours))) left count → IsFirstWrongLine input limit text (length ours + count + 2)
  wrong_closing all s = record {
    before = journal_so_far input ours ++ s.done;
    left = s.left;
    text_is = text_is ∙ ap (λ l. concat (journal_so_far input ours) ++ l) s.text_is
        ∙ sym (append_assoc (concat (journal_so_far input ours)) (concat s.done) s.left)
        ∙ ap (λ l. l ++ s.left) (sym (concat-both (journal_so_far input ours) s.done));
    right = record {
      scripts = ours;
      in_turn = t;
      more = s.rest;
      lines_are = ap (λ l. journal_so_far input ours ++ l) (behind_all input ours all ∙ s.lines_are)
          ∙ sym (append_assoc (journal_so_far input ours) s.done s.rest);
    };
    wrong = λ next behind h e. stops_at s.rest s.stops next h.more
        (append_cancel_left s.done s.rest (next ∷ h.more) (sym s.lines_are
        ∙ closing_of_all limit valid ours h.scripts t h.in_turn all
        (h.lines_are ∙ append_assoc (journal_so_far input ours ++ s.done) (next ∷ []) h.more
        ∙ append_assoc (journal_so_far input ours) s.done (next ∷ h.more)))) behind e;
    unfinished = λ h. ends_at s.rest s.stops (append_cancel_left s.done s.rest [] (sym s.lines_are
        ∙ closing_of_all limit valid ours h.scripts t h.in_turn all h.lines_are ∙ sym (append-nil s.done)));
    number_is = omega (arith, length-append (journal_so_far input ours) s.done, length-lines_of input 1 ours, s.count_is);
  }
    where
      stops_at : (rest : List (List ℕ)) → StopsBefore rest s.left → (next : List ℕ) (more : List (List ℕ))
          → rest ≡ next ∷ more → (behind : List ℕ) → s.left ≢ next ++ behind
      stops_at [] stops next more e behind is = cc
      stops_at (row ∷ rows) stops next more e behind is = let first : row ≡ next = cc in stops behind (is ∙ ap (λ l. l ++ behind) (sym first))

      ends_at : (rest : List (List ℕ)) → StopsBefore rest s.left → rest ≡ [] → s.left ≢ []
      ends_at [] stops e = stops
      ends_at (row ∷ rows) stops e = cc
