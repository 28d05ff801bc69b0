-- Lines of journals tell which scripts were run.
use Rattle.books_report.proofs.Common.{◌≡◌, ℕ, suc, ◌+◌, ◌<◌, ◌≤◌, List, [], ◌∷◌, ◌++◌, codes, length, map, get_or, inl, inr, refl, sym, ap, ◌∙◌, subst}
use Rattle.books_report.proofs.Common.{append_assoc, append-nil, length-append, arith, cases_lt, length-map, map_push, caller_at, word_at, line, Caller}
use Rattle.books_report.proofs.Common.{ClearingInput, IsInput, IsName, count_scripts, line_once, places_run, journal_line, Ran, reply_to, books_after, IsNext}
use Rattle.books_report.proofs.Common.{MayFollow, FollowInTurn, journal_as_lines, closing_lines, lines_behind, output_lines, reply_words}
use Rattle.std.proofs.Common.{true≢false}
use Rattle.std.specs.Str.{bytes_eq}
use Rattle.std.proofs.lemmas.List.{get_or-map}
use Rattle.std.proofs.lemmas.Map.Keys.{apart_from_distinct}
use Rattle.std.proofs.lemmas.Slice.Eq.{bytes_eq-Decides}
use Rattle.books_report.proofs.Order.Turns.{turns, gone_of, none_left}
use Rattle.books_report.proofs.Outputs.Rows.{journal_words, journal-AreWords, caller_named, behind_all, behind_some}

-- the first line of an output, and those of scripts behind it
abbrev pub journal_so_far : ClearingInput → List Ran → List (List ℕ)
journal_so_far input scripts = line (codes "journal" ∷ []) ∷ journal_as_lines input 1 scripts

-- each script has a line
pub length-lines_of : (input : ClearingInput) (serial : ℕ) (scripts : List Ran) → length (journal_as_lines input serial scripts) ≡ length scripts
length-lines_of input serial [] = refl
length-lines_of input serial (ran ∷ scripts) = ap suc (length-lines_of input (serial + 1) scripts)

-- a script that may follow some may follow others at the same places
pub follows_others : {input : ClearingInput} {limit : ℕ} {before other : List Ran} {ran : Ran}
    → places_run before ≡ places_run other → MayFollow input limit before ran → MayFollow input limit other ran
follows_others {input} {ran} same m = record {
  next = subst (λ places. IsNext input places ran.place) same m.next;
  below = m.below;
  reply = m.reply ∙ ap (λ places. reply_to input (books_after input input.books places) ran.place) same;
}

-- lines with the same serial number name the same caller
same_name : (serial : ℕ) {name other : List ℕ} (ran ran' : Ran) → IsName name → IsName other
    → journal_line reply_words serial name ran ≡ journal_line reply_words serial other ran' → name ≡ other
same_name serial {name} {other} ran ran' named also e =
    ap (λ w. word_at w 1) (line_once (journal_words serial name ran) (journal_words serial other ran') [] []
    (journal-AreWords serial name ran named) (journal-AreWords serial other ran' also)
    (append-nil (journal_line reply_words serial name ran) ∙ e ∙ sym (append-nil (journal_line reply_words serial other ran')))).0

-- how scripts go on behind others of which they have the lines
pub record GoesOn (input : ClearingInput) (limit : ℕ) (before other ours theirs : List Ran) (serial : ℕ) (left behind : List (List ℕ)) : Type 0 where
  pub same : List Ran
  pub more : List Ran
  pub parts : theirs ≡ same ++ more
  pub places : places_run (other ++ same) ≡ places_run (before ++ ours)
  pub in_turn : FollowInTurn input limit (other ++ same) more
  pub lines : journal_as_lines input (serial + length ours) more ++ behind ≡ left

-- so they do behind one script less
goes_on_later : {input : ClearingInput} {limit : ℕ} (before other : List Ran) (ran ran' : Ran) {ours theirs : List Ran}
    (serial : ℕ) {left behind : List (List ℕ)}
    → GoesOn input limit (before ++ ran ∷ []) (other ++ ran' ∷ []) ours theirs (serial + 1) left behind
    → GoesOn input limit before other (ran ∷ ours) (ran' ∷ theirs) serial left behind
goes_on_later {input} {limit} before other ran ran' {ours} serial {left} {behind} g = record {
  same = ran' ∷ g.same;
  more = g.more;
  parts = ap (λ l. ran' ∷ l) g.parts;
  places = ap places_run (sym (append_assoc other (ran' ∷ []) g.same)) ∙ g.places ∙ ap places_run (append_assoc before (ran ∷ []) ours);
  in_turn = subst (λ l. FollowInTurn input limit l g.more) (append_assoc other (ran' ∷ []) g.same) g.in_turn;
  lines = subst (λ n. journal_as_lines input n g.more ++ behind ≡ left) number g.lines;
}
  where
    number : serial + 1 + length ours ≡ serial + length (ran ∷ ours)
    number = omega arith

module _ {input : ClearingInput} (valid : IsInput input) where
  name_at : (c : ℕ) → c < length input.callers → get_or (map (λ (x : Caller). x.name) input.callers) c [] ≡ (caller_at input.callers c).name
  name_at c within = get_or-map (λ (x : Caller). x.name) input.callers c (record { name = []; scripts = [] }) [] within

  -- names of callers below another differ from its name
  apart : {c c' : ℕ} → c < c' → c' < length input.callers → (caller_at input.callers c).name ≡ (caller_at input.callers c').name → ⊥
  apart {c} {c'} less within same =
      let differ = apart_from_distinct bytes_eq (map (λ (x : Caller). x.name) input.callers) c c' []
      valid.callers.names_differ less (omega (arith, within, length-map input.callers (λ (x : Caller). x.name))) in
      true≢false (sym ((bytes_eq-Decides _ _).1 (name_at c (omega arith) ∙ same ∙ sym (name_at c' within))) ∙ differ)

  -- a name is that of one caller
  pub one_caller : {c c' : ℕ} → c < length input.callers → c' < length input.callers → (caller_at input.callers c).name ≡ (caller_at input.callers c').name
      → c ≡ c'
  one_caller {c} {c'} within also same = elim (cases_lt c c') [
    | inl less ↦ absurd (apart less also same)
    | inr up ↦ elim (cases_lt c' c) [ inl less ↦ absurd (apart less within (sym same)) | inr down ↦ omega (arith, up, down) ]
  ]

module _ {input : ClearingInput} (limit : ℕ) (valid : IsInput input) where
  -- equal lines, behind scripts at the same places, are of one script
  same_place : {before other : List Ran} {ran ran' : Ran} (serial : ℕ) → places_run before ≡ places_run other
      → MayFollow input limit before ran → MayFollow input limit other ran'
      → journal_line reply_words serial (caller_at input.callers ran.place.caller).name ran
      ≡ journal_line reply_words serial (caller_at input.callers ran'.place.caller).name ran' → ran.place ≡ ran'.place
  same_place {ran} {ran'} serial places m m' e = λ i. record { caller = caller i; index = index i }
    where
      caller : ran.place.caller ≡ ran'.place.caller
      caller = one_caller valid m.next.left.0 m'.next.left.0
          (same_name serial ran ran'
          (caller_named valid m.next.left.0) (caller_named valid m'.next.left.0) e)

      index : ran.place.index ≡ ran'.place.index
      index = m.next.next ∙ (λ i. turns (places i) (caller i)) ∙ sym m'.next.next

  -- scripts that have the lines of others go on behind them
  goes_on : (before other ours theirs : List Ran) (serial : ℕ) (left behind : List (List ℕ))
      → places_run before ≡ places_run other → FollowInTurn input limit before ours → FollowInTurn input limit other theirs
      → length ours ≤ length theirs → journal_as_lines input serial theirs ++ behind ≡ journal_as_lines input serial ours ++ left
      → GoesOn input limit before other ours theirs serial left behind
  goes_on before other [] theirs serial left behind same t u le e = record {
    same = [];
    more = theirs;
    parts = refl;
    places = ap places_run (append-nil other) ∙ sym same ∙ ap places_run (sym (append-nil before));
    in_turn = subst (λ l. FollowInTurn input limit l theirs) (sym (append-nil other)) u;
    lines = subst (λ n. journal_as_lines input n theirs ++ behind ≡ left) nothing e;
  }
    where
      nothing : serial ≡ serial + 0
      nothing = omega arith
  goes_on before other (ran ∷ ours) [] serial left behind same t u le e = absurd (omega arith)
  goes_on before other (ran ∷ ours) (ran' ∷ theirs) serial left behind same t u le e =
      let first : journal_line reply_words serial (caller_at input.callers ran.place.caller).name ran
      ≡ journal_line reply_words serial (caller_at input.callers ran'.place.caller).name ran' = cc in
      let place : ran.place ≡ ran'.place = same_place serial same t.0 u.0 first in
      let both : places_run (before ++ ran ∷ []) ≡ places_run (other ++ ran' ∷ []) =
      map_push (λ (r : Ran). r.place) before ran ∙ (λ i. same i ++ place i ∷ []) ∙ sym (map_push (λ (r : Ran). r.place) other ran') in
      goes_on_later before other ran ran' serial
      (goes_on (before ++ ran ∷ []) (other ++ ran' ∷ []) ours theirs (serial + 1) left behind both t.1 u.1 (omega arith) cc)

  -- an output whose lines begin with those of scripts in turn goes on behind them
  pub goes_on_behind : {ours theirs : List Ran} {left : List (List ℕ)} → FollowInTurn input limit [] ours
      → FollowInTurn input limit [] theirs → length ours ≤ count_scripts input.callers
      → output_lines input theirs ≡ journal_so_far input ours ++ left → GoesOn input limit [] [] ours theirs 1 left (lines_behind input theirs)
  goes_on_behind {ours} {theirs} {left} t u few e = goes_on [] [] ours theirs 1 left (lines_behind input theirs) refl t u longer rest
    where
      rest : journal_as_lines input 1 theirs ++ lines_behind input theirs ≡ journal_as_lines input 1 ours ++ left
      rest = cc

      longer : length ours ≤ length theirs
      longer = elim (cases_lt (length theirs) (length ours)) [
        | inl less ↦ omega (
          arith,
          less,
          ap length rest,
          ap length (behind_some input theirs (omega (arith, less, few))),
          length-append (journal_as_lines input 1 theirs) (lines_behind input theirs),
          length-append (journal_as_lines input 1 ours) left,
          length-lines_of input 1 theirs,
          length-lines_of input 1 ours,
        )
        | inr more ↦ more
      ]

  -- so many scripts as are the same were run
  pub length_of_same : {ours theirs : List Ran} {left behind : List (List ℕ)}
      (g : GoesOn input limit [] [] ours theirs 1 left behind) → length g.same ≡ length ours
  length_of_same {ours} g = sym (length-map g.same (λ (r : Ran). r.place)) ∙ ap length g.places ∙ length-map ours (λ (r : Ran). r.place)

  -- behind all scripts there are the closing lines, and no others
  pub closing_of_all : (ours theirs : List Ran) {left : List (List ℕ)} → FollowInTurn input limit [] ours
      → FollowInTurn input limit [] theirs → length ours ≡ count_scripts input.callers
      → output_lines input theirs ≡ journal_so_far input ours ++ left → closing_lines (books_after input input.books (places_run ours)) ≡ left
  closing_of_all ours theirs {left} t u all e = by g.more g.in_turn g.parts g.lines
    where
      g : GoesOn input limit [] [] ours theirs 1 left (lines_behind input theirs)
      g = goes_on_behind t u (omega (arith, all)) e

      by : (more : List Ran) → FollowInTurn input limit g.same more → theirs ≡ g.same ++ more
          → journal_as_lines input (1 + length ours) more ++ lines_behind input theirs ≡ left
          → closing_lines (books_after input input.books (places_run ours)) ≡ left
      by [] turns parts lines =
          let same : theirs ≡ g.same = parts ∙ append-nil g.same in
          ap (λ places. closing_lines (books_after input input.books places)) (sym g.places ∙ ap places_run (sym same))
          ∙ sym (behind_all input theirs (ap length same ∙ length_of_same g ∙ all)) ∙ lines
      by (ran ∷ more) turns parts lines =
          absurd (none_left (gone_of limit ours t)
          (length-map ours (λ (r : Ran). r.place) ∙ all) (subst (λ places. IsNext input places ran.place) g.places turns.0.next))
