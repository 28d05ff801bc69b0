-- Waits arise: a run of two seats, each of which claims a lock and then the other's.
use Rattle.word_table.proofs.Common.{◌≡◌, ◌≢◌, ℕ, zero, suc, ◌+◌, ◌<◌, Bool, true, inl, inr, List, [], ◌∷◌, ◌++◌, length, length-append, length-set, Some}
use Rattle.word_table.proofs.Common.{slice_get, slice_index, slice_set, refl, sym, ap, ◌∙◌, subst, arith, get_or-set_other, get_or-set_same, eq-eqb, ne_eqb}
use Rattle.word_table.proofs.Common.{◌==◌, if◌then◌else◌, dite, ℕ_discrete, View, Idle, Yielding, has, TableState, Knows, value_word, differ, has-nil, has-one}
use Rattle.word_table.proofs.Common.{has-join_same, has-join_old, has-without, pair-join_same, opening_view, Step, BeginCall, ClaimWriter, DrawStamp}
use Rattle.word_table.proofs.Common.{AnnounceStamp, JudgeStamp, ReleaseWriter, judged_of, action_of, May, IsReached, IsRun, opening_words, WaitsAtLock}
use Rattle.word_table.proofs.Common.{WaitsForCause}
use Rattle.std.proofs.Math.Dec.{leb}
use Rattle.std.proofs.lemmas.Bool.{leb-true}
use Rattle.word_table.specs.Waits.{WaitsArise}
use Rattle.word_table.proofs.Openings.Zeros.{zeros_at, zeros_long}
use Rattle.word_table.proofs.Runs.Dealing.{one_more, run_to, run_runs, run_long, run_last, get_last}

-- what two seats know and which words they wrote so far, the last first
record Moment : Type 0 where
  words : List ℕ
  writes : List (ℕ × ℕ)
  views : List View

-- what a word shows after these writes, if all were 0
abbrev shown : List (ℕ × ℕ) → ℕ → ℕ
shown [] j = 0
shown (w ∷ more) j = if w.0 == j then w.1 else shown more j

abbrev view_of : List View → ℕ → View
view_of [] place = opening_view [] 0 [] []
view_of (v ∷ more) zero = v
view_of (v ∷ more) (suc place) = view_of more place

some_met : (j : ℕ) → j ∷ [] ≢ []
some_met j e = cc

busy : Yielding ≢ Idle
busy e = cc

-- after a step that finds x, of the seat at this place
abbrev turn : Step → ℕ → ℕ → Moment → Moment
turn st place x m = let a = action_of st (view_of m.views place) in record {
  words = slice_set m.words a.at (a.writes x);
  writes = (a.at, a.writes x) ∷ m.writes;
  views = slice_set m.views place (a.view x);
}

module _ (good : List ℕ → Type 0) (base : List ℕ) where
  -- a run that ends in this moment
  record Ended : Type 0 where
    m : Moment
    run : List TableState
    p : ℕ
    runs : IsRun good 2 base run
    long : length run ≡ suc p
    last : slice_get run p ≡ Some (record { words = m.words; views = m.views })
    room : 2000 < length m.words
    shows : (j : ℕ) → j < 2000 → slice_index m.words j ≡ shown m.writes j

  abbrev state : Ended → TableState
  state e = record { words = e.m.words; views = e.m.views }

  -- if a word was written, and if another was
  reads : (m : Moment) (at w j : ℕ) → 2000 < length m.words → at < 2000 → slice_index m.words j ≡ shown m.writes j
      → slice_index (slice_set m.words at w) j ≡ shown ((at, w) ∷ m.writes) j
  reads m at w j room near before = dite (ℕ_discrete at j)
      (λ here. subst (λ (i : ℕ). slice_index (slice_set m.words at w) i ≡ w) here (get_or-set_same m.words at w 0 (omega arith))
      ∙ sym (ap (λ (b : Bool). if b then w else shown m.writes j) (eq-eqb at j here)))
      (λ other. get_or-set_other m.words at j w 0 (λ same. other (sym same)) ∙ (before
      ∙ sym (ap (λ (b : Bool). if b then w else shown m.writes j) (ne_eqb at j other))))

  -- the run goes on by a step
  abbrev by : (e : Ended) (st : Step) (place x : ℕ) → Knows e.m.views place (view_of e.m.views place) → May good st (view_of e.m.views place)
      → leb (suc (action_of st (view_of e.m.views place)).at) 2000 ≡ true → shown e.m.writes (action_of st (view_of e.m.views place)).at ≡ x → Ended
  by e st place x knows may low found =
      let m = e.m in let a = action_of st (view_of m.views place) in let near : a.at < 2000 = leb-true (suc a.at) 2000 low in
      let t : Moment = turn st place x m in let after : TableState = record { words = t.words; views = t.views } in
      let is = sym (e.shows a.at near ∙ found) in record {
        m = t;
        run = e.run ++ after ∷ [];
        p = suc e.p;
        runs = one_more good 2 base e.run e.p (state e) after e.runs e.long e.last (inl record {
          step = st;
          place = place;
          view = view_of m.views place;
          knows = knows;
          may = may;
          words_are = ap (λ (w : ℕ). slice_set m.words a.at (a.writes w)) is;
          views_are = ap (λ (w : ℕ). slice_set m.views place (a.view w)) is;
        });
        long = length-append e.run (after ∷ []) ∙ omega (arith, e.long);
        last = get_last e.run after (suc e.p) e.long;
        room = let r = e.room in let same = length-set m.words a.at (a.writes x) in omega arith;
        shows = λ j below. reads m a.at (a.writes x) j e.room near (e.shows j below);
      }

  abbrev e0 : Ended
  e0 = record {
    m = record { words = opening_words 2 base; writes = []; views = opening_view base 2 (1 ∷ []) [] ∷ opening_view base 2 (0 ∷ []) [] ∷ [] };
    run = run_to good 2 base 1 0;
    p = 1;
    runs = run_runs good 2 base 1 0 refl;
    long = run_long good 2 base 1 0;
    last = run_last good 2 base 1 0;
    room = let long : length (opening_words 2 base) ≡ value_word 2 0 + length base = zeros_long (value_word 2 0) base in omega arith;
    shows = λ j near. zeros_at (value_word 2 0) base j (omega arith);
  }

  abbrev e1 : Ended
  e1 = by e0 (BeginCall 0) 1 0 refl (record { who = refl; phase = refl; room = omega arith }) refl refl

  abbrev e2 : Ended
  e2 = by e1 (BeginCall 1) 0 0 refl (record { who = refl; phase = refl; room = omega arith }) refl refl

  abbrev e3 : Ended
  e3 = by e2 (ClaimWriter 0 0 0) 1 0 refl (record { who = refl; phase = refl; lock = refl; no_claim = λ t. differ (has 0 []) t (has-nil 0) }) refl refl

  abbrev e4 : Ended
  e4 = by e3 (ClaimWriter 1 1 1) 0 0 refl (record { who = refl; phase = refl; lock = refl; no_claim = λ t. differ (has 1 []) t (has-nil 1) }) refl refl

  abbrev e5 : Ended
  e5 = by e4 (ClaimWriter 0 1 1) 1 2 refl
      (record { who = refl; phase = refl; lock = refl; no_claim = λ t. let z : 1 ≡ 0 = has-one 1 0 t in omega arith }) refl refl

  abbrev e6 : Ended
  e6 = by e5 (ClaimWriter 1 0 0) 0 1 refl
      (record { who = refl; phase = refl; lock = refl; no_claim = λ t. let z : 0 ≡ 1 = has-one 0 1 t in omega arith }) refl refl

  abbrev e7 : Ended
  e7 = by e6 (DrawStamp 0) 1 0 refl (record { who = refl; phase = refl; unjudged = some_met 1; unstamped = refl }) refl refl

  abbrev e8 : Ended
  e8 = by e7 (AnnounceStamp 0) 1 0 refl (record { who = refl; phase = refl; stamped = omega arith; unannounced = refl }) refl refl

  abbrev e9 : Ended
  e9 = by e8 (DrawStamp 1) 0 1 refl (record { who = refl; phase = refl; unjudged = some_met 0; unstamped = refl }) refl refl

  abbrev e10 : Ended
  e10 = by e9 (AnnounceStamp 1) 0 0 refl (record { who = refl; phase = refl; stamped = omega arith; unannounced = refl }) refl refl

  abbrev e11 : Ended
  e11 = by e10 (JudgeStamp 1 0) 0 1 refl (record { who = refl; phase = refl; announced = refl; met = has-join_same 0 [] }) refl refl

  abbrev e12 : Ended
  e12 = by e11 (ReleaseWriter 1 1) 0 2 refl (record {
    releases = record { who = refl; claim = has-join_same 1 []; release = record { undone = inl refl; begun = busy } };
    unowed = has-nil 1;
  }) refl refl

  at_lock : WaitsAtLock 2 (state e10) 0 1
  at_lock = record {
    place = 1;
    view = (view_of e10.m.views 1);
    knows = refl;
    who = refl;
    phase = refl;
    announced = refl;
    lock = 1;
    met = pair-join_same 1 1 [];
    stands = record {
      other = 0;
      view = (view_of e10.m.views 0);
      elsewhere = λ e. omega arith;
      knows = refl;
      stands = record {
        named = has-join_same 1 [];
        holds = inr (has-join_same 1 []);
        asked = (1, has-join_old 1 0 (1 ∷ []) (has-join_same 1 []), refl);
      };
    };
    answer = ap (λ (x : ℕ). judged_of x 1) (e10.shows 5 (omega arith));
  }

  for_cause : WaitsForCause 2 (state e12) 1 0
  for_cause = record {
    place = 0;
    view = (view_of e12.m.views 0);
    knows = refl;
    stamp = 1;
    may = record {
      who = refl;
      phase = refl;
      last = refl;
      no_bit = λ k t. differ (has k []) t (has-nil k);
      no_claim = λ k t. let gone = has-without k 1 (1 ∷ []) t in gone.0 (has-one k 1 gone.1);
      undone = refl;
    };
    shown = e12.shows 4 (omega arith);
  }

  reached : good base → (e : Ended) → IsReached good 2 base (state e)
  reached fine e = record { base_good = fine; run = e.run; runs = e.runs; at = e.p; stands = e.last }

  pub waits_arise : WaitsArise good base
  waits_arise fine = ((state e10, reached fine e10, at_lock), (state e12, reached fine e12, for_cause))
