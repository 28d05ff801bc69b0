-- The run in which the seats are dealt out: one cut after another, until each number has a view of its own.
use Rattle.word_table.proofs.Common.{◌≡◌, ℕ, zero, suc, ◌+◌, ◌<◌, inl, inr, List, [], ◌∷◌, ◌++◌, length, length-append, Some, slice_get, refl, sym, ap, ◌∙◌}
use Rattle.word_table.proofs.Common.{subst, arith, slice_get_within, dite, ℕ_discrete, View, TableState, Knows, get_first, added_there, opening_view, CutsSeat}
use Rattle.word_table.proofs.Common.{Steps, IsRun, opening_words, numbers}
use Rattle.history_model.proofs.Views.Places.{added_here}
use Rattle.word_table.specs.Meetings.{AreFreshSeats, SeatsAreDealt}
use Rattle.word_table.proofs.Openings.Opening.{rest_of_numbers}
use Rattle.word_table.proofs.Runs.RunLaws.{opening_run}

some_same : (s t : TableState) → Some s ≡ Some t → s ≡ t
some_same s t e = cc

pub get_last : (run : List TableState) (t : TableState) (m : ℕ) → length run ≡ m → slice_get (run ++ t ∷ []) m ≡ Some t
get_last [] t zero e = refl
get_last [] t (suc m) e = absurd (omega arith)
get_last (x ∷ run) t zero e = absurd (omega arith)
get_last (x ∷ run) t (suc m) e = get_last run t m (omega arith)

-- a run that takes one step more
module _ (good : List ℕ → Type 0) (n : ℕ) (base : List ℕ) (run : List TableState) (m : ℕ) (s t : TableState) (r : IsRun good n base run)
    (long : length run ≡ suc m) (last : slice_get run m ≡ Some s) (step : Steps good s t) where
  within : (p : ℕ) (x : TableState) → slice_get (run ++ t ∷ []) p ≡ Some x → p < suc (suc m)
  within p x e =
      let inside = slice_get_within (run ++ t ∷ []) p x e in
      let all : length (run ++ t ∷ []) ≡ length run + 1 = length-append run (t ∷ []) in omega arith

  old : (p : ℕ) (x : TableState) → p < suc m → slice_get (run ++ t ∷ []) p ≡ Some x → slice_get run p ≡ Some x
  old p x lt e = sym (get_first run (t ∷ []) p (omega arith)) ∙ e

  next : (p : ℕ) (a b : TableState) → slice_get (run ++ t ∷ []) p ≡ Some a → slice_get (run ++ t ∷ []) (suc p) ≡ Some b → Steps good a b
  next p a b here there = dite (ℕ_discrete p m)
      (λ e. let is_last : slice_get run p ≡ Some s = subst (λ (i : ℕ). slice_get run i ≡ Some s) (sym e) last in
      let a_is : s ≡ a = some_same s a (sym is_last ∙ old p a (omega arith) here) in
      let new : slice_get (run ++ t ∷ []) (suc p) ≡ Some t =
      subst (λ (i : ℕ). slice_get (run ++ t ∷ []) (suc i) ≡ Some t) (sym e) (get_last run t (suc m) long) in
      let b_is : t ≡ b = some_same t b (sym new ∙ there) in
      subst (λ (x : TableState). Steps good x b) a_is (subst (λ (x : TableState). Steps good s x) b_is step))
      (λ ne. let near = within (suc p) b there in r.next p a b (old p a (omega arith) here) (old (suc p) b (omega arith) there))

  pub one_more : IsRun good n base (run ++ t ∷ [])
  one_more = record {
    first = λ x at. r.first x (old 0 x (omega arith) at);
    next = next;
  }

module _ (good : List ℕ → Type 0) (n : ℕ) (base : List ℕ) where
  -- the views of the first j numbers
  abbrev pub dealt : ℕ → List View
  dealt zero = []
  dealt (suc j) = dealt j ++ opening_view base n (j ∷ []) [] ∷ []

  -- the table after j cuts, with k + 1 numbers left in the first view
  abbrev pub at : ℕ → ℕ → TableState
  at j k = record { words = opening_words n base; views = opening_view base n (numbers j (suc k)) [] ∷ dealt j }

  cuts : (j k : ℕ) → CutsSeat (at j (suc k)) (at (suc j) k)
  cuts j k = record {
    number = j;
    place = 0;
    view = opening_view base n (numbers j (suc (suc k))) [];
    knows = refl;
    may = record { who = (suc j, numbers (suc (suc j)) k, refl, λ same. omega arith); phase = refl; unjoined = refl };
    words_are = refl;
    views_are = ap (λ (l : List ℕ). opening_view base n l [] ∷ dealt (suc j)) (sym (rest_of_numbers j (suc k)));
  }

  abbrev pub run_to : ℕ → ℕ → List TableState
  run_to zero k = at zero k ∷ []
  run_to (suc j) k = run_to j (suc k) ++ at (suc j) k ∷ []

  pub run_long : (j k : ℕ) → length (run_to j k) ≡ suc j
  run_long zero k = refl
  run_long (suc j) k = length-append (run_to j (suc k)) (at (suc j) k ∷ []) ∙ omega (arith, run_long j (suc k))

  pub run_last : (j k : ℕ) → slice_get (run_to j k) j ≡ Some (at j k)
  run_last zero k = refl
  run_last (suc j) k = get_last (run_to j (suc k)) (at (suc j) k) (suc j) (run_long j (suc k))

  pub run_runs : (j k : ℕ) → n ≡ j + suc k → IsRun good n base (run_to j k)
  run_runs zero k e = opening_run good n base (at zero k) (record {
    words_are = refl;
    views_are = let all : suc k ≡ n = omega arith in ap (λ (m : ℕ). opening_view base n (numbers 0 m) [] ∷ []) all;
  })
  run_runs (suc j) k e = one_more good n base (run_to j (suc k)) j (at j (suc k)) (at (suc j) k)
      (run_runs j (suc k) (omega arith)) (run_long j (suc k)) (run_last j (suc k))
      (inr (inl (cuts j k)))

  dealt_long : (j : ℕ) → length (dealt j) ≡ j
  dealt_long zero = refl
  dealt_long (suc j) = length-append (dealt j) (opening_view base n (j ∷ []) [] ∷ []) ∙ omega (arith, dealt_long j)

  dealt_there : (m j : ℕ) → j < m → Knows (dealt m) j (opening_view base n (j ∷ []) [])
  dealt_there zero j lt = absurd (omega arith)
  dealt_there (suc m) j lt = dite (ℕ_discrete j m)
      (λ e. subst (λ (i : ℕ). Knows (dealt m ++ opening_view base n (m ∷ []) [] ∷ []) i (opening_view base n (j ∷ []) [])) (dealt_long m ∙ sym e)
      (subst (λ (i : ℕ). Knows (dealt m ++ opening_view base n (m ∷ []) [] ∷ []) (length (dealt m))
      (opening_view base n (i ∷ []) [])) (sym e) (added_here (dealt m) (opening_view base n (m ∷ []) []))))
      (λ ne. added_there (dealt m) (opening_view base n (m ∷ []) []) (opening_view base n (j ∷ []) []) j (dealt_there m j (omega arith)))

  all_dealt : (m : ℕ) → n ≡ suc m → AreFreshSeats n base (opening_view base n (numbers m 1) [] ∷ dealt m)
  all_dealt m e = record {
    count = let long = dealt_long m in omega arith;
    each = λ j lt. dite (ℕ_discrete j m)
        (λ same. (0, subst (λ (i : ℕ). Knows (opening_view base n (m ∷ []) [] ∷ dealt m) 0 (opening_view base n (i ∷ []) [])) (sym same) refl))
        (λ ne. (suc j, dealt_there m j (omega arith)));
  }

  dealt_by : (m : ℕ) → n ≡ suc m → good base → SeatsAreDealt good n base
  dealt_by m e fine base_good some = (
    at m 0,
    record { base_good = fine; run = run_to m 0; runs = run_runs m 0 (omega arith); at = m; stands = run_last m 0 },
    refl,
    all_dealt m e,
  )

pub seats_are_dealt : (good : List ℕ → Type 0) (n : ℕ) (base : List ℕ) → SeatsAreDealt good n base
seats_are_dealt good zero base fine some = absurd (omega arith)
seats_are_dealt good (suc m) base fine some = dealt_by good (suc m) base m refl fine fine some
