-- One lemma for every store: if a state stands for words, and a job's meaning is one step of an interpreter on that
-- state, the interpreter, run down the jobs in their order, gives every answer, and the words before and after each stand
-- for its states.
use Rattle.txn_commit.proofs.Common.{◌≡◌, ℕ, zero, suc, ◌+◌, ◌<◌, ◌≤◌, Bool, true, false, List, [], ◌∷◌, ◌++◌, map, length, take, get_or, refl, sym, ap, ◌∙◌}
use Rattle.txn_commit.proofs.Common.{subst, arith, take_more, take_all, map_push, slice_get-get_or, Entry, replay, after, replay_nothing, replay_kept}
use Rattle.txn_commit.proofs.Common.{replay_reverted, ClosedView, Done, IsRunInOrder}
use Rattle.txn_commit.proofs.Orders.Interpreters.{answers_down, state_down, IsInterpreterStep}

-- what was answered, with one job more
answers_push : {A X : Type 0} (reply : ℕ → ℕ → X → A) (left : ℕ → ℕ → X → X) (jobs : List (Done A)) (job : Done A) (x : X)
    → answers_down reply left (jobs ++ job ∷ []) x
    ≡ answers_down reply left jobs x ++ reply job.caller job.index (state_down left jobs x) ∷ []
unfolding answers_down state_down
answers_push reply left [] job x = refl
answers_push reply left (j ∷ jobs) job x = ap (λ l. reply j.caller j.index x ∷ l) (answers_push reply left jobs job (left j.caller j.index x))

state_push : {A X : Type 0} (left : ℕ → ℕ → X → X) (jobs : List (Done A)) (job : Done A) (x : X)
    → state_down left (jobs ++ job ∷ []) x ≡ left job.caller job.index (state_down left jobs x)
unfolding state_down
state_push left [] job x = refl
state_push left (j ∷ jobs) job x = state_push left jobs job (left j.caller j.index x)

first_of : {X : Type 0} (xs : List X) → 0 < length xs → X
first_of [] lt = absurd (omega arith)
first_of (x ∷ xs) lt = x

module _ {A S X : Type 0} (good : List ℕ → Type 0) (means : ℕ → ℕ → List ℕ → Bool → A → List ℕ → Type 0) (closed : ClosedView S)
    (done : List (Done A)) (run : IsRunInOrder good means closed done)
    (stands : List ℕ → X → Type 0) (reply : ℕ → ℕ → X → A) (left : ℕ → ℕ → X → X)
    (step : IsInterpreterStep means stands reply left) (start : X) (opening : stands closed.base start) where
  -- the first k jobs
  pub record RunsTo (k : ℕ) : Type 0 where
    pub answers : map (λ (ran : Done A). ran.reply) (take k done) ≡ answers_down reply left (take k done) start
    pub state : stands (replay closed.base (take k run.entries)) (state_down left (take k done) start)

  -- one more
  leaves_one : (k : ℕ) (e : Entry) (ran : Done A) (x : X) → stands (replay closed.base (take k run.entries)) x
      → means ran.caller ran.index (replay closed.base (take k run.entries)) e.kept ran.reply (after e.trace (replay closed.base (take k run.entries)))
      → stands (replay closed.base (take k run.entries ++ e ∷ [])) (left ran.caller ran.index x)
  leaves_one k e ran x is m = by_kept e.kept refl
    where
      by_kept : (b : Bool) → e.kept ≡ b → stands (replay closed.base (take k run.entries ++ e ∷ [])) (left ran.caller ran.index x)
      by_kept true kept = subst (λ words. stands words (left ran.caller ran.index x)) (sym (replay_kept closed.base (take k run.entries) e kept))
          (step.keeps _ _ _ _ _ _ x m is kept)
      by_kept false kept = subst (λ words. stands words (left ran.caller ran.index x)) (sym (replay_reverted closed.base (take k run.entries) e kept))
          (subst (λ y. stands (replay closed.base (take k run.entries)) y) (sym (step.reverts _ _ _ _ _ _ x m is kept)) is)

  pub runs_to : (k : ℕ) → k ≤ length done → RunsTo k
  unfolding answers_down state_down
  runs_to zero le = record { answers = refl; state = subst (λ words. stands words start) (sym (replay_nothing closed.base)) opening }
  runs_to (suc k) le = one (runs_to k (omega arith)) (first_of done (omega arith)) (first_of run.entries (omega (arith, run.as_many)))
    where
      one : RunsTo k → Done A → Entry → RunsTo (suc k)
      one prev d f =
          let lt : k < length done = omega arith in
          let long : k < length run.entries = omega (arith, run.as_many, lt) in
          let ran : Done A = get_or done k d in
          let e : Entry = get_or run.entries k f in
          let m = run.meaning k ran e (slice_get-get_or done k d lt) (slice_get-get_or run.entries k f long) in
          let x : X = state_down left (take k done) start in
          let next : suc k ≡ k + 1 = omega arith in
          let taken : take (suc k) done ≡ take k done ++ ran ∷ [] = ap (λ n. take n done) next ∙ take_more done k d lt in
          let left_by : take (suc k) run.entries ≡ take k run.entries ++ e ∷ [] = ap (λ n. take n run.entries) next ∙ take_more run.entries k f long in
          let told : ran.reply ≡ reply ran.caller ran.index x = step.replies _ _ _ _ _ _ x m prev.state in
          record {
            answers = ap (map (λ (r : Done A). r.reply)) taken ∙ map_push (λ (r : Done A). r.reply) (take k done) ran
                ∙ ap (λ l. l ++ ran.reply ∷ []) prev.answers ∙ ap (λ a. answers_down reply left (take k done) start ++ a ∷ []) told
                ∙ sym (answers_push reply left (take k done) ran start) ∙ ap (λ l. answers_down reply left l start) (sym taken);
            state = subst (λ (l : List (Done A)). stands (replay closed.base (take (suc k) run.entries)) (state_down left l start)) (sym taken)
                (subst (λ y. stands (replay closed.base (take (suc k) run.entries)) y) (sym (state_push left (take k done) ran start))
                (subst (λ (h : List Entry). stands (replay closed.base h) (left ran.caller ran.index x)) (sym left_by) (leaves_one k e ran x prev.state m)));
          }

  -- and so to the end
  pub all_answers : map (λ (ran : Done A). ran.reply) done ≡ answers_down reply left done start
  all_answers = subst (λ l. map (λ (ran : Done A). ran.reply) l ≡ answers_down reply left l start) (take_all (length done) done (omega arith))
      (runs_to (length done) (omega arith)).answers

  pub at_the_end : stands closed.words (state_down left done start)
  at_the_end = subst (λ words. stands words (state_down left done start)) (sym run.words)
      (subst (λ (l : List Entry). stands (replay closed.base l) (state_down left done start)) (take_all (length done) run.entries (omega (arith, run.as_many)))
      (subst (λ (l : List (Done A)). stands (replay closed.base (take (length done) run.entries)) (state_down left l start))
      (take_all (length done) done (omega arith))
      (runs_to (length done) (omega arith)).state))
