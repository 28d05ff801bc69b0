-- The operations of a script one after another on words that stand for the state of a store, and what they come to together.
use Rattle.txn_stores.proofs.Common.{◌≡◌, ℕ, ◌+◌, Bool, true, false, List, [], ◌∷◌, ◌++◌, refl, sym, ap, ◌∙◌, subst, after, Begins, Fits, begins_refl}
use Rattle.txn_stores.proofs.Common.{begins_trans, InEachState, LeadsTo, leads_from_start, leads_then, StoreReply, Step, outcome_of, run_from, is_done}
use Rattle.txn_stores.proofs.Common.{ScriptMeans, StandsForSome}
use Rattle.books_report.proofs.Common.{Run, outcome_from, Ends, Stops, run_with}
use Rattle.history_model.specs.declared.shape.Shape.{Ghosts as Shapes}
use Rattle.history_model.proofs.Traces.FittingLaws.{each_fresh}
use Rattle.txn_words.specs.declared.words.Words.{Ghosts as AnyWords}
use Rattle.books_report.specs.declared.stores.outcome.Outcome.{Outcome}
use Rattle.books_report.specs.Stores.Steps.{step_with}
use Rattle.books_report.proofs.AnyStore.Runs.{after_values, after_values-none, ends, goes_on, is_absent, is_full}
use Rattle.txn_stores.specs.Standing.{IsLeft, MeetsStep}
use Rattle.txn_stores.specs.Inner.Scripts.{IfDone, Runs}
use Rattle.txn_stores.proofs.Turning.{Leads, Turns, leads_less}
use Rattle.books_report.specs.declared.stores.outcome.Outcome.TheVariants as outcome
use Rattle.books_report.specs.declared.stores.reply.StoreReply.TheVariants as reply

module _ {O V X : Type 0} (stands : List ℕ → X → Type 0) (step : O → X → Step V X) where
  -- the values so far, and the run of what is left on the state as it is now, are the whole run
  abbrev pub SoFar : List O → List V → ℕ → List O → X → X → Type 0
  SoFar script values number rest first now = after_values values (run_from step number rest now) ≡ run_from step 1 script first

  module _ {W S F : Type 0} {words : AnyWords W S F} {shapes : Shapes S} (script : List O) where
    -- all is left
    pub run_begins : (w : W) (ops : List O) → script ≡ ops → Leads words shapes w w (Turns stands (SoFar script [] 1 ops))
    run_begins w ops is = record {
      kept = refl;
      begins = begins_refl _;
      leads = record {
        at = λ s fit. record {
          at = λ first stand. (first, stand, after_values-none (run_from step 1 ops first) ∙ ap (λ l. run_from step 1 l first) (sym is));
        };
      };
    }

    module _ {u v w : W} {o : O} {come : Outcome V} (kept : words.shape w ≡ words.shape v) (begins : Begins (words.trace v) (words.trace w))
        (steps : LeadsTo words shapes v w (MeetsStep stands step o come)) (values : List V) (number : ℕ) (ops rest : List O) (next : ops ≡ o ∷ rest)
        (before : Leads words shapes u v (Turns stands (SoFar script values number ops))) where
      -- one operation more
      stepped : LeadsTo words shapes u w (λ x z. (y : List ℕ) × Turns stands (SoFar script values number ops) x y × MeetsStep stands step o come y z)
      stepped = leads_then words shapes u v w _ _ before.kept begins before.leads steps

      -- it gives a value
      pub run_gives : (value : V) → come ≡ outcome.Gives value
          → Leads words shapes u w (Turns stands (SoFar script (values ++ value ∷ []) (number + 1) rest))
      run_gives value is = record {
        kept = kept ∙ before.kept;
        begins = begins_trans _ _ _ before.begins begins;
        leads = leads_less words shapes u w _ _
            (λ x z k. record {
              at = λ first stand.
                  let now = k.1.at first stand in
                  let last = k.2.comes now.0 now.1 in (
                    last.0,
                    subst (λ c. IsLeft stands step z c now.0 last.0) is last.2,
                    goes_on step o ops rest next (run_from step 1 script first) values number now.0 now.2 value last.0
                        (last.1 ∙ ap (λ c. step_with c last.0) is),
                  );
            })
            stepped;
      }

      -- what it asks for is absent
      pub run_declined : come ≡ outcome.Absent → LeadsTo words shapes u w (Runs stands step script (reply.Declined number))
      run_declined is = leads_less words shapes u w _ _
          (λ x z k. record {
            comes = λ first stand.
                let now = k.1.at first stand in
                let last = k.2.comes now.0 now.1 in (
                  last.0,
                  is_absent step o ops rest next (run_from step 1 script first) values number now.0 now.2 (last.1 ∙ ap (λ c. step_with c last.0) is),
                  tt,
                );
          })
          stepped

      -- there is no room
      pub run_full : come ≡ outcome.Full → LeadsTo words shapes u w (Runs stands step script (reply.Full number))
      run_full is = leads_less words shapes u w _ _
          (λ x z k. record {
            comes = λ first stand.
                let now = k.1.at first stand in
                let last = k.2.comes now.0 now.1 in (
                  last.0,
                  is_full step o ops rest next (run_from step 1 script first) values number now.0 now.2 (last.1 ∙ ap (λ c. step_with c last.0) is),
                  tt,
                );
          })
          stepped

    -- no operation is left
    pub run_ends : {u w : W} (values : List V) (number : ℕ) (ops : List O) → ops ≡ []
        → Leads words shapes u w (Turns stands (SoFar script values number ops)) → LeadsTo words shapes u w (Runs stands step script (reply.Done values))
    run_ends {u = u} {w = w} values number ops none h = leads_less words shapes u w _ _
        (λ x z k. record {
          comes = λ first stand.
              let now = k.at first stand in
              (now.0, ends step ops none (run_from step 1 script first) values number now.0 now.2, now.1);
        })
        h.leads

  -- the reply of a run is the interpreter's
  outcome_reply : (first last : X) (answer : StoreReply V) → (outcome_from first (run_with answer last)).0 ≡ answer
  outcome_reply first last (reply.Done values) = refl
  outcome_reply first last (reply.Declined k) = refl
  outcome_reply first last (reply.Full k) = refl

  -- and so is its state, if it was done
  outcome_left : (new : List ℕ) (first last : X) (answer : StoreReply V) → is_done answer ≡ true → IfDone answer (stands new last)
      → stands new (outcome_from first (run_with answer last)).1
  outcome_left new first last (reply.Done values) is stand = stand
  outcome_left new first last (reply.Declined k) is stand = absurd (cc)
  outcome_left new first last (reply.Full k) is stand = absurd (cc)

  -- a run is what its script means
  run_means : (script : List O) (answer : StoreReply V) (kept : Bool) (old new : List ℕ) → kept ≡ is_done answer
      → Runs stands step script answer old new → ScriptMeans stands step script old kept answer new
  run_means script answer kept old new where_done runs = record {
    replies = λ first stand.
        let last = runs.comes first stand in
        sym (ap (λ (run : Run V X). (outcome_from first run).0) last.1 ∙ outcome_reply first last.0 answer);
    kept_where_done = where_done;
    leaves = λ is_kept first stand.
        let last = runs.comes first stand in
        subst (λ (run : Run V X). stands new (outcome_from first run).1) (sym last.1)
        (outcome_left new first last.0 answer (sym where_done ∙ is_kept) last.2);
  }

-- a run that is not done leaves the state
pub run_stays : {V X : Type 0} (first : X) (run : Run V X) → is_done (outcome_from first run).0 ≡ false → (outcome_from first run).1 ≡ first
run_stays first (Ends values last) is = cc
run_stays first (Stops stop) is = refl

-- what a done script leaves is good
done_good : {V : Type 0} (answer : StoreReply V) (P : Type 0) → is_done answer ≡ true → IfDone answer P → P
done_good (reply.Done values) P is p = p
done_good (reply.Declined k) P is p = absurd (cc)
done_good (reply.Full k) P is p = absurd (cc)

module _ {O V X : Type 0} (stands : List ℕ → X → Type 0) (step : O → X → Step V X) where
  -- words whose script is not kept stand for the interpreter's state as they are
  pub refused_stands : (script : List O) (words : List ℕ) (kept : Bool) (answer : StoreReply V) (left : List ℕ)
      → ScriptMeans stands step script words kept answer left → kept ≡ false
      → (first : X) → stands words first → stands words (outcome_of step script first).1
  refused_stands script words kept answer left means is_reverted first stand =
      let not_done : is_done (outcome_of step script first).0 ≡ false =
      sym (ap is_done (means.replies first stand)) ∙ sym means.kept_where_done ∙ is_reverted in
      subst (λ z. stands words z) (sym (run_stays first (run_from step 1 script first) not_done)) stand

  module _ {W S F : Type 0} (words : AnyWords W S F) (shapes : Shapes S) (shape : S) (v w : W) (e : words.shape v ≡ shape) where
    -- a run that began with no event, on each list that fits
    pub fresh_means : words.trace v ≡ [] → (script : List O) (answer : StoreReply V) (kept : Bool) → kept ≡ is_done answer
        → LeadsTo words shapes v w (Runs stands step script answer) → (s : List ℕ)
        → Fits (shapes.word_count shape) (shapes.good shape) (words.trace w) s
        → ScriptMeans stands step script s kept answer (after (words.trace w) s)
    fresh_means fresh script answer kept where_done runs s fit =
        run_means stands step script answer kept s (after (words.trace w) s) where_done
        (leads_from_start words shapes v w (Runs stands step script answer) fresh runs s
        (subst (λ z. Fits (shapes.word_count z) (shapes.good z) (words.trace w) s) (sym e) fit))

module _ {W S F X : Type 0} (words : AnyWords W S F) (shapes : Shapes S) (stands : S → List ℕ → X → Type 0) (shape : S) where
  -- before any event every state stands for some
  pub fresh_stands : ((z : S) (s : List ℕ) → shapes.good z s → StandsForSome (stands z) s) → (w : W) → words.trace w ≡ [] → words.shape w ≡ shape
      → InEachState words shapes w (StandsForSome (stands shape))
  fresh_stands good_stand w fresh e = record {
    at = λ s fit. good_stand shape _ (subst (λ z. shapes.good z (after (words.trace w) s)) e ((each_fresh _ _ (words.trace w) fresh).at s fit));
  }

  -- what a script leaves is good, if it is kept
  pub fresh_leaves : {V : Type 0} → ((z : S) (s : List ℕ) → StandsForSome (stands z) s → shapes.good z s) → (v w : W) → words.shape v ≡ shape
      → (answer : StoreReply V) (kept : Bool) → kept ≡ is_done answer → kept ≡ true → words.shape w ≡ words.shape v
      → IfDone answer (InEachState words shapes w (StandsForSome (stands shape))) → (s : List ℕ)
      → Fits (shapes.word_count shape) (shapes.good shape) (words.trace w) s → shapes.good shape (after (words.trace w) s)
  fresh_leaves stand_good v w e answer kept where_done is_kept same stand s fit =
      stand_good shape _ ((done_good answer (InEachState words shapes w (StandsForSome (stands shape))) (sym where_done ∙ is_kept) stand).at s
      (subst (λ z. Fits (shapes.word_count z) (shapes.good z) (words.trace w) s) (sym (same ∙ e)) fit))
