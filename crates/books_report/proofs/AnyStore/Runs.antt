-- A run of operations, from any of them on.
use Rattle.books_report.proofs.Common.{◌≡◌, ◌≢◌, ℕ, ◌+◌, List, [], ◌∷◌, ◌++◌, refl, sym, ap, append_assoc, append-nil, ◌∙◌, StoreReply, run_with, Step, Run}
use Rattle.books_report.proofs.Common.{after_step, after_value, outcome_from, run_from, Ends, Stops, Gives, Absent, Full}
use Rattle.books_report.specs.declared.stores.reply.StoreReply.TheVariants as reply

module _ {V X : Type 0} where
  -- values in front of those of a run
  abbrev pub after_values : List V → Run V X → Run V X
  after_values values (Ends more state) = Ends (values ++ more) state
  after_values values (Stops stop) = Stops stop

  -- one more value in front
  after_values-push : (vs : List V) (v : V) (run : Run V X) → after_values (vs ++ v ∷ []) run ≡ after_values vs (after_value v run)
  after_values-push vs v (Ends more state) = ap (λ values. Ends values state) (append_assoc vs (v ∷ []) more)
  after_values-push vs v (Stops stop) = refl

  -- no values in front
  pub after_values-none : (run : Run V X) → after_values [] run ≡ run
  after_values-none (Ends more state) = refl
  after_values-none (Stops stop) = refl

  -- a run that a reply tells has this reply
  pub replies : (before after : X) {run : Run V X} (answer : StoreReply V) → run ≡ run_with answer after → answer ≡ (outcome_from before run).0
  replies before after (reply.Done values) is = sym (ap (λ r. (outcome_from before r).0) is)
  replies before after (reply.Declined k) is = sym (ap (λ r. (outcome_from before r).0) is)
  replies before after (reply.Full k) is = sym (ap (λ r. (outcome_from before r).0) is)

  -- if it is done the run leaves the state after it, and else the one before
  pub done_leaves : (before : X) {after : X} {run : Run V X} {answer : StoreReply V} (values : List V) → answer ≡ reply.Done values
      → run ≡ run_with answer after → after ≡ (outcome_from before run).1
  done_leaves before {after} values done is =
      sym (ap (λ r. (outcome_from before r).1) (is ∙ ap (λ r. run_with r after) done))

  pub refused_leaves : {before : X} (after : X) {run : Run V X} (answer : StoreReply V) → ((values : List V) → answer ≢ reply.Done values)
      → run ≡ run_with answer after → before ≡ (outcome_from before run).1
  refused_leaves after (reply.Done values) refused is = absurd (refused values refl)
  refused_leaves {before} after (reply.Declined k) refused is = sym (ap (λ r. (outcome_from before r).1) is)
  refused_leaves {before} after (reply.Full k) refused is = sym (ap (λ r. (outcome_from before r).1) is)

module _ {O V X : Type 0} (step : O → X → Step V X) where
  module _ (op : O) (ops rest : List O) (next : ops ≡ op ∷ rest) (whole : Run V X) (values : List V) (k : ℕ) (state : X)
      (so_far : after_values values (run_from step k ops state) ≡ whole) where
    -- the run of what is left begins with the step of its first operation
    from_step : {s : Step V X} → step op state ≡ s → after_values values (after_step k s (λ next. run_from step (k + 1) rest next)) ≡ whole
    from_step {s} is =
        sym (ap (λ ops. after_values values (run_from step k ops state)) next
        ∙ ap (λ s. after_values values (after_step k s (λ next. run_from step (k + 1) rest next))) is)
        ∙ so_far

    -- an operation that gives a value leads on
    pub goes_on : (v : V) (after : X) → step op state ≡ Gives v after → after_values (values ++ v ∷ []) (run_from step (k + 1) rest after) ≡ whole
    goes_on v after is = after_values-push values v _ ∙ from_step is

    -- an operation that is refused stops the run
    pub is_absent : step op state ≡ Absent → whole ≡ Stops (reply.Declined k)
    is_absent is = sym (from_step is)

    pub is_full : step op state ≡ Full → whole ≡ Stops (reply.Full k)
    is_full is = sym (from_step is)

  -- the run ends if no operation is left
  pub ends : (ops : List O) → ops ≡ [] → (whole : Run V X) (values : List V) (k : ℕ) (state : X)
      → after_values values (run_from step k ops state) ≡ whole → whole ≡ Ends values state
  ends ops none whole values k state so_far =
      sym so_far ∙ ap (λ ops. after_values values (run_from step k ops state)) none ∙ ap (λ values. Ends values state) (append-nil values)
