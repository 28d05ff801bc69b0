-- The giving up of locks outside an attempt, the end of a call, and another attempt keep the value invariant.
use Rattle.values_rule.proofs.Common.{◌≡◌, ℕ, true, false, inl, ⊎_elim, List, [], length, Some, None, slice_set, refl, sym, ap, ◌∙◌, subst, Abandoned, Entry}
use Rattle.values_rule.proofs.Common.{View, Running, is_attempt, is_open, IsIn, has, Knows, Notes, LocksHold, oldest, now_of, SameValueWords, AreCauses}
use Rattle.values_rule.proofs.Common.{ValuesHold}
use Rattle.values_rule.proofs.Members.{none_in}
use Rattle.values_rule.proofs.Notes.{oldest-nil}
use Rattle.values_rule.proofs.Traces.{fresh_trace}
use Rattle.values_rule.specs.Keeping.{IsQuiet, QuietKeeps, RestartKeeps}
use Rattle.values_rule.proofs.Told.Excludes.{not_released}
use Rattle.values_rule.proofs.Phases.{open_begun}
use Rattle.values_rule.proofs.Parts.Frames.{calls_same}
use Rattle.values_rule.proofs.Parts.Moves.{moves}
use Rattle.values_rule.proofs.StepKinds.Same.{same_attempt}

module _ (good : List ℕ → Type 0) (n : ℕ) (base ws ws' : List ℕ) (vs : List View) (id : ℕ) (v w : View)
    (h : LocksHold n base ws vs) (q : ValuesHold good n base ws vs) (me : Knows vs id v) (s : IsQuiet v w) (words : SameValueWords n ws ws') where
  no_attempt : {A : Type 0} → is_attempt w.phase ≡ true → A
  no_attempt t = absurd (let z : true ≡ false = sym t ∙ s.over in cc)

  opened : is_open w.phase ≡ true → is_open v.phase ≡ true
  opened t = sym s.as_open ∙ t

  pub quiets : ValuesHold good n base ws' (slice_set vs id w)
  quiets = moves good n base ws ws' vs id v w h q me
      (record {
        serial = words.serial;
        versions = words.versions;
        who = s.who;
        seen = s.seen;
        calls = calls_same vs id v w me s.seen n ws ws' s.who s.joined s.call s.begun opened words.calls words.commits
            (λ i u other t. h.numbers_below other i u t) q.calls;
        attempts_to = λ z p t. (opened p, same_attempt v w s.who s.seats s.seen s.call s.abandoned z t);
        attempts_from = λ z p t. (s.as_open ∙ p, same_attempt w v (sym s.who) (sym s.seats) (sym s.seen) (sym s.call) (sym s.abandoned) z t);
        floor = λ p. s.floor ∙ (q.floor.floor id v me (opened p) ∙ ap (λ (l : List Entry). length l) (sym s.seen));
        causes = λ j one busy. subst (λ (m : ℕ). AreCauses n j m w.floor w.abandoned) (sym (s.stamp busy))
            (subst (λ (m : ℕ). AreCauses n j v.stamp m w.abandoned) (sym s.floor)
            (subst (λ (l : List Abandoned). AreCauses n j v.stamp v.floor l) (sym s.abandoned)
            (q.floor.causes id j v me (sym s.who ∙ one) (s.begun busy))));
      })
      (record {
        owed = λ k. ap (λ (l : List ℕ). has k l) s.owed;
        held = λ k y t p. let d = s.held k t (p.0, p.1) in (d.0, d.1, subst (λ (l : List (ℕ × ℕ)). IsIn (k, y) l) (sym s.uses) p.2);
        granted = λ k y b m. no_attempt b;
        once = λ k y z a b. q.uses.once id k y z v me (subst (λ (l : List (ℕ × ℕ)). IsIn (k, y) l) s.uses a)
            (subst (λ (l : List (ℕ × ℕ)). IsIn (k, z) l) s.uses b);
        covered = λ a b t. no_attempt b;
      })
      (record {
        noted = λ a o t. absurd (let z : None ≡ Some o = sym (oldest-nil a) ∙ (ap (λ (l : Notes). oldest a l) (sym s.undone) ∙ t) in cc);
        unnoted = λ a lt t. inl (ap (λ (l : Notes). oldest a l) s.was_undone ∙ oldest-nil a, words.values a);
        foreign = λ a lt away. words.values a;
      })
      (record {
        granted = λ a b t. no_attempt b;
        legal = λ b. no_attempt b;
        undo_written = λ a o b t. no_attempt b;
        written_noted = λ a runs t. no_attempt (ap is_attempt runs);
        last_stands = λ a y runs t. no_attempt (ap is_attempt runs);
        rested = λ t. s.undone;
      })

pub quiet_values : (good : List ℕ → Type 0) → QuietKeeps good
quiet_values good n base ws ws' vs id v w h q me s words = quiets good n base ws ws' vs id v w h q me s words

pub restart_values : (good : List ℕ → Type 0) → RestartKeeps good
restart_values good n base ws vs id v h q me yields undone =
    let w : View = record v { phase = Running; trace = []; uses = [] } in
    let was_open : is_open v.phase ≡ true = ap is_open yields in
    moves good n base ws ws vs id v w h q me
    (record {
      serial = refl;
      versions = λ k. refl;
      who = refl;
      seen = refl;
      calls = calls_same vs id v w me refl n ws ws refl refl refl (λ b. open_begun v.phase was_open)
          (λ p. was_open) (λ i lt. refl) (λ i lt. refl) (λ i u other t. h.numbers_below other i u t) q.calls;
      attempts_to = λ z p t. (was_open, t);
      attempts_from = λ z p t. (refl, t);
      floor = λ p. q.floor.floor id v me was_open;
      causes = λ j one busy. q.floor.causes id j v me one (open_begun v.phase was_open);
    })
    (record {
      owed = λ k. refl;
      held = λ k y t p. absurd (not_released v.phase was_open p.0);
      granted = λ k y b m. absurd (none_in (k, y) m);
      once = λ k y z a b. absurd (none_in (k, y) a);
      covered = λ a b t. absurd (⊎_elim (λ e. cc) (λ e. cc) t.2);
    })
    (record {
      noted = λ a o t. q.undo.noted id a o v me t;
      unnoted = λ a lt t. inl (t, refl);
      foreign = λ a lt away. refl;
    })
    (fresh_trace n base (now_of n base ws vs) ws w refl undone refl)
