-- A step on a word of another rule keeps the value invariant.
use Rattle.values_rule.proofs.Common.{◌≡◌, ◌≢◌, ℕ, ◌≤◌, true, inl, inr, ⊎_elim, List, length, Some, None, IsSome, slice_get, slice_index, slice_set, sym, ap}
use Rattle.values_rule.proofs.Common.{◌∙◌, subst, arith, Abandoned, Entry, Item, View, Idle, is_attempt, is_open, IsIn, lock_of_word, has, Knows, Trace}
use Rattle.values_rule.proofs.Common.{IsLegalTrace, Writes, Touches, value_after, Notes, number, LocksHold, oldest, knew_of, item_of_attempt, now_of}
use Rattle.values_rule.proofs.Common.{SameValues, SameValueWords, AreCauses, ValuesHold}
use Rattle.values_rule.specs.Keeping.{AsideKeeps}
use Rattle.values_rule.proofs.Parts.Asides.{OwnAttempt}
use Rattle.values_rule.proofs.Parts.Frames.{calls_same}
use Rattle.values_rule.proofs.Parts.Moves.{moves}

-- the same attempts of the same call
pub same_attempt : (v w : View) → w.who ≡ v.who → w.seats ≡ v.seats → w.seen ≡ v.seen
    → w.call ≡ v.call → w.abandoned ≡ v.abandoned → (z : Item) → OwnAttempt w z → OwnAttempt v z
same_attempt v w who seats seen call abandoned z t = record {
  turn = t.turn;
  attempt = t.attempt;
  at = subst (λ (l : List Abandoned). slice_get l t.turn ≡ Some t.attempt) abandoned t.at;
  is = ap (λ (l : List ℕ). item_of_attempt (number v) v.call l t.turn t.attempt)
      (sym (ap (λ (m : ℕ). knew_of m w.seen) seats ∙ ap (λ (l : List Entry). knew_of v.seats l) seen))
      ∙ (ap (λ (m : ℕ). item_of_attempt (number v) m (knew_of w.seats w.seen) t.turn t.attempt) (sym call)
      ∙ (ap (λ (m : ℕ). item_of_attempt m w.call (knew_of w.seats w.seen) t.turn t.attempt) (sym (ap (λ (l : List ℕ). slice_index l 0) who)) ∙ t.is));
}

causes_later : (n j stamp later floor : ℕ) (attempts : List Abandoned) → stamp ≤ later → AreCauses n j stamp floor attempts → AreCauses n j later floor attempts
causes_later n j stamp later floor attempts le c = record {
  fronts = c.fronts;
  bounded = λ x i. let b = c.bounded x i in let lt = b.3 in (b.0, b.1, b.2, omega arith);
  differ = c.differ;
}

module _ (good : List ℕ → Type 0) (n : ℕ) (base ws ws' : List ℕ) (vs : List View) (id : ℕ) (v w : View)
    (h : LocksHold n base ws vs) (q : ValuesHold good n base ws vs) (me : Knows vs id v) (s : SameValues v w) (words : SameValueWords n ws ws') where
  went : is_attempt w.phase ≡ true → is_attempt v.phase ≡ true
  went t = ap is_attempt (sym s.phase) ∙ t

  opened : is_open w.phase ≡ true → is_open v.phase ≡ true
  opened t = ap is_open (sym s.phase) ∙ t

  begun : w.phase ≢ Idle → v.phase ≢ Idle
  begun t e = t (s.phase ∙ e)

  pub same : ValuesHold good n base ws' (slice_set vs id w)
  same = moves good n base ws ws' vs id v w h q me
      (record {
        serial = words.serial;
        versions = words.versions;
        who = s.who;
        seen = s.seen;
        calls = calls_same vs id v w me s.seen n ws ws' s.who s.joined s.call begun opened words.calls words.commits
            (λ i u other t. h.numbers_below other i u t) q.calls;
        attempts_to = λ z p t. (opened p, same_attempt v w s.who s.seats s.seen s.call s.abandoned z t);
        attempts_from = λ z p t. (ap is_open s.phase ∙ p, same_attempt w v (sym s.who) (sym s.seats) (sym s.seen) (sym s.call) (sym s.abandoned) z t);
        floor = λ p. s.floor ∙ (q.floor.floor id v me (opened p) ∙ ap (λ (l : List Entry). length l) (sym s.seen));
        causes = λ j one busy. subst (λ (m : ℕ). AreCauses n j w.stamp m w.abandoned) (sym s.floor)
            (subst (λ (l : List Abandoned). AreCauses n j w.stamp v.floor l) (sym s.abandoned)
            (causes_later n j v.stamp w.stamp v.floor v.abandoned (s.stamp busy) (q.floor.causes id j v me (sym s.who ∙ one) (begun busy))));
      })
      (record {
        owed = λ k. ap (λ (l : List ℕ). has k l) s.owed;
        held = λ k y t p. (s.phase ∙ p.0, s.writes k p.1, subst (λ (l : List (ℕ × ℕ)). IsIn (k, y) l) (sym s.uses) p.2);
        granted = λ k y b m. let g = q.uses.granted id k y v me (went b) (subst (λ (l : List (ℕ × ℕ)). IsIn (k, y) l) s.uses m) in (s.grants k g.0, g.1);
        once = λ k y z a b. q.uses.once id k y z v me (subst (λ (l : List (ℕ × ℕ)). IsIn (k, y) l) s.uses a)
            (subst (λ (l : List (ℕ × ℕ)). IsIn (k, z) l) s.uses b);
        covered = λ a b t. let c = q.uses.covered id a v me (went b) (subst (λ (l : Trace). Touches l a) s.trace t) in
            (c.0, subst (λ (l : List (ℕ × ℕ)). IsIn (lock_of_word a, c.0) l) (sym s.uses) c.1);
      })
      (record {
        noted = λ a o t. let c = q.undo.noted id a o v me (subst (λ (l : Notes). oldest a l ≡ Some o) s.undo t) in (c.0, s.writes (lock_of_word a) c.1, c.2);
        unnoted = λ a lt t. inl (subst (λ (l : Notes). oldest a l ≡ None) s.undo t, words.values a);
        foreign = λ a lt away. words.values a;
      })
      (record {
        granted = λ a b t. let c = q.trace.granted id a v me (went b) (subst (λ (l : Trace). Touches l a) s.trace t) in (c.0, s.grants (lock_of_word a) c.1);
        legal = λ b. subst (λ (l : Trace). IsLegalTrace l (now_of n base ws vs)) (sym s.trace) (q.trace.legal id v me (went b));
        undo_written = λ a o b t. subst (λ (l : Trace). Writes l a) (sym s.trace)
            (q.trace.undo_written id a o v me (went b) (subst (λ (l : Notes). oldest a l ≡ Some o) s.undo t));
        written_noted = λ a runs t. subst (λ (l : Notes). IsSome (oldest a l)) (sym s.undo)
            (q.trace.written_noted id a v me (sym s.phase ∙ runs) (subst (λ (l : Trace). Writes l a) s.trace t));
        last_stands = λ a y runs t. words.values a
            ∙ q.trace.last_stands id a y v me (sym s.phase ∙ runs) (subst (λ (l : Trace). value_after l a None ≡ Some y) s.trace t);
        rested = λ t. s.undo ∙ q.trace.rested id v me (⊎_elim (λ z. inl (sym s.phase ∙ z)) (λ z. inr (sym s.phase ∙ z)) t);
      })

pub aside_values : (good : List ℕ → Type 0) → AsideKeeps good
aside_values good n base ws ws' vs id v w h q me s words = same good n base ws ws' vs id v w h q me s words
