-- Which words a call asked for: those that its attempts touch, and those at which one of them gave way.
use Rattle.txn_commit.proofs.Common.{◌≡◌, ℕ, suc, ◌+◌, Bool, true, ◌⊎◌, inl, inr, ⊎_elim, List, [], ◌∷◌, ◌++◌, length, slice_get, sym, ap, ◌∙◌, subst, arith}
use Rattle.txn_commit.proofs.Common.{Abandoned, Entry, Cause, Read, View, IsIn, lock_of_word, has, has_pair, Trace, differ, has-nil, entry_of, in_first, Asks}
use Rattle.txn_commit.proofs.Common.{MeetsAndYields, WentOn, GaveWayTo, LeavesFootprint, AsksItsFootprint}
use Rattle.values_rule.proofs.Common.{Touches}
use Rattle.std.proofs.lemmas.List.{append_assoc}
use Rattle.history_model.proofs.Traces.EndEvents.{touches_first}
use Rattle.stamps_rule.proofs.LockKinds.{pair-append_old, pair-append_last}
use Rattle.txn_commit.specs.Transactions.{IsFootprint}

-- what stands at a place of the second part
get_second : {A : Type 0} (xs ys : List A) (i : ℕ) → slice_get (xs ++ ys) (length xs + i) ≡ slice_get ys i
get_second [] ys i = ap (λ (k : ℕ). slice_get ys k) (none i) where
  none : (i : ℕ) → 0 + i ≡ i
  none i = omega arith
get_second (x ∷ xs) ys i = ap (λ (k : ℕ). slice_get (x ∷ (xs ++ ys)) k) (later (length xs) i) ∙ get_second xs ys i where
  later : (n i : ℕ) → suc n + i ≡ suc (n + i)
  later n i = omega arith

-- what stands at the end of a list
last_in : {A : Type 0} (xs : List A) (x : A) → IsIn x (xs ++ x ∷ [])
last_in xs x = (length xs + 0, get_second xs (x ∷ []) 0)

touches_read_last : (t : Trace) (a x : ℕ) → Touches (t ++ Read a x ∷ []) a
touches_read_last t a x = (length t + 0, x, inl (get_second t (Read a x ∷ []) 0))

-- no word was asked for
pub asked_none : (v : View) → v.asked ≡ [] → LeavesFootprint v
asked_none v none a t = absurd (differ (has a []) (subst (λ (l : List ℕ). has a l ≡ true) none t) (has-nil a))

-- from one view of a call to a later one
footprint_on : (old new : View)
    → ((a : ℕ) → Touches old.trace a → IsFootprint new.trace new.abandoned new.meetings a)
    → ((x : Abandoned) → IsIn x old.abandoned → IsIn x new.abandoned)
    → ((k j : ℕ) → has_pair k j old.meetings ≡ true → has_pair k j new.meetings ≡ true)
    → ((a : ℕ) → has a new.asked ≡ true → IsFootprint new.trace new.abandoned new.meetings a ⊎ (has a old.asked ≡ true))
    → LeavesFootprint old → LeavesFootprint new
footprint_on old new touched kept met asked before a t = ⊎_elim
    (λ z. z)
    (λ z. ⊎_elim (touched a) (λ x. inr (x.0, kept x.0 x.1, ⊎_elim inl (λ m. inr (met (lock_of_word a) x.0.cause.seat m)) x.2)) (before a z))
    (asked a t)

-- nothing of this changed
pub footprint_same : (old new : View) → new.trace ≡ old.trace → new.abandoned ≡ old.abandoned → new.meetings ≡ old.meetings → new.asked ≡ old.asked
    → LeavesFootprint old → LeavesFootprint new
footprint_same old new trace abandoned meetings asked = footprint_on old new
    (λ a k. inl (subst (λ (t : Trace). Touches t a) (sym trace) k))
    (λ x i. subst (λ (l : List Abandoned). IsIn x l) (sym abandoned) i)
    (λ k j m. subst (λ (l : List (ℕ × ℕ)). has_pair k j l ≡ true) (sym meetings) m)
    (λ a t. inr (subst (λ (l : List ℕ). has a l ≡ true) asked t))

-- the attempt did more to words
pub footprint_events : (old new : View) (more : Trace) → new.trace ≡ old.trace ++ more → new.abandoned ≡ old.abandoned
    → new.meetings ≡ old.meetings → new.asked ≡ old.asked
    → LeavesFootprint old → LeavesFootprint new
footprint_events old new more trace abandoned meetings asked = footprint_on old new
    (λ a k. inl (subst (λ (t : Trace). Touches t a) (sym trace) (touches_first old.trace more a k)))
    (λ x i. subst (λ (l : List Abandoned). IsIn x l) (sym abandoned) i)
    (λ k j m. subst (λ (l : List (ℕ × ℕ)). has_pair k j l ≡ true) (sym meetings) m)
    (λ a t. inr (subst (λ (l : List ℕ). has a l ≡ true) asked t))

met_more : (a : ℕ) (old new : View) → Asks a old new → (k j : ℕ) → has_pair k j old.meetings ≡ true → has_pair k j new.meetings ≡ true
met_more a old new asks k j m = subst (λ (l : List (ℕ × ℕ)). has_pair k j l ≡ true) (sym asks.meetings.1) (pair-append_old k j old.meetings asks.meetings.0 m)

-- it asked for a word's lock, and loaded the word
pub footprint_loaded : (a x : ℕ) (old mid new : View) → Asks a old mid → WentOn old mid
    → new ≡ record mid { trace = mid.trace ++ Read a x ∷ []; uses = new.uses }
    → LeavesFootprint old → LeavesFootprint new
footprint_loaded a x old mid new asks went event =
    subst (λ (v : View). LeavesFootprint old → LeavesFootprint v) (sym event)
    (footprint_on old (record mid { trace = mid.trace ++ Read a x ∷ []; uses = new.uses })
    (λ b k. inl (touches_first mid.trace (Read a x ∷ []) b (subst (λ (t : Trace). Touches t b) (ap (λ (v : View). v.trace) (sym asks.rest)) k)))
    (λ y i. subst (λ (l : List Abandoned). IsIn y l) (ap (λ (v : View). v.abandoned) (sym went)) i)
    (met_more a old mid asks)
    (λ b t. ⊎_elim
    (λ (e : b ≡ a). inl (inl (subst (λ (y : ℕ). Touches (mid.trace ++ Read a x ∷ []) y) (sym e) (touches_read_last mid.trace a x))))
    inr ((asks.asked b).1 t)))

-- it asked for a word's lock, and gave way there
pub footprint_yields : (n a : ℕ) (cause : Cause) (old new : View) → Asks a old new → GaveWayTo n cause old new
    → has_pair (lock_of_word a) cause.seat new.meetings ≡ true
    → LeavesFootprint old → LeavesFootprint new
footprint_yields n a cause old new asks gave met =
    let attempt : Abandoned = gave.abandoned.0 in
    let there : IsIn attempt new.abandoned = subst (λ (l : List Abandoned). IsIn attempt l) (sym gave.abandoned.1) (last_in old.abandoned attempt) in
    footprint_on old new
    (λ b k. inl (subst (λ (t : Trace). Touches t b) (ap (λ (v : View). v.trace) (sym asks.rest)) k))
    (λ y i. subst (λ (l : List Abandoned). IsIn y l) (sym gave.abandoned.1) (in_first old.abandoned (attempt ∷ []) y i))
    (met_more a old new asks)
    (λ b t. ⊎_elim
    (λ (e : b ≡ a). inl (inr (
      attempt,
      there,
      inr (subst (λ (k : ℕ). has_pair (lock_of_word k) attempt.cause.seat new.meetings ≡ true) (sym e)
          (subst (λ (c : Cause). has_pair (lock_of_word a) c.seat new.meetings ≡ true) (sym gave.abandoned.2) met)),
    )))
    inr ((asks.asked b).1 t))

-- another attempt begins, if the last gave way
pub footprint_restarts : (n : ℕ) (cause : Cause) (began old new : View) → GaveWayTo n cause began old
    → new.abandoned ≡ old.abandoned → new.meetings ≡ old.meetings → new.asked ≡ old.asked
    → LeavesFootprint old → LeavesFootprint new
footprint_restarts n cause began old new gave abandoned meetings asked =
    let attempt : Abandoned = gave.abandoned.0 in
    let there : IsIn attempt new.abandoned =
    subst (λ (l : List Abandoned). IsIn attempt l) (sym (abandoned ∙ gave.abandoned.1)) (last_in began.abandoned attempt) in
    footprint_on old new
    (λ a k. inr (attempt, there, inl (subst (λ (t : Trace). Touches t a) (sym gave.abandoned.3) k)))
    (λ x i. subst (λ (l : List Abandoned). IsIn x l) (sym abandoned) i)
    (λ k j m. subst (λ (l : List (ℕ × ℕ)). has_pair k j l ≡ true) (sym meetings) m)
    (λ a t. inr (subst (λ (l : List ℕ). has a l ≡ true) asked t))

-- the meeting at which an attempt gave way is the last
pub met_cause : (k : ℕ) (waited : List (ℕ × ℕ)) (cause : Cause) (old new : View)
    → MeetsAndYields (waited ++ (k, cause.seat) ∷ []) cause old new → has_pair k cause.seat new.meetings ≡ true
met_cause k waited cause old new g = subst (λ (l : List (ℕ × ℕ)). has_pair k cause.seat l ≡ true)
    (append_assoc old.meetings waited ((k, cause.seat) ∷ []) ∙ ap (λ (v : View). v.meetings) (sym g.gave_way))
    (pair-append_last k cause.seat (old.meetings ++ waited))

-- the attempt was committed
pub commits_footprint : (kept : Bool) (history : List Entry) (old new : View)
    → new.seen ≡ history ++ entry_of kept old ∷ [] → new.asked ≡ old.asked → new.meetings ≡ old.meetings
    → LeavesFootprint old → AsksItsFootprint new
commits_footprint kept history old new seen asked meetings before = record {
  earlier = history;
  entry = entry_of kept old;
  last = seen;
  asked = λ a t. subst (λ (l : List (ℕ × ℕ)). IsFootprint old.trace old.abandoned l a) (sym meetings)
      (before a (subst (λ (l : List ℕ). has a l ≡ true) asked t));
}

-- and then only its locks were given up
pub still_its_footprint : (old new : View) → new.seen ≡ old.seen → new.asked ≡ old.asked → new.meetings ≡ old.meetings
    → AsksItsFootprint old → AsksItsFootprint new
still_its_footprint old new seen asked meetings f = record {
  earlier = f.earlier;
  entry = f.entry;
  last = seen ∙ f.last;
  asked = λ a t. subst (λ (l : List (ℕ × ℕ)). IsFootprint f.entry.trace f.entry.abandoned l a) (sym meetings)
      (f.asked a (subst (λ (l : List ℕ). has a l ≡ true) asked t));
}
