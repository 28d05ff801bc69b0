-- What several turns of asking for a lock come to.
use Rattle.lock_or_yield.proofs.Common.{◌≡◌, ℕ, zero, suc, ◌+◌, ◌<◌, true, ◌⊎◌, inl, inr, ⊎_elim, List, [], ◌∷◌, ◌++◌, None, length, refl, sym, ap, ◌∙◌, subst}
use Rattle.lock_or_yield.proofs.Common.{arith, append-nil, Cause, View, IsIn, lock_of_word, number, AreRestartsBounded, GaveWay, DeskView, RuleHolds, Intent}
use Rattle.lock_or_yield.proofs.Common.{GainsOn, Asks, draws_once, with_locks, MeetsSome, MeetsAndYields, WentOn, AsksTo, ComesTo, TurnsOnce}
use Rattle.std.proofs.Common.{length-append}
use Rattle.std.proofs.lemmas.List.{append_assoc}
use Rattle.history_model.specs.declared.shape.Shape.{Ghosts as Shapes}
use Rattle.lock_or_yield.specs.declared.want.Got.{Got}
use Rattle.lock_or_yield.specs.Turns.{MeetsAndJudges}
use Rattle.lock_or_yield.specs.Intents.{AsksSince, AsksUntilHeld, IsStepTo, TakesTurn}
use Rattle.lock_or_yield.proofs.Steps.{gains_none, gains_twice}
use Rattle.lock_or_yield.proofs.Turning.{changed, rest_of, gains_nothing, turn_clear}
use Rattle.lock_or_yield.specs.declared.turn.Intent.TheVariants as intent
use Rattle.lock_or_yield.specs.declared.turn.Tried.TheVariants as tried
use Rattle.lock_or_yield.specs.declared.want.Got.TheVariants as got

in_either : (xs ys : List (ℕ × ℕ)) (p : ℕ × ℕ) → IsIn p (xs ++ ys) → IsIn p xs ⊎ IsIn p ys
in_either [] ys p h = inr h
in_either (x ∷ xs) ys p (zero, e) = inl (0, e)
in_either (x ∷ xs) ys p (suc i, e) = ⊎_elim (λ (t : IsIn p xs). inl (suc t.0, t.1)) (λ (t : IsIn p ys). inr t) (in_either xs ys p (i, e))

both_gained : (old mid new m w : List (ℕ × ℕ)) → mid ≡ old ++ m → new ≡ mid ++ w → new ≡ old ++ (m ++ w)
both_gained old mid new m w e f = f ∙ (ap (λ (l : List (ℕ × ℕ)). l ++ w) e ∙ append_assoc old m w)

gains_on_twice : (k : ℕ) (old mid new : List (ℕ × ℕ)) → GainsOn k old mid → GainsOn k mid new → GainsOn k old new
gains_on_twice k old mid new f s = (
  f.0 ++ s.0,
  both_gained old mid new f.0 s.0 f.1 s.1,
  λ l j is. ⊎_elim (λ (t : IsIn (l, j) f.0). f.2 l j t) (λ (t : IsIn (l, j) s.0). s.2 l j t) (in_either f.0 s.0 (l, j) is),
)

-- nothing was gained in two turns if nothing was gained in each
none_twice : (old mid new m w : List (ℕ × ℕ)) → mid ≡ old ++ m → new ≡ mid ++ w → new ≡ old → (mid ≡ old) × (new ≡ mid)
none_twice old mid new m w e f same =
    let all : length new ≡ length old = ap (λ (l : List (ℕ × ℕ)). length l) same in
    let first : length mid ≡ length old + length m = ap (λ (l : List (ℕ × ℕ)). length l) e ∙ length-append old m in
    let second : length new ≡ length mid + length w = ap (λ (l : List (ℕ × ℕ)). length l) f ∙ length-append mid w in
    let none : m ≡ [] = no_length m (omega arith) in
    let back : mid ≡ old = e ∙ (ap (λ (l : List (ℕ × ℕ)). old ++ l) none ∙ append-nil old) in (back, same ∙ sym back) where
      no_length : (l : List (ℕ × ℕ)) → length l ≡ 0 → l ≡ []
      no_length [] e = refl
      no_length (p ∷ l) e = absurd (omega arith)

-- before the first turn
pub asks_none : (a : ℕ) (v : View) → Asks a v v
asks_none a v = record {
  rest = refl;
  stamped = λ h. refl;
  unmet = λ h. (refl, refl);
  drawn_once = refl;
  asked = gains_none a v.asked;
  meetings = gains_nothing (lock_of_word a) v.meetings;
  grants = λ k. (λ t. t, λ t. t);
}

pub asks_more : (a : ℕ) (old mid new : View) → Asks a old mid → Asks a mid new → Asks a old new
asks_more a old mid new f s = record {
  rest = rest_of old new (changed (changed old mid) new) (s.rest ∙ ap (λ (v : View). changed v new) f.rest) refl;
  stamped = λ h. s.stamped (subst (λ (x : ℕ). 0 < x) (sym (f.stamped h)) h) ∙ f.stamped h;
  unmet = λ e. let none = none_twice old.meetings mid.meetings new.meetings f.meetings.0 s.meetings.0 f.meetings.1 s.meetings.1 e in
      ((s.unmet none.1).0 ∙ (f.unmet none.0).0, (s.unmet none.1).1 ∙ (f.unmet none.0).1);
  drawn_once = s.drawn_once ∙ f.drawn_once;
  asked = gains_twice a old.asked mid.asked new.asked f.asked s.asked;
  meetings = gains_on_twice (lock_of_word a) old.meetings mid.meetings new.meetings f.meetings s.meetings;
  grants = λ k. (λ t. (s.grants k).0 ((f.grants k).0 t), λ t. (s.grants k).1 ((f.grants k).1 t));
}

pub locks_none : (i : Intent) (k : ℕ) (v : View) → AsksTo i k v v
locks_none intent.Read k v = record { claims = refl; scans = refl; bits = λ l n. refl; reads = λ l n. refl }
locks_none intent.Write k v = record { bits = refl; reads = refl; claims = λ l n. refl; scans = λ l j n. refl }

pub locks_more : (i : Intent) (k : ℕ) (old mid new : View) → AsksTo i k old mid → AsksTo i k mid new → AsksTo i k old new
locks_more intent.Read k old mid new f s = record {
  claims = s.claims ∙ f.claims;
  scans = s.scans ∙ f.scans;
  bits = λ l n. s.bits l n ∙ f.bits l n;
  reads = λ l n. s.reads l n ∙ f.reads l n;
}
locks_more intent.Write k old mid new f s = record {
  bits = s.bits ∙ f.bits;
  reads = s.reads ∙ f.reads;
  claims = λ l n. s.claims l n ∙ f.claims l n;
  scans = λ l j n. s.scans l j n ∙ f.scans l j n;
}

-- old with what WentOn lets change as in new
abbrev wandered : View → View → View
wandered old new = record (with_locks new old) { meetings = new.meetings; stamp = new.stamp; announced = new.announced; draws = new.draws }

went : (old new x : View) → new ≡ x → x ≡ wandered old x → WentOn old new
went old new x e r = e ∙ (r ∙ ap (λ (v : View). wandered old v) (sym e))

pub went_on : (met : List (ℕ × ℕ)) (old new : View) → MeetsSome met old new → WentOn old new
went_on met old new s = went old new (record (with_locks new old) {
  meetings = old.meetings ++ met;
  stamp = new.stamp;
  announced = true;
  draws = draws_once old;
}) s.view refl

pub went_more : (old mid new : View) → WentOn old mid → WentOn mid new → WentOn old new
went_more old mid new f s = s ∙ ap (λ (v : View). wandered v new) f

gives_way_more : (k : ℕ) (met : List (ℕ × ℕ)) (cause : Cause)
    (old mid new : View) → WentOn old mid → draws_once mid ≡ draws_once old → GainsOn k old.meetings mid.meetings → MeetsAndYields met cause mid new
    → (waited : List (ℕ × ℕ)) × MeetsAndYields (waited ++ met) cause old new
gives_way_more k met cause old mid new f once m s = (
  m.0,
  record {
    gave_way = subst (λ (l : List (ℕ × ℕ)). GaveWay cause (record (with_locks new old) {
      meetings = l;
      met =
          cause.seat ∷ [];
      stamp = new.stamp;
      announced = true;
      draws = draws_once old;
    }) new)
        (both_gained old.meetings mid.meetings (mid.meetings ++ met) m.0 met m.1 refl)
        (subst (λ (x : ℕ). GaveWay cause (record (with_locks new old) {
          meetings = mid.meetings ++ met;
          met = cause.seat ∷ [];
          stamp = new.stamp;
          announced = true;
          draws = x;
        }) new) once
        (subst (λ (v : View). GaveWay cause (record (with_locks new v) {
          meetings = mid.meetings ++ met;
          met = cause.seat ∷ [];
          stamp = new.stamp;
          announced = true;
          draws = draws_once mid;
        }) new) f s.gave_way));
    seat = s.seat;
    earlier = s.earlier;
    last = s.last;
  },
)

yield_is : (x y : Cause) → got.Yield x ≡ got.Yield y → x ≡ y
yield_is x y e = cc

-- a turn that gave way was not granted
gave_way : (x : Cause) (P : Type 0) → (tried.Yield x ≡ tried.Granted) ⊎ P → P
gave_way x P h = ⊎_elim (λ e. absurd cc) (λ p. p) h

-- asking ends with the turn that is granted or gives way, and what it came to is the same of all turns together
module _ {S : Type 0} (shapes : Shapes S) (desk : DeskView S) (i : Intent) (a : ℕ) (old : View) where
  pub ends_granted : (new : View) → TakesTurn shapes desk i (lock_of_word a) old tried.Granted new
      → AsksUntilHeld shapes desk i (lock_of_word a) old got.Granted new
  ends_granted new t = let held = t.granted refl in record {
    granted = λ e. (held.0, went old new (with_locks new old) held.1 refl);
    yields = λ cause e. absurd cc;
    met = λ cause e. absurd cc;
    bounded = λ cause e. absurd cc;
  }

  pub ends_giving_way : (x : Cause) (new : View) → TakesTurn shapes desk i (lock_of_word a) old (tried.Yield x) new
      → AsksUntilHeld shapes desk i (lock_of_word a) old (got.Yield x) new
  ends_giving_way x new t = record {
    granted = λ e. absurd cc;
    yields = λ cause e. subst (λ (y : Cause). (waited : List (ℕ × ℕ))
        × MeetsAndYields (waited ++ (lock_of_word a, y.seat) ∷ []) y old new)
        (yield_is x cause e) ([], t.yields x refl);
    met = λ cause e. (
      old,
      refl,
      subst (λ (y : Cause). MeetsAndJudges (IsStepTo i) (RuleHolds shapes desk) old (lock_of_word a) (tried.Yield y) new)
          (yield_is x cause e) (gave_way x (MeetsAndJudges (IsStepTo i) (RuleHolds shapes desk) old (lock_of_word a) (tried.Yield x) new) t.met),
    );
    bounded = λ cause e. gave_way x (AreRestartsBounded desk.seats (number old) new) t.bounded;
  }

  pub asked_before : (mid new : View) (r : Got) → Asks a old mid → WentOn old mid
      → AsksUntilHeld shapes desk i (lock_of_word a) mid r new → AsksUntilHeld shapes desk i (lock_of_word a) old r new
  asked_before mid new r asks on h = let k : ℕ = lock_of_word a in record {
    granted = λ e. let g = h.granted e in (g.0, went_more old mid new on g.1);
    yields = λ cause e. let y = h.yields cause e in
        let all = gives_way_more k (y.0 ++ (k, cause.seat) ∷ []) cause old mid new
        on asks.drawn_once asks.meetings y.1 in (
          all.0 ++ y.0,
          subst (λ (l : List (ℕ × ℕ)). MeetsAndYields l cause old new)
              (sym (append_assoc all.0 y.0 ((k, cause.seat) ∷ []))) all.1,
        );
    met = λ cause e. let m = h.met cause e in (m.0, went_more old mid m.0 on m.1, m.2);
    bounded = λ cause e. subst (λ (n : ℕ). AreRestartsBounded desk.seats n new) (ap number on) (h.bounded cause e);
  }

  -- if asking once met nobody it is all
  pub since_clear : (new : View) → old.met ≡ [] → ComesTo i (RuleHolds shapes desk) a old None new → AsksSince shapes desk i a old got.Granted new
  since_clear new none once = let t = turn_clear shapes desk i a old new none once in
      record { asks = t.asks; locks = t.locks; judged = t.judged; answer = ends_granted new t.turn }

  -- and behind a turn that waits
  pub since_waiting : (j : ℕ) (mid new : View) (r : Got) → TurnsOnce shapes desk i a old (tried.Wait j) mid → AsksSince shapes desk i a mid r new
      → AsksSince shapes desk i a old r new
  since_waiting j mid new r t on = record {
    asks = asks_more a old mid new t.asks on.asks;
    locks = locks_more i (lock_of_word a) old mid new t.locks on.locks;
    judged = on.judged;
    answer = asked_before mid new r t.asks (went_on ((lock_of_word a, j) ∷ []) old mid (t.turn.waits j refl)) on.answer;
  }
