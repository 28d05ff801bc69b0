-- What a turn comes to, from its steps on locks and the judgement of the seat that it met.
use Rattle.lock_or_yield.proofs.Common.{◌≡◌, ◌≢◌, ℕ, zero, suc, ◌+◌, ◌<◌, true, inl, inr, ⊎_elim, List, [], ◌∷◌, ◌++◌, length, Some, None, refl, sym, ap, ◌∙◌}
use Rattle.lock_or_yield.proofs.Common.{subst, arith, ◌==◌, append-nil, Cause, View, IsIn, lock_of_word, has, has_pair, number, pair-join_same}
use Rattle.lock_or_yield.proofs.Common.{load_writer_action, AreRestartsBounded, SameCall, GrantsStay, GaveWay, MetOn, SharedBy, DeskView, RuleHolds, Intent}
use Rattle.lock_or_yield.proofs.Common.{GainsAtMost, GainsOn, Asks, AsksToRead, AsksToWrite, draws_once, with_locks, MeetsSome, MeetsAndYields, JudgedToYield}
use Rattle.lock_or_yield.proofs.Common.{AsksTo, ComesTo, MeetsFirst, TurnsOnce}
use Rattle.word_table.proofs.Common.{flag, IsGranted, newest, past_causes, with_bit, FoundWait}
use Rattle.std.proofs.Common.{slice_get, eq-eqb, ne_eqb}
use Rattle.std.proofs.lemmas.List.{length_push}
use Rattle.history_model.specs.declared.shape.Shape.{Ghosts as Shapes}
use Rattle.history_model.specs.Sets.{without}
use Rattle.history_model.proofs.SetLemmas.{pair-join_old}
use Rattle.values_rule.specs.Steps.{after_giving_way}
use Rattle.word_table.specs.declared.answer.Judged.{Judged}
use Rattle.lock_or_yield.specs.declared.turn.Tried.{Tried}
use Rattle.lock_or_yield.specs.Asking.{MeetsNobody}
use Rattle.lock_or_yield.specs.Turns.{tried_of, JudgesMet, JudgedToWait}
use Rattle.lock_or_yield.proofs.Steps.{share_leaves}
use Rattle.word_table.specs.declared.answer.Judged.TheVariants as judged
use Rattle.word_table.specs.declared.answer.Shared.TheVariants as shared
use Rattle.lock_or_yield.specs.declared.turn.Intent.TheVariants as intent
use Rattle.lock_or_yield.specs.declared.turn.Tried.TheVariants as tried

pub without_one : (j : ℕ) → without j (j ∷ []) ≡ []
unfolding without
without_one j = rw (eq-eqb j j refl) refl

-- the call, once a turn's steps on locks left old, and met nobody
pub nobody_met : (old new : View) → SameCall old new → new.met ≡ old.met → new.meetings ≡ old.meetings → MeetsNobody old new
nobody_met old new same met meetings = same
    ∙ (ap (λ (l : List ℕ). record (with_locks new old) { met = l; meetings = new.meetings }) met
    ∙ ap (λ (l : List (ℕ × ℕ)). record (with_locks new old) { meetings = l }) meetings)

has_last : (k i : ℕ) (ps : List (ℕ × ℕ)) → has_pair k i (ps ++ (k, i) ∷ []) ≡ true
has_last k i [] = pair-join_same k i []
has_last k i (p ∷ ps) = pair-join_old k i p.0 p.1 (ps ++ (k, i) ∷ []) (has_last k i ps)

-- the turn met seat i on lock k
abbrev pub HasMet : ℕ → ℕ → View → View → Type 0
HasMet k i old new = new ≡ record (with_locks new old) { met = i ∷ []; meetings = old.meetings ++ (k, i) ∷ [] }

pub somebody_met : (k i : ℕ) (old new : View) → SameCall old new → new.met ≡ i ∷ old.met
    → new.meetings ≡ old.meetings ++ (k, i) ∷ [] → old.met ≡ [] → HasMet k i old new
somebody_met k i old new same met meetings none = same
    ∙ (ap (λ (l : List ℕ). record (with_locks new old) { met = l; meetings = new.meetings }) (met ∙ ap (λ (l : List ℕ). i ∷ l) none)
    ∙ ap (λ (l : List (ℕ × ℕ)). record (with_locks new old) { met = i ∷ []; meetings = l }) meetings)

-- old with all that Asks lets change as in new
abbrev pub changed : View → View → View
changed old new = record old {
  phase = new.phase;
  bits = new.bits;
  reads = new.reads;
  claims = new.claims;
  scans = new.scans;
  asked = new.asked;
  meetings = new.meetings;
  stamp = new.stamp;
  announced = new.announced;
  draws = new.draws;
  abandoned = new.abandoned;
}

pub rest_of : (old new x : View) → new ≡ x → x ≡ changed old x → new ≡ changed old new
rest_of old new x e r = e ∙ (r ∙ ap (λ (y : View). changed old y) (sym e))

longer : (l : List (ℕ × ℕ)) (p : ℕ × ℕ) → l ++ p ∷ [] ≢ l
longer l p e = let more : length (l ++ p ∷ []) ≡ length l + 1 = length_push l p in
    let same : length (l ++ p ∷ []) ≡ length l = ap (λ (x : List (ℕ × ℕ)). length x) e in omega arith

gains_meeting : (k i : ℕ) (l : List (ℕ × ℕ)) → GainsOn k l (l ++ (k, i) ∷ [])
gains_meeting k i l = ((k, i) ∷ [], refl, λ x j is. only k i (x, j) is.0 is.1) where
  only : (k i : ℕ) (p : ℕ × ℕ) (n : ℕ) → slice_get {X = ℕ × ℕ} ((k, i) ∷ []) n ≡ Some p → p.0 ≡ k
  only k i p zero e = let pair : (k, i) ≡ p = cc in sym (ap (λ (q : ℕ × ℕ). q.0) pair)
  only k i p (suc n) e = absurd cc

pub gains_nothing : (k : ℕ) (l : List (ℕ × ℕ)) → GainsOn k l l
gains_nothing k l = ([], sym (append-nil l), λ x j is. absurd (none (x, j) is)) where
  none : (p : ℕ × ℕ) → IsIn p [] → ⊥
  none p is = let e = is.1 in cc

-- a turn that met nobody
pub asks_nobody : (a : ℕ) (old new : View) → MeetsNobody old new → GainsAtMost a old.asked new.asked → GrantsStay old new → Asks a old new
asks_nobody a old new e asked grants = record {
  rest = rest_of old new (with_locks new old) e refl;
  stamped = λ h. ap (λ (v : View). v.stamp) e;
  unmet = λ h. (ap (λ (v : View). v.stamp) e, ap (λ (v : View). v.announced) e);
  drawn_once = ap (λ (v : View). draws_once v) e;
  asked = asked;
  meetings = subst (λ (l : List (ℕ × ℕ)). GainsOn (lock_of_word a) old.meetings l)
      (sym (ap (λ (v : View). v.meetings) e)) (gains_nothing (lock_of_word a) old.meetings);
  grants = grants;
}

-- what is known of locks is the same as when a seat was met
pub reads_same : (k : ℕ) (old met new : View) → with_locks new old ≡ with_locks met old → AsksToRead k old met → AsksToRead k old new
reads_same k old met new e h = record {
  claims = ap (λ (v : View). v.claims) e ∙ h.claims;
  scans = ap (λ (v : View). v.scans) e ∙ h.scans;
  bits = λ l n. ap (λ (v : View). has l v.bits) e ∙ h.bits l n;
  reads = λ l n. ap (λ (v : View). has l v.reads) e ∙ h.reads l n;
}

pub writes_same : (k : ℕ) (old met new : View) → with_locks new old ≡ with_locks met old → AsksToWrite k old met → AsksToWrite k old new
writes_same k old met new e h = record {
  bits = ap (λ (v : View). v.bits) e ∙ h.bits;
  reads = ap (λ (v : View). v.reads) e ∙ h.reads;
  claims = λ l n. ap (λ (v : View). has l v.claims) e ∙ h.claims l n;
  scans = λ l j n. ap (λ (v : View). has_pair l j v.scans) e ∙ h.scans l j n;
}

-- a lock that was held still is
stay : (k i : ℕ) (old met new : View) → HasMet k i old met → GrantsStay old met → with_locks new old ≡ with_locks met old → GrantsStay old (with_locks new old)
stay k i old met new has grants locks = subst (λ (v : View). GrantsStay old v) (sym locks) (subst (λ (v : View). GrantsStay old v) has grants)

-- a turn that met somebody
pub record Turned (a : ℕ) (old met : View) (r : Tried) (new : View) : Type 0 where
  pub locks : with_locks new old ≡ with_locks met old
  pub asks : Asks a old new
  pub judged : new.met ≡ []
  pub granted : r ≢ tried.Granted
  pub waits : (j : ℕ) → r ≡ tried.Wait j → MeetsSome ((lock_of_word a, j) ∷ []) old new
  pub yields : (cause : Cause) → r ≡ tried.Yield cause → MeetsAndYields ((lock_of_word a, cause.seat) ∷ []) cause old new

pub wait_same : (i j : ℕ) → tried.Wait i ≡ tried.Wait j → i ≡ j
wait_same i j e = cc

pub yield_same : (x y : Cause) → tried.Yield x ≡ tried.Yield y → x ≡ y
yield_same x y e = cc

-- a call that has its timestamp draws no more
drawn_no_more : (old new : View) → new.draws ≡ draws_once old → 0 < new.stamp → draws_once new ≡ draws_once old
drawn_no_more old new drew stamped = let has : flag (new.stamp == 0) ≡ 0 = ap flag (ne_eqb new.stamp 0 (λ e. omega arith)) in omega arith

waited : (a i : ℕ) (old met new : View)
    → old.met ≡ [] → HasMet (lock_of_word a) i old met → GainsAtMost a old.asked met.asked → GrantsStay old met
    → JudgedToWait met new → Turned a old met (tried.Wait i) new
waited a i old met new none has asked grants w =
    let k : ℕ = lock_of_word a in
    let locks : with_locks new old ≡ with_locks met old = ap (λ (v : View). with_locks v old) w.view in
    let view : new ≡ record (with_locks new old) { meetings = old.meetings ++ (k, i) ∷ []; stamp = new.stamp; announced = true; draws = draws_once old } =
    w.view
    ∙ (ap (λ (v : View). record v { met = []; stamp = new.stamp; announced = true; draws = draws_once v }) has
    ∙ (ap (λ (v : View). record v { met = []; meetings = old.meetings ++ (k, i) ∷ []; stamp = new.stamp; announced = true; draws = draws_once old }) (sym locks)
    ∙ ap (λ (l : List ℕ). record (with_locks new old) {
      met = l;
      meetings = old.meetings ++ (k, i) ∷ [];
      stamp =
          new.stamp;
      announced = true;
      draws = draws_once old;
    }) (sym none))) in
    let meetings : new.meetings ≡ old.meetings ++ (k, i) ∷ [] = ap (λ (v : View). v.meetings) view in record {
      locks = locks;
      asks = record {
        rest = rest_of old new (record (with_locks new old) {
          meetings = old.meetings ++ (k, i) ∷ [];
          stamp =
              new.stamp;
          announced = true;
          draws = draws_once old;
        }) view refl;
        stamped = λ h. let same : met.stamp ≡ old.stamp = ap (λ (v : View). v.stamp) has in w.kept (subst (λ (x : ℕ). 0 < x) (sym same) h) ∙ same;
        unmet = λ e. absurd (longer old.meetings (k, i) (sym meetings ∙ e));
        drawn_once = drawn_no_more old new (ap (λ (v : View). v.draws) view) w.stamped;
        asked = subst (λ (l : List ℕ). GainsAtMost a old.asked l) (sym (ap (λ (v : View). v.asked) locks)) asked;
        meetings = subst (λ (l : List (ℕ × ℕ)). GainsOn k old.meetings l) (sym meetings) (gains_meeting k i old.meetings);
        grants = subst (λ (v : View). GrantsStay old v) (sym view) (stay k i old met new has grants locks);
      };
      judged = ap (λ (v : View). v.met) w.view;
      granted = λ e. cc;
      waits = λ j e. subst (λ (x : ℕ). MeetsSome ((k, x) ∷ []) old new) (wait_same i j e) record { view = view; stamped = w.stamped };
      yields = λ cause e. absurd cc;
    }

yielded : (a : ℕ) (cause : Cause) (old met new : View)
    → old.met ≡ [] → cause.seat < old.seats → HasMet (lock_of_word a) cause.seat old met → GainsAtMost a old.asked met.asked → GrantsStay old met
    → JudgedToYield cause met new → Turned a old met (tried.Yield cause) new
yielded a cause old met new none seat has asked grants w =
    let k : ℕ = lock_of_word a in let i : ℕ = cause.seat in let h = w.gave_way in
    let locks : with_locks new old ≡ with_locks met old = ap (λ (v : View). with_locks v old) h in
    let view : new ≡ after_giving_way cause old.met (record (with_locks new old) {
      meetings = old.meetings ++ (k, i) ∷ [];
      stamp = new.stamp;
      announced = true;
      draws = draws_once old;
    }) =
    h
    ∙ (ap (λ (v : View). after_giving_way cause (without i v.met) (record v { stamp = new.stamp; announced = true; draws = draws_once v })) has
    ∙ (ap (λ (v : View). after_giving_way cause (without i (i ∷ [])) (record v {
      meetings = old.meetings ++ (k, i) ∷ [];
      stamp = new.stamp;
      announced = true;
      draws = draws_once old;
    })) (sym locks)
    ∙ ap (λ (l : List ℕ). after_giving_way cause l (record (with_locks new old) {
      meetings = old.meetings ++ (k, i) ∷ [];
      stamp = new.stamp;
      announced = true;
      draws = draws_once old;
    })) (without_one i ∙ sym none))) in
    let meetings : new.meetings ≡ old.meetings ++ (k, i) ∷ [] = ap (λ (v : View). v.meetings) view in record {
      locks = locks;
      asks = record {
        rest = rest_of old new (after_giving_way cause old.met (record (with_locks new old) {
          meetings =
              old.meetings ++ (k, i) ∷ [];
          stamp = new.stamp;
          announced = true;
          draws = draws_once old;
        })) view refl;
        stamped = λ h. let same : met.stamp ≡ old.stamp = ap (λ (v : View). v.stamp) has in w.kept (subst (λ (x : ℕ). 0 < x) (sym same) h) ∙ same;
        unmet = λ e. absurd (longer old.meetings (k, i) (sym meetings ∙ e));
        drawn_once = drawn_no_more old new (ap (λ (v : View). v.draws) view) (let low = w.earlier.1 in omega arith);
        asked = subst (λ (l : List ℕ). GainsAtMost a old.asked l) (sym (ap (λ (v : View). v.asked) locks)) asked;
        meetings = subst (λ (l : List (ℕ × ℕ)). GainsOn k old.meetings l) (sym meetings) (gains_meeting k i old.meetings);
        grants = subst (λ (v : View). GrantsStay old v) (sym view) (stay k i old met new has grants locks);
      };
      judged = ap (λ (v : View). v.met) view ∙ none;
      granted = λ e. cc;
      waits = λ j e. absurd cc;
      yields = λ other e. subst (λ (x : Cause). MeetsAndYields ((k, x.seat) ∷ []) x old new) (yield_same cause other e) record {
        gave_way = subst (λ (v : View). GaveWay cause (record v {
          met = i ∷ [];
          meetings =
              old.meetings ++ (k, i) ∷ [];
          stamp = new.stamp;
          announced = true;
          draws = draws_once old;
        }) new) (sym locks)
            (subst (λ (v : View). GaveWay cause (record v { stamp = new.stamp; announced = true; draws = draws_once v }) new) has h);
        seat = subst (λ (m : ℕ). cause.seat < m) (sym (ap (λ (v : View). v.seats) view)) seat;
        earlier = w.earlier;
        last = w.last;
      };
    }

-- what judge answers decides
pub turned : (a i : ℕ) (answer : Judged) (old met : View) (r : Tried) (new : View)
    → old.met ≡ [] → i < old.seats → HasMet (lock_of_word a) i old met → GainsAtMost a old.asked met.asked → GrantsStay old met
    → r ≡ tried_of i answer
    → ((j : ℕ) → r ≡ tried.Wait j → (j ≡ i) × JudgedToWait met new)
    → ((cause : Cause) → r ≡ tried.Yield cause → (cause.seat ≡ i) × JudgedToYield cause met new)
    → Turned a old met r new
turned a i judged.Wait old met r new none seat has asked grants e waits yields =
    subst (λ (x : Tried). Turned a old met x new) (sym e) (waited a i old met new none has asked grants (waits i e).1)
turned a i (judged.Yield stamp) old met r new none seat has asked grants e waits yields =
    subst (λ (x : Tried). Turned a old met x new) (sym e)
    (yielded a (record { seat = i; stamp = stamp }) old met new none seat has asked grants (yields (record { seat = i; stamp = stamp }) e).1)

-- the timestamp was drawn, if there was none, and shown
shown_view : (met drawn shown : View) → drawn ≡ record met { stamp = drawn.stamp; draws = draws_once met }
    → shown ≡ record drawn { announced = true } → shown ≡ record met { stamp = shown.stamp; announced = true; draws = draws_once met }
shown_view met drawn shown draws shows =
    let kept : shown.stamp ≡ drawn.stamp = ap (λ (v : View). v.stamp) shows in
    shows ∙ (ap (λ (v : View). record v { announced = true }) draws
    ∙ ap (λ (x : ℕ). record met { stamp = x; announced = true; draws = draws_once met }) (sym kept))

pub settled_to_wait : (i : ℕ) (met drawn shown new : View) → met.met ≡ i ∷ []
    → drawn ≡ record met { stamp = drawn.stamp; draws = draws_once met } → 0 < drawn.stamp
    → (0 < met.stamp → drawn.stamp ≡ met.stamp) → shown ≡ record drawn { announced = true }
    → new ≡ record shown { met = without i shown.met } → JudgedToWait met new
settled_to_wait i met drawn shown new one draws stamped kept shows waits =
    let seen : shown ≡ record met { stamp = shown.stamp; announced = true; draws = draws_once met } = shown_view met drawn shown draws shows in
    let last : new.stamp ≡ shown.stamp = ap (λ (v : View). v.stamp) waits in
    let first : shown.stamp ≡ drawn.stamp = ap (λ (v : View). v.stamp) shows in record {
      view = waits ∙ (ap (λ (v : View). record v { met = without i v.met }) seen
          ∙ (ap (λ (l : List ℕ). record met { met = without i l; stamp = shown.stamp; announced = true; draws = draws_once met }) one
          ∙ (ap (λ (l : List ℕ). record met { met = l; stamp = shown.stamp; announced = true; draws = draws_once met }) (without_one i)
          ∙ ap (λ (x : ℕ). record met { met = []; stamp = x; announced = true; draws = draws_once met }) (sym last))));
      stamped = subst (λ (x : ℕ). 0 < x) (sym (last ∙ first)) stamped;
      kept = λ h. last ∙ (first ∙ kept h);
    }

pub settled_to_yield : (cause : Cause) (met drawn shown new : View)
    → drawn ≡ record met { stamp = drawn.stamp; draws = draws_once met } → (0 < met.stamp → drawn.stamp ≡ met.stamp) → shown ≡ record drawn { announced = true }
    → 0 < cause.stamp → cause.stamp < shown.stamp → GaveWay cause shown new
    → newest (past_causes new) ≡ Some cause → JudgedToYield cause met new
settled_to_yield cause met drawn shown new draws kept shows low high gave newest_is =
    let seen : shown ≡ record met { stamp = shown.stamp; announced = true; draws = draws_once met } = shown_view met drawn shown draws shows in
    let last : new.stamp ≡ shown.stamp = ap (λ (v : View). v.stamp) gave in
    let first : shown.stamp ≡ drawn.stamp = ap (λ (v : View). v.stamp) shows in record {
      gave_way = subst (λ (v : View). GaveWay cause v new) (seen
          ∙ ap (λ (x : ℕ). record met { stamp = x; announced = true; draws = draws_once met }) (sym last)) gave;
      earlier = (low, subst (λ (x : ℕ). cause.stamp < x) (sym last) high);
      last = newest_is;
      kept = λ h. last ∙ (first ∙ kept h);
    }

-- what is known of locks is the same as when a seat was met
locks_same : (i : Intent) (k : ℕ) (old met new : View) → with_locks new old ≡ with_locks met old → AsksTo i k old met → AsksTo i k old new
locks_same intent.Read k old met new e h = reads_same k old met new e h
locks_same intent.Write k old met new e h = writes_same k old met new e h

module _ {S : Type 0} (shapes : Shapes S) (desk : DeskView S) (i : Intent) (a : ℕ) (old : View) where
  -- a turn met nobody
  pub turn_clear : (new : View) → old.met ≡ [] → ComesTo i (RuleHolds shapes desk) a old None new → TurnsOnce shapes desk i a old tried.Granted new
  turn_clear new none once = let clear = once.clear refl in
      let view : MeetsNobody old new = nobody_met old new once.asks.call clear.1 clear.2 in record {
        asks = asks_nobody a old new view once.asks.asked once.asks.grants;
        locks = once.asks.locks;
        judged = clear.1 ∙ none;
        turn = record {
          granted = λ e. (clear.0, view);
          waits = λ j e. absurd cc;
          found = λ j e. absurd cc;
          yields = λ cause e. absurd cc;
          met = inl refl;
          held = λ h. (refl, (once.held h).1);
          bounded = inl refl;
        };
      }

  -- a turn met seat j, which was judged
  pub turn_met : (j : ℕ) (met : View) (r : Tried) (new : View) → MeetsFirst i (RuleHolds shapes desk) a j old met
      → JudgesMet (RuleHolds shapes desk) met j r new
      → ((l : ℕ) → r ≡ tried.Wait l → (l ≡ j) × JudgedToWait met new)
      → ((k : ℕ) → r ≡ tried.Wait j → has_pair k j met.meetings ≡ true → FoundWait (RuleHolds shapes desk) desk.seats k j new)
      → ((cause : Cause) → r ≡ tried.Yield cause → (cause.seat ≡ j) × JudgedToYield cause met new)
      → AreRestartsBounded desk.seats (number met) new → TurnsOnce shapes desk i a old r new
  turn_met j met r new first judges waits found yields bounded =
      let once = first.once.asks in let m = first.once.met in
      let t = turned a j judges.answer old met r new first.judged m.seat
      (somebody_met (lock_of_word a) j old met once.call m.met m.meetings first.judged) once.asked once.grants judges.comes_to waits yields in record {
        asks = t.asks;
        locks = locks_same i (lock_of_word a) old met new t.locks once.locks;
        judged = t.judged;
        turn = record {
          granted = λ e. absurd (t.granted e);
          waits = t.waits;
          found = λ l e. let same : l ≡ j = (waits l e).0 in
              subst (λ (x : ℕ). FoundWait (RuleHolds shapes desk) desk.seats (lock_of_word a) x new) (sym same)
              (found (lock_of_word a) (subst (λ (x : ℕ). r ≡ tried.Wait x) same e)
              (ap (λ (ps : List (ℕ × ℕ)). has_pair (lock_of_word a) j ps) m.meetings ∙ has_last (lock_of_word a) j old.meetings));
          yields = t.yields;
          met = inr (record { seat = j; met = met; meets = m.meets; judges = judges });
          held = λ h. let none = (first.once.held h).0 in absurd cc;
          bounded = inr (subst (λ (n : ℕ). AreRestartsBounded desk.seats n new) (ap number once.call) bounded);
        };
      }

-- the seat that was met is one of the table's, and the only one to judge
module _ (i : Intent) (sound : List ℕ → List View → Type 0) (a j : ℕ) (old new : View) (first : MeetsFirst i sound a j old new) where
  pub met_seat : j < new.seats
  met_seat = subst (λ (n : ℕ). j < n) (sym (ap (λ (v : View). v.seats) first.once.asks.call)) first.once.met.seat

  pub met_alone : new.met ≡ j ∷ []
  met_alone = first.once.met.met ∙ ap (λ (l : List ℕ). j ∷ l) first.judged

-- share was granted
pub share_clear : (sound : List ℕ → List View → Type 0) (a : ℕ) (old new : View) → SharedBy sound old a shared.Granted new
    → SameCall old new → GrantsStay old new → IsGranted new (lock_of_word a) → ComesTo intent.Read sound a old None new
share_clear sound a old new shares call grants held =
    let left = share_leaves sound old a shared.Granted new shares in let nobody = left.nobody refl in record {
      asks = record { call = call; locks = left.reads; asked = left.asked; grants = grants };
      clear = λ _. (held, nobody.0, nobody.1);
      met = tt;
      held = λ before. (refl, ⊎_elim (λ stays. stays.2) (λ asks. absurd (asks.0 before)) shares);
    }

-- or it met a seat
pub share_meets : (sound : List ℕ → List View → Type 0) (a j : ℕ) (old new : View) → SharedBy sound old a (shared.Met j) new
    → SameCall old new → GrantsStay old new
    → MetOn sound (load_writer_action (number old) (lock_of_word a) a) old (with_bit (lock_of_word a) a old) new (lock_of_word a) j
    → ComesTo intent.Read sound a old (Some j) new
share_meets sound a j old new shares call grants m = let left = share_leaves sound old a (shared.Met j) new shares in record {
  asks = record { call = call; locks = left.reads; asked = left.asked; grants = grants };
  clear = λ e. absurd cc;
  met = record {
    seat = m.seat;
    met = left.somebody j refl;
    meetings = m.conflict.0.1;
    meets = record {
      action = load_writer_action (number old) (lock_of_word a) a;
      before = old;
      locks = refl;
      asking = with_bit (lock_of_word a) a old;
      step = (a, refl, refl, refl);
      meets = m;
    };
  };
  held = λ before. ⊎_elim (λ stays. let granted = stays.1 in absurd cc) (λ asks. absurd (asks.0 before)) shares;
}
