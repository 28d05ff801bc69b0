-- What the invariant says to a seat in a call: what is recorded of it, who knew it, and that nobody owes a lock that it
-- holds.
use Rattle.values_rule.proofs.Common.{◌≡◌, ◌≢◌, ℕ, ◌<◌, Bool, true, false, ◌&&◌, ⊎_elim, List, [], ◌∷◌, length, Some, slice_get, sym, ap, ◌∙◌, subst, arith}
use Rattle.values_rule.proofs.Common.{slice_get_within, dite, ℕ_discrete, dec_lt, Entry, Item, View, is_attempt, is_open, Uses, value_at, IsIn, lock_of_word}
use Rattle.values_rule.proofs.Common.{has, Knows, IsLegalTrace, number, IsGranted, same_view, legal_agree, LocksHold, Own, own, uses_of, writes_lock, last_call}
use Rattle.values_rule.proofs.Common.{knew_of, items_of, owed_by, next_version, now_of, IsRecorded, ValuesHold}
use Rattle.history_model.proofs.Common.{LegalOnValues}
use Rattle.std.specs.Prelude.{slice_index}
use Rattle.history_model.specs.Arrangements.{ComesLast}
use Rattle.locks_rule.proofs.Own.{own_number}
use Rattle.values_rule.proofs.Stores.{shut_out}
use Rattle.values_rule.proofs.Told.Excludes.{not_released}
use Rattle.values_rule.proofs.Phases.{attempt_open, open_begun}
use Rattle.values_rule.proofs.Told.ItemsIn.{IsAttemptOf, OfEntry, OfOpen, items_from}
use Rattle.values_rule.proofs.Told.Knowing.{last_is, knew_at, knew_past}
use Rattle.values_rule.proofs.Told.Newest.{newest-at, length-newest}
use Rattle.values_rule.proofs.Told.Owing.{not_owed}
use Rattle.values_rule.proofs.Told.Uses.{use_found, found_use}

module _ (good : List ℕ → Type 0) (n : ℕ) (base ws : List ℕ) (vs : List View) (id j : ℕ) (v : View)
    (h : LocksHold n base ws vs) (q : ValuesHold good n base ws vs) (me : Knows vs id v) (single : v.who ≡ j ∷ []) where
  pub mine : Own n vs id j v
  mine = own n base ws vs id j v h me single

  pub is_j : number v ≡ j
  is_j = ap (λ (l : List ℕ). slice_index l 0) single

  pub alone : v.joined ≡ false
  alone = q.calls.alone_unjoined id j v me single

  -- another seat has not this seat's number
  pub not_j : (other : ℕ) (u : View) → other ≢ id → Knows vs other u → has j u.who ≡ true → ⊥
  not_j other u ne k t = ne (h.numbers_unique other id j u v (record { knows = k; named = t }) mine.seat)

  -- a view in a call with this seat's number is this view
  pub only_me : (other : ℕ) (u : View) → Knows vs other u → is_open u.phase ≡ true → number u ≡ j → other ≡ id
  only_me other u k busy named =
      let c = q.calls.callers_alone other u k (open_begun u.phase busy) in
      let is : c.0 ≡ j = sym (ap (λ (l : List ℕ). slice_index l 0) c.1) ∙ named in
      h.numbers_unique other id j u v (record { knows = k; named = subst (λ (i : ℕ). has i u.who ≡ true) is (own_number u c.0 c.1) }) mine.seat

  -- what an entry that is by this seat, or that knew of one, says of it
  module _ (busy : is_open v.phase ≡ true) where
    pub earlier : (y : Entry) → IsRecorded vs y → y.who ≡ j → y.call < v.call
    earlier y r own_entry = q.calls.open_numbered id j v y mine.seat alone busy r own_entry

    pub called : 0 < v.call
    called = q.calls.begun id v me (open_begun v.phase busy)

    pub last_less : (u : View) (other : ℕ) → Knows vs other u → last_call j u.seen < v.call
    last_less u other k = dite (dec_lt 0 (last_call j u.seen))
        (λ some. let y = last_is j u.seen some in
        let lt = earlier y.0 (record { id = other; view = u; knows = k; seen = y.1 }) y.2 in let same = y.3 in omega arith)
        (λ none. let some = called in omega arith)

    pub knew_less : (y : Entry) → IsRecorded vs y → slice_index y.knew j < v.call
    knew_less y r = dite (dec_lt 0 (slice_index y.knew j))
        (λ some. let z = q.records.knew_entry y j r some in let lt = earlier z.0 z.1 z.2 in let same = z.3 in omega arith)
        (λ none. let some = called in omega arith)

    seen_less : (u : View) (other : ℕ) → Knows vs other u → slice_index (knew_of u.seats u.seen) j < v.call
    seen_less u other k = dite (dec_lt j u.seats)
        (λ lt. let same = knew_at u.seats j u.seen lt in let less = last_less u other k in omega arith)
        (λ no. let none = knew_past u.seats j u.seen (omega arith) in let some = called in omega arith)

    -- an item of this call is an earlier attempt
    pub item_newest : (y : Item) → IsIn y (items_of vs) → y.who ≡ j → y.call ≡ v.call → y.turn < length v.abandoned
    item_newest y m who call = ⊎_elim
        (λ (o : OfEntry vs y). absurd (
        let both : (o.entry.who ≡ y.who) × (o.entry.call ≡ y.call) = ⊎_elim (λ e. (ap (λ (z : Item). z.who) e, ap (λ (z : Item). z.call) e))
        (λ (t : IsAttemptOf o.entry.who o.entry.call o.entry.knew o.entry.abandoned y).
        (ap (λ (z : Item). z.who) t.is, ap (λ (z : Item). z.call) t.is)) o.is in
        let lt = earlier o.entry o.recorded (both.0 ∙ who) in let same = both.1 in omega arith))
        (λ (o : OfOpen vs y).
        let who_is : number o.view ≡ y.who = ap (λ (z : Item). z.who) o.is.is in
        let same = only_me o.id o.view o.knows o.is_open (who_is ∙ who) in
        let view_is : o.view ≡ v = same_view vs id o.id v o.view me o.knows same in
        let lt = slice_get_within o.view.abandoned o.is.turn o.is.attempt o.is.at in
        let turn_is : o.is.turn ≡ y.turn = ap (λ (z : Item). z.turn) o.is.is in
        let long : length o.view.abandoned ≡ length v.abandoned = ap (λ (z : View). length z.abandoned) view_is in omega arith)
        (items_from vs y m)

    -- and none knew this call
    pub item_unknown : (y : Item) → IsIn y (items_of vs) → slice_index y.knew j < v.call
    item_unknown y m = ⊎_elim
        (λ (o : OfEntry vs y).
        let same : o.entry.knew ≡ y.knew = ⊎_elim (λ e. ap (λ (z : Item). z.knew) e)
        (λ (t : IsAttemptOf o.entry.who o.entry.call o.entry.knew o.entry.abandoned y). ap (λ (z : Item). z.knew) t.is) o.is in
        subst (λ (l : List ℕ). slice_index l j < v.call) same (knew_less o.entry o.recorded))
        (λ (o : OfOpen vs y).
        subst (λ (l : List ℕ). slice_index l j < v.call) (ap (λ (z : Item). z.knew) o.is.is) (seen_less o.view o.id o.knows))
        (items_from vs y m)

  -- an attempt
  module _ (busy : is_attempt v.phase ≡ true) where
    pub nobody_owes : (k : ℕ) → IsGranted v k → owed_by k vs ≡ false
    nobody_owes k g = not_owed k vs (λ other u ku t. let o = q.owed.held other k u ku t in dite (ℕ_discrete other id)
        (λ e. not_released v.phase (attempt_open v.phase busy) (ap (λ (y : View). y.phase) (sym (same_view vs id other v u me ku e)) ∙ o.0))
        (λ ne. shut_out n base ws vs other id j k u v h (λ e. ne (sym e)) ku mine.seat g o.1))

    -- its trace is legal on every list with the values that it used
    pub legal_on_values : (x : Item) (kept : Bool) → x.trace ≡ v.trace → x.uses ≡ uses_of kept v.trace v.uses → LegalOnValues base (items_of vs) x
    legal_on_values x kept trace uses s long has_values = subst (λ (t : _). IsLegalTrace t s) (sym trace)
        (legal_agree v.trace (now_of n base ws vs) s (length-newest base (items_of vs) (next_version n ws vs) ∙ sym long)
        (λ a t.
        let c = q.uses.covered id a v me busy t in
        let low = (q.trace.granted id a v me busy t).0 in
        let now_is = (q.uses.granted id (lock_of_word a) c.0 v me busy c.1).1 in
        let used : Uses x (lock_of_word a) c.0 (kept && writes_lock (lock_of_word a) v.trace) = subst
        (λ (us : _). (i : ℕ) × (slice_get us i ≡ Some (record {
          lock = lock_of_word a;
          version = c.0;
          wrote = kept && writes_lock (lock_of_word a) v.trace;
        }))) (sym uses) (found_use kept v.trace v.uses (lock_of_word a) c.0 c.1) in
        newest-at base (items_of vs) (next_version n ws vs) a low
        ∙ (ap (λ (w : ℕ). Some (value_at base (items_of vs) a w)) (sym now_is)
        ∙ sym (has_values a c.0 (kept && writes_lock (lock_of_word a) v.trace) low used)))
        (q.trace.legal id v me busy))

    -- an item of this attempt comes last
    pub comes_last : (x : Item) (kept : Bool) → x.who ≡ j → x.call ≡ v.call → x.turn ≡ length v.abandoned → x.uses ≡ uses_of kept v.trace v.uses
        → ComesLast (next_version n ws vs) (items_of vs) x
    comes_last x kept who call turn uses = record {
      current = λ k y b u.
          let f = use_found kept v.trace v.uses k y b
          (subst (λ (us : _). (i : ℕ) × (slice_get us i ≡ Some (record { lock = k; version = y; wrote = b }))) uses u) in
          (q.uses.granted id k y v me busy f.0).1;
      newest = λ y m w c. let lt = item_newest (attempt_open v.phase busy) y m (w ∙ who) (c ∙ call) in omega arith;
      unseen = λ y m e. let lt = item_unknown (attempt_open v.phase busy) y m in subst (λ (i : ℕ). slice_index y.knew i < x.call) (sym who) (omega arith);
    }
