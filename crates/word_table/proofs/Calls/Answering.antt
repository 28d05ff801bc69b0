-- What the answers of the calls say.
use Rattle.word_table.proofs.Common.{◌≡◌, ◌≢◌, ℕ, ◌+◌, ◌-◌, ◌%◌, ◌<◌, Bool, true, false, ◌⊎◌, inl, inr, ⊎_elim, List, [], ◌∷◌, ◌++◌, slice_index, refl, sym, ap}
use Rattle.word_table.proofs.Common.{◌∙◌, subst, arith, eq-eqb, ne_eqb, ◌==◌, if◌then◌else◌, bit_at, dite, ℕ_discrete, LOCKS, View, lock_of_word, has}
use Rattle.word_table.proofs.Common.{without_first, number, HasBit, HasReadGrant, HasClaim, IsGranted, Action, is_free, set_read_bit_action, load_writer_action}
use Rattle.word_table.proofs.Common.{claim_writer_action, scan_row_action, after_asking, after_meeting, differ, bool_cases, has-join_same, pair-join_same}
use Rattle.word_table.proofs.Common.{other_number, free_cases, Shared, Claimed, Scanned, MakesSeen, with_bit, Looked, SharedBy, ClaimedBy, ScannedBy, TakenIn}
use Rattle.word_table.proofs.Common.{LocksHold}
use Rattle.locks_rule.proofs.Common.{IsScanned}
use Rattle.word_table.specs.Calls.{MetOn, shared_of, AsksShared, claimed_of, AsksClaim, scanned_of}
use Rattle.word_table.proofs.Calls.Found.{StandsIn, claimant_found, reader_found}
use Rattle.word_table.specs.declared.answer.Shared.TheVariants as shared
use Rattle.word_table.specs.declared.answer.Claimed.TheVariants as claimed
use Rattle.word_table.specs.declared.answer.Scanned.TheVariants as scanned

-- the view once the own bit is set, if it was not
pub with_bit_cases : (k a : ℕ) (v : View) (P : View → Type 0) → (HasBit v k → P v) → P ((set_read_bit_action (number v) k a v).view 0) → P (with_bit k a v)
with_bit_cases k a v P kept set = ⊎_elim
    (λ t. subst (λ (b : Bool). P (if b then v else (set_read_bit_action (number v) k a v).view 0)) (sym t) (kept t))
    (λ f. subst (λ (b : Bool). P (if b then v else (set_read_bit_action (number v) k a v).view 0)) (sym f) set)
    (bool_cases (has k v.bits))

pub with_bit_bit : (k a : ℕ) (v : View) → HasBit (with_bit k a v) k
with_bit_bit k a v = with_bit_cases k a v (λ u. HasBit u k) (λ t. t) (has-join_same k v.bits)

with_bit_who : (k a : ℕ) (v : View) → number (with_bit k a v) ≡ number v
with_bit_who k a v = with_bit_cases k a v (λ u. number u ≡ number v) (λ t. refl) refl

-- the number is the same before and after the bit was set
pub one_before : (v middle : View) (a : ℕ) → middle ≡ with_bit (lock_of_word a) a v → middle.who ≡ number middle ∷ [] → v.who ≡ number v ∷ []
one_before v middle a e one = with_bit_cases (lock_of_word a) a v (λ u. u.who ≡ number u ∷ []
    → v.who ≡ number v ∷ []) (λ t h. h) (λ h. h) (subst (λ (u : View). u.who ≡ number u ∷ []) e one)

with_bit_single : (k a : ℕ) (v : View) → (with_bit k a v).who ≡ v.who
with_bit_single k a v = with_bit_cases k a v (λ u. u.who ≡ v.who) (λ t. refl) refl

with_bit_seats : (k a : ℕ) (v : View) → (with_bit k a v).seats ≡ v.seats
with_bit_seats k a v = with_bit_cases k a v (λ u. u.seats ≡ v.seats) (λ t. refl) refl

with_bit_meetings : (k a : ℕ) (v : View) → (with_bit k a v).meetings ≡ v.meetings
with_bit_meetings k a v = with_bit_cases k a v (λ u. u.meetings ≡ v.meetings) (λ t. refl) refl

-- a word that is not 0 nor the own number and 1 names another seat
shared_met : (j w i : ℕ) (r : Shared) → r ≡ shared_of j w → r ≡ shared.Met i → (w ≡ i + 1) × (i ≢ j) × (is_free j w ≡ false)
shared_met j w i r e is = ⊎_elim
    (λ t. let granted : shared_of j w ≡ shared.Granted = ap (λ (b : Bool). if b then shared.Granted else shared.Met (w - 1)) t.1 in cc)
    (λ t. let met : shared_of j w ≡ shared.Met (w - 1) = ap (λ (b : Bool). if b then shared.Granted else shared.Met (w - 1)) t.2 in let same : w - 1 ≡ i = cc in
    let nonzero = t.0 in let other = t.1 in let is_next : w ≡ i + 1 = omega arith in (is_next, (λ own. other (omega arith)), t.2))
    (free_cases j w)

shared_named : (j w i : ℕ) (r : Shared) → r ≡ shared_of j w → w ≡ i + 1 → i ≢ j → r ≡ shared.Met i
shared_named j w i r e is other = ⊎_elim
    (λ t. absurd (⊎_elim (λ (z : w ≡ 0). omega arith) (λ (z : w ≡ j + 1). other (omega arith)) t.0))
    (λ t. let same : w - 1 ≡ i = omega arith in e
    ∙ (ap (λ (b : Bool). if b then shared.Granted else shared.Met (w - 1)) t.2 ∙ ap (λ (x : ℕ). shared.Met x) same))
    (free_cases j w)

shared_granted : (j w : ℕ) (r : Shared) → r ≡ shared_of j w → r ≡ shared.Granted → is_free j w ≡ true
shared_granted j w r e is = ⊎_elim (λ t. t.1) (λ t. let met : shared_of j w ≡ shared.Met (w - 1) =
    ap (λ (b : Bool). if b then shared.Granted else shared.Met (w - 1)) t.2 in cc) (free_cases j w)

-- share's two steps together
pub asks_shared : (sound : List ℕ → List View → Type 0) (v middle u : View) (a : ℕ) (r : Shared) → MakesSeen sound v a
    → middle ≡ with_bit (lock_of_word a) a v → Looked sound middle a r u → AsksShared sound v a r u
asks_shared sound v middle u a r seen em looked =
    let l : ℕ = lock_of_word a in let w : ℕ = looked.found in
    let er : r ≡ shared_of (number v) w =
    subst (λ (j : ℕ). r ≡ shared_of j w) (with_bit_who l a v) (subst (λ (x : View). r ≡ shared_of (number x) w) em looked.answer) in record {
      makes_seen = seen;
      found = w;
      taken = subst (λ (j : ℕ). TakenIn sound (load_writer_action j l a (with_bit l a v)) (with_bit l a v) w u)
          (with_bit_who l a v) (subst (λ (x : View). TakenIn sound (load_writer_action (number x) l a x) x w u) em looked.taken);
      answer = er;
      met_named = λ i is. let m = shared_met (number v) w i r er is in (m.0, m.1);
      named_met = λ i is other. shared_named (number v) w i r er is other;
    }

-- a step that leaves the view after a meeting met the seat that stood on the lock
met_on : (sound : List ℕ → List View → Type 0) (action : View → Action) (v asking m u : View) (k x i j w : ℕ)
    (t : TakenIn sound (action asking) asking w u) → v.who ≡ j ∷ [] → m.meetings ≡ v.meetings → u ≡ after_meeting m k x
    → x ≡ i → i < v.seats → i ≢ j → StandsIn t.views k i
    → MetOn sound action v asking u k i
met_on sound action v asking m u k x i j w t single same e is lt other stands = record {
  found = w;
  taken = t;
  seat = lt;
  other = other_number v j i single other;
  place = stands.0;
  view = stands.1;
  knows = stands.2;
  conflict = (
    (
      subst (λ (y : View). has i y.met ≡ true) (sym e) (subst (λ (y : ℕ). has i (y ∷ m.met) ≡ true) (sym is) (has-join_same i m.met)),
      ap (λ (y : View). y.meetings) e ∙ (ap (λ (y : ℕ). m.meetings ++ (k, y) ∷ []) is ∙ ap (λ (l : List (ℕ × ℕ)). l ++ (k, i) ∷ []) same),
    ),
    stands.3,
  );
}

own_is : (v : View) (j : ℕ) → v.who ≡ j ∷ [] → number v ≡ j
own_is v j single = ap (λ (l : List ℕ). slice_index l 0) single

near_lock : (a : ℕ) → lock_of_word a < LOCKS
near_lock a = let small : a % 1024 < 1024 = omega arith in small

pub share_granted : (sound : List ℕ → List View → Type 0) (v : View) (a : ℕ) (r : Shared) (u : View)
    → SharedBy sound v a r u → r ≡ shared.Granted → IsGranted u (lock_of_word a)
share_granted sound v a r u (inl s) is = subst (λ (x : View). IsGranted x (lock_of_word a)) (sym s.2) s.0
share_granted sound v a r u (inr t) is =
    let s = t.1 in let k : ℕ = lock_of_word a in let m : View = with_bit k a v in let granted : View = record (after_asking m a) { reads = k ∷ m.reads } in
    let free : is_free (number v) s.found ≡ true = shared_granted (number v) s.found r s.answer is in
    let after : u ≡ granted = s.taken.view ∙ ap (λ (b : Bool). if b then granted else after_meeting (after_asking m a) k (s.found - 1)) free in
    inl (subst (λ (x : View). HasReadGrant x k) (sym after) (has-join_same k m.reads))

pub share_bit : (sound : List ℕ → List View → Type 0) (v : View) (a : ℕ) (r : Shared) (u : View)
    → SharedBy sound v a r u → (i : ℕ) → r ≡ shared.Met i → HasBit u (lock_of_word a)
share_bit sound v a r u (inl s) i is = let granted = s.1 in cc
share_bit sound v a r u (inr t) i is =
    let s = t.1 in let k : ℕ = lock_of_word a in let m : View = with_bit k a v in let granted : View = record (after_asking m a) { reads = k ∷ m.reads } in
    let named = shared_met (number v) s.found i r s.answer is in
    let after : u ≡ after_meeting (after_asking m a) k (s.found - 1) = s.taken.view
    ∙ ap (λ (b : Bool). if b then granted else after_meeting (after_asking m a) k (s.found - 1)) named.2 in
    subst (λ (x : View). HasBit x k) (sym after) (with_bit_bit k a v)

pub share_met : (sound : List ℕ → List View → Type 0) (n : ℕ) (base : List ℕ) (locks : (ws : List ℕ) (vs : List View)
    → sound ws vs → LocksHold n base ws vs) (v : View) (a j : ℕ) (r : Shared) (u : View) → v.who ≡ j ∷ [] → SharedBy sound v a r u → (i : ℕ) → r ≡ shared.Met i
    → MetOn sound (load_writer_action (number v) (lock_of_word a) a) v (with_bit (lock_of_word a) a v) u (lock_of_word a) i
share_met sound n base locks v a j r u single (inl s) i is = let granted = s.1 in cc
share_met sound n base locks v a j r u single (inr t) i is =
    let s = t.1 in let k : ℕ = lock_of_word a in let m : View = with_bit k a v in let granted : View =
    record (after_asking m a) { reads = k ∷ m.reads } in let x = s.taken in
    let named = shared_met (number v) s.found i r s.answer is in let next = named.0 in
    let stands = claimant_found n base x.words x.views x.place m j k (locks x.words x.views x.holds) x.knows
    (with_bit_single k a v ∙ single) (near_lock a) s.found i x.found_is next in
    met_on sound (load_writer_action (number v) k a) v m (after_asking m a) u k (s.found - 1) i j s.found x single (with_bit_meetings k a v)
    (x.view ∙ ap (λ (b : Bool). if b then granted else after_meeting (after_asking m a) k (s.found - 1)) named.2)
    (omega arith) (subst (λ (c : ℕ). i < c) (with_bit_seats k a v) stands.0) (λ e. named.1 (e ∙ sym (own_is v j single))) stands.1

-- the view after claim's step, by whether the writer word was 0
abbrev claim_result : View → ℕ → ℕ → ℕ → Bool → View
claim_result v k a w b = if b then record (after_asking v a) { claims = k ∷ v.claims; scans = without_first k v.scans }
    else after_meeting (after_asking v a) k (w - 1)

-- what claim answers, by the writer word
claimed_cases : (w : ℕ) (r : Claimed) → r ≡ claimed_of w → ((w ≡ 0) × ((w == 0) ≡ true) × (r ≡ claimed.Pending))
    ⊎ ((w ≢ 0) × ((w == 0) ≡ false) × (r ≡ claimed.Met (w - 1)))
claimed_cases w r e = dite (ℕ_discrete w 0)
    (λ z. let t : (w == 0) ≡ true = eq-eqb w 0 z in inl (z, t, e ∙ ap (λ (b : Bool). if b then claimed.Pending else claimed.Met (w - 1)) t))
    (λ n. let f : (w == 0) ≡ false = ne_eqb w 0 n in inr (n, f, e ∙ ap (λ (b : Bool). if b then claimed.Pending else claimed.Met (w - 1)) f))

pub claim_pending : (sound : List ℕ → List View → Type 0) (v : View) (a : ℕ) (r : Claimed) (u : View)
    → ClaimedBy sound v a r u → r ≡ claimed.Pending → HasClaim u (lock_of_word a)
claim_pending sound v a r u (inl s) is = subst (λ (x : View). HasClaim x (lock_of_word a)) (sym s.2) s.0
claim_pending sound v a r u (inr t) is =
    let s = t.1 in let k : ℕ = lock_of_word a in
    ⊎_elim
    (λ z. subst (λ (x : View). HasClaim x k) (sym (s.taken.view ∙ ap (λ (b : Bool). claim_result v k a s.found b) z.1)) (has-join_same k v.claims))
    (λ n. let other = n.2 in cc)
    (claimed_cases s.found r s.answer)

pub claim_met : (sound : List ℕ → List View → Type 0) (n : ℕ) (base : List ℕ) (locks : (ws : List ℕ) (vs : List View)
    → sound ws vs → LocksHold n base ws vs) (v : View) (a j : ℕ) (r : Claimed) (u : View) → v.who ≡ j ∷ []
    → ClaimedBy sound v a r u → (i : ℕ) → r ≡ claimed.Met i
    → MetOn sound (claim_writer_action (number v) (lock_of_word a) a) v v u (lock_of_word a) i
claim_met sound n base locks v a j r u single (inl s) i is = let pending = s.1 in cc
claim_met sound n base locks v a j r u single (inr t) i is =
    let s = t.1 in let k : ℕ = lock_of_word a in let x = s.taken in let next : s.found ≡ i + 1 = s.met_named i is in
    let stands = claimant_found n base x.words x.views x.place v j k (locks x.words x.views x.holds) x.knows single (near_lock a) s.found i x.found_is next in
    let held : (s.found == 0) ≡ false = ne_eqb s.found 0 (λ z. omega arith) in
    met_on sound (claim_writer_action (number v) k a) v v (after_asking v a) u k (s.found - 1) i j s.found x single refl
    (x.view ∙ ap (λ (b : Bool). claim_result v k a s.found b) held) (omega arith) stands.0
    (λ e. s.not_own (next ∙ ap (λ (y : ℕ). y + 1) (e ∙ sym (own_is v j single)))) stands.1

-- what scan answers, by the bit of the row word
scanned_cases : (k i w : ℕ) (r : Scanned) → r ≡ scanned_of k i w
    → ((bit_at w (k % 64) ≡ 0) × ((bit_at w (k % 64) == 0) ≡ true) × (r ≡ scanned.Clear))
    ⊎ ((bit_at w (k % 64) ≢ 0) × ((bit_at w (k % 64) == 0) ≡ false) × (r ≡ scanned.Met i))
scanned_cases k i w r e = dite (ℕ_discrete (bit_at w (k % 64)) 0)
    (λ z. let t : (bit_at w (k % 64) == 0) ≡ true = eq-eqb (bit_at w (k % 64)) 0 z in
    inl (z, t, e ∙ ap (λ (b : Bool). if b then scanned.Clear else scanned.Met i) t))
    (λ n. let f : (bit_at w (k % 64) == 0) ≡ false = ne_eqb (bit_at w (k % 64)) 0 n in
    inr (n, f, e ∙ ap (λ (b : Bool). if b then scanned.Clear else scanned.Met i) f))

pub scan_clear : (sound : List ℕ → List View → Type 0) (v : View) (k i : ℕ) (r : Scanned) (u : View)
    → ScannedBy sound v k i r u → r ≡ scanned.Clear → IsScanned u k i
scan_clear sound v k i r u s is = ⊎_elim
    (λ z. subst (λ (x : View). IsScanned x k i)
    (sym (s.taken.view ∙ ap (λ (b : Bool). if b then record v { scans = (k, i) ∷ v.scans } else after_meeting v k i) z.1)) (pair-join_same k i v.scans))
    (λ n. let met = n.2 in cc)
    (scanned_cases k i s.found r s.answer)

pub scan_met : (sound : List ℕ → List View → Type 0) (n : ℕ) (base : List ℕ) (locks : (ws : List ℕ) (vs : List View)
    → sound ws vs → LocksHold n base ws vs) (v : View) (k i j : ℕ) (r : Scanned) (u : View) → v.who ≡ j ∷ [] → k < LOCKS
    → i < v.seats → i ≢ j → ScannedBy sound v k i r u → (l : ℕ) → r ≡ scanned.Met l
    → (l ≡ i) × MetOn sound (scan_row_action (number v) k i) v v u k l
scan_met sound n base locks v k i j r u single near lt other s l is = ⊎_elim
    (λ z. let clear = z.2 in cc)
    (λ m. let same : l ≡ i = (s.met_set l is).0 in let x = s.taken in
    let stands = reader_found n base x.words x.views x.place v j k (locks x.words x.views x.holds) x.knows single near i s.found lt x.found_is m.0 in (
      same,
      subst (λ (y : ℕ). MetOn sound (scan_row_action (number v) k i) v v u k y) (sym same)
          (met_on sound (scan_row_action (number v) k i) v v v u k i i j s.found x single refl (x.view
          ∙ ap (λ (b : Bool). if b then record v { scans = (k, i) ∷ v.scans } else after_meeting v k i) m.1) refl lt other stands),
    ))
    (scanned_cases k i s.found r s.answer)

-- a lock that was found not held is not held
pub not_granted : (v : View) (k l : ℕ) (r : Bool) → l ≡ k → (IsGranted v l → r ≡ true) → r ≡ false → ¬ IsGranted v k
not_granted v k l r same test failed held = differ r (test (subst (λ (x : ℕ). IsGranted v x) (sym same) held)) failed

pub not_claimed : (v : View) (k l : ℕ) (r : Bool) → l ≡ k → r ≡ has l v.claims → r ≡ false → ¬ HasClaim v k
not_claimed v k l r same test failed claim = differ r (test ∙ subst (λ (x : ℕ). HasClaim v x) (sym same) claim) failed

-- claim's step
pub asks_claim : (sound : List ℕ → List View → Type 0) (v u : View) (a w : ℕ) (r : Claimed)
    → TakenIn sound (claim_writer_action (number v) (lock_of_word a) a v) v w u → w ≢ number v + 1 → r ≡ claimed_of w → AsksClaim sound v a r u
asks_claim sound v u a w r t other er = record {
  found = w;
  taken = t;
  answer = er;
  not_own = other;
  met_named = λ i is. ⊎_elim (λ z. let pending = z.2 in cc) (λ n. let met = n.2 in let same : w - 1 ≡ i = cc in
      let nonzero = n.0 in omega arith) (claimed_cases w r er);
  named_met = λ i is. ⊎_elim (λ z. let zero = z.0 in absurd (omega arith)) (λ n. let same : w - 1 ≡ i = omega arith in
      n.2 ∙ ap (λ (x : ℕ). claimed.Met x) same) (claimed_cases w r er);
}
