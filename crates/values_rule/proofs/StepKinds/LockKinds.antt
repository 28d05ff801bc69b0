-- The kinds of step on locks, and the end of a call, keep the value invariant: those that ask for a lock take none away, a
-- release comes with nothing to undo, and a lock that is released is owed no version.
use Rattle.values_rule.proofs.Common.{◌≡◌, ◌≢◌, ℕ, ◌-◌, ◌<◌, ◌≤◌, true, false, inl, inr, ⊎_elim, List, [], ◌∷◌, slice_index, slice_set, refl, sym, ap, ◌∙◌}
use Rattle.values_rule.proofs.Common.{subst, arith, get_or-set_other, LOCKS, View, Phase, Idle, Running, Yielding, Withdrawing, Releasing, is_attempt, is_open}
use Rattle.values_rule.proofs.Common.{has, Knows, calls_word, commits_word, version_word, value_word, HasWriteGrant, differ, has-join_old, has-without_other}
use Rattle.values_rule.proofs.Common.{found_by, LocksHold, own, clear_stamp_action, MayClearStamp, KeepsValueRule, SameValues, SameValueWords, ValuesHold}
use Rattle.locks_rule.proofs.Common.{row_word, writer_word, HasClaim, HasReadGrant, after_asking, after_meeting}
use Rattle.std.proofs.Common.{◌%◌, ◌==◌}
use Rattle.std.specs.Int.{bit_at}
use Rattle.history_model.specs.Sets.{without_first}
use Rattle.history_model.specs.Table.{stamps_word}
use Rattle.history_model.proofs.SetLemmas.{pair-join_old, pair-without_other}
use Rattle.locks_rule.specs.Actions.{words_after}
use Rattle.locks_rule.specs.Steps.{released_phase, is_free, MayRelease, MaySetReadBit, MayClearReadBit, MayLoadWriter, MayClaimWriter, MayScanRow}
use Rattle.locks_rule.specs.Steps.{set_read_bit_action, clear_read_bit_action, load_writer_action, claim_writer_action, scan_row_action, release_writer_action}
use Rattle.locks_rule.proofs.Asides.{picked}
use Rattle.locks_rule.proofs.Own.{lock_near}
use Rattle.locks_rule.specs.Versions.{MayReleaseUnowed}
use Rattle.values_rule.proofs.Phases.{attempt_open}
use Rattle.values_rule.proofs.StepKinds.GivingUp.{giving_up_values}
use Rattle.values_rule.proofs.Told.Owing.{version_kept}
use Rattle.values_rule.proofs.StepKinds.Quiet.{quiet_values}
use Rattle.values_rule.proofs.StepKinds.Same.{aside_values}

-- a store to a word between those of CALLS and those of COMMITS
words_stay : (n : ℕ) (ws : List ℕ) (i x : ℕ) → stamps_word n 0 ≤ i → i < commits_word n 0 → SameValueWords n ws (slice_set ws i x)
words_stay n ws i x from to = record {
  serial = get_or-set_other ws i 0 x 0 (λ e. omega arith);
  calls = λ j lt. get_or-set_other ws i (calls_word n j) x 0 (λ e. omega arith);
  commits = λ j lt. get_or-set_other ws i (commits_word n j) x 0 (λ e. omega arith);
  versions = λ k. version_kept n ws (slice_set ws i x) (λ l near. get_or-set_other ws i (version_word n l) x 0 (λ e. omega arith)) k;
  values = λ a. get_or-set_other ws i (value_word n a) x 0 (λ e. omega arith);
}

row_stays : (n m j k : ℕ) (ws : List ℕ) (x : ℕ) → m ≡ n → j < n → k < LOCKS → SameValueWords n ws (slice_set ws (row_word m j k) x)
row_stays n m j k ws x e below near = words_stay n ws (row_word m j k) x (omega arith) (omega arith)

writer_stays : (n m k : ℕ) (ws : List ℕ) (x : ℕ) → m ≡ n → k < LOCKS → SameValueWords n ws (slice_set ws (writer_word m k) x)
writer_stays n m k ws x e near = words_stay n ws (writer_word m k) x (omega arith) (omega arith)

-- the seat has the locks that it had, and maybe more
same_values : (v w : View) → w.who ≡ v.who → w.joined ≡ v.joined → w.seats ≡ v.seats → w.seen ≡ v.seen → w.call ≡ v.call
    → w.floor ≡ v.floor → w.abandoned ≡ v.abandoned → w.phase ≡ v.phase → w.trace ≡ v.trace → w.undo ≡ v.undo
    → w.uses ≡ v.uses → w.owed ≡ v.owed → w.stamp ≡ v.stamp → ((k : ℕ) → HasReadGrant v k → HasReadGrant w k)
    → ((k : ℕ) → HasWriteGrant v k → HasWriteGrant w k) → SameValues v w
same_values v w who joined seats seen call floor abandoned phase trace undo uses owed stamp reads writes = record {
  who = who;
  joined = joined;
  seats = seats;
  seen = seen;
  call = call;
  floor = floor;
  abandoned = abandoned;
  phase = phase;
  trace = trace;
  undo = undo;
  uses = uses;
  owed = owed;
  stamp = λ busy. omega arith;
  grants = λ k g. ⊎_elim (λ (t : HasReadGrant v k). inl (reads k t)) (λ (t : HasWriteGrant v k). inr (writes k t)) g;
  writes = writes;
}

met_asks : (v : View) (k i : ℕ) → SameValues v (after_meeting v k i)
met_asks v k i = same_values v (after_meeting v k i) refl refl refl refl refl refl refl refl refl refl refl refl refl (λ l g. g) (λ l g. g)

asked_met : (v : View) (a k i : ℕ) → SameValues v (after_meeting (after_asking v a) k i)
asked_met v a k i = same_values v (after_meeting (after_asking v a) k i) refl refl refl refl refl refl refl refl refl refl
    refl refl refl (λ l g. g) (λ l g. g)

pub set_read_bit_values : (good : List ℕ → Type 0) (j k a : ℕ) → KeepsValueRule good (MaySetReadBit j k a) (set_read_bit_action j k a)
set_read_bit_values good j k a n base ws vs id v h q me may =
    let o = own n base ws vs id j v h me may.who in
    let lock : a % LOCKS ≡ k = may.lock in
    let w : View = record (after_asking v a) { bits = k ∷ v.bits } in
    let x : ℕ = (set_read_bit_action j k a v).writes (found_by (set_read_bit_action j k a v) ws) in
    aside_values good n base ws (words_after (set_read_bit_action j k a v) ws) vs id v w h q me
    (same_values v w refl refl refl refl refl refl refl refl refl refl refl refl refl (λ l g. g) (λ l g. g))
    (row_stays n v.seats j k ws x o.seats o.below (omega arith))

read_asks : (v : View) (a k : ℕ) → SameValues v (record (after_asking v a) { reads = k ∷ v.reads })
read_asks v a k = same_values v (record (after_asking v a) { reads = k ∷ v.reads }) refl refl refl refl refl refl refl refl refl
    refl refl refl refl (λ l t. has-join_old l k v.reads t) (λ l g. g)

pub load_writer_values : (good : List ℕ → Type 0) (j k a : ℕ) → KeepsValueRule good (MayLoadWriter j k a) (load_writer_action j k a)
load_writer_values good j k a n base ws vs id v h q me may =
    let o = own n base ws vs id j v h me may.who in
    let lock : a % LOCKS ≡ k = may.lock in
    let x : ℕ = slice_index ws (writer_word v.seats k) in
    let w : View = (load_writer_action j k a v).view x in
    aside_values good n base ws (words_after (load_writer_action j k a v) ws) vs id v w h q me
    (picked (SameValues v) (is_free j x) (record (after_asking v a) { reads = k ∷ v.reads })
    (after_meeting (after_asking v a) k (x - 1)) (read_asks v a k) (asked_met v a k (x - 1)))
    (writer_stays n v.seats k ws x o.seats (omega arith))

-- a claim on a lock that was not claimed takes no claim away
claim_asks : (v : View) (a k : ℕ) → ¬ HasClaim v k → SameValues v (record (after_asking v a) { claims = k ∷ v.claims; scans = without_first k v.scans })
claim_asks v a k free = same_values v (record (after_asking v a) { claims = k ∷ v.claims; scans = without_first k v.scans })
    refl refl refl refl refl refl refl refl refl refl refl refl refl (λ l g. g)
    (λ l g. let other : l ≢ k = λ e. free (subst (λ (y : ℕ). HasClaim v y) e g.0) in
    (has-join_old l k v.claims g.0, λ i lt away. pair-without_other l i k v.scans other ∙ g.1 i lt away))

pub claim_writer_values : (good : List ℕ → Type 0) (j k a : ℕ) → KeepsValueRule good (MayClaimWriter j k a) (claim_writer_action j k a)
claim_writer_values good j k a n base ws vs id v h q me may =
    let o = own n base ws vs id j v h me may.who in
    let lock : a % LOCKS ≡ k = may.lock in
    let x : ℕ = slice_index ws (writer_word v.seats k) in
    let w : View = (claim_writer_action j k a v).view x in
    aside_values good n base ws (words_after (claim_writer_action j k a v) ws) vs id v w h q me
    (picked (SameValues v) (x == 0) (record (after_asking v a) { claims = k ∷ v.claims; scans = without_first k v.scans })
    (after_meeting (after_asking v a) k (x - 1)) (claim_asks v a k may.no_claim) (asked_met v a k (x - 1)))
    (writer_stays n v.seats k ws ((claim_writer_action j k a v).writes x) o.seats (omega arith))

scan_asks : (v : View) (k i : ℕ) → SameValues v (record v { scans = (k, i) ∷ v.scans })
scan_asks v k i = same_values v (record v { scans = (k, i) ∷ v.scans }) refl refl refl refl refl refl refl refl refl refl
    refl refl refl (λ l g. g) (λ l g. (g.0, λ m lt away. pair-join_old l m k i v.scans (g.1 m lt away)))

pub scan_row_values : (good : List ℕ → Type 0) (j k i : ℕ) → KeepsValueRule good (MayScanRow j k i) (scan_row_action j k i)
scan_row_values good j k i n base ws vs id v h q me may =
    let o = own n base ws vs id j v h me may.who in
    let c = h.claims_show_in_writers id k v me may.claim in
    let x : ℕ = slice_index ws (row_word v.seats i k) in
    let w : View = (scan_row_action j k i v).view x in
    aside_values good n base ws (words_after (scan_row_action j k i v) ws) vs id v w h q me
    (picked (SameValues v) (bit_at x (k % 64) == 0) (record v { scans = (k, i) ∷ v.scans }) (after_meeting v k i) (scan_asks v k i) (met_asks v k i))
    (row_stays n v.seats i k ws x o.seats (omega (arith, o.seats, may.seat)) c.2)

-- a release: what is owed stays held
record Releases (v w : View) : Type 0 where
  who : w.who ≡ v.who
  joined : w.joined ≡ v.joined
  seats : w.seats ≡ v.seats
  seen : w.seen ≡ v.seen
  call : w.call ≡ v.call
  floor : w.floor ≡ v.floor
  abandoned : w.abandoned ≡ v.abandoned
  undo : w.undo ≡ v.undo
  uses : w.uses ≡ v.uses
  owed : w.owed ≡ v.owed
  stamp : w.stamp ≡ v.stamp
  phase : w.phase ≡ released_phase v.phase
  held : (k : ℕ) → has k v.owed ≡ true → HasWriteGrant v k → HasWriteGrant w k

module _ (good : List ℕ → Type 0) (n : ℕ) (base ws ws' : List ℕ) (vs : List View) (id j : ℕ) (v w : View)
    (h : LocksHold n base ws vs) (q : ValuesHold good n base ws vs) (me : Knows vs id v) (single : v.who ≡ j ∷ [])
    (may : MayRelease v) (r : Releases v w) (words : SameValueWords n ws ws') where
  nothing_noted : v.undo ≡ []
  nothing_noted = ⊎_elim (λ t. t) (λ t. q.trace.rested id v me (inr t)) may.undone

  -- the call goes on as it was
  goes_on : is_attempt w.phase ≡ false → is_open w.phase ≡ is_open v.phase → (v.phase ≡ Releasing → w.phase ≡ Releasing)
      → ValuesHold good n base ws' (slice_set vs id w)
  goes_on over same_open stays = quiet_values good n base ws ws' vs id v w h q me (record {
    who = r.who;
    joined = r.joined;
    seats = r.seats;
    seen = r.seen;
    call = r.call;
    floor = r.floor;
    abandoned = r.abandoned;
    uses = r.uses;
    owed = r.owed;
    was_undone = nothing_noted;
    undone = r.undo ∙ nothing_noted;
    over = over;
    as_open = same_open;
    begun = λ busy. may.begun;
    stamp = λ busy. r.stamp;
    held = λ k t g. (stays g.0, r.held k (ap (λ (l : List ℕ). has k l) (sym r.owed) ∙ t) g.1);
  }) words

  -- an open call is given up
  given_up : is_open v.phase ≡ true → is_open w.phase ≡ false → ValuesHold good n base ws' (slice_set vs id w)
  given_up opened over = giving_up_values good n base ws ws' vs id j v w h q me single opened (record {
    who = r.who;
    joined = r.joined;
    seen = r.seen;
    call = r.call;
    floor = r.floor;
    abandoned = r.abandoned;
    uses = r.uses;
    owed = r.owed;
    stamp = λ busy. r.stamp;
    was_undone = nothing_noted;
    undone = r.undo ∙ nothing_noted;
    over = over;
  }) words

  by_phase : (p : Phase) → v.phase ≡ p → ValuesHold good n base ws' (slice_set vs id w)
  by_phase Idle e = absurd (may.begun e)
  by_phase Running e = given_up (ap is_open e) (ap is_open (r.phase ∙ ap released_phase e))
  by_phase Yielding e = goes_on (ap is_attempt (r.phase ∙ ap released_phase e)) (ap is_open (r.phase ∙ ap released_phase e) ∙ sym (ap is_open e))
      (λ t. let z : Yielding ≡ Releasing = sym e ∙ t in cc)
  by_phase Withdrawing e = given_up (ap is_open e) (ap is_open (r.phase ∙ ap released_phase e))
  by_phase Releasing e = goes_on (ap is_attempt (r.phase ∙ ap released_phase e)) (ap is_open (r.phase ∙ ap released_phase e) ∙ sym (ap is_open e))
      (λ t. r.phase ∙ ap released_phase e)

  released : ValuesHold good n base ws' (slice_set vs id w)
  released = by_phase v.phase refl

pub clear_read_bit_values : (good : List ℕ → Type 0) (j k : ℕ) → KeepsValueRule good (MayClearReadBit j k) (clear_read_bit_action j k)
clear_read_bit_values good j k n base ws vs id v h q me may =
    let o = own n base ws vs id j v h me may.who in
    let near : k < LOCKS = lock_near v k (h.bits_were_asked id k v me may.bit) in
    let w : View = (clear_read_bit_action j k v).view (found_by (clear_read_bit_action j k v) ws) in
    let x : ℕ = (clear_read_bit_action j k v).writes (found_by (clear_read_bit_action j k v) ws) in
    released good n base ws (words_after (clear_read_bit_action j k v) ws) vs id j v w h q me may.who may.release (record {
      who = refl;
      joined = refl;
      seats = refl;
      seen = refl;
      call = refl;
      floor = refl;
      abandoned = refl;
      undo = refl;
      uses = refl;
      owed = refl;
      stamp = refl;
      phase = refl;
      held = λ l t g. g;
    }) (row_stays n v.seats j k ws x o.seats o.below near)

pub release_writer_values : (good : List ℕ → Type 0) (j k : ℕ) → KeepsValueRule good (MayReleaseUnowed j k) (release_writer_action j k)
release_writer_values good j k n base ws vs id v h q me may =
    let o = own n base ws vs id j v h me may.releases.who in
    let c = h.claims_show_in_writers id k v me may.releases.claim in
    let w : View = (release_writer_action j k v).view (found_by (release_writer_action j k v) ws) in
    released good n base ws (words_after (release_writer_action j k v) ws) vs id j v w h q me may.releases.who may.releases.release (record {
      who = refl;
      joined = refl;
      seats = refl;
      seen = refl;
      call = refl;
      floor = refl;
      abandoned = refl;
      undo = refl;
      uses = refl;
      owed = refl;
      stamp = refl;
      phase = refl;
      held = λ l t g. let other : l ≢ k = λ e. differ (has k v.owed) (subst (λ (y : ℕ). has y v.owed ≡ true) e t) may.unowed in
          (has-without_other l k v.claims other ∙ g.0, λ i lt away. pair-without_other l i k v.scans other ∙ g.1 i lt away);
    }) (writer_stays n v.seats k ws 0 o.seats c.2)

pub clear_stamp_values : (good : List ℕ → Type 0) (j : ℕ) → KeepsValueRule good (MayClearStamp j) (clear_stamp_action j)
clear_stamp_values good j n base ws vs id v h q me may =
    let o = own n base ws vs id j v h me may.who in
    let w : View = record v { phase = Idle; stamp = 0; announced = false } in
    let words : SameValueWords n ws (slice_set ws (stamps_word v.seats j) 0) =
    words_stay n ws (stamps_word v.seats j) 0 (omega (arith, o.seats)) (omega (arith, o.seats, o.below)) in
    ⊎_elim
    (λ attempts. giving_up_values good n base ws (slice_set ws (stamps_word v.seats j) 0) vs id j v w h q me may.who
    (attempt_open v.phase attempts) (record {
      who = refl;
      joined = refl;
      seen = refl;
      call = refl;
      floor = refl;
      abandoned = refl;
      uses = refl;
      owed = refl;
      stamp = λ busy. absurd (busy refl);
      was_undone = may.undone;
      undone = may.undone;
      over = refl;
    }) words)
    (λ releases. quiet_values good n base ws (slice_set ws (stamps_word v.seats j) 0) vs id v w h q me (record {
      who = refl;
      joined = refl;
      seats = refl;
      seen = refl;
      call = refl;
      floor = refl;
      abandoned = refl;
      uses = refl;
      owed = refl;
      was_undone = may.undone;
      undone = may.undone;
      over = refl;
      as_open = sym (ap is_open releases);
      begun = λ busy. absurd (busy refl);
      stamp = λ busy. absurd (busy refl);
      held = λ k t g. absurd (may.no_claim k g.1.0);
    }) words)
    may.phase
