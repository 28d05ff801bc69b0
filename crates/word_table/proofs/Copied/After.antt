-- A pass's copy after a step.
use Rattle.word_table.proofs.Common.{◌≡◌, ◌≢◌, ℕ, ◌-◌, ◌%◌, ◌^◌, ◌/◌, ◌<◌, ◌≤◌, Bool, true, false, List, [], ◌∷◌, length, inl, inr, ⊎_elim, refl, sym, ap, ◌∙◌}
use Rattle.word_table.proofs.Common.{subst, ◌==◌, if◌then◌else◌, bit_and, bit_at, Me, TableId, View, Phase, Idle, Running, Yielding, Withdrawing, Releasing}
use Rattle.word_table.proofs.Common.{has, without_first, row_word, writer_word, version_word, value_word, table_words, HasClaim, differ, has-nil, has-join_old}
use Rattle.word_table.proofs.Common.{pair-without_other, is_free, released_phase, load_writer_action, claim_writer_action, scan_row_action, after_asking}
use Rattle.word_table.proofs.Common.{after_meeting, undoing_phase, after_waiting, after_restarting, MOST_PASSES, MOST_WORDS, CallCopy, LockCopy, GrantsStay}
use Rattle.word_table.proofs.Common.{ShowsLocks, ShowsOthers, ShowsPairs, IsVersionCopy, IsCopy, locks_found}
use Rattle.std.proofs.lemmas.Nat.Bits.{shr_and_one}
use Rattle.history_model.proofs.SetLemmas.{pair-join_old}
use Rattle.word_table.specs.Copies.{HoldsNothing, HoldsUsed, IsLockCopy, IsCallCopy}
use Rattle.word_table.proofs.Copied.VersionCopies.{versions_restarted}

-- what a pass relies on beside its copies
pub record SameSeat (v w : View) : Type 0 where
  pub base : w.base ≡ v.base
  pub seats : w.seats ≡ v.seats
  pub who : w.who ≡ v.who
  pub call : w.call ≡ v.call
  pub stamp : w.stamp ≡ v.stamp
  pub announced : w.announced ≡ v.announced

pub steady : (v w : View) → w.base ≡ v.base → w.seats ≡ v.seats → w.who ≡ v.who → w.call ≡ v.call
    → w.stamp ≡ v.stamp → w.announced ≡ v.announced → SameSeat v w
steady v w eb es ew ec et ea = record { base = eb; seats = es; who = ew; call = ec; stamp = et; announced = ea }

-- a pass's copies after a step of its seat, from the seat, from the number of calls and from the copy of its locks
pub copy_called : {call : CallCopy} {locks : LockCopy} {table : TableId} {me : Me (Unit {0}) View}
    → IsCopy call locks table me → (phase : Phase) (calls : ℕ) (locks' : LockCopy) (table' : TableId) (me' : Me (Unit {0}) View) (w : View)
    → table' ≡ table → me'.0 ≡ w → me'.1 ≡ me.1 → w.base ≡ me.0.base → w.seats ≡ me.0.seats → w.who ≡ me.0.who
    → w.call ≡ calls → w.stamp ≡ me.0.stamp → w.announced ≡ me.0.announced → w.phase ≡ phase → IsLockCopy locks' w
    → (w.phase ≡ Idle → HoldsNothing w) → HoldsUsed w → IsCopy (record call { phase = phase; calls = calls }) locks' table' me'
copy_called {call} {locks} {table} {me} i phase calls locks' table' me' w et ew es eb en eo ec ez ea ep copy rests holds =
    subst (λ (t : TableId). IsCopy (record call { phase = phase; calls = calls }) locks' t me') (sym et) record {
      slots = es ∙ i.slots;
      others_are = i.others_are;
      row_is = i.row_is;
      writers_are = i.writers_are;
      versions_are = i.versions_are;
      values_are = i.values_are;
      below = i.below;
      few = i.few;
      short = subst (λ (x : List ℕ). length x ≤ MOST_WORDS) (sym (ap (λ (x : View). x.base) ew ∙ eb)) i.short;
      long = i.long ∙ ap (λ (x : List ℕ). table_words call.seats (length x)) (sym (ap (λ (x : View). x.base) ew ∙ eb));
      call_is = record {
        seats_are = ap (λ (x : View). x.seats) ew ∙ (en ∙ i.call_is.seats_are);
        who_is = ap (λ (x : View). x.who) ew ∙ (eo ∙ i.call_is.who_is);
        phase_is = ap (λ (x : View). x.phase) ew ∙ ep;
        calls_are = ap (λ (x : View). x.call) ew ∙ ec;
        stamp_is = ap (λ (x : View). x.stamp) ew ∙ (ez ∙ i.call_is.stamp_is);
        announced_is = ap (λ (x : View). x.announced) ew ∙ (ea ∙ i.call_is.announced_is);
      };
      locks_are = subst (λ (x : View). IsLockCopy locks' x) (sym ew) copy;
      rests = subst (λ (x : View). x.phase ≡ Idle → HoldsNothing x) (sym ew) rests;
      holds_used = subst HoldsUsed (sym ew) holds;
    }

-- a pass's copies after a step that tells the view, from a copy of the call and one of its locks
pub copy_made : {call : CallCopy} {locks : LockCopy} {table : TableId} {me : Me (Unit {0}) View}
    → IsCopy call locks table me → (call' : CallCopy) (locks' : LockCopy) (table' : TableId) (me' : Me (Unit {0}) View) (w : View)
    → table' ≡ table → me'.0 ≡ w → me'.1 ≡ me.1 → w.base ≡ me.0.base
    → call'.seats ≡ call.seats → call'.who ≡ call.who → call'.others ≡ call.others → call'.row ≡ call.row → call'.writers ≡ call.writers
    → call'.values ≡ call.values → call'.versions ≡ call.versions
    → IsCallCopy call' w → IsLockCopy locks' w → (w.phase ≡ Idle → HoldsNothing w) → HoldsUsed w → IsCopy call' locks' table' me'
copy_made {call} {locks} {table} {me} i call' locks' table' me' w et ew es eb cs cw co cr cp cv cx calls copy rests holds =
    subst (λ (t : TableId). IsCopy call' locks' t me') (sym et) record {
      slots = es ∙ i.slots;
      others_are = subst (λ (m : ℕ). ShowsOthers m call'.seats call'.who) (sym co)
          (subst (λ (m : ℕ). ShowsOthers call.others m call'.who) (sym cs) (subst (λ (m : ℕ). ShowsOthers call.others call.seats m) (sym cw) i.others_are));
      row_is = cr ∙ (i.row_is ∙ (ap (λ (m : ℕ). row_word m call.who 0) (sym cs) ∙ ap (λ (m : ℕ). row_word call'.seats m 0) (sym cw)));
      writers_are = cp ∙ (i.writers_are ∙ ap (λ (m : ℕ). writer_word m 0) (sym cs));
      versions_are = cx ∙ (i.versions_are ∙ ap (λ (m : ℕ). version_word m 0) (sym cs));
      values_are = cv ∙ (i.values_are ∙ ap (λ (m : ℕ). value_word m 0) (sym cs));
      below = subst (λ (m : ℕ). m < call'.seats) (sym cw) (subst (λ (m : ℕ). call.who < m) (sym cs) i.below);
      few = subst (λ (m : ℕ). m ≤ MOST_PASSES) (sym cs) i.few;
      short = subst (λ (x : List ℕ). length x ≤ MOST_WORDS) (sym (ap (λ (x : View). x.base) ew ∙ eb)) i.short;
      long = i.long ∙ (ap (λ (m : ℕ). table_words m (length me.0.base)) (sym cs)
          ∙ ap (λ (x : List ℕ). table_words call'.seats (length x)) (sym (ap (λ (x : View). x.base) ew ∙ eb)));
      call_is = subst (λ (x : View). IsCallCopy call' x) (sym ew) calls;
      locks_are = subst (λ (x : View). IsLockCopy locks' x) (sym ew) copy;
      rests = subst (λ (x : View). x.phase ≡ Idle → HoldsNothing x) (sym ew) rests;
      holds_used = subst HoldsUsed (sym ew) holds;
    }

-- a call that goes on is not over, and neither is one that gives up a lock
pub busy : (w : View) → w.phase ≢ Idle → w.phase ≡ Idle → HoldsNothing w
busy w on e = absurd (on e)

pub runs_on : (v w : View) → w.phase ≡ v.phase → v.phase ≡ Running → w.phase ≢ Idle
runs_on v w same runs e = let z : Running ≡ Idle = sym runs ∙ (sym same ∙ e) in cc

pub releases_on : (p : Phase) → p ≢ Idle → released_phase p ≢ Idle
releases_on Idle on e = cc
releases_on Running on e = cc
releases_on Yielding on e = cc
releases_on Withdrawing on e = cc
releases_on Releasing on e = cc

-- the same in the call that goes on
pub copy_after : {call : CallCopy} {locks : LockCopy} {table : TableId} {me : Me (Unit {0}) View}
    → IsCopy call locks table me → (phase : Phase) (locks' : LockCopy) (table' : TableId) (me' : Me (Unit {0}) View) (w : View)
    → table' ≡ table → me'.0 ≡ w → me'.1 ≡ me.1 → SameSeat me.0 w → w.phase ≡ phase → IsLockCopy locks' w
    → (w.phase ≡ Idle → HoldsNothing w) → HoldsUsed w → IsCopy (record call { phase = phase }) locks' table' me'
copy_after {call} {locks} {table} {me} i phase locks' table' me' w et ew es same ep copy rests holds =
    copy_called i phase call.calls locks' table' me' w et ew es same.base same.seats same.who (same.call
    ∙ i.call_is.calls_are) same.stamp same.announced ep copy rests holds

-- the same after a store, which tells the view as a whole
pub copy_stored : {call : CallCopy} {locks : LockCopy} {table : TableId} {me : Me (Unit {0}) View}
    → IsCopy call locks table me → (phase : Phase) (locks' : LockCopy) (table' : TableId) (me' : Me (Unit {0}) View) (w : View)
    → table' ≡ table → me' ≡ (w, me.1) → SameSeat me.0 w → w.phase ≡ phase → IsLockCopy locks' w
    → (w.phase ≡ Idle → HoldsNothing w) → HoldsUsed w → IsCopy (record call { phase = phase }) locks' table' me'
copy_stored {call} {locks} {table} {me} i phase locks' table' me' w et em = let after : Me (Unit {0}) View = (w, me.1) in
    copy_after i phase locks' table' me' w et (ap (λ (m : Me (Unit {0}) View). m.0) {y = after} em) (ap (λ (m : Me (Unit {0}) View). m.1) {y = after} em)

-- a lock that was held is held once another is held to read, claimed, or scanned for
pub grants_read : (v : View) (k : ℕ) → GrantsStay v (record v { reads = k ∷ v.reads })
grants_read v k l = (λ y. has-join_old l k v.reads y, λ y. y)

pub grants_claim : (v : View) (k : ℕ) → ¬ HasClaim v k → GrantsStay v (record v { claims = k ∷ v.claims; scans = without_first k v.scans })
grants_claim v k free l = (
  λ y. y,
  λ y. (
    has-join_old l k v.claims y.0,
    λ i lt away. pair-without_other l i k v.scans (λ e. free (subst (λ (x : ℕ). HasClaim v x) e y.0)) ∙ y.1 i lt away,
  ),
)

pub grants_scan : (v : View) (k i : ℕ) → GrantsStay v (record v { scans = (k, i) ∷ v.scans })
grants_scan v k i l = (λ y. y, λ y. (y.0, λ m lt away. pair-join_old l m k i v.scans (y.1 m lt away)))

-- so the locks of the uses are
pub holds_on : (v w : View) → w.phase ≡ v.phase → w.uses ≡ v.uses → GrantsStay v w → HoldsUsed v → HoldsUsed w
holds_on v w same uses stays holds runs k used = ⊎_elim (λ r. inl ((stays k).0 r)) (λ r. inr ((stays k).1 r))
    (holds (sym same ∙ runs) k (subst (λ (u : List (ℕ × ℕ)). has k (locks_found u) ≡ true) uses used))

-- without a use, or once it does not run, an attempt need hold none
pub holds_none : (w : View) → w.uses ≡ [] → HoldsUsed w
holds_none w none runs k used =
    absurd (differ (has k []) (subst (λ (u : List (ℕ × ℕ)). has k (locks_found u) ≡ true) none used) (has-nil k))

pub holds_off : (w : View) (phase : Phase) → w.phase ≡ phase → phase ≢ Running → HoldsUsed w
holds_off w phase same off runs k used = absurd (off (sym same ∙ runs))

pub released_stands : (p : Phase) → released_phase p ≢ Running
released_stands Idle e = cc
released_stands Running e = cc
released_stands Yielding e = cc
released_stands Withdrawing e = cc
released_stands Releasing e = cc

pub undoing_stands : (p : Phase) → undoing_phase p ≢ Running
undoing_stands Idle e = cc
undoing_stands Running e = cc
undoing_stands Yielding e = cc
undoing_stands Withdrawing e = cc
undoing_stands Releasing e = cc

-- a copy's versions are a view's
abbrev pub VersionsAre : LockCopy → View → Type 0
VersionsAre copy v = IsVersionCopy copy.versions v.uses v.owed v.trace v.undo v.phase

-- a copy that shows a view's four sets, and its versions
pub lock_copy : (copy : LockCopy) (v : View) → ShowsLocks copy.bits v.bits → ShowsLocks copy.reads v.reads
    → ShowsLocks copy.claims v.claims → ShowsPairs copy.scans.items v.scans → VersionsAre copy v → IsLockCopy copy v
lock_copy copy v sb sr sc ss sv = record { bits_are = sb; reads_are = sr; claims_are = sc; scans_are = ss; versions_are = sv }

-- after a look at a writer word, by whether it was granted
pub load_same : (j k a : ℕ) (v : View) (w : ℕ) → SameSeat v ((load_writer_action j k a v).view w)
load_same j k a v w = let granted : View = record (after_asking v a) { reads = k ∷ v.reads } in let met : View = after_meeting (after_asking v a) k (w - 1) in
    elim (is_free j w) as (λ (b : Bool). SameSeat v (if b then granted else met)) [
      | true ↦
          steady v granted refl refl refl refl refl refl
      | false ↦ steady v met refl refl refl refl refl refl
    ]

pub load_phase : (j k a : ℕ) (v : View) (w : ℕ) → ((load_writer_action j k a v).view w).phase ≡ v.phase
load_phase j k a v w = let granted : View = record (after_asking v a) { reads = k ∷ v.reads } in let met : View = after_meeting (after_asking v a) k (w - 1) in
    elim (is_free j w) as (λ (b : Bool). (if b then granted else met).phase ≡ v.phase) [ true ↦ refl | false ↦ refl ]

pub load_copy : (copy : LockCopy) (j k a : ℕ) (v : View) (w : ℕ) → ShowsLocks copy.bits v.bits
    → ShowsLocks copy.reads (if is_free j w then k ∷ v.reads else v.reads) → ShowsLocks copy.claims v.claims → ShowsPairs copy.scans.items v.scans
    → VersionsAre copy v → IsLockCopy copy ((load_writer_action j k a v).view w)
load_copy copy j k a v w sb sr sc ss sv = let granted : View = record (after_asking v a) { reads = k ∷ v.reads } in
    let met : View = after_meeting (after_asking v a) k (w - 1) in
    (elim (is_free j w) as (λ (b : Bool). ShowsLocks copy.reads (if b then k ∷ v.reads else v.reads) → IsLockCopy copy (if b then granted else met)) [
      | true ↦ λ s. record { bits_are = sb; reads_are = s; claims_are = sc; scans_are = ss; versions_are = sv }
      | false ↦ λ s. record { bits_are = sb; reads_are = s; claims_are = sc; scans_are = ss; versions_are = sv }
    ]) sr

pub load_holds : (j k a : ℕ) (v : View) (w : ℕ) → HoldsUsed v → HoldsUsed ((load_writer_action j k a v).view w)
load_holds j k a v w holds = let granted : View = record (after_asking v a) { reads = k ∷ v.reads } in
    let met : View = after_meeting (after_asking v a) k (w - 1) in
    elim (is_free j w) as (λ (b : Bool). HoldsUsed (if b then granted else met)) [
      | true ↦ holds_on v granted refl refl (grants_read v k) holds
      | false ↦ holds
    ]

-- after a claim, by whether the writer word was 0
pub claim_same : (j k a : ℕ) (v : View) (w : ℕ) → SameSeat v ((claim_writer_action j k a v).view w)
claim_same j k a v w = let won : View = record (after_asking v a) {
  claims = k ∷ v.claims;
  scans =
      without_first k v.scans;
} in let met : View = after_meeting (after_asking v a) k (w - 1) in
    elim (w == 0) as (λ (b : Bool). SameSeat v (if b then won else met)) [
      | true ↦
          steady v won refl refl refl refl refl refl
      | false ↦ steady v met refl refl refl refl refl refl
    ]

pub claim_phase : (j k a : ℕ) (v : View) (w : ℕ) → ((claim_writer_action j k a v).view w).phase ≡ v.phase
claim_phase j k a v w = let won : View = record (after_asking v a) {
  claims = k ∷ v.claims;
  scans =
      without_first k v.scans;
} in let met : View = after_meeting (after_asking v a) k (w - 1) in
    elim (w == 0) as (λ (b : Bool). (if b then won else met).phase ≡ v.phase) [ true ↦ refl | false ↦ refl ]

pub claim_copy : (copy : LockCopy) (j k a : ℕ) (v : View) (w : ℕ) → ShowsLocks copy.bits v.bits → ShowsLocks copy.reads v.reads
    → ShowsLocks copy.claims (if w == 0 then k ∷ v.claims else v.claims) → ShowsPairs copy.scans.items (if w == 0 then without_first k v.scans else v.scans)
    → VersionsAre copy v → IsLockCopy copy ((claim_writer_action j k a v).view w)
claim_copy copy j k a v w sb sr sc ss sv = let won : View = record (after_asking v a) {
  claims = k ∷ v.claims;
  scans =
      without_first k v.scans;
} in let met : View = after_meeting (after_asking v a) k (w - 1) in
    (elim (w == 0) as (λ (b : Bool). ShowsLocks copy.claims (if b then k ∷ v.claims else v.claims)
    → ShowsPairs copy.scans.items (if b then without_first k v.scans else v.scans) → IsLockCopy copy (if b then won else met)) [
      | true ↦ λ s t. record { bits_are = sb; reads_are = sr; claims_are = s; scans_are = t; versions_are = sv }
      | false ↦ λ s t. record { bits_are = sb; reads_are = sr; claims_are = s; scans_are = t; versions_are = sv }
    ]) sc ss

pub claim_holds : (j k a : ℕ) (v : View) (w : ℕ) → ¬ HasClaim v k → HoldsUsed v → HoldsUsed ((claim_writer_action j k a v).view w)
claim_holds j k a v w free holds = let won : View = record (after_asking v a) { claims = k ∷ v.claims; scans = without_first k v.scans } in
    let met : View = after_meeting (after_asking v a) k (w - 1) in
    elim (w == 0) as (λ (b : Bool). HoldsUsed (if b then won else met)) [
      | true ↦ holds_on v won refl refl (grants_claim v k free) holds
      | false ↦ holds
    ]

-- after a scan, by whether the bit was clear
pub scan_same : (j k i : ℕ) (v : View) (w : ℕ) → SameSeat v ((scan_row_action j k i v).view w)
scan_same j k i v w = let clear : View = record v { scans = (k, i) ∷ v.scans } in
    elim (bit_at w (k % 64) == 0) as (λ (b : Bool). SameSeat v (if b then clear else after_meeting v k i)) [
      | true ↦
          steady v clear refl refl refl refl refl refl
      | false ↦ steady v (after_meeting v k i) refl refl refl refl refl refl
    ]

pub scan_phase : (j k i : ℕ) (v : View) (w : ℕ) → ((scan_row_action j k i v).view w).phase ≡ v.phase
scan_phase j k i v w = let clear : View = record v { scans = (k, i) ∷ v.scans } in
    elim (bit_at w (k % 64) == 0) as (λ (b : Bool). (if b then clear else after_meeting v k i).phase ≡ v.phase) [ true ↦ refl | false ↦ refl ]

pub scan_copy : (copy : LockCopy) (j k i : ℕ) (v : View) (w : ℕ) → ShowsLocks copy.bits v.bits → ShowsLocks copy.reads v.reads
    → ShowsLocks copy.claims v.claims → ShowsPairs copy.scans.items (if bit_at w (k % 64) == 0 then (k, i) ∷ v.scans else v.scans)
    → VersionsAre copy v → IsLockCopy copy ((scan_row_action j k i v).view w)
scan_copy copy j k i v w sb sr sc ss sv = let clear : View = record v { scans = (k, i) ∷ v.scans } in
    (elim (bit_at w (k % 64) == 0) as
    (λ (b : Bool). ShowsPairs copy.scans.items (if b then (k, i) ∷ v.scans else v.scans) → IsLockCopy copy (if b then clear else after_meeting v k i)) [
      | true ↦ λ t. record { bits_are = sb; reads_are = sr; claims_are = sc; scans_are = t; versions_are = sv }
      | false ↦ λ t. record { bits_are = sb; reads_are = sr; claims_are = sc; scans_are = t; versions_are = sv }
    ]) ss

pub scan_holds : (j k i : ℕ) (v : View) (w : ℕ) → HoldsUsed v → HoldsUsed ((scan_row_action j k i v).view w)
scan_holds j k i v w holds = let clear : View = record v { scans = (k, i) ∷ v.scans } in
    elim (bit_at w (k % 64) == 0) as (λ (b : Bool). HoldsUsed (if b then clear else after_meeting v k i)) [
      | true ↦ holds_on v clear refl refl (grants_scan v k i) holds
      | false ↦ holds
    ]

-- the bit that the code looks at
pub clear_bit : (masks : List ℕ) (w i : ℕ) (a b : List (ℕ × ℕ))
    → ShowsPairs masks (if bit_and (w / 2 ^ i) 1 == 0 then a else b) → ShowsPairs masks (if bit_at w i == 0 then a else b)
clear_bit masks w i a b h = subst (λ (x : ℕ). ShowsPairs masks (if x == 0 then a else b)) (shr_and_one w i) h

-- a row under a test that has the same answer
pub same_test : (row locks : List ℕ) (k : ℕ) (a b : Bool) → a ≡ b → ShowsLocks row (if a then k ∷ locks else locks)
    → ShowsLocks row (if b then k ∷ locks else locks)
same_test row locks k a b e h = subst (λ (x : Bool). ShowsLocks row (if x then k ∷ locks else locks)) e h

-- after a look at the timestamp of the cause, by whether it is still there
pub look_same : (b : Bool) (v : View) → SameSeat v (if b then after_waiting v else after_restarting v)
look_same true v = steady v (after_waiting v) refl refl refl refl refl refl
look_same false v = steady v (after_restarting v) refl refl refl refl refl refl

pub look_phase : (b : Bool) (v : View) → v.phase ≡ Yielding → (if b then after_waiting v else after_restarting v).phase ≡ (if b then Yielding else Running)
look_phase true v yields = yields
look_phase false v yields = refl

pub look_holds : (b : Bool) (v : View) → v.phase ≡ Yielding → HoldsUsed (if b then after_waiting v else after_restarting v)
look_holds true v yields = holds_off (after_waiting v) Yielding yields (λ e. cc)
look_holds false v yields = holds_none (after_restarting v) refl

pub look_copy : (copy : LockCopy) (v : View) (b : Bool) (used : List ℕ) → IsLockCopy copy v → v.phase ≡ Yielding → v.undo ≡ []
    → ((locks : List ℕ) → ShowsLocks copy.versions.used locks → ShowsLocks used (if b then locks else []))
    → IsLockCopy (record copy { versions = record copy.versions { used = used } }) (if b then after_waiting v else after_restarting v)
look_copy copy v true used i yields undone shows = let r = i.versions_are in record {
  bits_are = i.bits_are;
  reads_are = i.reads_are;
  claims_are = i.claims_are;
  scans_are = i.scans_are;
  versions_are = record {
    used_are = shows (locks_found v.uses) r.used_are;
    written_are = r.written_are;
    each_lock = r.each_lock;
    found_are = r.found_are;
    fits = r.fits;
    touched_used = r.touched_used;
    noted_used = r.noted_used;
    owed_used = r.owed_used;
    open_owes_none = r.open_owes_none;
  };
}
look_copy copy v false used i yields undone shows = record {
  bits_are = i.bits_are;
  reads_are = i.reads_are;
  claims_are = i.claims_are;
  scans_are = i.scans_are;
  versions_are = versions_restarted copy.versions v.uses v.owed v.trace v.undo v.phase i.versions_are used
      (shows (locks_found v.uses) i.versions_are.used_are) yields undone;
}
