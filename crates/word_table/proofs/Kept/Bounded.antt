-- Every kind of step, every cut and every join keeps that no version is above the number of calls that are no longer open.
use Rattle.word_table.proofs.Common.{◌≡◌, ◌≢◌, ℕ, suc, ◌+◌, ◌-◌, ◌%◌, ◌<◌, ◌≤◌, Bool, true, false, ◌⊎◌, inl, inr, ⊎_elim, List, Option, None, [], ◌∷◌, ◌++◌}
use Rattle.word_table.proofs.Common.{length, slice_index, slice_set, refl, sym, ap, ◌∙◌, subst, arith, ◌==◌, if◌then◌else◌, Some, get_or-set_other}
use Rattle.word_table.proofs.Common.{get_or-set_same, set-get_or, bit_at, dite, ℕ_discrete, LOCKS, Cause, View, Phase, Idle, Running, Yielding, Withdrawing}
use Rattle.word_table.proofs.Common.{Releasing, is_attempt, is_open, calls_sum, IsIn, has, without, without_first, flag, Knows, clock_word, calls_word}
use Rattle.word_table.proofs.Common.{stamps_word, row_word, writer_word, commits_word, version_word, value_word, differ, has-nil, has-without, put_cases}
use Rattle.word_table.proofs.Common.{put_there, words_after, views_after, left_by_note, note_of, spent_view, views_joined, LocksHold, left_by_split}
use Rattle.word_table.proofs.Common.{given_by_split, is_free, released_phase, after_asking, after_meeting, picked, own, lock_near, undoing_phase, in_join}
use Rattle.word_table.proofs.Common.{none_in, judged, after_giving_way, after_judgement, after_waiting, after_restarting, after_note, after_joining, Step}
use Rattle.word_table.proofs.Common.{SetReadBit, ClearReadBit, LoadWriter, ClaimWriter, ScanRow, ReleaseWriter, BeginCall, LoadValue, StoreValue, UndoStore}
use Rattle.word_table.proofs.Common.{CommitCall, ClearStamp, DrawStamp, AnnounceStamp, JudgeStamp, LoadCauseStamp, LoadVersion, StoreVersion, action_of, May}
use Rattle.word_table.proofs.Common.{IsSound, VersionsBounded}
use Rattle.stamps_rule.proofs.Common.{calls_below-same}
use Rattle.history_model.specs.Counts.{open_count}
use Rattle.history_model.proofs.Views.Places.{added_cases}
use Rattle.locks_rule.proofs.Counting.{calls_below-more}
use Rattle.locks_rule.proofs.Own.{lock_below, granted_near, own_claim}
use Rattle.values_rule.proofs.Counting.{open_count-set}

-- what stands in a list with one more at its end
pub in_push : {A : Type 0} (xs : List A) (y x : A) → IsIn x (xs ++ y ∷ []) → IsIn x xs ⊎ (y ≡ x)
in_push [] y x t = ⊎_elim inr (λ s. absurd (none_in x s)) (in_join y [] x t)
in_push (z ∷ zs) y x t = ⊎_elim (λ e. inl (0, ap (λ u. Some u) e))
    (λ s. ⊎_elim (λ i. inl (suc i.0, i.1)) inr (in_push zs y x s)) (in_join z (zs ++ y ∷ []) x t)

-- what a judgement leaves, without a cause or with one
pub judgement_either : (P : View → Type 0) (verdict : Option Cause) (u : View) → P u → ((c : Cause) → P (after_giving_way c u))
    → P (after_judgement verdict u)
judgement_either P None u p q = p
judgement_either P (Some c) u p q = q c

flag_below : (a b : Bool) → (a ≡ true → b ≡ true) → flag a ≤ flag b
flag_below false b f = omega arith
flag_below true b f = subst (λ (c : Bool). flag true ≤ flag c) (sym (f refl)) (omega arith)

-- a word of versions, or one that counts calls, is not this one
pub record IsBeside (n i : ℕ) : Type 0 where
  pub calls : (i < calls_word n 0) ⊎ (calls_word n n ≤ i)
  pub versions : (i < version_word n 0) ⊎ (value_word n 0 ≤ i)

calls_stay : (n i y : ℕ) (ws : List ℕ) → (i < calls_word n 0) ⊎ (calls_word n n ≤ i) → calls_sum n (slice_set ws i y) ≡ calls_sum n ws
calls_stay n i y ws away = calls_below-same n n ws (slice_set ws i y) (λ j lt. get_or-set_other ws i (calls_word n j) y 0
    (λ e. ⊎_elim (λ (low : i < calls_word n 0). omega arith) (λ (high : calls_word n n ≤ i). omega arith) away))

module _ (n : ℕ) (ws : List ℕ) (vs : List View) (id : ℕ) (v : View) (q : VersionsBounded n ws vs) (me : Knows vs id v) where
  -- one view changes, and some words
  moved : (ws' : List ℕ) (w : View) (ended : ℕ) → q.ended ≤ ended → ended + open_count (slice_set vs id w) ≤ calls_sum n ws'
      → ((k : ℕ) → k < LOCKS → slice_index ws' (version_word n k) ≤ ended)
      → ((k x : ℕ) → IsIn (k, x) w.uses → x ≤ ended)
      → ((k x : ℕ) → has k w.owed ≡ true → IsIn (k, x) w.uses → x < ended)
      → (is_open w.phase ≡ true → w.owed ≡ []) → VersionsBounded n ws' (slice_set vs id w)
  moved ws' w ended more counted words uses owed opens = record {
    ended = ended;
    counted = counted;
    words_below = words;
    uses_below = λ other k x u e i. ⊎_elim
        (λ t. uses k x (subst (λ (y : View). IsIn (k, x) y.uses) (sym t.1) i))
        (λ t. let old = q.uses_below other k x u t.1 i in omega arith) (put_cases vs id other w u e);
    owed_below = λ other k x u e o i. ⊎_elim
        (λ t. owed k x (subst (λ (y : View). has k y.owed ≡ true) (sym t.1) o) (subst (λ (y : View). IsIn (k, x) y.uses) (sym t.1) i))
        (λ t. let old = q.owed_below other k x u t.1 o i in omega arith) (put_cases vs id other w u e);
    open_owes_none = λ other u e o. ⊎_elim
        (λ t. subst (λ (y : View). y.owed ≡ []) t.1 (opens (subst (λ (y : View). is_open y.phase ≡ true) (sym t.1) o)))
        (λ t. q.open_owes_none other u t.1 o) (put_cases vs id other w u e);
  }

  -- no word changes
  module _ (i : ℕ) (w : View) where
    unmoved : VersionsBounded n ws (slice_set vs id w) → VersionsBounded n (slice_set ws i (slice_index ws i)) (slice_set vs id w)
    unmoved b = subst (λ (l : List ℕ). VersionsBounded n l (slice_set vs id w)) (sym (set-get_or ws i 0)) b

  -- no more calls are open
  as_open : (w : View) → (is_open w.phase ≡ true → is_open v.phase ≡ true) → open_count (slice_set vs id w) ≤ open_count vs
  as_open w opens = let a = open_count-set vs id v w me in let b = flag_below (is_open w.phase) (is_open v.phase) opens in omega arith

  -- the view uses and owes the same
  same : (w : View) → w.uses ≡ v.uses → w.owed ≡ v.owed → (is_open w.phase ≡ true → is_open v.phase ≡ true)
      → VersionsBounded n ws (slice_set vs id w)
  same w eu eo opens = moved ws w q.ended (omega arith) (let a = as_open w opens in let b = q.counted in omega arith) q.words_below
      (λ k x i. q.uses_below id k x v me (subst (λ (l : List (ℕ × ℕ)). IsIn (k, x) l) eu i))
      (λ k x o i. q.owed_below id k x v me (subst (λ (l : List ℕ). has k l ≡ true) eo o) (subst (λ (l : List (ℕ × ℕ)). IsIn (k, x) l) eu i))
      (λ o. eo ∙ q.open_owes_none id v me (opens o))

  -- and a word is stored that is no version and counts no calls
  words_beside : (i y : ℕ) → IsBeside n i → (k : ℕ) → k < LOCKS → slice_index (slice_set ws i y) (version_word n k) ≡ slice_index ws (version_word n k)
  words_beside i y away k near = get_or-set_other ws i (version_word n k) y 0
      (λ e. ⊎_elim (λ (low : i < version_word n 0). omega arith) (λ (high : value_word n 0 ≤ i). omega arith) away.versions)

  beside : (i y : ℕ) (w : View) → IsBeside n i → w.uses ≡ v.uses → w.owed ≡ v.owed
      → (is_open w.phase ≡ true → is_open v.phase ≡ true) → VersionsBounded n (slice_set ws i y) (slice_set vs id w)
  beside i y w away eu eo opens =
      let b = same w eu eo opens in
      moved (slice_set ws i y) w q.ended (omega arith)
      (let a = as_open w opens in let c = q.counted in let d = calls_stay n i y ws away.calls in omega arith)
      (λ k near. let stays = words_beside i y away k near in let old = q.words_below k near in omega arith)
      (λ k x t. q.uses_below id k x v me (subst (λ (l : List (ℕ × ℕ)). IsIn (k, x) l) eu t))
      (λ k x o t. q.owed_below id k x v me (subst (λ (l : List ℕ). has k l ≡ true) eo o) (subst (λ (l : List (ℕ × ℕ)). IsIn (k, x) l) eu t))
      (λ o. eo ∙ q.open_owes_none id v me (opens o))

still_open : (p : Phase) → is_open (released_phase p) ≡ true → is_open p ≡ true
still_open Idle e = cc
still_open Running e = refl
still_open Yielding e = refl
still_open Withdrawing e = refl
still_open Releasing e = cc

undone_open : (p : Phase) → is_open (undoing_phase p) ≡ true → is_open p ≡ true
undone_open Idle e = e
undone_open Running e = refl
undone_open Yielding e = refl
undone_open Withdrawing e = refl
undone_open Releasing e = e

-- the places of words that are no version's
module _ (n m : ℕ) (e : m ≡ n) where
  row_beside : (j k : ℕ) → j < n → k < LOCKS → IsBeside n (row_word m j k)
  row_beside j k below near = record { calls = inr (omega arith); versions = inl (omega arith) }

  writer_beside : (k : ℕ) → k < LOCKS → IsBeside n (writer_word m k)
  writer_beside k near = record { calls = inr (omega arith); versions = inl (omega arith) }

  stamps_beside : (j : ℕ) → j < n → IsBeside n (stamps_word m j)
  stamps_beside j below = record { calls = inr (omega arith); versions = inl (omega arith) }

  value_beside : (a : ℕ) → IsBeside n (value_word m a)
  value_beside a = record { calls = inr (omega arith); versions = inr (omega arith) }

  commits_beside : (j : ℕ) → j < n → IsBeside n (commits_word m j)
  commits_beside j below = record { calls = inr (omega arith); versions = inl (omega arith) }

attempt_opens : (p : Phase) → is_attempt p ≡ true → is_open p ≡ true
attempt_opens Idle e = e
attempt_opens Running e = refl
attempt_opens Yielding e = refl
attempt_opens Withdrawing e = refl
attempt_opens Releasing e = e

module _ (good : List ℕ → Type 0) (n : ℕ) (base ws : List ℕ) (vs : List View) (id : ℕ) (v : View)
    (h : LocksHold n base ws vs) (q : VersionsBounded n ws vs) (me : Knows vs id v) where
  abbrev After : Step → Type 0
  After st = VersionsBounded n (words_after (action_of st v) ws) (views_after (action_of st v) id ws vs)

  -- a call is begun: one more was begun, and is open
  begins : (j : ℕ) → v.who ≡ j ∷ [] → v.phase ≡ Idle → slice_index ws (calls_word n j) ≡ v.call → After (BeginCall j)
  begins j single idle shown =
      let o = own n base ws vs id j v h me single in
      let w : View = (action_of (BeginCall j) v).view 0 in
      let place : calls_word v.seats j ≡ calls_word n j = ap (λ (m : ℕ). calls_word m j) o.seats in
      let long : calls_word n j < length ws = omega (arith, h.word_count, o.below) in
      let ws' : List ℕ = slice_set ws (calls_word n j) (v.call + 1) in
      let more : calls_sum n ws' + slice_index ws (calls_word n j) ≡ calls_sum n ws + (v.call + 1) =
      calls_below-more n n j (v.call + 1) ws o.below long in
      let opened = open_count-set vs id v w me in
      let closed : flag (is_open v.phase) ≡ 0 = ap (λ (p : Phase). flag (is_open p)) idle in
      let counted = q.counted in
      subst (λ (i : ℕ). VersionsBounded n (slice_set ws i (v.call + 1)) (slice_set vs id w)) (sym place)
      (moved n ws vs id v q me ws' w q.ended (omega arith) (omega arith)
      (λ k near. let stays : slice_index ws' (version_word n k) ≡ slice_index ws (version_word n k) =
      get_or-set_other ws (calls_word n j) (version_word n k) (v.call + 1) 0 (λ e. omega (arith, o.below)) in
      let old = q.words_below k near in omega arith)
      (λ k x t. absurd (none_in (k, x) t)) (λ k x u t. absurd (none_in (k, x) t)) (λ t. refl))

  -- a call gets its entry: there is one more than each version that it found
  commits : (j : ℕ) (kept : Bool) → v.who ≡ j ∷ [] → is_attempt v.phase ≡ true → After (CommitCall j kept)
  commits j kept single phase =
      let o = own n base ws vs id j v h me single in
      let w : View = (action_of (CommitCall j kept) v).view 0 in
      let away : IsBeside n (commits_word v.seats j) = commits_beside n v.seats o.seats j o.below in
      let closed = open_count-set vs id v w me in
      let opened : flag (is_open v.phase) ≡ 1 = ap flag (attempt_opens v.phase phase) in
      let counted = q.counted in
      let calls = calls_stay n (commits_word v.seats j) v.call ws away.calls in
      moved n ws vs id v q me (slice_set ws (commits_word v.seats j) v.call) w (q.ended + 1) (omega arith) (omega arith)
      (λ k near. let stays = words_beside n ws vs id v q me (commits_word v.seats j) v.call away k near in
      let old = q.words_below k near in omega arith)
      (λ k y t. let old = q.uses_below id k y v me t in omega arith)
      (λ k y u t. let old = q.uses_below id k y v me t in omega arith)
      (λ o. absurd (let z : false ≡ true = o in cc))

  -- a version that is found is one of the table
  finds : (j k : ℕ) → v.seats ≡ n → k < LOCKS → is_open v.phase ≡ true → After (LoadVersion j k)
  finds j k seats near opens =
      let x : ℕ = slice_index ws (version_word v.seats k) in
      let w : View = record v { uses = v.uses ++ (k, x) ∷ [] } in
      let same_place : version_word v.seats k ≡ version_word n k = ap (λ (m : ℕ). version_word m k) seats in
      let low : x ≤ q.ended = subst (λ (i : ℕ). slice_index ws i ≤ q.ended) (sym same_place) (q.words_below k near) in
      unmoved n ws vs id v q me (version_word v.seats k) w
      (moved n ws vs id v q me ws w q.ended (omega arith) (let a = as_open n ws vs id v q me w (λ t. t) in let c = q.counted in omega arith) q.words_below
      (λ l y t. ⊎_elim (λ old. q.uses_below id l y v me old)
      (λ new. subst (λ (z : ℕ). z ≤ q.ended) (ap (λ (u : ℕ × ℕ). u.1) new) low) (in_push v.uses (k, x) (l, y) t))
      (λ l y o t. absurd (differ (has l v.owed) o (ap (λ (s : List ℕ). has l s) (q.open_owes_none id v me opens) ∙ has-nil l)))
      (λ o. q.open_owes_none id v me opens))

  -- one that is raised is owed
  raises : (j k x : ℕ) → v.seats ≡ n → k < LOCKS → v.phase ≡ Releasing → has k v.owed ≡ true → IsIn (k, x) v.uses → After (StoreVersion j k x)
  raises j k x seats near phase owed found =
      let i : ℕ = version_word v.seats k in
      let w : View = record v { owed = without k v.owed } in
      let long : i < length ws = omega (arith, h.word_count, seats) in
      let ws' : List ℕ = slice_set ws i (x + 1) in
      let high : x < q.ended = q.owed_below id k x v me owed found in
      let a = as_open n ws vs id v q me w (λ t. t) in
      let c = q.counted in
      let d = calls_stay n i (x + 1) ws (inr (omega arith)) in
      moved n ws vs id v q me ws' w q.ended (omega arith) (omega arith)
      (λ l close. dite (ℕ_discrete (version_word n l) i)
      (λ e. let here : slice_index ws' i ≡ x + 1 = get_or-set_same ws i (x + 1) 0 long in
      let there : slice_index ws' (version_word n l) ≡ x + 1 = ap (λ (m : ℕ). slice_index ws' m) e ∙ here in omega arith)
      (λ ne. let stays : slice_index ws' (version_word n l) ≡ slice_index ws (version_word n l) =
      get_or-set_other ws i (version_word n l) (x + 1) 0 ne in
      let old = q.words_below l close in omega arith))
      (λ l y t. q.uses_below id l y v me t)
      (λ l y o t. q.owed_below id l y v me (has-without l k v.owed o).1 t)
      (λ o. absurd (let z : false ≡ true = sym (ap is_open phase) ∙ o in cc))

pub bounded_kept : (good : List ℕ → Type 0) (n : ℕ) (base : List ℕ) (st : Step) (ws : List ℕ) (vs : List View) (id : ℕ) (v : View)
    → IsSound good n base ws vs → Knows vs id v → May good st v
    → VersionsBounded n (words_after (action_of st v) ws) (views_after (action_of st v) id ws vs)
bounded_kept good n base (SetReadBit j k a) ws vs id v s me may = let o = own n base ws vs id j v s.locks me may.who in
    beside n ws vs id v s.versions me (row_word v.seats j k) _ ((action_of (SetReadBit j k a) v).view 0)
    (row_beside n v.seats o.seats j k o.below (lock_below a k may.lock)) refl refl (λ t. t)
bounded_kept good n base (ClearReadBit j k) ws vs id v s me may = let o = own n base ws vs id j v s.locks me may.who in
    beside n ws vs id v s.versions me (row_word v.seats j k) _ ((action_of (ClearReadBit j k) v).view 0)
    (row_beside n v.seats o.seats j k o.below (lock_near v k (s.locks.bits_were_asked id k v me may.bit))) refl refl (still_open v.phase)
bounded_kept good n base (LoadWriter j k a) ws vs id v s me may =
    let w : ℕ = slice_index ws (writer_word v.seats k) in
    let granted : View = record (after_asking v a) { reads = k ∷ v.reads } in
    let met : View = after_meeting (after_asking v a) k (w - 1) in
    picked (λ (u : View). VersionsBounded n (slice_set ws (writer_word v.seats k) w) (slice_set vs id u)) (is_free j w) granted met
    (unmoved n ws vs id v s.versions me (writer_word v.seats k) granted (same n ws vs id v s.versions me granted refl refl (λ t. t)))
    (unmoved n ws vs id v s.versions me (writer_word v.seats k) met (same n ws vs id v s.versions me met refl refl (λ t. t)))
bounded_kept good n base (ClaimWriter j k a) ws vs id v s me may = let o = own n base ws vs id j v s.locks me may.who in
    let w : ℕ = slice_index ws (writer_word v.seats k) in
    let y : ℕ = if w == 0 then j + 1 else w in
    let won : View = record (after_asking v a) { claims = k ∷ v.claims; scans = without_first k v.scans } in
    let met : View = after_meeting (after_asking v a) k (w - 1) in
    let away = writer_beside n v.seats o.seats k (lock_below a k may.lock) in
    picked (λ (u : View). VersionsBounded n (slice_set ws (writer_word v.seats k) y) (slice_set vs id u)) (w == 0) won met
    (beside n ws vs id v s.versions me (writer_word v.seats k) y won away refl refl (λ t. t))
    (beside n ws vs id v s.versions me (writer_word v.seats k) y met away refl refl (λ t. t))
bounded_kept good n base (ScanRow j k i) ws vs id v s me may =
    let w : ℕ = slice_index ws (row_word v.seats i k) in
    let clear : View = record v { scans = (k, i) ∷ v.scans } in
    let met : View = after_meeting v k i in
    picked (λ (u : View). VersionsBounded n (slice_set ws (row_word v.seats i k) w) (slice_set vs id u)) (bit_at w (k % 64) == 0) clear met
    (unmoved n ws vs id v s.versions me (row_word v.seats i k) clear (same n ws vs id v s.versions me clear refl refl (λ t. t)))
    (unmoved n ws vs id v s.versions me (row_word v.seats i k) met (same n ws vs id v s.versions me met refl refl (λ t. t)))
bounded_kept good n base (ReleaseWriter j k) ws vs id v s me may = let o = own n base ws vs id j v s.locks me may.releases.who in
    beside n ws vs id v s.versions me (writer_word v.seats k) 0 ((action_of (ReleaseWriter j k) v).view 0)
    (writer_beside n v.seats o.seats k (own_claim n base ws vs id v s.locks me k may.releases.claim).2) refl refl (still_open v.phase)
bounded_kept good n base (BeginCall j) ws vs id v s me may = let o = own n base ws vs id j v s.locks me may.who in
    begins good n base ws vs id v s.locks s.versions me j may.who may.phase
    (s.values.calls.calls_shown id j v o.seat (s.values.calls.alone_unjoined id j v me may.who))
bounded_kept good n base (LoadValue j a) ws vs id v s me may =
    unmoved n ws vs id v s.versions me (value_word v.seats a) _ (same n ws vs id v s.versions me _ refl refl (λ t. t))
bounded_kept good n base (StoreValue j a x) ws vs id v s me may = let o = own n base ws vs id j v s.locks me may.who in
    beside n ws vs id v s.versions me (value_word v.seats a) x ((action_of (StoreValue j a x) v).view 0)
    (value_beside n v.seats o.seats a) refl refl (λ t. t)
bounded_kept good n base (UndoStore j a old) ws vs id v s me may = let o = own n base ws vs id j v s.locks me may.who in
    beside n ws vs id v s.versions me (value_word v.seats a) old ((action_of (UndoStore j a old) v).view 0)
    (value_beside n v.seats o.seats a) refl refl (undone_open v.phase)
bounded_kept good n base (CommitCall j kept) ws vs id v s me may =
    commits good n base ws vs id v s.locks s.versions me j kept may.who may.phase
bounded_kept good n base (ClearStamp j) ws vs id v s me may = let o = own n base ws vs id j v s.locks me may.who in
    beside n ws vs id v s.versions me (stamps_word v.seats j) 0 ((action_of (ClearStamp j) v).view 0)
    (stamps_beside n v.seats o.seats j o.below) refl refl (λ t. absurd (let z : false ≡ true = t in cc))
bounded_kept good n base (DrawStamp j) ws vs id v s me may =
    beside n ws vs id v s.versions me clock_word (slice_index ws clock_word + 1) ((action_of (DrawStamp j) v).view (slice_index ws clock_word))
    (record { calls = inl (omega arith); versions = inl (omega arith) }) refl refl (λ t. t)
bounded_kept good n base (AnnounceStamp j) ws vs id v s me may = let o = own n base ws vs id j v s.locks me may.who in
    beside n ws vs id v s.versions me (stamps_word v.seats j) v.stamp ((action_of (AnnounceStamp j) v).view 0)
    (stamps_beside n v.seats o.seats j o.below) refl refl (λ t. t)
bounded_kept good n base (JudgeStamp j i) ws vs id v s me may =
    let at : ℕ = stamps_word v.seats i in
    let passes : View = record v { met = without i v.met } in
    judgement_either (λ (u : View). VersionsBounded n (slice_set ws at (slice_index ws at)) (slice_set vs id u)) (judged i (slice_index ws at) v.stamp) passes
    (unmoved n ws vs id v s.versions me at passes (same n ws vs id v s.versions me passes refl refl (λ t. t)))
    (λ c. unmoved n ws vs id v s.versions me at (after_giving_way c passes)
    (same n ws vs id v s.versions me (after_giving_way c passes) refl refl (λ t. ap is_open may.phase)))
bounded_kept good n base (LoadCauseStamp j i stamp) ws vs id v s me may =
    let at : ℕ = stamps_word v.seats i in
    let x : ℕ = slice_index ws at in
    picked (λ (u : View). VersionsBounded n (slice_set ws at x) (slice_set vs id u)) (x == stamp) (after_waiting v) (after_restarting v)
    (unmoved n ws vs id v s.versions me at (after_waiting v) (same n ws vs id v s.versions me (after_waiting v) refl refl (λ t. t)))
    (unmoved n ws vs id v s.versions me at (after_restarting v)
    (moved n ws vs id v s.versions me ws (after_restarting v) s.versions.ended (omega arith)
    (let a = as_open n ws vs id v s.versions me (after_restarting v) (λ t. ap is_open may.phase) in let c = s.versions.counted in omega arith)
    s.versions.words_below (λ k y t. absurd (none_in (k, y) t))
    (λ k y o t. absurd (none_in (k, y) t)) (λ t. s.versions.open_owes_none id v me (ap is_open may.phase))))
bounded_kept good n base (LoadVersion j k) ws vs id v s me may =
    finds good n base ws vs id v s.locks s.versions me j k (own n base ws vs id j v s.locks me may.who).seats
    (granted_near n base ws vs id k v s.locks me may.granted) (ap is_open may.phase)
bounded_kept good n base (StoreVersion j k x) ws vs id v s me may =
    raises good n base ws vs id v s.locks s.versions me j k x (own n base ws vs id j v s.locks me may.stores.who).seats
    (own_claim n base ws vs id v s.locks me k may.claim).2 may.stores.phase may.stores.owed may.stores.found

open_count-added : (vs : List View) (w : View) → open_count (vs ++ w ∷ []) ≡ open_count vs + flag (is_open w.phase)
unfolding open_count
open_count-added [] w = omega arith
open_count-added (v ∷ vs) w = let rest = open_count-added vs w in omega arith

-- views that are cut or joined, and no word changes
module _ (n : ℕ) (ws : List ℕ) (vs : List View) (q : VersionsBounded n ws vs) where
  -- one view more, which has no use, owes nothing, and is in no call
  added : (w : View) → w.uses ≡ [] → w.owed ≡ [] → is_open w.phase ≡ false → VersionsBounded n ws (vs ++ w ∷ [])
  added w none free closed = record {
    ended = q.ended;
    counted = let more = open_count-added vs w in let none_more : flag (is_open w.phase) ≡ 0 = ap flag closed in let c = q.counted in omega arith;
    words_below = q.words_below;
    uses_below = λ other k x u e i. ⊎_elim
        (λ t. absurd (none_in (k, x) (subst (λ (l : List (ℕ × ℕ)). IsIn (k, x) l) (ap (λ (y : View). y.uses) (sym t.1) ∙ none) i)))
        (λ t. q.uses_below other k x u t i) (added_cases vs w u other e);
    owed_below = λ other k x u e o i. ⊎_elim
        (λ t. absurd (none_in (k, x) (subst (λ (l : List (ℕ × ℕ)). IsIn (k, x) l) (ap (λ (y : View). y.uses) (sym t.1) ∙ none) i)))
        (λ t. q.owed_below other k x u t o i) (added_cases vs w u other e);
    open_owes_none = λ other u e o. ⊎_elim (λ t. ap (λ (y : View). y.owed) (sym t.1) ∙ free)
        (λ t. q.open_owes_none other u t o) (added_cases vs w u other e);
  }

pub split_seat_bounded : (n : ℕ) (ws : List ℕ) (vs : List View) (id : ℕ) (v : View) → VersionsBounded n ws vs → Knows vs id v
    → VersionsBounded n ws (slice_set vs id (left_by_split v) ++ given_by_split v ∷ [])
split_seat_bounded n ws vs id v q me =
    added n ws (slice_set vs id (left_by_split v)) (same n ws vs id v q me (left_by_split v) refl refl (λ t. t)) (given_by_split v) refl refl refl

pub take_note_bounded : (n : ℕ) (ws : List ℕ) (vs : List View) (id : ℕ) (v : View) → VersionsBounded n ws vs → Knows vs id v
    → VersionsBounded n ws (slice_set vs id (left_by_note v) ++ note_of v ∷ [])
take_note_bounded n ws vs id v q me =
    added n ws (slice_set vs id v) (same n ws vs id v q me v refl refl (λ t. t)) (note_of v) refl refl refl

-- a view takes in another, which is spent
joined : (n : ℕ) (ws : List ℕ) (vs : List View) (id other : ℕ) (v w both : View) → VersionsBounded n ws vs → other ≢ id
    → Knows vs id v → Knows vs other w → both.uses ≡ v.uses → both.owed ≡ v.owed → (is_open both.phase ≡ true → is_open v.phase ≡ true)
    → VersionsBounded n ws (views_joined id other both vs)
joined n ws vs id other v w both q ne me it eu eo opens =
    let first : VersionsBounded n ws (slice_set vs id both) = same n ws vs id v q me both eu eo opens in
    moved n ws (slice_set vs id both) other w first (put_there vs id other both w ne it) ws spent_view first.ended (omega arith)
    (let a = as_open n ws (slice_set vs id both) other w first (put_there vs id other both w ne it) spent_view
    (λ t. absurd (let z : false ≡ true = t in cc)) in let c = first.counted in omega arith)
    first.words_below (λ k x t. absurd (none_in (k, x) t)) (λ k x o t. absurd (none_in (k, x) t)) (λ t. refl)

pub meet_note_bounded : (n : ℕ) (ws : List ℕ) (vs : List View) (id other : ℕ) (v w : View) → VersionsBounded n ws vs → other ≢ id
    → Knows vs id v → Knows vs other w → VersionsBounded n ws (views_joined id other (after_note v w) vs)
meet_note_bounded n ws vs id other v w q ne me it = joined n ws vs id other v w (after_note v w) q ne me it refl refl (λ t. t)

pub join_seats_bounded : (n : ℕ) (ws : List ℕ) (vs : List View) (id other : ℕ) (v w : View) → VersionsBounded n ws vs → other ≢ id
    → Knows vs id v → Knows vs other w → VersionsBounded n ws (views_joined id other (after_joining v w) vs)
join_seats_bounded n ws vs id other v w q ne me it = joined n ws vs id other v w (after_joining v w) q ne me it refl refl (λ t. t)
