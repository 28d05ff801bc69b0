-- An entry that was made stands in every later state of the run: whoever has seen it goes on having seen it.
use Rattle.word_table.proofs.Common.{◌≡◌, ◌≢◌, ℕ, zero, suc, ◌-◌, ◌%◌, ◌≤◌, Bool, true, false, ⊎_elim, List, [], ◌∷◌, ◌++◌, Option, Some, None, slice_get}
use Rattle.word_table.proofs.Common.{slice_set, sym, ap, ◌∙◌, subst, arith, ◌==◌, if◌then◌else◌, bit_at, dite, ℕ_discrete, Entry, Cause, View, IsIn, without}
use Rattle.word_table.proofs.Common.{without_first, TableState, Knows, same_view, put_here, put_there, added_there, found_by, MayMeetNote, left_by_note}
use Rattle.word_table.proofs.Common.{MayJoinSeats, views_joined, left_by_split, is_free, after_asking, after_meeting, in_first, judged, after_judgement}
use Rattle.word_table.proofs.Common.{after_waiting, after_restarting, after_note, after_joining, IsRecorded, entry_of, gains_first, gains_second, Step}
use Rattle.word_table.proofs.Common.{SetReadBit, ClearReadBit, LoadWriter, ClaimWriter, ScanRow, ReleaseWriter, BeginCall, LoadValue, StoreValue, UndoStore}
use Rattle.word_table.proofs.Common.{CommitCall, ClearStamp, DrawStamp, AnnounceStamp, JudgeStamp, LoadCauseStamp, LoadVersion, StoreVersion, action_of, Joins}
use Rattle.word_table.proofs.Common.{Steps, IsRun}
use Rattle.word_table.specs.Meetings.{EntriesStay}
use Rattle.word_table.proofs.Runs.RunLaws.{before}

-- what v has seen, w has seen
abbrev pub Sees : View → View → Type 0
Sees v w = (e : Entry) → IsIn e v.seen → IsIn e w.seen

either : (b : Bool) (v x y : View) → Sees v x → Sees v y → Sees v (if b then x else y)
either true v x y p q = p
either false v x y p q = q

judging : (verdict : Option Cause) (v w : View) → Sees v w → Sees v (after_judgement verdict w)
judging None v w s = s
judging (Some cause) v w s = s

-- the kinds of step, one by one
pub sees : (st : Step) (v : View) (w : ℕ) → Sees v ((action_of st v).view w)
sees (SetReadBit j l a) v w = λ e t. t
sees (ClearReadBit j l) v w = λ e t. t
sees (LoadWriter j l a) v w =
    either (is_free j w) v (record (after_asking v a) { reads = l ∷ v.reads }) (after_meeting (after_asking v a) l (w - 1)) (λ e t. t) (λ e t. t)
sees (ClaimWriter j l a) v w =
    either (w == 0) v (record (after_asking v a) { claims = l ∷ v.claims; scans = without_first l v.scans })
    (after_meeting (after_asking v a) l (w - 1)) (λ e t. t) (λ e t. t)
sees (ScanRow j l i) v w =
    either (bit_at w (l % 64) == 0) v (record v { scans = (l, i) ∷ v.scans }) (after_meeting v l i) (λ e t. t) (λ e t. t)
sees (ReleaseWriter j l) v w = λ e t. t
sees (BeginCall j) v w = λ e t. t
sees (LoadValue j a) v w = λ e t. t
sees (StoreValue j a x) v w = λ e t. t
sees (UndoStore j a old) v w = λ e t. t
sees (CommitCall j kept) v w = λ e t. in_first v.seen (entry_of kept v ∷ []) e t
sees (ClearStamp j) v w = λ e t. t
sees (DrawStamp j) v w = λ e t. t
sees (AnnounceStamp j) v w = λ e t. t
sees (JudgeStamp j i) v w = judging (judged i w v.stamp) v (record v { met = without i v.met }) (λ e t. t)
sees (LoadCauseStamp j i stamp) v w = either (w == stamp) v (after_waiting v) (after_restarting v) (λ e t. t) (λ e t. t)
sees (LoadVersion j l) v w = λ e t. t
sees (StoreVersion j l x) v w = λ e t. t

-- one view is another, which has seen all that it had
recorded_put : (vs : List View) (id : ℕ) (v w : View) (e : Entry) → Knows vs id v → Sees v w → IsRecorded vs e → IsRecorded (slice_set vs id w) e
recorded_put vs id v w e me s r = dite (ℕ_discrete r.id id)
    (λ same. record {
      id = id;
      view = w;
      knows = put_here vs id v w me;
      seen = s e (subst (λ (u : View). IsIn e u.seen) (same_view vs id r.id v r.view me r.knows same) r.seen);
    })
    (λ ne. record { id = r.id; view = r.view; knows = put_there vs id r.id w r.view ne r.knows; seen = r.seen })

-- and one more is there
recorded_more : (vs : List View) (w : View) (e : Entry) → IsRecorded vs e → IsRecorded (vs ++ w ∷ []) e
recorded_more vs w e r = record { id = r.id; view = r.view; knows = added_there vs w r.view r.id r.knows; seen = r.seen }

-- a view takes in another, which is spent
recorded_join : (vs : List View) (id other : ℕ) (v w both : View) (e : Entry) → other ≢ id → Knows vs id v → Knows vs other w
    → Sees v both → Sees w both → IsRecorded vs e → IsRecorded (views_joined id other both vs) e
recorded_join vs id other v w both e ne me it mine theirs r =
    let here : Knows (slice_set vs id both) id both = put_here vs id v both me in
    let left : (u : View) → Knows (views_joined id other u vs) id u =
    λ u. put_there (slice_set vs id u) other id _ u (λ s. ne (sym s)) (put_here vs id v u me) in
    dite (ℕ_discrete r.id id)
    (λ same. record {
      id = id;
      view = both;
      knows = left both;
      seen = mine e (subst (λ (u : View). IsIn e u.seen) (same_view vs id r.id v r.view me r.knows same) r.seen);
    })
    (λ away. dite (ℕ_discrete r.id other)
    (λ same. record {
      id = id;
      view = both;
      knows = left both;
      seen = theirs e (subst (λ (u : View). IsIn e u.seen) (same_view vs other r.id w r.view it r.knows same) r.seen);
    })
    (λ apart. record {
      id = r.id;
      view = r.view;
      knows = put_there (slice_set vs id both) other r.id _ r.view apart (put_there vs id r.id both r.view away r.knows);
      seen = r.seen;
    }))

module _ (good : List ℕ → Type 0) (x y : TableState) (e : Entry) (r : IsRecorded x.views e) where
  joined_by : (may : View → View → Type 0) (both : View → View → View) (t : Joins may both x y)
      → Sees t.view (both t.view t.other_view) → Sees t.other_view (both t.view t.other_view) → IsRecorded y.views e
  joined_by may both t mine theirs = subst (λ (l : List View). IsRecorded l e) (sym t.views_are)
      (recorded_join x.views t.place t.other t.view t.other_view (both t.view t.other_view) e t.apart t.knows t.other_knows mine theirs r)

  stays : Steps good x y → IsRecorded y.views e
  stays = ⊎_elim
      (λ t. subst (λ (l : List View). IsRecorded l e) (sym t.views_are)
      (recorded_put x.views t.place t.view ((action_of t.step t.view).view (found_by (action_of t.step t.view) x.words)) e
      t.knows (sees t.step t.view (found_by (action_of t.step t.view) x.words)) r))
      (λ a. ⊎_elim
      (λ t. subst (λ (l : List View). IsRecorded l e) (sym t.views_are)
      (recorded_more (slice_set x.views t.place (left_by_split t.view)) _ e
      (recorded_put x.views t.place t.view (left_by_split t.view) e t.knows (λ z i. i) r)))
      (λ b. ⊎_elim
      (λ t. subst (λ (l : List View). IsRecorded l e) (sym t.views_are)
      (recorded_more (slice_set x.views t.place (left_by_note t.view)) _ e (recorded_put x.views t.place t.view (left_by_note t.view) e t.knows (λ z i. i) r)))
      (λ c. ⊎_elim
      (λ t. joined_by MayMeetNote after_note t (λ z i. gains_first t.view.seen t.other_view.seen z i)
      (λ z i. gains_second t.view.seen t.other_view.seen z i))
      (λ t. joined_by MayJoinSeats after_joining t (λ z i. gains_first t.view.seen t.other_view.seen z i)
      (λ z i. gains_second t.view.seen t.other_view.seen z i)) c) b) a)

some_same : (x y : TableState) → Some x ≡ Some y → x ≡ y
some_same x y e = cc

module _ (good : List ℕ → Type 0) (n : ℕ) (base : List ℕ) (run : List TableState) (fine : good base) (r : IsRun good n base run) (e : Entry)
    (p : ℕ) (x : TableState) (at : slice_get run p ≡ Some x) (here : IsRecorded x.views e) where
  at_once : (q : ℕ) (y : TableState) → p ≡ q → slice_get run q ≡ Some y → IsRecorded y.views e
  at_once q y same there = subst (λ (z : TableState). IsRecorded z.views e) (some_same x y (sym at ∙ (ap (λ (i : ℕ). slice_get run i) same ∙ there))) here

  kept_to : (q : ℕ) (y : TableState) → p ≤ q → slice_get run q ≡ Some y → IsRecorded y.views e
  kept_to zero y le there = at_once zero y (omega arith) there
  kept_to (suc q) y le there = dite (ℕ_discrete p (suc q))
      (λ same. at_once (suc q) y same there)
      (λ ne. let b = before run q y there in
      stays good b.0 y e (kept_to q b.0 (omega arith) b.1) (r.next q b.0 y b.1 there))

pub entries_stay : (good : List ℕ → Type 0) (n : ℕ) (base : List ℕ) → EntriesStay good n base
entries_stay good n base run p q x y e fine r at_x at_y le here = kept_to good n base run fine r e p x at_x here q y le at_y
