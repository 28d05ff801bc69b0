-- What a pass has seen, the calls that it begins later knew: so it stands before their entries, in every arrangement. And
-- where an entry stands.
use Rattle.word_table.proofs.Common.{◌≡◌, ◌⊎◌, inl, inr, ⊎_elim, ℕ, zero, suc, ◌-◌, ◌%◌, ◌+◌, ◌<◌, ◌≤◌, Bool, true, false, List, [], ◌∷◌, ◌++◌, Option, Some}
use Rattle.word_table.proofs.Common.{None, slice_get, slice_index, slice_set, refl, sym, ap, ◌∙◌, subst, arith, ◌==◌, if◌then◌else◌, take, bit_at, dite}
use Rattle.word_table.proofs.Common.{ℕ_discrete, Entry, Cause, Item, View, IsIn, has, without, without_first, TableState, Knows, number, Change, StepTouches}
use Rattle.word_table.proofs.Common.{NewByStep, change_step, NewByCut, change_cut, NewByJoin, JoinTouches, change_join, same_view, differ, has-nil, has-one}
use Rattle.word_table.proofs.Common.{has-without, has-join_same, found_by, MayMeetNote, left_by_note, note_of, MayJoinSeats, spent_view, after_note}
use Rattle.word_table.proofs.Common.{after_joining, IsSeat, MaySplitSeat, left_by_split, given_by_split, is_free, after_asking, after_meeting, has-append}
use Rattle.word_table.proofs.Common.{own_number, judged, after_judgement, after_waiting, after_restarting, item_of_entry, IsRecorded, Knew, entry_of}
use Rattle.word_table.proofs.Common.{gains_first, gains_second, gains_cases, in_join, none_in, place, Step, SetReadBit, ClearReadBit, LoadWriter, ClaimWriter}
use Rattle.word_table.proofs.Common.{ScanRow, ReleaseWriter, BeginCall, LoadValue, StoreValue, UndoStore, CommitCall, ClearStamp, DrawStamp, AnnounceStamp}
use Rattle.word_table.proofs.Common.{JudgeStamp, LoadCauseStamp, LoadVersion, StoreVersion, action_of, May, view_after, TakesStep, CutsSeat, TakesNote, Joins}
use Rattle.word_table.proofs.Common.{Steps, IsRun, IsSound}
use Rattle.values_rule.proofs.Common.{replay_items}
use native.Mathlib.Decide.{dec_lt}
use Rattle.history_model.specs.Histories.{replay_effects}
use Rattle.values_rule.specs.Closing.{IsPlaced}
use Rattle.values_rule.proofs.Told.ItemsIn.{in_parts, entry_in_items}
use Rattle.word_table.specs.Meetings.{EntriesStand, LaterStandBehind}
use Rattle.word_table.proofs.Calls.Committing.{knew_seen}
use Rattle.word_table.proofs.Runs.Recorded.{sees, entries_stay}
use Rattle.word_table.proofs.Runs.RunLaws.{before, run_sound}
use Rattle.word_table.proofs.Runs.Stamped.{GoesTo, goes}

-- what w has seen v had seen, or it is the entry that the call of v gets
abbrev Gets : View → View → Type 0
Gets v w = (e : Entry) → IsIn e w.seen → IsIn e v.seen ⊎ ((i : ℕ) × (kept : Bool) × (v.who ≡ i ∷ []) × (entry_of kept v ≡ e))

either : (b : Bool) (v x y : View) → Gets v x → Gets v y → Gets v (if b then x else y)
either true v x y p q = p
either false v x y p q = q

judging : (verdict : Option Cause) (v w : View) → Gets v w → Gets v (after_judgement verdict w)
judging None v w s = s
judging (Some cause) v w s = s

-- the kinds of step, one by one
gets : (good : List ℕ → Type 0) (st : Step) (v : View) (w : ℕ) → May good st v → Gets v ((action_of st v).view w)
gets good (SetReadBit j l a) v w may = λ e t. inl t
gets good (ClearReadBit j l) v w may = λ e t. inl t
gets good (LoadWriter j l a) v w may =
    either (is_free j w) v (record (after_asking v a) { reads = l ∷ v.reads }) (after_meeting (after_asking v a) l (w - 1)) (λ e t. inl t) (λ e t. inl t)
gets good (ClaimWriter j l a) v w may =
    either (w == 0) v (record (after_asking v a) { claims = l ∷ v.claims; scans = without_first l v.scans })
    (after_meeting (after_asking v a) l (w - 1)) (λ e t. inl t) (λ e t. inl t)
gets good (ScanRow j l i) v w may =
    either (bit_at w (l % 64) == 0) v (record v { scans = (l, i) ∷ v.scans }) (after_meeting v l i) (λ e t. inl t) (λ e t. inl t)
gets good (ReleaseWriter j l) v w may = λ e t. inl t
gets good (BeginCall j) v w may = λ e t. inl t
gets good (LoadValue j a) v w may = λ e t. inl t
gets good (StoreValue j a x) v w may = λ e t. inl t
gets good (UndoStore j a old) v w may = λ e t. inl t
gets good (CommitCall j kept) v w may = λ e t. ⊎_elim inl
    (λ s. ⊎_elim (λ q. inr (j, kept, may.who, q)) (λ z. absurd (none_in e z)) (in_join (entry_of kept v) [] e s))
    (in_parts v.seen (entry_of kept v ∷ []) e t)
gets good (ClearStamp j) v w may = λ e t. inl t
gets good (DrawStamp j) v w may = λ e t. inl t
gets good (AnnounceStamp j) v w may = λ e t. inl t
gets good (JudgeStamp j i) v w may = judging (judged i w v.stamp) v (record v { met = without i v.met }) (λ e t. inl t)
gets good (LoadCauseStamp j i stamp) v w may = either (w == stamp) v (after_waiting v) (after_restarting v) (λ e t. inl t) (λ e t. inl t)
gets good (LoadVersion j l) v w may = λ e t. inl t
gets good (StoreVersion j l x) v w may = λ e t. inl t

module _ (good : List ℕ → Type 0) (n : ℕ) (base : List ℕ) (j c : ℕ) (x : Entry) (near : x.who < n) where
  -- what is known of seat j's view, once it has seen the entry: it is never cut, and has seen it still
  abbrev HasSeen : View → Type 0
  HasSeen u = ((u.who ≡ j ∷ []) ⊎ (u.joined ≡ true)) × IsIn x u.seen

  abbrev AllSeen : List View → Type 0
  AllSeen vs = (place : ℕ) (u : View) → Knows vs place u → has j u.who ≡ true → HasSeen u

  -- and of the entries of its later calls
  abbrev Later : Entry → Type 0
  Later e = e.who ≡ j → c < e.call → Knew e x

  abbrev AllKnew : List View → Type 0
  AllKnew vs = (e : Entry) → IsRecorded vs e → Later e

  -- a view that may be cut is none of which this is known
  cut_not : (i : ℕ) (v : View) → MaySplitSeat i v → HasSeen v → ⊥
  cut_not i v may s = ⊎_elim
      (λ t. let z : j ∷ [] ≡ i ∷ may.who.0 ∷ may.who.1 = sym t ∙ may.who.2 in cc)
      (λ t. differ v.joined t may.unjoined) s.0

  seen_changed : (vs vs' : List View) (Touched : ℕ → Type 0) (IsNew : ℕ → View → Type 0) → Change vs vs' Touched IsNew
      → ((other : ℕ) (u : View) → IsNew other u → has j u.who ≡ true → HasSeen u) → AllSeen vs → AllSeen vs'
  seen_changed vs vs' Touched IsNew change new old place u k named = ⊎_elim (λ t. new place u t named) (λ t. old place u t.1 named) (change.cases place u k)

  knew_changed : (vs vs' : List View) (Touched : ℕ → Type 0) (IsNew : ℕ → View → Type 0) → Change vs vs' Touched IsNew
      → ((other : ℕ) (u : View) → IsNew other u → (e : Entry) → IsIn e u.seen → Later e) → AllKnew vs → AllKnew vs'
  knew_changed vs vs' Touched IsNew change new old e r = ⊎_elim
      (λ t. new r.id r.view t e r.seen)
      (λ t. old e (record { id = r.id; view = r.view; knows = t.1; seen = r.seen })) (change.cases r.id r.view r.knows)

  nobody : {A : Type 0} (u : View) → [] ≡ u.who → has j u.who ≡ true → A
  nobody u e named = absurd (differ (has j []) (subst (λ (l : List ℕ). has j l ≡ true) (sym e) named) (has-nil j))

  module _ (s y : TableState) (h : IsSound good n base s.words s.views) (seen : AllSeen s.views) (knew : AllKnew s.views) where
    abbrev Both : List View → Type 0
    Both vs = AllSeen vs × AllKnew vs

    -- an entry that a view had seen before
    known : (id : ℕ) (v : View) → Knows s.views id v → (e : Entry) → IsIn e v.seen → Later e
    known id v k e t = knew e (record { id = id; view = v; knows = k; seen = t })

    goes_on : (v w : View) → GoesTo v w → ((e : Entry) → IsIn e v.seen → IsIn e w.seen) → HasSeen v → HasSeen w
    goes_on v w on more t = (⊎_elim (λ a. inl (on.0 ∙ a)) (λ a. inr (on.1 ∙ a)) t.0, more x t.1)

    takes : TakesStep good s y → Both y.views
    takes t =
        let v : View = t.view in
        let w : View = view_after t.step t.view s in
        let on : GoesTo v w = goes good t.step v (found_by (action_of t.step v) s.words) t.may in
        subst Both (sym t.views_are) (
          seen_changed s.views (slice_set s.views t.place w) (StepTouches t.place) (NewByStep t.place w)
              (change_step s.views t.place w)
              (λ other u e named. subst (λ (z : View). HasSeen z) e.1 (goes_on v w on (sees t.step v (found_by (action_of t.step v) s.words))
              (seen t.place v t.knows (subst (λ (l : List ℕ). has j l ≡ true) on.0 (subst (λ (z : View). has j z.who ≡ true) (sym e.1) named))))) seen,
          knew_changed s.views (slice_set s.views t.place w) (StepTouches t.place) (NewByStep t.place w)
              (change_step s.views t.place w)
              (λ other u f e i. ⊎_elim (known t.place v t.knows e)
              (λ g who later.
              let same : g.0 ≡ j = sym (ap (λ (l : List ℕ). slice_index l 0) g.2) ∙ (ap (λ (z : Entry). z.who) g.3 ∙ who) in
              let single : v.who ≡ j ∷ [] = g.2 ∙ ap (λ (k : ℕ). k ∷ []) same in
              let named : has j v.who ≡ true = own_number v j single in
              let seats : v.seats ≡ n = h.locks.seats_alike t.place j v (record { knows = t.knows; named = named }) in
              subst (λ (z : Entry). Knew z x) g.3
              (knew_seen g.1 v x (seen t.place v t.knows named).1 (subst (λ (m : ℕ). x.who < m) (sym seats) near)))
              (gets good t.step v (found_by (action_of t.step v) s.words) t.may e (subst (λ (z : View). IsIn e z.seen) (sym f.1) i))) knew,
        )

    cuts : CutsSeat s y → Both y.views
    cuts t =
        let v : View = t.view in
        let none : has j v.who ≡ true → ⊥ = λ named. cut_not t.number v t.may (seen t.place v t.knows named) in
        let own : number v ≡ t.number = ap (λ (l : List ℕ). slice_index l 0) t.may.who.2 in
        let first : has t.number v.who ≡ true =
        subst (λ (l : List ℕ). has t.number l ≡ true) (sym t.may.who.2) (has-join_same t.number (t.may.who.0 ∷ t.may.who.1)) in
        subst Both (sym t.views_are) (
          seen_changed s.views (slice_set s.views t.place (left_by_split v) ++ given_by_split v ∷ [])
              (StepTouches t.place) (NewByCut s.views t.place (left_by_split v) (given_by_split v))
              (change_cut s.views t.place (left_by_split v) (given_by_split v))
              (λ other u e named. ⊎_elim
              (λ g. absurd (none (subst (λ (i : ℕ). has i v.who ≡ true)
              (sym (has-one j (number v) (subst (λ (z : View). has j z.who ≡ true) (sym g.1) named) ∙ own)) first)))
              (λ l. absurd (none (has-without j (number v) v.who (subst (λ (z : View). has j z.who ≡ true) (sym l.1) named)).1)) e) seen,
          knew_changed s.views (slice_set s.views t.place (left_by_split v) ++ given_by_split v ∷ [])
              (StepTouches t.place) (NewByCut s.views t.place (left_by_split v) (given_by_split v))
              (change_cut s.views t.place (left_by_split v) (given_by_split v))
              (λ other u f e i. known t.place v t.knows e (⊎_elim
              (λ g. subst (λ (z : View). IsIn e z.seen) (sym g.1) i) (λ l. subst (λ (z : View). IsIn e z.seen) (sym l.1) i) f)) knew,
        )

    notes : TakesNote s y → Both y.views
    notes t =
        let v : View = t.view in
        subst Both (sym t.views_are) (
          seen_changed s.views (slice_set s.views t.place (left_by_note v) ++ note_of v ∷ [])
              (StepTouches t.place) (NewByCut s.views t.place (left_by_note v) (note_of v))
              (change_cut s.views t.place (left_by_note v) (note_of v))
              (λ other u e named. ⊎_elim
              (λ g. nobody u (ap (λ (z : View). z.who) g.1) named)
              (λ l. subst (λ (z : View). HasSeen z) l.1 (seen t.place v t.knows (subst (λ (z : View). has j z.who ≡ true) (sym l.1) named))) e) seen,
          knew_changed s.views (slice_set s.views t.place (left_by_note v) ++ note_of v ∷ [])
              (StepTouches t.place) (NewByCut s.views t.place (left_by_note v) (note_of v))
              (change_cut s.views t.place (left_by_note v) (note_of v))
              (λ other u f e i. known t.place v t.knows e (⊎_elim
              (λ g. subst (λ (z : View). IsIn e z.seen) (sym g.1) i) (λ l. subst (λ (z : View). IsIn e z.seen) (sym l.1) i) f)) knew,
        )

    joined_by : (may : View → View → Type 0) (both : View → View → View) (t : Joins may both s y)
        → (has j (both t.view t.other_view).who ≡ true → HasSeen (both t.view t.other_view))
        → ((e : Entry) → IsIn e (both t.view t.other_view).seen → IsIn e t.view.seen ⊎ IsIn e t.other_view.seen) → Both y.views
    joined_by may both t new parts = subst Both (sym t.views_are) (
      seen_changed s.views (slice_set (slice_set s.views t.place (both t.view t.other_view)) t.other spent_view)
          (JoinTouches t.place t.other) (NewByJoin t.place (both t.view t.other_view) t.other spent_view)
          (change_join s.views t.place t.other (both t.view t.other_view) spent_view)
          (λ other u e named. ⊎_elim
          (λ g. nobody u (ap (λ (z : View). z.who) g.1) named)
          (λ l. subst (λ (z : View). HasSeen z) l.1 (new (subst (λ (z : View). has j z.who ≡ true) (sym l.1) named))) e) seen,
      knew_changed s.views (slice_set (slice_set s.views t.place (both t.view t.other_view)) t.other spent_view)
          (JoinTouches t.place t.other) (NewByJoin t.place (both t.view t.other_view) t.other spent_view)
          (change_join s.views t.place t.other (both t.view t.other_view) spent_view)
          (λ other u f e i. ⊎_elim
          (λ g. absurd (none_in e (subst (λ (z : View). IsIn e z.seen) (sym g.1) i)))
          (λ l. ⊎_elim (known t.place t.view t.knows e) (known t.other t.other_view t.other_knows e)
          (parts e (subst (λ (z : View). IsIn e z.seen) (sym l.1) i))) f) knew,
    )

    steps_keep : Steps good s y → Both y.views
    steps_keep = ⊎_elim takes (λ a. ⊎_elim cuts (λ b. ⊎_elim notes (λ d. ⊎_elim
        (λ t. joined_by MayMeetNote after_note t
        (λ named. let a = seen t.place t.view t.knows named in (a.0, gains_first t.view.seen t.other_view.seen x a.1))
        (gains_cases t.view.seen t.other_view.seen))
        (λ t. joined_by MayJoinSeats after_joining t
        (λ named. (
          inr refl,
          ⊎_elim
              (λ one. gains_first t.view.seen t.other_view.seen x (seen t.place t.view t.knows one).1)
              (λ two. gains_second t.view.seen t.other_view.seen x (seen t.other t.other_view t.other_knows two).1)
              (has-append j t.view.who t.other_view.who named),
        ))
        (gains_cases t.view.seen t.other_view.seen)) d) b) a)

  some_same : (s y : TableState) → Some s ≡ Some y → s ≡ y
  some_same s y e = cc

  module _ (run : List TableState) (fine : good base) (r : IsRun good n base run) (p : ℕ) (s : TableState)
      (at : slice_get run p ≡ Some s) (start : AllSeen s.views × AllKnew s.views) where
    at_once : (q : ℕ) (y : TableState) → p ≡ q → slice_get run q ≡ Some y → AllSeen y.views × AllKnew y.views
    at_once q y e there = subst (λ (z : TableState). AllSeen z.views × AllKnew z.views)
        (some_same s y (sym at ∙ (ap (λ (i : ℕ). slice_get run i) e ∙ there))) start

    kept_to : (q : ℕ) (y : TableState) → p ≤ q → slice_get run q ≡ Some y → AllSeen y.views × AllKnew y.views
    kept_to zero y le there = at_once zero y (omega arith) there
    kept_to (suc q) y le there = dite (ℕ_discrete p (suc q))
        (λ e. at_once (suc q) y e there)
        (λ ne. let b = before run q y there in let k = kept_to q b.0 (omega arith) b.1 in
        steps_keep b.0 y (run_sound good n base run fine r q b.0 b.1) k.0 k.1 (r.next q b.0 y b.1 there))

-- a place before one that is in the order is in the order
earlier_place : (order : List Item) (k : ℕ) (y : Item) → slice_get order (suc k) ≡ Some y → (z : Item) × (slice_get order k ≡ Some z)
earlier_place [] k y at = cc
earlier_place (x ∷ order) zero y at = (x, refl)
earlier_place (x ∷ order) (suc k) y at = earlier_place order k y at

module _ (good : List ℕ → Type 0) (n : ℕ) (base : List ℕ) where
  pub later_stand_behind : LaterStandBehind good n base
  later_stand_behind run p q earlier later id j v x e order a b fine r at at_later le here single had made who more arranged at_a at_b =
      let sound = run_sound good n base run fine r p earlier at in
      let sound_later = run_sound good n base run fine r q later at_later in
      let seat : IsSeat earlier.views id v j = record { knows = here; named = own_number v j single } in
      let near : x.who < n = sound.values.records.by_seat x (record { id = id; view = v; knows = here; seen = had }) in
      let start : AllSeen good n base j v.call x near earlier.views = λ other u k t.
      let same = sound.locks.numbers_unique other id j u v (record { knows = k; named = t }) seat in
      subst (λ (z : View). HasSeen good n base j v.call x near z) (sym (same_view earlier.views id other v u here k same)) (inl single, had) in
      let none : AllKnew good n base j v.call x near earlier.views = λ y s mine after.
      let old = sound.values.calls.numbered id j v y seat (sound.values.calls.alone_unjoined id j v here single) s mine in absurd (omega arith) in
      let knew : Knew e x = (kept_to good n base j v.call x near run fine r p earlier at (start, none) q later le at_later).1 e made who more in
      let itself = sound_later.values.records.not_itself e made in
      dite (dec_lt a b) (λ lt. lt) (λ nlt. dite (ℕ_discrete a b)
      (λ eq. let same : item_of_entry x ≡ item_of_entry e = item_same (item_of_entry x) (item_of_entry e)
      (sym at_a ∙ (ap (λ (i : ℕ). slice_get order i) eq ∙ at_b)) in
      let whose : x.who ≡ e.who = ap (λ (i : Item). i.who) same in
      let which : x.call ≡ e.call = ap (λ (i : Item). i.call) same in
      let known : x.call ≤ slice_index e.knew e.who = subst (λ (i : ℕ). x.call ≤ slice_index e.knew i) whose knew in
      absurd (omega (arith, itself, which, known)))
      (λ ne. absurd (arranged.in_order b a (item_of_entry e) (item_of_entry x) at_b at_a (omega arith) (inr (inr (refl, knew))))))
    where
      item_same : (y z : Item) → Some y ≡ Some z → y ≡ z
      item_same y z q = cc

  -- the words that an item finds are good
  found_good : good base → (order : List Item) → ((k : ℕ) (y : Item) → slice_get order k ≡ Some y → IsPlaced good n base order k y)
      → (k : ℕ) (y : Item) → slice_get order k ≡ Some y → good (replay_items base (take k order))
  unfolding replay_effects
  found_good fine order places zero y at = fine
  found_good fine order places (suc k) y at = let b = earlier_place order k y at in
      subst (λ (m : ℕ). good (replay_items base (take m order))) (let m : k + 1 ≡ suc k = omega arith in m) (places k b.0 b.1).leaves_good

  pub entries_stand : EntriesStand good n base
  entries_stand run p q earlier later e order fine r at at_later le made arranged =
      let h = run_sound good n base run fine r q later at_later in
      let stays = entries_stay good n base run p q earlier later e fine r at at_later le made in
      let there = (arranged.same (item_of_entry e)).1 (entry_in_items later.views (item_of_entry e) (record { entry = e; recorded = stays; is = inl refl })) in
      let at_place = place good n base later.words later.views h.locks h.values order arranged in (
        there.0,
        there.1,
        found_good fine order at_place there.0 (item_of_entry e) there.1,
        (at_place there.0 (item_of_entry e) there.1).legal,
      )
