-- All passes of a table come together: the last seat has all numbers, and what it knows says what the table left.
use Rattle.word_table.proofs.Common.{◌≡◌, ◌≢◌, ℕ, zero, suc, ◌+◌, ◌<◌, true, false, ◌⊎◌, inl, inr, ⊎_elim, List, [], ◌∷◌, ◌++◌, length, drop, Some, slice_get}
use Rattle.word_table.proofs.Common.{slice_index, slice_set, refl, sym, ap, ◌∙◌, subst, arith, slice_get_within, same_Some, get_elem?, some, some-injective}
use Rattle.word_table.proofs.Common.{some-ne-none, dite, ℕ_discrete, State, Me, Final, Seen, TableId, Entry, AgreeWithVersions, Item, View, Phase, Idle}
use Rattle.word_table.proofs.Common.{Running, Yielding, Withdrawing, Releasing, IsGood, IsIn, has, Knows, value_word, Notes, number, same_view, put_cases}
use Rattle.word_table.proofs.Common.{has-join_same, spent_view, IsSeat, in_first, in_second, in_join, none_in, items_of_entry, after_joining, IsRecorded}
use Rattle.word_table.proofs.Common.{gains_first, gains_second, gains_cases, place, writes_of, ClosedView, AreAllPasses, fresh_pass, PassView, DeskView}
use Rattle.word_table.proofs.Common.{IsGathered, IsSound}
use Rattle.values_rule.proofs.Common.{IsArrangement, memory_of, version_at, items_of}
use Rattle.std.proofs.Common.{length-drop}
use Rattle.std.proofs.lemmas.List.{ext_get_or, get_or-drop, get_or-set_same, get_or-set_other}
use Rattle.atomic_table.specs.Table.{Joins}
use Rattle.std.specs.List.{flat_map}
use Rattle.history_model.specs.Undoing.{written_back}
use Rattle.locks_rule.proofs.Joining.{has-append_first, has-append_second}
use Rattle.values_rule.specs.Undone.{undone_by}
use Rattle.values_rule.proofs.Whole.Closing.{of_all, agree_with_table, has_arrangement}
use Rattle.values_rule.proofs.Whole.Undone.{undoing_restores}
use Rattle.word_table.specs.Closing.{IsCoherent, IsLegalInEachOrder, AreRecords, AreSeenBy}
use Rattle.word_table.proofs.Joined.Counting.{writes_counted}
use Rattle.word_table.specs.Gathering.{HasTaken}
use Rattle.word_table.proofs.Kept.KeptChanges.{join_seats_sound}

module _ (good : List ℕ → Type 0) (n : ℕ) (base : List ℕ) where
  abbrev Holds : State (Unit {0}) View → Type 0
  Holds s = IsSound good n base s.words s.views

  pub joins_at : (id other : ℕ) (v w : View) → v.phase ≡ Idle → w.phase ≡ Idle → (j : ℕ) × (has j v.who ≡ true) → (j : ℕ) × (has j w.who ≡ true)
      → Joins Holds id v other w (after_joining v w) spent_view
  joins_at id other v w phase other_phase named other_named s h known apart at = join_seats_sound good n base s.words s.views id other v w h apart known
      (⊎_elim (λ t. absurd (apart t.0)) (λ t. t.1) (put_cases s.views id other (after_joining v w) w at))
      (record { phase = phase; other_phase = other_phase; named = named; other_named = other_named })

-- a view has taken itself, and after one more join all that it had and the other
takes_itself : (v p : View) → v ≡ p → HasTaken v p
takes_itself v p e = record {
  numbers = λ j t. subst (λ (x : View). has j x.who ≡ true) (sym e) t;
  seen = λ x t. subst (λ (y : View). IsIn x y.seen) (sym e) t;
}

takes_more : (v w p : View) → HasTaken v p → HasTaken (after_joining v w) p
takes_more v w p t = record {
  numbers = λ j s. has-append_first j v.who w.who (t.numbers j s);
  seen = λ x s. gains_first v.seen w.seen x (t.seen x s);
}

takes_other : (v w p : View) → w ≡ p → HasTaken (after_joining v w) p
takes_other v w p e = record {
  numbers = λ j s. has-append_second j v.who w.who (subst (λ (x : View). has j x.who ≡ true) (sym e) s);
  seen = λ x s. gains_second v.seen w.seen x (subst (λ (y : View). IsIn x y.seen) (sym e) s);
}

-- what stands in a list with one more at its end
in_last : (xs : List PassView) (x p : PassView) → IsIn p (xs ++ x ∷ []) → IsIn p xs ⊎ (x ≡ p)
in_last [] x p t = ⊎_elim inr (λ s. absurd (none_in p s)) (in_join x [] p t)
in_last (y ∷ xs) x p t = ⊎_elim (λ e. inl (0, ap (λ (z : PassView). Some z) e))
    (λ s. ⊎_elim (λ i. inl (suc i.0, i.1)) inr (in_last xs x p s)) (in_join y (xs ++ x ∷ []) p t)

-- the first of the passes that come together
pub first_gathered : (table : TableId) (seats : ℕ) (left : List PassView) (x : PassView) (of : TableId)
    (me : Me (Unit {0}) View) → AreAllPasses table seats (left ++ x ∷ []) → of ≡ x.table → me ≡ (x.view, [])
    → has (number x.view) x.view.who ≡ true → IsGathered table (left ++ x ∷ []) left of me
first_gathered table seats left x of me all et em named =
    let here : IsIn x (left ++ x ∷ []) = in_second left (x ∷ []) x (0, refl) in
    let is : me.0 ≡ x.view = ap (λ (m : Me (Unit {0}) View). m.0) em in record {
      table_is = et ∙ all.of_table x here;
      slots = ap (λ (m : Me (Unit {0}) View). m.1) em;
      phase = ap (λ (v : View). v.phase) is ∙ all.idle x here;
      named = (number x.view, subst (λ (v : View). has (number x.view) v.who ≡ true) (sym is) named);
      each = λ p t. ⊎_elim (λ s. inl s) (λ e. inr (takes_itself me.0 p.view (is ∙ ap (λ (q : PassView). q.view) e))) (in_last left x p t);
      only = λ e t. (x, (here, subst (λ (v : View). IsIn e v.seen) is t));
      all_left = λ p t. let i = in_first left (x ∷ []) p t in (all.of_table p i, all.idle p i);
      among = λ p t. in_first left (x ∷ []) p t;
    }

-- and each further one
pub next_gathered : (table : TableId) (all passes left : List PassView) (x : PassView) (of of' : TableId)
    (me me' : Me (Unit {0}) View) (w : View) → IsGathered table all passes of me → passes ≡ left ++ x ∷ [] → w ≡ x.view
    → of' ≡ of → me' ≡ (after_joining me.0 w, me.1) → IsGathered table all left of' me'
next_gathered table all passes left x of of' me me' w g e ew et em =
    let here : IsIn x all = g.among x (subst (λ (l : List PassView). IsIn x l) (sym e) (in_second left (x ∷ []) x (0, refl))) in
    let is : me'.0 ≡ after_joining me.0 w = ap (λ (m : Me (Unit {0}) View). m.0) em in record {
      table_is = et ∙ g.table_is;
      slots = ap (λ (m : Me (Unit {0}) View). m.1) em ∙ g.slots;
      phase = ap (λ (v : View). v.phase) is ∙ g.phase;
      named = (g.named.0, subst (λ (v : View). has g.named.0 v.who ≡ true) (sym is) (has-append_first g.named.0 me.0.who w.who g.named.1));
      each = λ p t. ⊎_elim
          (λ s. ⊎_elim (λ z. inl z) (λ z.
          inr (subst (λ (v : View). HasTaken v p.view) (sym is) (takes_other me.0 w p.view (ew ∙ ap (λ (q : PassView). q.view) z))))
          (in_last left x p (subst (λ (l : List PassView). IsIn p l) e s)))
          (λ s. inr (subst (λ (v : View). HasTaken v p.view) (sym is) (takes_more me.0 w p.view s))) (g.each p t);
      only = λ y t. ⊎_elim (g.only y) (λ i. (x, (here, subst (λ (v : View). IsIn y v.seen) ew i)))
          (gains_cases me.0.seen w.seen y (subst (λ (v : View). IsIn y v.seen) is t));
      all_left = λ p t. g.all_left p (subst (λ (l : List PassView). IsIn p l) (sym e) (in_first left (x ∷ []) p t));
      among = λ p t. g.among p (subst (λ (l : List PassView). IsIn p l) (sym e) (in_first left (x ∷ []) p t));
    }

-- the one that was taken out last
pub next_pass : (table : TableId) (all passes left : List PassView) (x : PassView) (of : TableId)
    (me : Me (Unit {0}) View) → IsGathered table all passes of me → passes ≡ left ++ x ∷ [] → (x.table ≡ table) × (x.view.phase ≡ Idle)
next_pass table all passes left x of me g e = g.all_left x (subst (λ (l : List PassView). IsIn x l) (sym e) (in_second left (x ∷ []) x (0, refl)))

pub none_left : (xs : List PassView) → (0 < length xs → false ≡ true) → xs ≡ []
none_left [] e = refl
none_left (x ∷ xs) e = absurd (let z : false ≡ true = e (omega arith) in cc)

-- words that were copied so far
pub record AreCopied (ws : List ℕ) (first a : ℕ) (words : List ℕ) : Type 0 where
  pub at : (k : ℕ) → k < a → slice_index words k ≡ slice_index ws (first + k)

element : (l : List ℕ) (i x : ℕ) → get_elem? l i ≡ some x → slice_index l i ≡ x
element [] i x e = absurd (some-ne-none x (sym e))
element (y ∷ ys) zero x e = some-injective y x e
element (y ∷ ys) (suc i) x e = element ys i x e

pub copied_more : (ws : List ℕ) (first a x : ℕ) (words words' : List ℕ) → AreCopied ws first a words → a < length words
    → get_elem? ws (first + a) ≡ some x → words' ≡ slice_set words a x → AreCopied ws first (a + 1) words'
copied_more ws first a x words words' c lt e f = subst (λ (l : List ℕ). AreCopied ws first (a + 1) l) (sym f) record {
  at = λ k near. dite (ℕ_discrete k a)
      (λ z. subst (λ (y : ℕ). slice_index (slice_set words a x) y ≡ slice_index ws (first + y)) (sym z)
      (get_or-set_same words a x 0 lt ∙ sym (element ws (first + a) x e)))
      (λ ne. get_or-set_other words a k x 0 ne ∙ c.at k (omega arith));
}

pub all_copied : (ws : List ℕ) (first : ℕ) (words : List ℕ) → AreCopied ws first (length words) words → first + length words ≡ length ws → words ≡ drop first ws
all_copied ws first words c e = ext_get_or 0 words (drop first ws) (let l = length-drop first ws in
    omega arith) (λ k lt. c.at k lt ∙ sym (get_or-drop first ws k 0))

idle_or : (p : Phase) → (p ≡ Idle) ⊎ (p ≢ Idle)
idle_or Idle = inl refl
idle_or Running = inr (λ e. cc e)
idle_or Yielding = inr (λ e. cc e)
idle_or Withdrawing = inr (λ e. cc e)
idle_or Releasing = inr (λ e. cc e)

-- if no view has a note, nothing is written back
undone_none : (vs : List View) (s : List ℕ) → ((id : ℕ) (u : View) → Knows vs id u → u.undo ≡ []) → undone_by vs s ≡ s
unfolding undone_by written_back
undone_none [] s none = refl
undone_none (v ∷ vs) s none = ap (λ (notes : Notes). undone_by vs (written_back notes s)) (none zero v refl) ∙ undone_none vs s (λ id u e. none (suc id) u e)

-- a table of which one seat between calls has all numbers
module _ (good : List ℕ → Type 0) (n : ℕ) (base ws : List ℕ) (vs : List View) (id : ℕ) (v : View)
    (h : IsSound good n base ws vs) (me : Knows vs id v) (phase : v.phase ≡ Idle)
    (all : (j : ℕ) → j < n → has j v.who ≡ true) where
  nothing_noted : (other : ℕ) (u : View) → Knows vs other u → u.undo ≡ []
  nothing_noted other u k = ⊎_elim
      (λ idle. h.values.trace.rested other u k (inl idle))
      (λ busy. let c = h.values.calls.callers_alone other u k busy in
      let seat : IsSeat vs other u c.0 = record { knows = k; named = subst (λ (l : List ℕ). has c.0 l ≡ true) (sym c.1) (has-join_same c.0 []) } in
      let same : other ≡ id = h.locks.numbers_unique other id c.0 u v seat (record { knows = me; named = all c.0 (h.locks.numbers_below other c.0 u seat) }) in
      absurd (busy (ap (λ (x : View). x.phase) (same_view vs id other v u me k same) ∙ phase)))
      (idle_or u.phase)

  abbrev items : List Item
  items = flat_map items_of_entry v.seen

  all_of_it : (order : List Item) → IsArrangement (flat_map items_of_entry v.seen) order → IsArrangement (items_of vs) order
  all_of_it order a = of_all good n base ws vs id v h.locks h.values me phase all order a

  recorded : (e : Entry) → IsIn e v.seen → IsRecorded vs e
  recorded e t = record { id = id; view = v; knows = me; seen = t }

  -- whatever is recorded it has seen, since who made it is one of its numbers
  all_seen : (e : Entry) → IsRecorded vs e → IsIn e v.seen
  all_seen e r = h.values.records.own_seen id e.who v e (record { knows = me; named = all e.who (h.values.records.by_seat e r) }) r refl

  module _ {S : Type 0} (shape : S) (words : List ℕ) (words_are : words ≡ memory_of n ws) where
    abbrev closed : ClosedView S
    closed = record { base = base; seats = n; shape = shape; records = v.seen; words = words }

    agrees : AgreeWithVersions good base (version_at n ws) items
    agrees = agree_with_table good n base ws vs id v h.locks h.values me phase all

    counted : (k : ℕ) → version_at n ws k ≡ writes_of v.seen k
    counted = writes_counted good base (version_at n ws) v.seen agrees (h.values.records.apart id v me)
        (λ e x i j who call. h.values.records.one e x (recorded e i) (recorded x j) who call)

    pub ended_coherent : IsCoherent good closed
    ended_coherent = let some = has_arrangement good n base ws vs id v h.locks h.values me phase all in record {
      agree = subst (λ (next : ℕ → ℕ). AgreeWithVersions good base next items) (λ i k. counted k i) agrees;
      order = some.0;
      arranged = some.1;
    }

    pub ended_legal : IsLegalInEachOrder good closed
    ended_legal = record {
      placed = λ order a p x at. place good n base ws vs h.locks h.values order (all_of_it order a) p x at;
      words = λ order a. words_are ∙ (sym (undone_none vs (memory_of n ws) nothing_noted)
          ∙ undoing_restores good n base ws vs order h.locks h.values (all_of_it order a));
    }

    pub ended_records : AreRecords closed
    ended_records = record {
      apart = h.values.records.apart id v me;
      one = λ e x i j who call. h.values.records.one e x (recorded e i) (recorded x j) who call;
      knew_own = λ e x i j who call. h.values.records.knew_own e x (recorded e i) (recorded x j) who call;
      floors = λ e i. let f = h.values.records.floors e (recorded e i) in (
        f.known,
        f.apart,
        (λ x. (λ t. (all_seen x (f.only x t).0, (f.only x t).1), λ t. f.all x (recorded x t.0) t.1)),
        f.count,
      );
      causes = λ e i. h.values.records.causes e (recorded e i);
    }

-- what closing came to
pub record IsClosed {S : Type 0} (good : List ℕ → Type 0) (passes : List PassView) (closed : ClosedView S) : Type 0 where
  pub coherent : IsCoherent good closed
  pub legal : IsLegalInEachOrder good closed
  pub records : AreRecords closed
  pub seen : AreSeenBy passes closed.records

-- all passes of a table have come together in one seat, and the table is closed
pub is_closed : {S : Type 0} (good : List ℕ → Type 0) (n : ℕ) (base ws : List ℕ) (shape : S) (xs : List (Unit {0})) (id : ℕ)
    (me : Me (Unit {0}) View) (table of : TableId) (passes left : List PassView) (x : PassView) (first : ℕ) (words : List ℕ)
    → AreAllPasses table n passes → passes ≡ left ++ x ∷ [] → IsGathered table (left ++ x ∷ []) [] of me
    → Final (Seen (Holds good n base) id me.0) ws xs → first ≡ value_word n 0 → words ≡ drop first ws
    → IsClosed good passes (record { base = base; seats = n; shape = shape; records = me.0.seen; words = words })
is_closed {S} good n base ws shape xs id me table of passes left x first words all e gathered f at copied =
    let g : IsGathered table passes [] of me = subst (λ (l : List PassView). IsGathered table l [] of me) (sym e) gathered in
    let taken : (p : PassView) → IsIn p passes → HasTaken me.0 p.view = λ p t. ⊎_elim (λ s. absurd (none_in p s)) (λ s. s) (g.each p t) in
    let covers : (j : ℕ) → j < n → has j me.0.who ≡ true = λ j lt. let p = all.all j lt in
    (taken p.0 p.1).numbers j (subst (λ (l : List ℕ). has j l ≡ true) (sym p.2) (has-join_same j [])) in
    let left_words : words ≡ memory_of n f.0.words = copied ∙ (ap (λ (k : ℕ). drop k ws) at ∙ ap (λ (l : List ℕ). drop (value_word n 0) l) (sym f.2)) in
    record {
      coherent = ended_coherent good n base f.0.words f.0.views id me.0 f.1.0 f.1.1 g.phase covers shape words left_words;
      legal = ended_legal good n base f.0.words f.0.views id me.0 f.1.0 f.1.1 g.phase covers shape words left_words;
      records = ended_records good n base f.0.words f.0.views id me.0 f.1.0 f.1.1 g.phase covers shape words left_words;
      seen = λ y. (λ t. g.only y t, λ t. (taken t.0 t.1.0).seen y t.1.1);
    }

-- the same, of the desk that has the table, and of what the table is seen as
pub desk_closed : {S : Type 0} (word_count : S → ℕ) (good : S → List ℕ → Type 0) (desk seen : DeskView S)
    (passes : List PassView) (made closed : ClosedView S) → desk ≡ seen → closed ≡ made
    → IsClosed (IsGood (word_count desk.shape) (good desk.shape)) passes made
    → IsClosed (IsGood (word_count seen.shape) (good seen.shape)) passes closed
desk_closed {S} word_count good desk seen passes made closed is e h =
    subst (λ (d : DeskView S). IsClosed (IsGood (word_count d.shape) (good d.shape)) passes closed) is
    (subst (λ (c : ClosedView S). IsClosed (IsGood (word_count desk.shape) (good desk.shape)) passes c) (sym e) h)

pub all_of_desk : {S : Type 0} (desk seen : DeskView S) (passes : List PassView) → desk ≡ seen
    → AreAllPasses seen.table seen.seats passes → AreAllPasses desk.table desk.seats passes
all_of_desk {S} desk seen passes is all = subst (λ (d : DeskView S). AreAllPasses d.table d.seats passes) (sym is) all

pub seat_view : (me : Me (Unit {0}) View) (v : View) → me ≡ (v, []) → (me.0 ≡ v) × (me.1 ≡ [])
seat_view me v e = (ap (λ (m : Me (Unit {0}) View). m.0) e, ap (λ (m : Me (Unit {0}) View). m.1) e)

-- passes that were just dealt out are all passes
pub fresh_passes : (base : List ℕ) (n : ℕ) (table : TableId) (passes : List PassView) → length passes ≡ n
    → ((j : ℕ) → j < n → slice_get passes j ≡ Some (fresh_pass table base n j)) → AreAllPasses table n passes
fresh_passes base n table passes count each = record {
  of_table = λ p t. ap (λ (x : PassView). x.table) (is p t);
  idle = λ p t. ap (λ (x : PassView). x.view.phase) (is p t);
  all = λ j lt. (fresh_pass table base n j, (j, each j lt), refl);
}
  where
    is : (p : PassView) (t : IsIn p passes) → p ≡ fresh_pass table base n t.0
    is p t = let lt = slice_get_within passes t.0 p t.1 in
        same_Some p (fresh_pass table base n t.0) (sym t.1 ∙ each t.0 (omega arith))

-- the last of all passes may have gone on
pub last_went_on : (table : TableId) (n : ℕ) (left : List PassView) (x y : PassView)
    → AreAllPasses table n (left ++ x ∷ []) → y.table ≡ table → y.view.phase ≡ Idle → y.view.who ≡ x.view.who → AreAllPasses table n (left ++ y ∷ [])
last_went_on table n left x y all et ep ew = record {
  of_table = λ p t. ⊎_elim (λ s. all.of_table p (in_first left (x ∷ []) p s)) (λ e. subst (λ (z : PassView). z.table ≡ table) e et) (in_last left y p t);
  idle = λ p t. ⊎_elim (λ s. all.idle p (in_first left (x ∷ []) p s)) (λ e. subst (λ (z : PassView). z.view.phase ≡ Idle) e ep) (in_last left y p t);
  all = λ j lt. let p = all.all j lt in
      ⊎_elim (λ s. (p.0, in_first left (y ∷ []) p.0 s, p.2)) (λ e. (
        y,
        in_second left (y ∷ []) y (0, refl),
        ew
            ∙ (ap (λ (z : PassView). z.view.who) e ∙ p.2),
      )) (in_last left x p.0 p.1);
}
