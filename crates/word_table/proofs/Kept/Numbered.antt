-- A rule of views alone, of seats whose steps are counted.
use Rattle.word_table.proofs.Common.{◌≡◌, ℕ, zero, suc, ◌+◌, ◌<◌, List, [], ◌∷◌, ◌++◌, slice_index, slice_set, refl, sym, ap, ◌∙◌, subst, get_elem?, some}
use Rattle.word_table.proofs.Common.{TableId, Allows, Final, Me, Seen, Splits, State, View}
use Rattle.atomic_table.specs.Table.{Joins}
use Rattle.word_table.specs.declared.rule.Counted.{Counted}
use Rattle.word_table.specs.declared.rule.Ground.{Ground}
use Rattle.word_table.specs.Words.{known, views_of, SeatView, WordsView}

-- the view of one seat among all
view_at : (all : List Counted) (i : ℕ) (c : Counted) → get_elem? all i ≡ some c → get_elem? (views_of all) i ≡ some c.view
view_at [] i c e = cc
view_at (x ∷ xs) zero c e = let same : x ≡ c = cc in ap (λ (it : Counted). some it.view) same
view_at (x ∷ xs) (suc i) c e = view_at xs i c e

views_set : (all : List Counted) (i : ℕ) (c : Counted) → views_of (slice_set all i c) ≡ slice_set (views_of all) i c.view
views_set [] i c = refl
views_set (x ∷ xs) zero c = refl
views_set (x ∷ xs) (suc i) c = ap (λ l. x.view ∷ l) (views_set xs i c)

views_more : (all : List Counted) (c : Counted) → views_of (all ++ c ∷ []) ≡ views_of all ++ c.view ∷ []
views_more [] c = refl
views_more (x ∷ xs) c = ap (λ l. x.view ∷ l) (views_more xs c)

module _ (holds : List ℕ → List View → Type 0) where
  -- the rule of a table whose seats know views, and of one whose seats count their steps too
  abbrev pub Plain : State (Unit {0}) View → Type 0
  Plain s = holds s.words s.views

  abbrev pub Numbered : State (Unit {0}) Counted → Type 0
  Numbered s = holds s.words (views_of s.views)

  abbrev plain : State (Unit {0}) Counted → State (Unit {0}) View
  plain s = record { words = s.words; homes = s.homes; views = views_of s.views }

  -- each step is one more
  pub allows : (slots id : ℕ) (me : Me (Unit {0}) Counted) (i : ℕ) (f : ℕ → ℕ) (tell : ℕ → Me (Unit {0}) View → Type 0)
      → Allows Plain slots id (known me) i f tell
      → Allows Numbered slots id me i f (λ k after. tell k (known after) × (after.0.steps ≡ me.0.steps + 1))
  allows slots id me i f tell may s h homes is wide =
      let got = may (plain s) h homes (view_at s.views id me.0 is) wide in
      let c : Counted = record { view = got.0; steps = me.0.steps + 1 } in (
        c,
        got.1,
        got.2,
        subst (λ (vs : List View). holds (slice_set s.words i (f (slice_index s.words i))) vs) (sym (views_set s.views id c)) got.3,
        (got.4, refl),
      )

  pub splits : (id : ℕ) (v left right : Counted) → Splits Plain id v.view left.view right.view → Splits Numbered id v left right
  splits id v left right may s h is =
      subst (λ (vs : List View). holds s.words vs)
      (sym (views_more (slice_set s.views id left) right ∙ ap (λ (l : List View). l ++ right.view ∷ []) (views_set s.views id left)))
      (may (plain s) h (view_at s.views id v is))

  pub joins : (id : ℕ) (v : Counted) (other : ℕ) (w both spent : Counted)
      → Joins Plain id v.view other w.view both.view spent.view → Joins Numbered id v other w both spent
  joins id v other w both spent may s h is off there =
      subst (λ (vs : List View). holds s.words vs)
      (sym (views_set (slice_set s.views id both) other spent ∙ ap (λ (l : List View). slice_set l other spent.view) (views_set s.views id both)))
      (may (plain s) h (view_at s.views id v is) off
      (subst (λ (l : List View). get_elem? l other ≡ some w.view) (views_set s.views id both) (view_at (slice_set s.views id both) other w there)))

  pub final : (id : ℕ) (v : Counted) (words : List ℕ) (slots : List (Unit {0})) → Final (Seen Numbered id v) words slots
      → Final (Seen Plain id v.view) words slots
  final id v words slots end = (plain end.0, (end.1.0, view_at end.0.views id v end.1.1), end.2, end.3, end.4)

-- the table and the seat of a call, as it sees them and as they are
module _ {S : Type 0} (rule : Ground S → List ℕ → List View → Type 0) (table : WordsView S) (now : WordsView S) (is : table ≡ now) where
  module _ (seat : TableId) (id : ℕ) (me : Me (Unit {0}) Counted) (seen : SeatView)
      (is_seen : record { table_id = seat; id = id; me = known me; steps = me.0.steps } ≡ seen) where
    abbrev seat_view : SeatView
    seat_view = record { table_id = seat; id = id; me = known me; steps = me.0.steps }

    -- what holds of both as they are seen holds of them as they are
    carried : (P : WordsView S → SeatView → Type 0) → P now seen → P table seat_view
    carried P held = subst (λ v. P table v) (sym is_seen) (subst (λ t. P t seen) (sym is) held)

    pub step_allowed : (word : ℕ) (f : ℕ → ℕ) (tell : Me (Unit {0}) View → ℕ → Me (Unit {0}) View → Type 0)
        → seen.table_id ≡ now.table_id → word < now.table_id.words
        → Allows (Plain (rule now.key)) now.table_id.slots seen.id seen.me word f (tell seen.me)
        → (seat ≡ table.table_id) × (word < table.table_id.words)
        × Allows (Numbered (rule table.key)) table.table_id.slots id me word f
        (λ k after. tell (known me) k (known after) × (after.0.steps ≡ me.0.steps + 1))
    step_allowed word f tell of within may =
        let here = carried (λ t v. (v.table_id ≡ t.table_id) × (word < t.table_id.words)
        × Allows (Plain (rule t.key)) t.table_id.slots v.id v.me word f (tell v.me)) (of, within, may) in
        (here.0, here.1, allows (rule table.key) table.table_id.slots id me word f (tell (known me)) here.2)

    pub cut_allowed : (left right : View → View) → seen.table_id ≡ now.table_id → 0 < now.table_id.words
        → Splits (Plain (rule now.key)) seen.id seen.me.0 (left seen.me.0) (right seen.me.0)
        → (seat ≡ table.table_id) × (0 < table.table_id.words)
        × Splits (Numbered (rule table.key)) id me.0 (record { view = left me.0.view; steps = me.0.steps })
        (record { view = right me.0.view; steps = 0 })
    cut_allowed left right of within may =
        let here = carried (λ t v. (v.table_id ≡ t.table_id) × (0 < t.table_id.words)
        × Splits (Plain (rule t.key)) v.id v.me.0 (left v.me.0) (right v.me.0)) (of, within, may) in
        (here.0, here.1, splits (rule table.key) id me.0 _ _ here.2)

  pub known_at_end : (seat : TableId) (id : ℕ) (me : Me (Unit {0}) Counted) (seen : SeatView)
      → record { table_id = seat; id = id; me = known me; steps = me.0.steps } ≡ seen → (words : List ℕ) (slots : List (Unit {0}))
      → Final (Seen (Numbered (rule table.key)) id me.0) words slots → Final (Seen (Plain (rule now.key)) seen.id seen.me.0) words slots
  known_at_end seat id me seen is_seen words slots last =
      subst (λ (v : SeatView). Final (Seen (Plain (rule now.key)) v.id v.me.0) words slots) is_seen
      (subst (λ (t : WordsView S). Final (Seen (Plain (rule t.key)) id me.0.view) words slots) is (final (rule table.key) id me.0 words slots last))

  pub join_allowed : (seat : TableId) (id : ℕ) (me : Me (Unit {0}) Counted) (seen : SeatView)
      → record { table_id = seat; id = id; me = known me; steps = me.0.steps } ≡ seen
      → (other : TableId) (other_id : ℕ) (other_me : Me (Unit {0}) Counted) (other_seen : SeatView)
      → record { table_id = other; id = other_id; me = known other_me; steps = other_me.0.steps } ≡ other_seen
      → (both : View → View → View) (spent : View)
      → seen.table_id ≡ now.table_id → other_seen.table_id ≡ now.table_id → other_seen.me.1 ≡ [] → 0 < now.table_id.words
      → Joins (Plain (rule now.key)) seen.id seen.me.0 other_seen.id other_seen.me.0 (both seen.me.0 other_seen.me.0) spent
      → (seat ≡ table.table_id) × (other ≡ table.table_id) × (other_me.1 ≡ []) × (0 < table.table_id.words)
      × Joins (Numbered (rule table.key)) id me.0 other_id other_me.0
      (record { view = both me.0.view other_me.0.view; steps = me.0.steps }) (record { view = spent; steps = 0 })
  join_allowed seat id me seen is_seen other other_id other_me other_seen is_other both spent of other_of none within may =
      let P : WordsView S → SeatView → SeatView → Type 0 = λ t v w. (v.table_id ≡ t.table_id) × (w.table_id ≡ t.table_id) × (w.me.1 ≡ [])
      × (0 < t.table_id.words) × Joins (Plain (rule t.key)) v.id v.me.0 w.id w.me.0 (both v.me.0 w.me.0) spent in
      let here = subst (λ w. P table (record { table_id = seat; id = id; me = known me; steps = me.0.steps }) w) (sym is_other)
      (carried seat id me seen is_seen (λ t v. P t v other_seen) (of, other_of, none, within, may)) in
      (here.0, here.1, here.2, here.3, joins (rule table.key) id me.0 other_id other_me.0 _ _ here.4)
