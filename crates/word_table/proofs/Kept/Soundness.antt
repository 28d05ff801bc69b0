-- Each atomic operation may be any kind of step that fits it.
use Rattle.word_table.proofs.Common.{◌≡◌, ℕ, ◌+◌, ◌%◌, ◌^◌, ◌<◌, Bool, true, false, List, slice_index, slice_set, refl, sym, ap, ◌∙◌, subst, ◌==◌}
use Rattle.word_table.proofs.Common.{if◌then◌else◌, either, State, Me, Allows, View, Knows, Action, found_by, views_after, Step, action_of, May, Stores, Grows}
use Rattle.word_table.proofs.Common.{IsSound}
use Rattle.std.proofs.Math.Nat.{mod-eq_of_lt}
use Rattle.atomic_table.specs.Table.{Act, keeps}
use Rattle.word_table.specs.Kinds.{Took}
use Rattle.word_table.proofs.Kept.KeptKinds.{sound_kept}

-- a view with what the seat has taken, which is nothing here
abbrev pub told : Me (Unit {0}) View → View → Me (Unit {0}) View
told me v = (v, me.1)

-- what a step of this kind tells
abbrev pub Tells : (List ℕ → List View → Type 0) → Step → Me (Unit {0}) View → ℕ → Me (Unit {0}) View → Type 0
Tells sound kind me k after = Took sound (action_of kind me.0) me after k

abbrev pub PutsTo : (List ℕ → List View → Type 0) → Step → Me (Unit {0}) View → ℕ → Me (Unit {0}) View → Type 0
PutsTo sound kind me k after = (after ≡ told me ((action_of kind me.0).view k)) × ((found : ℕ) × Took sound (action_of kind me.0) me after found)

same_step : (me : Me (Unit {0}) View) (k : ℕ) (a b : Step) → a ≡ b → told me ((action_of a me.0).view k) ≡ told me ((action_of b me.0).view k)
same_step me k a b e = ap (λ (st : Step). told me ((action_of st me.0).view k)) e

chosen : (b : Bool) (x y : ℕ) → (if b then x else y) ≡ either b x y
chosen true x y = refl
chosen false x y = refl

module _ (good : List ℕ → Type 0) (n : ℕ) (base : List ℕ) where
  allowed : (slots id : ℕ) (me : Me (Unit {0}) View) (st : Step) (i : ℕ) (f : ℕ → ℕ) (tell : ℕ → Me (Unit {0}) View
      → Type 0) → i ≡ (action_of st me.0).at → May good st me.0
      → ((ws : List ℕ) (vs : List View) → IsSound good n base ws vs → Knows vs id me.0
      → found_by (action_of st me.0) ws < 2 ^ 64 → (action_of st me.0).writes (found_by (action_of st me.0) ws) ≡ f (found_by (action_of st me.0) ws))
      → ((k : ℕ) (after : Me (Unit {0}) View) → after ≡ told me ((action_of st me.0).view k)
      → Took (IsSound good n base) (action_of st me.0) me after k → tell k after)
      → Allows (λ (s : State (Unit {0}) View). IsSound good n base s.words s.views) slots id me i f tell
  allowed slots id me st i f tell at may writes tells s h homes known wide =
      let x : Action = action_of st me.0 in
      let P : ℕ → Type 0 = λ p. (slice_index s.words p < 2 ^ 64) → (w : View) × (a : Act (Unit {0})) × Unit {0}
      × IsSound good n base (slice_set s.words p (f (slice_index s.words p))) (slice_set s.views id w) × tell (slice_index s.words p) (told me w) in
      let here : P x.at = λ lt. (
        x.view (found_by x s.words),
        keeps,
        tt,
        subst (λ (y : ℕ). IsSound good n base (slice_set s.words x.at y) (views_after x id s.words s.views))
            (writes s.words s.views h known lt) (sound_kept good n base st s.words s.views id me.0 h known may),
        tells (found_by x s.words) (told me (x.view (found_by x s.words)))
            refl (record { words = s.words; views = s.views; place = id; holds = h; knows = known; found_is = refl; view = refl }, refl),
      ) in
      let got = subst P (sym at) here wide in (got.0, keeps, tt, got.3, got.4)

module _ (good : List ℕ → Type 0) (n : ℕ) (base : List ℕ) (slots id : ℕ) (me : Me (Unit {0}) View) (st kind : Step)
    (same : st ≡ kind) (i : ℕ) (at : i ≡ (action_of st me.0).at) (may : May good st me.0)
    (sound : List ℕ → List View → Type 0) (weaker : (ws : List ℕ) (vs : List View) → IsSound good n base ws vs → sound ws vs) where
  abbrev Holds : State (Unit {0}) View → Type 0
  Holds s = IsSound good n base s.words s.views

  tells_kind : (k : ℕ) (after : Me (Unit {0}) View) → after ≡ told me ((action_of st me.0).view k)
      → Took (IsSound good n base) (action_of st me.0) me after k → Tells sound kind me k after
  tells_kind k after e took = let t = took.0 in
      subst (λ (x : Step). Took sound (action_of x me.0) me after k) same (
        record {
          words = t.words;
          views = t.views;
          place = t.place;
          holds = weaker t.words t.views t.holds;
          knows =
              t.knows;
          found_is = t.found_is;
          view = t.view;
        },
        took.1,
      )

  pub load_allowed : ((w : ℕ) → (action_of st me.0).writes w ≡ w) → Allows Holds slots id me i (λ k. k) (Tells sound kind me)
  load_allowed reads = allowed good n base slots id me st i (λ k. k) (Tells sound kind me) at may (λ ws vs h known wide.
      reads (found_by (action_of st me.0) ws)) tells_kind

  pub store_allowed : (new : ℕ) → ((w : ℕ)
      → (action_of st me.0).view w ≡ (action_of st me.0).view new) → Stores (action_of st me.0) me.0 new
      → Allows Holds slots id me i (λ _. new) (λ _. PutsTo sound kind me new)
  store_allowed new blind stored = allowed good n base slots id me st i (λ _. new) (λ _. PutsTo sound kind me new) at
      may (λ ws vs h known wide. stored n base ws vs id h.locks known wide)
      (λ k after e t. (e ∙ (ap (λ (v : View). told me v) (blind k) ∙ same_step me new st kind same), (k, tells_kind k after e t)))

  pub exchange_allowed : (old new : ℕ) → ((w : ℕ) → (action_of st me.0).writes w ≡ (if w == old then new else w))
      → Allows Holds slots id me i (λ k. either (k == old) new k) (Tells sound kind me)
  exchange_allowed old new writes = allowed good n base slots id me st i (λ k. either (k == old) new k) (Tells sound kind me) at may
      (λ ws vs h known wide. writes (found_by (action_of st me.0) ws)
      ∙ chosen (found_by (action_of st me.0) ws == old) new (found_by (action_of st me.0) ws)) tells_kind

  pub add_allowed : ((w : ℕ) → (action_of st me.0).writes w ≡ w + 1) → Grows good (action_of st me.0) me.0
      → Allows Holds slots id me i (λ k. (k + 1) % 2 ^ 64) (Tells sound kind me)
  add_allowed more room = allowed good n base slots id me st i (λ k. (k + 1) % 2 ^ 64) (Tells sound kind me) at may
      (λ ws vs h known wide. let fits = room n base ws vs id h known in more (found_by (action_of st me.0) ws) ∙ sym (mod-eq_of_lt fits)) tells_kind
