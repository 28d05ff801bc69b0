-- Changes of a map, and how they are put into it.
use Rattle.books_model.proofs.Common.{◌≡◌, ℕ, Bool, true, false, cond, List, [], ◌∷◌, Option, Some, None, IsSome, IfSome, is_some, ◌⊎◌, inl, inr, refl, sym, ap}
use Rattle.books_model.proofs.Common.{subst, ◌∙◌, Ordering, IsTotalOrder, eq_by_cmp_equiv, tied_itself, eq_by_cmp, is_eq, is_at, keys_of, IsStrictlySortedBy}
use Rattle.books_model.proofs.Common.{FinMap, get, insert, remove, get-insert, get-remove, same_map, CmpEqualImpliesEq, tells_apart, Change, set_at, changed}
use Rattle.books_model.proofs.Common.{KnowBefore, HasRoomFor, IsRoomier}
use Rattle.std.proofs.Common.{IfNone}
use Rattle.std.proofs.lemmas.Map.{lookup-none}
use Rattle.std.proofs.lemmas.Map.Entries.{lookup_head, none_past_head}
use Rattle.std.proofs.lemmas.Map.Keys.{IsDistinct-from_sorted}
use Rattle.books_model.proofs.Maps.Comparing.{none_of}
use Rattle.books_model.proofs.Maps.Trees.{stays_after_insert}
use Rattle.books_model.specs.Inner.Changes.{change_at, new_value}

-- what a change leaves at its key, or what was there if nothing is changed
abbrev pub now_or : Option Change → Option ℕ → Option ℕ
now_or None was = was
now_or (Some change) was = change.now

-- a change in front of others
now_or-cond : (b : Bool) (change : Change) (others : Option Change) (was : Option ℕ)
    → cond b change.now (now_or others was) ≡ now_or (cond b (Some change) others) was
now_or-cond true change others was = refl
now_or-cond false change others was = refl

-- a change behind others, none of which is where it is
now_or-last : (b : Bool) (w : Option ℕ) (others : Option Change) (was : Option ℕ) → (b ≡ true → others ≡ None)
    → now_or others (cond b w was) ≡ cond b w (now_or others was)
now_or-last true w others was none = ap (λ x. now_or x w) (none refl)
now_or-last false w others was none = refl

-- making room: what is left of the changes are changes, and each key that changes give a value is in the map or among those that are left
pub record IsMaking {K : Type 0} {R : K → K → Ordering} (before : FinMap R ℕ) (all : List (K × Change))
    (now : FinMap R ℕ) (es : List (K × Change)) : Type 0 where
  pub left : (q : K) (change : Change) → change_at R es q ≡ Some change → change_at R all q ≡ Some change
  pub roomier : IsRoomier all before now
  pub room : (q : K) (change : Change) → change_at R all q ≡ Some change → IsSome change.now → IsSome (get now q) ⊎ (change_at R es q ≡ Some change)

module _ {K : Type 0} {R : K → K → Ordering} (o : IsTotalOrder R) where
  -- what a map has after a change at a key
  pub get-set_at : {X : Type 0} (m : FinMap R X) (k : K) (w : Option X) (q : K) → get (set_at m k w) q ≡ cond (eq_by_cmp R q k) w (get m q)
  get-set_at m k None q = get-remove o m k q
  get-set_at m k (Some v) q = get-insert o m k v q

  -- what a map has after changes
  pub get-changed : (m : FinMap R ℕ) (es : List (K × Change)) (q : K) → get (changed m es) q ≡ now_or (change_at R es q) (get m q)
  get-changed m [] q = refl
  get-changed m (e ∷ es) q =
      get-set_at (changed m es) e.0 e.1.now q
      ∙ ap (cond (eq_by_cmp R q e.0) e.1.now) (get-changed m es q)
      ∙ now_or-cond (eq_by_cmp R q e.0) e.1 (change_at R es q) (get m q)

  -- a change that is found is what its key has afterwards
  pub changed-found : (es : List (K × Change)) (q : K) (found : Option Change) → found ≡ change_at R es q
      → IfSome found (λ change. (m : FinMap R ℕ) → get (changed m es) q ≡ change.now)
  changed-found es q None is = tt
  changed-found es q (Some change) is = λ m. get-changed m es q ∙ ap (λ x. now_or x (get m q)) (sym is)

  -- a key for which none is found has afterwards what it had
  pub changed-missed : (es : List (K × Change)) (q : K) (found : Option Change) → found ≡ change_at R es q
      → IfNone found ((m : FinMap R ℕ) → get (changed m es) q ≡ get m q)
  changed-missed es q None is = λ m. get-changed m es q ∙ ap (λ x. now_or x (get m q)) (sym is)
  changed-missed es q (Some change) is = tt

  -- the change at the first key is the first one
  pub change_at_first : (e : K × Change) (es : List (K × Change)) → change_at R (e ∷ es) e.0 ≡ Some e.1
  change_at_first e es = lookup_head (is_at (R e.0)) e es (ap is_eq (tied_itself o e.0))

  -- if keys rise, nothing further on is changed at the first one
  pub none_further : (e : K × Change) (es : List (K × Change)) (q : K) → IsStrictlySortedBy R (keys_of (e ∷ es))
      → eq_by_cmp R q e.0 ≡ true → change_at R es q ≡ None
  none_further e es q sorted at =
      lookup-none (is_at (R q)) es (none_past_head (eq_by_cmp_equiv o) q e es (IsDistinct-from_sorted R (keys_of (e ∷ es)) sorted) at)

  -- if keys rise, a key that is changed further on is not the first one
  pub apart_further : (e : K × Change) (es : List (K × Change)) (q : K) (change : Change)
      → IsStrictlySortedBy R (keys_of (e ∷ es)) → change_at R es q ≡ Some change → eq_by_cmp R q e.0 ≡ false
  apart_further e es q change sorted there = elim (eq_by_cmp R q e.0) as (λ b. eq_by_cmp R q e.0 ≡ b → eq_by_cmp R q e.0 ≡ false) [
    | true ↦ λ at. let none = none_further e es q sorted at in absurd (cc)
    | false ↦ λ apart. apart
  ] refl

  -- if keys rise, a change further on is one of all
  pub change_further : (e : K × Change) (es : List (K × Change)) (q : K) (change : Change)
      → IsStrictlySortedBy R (keys_of (e ∷ es)) → change_at R es q ≡ Some change → change_at R (e ∷ es) q ≡ Some change
  change_further e es q change sorted there = ap (λ b. cond b (Some e.1) (change_at R es q)) (apart_further e es q change sorted there) ∙ there

  -- changes further on know what their keys had before too
  pub KnowBefore-further : (m : FinMap R ℕ) (e : K × Change) (es : List (K × Change))
      → IsStrictlySortedBy R (keys_of (e ∷ es)) → KnowBefore m (e ∷ es) → KnowBefore m es
  KnowBefore-further m e es sorted known = λ q change there. known q change (change_further e es q change sorted there)

  -- changes further on know what their keys have in a map changed at the first one
  pub KnowBefore-past : (m : FinMap R ℕ) (e : K × Change) (es : List (K × Change)) (w : Option ℕ)
      → IsStrictlySortedBy R (keys_of (e ∷ es)) → KnowBefore m (e ∷ es) → KnowBefore (set_at m e.0 w) es
  KnowBefore-past m e es w sorted known = λ q change there.
      known q change (change_further e es q change sorted there)
      ∙ sym (get-set_at m e.0 w q ∙ ap (λ b. cond b w (get m q)) (apart_further e es q change sorted there))

  module _ (exact : CmpEqualImpliesEq R) where
    -- changes in order may be put in from the first to the last
    pub changed-first : (m : FinMap R ℕ) (e : K × Change) (es : List (K × Change))
        → IsStrictlySortedBy R (keys_of (e ∷ es)) → changed (set_at m e.0 e.1.now) es ≡ changed m (e ∷ es)
    changed-first m e es sorted = same_map o exact (changed (set_at m e.0 e.1.now) es) (changed m (e ∷ es)) (λ q.
        get-changed (set_at m e.0 e.1.now) es q
        ∙ ap (now_or (change_at R es q)) (get-set_at m e.0 e.1.now q)
        ∙ now_or-last (eq_by_cmp R q e.0) e.1.now (change_at R es q) (get m q) (none_further e es q sorted)
        ∙ ap (cond (eq_by_cmp R q e.0) e.1.now) (sym (get-changed m es q))
        ∙ sym (get-set_at (changed m es) e.0 e.1.now q))

    module _ (es fs : List (K × Change)) (k : K) (change : Change) (noted : (q : K)
        → change_at R fs q ≡ cond (is_at (R k) q) (Some change) (change_at R es q)) where
      -- one more change is a change of the changed map
      pub changed-noted : (m : FinMap R ℕ) → changed m fs ≡ set_at (changed m es) k change.now
      changed-noted m = same_map o exact (changed m fs) (set_at (changed m es) k change.now) (λ q.
          get-changed m fs q
          ∙ ap (λ x. now_or x (get m q)) (noted q)
          ∙ sym (now_or-cond (is_at (R k) q) change (change_at R es q) (get m q))
          ∙ ap (cond (is_at (R k) q) change.now) (sym (get-changed m es q))
          ∙ ap (λ b. cond b change.now (get (changed m es) q)) ((eq_by_cmp_equiv o).symm k q)
          ∙ sym (get-set_at (changed m es) k change.now q))

      -- a change that knows what its key had joins others that do
      pub KnowBefore-noted : (m : FinMap R ℕ) → change.before ≡ get m k → KnowBefore m es → KnowBefore m fs
      KnowBefore-noted m was known = λ q found there. elim (is_at (R k) q) as (λ b. is_at (R k) q ≡ b
          → cond b (Some change) (change_at R es q) ≡ Some found → found.before ≡ get m q) [
            | true ↦ λ at f. let same : change ≡ found = cc in ap (λ (c : Change). c.before) (sym same) ∙ was ∙ ap (get m) (tells_apart exact k q at)
            | false ↦ λ at f. known q found f
          ] refl (sym (noted q) ∙ there)

    -- changes have one result on a map and on it with room for them
    pub changed-roomier : (m n : FinMap R ℕ) (es : List (K × Change)) → IsRoomier es m n → changed n es ≡ changed m es
    changed-roomier m n es h = same_map o exact (changed n es) (changed m es) (λ q.
        get-changed n es q
        ∙ elim (change_at R es q) as (λ x. change_at R es q ≡ x → now_or x (get n q) ≡ now_or x (get m q)) [
          | None ↦ λ none. h.others q none
          | Some change ↦ λ _. refl
        ] refl
        ∙ sym (get-changed m es q))

    -- what the cases of a change in front of others are
    change_cases : (e : K × Change) (es : List (K × Change)) (q : K) (change : Change)
        → change_at R (e ∷ es) q ≡ Some change → ((q ≡ e.0) × (change ≡ e.1)) ⊎ (change_at R es q ≡ Some change)
    change_cases e es q change found = elim (eq_by_cmp R q e.0) as (λ b. eq_by_cmp R q e.0 ≡ b
        → cond b (Some e.1) (change_at R es q) ≡ Some change → ((q ≡ e.0) × (change ≡ e.1)) ⊎ (change_at R es q ≡ Some change)) [
          | true ↦ λ at f. inl (tells_apart exact q e.0 at, cc)
          | false ↦ λ at f. inr f
        ] refl found

    -- after a change at a key that had room, there is room for those further on
    pub HasRoomFor-further : (m : FinMap R ℕ) (e : K × Change) (es : List (K × Change))
        → IsStrictlySortedBy R (keys_of (e ∷ es)) → HasRoomFor m (e ∷ es) → HasRoomFor (set_at m e.0 e.1.now) es
    HasRoomFor-further m e es sorted room = λ q change there some.
        subst IsSome (sym (get-set_at m e.0 e.1.now q
        ∙ ap (λ b. cond b e.1.now (get m q)) (apart_further e es q change sorted there))) (room q change (change_further e es q change sorted there) some)

    -- at most one of two maps at a key
    at_or_apart : (q k : K) → (q ≡ k) ⊎ (eq_by_cmp R q k ≡ false)
    at_or_apart q k = elim (eq_by_cmp R q k) as (λ b. eq_by_cmp R q k ≡ b → (q ≡ k) ⊎ (eq_by_cmp R q k ≡ false)) [
      | true ↦ λ at. inl (tells_apart exact q k at)
      | false ↦ λ apart. inr apart
    ] refl

    module _ (before : FinMap R ℕ) (all : List (K × Change)) (known : KnowBefore before all) (now : FinMap R ℕ) (e : K × Change) (es : List (K × Change)) where
      -- a key with a new value gets room
      pub making-new : (v : ℕ) → IsStrictlySortedBy R (keys_of (e ∷ es)) → IsMaking before all now (e ∷ es)
          → new_value e.1 ≡ Some v → IsMaking before all (insert now e.0 v) es
      making-new v sorted h new =
          let first : change_at R all e.0 ≡ Some e.1 = h.left e.0 e.1 (change_at_first e es) in
          let absent : get before e.0 ≡ None = sym (known e.0 e.1 first) ∙ was_none e.1 v new in
          record {
            left = λ q change there. h.left q change (change_further e es q change sorted there);
            roomier = record {
              kept = λ q there. elim (at_or_apart q e.0) [
                | inl same ↦ let none : get before q ≡ None = ap (get before) same ∙ absent in
                    let found : IsSome {T = ℕ} None = subst IsSome none there in absurd (cc)
                | inr apart ↦ get-insert o now e.0 v q ∙ ap (λ b. cond b (Some v) (get now q)) apart ∙ h.roomier.kept q there
              ];
              others = λ q none. elim (at_or_apart q e.0) [
                | inl same ↦ let found : change_at R all q ≡ Some e.1 = ap (change_at R all) same ∙ first in absurd (cc)
                | inr apart ↦ get-insert o now e.0 v q ∙ ap (λ b. cond b (Some v) (get now q)) apart ∙ h.roomier.others q none
              ];
            };
            room = λ q change there some. elim (h.room q change there some) [
              | inl was ↦ inl (stays_after_insert o now e.0 q v was)
              | inr ahead ↦ elim (change_cases e es q change ahead) [
                | inl this ↦ inl (subst (λ k. IsSome (get (insert now e.0 v) k)) (sym this.0)
                    (subst IsSome (sym (get-insert o now e.0 v e.0 ∙ ap (λ r. cond (is_eq r) (Some v) (get now e.0)) (tied_itself o e.0))) refl))
                | inr further ↦ inr further
              ]
            ];
          }
        where
          was_none : (change : Change) (v : ℕ) → new_value change ≡ Some v → change.before ≡ None
          was_none change v is = elim change.before as (λ b. cond (is_some b) None change.now ≡ Some v → b ≡ None) [
            | None ↦ λ _. refl
            | Some u ↦ λ f. absurd (cc)
          ] is

      -- a key with no new value needs none
      pub making-old : IsStrictlySortedBy R (keys_of (e ∷ es)) → IsMaking before all now (e ∷ es) → new_value e.1 ≡ None → IsMaking before all now es
      making-old sorted h old = record {
        left = λ q change there. h.left q change (change_further e es q change sorted there);
        roomier = h.roomier;
        room = λ q change there some. elim (h.room q change there some) [
          | inl was ↦ inl was
          | inr ahead ↦ elim (change_cases e es q change ahead) [
            | inl this ↦
                let first : change_at R all e.0 ≡ Some e.1 = h.left e.0 e.1 (change_at_first e es) in
                let was : IsSome (get before e.0) = subst IsSome (known e.0 e.1 first) (was_some e.1 old (subst (λ (c : Change). IsSome c.now) this.1 some)) in
                inl (subst (λ k. IsSome (get now k)) (sym this.0) (subst IsSome (sym (h.roomier.kept e.0 was)) was))
            | inr further ↦ inr further
          ]
        ];
      }
        where
          was_some : (change : Change) → new_value change ≡ None → IsSome change.now → IsSome change.before
          was_some change is some = elim change.before as (λ b. cond (is_some b) None change.now ≡ None → IsSome b) [
            | None ↦ λ f. let found : IsSome {T = ℕ} None = subst IsSome f some in absurd (cc)
            | Some u ↦ λ _. refl
          ] is

    module _ (before now : FinMap R ℕ) (e : K × Change) (es : List (K × Change)) (was : e.1.before ≡ get before e.0) (h : IsRoomier (e ∷ es) before now) where
      none_left : (q : K) → eq_by_cmp R q e.0 ≡ false → change_at R es q ≡ None → change_at R (e ∷ es) q ≡ None
      none_left q apart none = ap (λ b. cond b (Some e.1) (change_at R es q)) apart ∙ none

      -- taking out a key that was new leaves the room for the changes further on
      pub roomier-taken : is_some e.1.before ≡ false → IsRoomier es before (remove now e.0)
      roomier-taken new =
          let absent : get before e.0 ≡ None = none_of (get before e.0) (ap is_some (sym was) ∙ new) in
          record {
            kept = λ q there. elim (at_or_apart q e.0) [
              | inl here ↦ let none : get before q ≡ None = ap (get before) here ∙ absent in
                  let found : IsSome {T = ℕ} None = subst IsSome none there in absurd (cc)
              | inr apart ↦ get-remove o now e.0 q ∙ ap (λ b. cond b None (get now q)) apart ∙ h.kept q there
            ];
            others = λ q no. elim (at_or_apart q e.0) [
              | inl here ↦ get-remove o now e.0 q ∙ ap (λ k. cond (eq_by_cmp R k e.0) None (get now q)) here
                  ∙ ap (λ r. cond (is_eq r) None (get now q)) (tied_itself o e.0) ∙ sym (ap (get before) here ∙ absent)
              | inr apart ↦ get-remove o now e.0 q ∙ ap (λ b. cond b None (get now q)) apart ∙ h.others q (none_left q apart no)
            ];
          }

      -- a key that was there needs no taking out
      pub roomier-left : is_some e.1.before ≡ true → IsRoomier es before now
      roomier-left old = record {
        kept = h.kept;
        others = λ q no. elim (at_or_apart q e.0) [
          | inl here ↦ h.kept q (subst (λ k. IsSome (get before k)) (sym here) (ap is_some (sym was) ∙ old))
          | inr apart ↦ h.others q (none_left q apart no)
        ];
      }

    -- with no change left no room is left
    pub roomier-none : (before now : FinMap R ℕ) → IsRoomier [] before now → now ≡ before
    roomier-none before now h = same_map o exact now before (λ q. h.others q refl)
