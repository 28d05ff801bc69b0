-- Which items there are.
use Rattle.values_rule.proofs.Common.{◌≡◌, ℕ, zero, suc, ◌+◌, Bool, true, false, ◌⊎◌, inl, inr, ⊎_elim, List, [], ◌∷◌, ◌++◌, Some, slice_get, if◌then◌else◌}
use Rattle.values_rule.proofs.Common.{refl, sym, ap, ◌∙◌, subst, arith, flat_map, some-injective, some-ne-none, Abandoned, Entry, Item, View, is_open, IsIn}
use Rattle.values_rule.proofs.Common.{Knows, number, knew_of, item_of_attempt, item_of_entry, items_of_entry, items_of, IsRecorded}
use mathlib.Core.Option.{some}
use Rattle.values_rule.proofs.Members.{in_join, none_in, in_first, in_second}
use Rattle.values_rule.specs.History.{items_of_attempts, items_of_view}

pub in_parts : {A : Type 0} (xs ys : List A) (z : A) → IsIn z (xs ++ ys) → IsIn z xs ⊎ IsIn z ys
in_parts [] ys z m = inr m
in_parts (x ∷ xs) ys z m = ⊎_elim (λ e. inl (zero, ap (λ y. Some y) e))
    (λ t. ⊎_elim (λ s. inl (suc s.0, s.1)) inr (in_parts xs ys z t)) (in_join x (xs ++ ys) z m)

pub flat_map_in : {A : Type 0} (f : A → List Item) (xs : List A) (z : Item) (x : A) → IsIn x xs → IsIn z (f x) → IsIn z (flat_map f xs)
flat_map_in f [] z x t m = absurd (none_in x t)
flat_map_in f (y ∷ xs) z x t m = ⊎_elim
    (λ e. in_first (f y) (flat_map f xs) z (subst (λ w. IsIn z (f w)) (sym e) m))
    (λ s. in_second (f y) (flat_map f xs) z (flat_map_in f xs z x s m))
    (in_join y xs x t)

pub in_flat_map : {A : Type 0} (f : A → List Item) (xs : List A) (z : Item) → IsIn z (flat_map f xs) → (x : A) × IsIn x xs × IsIn z (f x)
in_flat_map f [] z m = absurd (none_in z m)
in_flat_map f (y ∷ xs) z m = ⊎_elim (λ h. (y, (zero, refl), h))
    (λ t. let r = in_flat_map f xs z t in (r.0, (suc r.1.0, r.1.1), r.2)) (in_parts (f y) (flat_map f xs) z m)

-- a view by its place, in either way of saying
pub knows_from : (vs : List View) (i : ℕ) (v : View) → slice_get vs i ≡ Some v → Knows vs i v
knows_from [] i v e = cc
knows_from (x ∷ xs) zero v e = let q : x ≡ v = cc in ap (λ (y : View). some y) q
knows_from (x ∷ xs) (suc i) v e = knows_from xs i v e

pub from_knows : (vs : List View) (i : ℕ) (v : View) → Knows vs i v → slice_get vs i ≡ Some v
from_knows [] i v e = absurd (some-ne-none v (sym e))
from_knows (x ∷ xs) zero v e = ap (λ (y : View). Some y) (some-injective x v e)
from_knows (x ∷ xs) (suc i) v e = from_knows xs i v e

-- an item of a list of attempts
pub attempts_from : (who call : ℕ) (knew : List ℕ) (turn : ℕ) (ts : List Abandoned) (z : Item) → IsIn z (items_of_attempts who call knew turn ts)
    → (i : ℕ) × (t : Abandoned) × (slice_get ts i ≡ Some t) × (item_of_attempt who call knew (turn + i) t ≡ z)
unfolding items_of_attempts
attempts_from who call knew turn [] z m = absurd (none_in z m)
attempts_from who call knew turn (t ∷ ts) z m = ⊎_elim
    (λ e. (zero, t, refl, let n : turn + 0 ≡ turn = omega arith in ap (λ (k : ℕ). item_of_attempt who call knew k t) n ∙ e))
    (λ s. let r = attempts_from who call knew (suc turn) ts z s in
    (suc r.0, r.1, r.2, let n : turn + suc r.0 ≡ suc turn + r.0 = omega arith in ap (λ (k : ℕ). item_of_attempt who call knew k r.1) n ∙ r.3))
    (in_join (item_of_attempt who call knew turn t) (items_of_attempts who call knew (suc turn) ts) z m)

pub attempts_into : (who call : ℕ) (knew : List ℕ) (turn : ℕ) (ts : List Abandoned) (i : ℕ) (t : Abandoned) → slice_get ts i ≡ Some t
    → IsIn (item_of_attempt who call knew (turn + i) t) (items_of_attempts who call knew turn ts)
unfolding items_of_attempts
attempts_into who call knew turn [] i t e = cc
attempts_into who call knew turn (s ∷ ts) zero t e = let q : s ≡ t = cc in let n : turn ≡ turn + 0 = omega arith in
    (zero, ap (λ (y : Item). Some y) (ap (λ (y : Abandoned). item_of_attempt who call knew turn y) q ∙ ap (λ (k : ℕ). item_of_attempt who call knew k t) n))
attempts_into who call knew turn (s ∷ ts) (suc i) t e = let r = attempts_into who call knew (suc turn) ts i t e in
    let n : suc turn + i ≡ turn + suc i = omega arith in
    subst (λ (k : ℕ). IsIn (item_of_attempt who call knew k t) (items_of_attempts who call knew turn (s ∷ ts))) n (suc r.0, r.1)

-- the item of an attempt of this call
pub record IsAttemptOf (who call : ℕ) (knew : List ℕ) (ts : List Abandoned) (z : Item) : Type 0 where
  pub turn : ℕ
  pub attempt : Abandoned
  pub at : slice_get ts turn ≡ Some attempt
  pub is : item_of_attempt who call knew turn attempt ≡ z

pub attempt_from : (who call : ℕ) (knew : List ℕ) (ts : List Abandoned) (z : Item)
    → IsIn z (items_of_attempts who call knew 0 ts) → IsAttemptOf who call knew ts z
attempt_from who call knew ts z m = let r = attempts_from who call knew 0 ts z m in let n : 0 + r.0 ≡ r.0 = omega arith in
    record { turn = r.0; attempt = r.1; at = r.2; is = ap (λ (k : ℕ). item_of_attempt who call knew k r.1) (sym n) ∙ r.3 }

pub attempt_into : (who call : ℕ) (knew : List ℕ) (ts : List Abandoned) (z : Item)
    → IsAttemptOf who call knew ts z → IsIn z (items_of_attempts who call knew 0 ts)
attempt_into who call knew ts z t = let n : 0 + t.turn ≡ t.turn = omega arith in
    subst (λ (y : Item). IsIn y (items_of_attempts who call knew 0 ts))
    (ap (λ (k : ℕ). item_of_attempt who call knew k t.attempt) n ∙ t.is) (attempts_into who call knew 0 ts t.turn t.attempt t.at)

-- what an item is of: an entry that was seen, an attempt of its call, or an attempt of an open call
pub record OfEntry (vs : List View) (z : Item) : Type 0 where
  pub entry : Entry
  pub recorded : IsRecorded vs entry
  pub is : (item_of_entry entry ≡ z) ⊎ IsAttemptOf entry.who entry.call entry.knew entry.abandoned z

pub record OfOpen (vs : List View) (z : Item) : Type 0 where
  pub id : ℕ
  pub view : View
  pub knows : Knows vs id view
  pub is_open : is_open view.phase ≡ true
  pub is : IsAttemptOf (number view) view.call (knew_of view.seats view.seen) view.abandoned z

-- the items of one entry
pub entry_from : (e : Entry) (z : Item) → IsIn z (items_of_entry e) → (item_of_entry e ≡ z) ⊎ IsAttemptOf e.who e.call e.knew e.abandoned z
entry_from e z m = ⊎_elim
    (λ t. inr (attempt_from e.who e.call e.knew e.abandoned z t))
    (λ t. ⊎_elim (λ q. inl q) (λ s. absurd (none_in z s)) (in_join (item_of_entry e) [] z t))
    (in_parts (items_of_attempts e.who e.call e.knew 0 e.abandoned) (item_of_entry e ∷ []) z m)

pub entry_into : (e : Entry) (z : Item) → (item_of_entry e ≡ z) ⊎ IsAttemptOf e.who e.call e.knew e.abandoned z → IsIn z (items_of_entry e)
entry_into e z (inl q) = in_second (items_of_attempts e.who e.call e.knew 0 e.abandoned) (item_of_entry e ∷ []) z (zero, ap (λ (y : Item). Some y) q)
entry_into e z (inr t) = in_first (items_of_attempts e.who e.call e.knew 0 e.abandoned)
    (item_of_entry e ∷ []) z (attempt_into e.who e.call e.knew e.abandoned z t)

when_open : (b : Bool) (xs : List Item) (z : Item) → IsIn z (if b then xs else []) → (b ≡ true) × IsIn z xs
when_open true xs z m = (refl, m)
when_open false xs z m = absurd (none_in z m)

open_in : (b : Bool) (xs : List Item) (z : Item) → b ≡ true → IsIn z xs → IsIn z (if b then xs else [])
open_in true xs z e m = m
open_in false xs z e m = absurd (cc)

pub items_from : (vs : List View) (z : Item) → IsIn z (items_of vs) → OfEntry vs z ⊎ OfOpen vs z
items_from vs z m =
    let r = in_flat_map items_of_view vs z m in
    let v : View = r.0 in
    let k : Knows vs r.1.0 v = knows_from vs r.1.0 v r.1.1 in
    ⊎_elim
    (λ t. let s = in_flat_map items_of_entry v.seen z t in inl (record {
      entry = s.0;
      recorded = record { id = r.1.0; view = v; knows = k; seen = s.1 };
      is = entry_from s.0 z s.2;
    }))
    (λ t. let s = when_open (is_open v.phase) (items_of_attempts (number v) v.call (knew_of v.seats v.seen) 0 v.abandoned) z t in
    inr (record { id = r.1.0; view = v; knows = k; is_open = s.0; is = attempt_from (number v) v.call (knew_of v.seats v.seen) v.abandoned z s.1 }))
    (in_parts (flat_map items_of_entry v.seen)
    (if is_open v.phase then items_of_attempts (number v) v.call (knew_of v.seats v.seen) 0 v.abandoned else []) z r.2)

pub entry_in_items : (vs : List View) (z : Item) → OfEntry vs z → IsIn z (items_of vs)
entry_in_items vs z o = let r = o.recorded in
    flat_map_in items_of_view vs z r.view (r.id, from_knows vs r.id r.view r.knows)
    (in_first (flat_map items_of_entry r.view.seen)
    (if is_open r.view.phase then items_of_attempts (number r.view) r.view.call (knew_of r.view.seats r.view.seen) 0 r.view.abandoned else []) z
    (flat_map_in items_of_entry r.view.seen z o.entry r.seen (entry_into o.entry z o.is)))

pub open_in_items : (vs : List View) (z : Item) → OfOpen vs z → IsIn z (items_of vs)
open_in_items vs z o = let v : View = o.view in
    flat_map_in items_of_view vs z v (o.id, from_knows vs o.id v o.knows)
    (in_second (flat_map items_of_entry v.seen) (if is_open v.phase then items_of_attempts (number v) v.call (knew_of v.seats v.seen) 0 v.abandoned else []) z
    (open_in (is_open v.phase) (items_of_attempts (number v) v.call (knew_of v.seats v.seen) 0 v.abandoned) z o.is_open
    (attempt_into (number v) v.call (knew_of v.seats v.seen) v.abandoned z o.is)))

-- in both lists the same items
pub items_into : (vs : List View) (z : Item) → OfEntry vs z ⊎ OfOpen vs z → IsIn z (items_of vs)
items_into vs z t = ⊎_elim (entry_in_items vs z) (open_in_items vs z) t
