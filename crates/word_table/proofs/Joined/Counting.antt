-- How many of the records wrote a lock: as many as its version says.
use Rattle.word_table.proofs.Common.{◌≡◌, ◌≢◌, ℕ, zero, suc, ◌<◌, ◌≤◌, ◌&&◌, ◌==◌, Bool, true, false, ⊎_elim, inl, List, [], ◌∷◌, length, slice_get, Some, refl}
use Rattle.word_table.proofs.Common.{sym, ap, ◌∙◌, subst, arith, eq-eqb, filter, range_with_len, eqb-true, same_Some, slice_get-get_or, slice_get_within, Entry}
use Rattle.word_table.proofs.Common.{Item, LockUse, AgreeWithVersions, IsIn, item_of_entry, items_of_entry, none_in, entry_from, writes_of}
use Rattle.values_rule.proofs.Common.{Uses}
use Rattle.std.proofs.Common.{◌||◌, cond, AllPairs, flat_map, get_or, zero-add}
use Rattle.std.proofs.lemmas.List.Elements.{filter_passes}
use Rattle.std.proofs.lemmas.List.FromFn.{get_or-range_with_len, length-range_with_len}
use Rattle.std.proofs.lemmas.List.Kept.{AllPairs-filter}
use Rattle.std.proofs.lemmas.List.Sums.{length-filter}
use Rattle.std.proofs.lemmas.Option.{get_or_from_slice_get}
use Rattle.history_model.specs.Items.{HasUse}
use Rattle.values_rule.specs.Records.{IsApart}
use Rattle.values_rule.proofs.Told.ItemsIn.{entry_into, flat_map_in, in_flat_map, IsAttemptOf}
use Rattle.word_table.specs.Closing.{wrote_lock}

-- a list without what stands at a place
abbrev without : {X : Type 0} → ℕ → List X → List X
without n [] = []
without zero (x ∷ xs) = xs
without (suc n) (x ∷ xs) = x ∷ without n xs

length_without : {X : Type 0} (n : ℕ) (xs : List X) → n < length xs → suc (length (without n xs)) ≡ length xs
length_without n [] lt = absurd (omega arith)
length_without zero (x ∷ xs) lt = refl
length_without (suc n) (x ∷ xs) lt = ap suc (length_without n xs (omega (arith, lt)))

stays_without : {X : Type 0} (n k : ℕ) (xs : List X) (x : X) → slice_get xs k ≡ Some x → k ≢ n → IsIn x (without n xs)
stays_without n k [] x at off = absurd (none_in x (k, at))
stays_without zero zero (y ∷ xs) x at off = absurd (off refl)
stays_without zero (suc k) (y ∷ xs) x at off = (k, at)
stays_without (suc n) zero (y ∷ xs) x at off = (zero, at)
stays_without (suc n) (suc k) (y ∷ xs) x at off = let r = stays_without n k xs x at (λ e. off (ap suc e)) in (suc r.0, r.1)

-- if each has one of the other list, and no two the same, there are no more than there
pub no_more_than : {X Y : Type 0} (R : X → Y → Type 0) (xs : List X) (ys : List Y) → ((x : X) → IsIn x xs → (y : Y) × IsIn y ys × R x y)
    → AllPairs (λ x z. (y : Y) → R x y → R z y → ⊥) xs → length xs ≤ length ys
no_more_than R [] ys some apart = omega arith
no_more_than R (x ∷ xs) ys some apart =
    let its = some x (zero, refl) in
    let at : ℕ = its.1.0 in
    let within : at < length ys = slice_get_within ys at its.0 its.1.1 in
    let rest = no_more_than R xs (without at ys)
    (λ z t.
    let r = some z (suc t.0, t.1) in (
      r.0,
      stays_without at r.1.0 ys r.0 r.1.1
          (λ same. let one = same_Some r.0 its.0 (sym r.1.1 ∙ ap (λ k. slice_get ys k) same ∙ its.1.1) in
          let pair = apart 0 (suc t.0) x (omega arith) (omega (arith, slice_get_within xs t.0 z t.1)) in
          pair its.0 its.2 (subst (λ y. R (get_or xs t.0 x) y) one (subst (λ w. R w r.0) (sym (get_or_from_slice_get xs t.0 z x t.1)) r.2))),
      r.2,
    ))
    (λ i k d lt short. apart (suc i) (suc k) d (omega (arith, lt)) (omega (arith, short))) in
    omega (arith, rest, length_without at ys within)

-- what is in a list without those that a test passes over
front_in : {X : Type 0} (b : Bool) (x y : X) (fs ys : List X) → (IsIn x fs → IsIn x ys) → IsIn x (cond b (y ∷ fs) fs) → IsIn x (y ∷ ys)
front_in true x y fs ys rest (zero, e) = (zero, e)
front_in true x y fs ys rest (suc k, e) = let r = rest (k, e) in (suc r.0, r.1)
front_in false x y fs ys rest t = let r = rest t in (suc r.0, r.1)

pub filter_in : {X : Type 0} (p : X → Bool) (xs : List X) (x : X) → IsIn x (filter p xs) → IsIn x xs
filter_in p [] x t = t
filter_in p (y ∷ ys) x t = front_in (p y) x y (filter p ys) ys (filter_in p ys x) t

in_front : {X : Type 0} (b : Bool) (x y : X) (fs : List X) → IsIn x fs → IsIn x (cond b (y ∷ fs) fs)
in_front true x y fs t = (suc t.0, t.1)
in_front false x y fs t = t

pub in_filter : {X : Type 0} (p : X → Bool) (xs : List X) (x : X) → p x ≡ true → IsIn x xs → IsIn x (filter p xs)
in_filter p [] x passes t = t
in_filter p (y ∷ ys) x passes (zero, e) =
    subst (λ b. IsIn x (cond b (y ∷ filter p ys) (filter p ys))) (sym (ap p (same_Some y x e) ∙ passes)) (zero, e)
in_filter p (y ∷ ys) x passes (suc k, e) = in_front (p y) x y (filter p ys) (in_filter p ys x passes (k, e))

-- the numbers below one
in_range : (n i : ℕ) → IsIn i (range_with_len 0 n) → i < n
in_range n i (k, e) =
    let lt : k < n = omega (arith, slice_get_within (range_with_len 0 n) k i e, length-range_with_len 0 n) in
    omega (arith, lt, get_or-range_with_len 0 n k 0 lt, get_or_from_slice_get (range_with_len 0 n) k i 0 e)

range_in : (n i : ℕ) → i < n → IsIn i (range_with_len 0 n)
range_in n i lt = (
  i,
  slice_get-get_or (range_with_len 0 n) i 0 (omega (arith, lt, length-range_with_len 0 n))
      ∙ ap Some (get_or-range_with_len 0 n i 0 lt ∙ zero-add i),
)

-- uses that wrote a lock have one of it
some_use : (k : ℕ) (us : List LockUse) → wrote_lock k us ≡ true → (v : ℕ) × HasUse us k v true
unfolding wrote_lock
some_use k [] e = cc
some_use k (u ∷ us) e = by_first (some_use k us) (u.lock == k) u.wrote refl refl
  where
    by_first : (wrote_lock k us ≡ true → (v : ℕ) × HasUse us k v true) → (b w : Bool) → (u.lock == k) ≡ b → u.wrote ≡ w
        → (v : ℕ) × HasUse (u ∷ us) k v true
    by_first rest true true same wrote = (
      u.version,
      (zero, ap Some (λ i. record { lock = eqb-true u.lock k same i; version = u.version; wrote = wrote i })),
    )
    by_first rest true false same wrote =
        let r = rest (sym (λ i. (same i && wrote i) || wrote_lock k us) ∙ e) in (r.0, (suc r.1.0, r.1.1))
    by_first rest false w same wrote =
        let r = rest (sym (λ i. (same i && u.wrote) || wrote_lock k us) ∙ e) in (r.0, (suc r.1.0, r.1.1))

use_wrote : (k v : ℕ) (us : List LockUse) → HasUse us k v true → wrote_lock k us ≡ true
unfolding wrote_lock
use_wrote k v [] t = absurd (none_in _ t)
use_wrote k v (u ∷ us) (zero, e) =
    let same = same_Some u (record { lock = k; version = v; wrote = true }) e in
    λ i. ((eq-eqb u.lock k (ap (λ (x : LockUse). x.lock) same)) i && (same i).wrote) || wrote_lock k us
use_wrote k v (u ∷ us) (suc n, e) = or_true (u.lock == k && u.wrote) (wrote_lock k us) (use_wrote k v us (n, e))
  where
    or_true : (b c : Bool) → c ≡ true → (b || c) ≡ true
    or_true true c is = refl
    or_true false c is = is

module _ (good : List ℕ → Type 0) (base : List ℕ) (next : ℕ → ℕ) (records : List Entry)
    (agree : AgreeWithVersions good base next (flat_map items_of_entry records)) (apart : IsApart records)
    (one : (e x : Entry) → IsIn e records → IsIn x records → e.who ≡ x.who → e.call ≡ x.call → e ≡ x) (k : ℕ) where
  abbrev wrote : Entry → Bool
  wrote e = wrote_lock k e.uses

  abbrev writers : List Entry
  writers = filter wrote records

  -- a record that wrote the lock at a version
  abbrev WroteAt : Entry → ℕ → Type 0
  WroteAt e v = IsIn e records × HasUse e.uses k v true

  its_item : (e : Entry) → IsIn e records → IsIn (item_of_entry e) (flat_map items_of_entry records)
  its_item e t = flat_map_in items_of_entry records (item_of_entry e) e t (entry_into e (item_of_entry e) (inl refl))

  no_attempt : (e : Entry) (z : Item) → z.entry ≡ true → IsAttemptOf e.who e.call e.knew e.abandoned z → ⊥
  no_attempt e z is t = let no : false ≡ true = ap (λ (y : Item). y.entry) t.is ∙ is in cc

  writer : (x : Item) (v : ℕ) → IsIn x (flat_map items_of_entry records) → Uses x k v true → (e : Entry) × WroteAt e v
  writer x v t used =
      let item = agree.formed x t in
      let entry = item.kept_entry ((item.wrote k v true used).0 refl).0 in
      let r = in_flat_map items_of_entry records x t in
      ⊎_elim (λ same. (r.0, (r.1, subst (λ (y : Item). HasUse y.uses k v true) (sym same) used)))
      (λ attempt. absurd (no_attempt r.0 x entry attempt)) (entry_from r.0 x r.2)

  distinct : AllPairs (λ (e x : Entry). e ≢ x) records
  distinct i j d lt short same =
      absurd (omega (
        arith,
        lt,
        apart i j (get_or records j d) (slice_get-get_or records i d (omega (arith, lt, short)) ∙ ap Some same)
            (slice_get-get_or records j d short),
      ))

  no_fewer : next k ≤ length writers
  no_fewer = omega (
    arith,
    length-range_with_len 0 (next k),
    no_more_than (λ v e. WroteAt e v) (range_with_len 0 (next k)) writers
        (λ v t.
        let w = agree.whole k v (in_range (next k) v t) in
        let e = writer w.0 v w.1 w.2 in
        (e.0, in_filter wrote records e.0 (use_wrote k v e.0.uses e.1.1) e.1.0, e.1))
        (λ i j d lt short e a b.
        let same = ((agree.formed (item_of_entry e) (its_item e a.0)).one_each k _ _ true true a.1 b.1).0 in
        let n = length-range_with_len 0 (next k) in
        omega (
          arith,
          lt,
          same,
          get_or-range_with_len 0 (next k) i d (omega (arith, lt, short, n)),
          get_or-range_with_len 0 (next k) j d (omega (arith, short, n)),
        )),
  )

  no_more : length writers ≤ next k
  no_more = omega (
    arith,
    length-range_with_len 0 (next k),
    no_more_than WroteAt writers (range_with_len 0 (next k))
        (λ e t.
        let there = filter_in wrote records e t in
        let passes : wrote e ≡ true = subst (λ (x : Entry). wrote x ≡ true) (get_or_from_slice_get writers t.0 e e t.1)
        (filter_passes wrote records t.0 e (slice_get_within writers t.0 e t.1)) in
        let found = some_use k e.uses passes in
        (found.0, range_in (next k) found.0 (agree.below (item_of_entry e) k found.0 (its_item e there) found.1), (there, found.1)))
        (λ i j d lt short v a b.
        let x : Entry = get_or writers i d in
        let y : Entry = get_or writers j d in
        let same = agree.once (item_of_entry x) (item_of_entry y) k v (its_item x a.0) (its_item y b.0) a.1 b.1 in
        AllPairs-filter (λ (e z : Entry). e ≢ z) wrote records distinct i j d lt short
        (one x y a.0 b.0 (ap (λ (z : Item). z.who) same) (ap (λ (z : Item). z.call) same))),
  )

  pub writes_counted : next k ≡ writes_of records k
  writes_counted = omega (arith, no_fewer, no_more) ∙ length-filter wrote records
