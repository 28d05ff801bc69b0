-- The keys of the index, in order.
use Rattle.txn_records.proofs.Common.{◌≡◌, ◌≢◌, ℕ, ◌*◌, ◌/◌, ◌%◌, ◌<◌, ◌≤◌, Bool, true, false, cond, nat_lt, nat_le, List, [], ◌∷◌, map, Option, Some, None}
use Rattle.txn_records.proofs.Common.{refl, sym, ap, ◌∙◌, subst, arith, rules, eqb-true, ◌==◌, if◌then◌else◌, unwrap_or, inl, inr, nat_cmp_total, nat_cmp}
use Rattle.txn_records.proofs.Common.{AllByRecursion, nat_cmp-IsAntisymmetric, get-entries, entries_sorted, Records, index_of, data_at_rank, tied, Entries}
use Rattle.txn_records.proofs.Common.{RANK_STEP, index_key_of, Trees, HoldRecords, RecordsAreInRange, first_in, first_key_in, keys_of, entries_of, first_key}
use Rattle.txn_records.proofs.Common.{first_entry}
use Rattle.record_text.proofs.Common.{below_first, below_rest, sorted_first, sorted_rest, index_cmp}
use Rattle.books_report.proofs.Common.{is_lt-nat_cmp}
use Rattle.std.proofs.Common.{T}
use Rattle.std.proofs.lemmas.Bool.{cases_lt}
use Rattle.std.specs.Prelude.{find as first}
use Rattle.std.specs.declared.cmp.Ordering.{Ordering}
use Rattle.std.specs.declared.cmp.Ordering.TheVariants.{Less, Equal, Greater}
use Rattle.std.specs.Cmp.{tied_itself, both_ways}
use Rattle.std.specs.Ordering.{ordering_then, eq_by_cmp, is_eq, is_lt}
use Rattle.std.specs.FinMap.{get-from_sorted, entries-from_sorted}
use Rattle.std.specs.FinMap.Entries.{find, is_sorted, below_all}
use Rattle.std.proofs.lemmas.Map.Views.{tells_apart}
use Rattle.books_model.proofs.Maps.Entries.{All-entries}
use Rattle.books_model.proofs.Maps.Trees.{positions_total, exact_positions}
use Rattle.record_text.proofs.Places.{at_place}
use Rattle.txn_tree_map.proofs.Held.Entries.{lower, untied}
use Rattle.txn_records.proofs.Held.{id_below, keys_differ}
use Rattle.txn_records.proofs.Lengths.{as_key, key_rest}
use Rattle.std.specs.FinMap as finite

-- a place in the index: rank and identifier, both below the step
abbrev pub IsPlace : ℕ × ℕ → Type 0
IsPlace p = (p.0 < RANK_STEP) × (p.1 < RANK_STEP)

abbrev pub Entry : Type 0
Entry = (ℕ × ℕ) × ℕ

abbrev pub key_of : ℕ × ℕ → ℕ
key_of p = index_key_of p.0 p.1

abbrev pub ArePlaces : List Entry → Type 0
ArePlaces es = AllByRecursion (λ (e : Entry). IsPlace e.0) es

-- what a truth says as a test
holds : (b : Bool) → T b → b ≡ true
holds true h = refl
holds false h = absurd h

truly : (b : Bool) → b ≡ true → T b
truly b e = subst T (sym e) tt

less_than : (x y : ℕ) → nat_cmp x y ≡ Less → x < y
less_than x y e = let test : nat_lt x y ≡ true = is_lt-nat_cmp x y ∙ ap is_lt e in grind (arith, rules, test)

-- later places have higher keys
key_rises : (x y : ℕ × ℕ) → IsPlace x → IsPlace y → index_cmp x y ≡ Less → key_of x < key_of y
key_rises x y p q less = at (nat_cmp x.0 y.0) refl
  where
    at : (r : Ordering) → nat_cmp x.0 y.0 ≡ r → key_of x < key_of y
    at Less e = let lt : x.0 < y.0 = less_than x.0 y.0 e in omega (arith, lt, p.1, q.1)
    at Equal e =
        let same : x.0 ≡ y.0 = nat_cmp-IsAntisymmetric x.0 y.0 e in
        let lt : x.1 < y.1 = less_than x.1 y.1 (sym (ap (λ r. ordering_then r (nat_cmp x.1 y.1)) e) ∙ less) in
        omega (arith, same, lt)
    at Greater e = let no : Greater ≡ Less = sym (ap (λ r. ordering_then r (nat_cmp x.1 y.1)) e) ∙ less in absurd (cc)

same_place : (x y : ℕ × ℕ) → IsPlace x → IsPlace y → key_of x ≡ key_of y → x ≡ y
same_place x y p q e =
    let k = keys_differ x.0 x.1 y.0 y.1 p.1 q.1 e in
    λ i. (k.0 i, k.1 i)

-- the entries under their keys
abbrev pub keyed : List Entry → List (ℕ × ℕ)
keyed es = map (λ e. (key_of e.0, e.1)) es

below_keyed : (x : ℕ × ℕ) → IsPlace x → (es : List Entry) → ArePlaces es → T (below_all index_cmp x es) → below_all nat_cmp (key_of x) (keyed es) ≡ true
below_keyed x p [] h below = refl
below_keyed x p (e ∷ es) h below =
    let first : key_of x < key_of e.0 = key_rises x e.0 p h.0 (below_first index_cmp x e es below) in
    grind (rules, lower (key_of x) (key_of e.0) first, below_keyed x p es h.1 (below_rest index_cmp x e es below))

sorted_keyed : (es : List Entry) → ArePlaces es → T (is_sorted index_cmp es) → is_sorted nat_cmp (keyed es) ≡ true
sorted_keyed [] h sorted = refl
sorted_keyed (e ∷ es) h sorted =
    grind (rules, below_keyed e.0 h.0 es h.1 (sorted_first index_cmp e es sorted), sorted_keyed es h.1 (sorted_rest index_cmp e es sorted))

alike : (x y : ℕ × ℕ) → IsPlace x → IsPlace y → eq_by_cmp nat_cmp (key_of x) (key_of y) ≡ eq_by_cmp index_cmp x y
alike x y p q = both_ways (eq_by_cmp nat_cmp (key_of x) (key_of y)) (eq_by_cmp index_cmp x y)
    (λ e. ap (λ z. eq_by_cmp index_cmp x z) (sym (same_place x y p q (tells_apart nat_cmp-IsAntisymmetric (key_of x) (key_of y) e)))
    ∙ ap is_eq (tied_itself positions_total x))
    (λ e. tied (key_of x) (key_of y) (ap key_of (tells_apart exact_positions x y e)))

-- an entry is found under its key
find_keyed : (q : ℕ × ℕ) → IsPlace q → (es : List Entry) → ArePlaces es → find nat_cmp (key_of q) (keyed es) ≡ find index_cmp q es
find_keyed q p [] h = refl
find_keyed q p (e ∷ es) h =
    ap (λ b. cond b (Some e.1) (find nat_cmp (key_of q) (keyed es))) (alike q e.0 p h.0)
    ∙ ap (λ o. cond (eq_by_cmp index_cmp q e.0) (Some e.1) o) (find_keyed q p es h.1)

-- and a key past all places has none
far_key : (k : ℕ) → RANK_STEP ≤ k / RANK_STEP → (es : List Entry) → ArePlaces es → find nat_cmp k (keyed es) ≡ None
far_key k far [] h = refl
far_key k far (e ∷ es) h =
    let ne : k ≢ key_of e.0 = λ same. omega (arith, far, same, h.0.0, h.0.1) in
    grind (rules, untied k (key_of e.0) ne, far_key k far es h.1)

-- the record of a place that has data
at_rank : (rank : ℕ) (o : Option (ℕ × ℕ)) (content : ℕ) → data_at_rank rank o ≡ Some content → o ≡ Some (rank, content)
at_rank rank None content e = absurd (cc)
at_rank rank (Some stored) content e = at (stored.0 == rank) refl
  where
    at : (b : Bool) → (stored.0 == rank) ≡ b → Some stored ≡ Some (rank, content)
    at true is =
        let same : stored.0 ≡ rank = eqb-true stored.0 rank is in
        let told : Some stored.1 ≡ Some content = sym (ap (λ t. if t then Some stored.1 else None) is) ∙ e in
        let x : stored.1 ≡ content = ap (λ o. unwrap_or o 0) told in
        λ i. Some (same i, x i)
    at false is = let told : None ≡ Some content = sym (ap (λ t. if t then Some stored.1 else None) is) ∙ e in absurd (cc)

module _ (records : Records) (range : RecordsAreInRange records) where
  place_in : (p : ℕ × ℕ) (content : ℕ) → finite.get (index_of records) p ≡ Some content → IsPlace p
  place_in p content e =
      let there : finite.get records p.1 ≡ Some (p.0, content) = at_rank p.0 (finite.get records p.1) content (sym (at_place records p.0 p.1) ∙ e) in
      let in_range = range p.1 p.0 content there in
      (omega (arith, in_range.1.1), id_below p.1 in_range.0)

  pub are_places : ArePlaces (finite.entries (index_of records))
  are_places = All-entries positions_total exact_positions (λ (e : Entry). IsPlace e.0) (index_of records) place_in

  sorted : T (is_sorted nat_cmp (keyed (finite.entries (index_of records))))
  sorted = truly _ (sorted_keyed (finite.entries (index_of records)) are_places (entries_sorted (index_of records)))

  abbrev as_map : Entries
  as_map = finite.from_sorted (keyed (finite.entries (index_of records)))

  -- trees that hold the records have them in their index under their keys
  module _ (trees : Trees) (held : HoldRecords trees records) where
    get_near : (r q : ℕ) → r < RANK_STEP → q < RANK_STEP → finite.get trees.index (index_key_of r q) ≡ finite.get as_map (index_key_of r q)
    get_near r q high lt = held.index r q lt ∙ sym (at_place records r q) ∙ get-entries (index_of records) (r, q)
        ∙ sym (find_keyed (r, q) (high, lt) (finite.entries (index_of records)) are_places)
        ∙ sym (get-from_sorted nat_cmp (keyed (finite.entries (index_of records))) (index_key_of r q) sorted)

    none_far : (r q : ℕ) → RANK_STEP ≤ r → (o : Option ℕ) → data_at_rank r (finite.get records q) ≡ o → o ≡ None
    none_far r q far None e = refl
    none_far r q far (Some x) e =
        let in_range = range q r x (at_rank r (finite.get records q) x e) in
        absurd (omega (arith, far, in_range.1.1))

    get_as : (k : ℕ) → finite.get trees.index k ≡ finite.get as_map k
    get_as k = elim (cases_lt (k / RANK_STEP) RANK_STEP) [
      | inl near ↦ subst (λ z. finite.get trees.index z ≡ finite.get as_map z) (sym (as_key k)) (get_near (k / RANK_STEP) (k % RANK_STEP) near (key_rest k))
      | inr far ↦
          ap (finite.get trees.index) (as_key k) ∙ held.index (k / RANK_STEP) (k % RANK_STEP) (key_rest k)
          ∙ none_far (k / RANK_STEP) (k % RANK_STEP) far (data_at_rank (k / RANK_STEP) (finite.get records (k % RANK_STEP))) refl
          ∙ sym (get-from_sorted nat_cmp (keyed (finite.entries (index_of records))) k sorted ∙ far_key k far (finite.entries (index_of records)) are_places)
    ]

    pub entries_keyed : finite.entries trees.index ≡ keyed (finite.entries (index_of records))
    entries_keyed = ap finite.entries (finite.same_map nat_cmp_total nat_cmp-IsAntisymmetric trees.index as_map get_as)
        ∙ entries-from_sorted nat_cmp (keyed (finite.entries (index_of records))) sorted

-- their keys are those of the places
keys_keyed : (es : List Entry) → map (λ (e : ℕ × ℕ). e.0) (keyed es) ≡ map (λ e. key_of e.0) es
keys_keyed [] = refl
keys_keyed (e ∷ es) = ap (λ ks. key_of e.0 ∷ ks) (keys_keyed es)

-- the first key of the index
pub key_first : (key : ℕ) (records : Records) (trees : Trees) → RecordsAreInRange records → HoldRecords trees records
    → first_key_in key trees.index ≡ first_key key records
key_first key records trees range held =
    ap (λ es. first (λ k. nat_le key k) (map (λ (e : ℕ × ℕ). e.0) es)) (entries_keyed records range trees held)
    ∙ ap (first (λ k. nat_le key k)) (keys_keyed (finite.entries (index_of records)))

-- the first entry of the index
pub entry_first : (key : ℕ) (records : Records) (trees : Trees) → RecordsAreInRange records → HoldRecords trees records
    → first_in key trees.index ≡ first_entry key records
entry_first key records trees range held = ap (first (λ (e : ℕ × ℕ). nat_le key e.0)) (entries_keyed records range trees held)

-- items whose keys rise
abbrev pub AreRising : {X : Type 0} → (X → ℕ) → List X → Type 0
AreRising at [] = Unit {0}
AreRising at (x ∷ xs) = AllByRecursion (λ y. at x < at y) xs × AreRising at xs

-- what is made of the entries, each with the key of its place
module _ {X : Type 0} (at : X → ℕ) (make : Entry → X) (same : (e : Entry) → at (make e) ≡ key_of e.0) where
  above_all : (e : Entry) → IsPlace e.0 → (es : List Entry) → ArePlaces es → T (below_all index_cmp e.0 es)
      → AllByRecursion (λ y. at (make e) < at y) (map make es)
  above_all e p [] h below = tt
  above_all e p (f ∷ es) h below =
      let rises : key_of e.0 < key_of f.0 = key_rises e.0 f.0 p h.0 (below_first index_cmp e.0 f es below) in
      (omega (arith, rises, same e, same f), above_all e p es h.1 (below_rest index_cmp e.0 f es below))

  rising : (es : List Entry) → ArePlaces es → T (is_sorted index_cmp es) → AreRising at (map make es)
  rising [] h order = tt
  rising (e ∷ es) h order =
      (above_all e h.0 es h.1 (sorted_first index_cmp e es order), rising es h.1 (sorted_rest index_cmp e es order))

pub keys_rise : (records : Records) → RecordsAreInRange records → AreRising (λ k. k) (keys_of records)
keys_rise records range = rising (λ k. k) (λ e. key_of e.0) (λ e. refl) (finite.entries (index_of records)) (are_places records range)
    (entries_sorted (index_of records))

pub entries_rise : (records : Records) → RecordsAreInRange records → AreRising (λ (e : ℕ × ℕ). e.0) (entries_of records)
entries_rise records range = rising (λ (e : ℕ × ℕ). e.0) (λ e. (key_of e.0, e.1)) (λ e. refl) (finite.entries (index_of records))
    (are_places records range) (entries_sorted (index_of records))

-- no key has more than 64 bits
module _ {X : Type 0} (at : X → ℕ) (make : Entry → X) (same : (e : Entry) → at (make e) ≡ key_of e.0) where
  fitting : (es : List Entry) → ArePlaces es → AllByRecursion (λ x. at x < RANK_STEP * RANK_STEP) (map make es)
  fitting [] h = tt
  fitting (e ∷ es) h = (omega (arith, h.0.0, h.0.1, same e), fitting es h.1)

pub keys_fit : (records : Records) → RecordsAreInRange records → AllByRecursion (λ k. k < RANK_STEP * RANK_STEP) (keys_of records)
keys_fit records range = fitting (λ k. k) (λ e. key_of e.0) (λ e. refl) (finite.entries (index_of records)) (are_places records range)

pub entries_fit : (records : Records) → RecordsAreInRange records → AllByRecursion (λ (e : ℕ × ℕ). e.0 < RANK_STEP * RANK_STEP) (entries_of records)
entries_fit records range = fitting (λ (e : ℕ × ℕ). e.0) (λ e. (key_of e.0, e.1)) (λ e. refl) (finite.entries (index_of records))
    (are_places records range)
