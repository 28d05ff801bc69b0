-- Items listed one by one, down the keys of the index: identifiers from a rank on, and all records.
use Rattle.txn_records.proofs.Common.{◌≡◌, ℕ, suc, ◌+◌, ◌*◌, ◌<◌, ◌≤◌, Bool, true, false, cond, nat_le, List, [], ◌∷◌, map, length, Option, Some, None, refl}
use Rattle.txn_records.proofs.Common.{sym, ap, ◌∙◌, arith, unwrap_or, nat_tests, AllByRecursion, len-entries, Records, ids_from, index_of, Printed, printed_of}
use Rattle.txn_records.proofs.Common.{RecordShape, RANK_STEP, index_key_of, RecordsAreInRange, Stands, keys_of, entries_of}
use Rattle.std.proofs.Common.{◌++◌, take, append_assoc, append-nil}
use Rattle.std.proofs.lemmas.List.{take_all, length-map}
use Rattle.std.specs.Prelude.{find as first}
use Rattle.std.specs.List.{filter}
use Rattle.books_model.proofs.Maps.Entries.{AllByRecursion-weaker}
use Rattle.txn_records.specs.Layout.{id_in, rank_in_key}
use Rattle.txn_records.proofs.Keys.{Entry, ArePlaces, AreRising, key_of, are_places, entries_keyed}
use Rattle.txn_records.proofs.Sides.{trees_counted}
use Rattle.std.specs.FinMap as finite

-- items with keys
module _ {X : Type 0} (at : X → ℕ) where
  -- those from a key on
  abbrev pub from_key : ℕ → List X → List X
  from_key key xs = filter (λ x. nat_le key (at x)) xs

  abbrev first_from : ℕ → List X → Option X
  first_from key xs = first (λ x. nat_le key (at x)) xs

  -- if none is first, none is left
  none_left : (key : ℕ) (xs : List X) → None ≡ first_from key xs → from_key key xs ≡ []
  none_left key [] e = refl
  none_left key (x ∷ xs) e = by (nat_le key (at x)) refl (λ behind. none_left key xs behind)
    where
      by : (b : Bool) → nat_le key (at x) ≡ b → (None ≡ first_from key xs → from_key key xs ≡ []) → from_key key (x ∷ xs) ≡ []
      by true is behind = let no : None ≡ Some x = e ∙ ap (λ b. cond b (Some x) (first_from key xs)) is in absurd (cc)
      by false is behind =
          ap (λ b. cond b (x ∷ from_key key xs) (from_key key xs)) is ∙ behind (e ∙ ap (λ b. cond b (Some x) (first_from key xs)) is)

  -- all that are above a number are from it on
  all_left : (key n : ℕ) (xs : List X) → key ≤ n + 1 → AllByRecursion (λ x. n < at x) xs → from_key key xs ≡ xs
  all_left key n [] le h = refl
  all_left key n (x ∷ xs) le h = let test : nat_le key (at x) ≡ true = grind (arith, nat_tests, le, h.0) in
      ap (λ b. cond b (x ∷ from_key key xs) (from_key key xs)) test ∙ ap (λ l. x ∷ l) (all_left key n xs le h.1)

  -- the first is in front of those behind it
  first_left : (key : ℕ) (found : X) (xs : List X) → AreRising at xs → Some found ≡ first_from key xs
      → (key ≤ at found) × (from_key key xs ≡ found ∷ from_key (at found + 1) xs)
  first_left key found [] rise e = absurd (cc)
  first_left key found (x ∷ xs) rise e = by (nat_le key (at x)) refl (λ behind. first_left key found xs rise.1 behind)
    where
      by : (b : Bool) → nat_le key (at x) ≡ b
          → (Some found ≡ first_from key xs → (key ≤ at found) × (from_key key xs ≡ found ∷ from_key (at found + 1) xs))
          → (key ≤ at found) × (from_key key (x ∷ xs) ≡ found ∷ from_key (at found + 1) (x ∷ xs))
      by true is behind =
          let told : Some found ≡ Some x = e ∙ ap (λ b. cond b (Some x) (first_from key xs)) is in
          let same : found ≡ x = ap (λ o. unwrap_or o found) told in
          let same_key : at found ≡ at x = ap at same in
          let low : key ≤ at x = grind (arith, nat_tests, is) in
          let past : nat_le (at found + 1) (at x) ≡ false = grind (arith, nat_tests, same_key) in (
            omega (arith, low, same_key),
            ap (λ b. cond b (x ∷ from_key key xs) (from_key key xs)) is ∙ ap (λ l. x ∷ l) (all_left key (at x) xs (omega (arith, low)) rise.0)
                ∙ ap (λ y. y ∷ xs) (sym same)
                ∙ ap (λ l. found ∷ l) (sym (ap (λ b. cond b (x ∷ from_key (at found + 1) xs) (from_key (at found + 1) xs)) past
                ∙ all_left (at found + 1) (at x) xs (omega (arith, same_key)) rise.0)),
          )
      by false is behind =
          let rest_is = behind (e ∙ ap (λ b. cond b (Some x) (first_from key xs)) is) in
          let high : at x < key = grind (arith, nat_tests, is) in
          let past : nat_le (at found + 1) (at x) ≡ false = grind (arith, nat_tests, high, rest_is.0) in (
            rest_is.0,
            ap (λ b. cond b (x ∷ from_key key xs) (from_key key xs)) is ∙ rest_is.1
                ∙ ap (λ l. found ∷ l) (sym (ap (λ b. cond b (x ∷ from_key (at found + 1) xs) (from_key (at found + 1) xs)) past)),
          )

  -- above all keys there is none
  none_first : (key : ℕ) (xs : List X) → AllByRecursion (λ x. at x < key) xs → None ≡ first_from key xs
  none_first key [] h = refl
  none_first key (x ∷ xs) h = let test : nat_le key (at x) ≡ false = grind (arith, nat_tests, h.0) in
      none_first key xs h.1 ∙ sym (ap (λ b. cond b (Some x) (first_from key xs)) test)

-- a list that is gone through by keys, and what is told of each
pub record Course (X Y : Type 0) : Type 0 where
  pub at : X → ℕ
  pub shown : X → Y
  pub all : Records → List X

-- the identifiers of a rank's records and of those above are those of the keys from its first on
ids_of_keys : (rank : ℕ) (es : List Entry) → ArePlaces es → map (λ (e : Entry). e.0.1) (filter (λ (e : Entry). nat_le rank e.0.0) es)
    ≡ map id_in (from_key (λ k. k) (index_key_of rank 0) (map (λ (e : Entry). key_of e.0) es))
ids_of_keys rank [] h = refl
ids_of_keys rank (e ∷ es) h = at (nat_le rank e.0.0) refl (ids_of_keys rank es h.1)
  where
    ids : List ℕ
    ids = map (λ (e : Entry). e.0.1) (filter (λ (e : Entry). nat_le rank e.0.0) es)

    keys : List ℕ
    keys = from_key (λ k. k) (index_key_of rank 0) (map (λ (e : Entry). key_of e.0) es)

    at : (b : Bool) → nat_le rank e.0.0 ≡ b → ids ≡ map id_in keys
        → map (λ (e : Entry). e.0.1) (filter (λ (e : Entry). nat_le rank e.0.0) (e ∷ es))
        ≡ map id_in (from_key (λ k. k) (index_key_of rank 0) (map (λ (e : Entry). key_of e.0) (e ∷ es)))
    at true is behind =
        let test : nat_le (index_key_of rank 0) (key_of e.0) ≡ true = grind (arith, nat_tests, is, h.0.1) in
        let id : e.0.1 ≡ id_in (key_of e.0) = omega (arith, h.0.1) in
        ap (λ b. map (λ (e : Entry). e.0.1) (cond b (e ∷ filter (λ (e : Entry). nat_le rank e.0.0) es) (filter (λ (e : Entry). nat_le rank e.0.0) es))) is
        ∙ ap (λ l. e.0.1 ∷ l) behind ∙ ap (λ n. n ∷ map id_in keys) id
        ∙ sym (ap (λ b. map id_in (cond b (key_of e.0 ∷ keys) keys)) test)
    at false is behind =
        let test : nat_le (index_key_of rank 0) (key_of e.0) ≡ false = grind (arith, nat_tests, is, h.0.1) in
        ap (λ b. map (λ (e : Entry). e.0.1) (cond b (e ∷ filter (λ (e : Entry). nat_le rank e.0.0) es) (filter (λ (e : Entry). nat_le rank e.0.0) es))) is
        ∙ behind ∙ sym (ap (λ b. map id_in (cond b (key_of e.0 ∷ keys) keys)) test)

-- what is listed so far, and at most so many of those from a key on, are this list
module _ {X Y : Type 0} (course : Course X Y) (whole : Records → List Y) where
  abbrev rest_of : ℕ → ℕ → Records → List Y
  rest_of left key records = take left (map course.shown (from_key course.at key (course.all records)))

  pub record IsListed (list : List Y) (left key : ℕ) (records : Records) : Type 0 where
    pub range : RecordsAreInRange records
    pub whole_is : whole records ≡ list ++ rest_of left key records

  module _ (list : List Y) (left key : ℕ) (records : Records) (so_far : IsListed list left key records) where
    pub lists_none : None ≡ first (λ x. nat_le key (course.at x)) (course.all records) → list ≡ whole records
    lists_none none = sym (so_far.whole_is ∙ ap (λ xs. list ++ take left (map course.shown xs)) (none_left course.at key (course.all records) none)
        ∙ ap (λ l. list ++ l) (take_all left [] (omega arith)) ∙ append-nil list)

    pub lists_all : left ≡ 0 → list ≡ whole records
    lists_all nothing = sym (so_far.whole_is
        ∙ ap (λ n. list ++ take n (map course.shown (from_key course.at key (course.all records)))) nothing ∙ append-nil list)

    -- one more
    pub lists_one : (n : ℕ) (found : X) (shown : Y) (more : List Y) → left ≡ suc n → AreRising course.at (course.all records)
        → Some found ≡ first (λ x. nat_le key (course.at x)) (course.all records) → shown ≡ course.shown found
        → more ≡ list ++ shown ∷ [] → IsListed more n (course.at found + 1) records
    lists_one n found shown more is rise told shown_is pushed = record {
      range = so_far.range;
      whole_is = so_far.whole_is
          ∙ ap (λ xs. list ++ take left (map course.shown xs)) (first_left course.at key found (course.all records) rise told).1
          ∙ ap (λ m. list ++ take m (course.shown found ∷ map course.shown (from_key course.at (course.at found + 1) (course.all records)))) is
          ∙ sym (append_assoc list (course.shown found ∷ []) (rest_of n (course.at found + 1) records))
          ∙ ap (λ l. l ++ rest_of n (course.at found + 1) records) (sym (pushed ∙ ap (λ y. list ++ y ∷ []) shown_is));
    }

    -- behind the greatest key there is none
    pub lists_last : AllByRecursion (λ x. course.at x < RANK_STEP * RANK_STEP) (course.all records) → RANK_STEP * RANK_STEP ≤ key
        → list ≡ whole records
    lists_last fit past = lists_none (none_first course.at key (course.all records)
        (AllByRecursion-weaker (λ x. course.at x < RANK_STEP * RANK_STEP) (λ x. course.at x < key) (λ x lt. omega (arith, lt, past)) (course.all records) fit))

-- the identifiers of the first records from a rank on
abbrev pub ids_course : Course ℕ ℕ
ids_course = record { at = λ k. k; shown = id_in; all = keys_of }

pub ids_first : (rank most : ℕ) (ids : List ℕ) (left key : ℕ) (records : Records) → RecordsAreInRange records → ids ≡ [] → left ≡ most
    → key ≡ index_key_of rank 0 → IsListed ids_course (ids_from rank most) ids left key records
ids_first rank most ids left key records range none all first_is = record {
  range = range;
  whole_is = ap (take most) (ids_of_keys rank (finite.entries (index_of records)) (are_places records range))
      ∙ ap (λ n. take n (map id_in (from_key (λ k. k) (index_key_of rank 0) (keys_of records)))) (sym all)
      ∙ ap (λ k. take left (map id_in (from_key (λ n. n) k (keys_of records)))) (sym first_is)
      ∙ ap (λ l. l ++ take left (map id_in (from_key (λ k. k) key (keys_of records)))) (sym none);
}

-- all records, as they are printed
abbrev pub records_course : Course (ℕ × ℕ) Printed
records_course = record { at = λ e. e.0; shown = λ e. (id_in e.0, rank_in_key e.0, e.1); all = entries_of }

shown_entries : (es : List Entry) → ArePlaces es
    → map (λ (e : Entry). (e.0.1, e.0.0, e.1)) es ≡ map records_course.shown (map (λ (e : Entry). (key_of e.0, e.1)) es)
shown_entries [] h = refl
shown_entries (e ∷ es) h =
    let id : e.0.1 ≡ id_in (key_of e.0) = omega (arith, h.0.1) in
    let rank : e.0.0 ≡ rank_in_key (key_of e.0) = omega (arith, h.0.1) in
    λ i. (id i, rank i, e.1) ∷ shown_entries es h.1 i

all_from : (es : List Entry) → from_key (λ (e : ℕ × ℕ). e.0) 0 (map (λ (e : Entry). (key_of e.0, e.1)) es) ≡ map (λ (e : Entry). (key_of e.0, e.1)) es
all_from [] = refl
all_from (e ∷ es) =
    let test : nat_le 0 (key_of e.0) ≡ true = grind (arith, nat_tests) in
    ap (λ b. cond b ((key_of e.0, e.1) ∷ from_key (λ (p : ℕ × ℕ). p.0) 0 (map (λ (p : Entry). (key_of p.0, p.1)) es))
    (from_key (λ (p : ℕ × ℕ). p.0) 0 (map (λ (p : Entry). (key_of p.0, p.1)) es))) test
    ∙ ap (λ l. (key_of e.0, e.1) ∷ l) (all_from es)

-- no store has more records than blocks
all_printed : (shape : RecordShape) (words : List ℕ) (records : Records) → Stands shape words records
    → take shape.blocks (printed_of records) ≡ printed_of records
all_printed shape words records stand =
    let keyed : finite.entries stand.trees.index ≡ entries_of records = entries_keyed records stand.range stand.trees stand.held in
    let count : length (printed_of records) ≡ finite.len stand.trees.index =
    length-map (finite.entries (index_of records)) (λ (e : Entry). (e.0.1, e.0.0, e.1))
    ∙ sym (length-map (finite.entries (index_of records)) (λ (e : Entry). (key_of e.0, e.1)))
    ∙ ap length (sym keyed) ∙ sym (len-entries stand.trees.index) in
    take_all shape.blocks (printed_of records) (omega (arith, count, trees_counted stand.parts))

pub records_first : (shape : RecordShape) (words : List ℕ) (records : Records) → Stands shape words records
    → (list : List Printed) (left key : ℕ) → list ≡ [] → left ≡ shape.blocks → key ≡ 0
    → IsListed records_course printed_of list left key records
records_first shape words records stand list left key none all first_is = record {
  range = stand.range;
  whole_is = sym (all_printed shape words records stand)
      ∙ ap (take shape.blocks) (shown_entries (finite.entries (index_of records)) (are_places records stand.range)
      ∙ ap (map records_course.shown) (sym (all_from (finite.entries (index_of records)))))
      ∙ ap (λ n. take n (map records_course.shown (from_key records_course.at 0 (entries_of records)))) (sym all)
      ∙ ap (λ k. take left (map records_course.shown (from_key records_course.at k (entries_of records)))) (sym first_is)
      ∙ ap (λ l. l ++ take left (map records_course.shown (from_key records_course.at key (entries_of records)))) (sym none);
}
