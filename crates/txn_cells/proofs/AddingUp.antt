-- What additions come to, one after another.
use Rattle.txn_cells.proofs.Common.{◌≡◌, ◌≢◌, ◌⊎◌, inl, inr, ⊎_elim, ℕ, zero, suc, ◌+◌, ◌-◌, ◌*◌, ◌%◌, ◌^◌, ◌<◌, ◌≤◌, Bool, true, false, ◌==◌, if◌then◌else◌}
use Rattle.txn_cells.proofs.Common.{List, [], ◌∷◌, ◌++◌, Some, length, replicate, take, slice_get, slice_index, slice_set, sum_by, refl, sym, ap, ◌∙◌, subst}
use Rattle.txn_cells.proofs.Common.{arith, add-zero, eqb_tells, get_or-set_same, get_or-set_other, get_or-replicate, length-set, slice_get_within, Entry, IsIn}
use Rattle.txn_cells.proofs.Common.{after, below_get, MOST_PASSES, ClosedView, AreRecords, IsCoherent, IsLegalInEachOrder, CELLS, MOST_ROUNDS, AddsInRound}
use Rattle.txn_cells.proofs.Common.{AreAllCells, added_by, added_to, first_cell, second_cell, sums_of, AreCellValues, AreSoMany, IsRound}
use Rattle.values_rule.proofs.Common.{replay_items, IsLegalTrace, item_of_entry, items_of_entry}
use Rattle.word_table.proofs.Common.{entry_from}
use Rattle.txn_commit.proofs.Common.{in_flat_map}
use Rattle.std.proofs.Common.{mul-one}
use Rattle.std.proofs.lemmas.List.{take_all}
use Rattle.std.proofs.lemmas.List.FromFn.{fill_by_all}
use Rattle.std.proofs.lemmas.List.Sums.{sum_by_push}
use Rattle.std.proofs.lemmas.Option.{slice_get-get_or}
use Rattle.history_model.specs.declared.item.Item.{Item}
use Rattle.history_model.specs.Histories.{replay_effects}
use Rattle.history_model.proofs.ListPlaces.{take-more}
use Rattle.history_model.proofs.Items.ItemOrders.{next_words, replay_items-append}
use Rattle.values_rule.specs.Closing.{IsPlaced}
use Rattle.values_rule.proofs.Told.ItemsIn.{entry_into, flat_map_in}
use Rattle.txn_cells.specs.declared.coded.Coded.{Ghosts as Codes}
use Rattle.txn_cells.specs.Adding.{amount_by, sum_below}
use Rattle.txn_cells.proofs.Keyed.{HasOneEach, sum_of_each}
use Rattle.txn_cells.proofs.SumsBelow.{sum_of_all, alike_below, none_below, one_below, ones, small_below}

set_here : (s : List ℕ) (i j v : ℕ) → i ≡ j → i < length s → slice_index (slice_set s i v) j ≡ v
set_here s i j v e lt = ap (λ k. slice_index (slice_set s i v) k) (sym e) ∙ get_or-set_same s i v 0 lt

set_off : (s : List ℕ) (i j v : ℕ) → i ≢ j → slice_index (slice_set s i v) j ≡ slice_index s j
set_off s i j v differ = get_or-set_other s i j v 0 (λ e. differ (sym e))

mod_small : (x : ℕ) → x < 2 ^ 128 → x ≡ (x + (0 + 0)) % 2 ^ 128
mod_small x lt = omega (arith, lt)

mod_none : (x : ℕ) → x < 2 ^ 128 → x % 2 ^ 128 ≡ x
mod_none x lt = omega (arith, lt)

mod_more : (x a : ℕ) → (x % 2 ^ 128 + a) % 2 ^ 128 ≡ (x + a) % 2 ^ 128
mod_more x a = omega arith

-- two additions to different cells
module _ (values : List ℕ) (p q a i : ℕ) (differ : p ≢ q) where
  abbrev once : List ℕ
  once = added_to p a values

  abbrev twice : List ℕ
  twice = added_to q 1 once

  -- what the cell has then, by whether it is the first and whether it is the second
  abbrev has_then : Bool → Bool → ℕ
  has_then b c = (slice_index values i + ((if b then a else 0) + (if c then 1 else 0))) % 2 ^ 128

  has_is : (b c : Bool) → (p == i) ≡ b → (q == i) ≡ c → has_then b c ≡ has_then (p == i) (q == i)
  has_is b c e f = sym (ap (λ t. has_then t (q == i)) e ∙ ap (λ t. has_then b t) f)

  not_second : q ≢ i → slice_index twice i ≡ slice_index once i
  not_second other = set_off once q i ((slice_index once q + 1) % 2 ^ 128) other

  not_first : (k : ℕ) → p ≢ k → slice_index once k ≡ slice_index values k
  not_first k other = set_off values p k ((slice_index values p + a) % 2 ^ 128) other

  is_first : p ≡ i → p < length values → slice_index once i ≡ (slice_index values i + a) % 2 ^ 128
  is_first is within =
      set_here values p i ((slice_index values p + a) % 2 ^ 128) is within ∙ ap (λ k. (slice_index values k + a) % 2 ^ 128) is

  is_second : q ≡ i → q < length values → slice_index twice i ≡ (slice_index values i + 1) % 2 ^ 128
  is_second is within =
      let long : q < length once = omega (arith, within, length-set values p ((slice_index values p + a) % 2 ^ 128)) in
      let before : slice_index once q ≡ slice_index values i = not_first q differ ∙ ap (λ k. slice_index values k) is in
      set_here once q i ((slice_index once q + 1) % 2 ^ 128) is long ∙ ap (λ n. (n + 1) % 2 ^ 128) before

  added_twice : p < length values → q < length values → slice_index values i < 2 ^ 128 → slice_index twice i ≡ has_then (p == i) (q == i)
  added_twice within_p within_q small = ⊎_elim
      (λ first. ⊎_elim
      (λ second. absurd (differ (first.1 ∙ sym second.1)))
      (λ off. not_second off.1 ∙ (is_first first.1 within_p
      ∙ (ap (λ n. (slice_index values i + n) % 2 ^ 128) (sym (add-zero a)) ∙ has_is true false first.0 off.0)))
      (eqb_tells q i))
      (λ off. ⊎_elim
      (λ second. is_second second.1 within_q ∙ has_is false true off.0 second.0)
      (λ none. not_second none.1 ∙ (not_first i off.1 ∙ (mod_small (slice_index values i) small ∙ has_is false false off.0 none.0)))
      (eqb_tells q i))
      (eqb_tells p i)

cells_differ : (caller round : ℕ) → first_cell caller round ≢ second_cell caller round
cells_differ caller round e = omega (arith, e)

-- each cell has its amount more
added_at : (caller round : ℕ) (values : List ℕ) → length values ≡ CELLS → (i : ℕ) → slice_index values i < 2 ^ 128
    → slice_index (added_by caller round values) i ≡ (slice_index values i + amount_by caller round i) % 2 ^ 128
added_at caller round values long i small =
    let first : first_cell caller round < length values = omega (arith, long) in
    let second : second_cell caller round < length values = omega (arith, long) in
    added_twice values (first_cell caller round) (second_cell caller round) (2 ^ 64 - 1) i (cells_differ caller round) first second small

-- what a caller adds to a cell in a round
amount_small : (caller round i : ℕ) → amount_by caller round i ≤ 2 ^ 64
amount_small caller round i = by (first_cell caller round == i) (second_cell caller round == i)
  where
    by : (b c : Bool) → (if b then 2 ^ 64 - 1 else 0) + (if c then 1 else 0) ≤ 2 ^ 64
    by true true = omega arith
    by true false = omega arith
    by false true = omega arith
    by false false = omega arith

-- all that callers add to a cell is a number of 128 bits
sum_small : (callers rounds i : ℕ) → callers ≤ MOST_PASSES → rounds ≤ MOST_ROUNDS → sum_of_all callers rounds (λ c r. amount_by c r i) < 2 ^ 128
sum_small callers rounds i few short =
    let one : (c : ℕ) → sum_below rounds (λ r. amount_by c r i) ≤ 10000 * 2 ^ 64 =
    λ c. omega (arith, short, small_below rounds (2 ^ 64) (λ r. amount_by c r i) (λ r _. amount_small c r i)) in
    omega (arith, few, small_below callers (10000 * 2 ^ 64) (λ c. sum_below rounds (λ r. amount_by c r i)) (λ c _. one c))

module _ {S : Type 0} (code : Codes ℕ) (callers rounds : ℕ) (closed : ClosedView S)
    (coherent : IsCoherent (AreAllCells code) closed) (legal : IsLegalInEachOrder (AreAllCells code) closed) (records : AreRecords closed)
    (each : (c r : ℕ) → c < callers → r < rounds → IsRound code closed.records c r)
    (near : (e : Entry) → IsIn e closed.records → (e.who < callers) × (1 ≤ e.call) × (e.call ≤ rounds)) where
  -- the words as those before a place leave them
  abbrev before : ℕ → List ℕ
  before p = replay_items closed.base (take p coherent.order)

  placed : (p : ℕ) (x : Item) → slice_get coherent.order p ≡ Some x → IsPlaced (AreAllCells code) closed.seats closed.base coherent.order p x
  placed p x at = legal.placed coherent.order coherent.arranged p x at

  good_before : (p : ℕ) → p ≤ length coherent.order → AreAllCells code (before p)
  unfolding replay_effects
  good_before zero lt = coherent.agree.base_good
  good_before (suc p) lt =
      let x = below_get p coherent.order (omega (arith, lt)) in
      let next : p + 1 ≡ suc p = omega arith in
      subst (λ (n : ℕ). AreAllCells code (before n)) next (placed p x.0 x.1).leaves_good

  -- what a record does
  round_of : (e : Entry) → IsIn e closed.records → (s : List ℕ) → AreAllCells code s → IsLegalTrace e.trace s
      → AddsInRound code e.who (e.call - 1) s e.kept (after e.trace s)
  round_of e is =
      let n : (e.who < callers) × (1 ≤ e.call) × (e.call ≤ rounds) = near e is in
      let t : IsRound code closed.records e.who (e.call - 1) = each e.who (e.call - 1) n.0 (omega (arith, n.1, n.2)) in
      let call : t.entry.call ≡ e.call = omega (arith, t.call_is, n.1) in
      let same : t.entry ≡ e = records.one t.entry e t.there is t.by_seat call in
      subst (λ (x : Entry). (s : List ℕ) → AreAllCells code s → IsLegalTrace x.trace s
      → AddsInRound code e.who (e.call - 1) s x.kept (after x.trace s)) same t.adds

  -- an item is that of a record, or it came to nothing
  item_from : (p : ℕ) (x : Item) → slice_get coherent.order p ≡ Some x
      → ((e : Entry) × IsIn e closed.records × (item_of_entry e ≡ x)) ⊎ ((x.entry ≡ false) × (x.kept ≡ false))
  item_from p x at =
      let r = in_flat_map items_of_entry closed.records x ((coherent.arranged.same x).0 (p, at)) in
      ⊎_elim (λ is. inl (r.0, r.1, is)) (λ t. inr (ap (λ (y : Item). y.entry) (sym t.is), ap (λ (y : Item). y.kept) (sym t.is)))
      (entry_from r.0 x r.2)

  place_of : (e : Entry) → IsIn e closed.records → IsIn (item_of_entry e) coherent.order
  place_of e is = (coherent.arranged.same (item_of_entry e)).1
      (flat_map_in items_of_entry closed.records (item_of_entry e) e is (entry_into e (item_of_entry e) (inl refl)))

  pub all_kept : (e : Entry) → IsIn e closed.records → e.kept ≡ true
  all_kept e is =
      let p : IsIn (item_of_entry e) coherent.order = place_of e is in
      let below : p.0 < length coherent.order = slice_get_within coherent.order p.0 (item_of_entry e) p.1 in
      (round_of e is (before p.0) (good_before p.0 (omega (arith, below))) (placed p.0 (item_of_entry e) p.1).legal).keeps

  -- there is one record for each round, and one item of an entry
  records_each : HasOneEach callers rounds (λ (e : Entry). e.who) (λ (e : Entry). e.call) (λ (e : Entry). true) closed.records
  records_each = record {
    near = λ i e at _. near e (i, at);
    there = λ c r lt less. let t = each c r lt less in (t.there.0, t.entry, t.there.1, refl, t.by_seat, t.call_is);
    one = λ i j e f at_e at_f _ _ who call.
        let same : e ≡ f = records.one e f (i, at_e) (j, at_f) who call in
        records.apart i j e at_e (at_f ∙ ap (λ (x : Entry). Some x) (sym same));
  }

  items_each : HasOneEach callers rounds (λ (x : Item). x.who) (λ (x : Item). x.call) (λ (x : Item). x.entry) coherent.order
  items_each = record {
    near = λ i x at yes. ⊎_elim
        (λ t. subst (λ (y : Item). (y.who < callers) × (1 ≤ y.call) × (y.call ≤ rounds)) t.2 (near t.0 t.1))
        (λ no. absurd (cc (yes, no.0))) (item_from i x at);
    there = λ c r lt less. let t = each c r lt less in let p = place_of t.entry t.there in
        (p.0, item_of_entry t.entry, p.1, refl, t.by_seat, t.call_is);
    one = λ i j x y at_x at_y yes_x yes_y who call. ⊎_elim
        (λ t. ⊎_elim
        (λ u.
        let same : t.0 ≡ u.0 = records.one t.0 u.0 t.1 u.1
        (ap (λ (z : Item). z.who) t.2 ∙ (who ∙ ap (λ (z : Item). z.who) (sym u.2)))
        (ap (λ (z : Item). z.call) t.2 ∙ (call ∙ ap (λ (z : Item). z.call) (sym u.2))) in
        let item : x ≡ y = sym t.2 ∙ (ap item_of_entry same ∙ u.2) in
        coherent.arranged.no_repeat i j x at_x (at_y ∙ ap (λ (z : Item). Some z) (sym item)))
        (λ no. absurd (cc (yes_y, no.0))) (item_from j y at_y))
        (λ no. absurd (cc (yes_x, no.0))) (item_from i x at_x);
  }

  pub so_many : AreSoMany callers rounds closed.records
  so_many = record {
    all = sym (ones closed.records) ∙ (sum_of_each callers rounds _ _ _ closed.records records_each (λ c r. 1)
        ∙ alike_below callers rounds (λ c. sum_below rounds (λ r. 1)) (λ c _. alike_below rounds 1 (λ r. 1) (λ r _. refl) ∙ mul-one rounds));
    of_each = λ c lt. sum_of_each callers rounds _ _ _ closed.records records_each (λ d r. if d == c then 1 else 0)
        ∙ (one_below callers c (λ d. sum_below rounds (λ r. if d == c then 1 else 0)) lt
        (λ d _ no. none_below rounds (λ r. if d == c then 1 else 0) (λ r _. off d c no))
        ∙ (alike_below rounds 1 (λ r. if c == c then 1 else 0) (λ r _. here c) ∙ mul-one rounds));
  }
    where
      here : (c : ℕ) → ◌≡◌ {A = ℕ} (if c == c then 1 else 0) 1
      here c = ⊎_elim (λ yes. ap (λ b. if b then 1 else 0) yes.0) (λ no. absurd (no.1 refl)) (eqb_tells c c)

      off : (d c : ℕ) → d ≢ c → ◌≡◌ {A = ℕ} (if d == c then 1 else 0) 0
      off d c differ = ⊎_elim (λ yes. absurd (differ yes.1)) (λ no. ap (λ b. if b then 1 else 0) no.0) (eqb_tells d c)

  module _ (small : (x : ℕ) → code.is_value x → x < 2 ^ 128) (zeros : AreCellValues code 0 CELLS closed.base (replicate CELLS 0)) where
    -- what an item adds to a cell
    abbrev adds_to : ℕ → Item → ℕ
    adds_to i x = if x.entry then amount_by x.who (x.call - 1) i else 0

    -- the values before a place are the sums of what the items before it add
    record Summed (p : ℕ) : Type 0 where
      values : List ℕ
      are : AreCellValues code 0 CELLS (before p) values
      sums : (i : ℕ) → i < CELLS → slice_index values i ≡ sum_by (adds_to i) (take p coherent.order) % 2 ^ 128

    value_small : (s values : List ℕ) → AreCellValues code 0 CELLS s values → (i : ℕ) → i < CELLS → slice_index values i < 2 ^ 128
    value_small s values are i lt =
        small (slice_index values i) (are.each i (slice_index values i) (slice_get-get_or values i 0 (omega (arith, lt, are.count)))).0

    one_more : (p : ℕ) (x : Item) → slice_get coherent.order p ≡ Some x → Summed p → Summed (suc p)
    one_more p x at so_far =
        let more : take (suc p) coherent.order ≡ take p coherent.order ++ x ∷ [] = take-more p coherent.order x at in
        let words : before (suc p) ≡ next_words x (before p) =
        ap (replay_items closed.base) more ∙ replay_items-append closed.base (take p coherent.order) x in
        let goes_on : (i : ℕ) → sum_by (adds_to i) (take (suc p) coherent.order) ≡ sum_by (adds_to i) (take p coherent.order) + adds_to i x =
        λ i. ap (sum_by (adds_to i)) more ∙ sum_by_push (adds_to i) (take p coherent.order) x in
        let within : p < length coherent.order = slice_get_within coherent.order p x at in
        ⊎_elim
        (λ t.
        let e : Entry = t.0 in
        let kept : e.kept ≡ true = all_kept e t.1 in
        let there : slice_get coherent.order p ≡ Some (item_of_entry e) = at ∙ ap (λ (y : Item). Some y) (sym t.2) in
        let added : AddsInRound code e.who (e.call - 1) (before p) e.kept (after e.trace (before p)) =
        round_of e t.1 (before p) (good_before p (omega (arith, within))) (placed p (item_of_entry e) there).legal in
        let left : before (suc p) ≡ after e.trace (before p) =
        words ∙ (ap (λ (y : Item). next_words y (before p)) (sym t.2)
        ∙ ap (λ b. if b then after e.trace (before p) else before p) kept) in
        record {
          values = added_by e.who (e.call - 1) so_far.values;
          are = subst (λ s. AreCellValues code 0 CELLS s (added_by e.who (e.call - 1) so_far.values)) (sym left) (added.adds so_far.values so_far.are);
          sums = λ i lt.
              added_at e.who (e.call - 1) so_far.values so_far.are.count i (value_small (before p) so_far.values so_far.are i lt)
              ∙ (ap (λ n. (n + amount_by e.who (e.call - 1) i) % 2 ^ 128) (so_far.sums i lt)
              ∙ (mod_more (sum_by (adds_to i) (take p coherent.order)) (amount_by e.who (e.call - 1) i)
              ∙ ap (λ n. n % 2 ^ 128) (ap (λ (y : Item). sum_by (adds_to i) (take p coherent.order) + adds_to i y) t.2 ∙ sym (goes_on i))));
        })
        (λ no.
        let left : before (suc p) ≡ before p = words ∙ ap (λ b. if b then after x.trace (before p) else before p) no.1 in
        record {
          values = so_far.values;
          are = subst (λ s. AreCellValues code 0 CELLS s so_far.values) (sym left) so_far.are;
          sums = λ i lt. so_far.sums i lt ∙ ap (λ n. n % 2 ^ 128)
              (sym (add-zero (sum_by (adds_to i) (take p coherent.order)))
              ∙ (ap (λ b. sum_by (adds_to i) (take p coherent.order) + (if b then amount_by x.who (x.call - 1) i else 0)) (sym no.0) ∙ sym (goes_on i)));
        })
        (item_from p x at)

    summed : (p : ℕ) → p ≤ length coherent.order → Summed p
    unfolding replay_effects
    summed zero lt = record {
      values = replicate CELLS 0;
      are = zeros;
      sums = λ i below. get_or-replicate CELLS i 0 0 below;
    }
    summed (suc p) lt =
        let x = below_get p coherent.order (omega (arith, lt)) in
        one_more p x.0 x.1 (summed p (omega (arith, lt)))

    -- in the end the cells have the sums
    pub are_sums : callers ≤ MOST_PASSES → rounds ≤ MOST_ROUNDS → AreCellValues code 0 CELLS closed.words (sums_of callers rounds)
    are_sums few short =
        let end : Summed (length coherent.order) = summed (length coherent.order) (omega arith) in
        let whole : take (length coherent.order) coherent.order ≡ coherent.order = take_all (length coherent.order) coherent.order (omega arith) in
        let words : before (length coherent.order) ≡ closed.words =
        ap (replay_items closed.base) whole ∙ sym (legal.words coherent.order coherent.arranged) in
        let values : end.values ≡ sums_of callers rounds =
        fill_by_all (λ i. sum_of_all callers rounds (λ c r. amount_by c r i)) end.values CELLS 0 end.are.count
        (λ k lt. end.sums k lt ∙ (ap (λ n. n % 2 ^ 128)
        (ap (sum_by (adds_to k)) whole ∙ sum_of_each callers rounds _ _ _ coherent.order items_each (λ c r. amount_by c r k))
        ∙ mod_none (sum_of_all callers rounds (λ c r. amount_by c r k)) (sum_small callers rounds k few short))) in
        subst (λ s. AreCellValues code 0 CELLS s (sums_of callers rounds)) words
        (subst (AreCellValues code 0 CELLS (before (length coherent.order))) values end.are)
