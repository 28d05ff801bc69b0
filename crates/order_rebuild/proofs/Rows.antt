-- The lines that are made of turns in order.
use Rattle.order_rebuild.proofs.Common.{◌≡◌, ◌≢◌, ℕ, zero, suc, ◌+◌, ◌*◌, ◌/◌, ◌<◌, ◌≤◌, inl, ⊎_elim, List, [], ◌∷◌, length, slice_get, slice_index, get_or}
use Rattle.order_rebuild.proofs.Common.{map, vec_len, Some, refl, sym, ap, ◌∙◌, subst, arith, dite, dec_lt, IsNonDecreasing, slice_get_within, slice_get-get_or}
use Rattle.order_rebuild.proofs.Common.{LockUse, below_get, LINE, Lines, Spot, Turn, Precedes, Orderable, line_place, IsTurnOf, HasTurn, AreTurns, AreStarts}
use Rattle.order_rebuild.proofs.Common.{AreChains, AreRows, AreLines, places, items, item_at, base_at, first_at, last_of, caller_of}
use Rattle.std.specs.List.Sorted.{IsNonDecreasingBy}
use Rattle.order_rebuild.specs.Lines.{AreLinesOf}
use Rattle.order_rebuild.proofs.Codes.{before_codes, lock_line, caller_line, lower, turns_before, turns_same, one_way}

pub map_index : (f : Turn → ℕ) (xs : List Turn) (i : ℕ) (t : Turn) → slice_get xs i ≡ Some t → slice_index (map f xs) i ≡ f t
map_index f [] i t e = cc
map_index f (x ∷ xs) zero t e = let q : x ≡ t = cc in ap f q
map_index f (x ∷ xs) (suc i) t e = map_index f xs i t e

pub map_count : {A B : Type 0} (f : A → B) (xs : List A) → length (map f xs) ≡ length xs
map_count f [] = refl
map_count f (x ∷ xs) = ap suc (map_count f xs)

-- the codes of turns in order never fall
pub codes_rise : (xs : List Turn) → IsNonDecreasingBy (λ (t : Turn). t.code) xs → (i j : ℕ) → i ≤ j → j < length xs
    → slice_index (map (λ (t : Turn). t.code) xs) i ≤ slice_index (map (λ (t : Turn). t.code) xs) j
codes_rise xs sorted i j le lt =
    let d : Turn = record { code = 0; item = 0 } in
    let s = sorted i j d le lt in
    let a = map_index (λ (t : Turn). t.code) xs i (get_or xs i d) (slice_get-get_or xs i d (omega arith)) in
    let b = map_index (λ (t : Turn). t.code) xs j (get_or xs j d) (slice_get-get_or xs j d lt) in omega arith

pub codes_sorted : (xs : List Turn) → IsNonDecreasingBy (λ (t : Turn). t.code) xs → IsNonDecreasing (map (λ (t : Turn). t.code) xs)
codes_sorted xs sorted i j d le lt =
    let n = map_count (λ (t : Turn). t.code) xs in
    let r = codes_rise xs sorted i j le (omega arith) in
    let a = any (map (λ (t : Turn). t.code) xs) i d 0 (omega arith) in let b = any (map (λ (t : Turn). t.code) xs) j d 0 lt in omega arith
  where
    any : (ys : List ℕ) (k d e : ℕ) → k < length ys → get_or ys k d ≡ get_or ys k e
    any [] k d e h = absurd (omega arith)
    any (y ∷ ys) zero d e h = refl
    any (y ∷ ys) (suc k) d e h = any ys k d e (omega arith)

-- those between a place and its start have the same start
pub starts_same : (f : ℕ → ℕ) (m : ℕ) (starts : List ℕ) → AreStarts f m starts → (i j : ℕ) → i < m
    → slice_index starts i ≤ j → j ≤ i → slice_index starts j ≡ slice_index starts i
starts_same f m starts s i j lt low up =
    let e = s.same i j lt low up in
    dite (dec_lt (slice_index starts j) (slice_index starts i))
    (λ h. absurd (let a = s.less i (slice_index starts j) lt h in let l = s.low j (omega arith) in let b =
    s.same j (slice_index starts j) (omega arith) (omega arith) l in omega arith))
    (λ n. dite (dec_lt (slice_index starts i) (slice_index starts j))
    (λ h. absurd (let a = s.less j (slice_index starts i) (omega arith) h in let b =
    s.same i (slice_index starts i) lt (omega arith) (omega arith) in omega arith))
    (λ k. omega arith))

module _ (list : List Spot) (turns : List Turn) (are : AreTurns list (length list) turns) (sorted : IsNonDecreasingBy (λ (t : Turn). t.code) turns)
    (l : Lines) (codes : List ℕ) (codes_is : codes ≡ map (λ (t : Turn). t.code) turns) (item_is : l.item.items ≡ map (λ (t : Turn). t.item) turns)
    (bases : AreStarts (λ i. slice_index codes i / LINE) (length codes) l.base.items)
    (firsts : AreStarts (λ i. slice_index codes i) (length codes) l.first.items)
    (chains : AreChains l.item.items (length l.item.items) (items l) l.before.items l.last.items) (count : items l ≡ length list)
    (callers : length l.callers.items ≡ length list) (caller : (p : ℕ) (s : Spot) → slice_get list p ≡ Some s → caller_of l p ≡ s.caller)
    (item_len : places l ≡ length l.item.items) (base_len : vec_len l.base ≡ length l.base.items)
    (first_len : vec_len l.first ≡ length l.first.items) (callers_len : vec_len l.callers ≡ length l.callers.items) where
  m_codes : length codes ≡ length turns
  m_codes = ap length codes_is ∙ map_count (λ (t : Turn). t.code) turns

  m_items : places l ≡ length turns
  m_items = item_len ∙ (ap length item_is ∙ map_count (λ (t : Turn). t.item) turns)

  code : ℕ → ℕ
  code i = slice_index codes i

  -- the turn at a place
  record TurnAt (i : ℕ) : Type 0 where
    turn : Turn
    at : slice_get turns i ≡ Some turn
    item_is_ : item_at l i ≡ turn.item
    code_is : slice_index codes i ≡ turn.code

  turn_of : (i : ℕ) (t : Turn) → slice_get turns i ≡ Some t → TurnAt i
  turn_of i t e = record {
    turn = t;
    at = e;
    item_is_ = ap (λ (xs : List ℕ). slice_index xs i) item_is ∙ map_index (λ (t : Turn). t.item) turns i t e;
    code_is = ap (λ (xs : List ℕ). slice_index xs i) codes_is ∙ map_index (λ (t : Turn). t.code) turns i t e;
  }

  turn_at : (i : ℕ) → i < places l → TurnAt i
  turn_at i lt = let x = below_get i turns (omega (arith, m_items)) in turn_of i x.0 x.1

  rise : (i j : ℕ) → i ≤ j → j < places l → slice_index codes i ≤ slice_index codes j
  rise i j le lt = subst (λ (xs : List ℕ). slice_index xs i ≤ slice_index xs j) (sym codes_is) (codes_rise turns sorted i j le (omega (arith, m_items)))

  in_codes : (i : ℕ) → i < places l → i < length codes
  in_codes i lt = omega (arith, m_items, m_codes)

  lows : (i : ℕ) → i < places l → base_at l i ≤ first_at l i
  lows i lt = dite (dec_lt (first_at l i) (base_at l i))
      (λ h. absurd (let a = bases.less i (first_at l i) (in_codes i lt) h in let b =
      firsts.same i (first_at l i) (in_codes i lt) (omega arith) (firsts.low i (in_codes i lt)) in let c = ap (λ (n : ℕ). n / LINE) b in omega arith))
      (λ n. omega arith)

  rises_ : (i j : ℕ) → i < places l → j ≤ i → base_at l j ≡ base_at l i → first_at l j ≤ first_at l i
  rises_ i j lt le e = dite (dec_lt (first_at l i) (first_at l j))
      (λ h. absurd (let a = firsts.less j (first_at l i) (in_codes j (omega arith)) h in let b =
      firsts.same i (first_at l i) (in_codes i lt) (omega arith) (firsts.low i (in_codes i lt)) in let c = rise j i le lt in omega arith))
      (λ n. omega arith)

  last_there : (p : ℕ) → p < items l → 0 < last_of l p
  unfolding turn_of
  last_there p lt = cases (last_of l p) refl
    where
      s : (s : Spot) × (slice_get list p ≡ Some s)
      s = below_get p list (omega (arith, count))

      has : HasTurn turns p (line_place s.0.caller s.0.index)
      has = (are.of_caller p s.0 (omega (arith, count)) s.1).1

      cases : (n : ℕ) → last_of l p ≡ n → 0 < last_of l p
      cases (suc n) e = omega arith
      cases zero e = absurd (let t = turn_of has.0 (record { code = line_place s.0.caller s.0.index; item = p }) has.1 in
          let w = slice_get_within turns has.0 (record { code = line_place s.0.caller s.0.index; item = p }) has.1 in
          chains.last_none p has.0 lt (omega arith) (omega (arith, m_items, item_len)) t.item_is_)

  pub rows_are : AreRows l
  rows_are = record {
    bases = base_len ∙ (bases.count ∙ (m_codes ∙ sym m_items));
    firsts = first_len ∙ (firsts.count ∙ (m_codes ∙ sym m_items));
    callers = callers_len ∙ (callers ∙ sym count);
    within = λ i lt. let t = turn_at i lt in let s = (are.sound i t.turn t.at).0 in let e = t.item_is_ in omega (arith, count);
    low = lows;
    up = λ i lt. firsts.low i (in_codes i lt);
    same = λ i j lt low up. starts_same (λ i. slice_index codes i / LINE) (length codes) l.base.items bases i j (in_codes i lt) low up;
    rises = rises_;
    level = λ i j lt low up. starts_same (λ i. slice_index codes i) (length codes) l.first.items firsts i j (in_codes i lt) low up;
    chains = subst (λ (n : ℕ). AreChains l.item.items n (items l) l.before.items l.last.items) (sym item_len) chains;
    somewhere = last_there;
  }

  -- two places in one line, the first with a lower code
  stands : (p q c d : ℕ) → HasTurn turns p c → HasTurn turns q d → c / LINE ≡ d / LINE → c < d
      → (i : ℕ) × (j : ℕ) × (j < places l) × (base_at l j ≤ i) × (i < first_at l j) × (item_at l i ≡ p) × (item_at l j ≡ q)
  unfolding turn_of
  stands p q c d a b line lt =
      let t = turn_of a.0 (record { code = c; item = p }) a.1 in
      let u = turn_of b.0 (record { code = d; item = q }) b.1 in
      let wa = slice_get_within turns a.0 (record { code = c; item = p }) a.1 in
      let wb = slice_get_within turns b.0 (record { code = d; item = q }) b.1 in
      let i_in : a.0 < places l = omega (arith, m_items) in
      let j_in : b.0 < places l = omega (arith, m_items) in
      let ca : slice_index codes a.0 ≡ c = t.code_is in let cb : slice_index codes b.0 ≡ d = u.code_is in (
        a.0,
        b.0,
        j_in,
        dite (dec_lt a.0 (base_at l b.0)) (λ h. absurd (let x = bases.less b.0 a.0 (in_codes b.0 j_in) h in let y =
            ap (λ (n : ℕ). n / LINE) ca in let z = ap (λ (n : ℕ). n / LINE) cb in omega arith)) (λ n. omega arith),
        dite (dec_lt a.0 (first_at l b.0)) (λ h. h) (λ n. absurd (dite (dec_lt b.0 a.0)
            (λ h. let r = rise b.0 a.0 (omega arith) i_in in omega arith)
            (λ k. let x = firsts.same b.0 a.0 (in_codes b.0 j_in) (omega arith) (omega arith) in omega arith))),
        t.item_is_,
        u.item_is_,
      )

  lines_to : Orderable list → (p q : ℕ) (x y : Spot) → slice_get list p ≡ Some x → slice_get list q ≡ Some y → p ≢ q → Precedes x y
      → (i : ℕ) × (j : ℕ) × (j < places l) × (base_at l j ≤ i) × (i < first_at l j) × (item_at l i ≡ p) × (item_at l j ≡ q)
  lines_to orderable p q x y ex ey ne before = ⊎_elim
      (λ b.
      let u : LockUse = record { lock = b.lock; version = b.found; wrote = b.wrote } in
      let v : LockUse = record { lock = b.lock; version = b.other; wrote = b.other_wrote } in
      let a = are.of_uses p x b.uses.0 u (slice_get_within list p x ex) ex b.uses.1 in
      let c = are.of_uses q y b.other_uses.0 v (slice_get_within list q y ey) ey b.other_uses.1 in
      let lt = before_codes x.uses y.uses b.lock a.0 c.0 b.uses.0 b.other_uses.0 u v a.1 c.1
      (λ w. one_way list orderable p q x y ex ey ne before (inl w)) b.uses.1 b.other_uses.1 refl refl
      (lower b.found b.other b.wrote b.other_wrote b.earlier) in
      stands p q a.0 c.0 a.2 c.2 (let k = lock_line x.uses b.lock a.0 a.1 in let m = lock_line y.uses b.lock c.0 c.1 in omega arith) lt)
      (λ b.
      let a = are.of_caller p x (slice_get_within list p x ex) ex in
      let c = are.of_caller q y (slice_get_within list q y ey) ey in
      let s = ap (λ (n : ℕ). 2 * n + 1) b.0 in let r = ap (λ (n : ℕ). (2 * n + 1) * LINE) b.0 in let low = b.1 in
      stands p q (line_place x.caller x.index) (line_place y.caller y.index) a.1 c.1 (caller_line x.caller x.index a.0
      ∙ (s ∙ sym (caller_line y.caller y.index c.0))) (omega arith))
      before

  -- of two places in one line, the first before those that stand level with the second
  behind : (i j : ℕ) → j < places l → base_at l j ≤ i → i < first_at l j
      → (slice_index codes i / LINE ≡ slice_index codes j / LINE) × (slice_index codes i < slice_index codes j)
  behind i j lt low up = (bases.same j i (in_codes j lt) low (let f = firsts.low j (in_codes j lt) in omega arith), firsts.less j i (in_codes j lt) up)

  turn_in : (i : ℕ) → i < places l → IsTurnOf list (item_at l i) (slice_index codes i)
  turn_in i lt = let t = turn_at i lt in
      subst (λ (n : ℕ). IsTurnOf list n (slice_index codes i)) (sym t.item_is_)
      (subst (λ (n : ℕ). IsTurnOf list t.turn.item n) (sym t.code_is) (are.sound i t.turn t.at).1)

  pub lines_are : Orderable list → AreLines list l
  lines_are orderable = record {
    rows = rows_are;
    count = count;
    caller = caller;
    to = lines_to orderable;
    from = λ i j x y lt low up ex ey. let b = behind i j lt low up in let f = firsts.low j (in_codes j lt) in
        turns_before list (item_at l i) (item_at l j) (slice_index codes i) (slice_index codes j) x y ex ey (turn_in i (omega arith)) (turn_in j lt) b.0 b.1;
    apart = λ i j lt low up same. let b = behind i j lt low up in let f = firsts.low j (in_codes j lt) in
        let z = turns_same list (item_at l i) (slice_index codes i) (slice_index codes j) (turn_in i (omega arith))
        (subst (λ (n : ℕ). IsTurnOf list n (slice_index codes j)) (sym same) (turn_in j lt)) b.0 in let c = b.1 in omega arith;
  }

pub items_within : (list : List Spot) (n : ℕ) (turns : List Turn) (item : List ℕ) → AreTurns list n turns
    → item ≡ map (λ (t : Turn). t.item) turns → (i : ℕ) → i < length item → slice_index item i < n
items_within list n turns item are is i lt =
    let m = map_count (λ (t : Turn). t.item) turns in let k = ap length is in
    let t = below_get i turns (omega arith) in
    let e = ap (λ (xs : List ℕ). slice_index xs i) is ∙ map_index (λ (t : Turn). t.item) turns i t.0 t.1 in let s = (are.sound i t.0 t.1).0 in omega arith

callers_there : {A : Type 0} (spot : A → Spot) (xs : List A) (p : ℕ) (s : Spot) → slice_get (map spot xs) p ≡ Some s
    → slice_index (map (λ (x : A). (spot x).caller) xs) p ≡ s.caller
callers_there spot [] p s e = cc
callers_there spot (x ∷ xs) zero s e = let q : spot x ≡ s = cc in ap (λ (z : Spot). z.caller) q
callers_there spot (x ∷ xs) (suc p) s e = callers_there spot xs p s e

pub made : {A : Type 0} (spot : A → Spot) (done : List A) (turns : List Turn) (l : Lines) (codes : List ℕ)
    → AreTurns (map spot done) (length done) turns → IsNonDecreasingBy (λ (t : Turn). t.code) turns
    → codes ≡ map (λ (t : Turn). t.code) turns → l.item.items ≡ map (λ (t : Turn). t.item) turns
    → AreStarts (λ i. slice_index codes i / LINE) (length codes) l.base.items → AreStarts (λ i. slice_index codes i) (length codes) l.first.items
    → AreChains l.item.items (length l.item.items) (length done) l.before.items l.last.items → items l ≡ length done
    → l.callers.items ≡ map (λ (x : A). (spot x).caller) done → AreLinesOf (map spot done) l
made {A} spot done turns l codes are sorted codes_is item_is bases firsts chains count callers = record {
  rows = rows_are (map spot done) turns all sorted l codes codes_is item_is bases firsts chain many long caller
      l.item.ok.0 l.base.ok.0 l.first.ok.0 l.callers.ok.0;
  count = many;
  lines = lines_are (map spot done) turns all sorted l codes codes_is item_is bases firsts chain many long caller
      l.item.ok.0 l.base.ok.0 l.first.ok.0 l.callers.ok.0;
}
  where
    same : length (map spot done) ≡ length done
    same = map_count spot done

    many : items l ≡ length (map spot done)
    many = count ∙ sym same

    all : AreTurns (map spot done) (length (map spot done)) turns
    all = subst (λ (n : ℕ). AreTurns (map spot done) n turns) (sym same) are

    chain : AreChains l.item.items (length l.item.items) (items l) l.before.items l.last.items
    chain = subst (λ (n : ℕ). AreChains l.item.items (length l.item.items) n l.before.items l.last.items) (sym count) chains

    long : length l.callers.items ≡ length (map spot done)
    long = ap length callers ∙ (map_count (λ (x : A). (spot x).caller) done ∙ sym same)

    caller : (p : ℕ) (s : Spot) → slice_get (map spot done) p ≡ Some s → caller_of l p ≡ s.caller
    caller p s e = ap (λ (xs : List ℕ). slice_index xs p) callers ∙ callers_there spot done p s e
