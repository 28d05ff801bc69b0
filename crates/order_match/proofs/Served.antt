-- The order of keys is the order in which orders are served.
use Rattle.order_match.proofs.Common.{◌≡◌, ℕ, ◌+◌, ◌-◌, ◌*◌, ◌<◌, ◌≤◌, Bool, true, false, cond, not, ◌&&◌, ◌==◌, nat_le, if◌then◌else◌, inl, inr, List, [], ◌∷◌}
use Rattle.order_match.proofs.Common.{map, filter, refl, sym, ap, ◌∙◌, arith, eq-eqb, eqb-true, cases_lt, nat_tests, both_ways, nat_cmp_total, Ordering, Less}
use Rattle.order_match.proofs.Common.{Equal, Greater, nat_cmp, ordering_then, eq_by_cmp, Resting, allows, in_order, partners, serving_cmp, OrderBook, by_number}
use Rattle.order_match.proofs.Common.{is_on, IsBookOf, IsRestingOrder, Has, has_filtered, filtered_has, of_one, of_every, on_is, none_tie, serving_total}
use Rattle.order_match.proofs.Common.{in_order_has, has_in_order, in_order_sorted, one_sorted, HALF, side_at, side_of, resting_key, key_at, quantities_on}
use Rattle.std.proofs.lemmas.List.{nil_from_length}
use Rattle.std.proofs.lemmas.List.Kept.{IsStrictlySortedBy-filter}
use Rattle.std.proofs.lemmas.List.Sums.{take_while-cons}
use Rattle.std.specs.Cmp.{IsTotalOrder}
use Rattle.std.specs.FinMap.Entries.{put, by_order}
use Rattle.std.specs.List.{IsDistinct, take_while}
use Rattle.std.specs.List.Sorted.{IsStrictlySortedBy}
use Rattle.std.specs.Ordering.{is_eq, is_le}
use Rattle.order_text.specs.Matching.{put_in}
use Rattle.order_text.proofs.Prices.{is_on_true}
use Rattle.order_match.specs.declared.layout.TheConstants.{PRICE_CEILING}
use Rattle.std.specs.FinMap as finite

-- the order of numbers
pub nat_less : (a b : ℕ) → a < b → nat_cmp a b ≡ Less
nat_less a b lt = grind (arith, nat_tests)

pub nat_greater : (a b : ℕ) → b < a → nat_cmp a b ≡ Greater
nat_greater a b lt = grind (arith, nat_tests)

pub nat_equal : (a b : ℕ) → a ≡ b → nat_cmp a b ≡ Equal
nat_equal a b e = grind (arith, nat_tests)

-- numbers are in the order of their upper halves and then of their lower ones
pub by_halves : (a b m n : ℕ) → m < HALF → n < HALF → nat_cmp (a * HALF + m) (b * HALF + n) ≡ ordering_then (nat_cmp a b) (nat_cmp m n)
by_halves a b m n low below = elim (cases_lt a b) [
  | inl lt ↦ nat_less (a * HALF + m) (b * HALF + n) (omega (arith, lt, low, below))
      ∙ sym (ap (λ (r : Ordering). ordering_then r (nat_cmp m n)) (nat_less a b lt))
  | inr le ↦ elim (cases_lt b a) [
    | inl gt ↦ nat_greater (a * HALF + m) (b * HALF + n) (omega (arith, gt, low, below))
        ∙ sym (ap (λ (r : Ordering). ordering_then r (nat_cmp m n)) (nat_greater a b gt))
    | inr ge ↦ let same : a ≡ b = omega (arith, le, ge) in
        lower same ∙ sym (ap (λ (r : Ordering). ordering_then r (nat_cmp m n)) (nat_equal a b same))
  ]
]
  where
    lower : a ≡ b → nat_cmp (a * HALF + m) (b * HALF + n) ≡ nat_cmp m n
    lower same = elim (cases_lt m n) [
      | inl lt ↦ nat_less (a * HALF + m) (b * HALF + n) (omega (arith, lt, same)) ∙ sym (nat_less m n lt)
      | inr le ↦ elim (cases_lt n m) [
        | inl gt ↦ nat_greater (a * HALF + m) (b * HALF + n) (omega (arith, gt, same)) ∙ sym (nat_greater m n gt)
        | inr ge ↦ let e : m ≡ n = omega (arith, le, ge) in nat_equal (a * HALF + m) (b * HALF + n) (omega (arith, e, same)) ∙ sym (nat_equal m n e)
      ]
    ]

-- what is taken from one number turns the order
taken : (p q : ℕ) → p ≤ PRICE_CEILING → q ≤ PRICE_CEILING → nat_cmp (PRICE_CEILING - p) (PRICE_CEILING - q) ≡ nat_cmp q p
taken p q low below = elim (cases_lt q p) [
  | inl lt ↦ nat_less (PRICE_CEILING - p) (PRICE_CEILING - q) (omega (arith, lt, low, below)) ∙ sym (nat_less q p lt)
  | inr le ↦ elim (cases_lt p q) [
    | inl gt ↦ nat_greater (PRICE_CEILING - p) (PRICE_CEILING - q) (omega (arith, gt, low, below)) ∙ sym (nat_greater q p gt)
    | inr ge ↦ let e : q ≡ p = omega (arith, le, ge) in
        nat_equal (PRICE_CEILING - p) (PRICE_CEILING - q) (omega (arith, e)) ∙ sym (nat_equal q p e)
  ]
]

-- the numbers of an order fit the halves of its key
pub record Fits (r : Resting) : Type 0 where
  pub price : r.price ≤ PRICE_CEILING
  pub number : r.number < HALF

pub in_range : (instruments : ℕ) (r : Resting) → IsRestingOrder instruments r → Fits r
in_range instruments r is = let p = is.limits_are.price_is.1 in let n = is.number_is.1 in record { price = omega arith; number = omega arith }

keys_of_side : (buys : Bool) (x y : Resting) → Fits x → Fits y
    → nat_cmp (key_at buys x.price x.number) (key_at buys y.price y.number) ≡ serving_cmp buys x y
keys_of_side true x y p q = by_halves (PRICE_CEILING - x.price) (PRICE_CEILING - y.price) x.number y.number p.number q.number
    ∙ ap (λ (r : Ordering). ordering_then r (nat_cmp x.number y.number)) (taken x.price y.price p.price q.price)
keys_of_side false x y p q = by_halves x.price y.price x.number y.number p.number q.number

pub keys_served : (x y : Resting) → Fits x → Fits y → x.buys ≡ y.buys → nat_cmp (resting_key x) (resting_key y) ≡ serving_cmp x.buys x y
keys_served x y p q same = ap (λ (b : Bool). nat_cmp (resting_key x) (key_at b y.price y.number)) (sym same) ∙ keys_of_side x.buys x y p q

-- items under their keys, in the order of these
module _ {X : Type 0} (cmp : X → X → Ordering) (key value : X → ℕ) where
  abbrev pub entry : X → ℕ × ℕ
  entry x = (key x, value x)

  put_keyed : (x : X) (ys : List X) → ((y : X) → Has y ys → (nat_cmp (key x) (key y) ≡ cmp x y) × (is_eq (cmp x y) ≡ false))
      → put nat_cmp (key x) (value x) (map entry ys) ≡ map entry (put_in cmp x ys)
  put_keyed x [] agree = refl
  put_keyed x (y ∷ ys) agree = at (cmp x y) refl (agree y (inl refl)) (put_keyed x ys (λ z t. agree z (inr t)))
    where
      at : (r : Ordering) → cmp x y ≡ r → (nat_cmp (key x) (key y) ≡ cmp x y) × (is_eq (cmp x y) ≡ false)
          → put nat_cmp (key x) (value x) (map entry ys) ≡ map entry (put_in cmp x ys)
          → put nat_cmp (key x) (value x) (map entry (y ∷ ys)) ≡ map entry (put_in cmp x (y ∷ ys))
      at Less e here rest = ap (λ (r : Ordering). by_order r (entry x ∷ map entry (y ∷ ys)) ((key y, value x) ∷ map entry ys)
          (entry y ∷ put nat_cmp (key x) (value x) (map entry ys))) (here.0 ∙ e)
          ∙ sym (ap (λ (r : Ordering). map entry (if is_le r then x ∷ y ∷ ys else y ∷ put_in cmp x ys)) e)
      at Equal e here rest = absurd (let z : true ≡ false = sym (ap is_eq e) ∙ here.1 in cc)
      at Greater e here rest = ap (λ (r : Ordering). by_order r (entry x ∷ map entry (y ∷ ys)) ((key y, value x) ∷ map entry ys)
          (entry y ∷ put nat_cmp (key x) (value x) (map entry ys))) (here.0 ∙ e)
          ∙ (ap (λ (es : List (ℕ × ℕ)). entry y ∷ es) rest
          ∙ sym (ap (λ (r : Ordering). map entry (if is_le r then x ∷ y ∷ ys else y ∷ put_in cmp x ys)) e))

  pub entries_in_order : IsTotalOrder cmp → (xs : List X) → ((x y : X) → Has x xs → Has y xs → nat_cmp (key x) (key y) ≡ cmp x y)
      → IsDistinct (eq_by_cmp cmp) xs → finite.entries (finite.from_entries {R = nat_cmp} (map entry xs)) ≡ map entry (in_order cmp xs)
  unfolding IsDistinct
  entries_in_order total [] agree apart = nil_from_length _ (sym (finite.len-entries (finite.empty {X = ℕ} {R = nat_cmp})) ∙ finite.len-empty nat_cmp ℕ)
  entries_in_order total (x ∷ xs) agree apart =
      finite.entries-insert nat_cmp_total (finite.from_entries (map entry xs)) (key x) (value x)
      ∙ ap (put nat_cmp (key x) (value x)) (entries_in_order total xs (λ y z h k. agree y z (inr h) (inr k)) apart.1)
      ∙ put_keyed x (in_order cmp xs) (λ y h. let t = in_order_has cmp total xs y h in
      (agree x y (inl refl) (inr t), of_one (λ w. is_eq (cmp x w) ≡ false) xs y apart.0 t))

-- lists by tests
pub filter_alike : {X : Type 0} (p q : X → Bool) (xs : List X) → ((x : X) → Has x xs → p x ≡ q x) → filter p xs ≡ filter q xs
filter_alike p q [] same = refl
filter_alike p q (x ∷ xs) same =
    ap (λ b. cond b (x ∷ filter p xs) (filter p xs)) (same x (inl refl))
    ∙ ap (λ ys. cond (q x) (x ∷ ys) ys) (filter_alike p q xs (λ y h. same y (inr h)))

pub filter_twice : {X : Type 0} (p q : X → Bool) (xs : List X) → filter (λ x. p x && q x) xs ≡ filter q (filter p xs)
filter_twice p q [] = refl
filter_twice {X = X} p q (x ∷ xs) = at (p x) (filter_twice p q xs)
  where
    at : (b : Bool) → filter (λ (y : X). p y && q y) xs ≡ filter q (filter p xs)
        → cond (b && q x) (x ∷ filter (λ (y : X). p y && q y) xs) (filter (λ (y : X). p y && q y) xs)
        ≡ filter q (cond b (x ∷ filter p xs) (filter p xs))
    at true rest = ap (λ ys. cond (q x) (x ∷ ys) ys) rest
    at false rest = rest

-- different sides have different numbers
pub sides_differ : (i j : ℕ) (b c : Bool) → 1 ≤ i → 1 ≤ j → side_at i b ≡ side_at j c → (i ≡ j) × (b ≡ c)
sides_differ i j true true p q e = (omega (arith, p, q, e), refl)
sides_differ i j true false p q e = absurd (omega (arith, p, q, e))
sides_differ i j false true p q e = absurd (omega (arith, p, q, e))
sides_differ i j false false p q e = (omega (arith, p, q, e), refl)

pub on_side : (instrument : ℕ) (buys : Bool) (r : Resting) → 1 ≤ instrument → 1 ≤ r.instrument
    → (side_of r == side_at instrument buys) ≡ is_on instrument buys r
on_side instrument buys r p q = both_ways (side_of r == side_at instrument buys) (is_on instrument buys r)
    (λ e. let k = sides_differ r.instrument instrument r.buys buys q p (eqb-true _ _ e) in is_on_true instrument buys r k.0 k.1)
    (λ e. let k = on_is instrument buys r e in
    eq-eqb (side_of r) (side_at instrument buys) (λ i. side_at (k.0 i) (k.1 i)))

-- orders that go by their numbers and are in their ranges
pub record AreOrders (orders : List Resting) : Type 0 where
  pub rising : IsStrictlySortedBy by_number orders
  pub fit : (r : Resting) → Has r orders → Fits r
  pub numbered : (r : Resting) → Has r orders → 1 ≤ r.instrument

pub orders_of : (instruments : ℕ) (book : OrderBook) → IsBookOf instruments book → AreOrders book.orders
orders_of instruments book is = record {
  rising = is.room.rising;
  fit = λ r h. in_range instruments r (of_every (IsRestingOrder instruments) book.orders r is.each h);
  numbered = λ r h. (of_every (IsRestingOrder instruments) book.orders r is.each h).limits_are.instrument_is.0;
}

pub fewer_orders : (p : Resting → Bool) (orders : List Resting) → AreOrders orders → AreOrders (filter p orders)
fewer_orders p orders are = record {
  rising = IsStrictlySortedBy-filter by_number p orders are.rising;
  fit = λ r h. are.fit r (has_filtered p orders r h).0;
  numbered = λ r h. are.numbered r (has_filtered p orders r h).0;
}

module _ (instrument : ℕ) (buys : Bool) (orders : List Resting) (are : AreOrders orders) where
  abbrev pub on : List Resting
  on = filter (is_on instrument buys) orders

  pub on_orders : AreOrders on
  on_orders = fewer_orders (is_on instrument buys) orders are

  pub side_is : (r : Resting) → Has r on → r.buys ≡ buys
  side_is r h = (on_is instrument buys r (has_filtered (is_on instrument buys) orders r h).1).1

  pub trees_served : 1 ≤ instrument → finite.entries (quantities_on (side_at instrument buys) orders)
      ≡ map (λ r. (resting_key r, r.quantity)) (in_order (serving_cmp buys) on)
  trees_served low =
      ap (λ (rs : List Resting). finite.entries (finite.from_entries {R = nat_cmp} (map (λ (r : Resting). (resting_key r, r.quantity)) rs)))
      (filter_alike (λ r. side_of r == side_at instrument buys) (is_on instrument buys) orders
      (λ r h. on_side instrument buys r low (are.numbered r h)))
      ∙ entries_in_order (serving_cmp buys) resting_key (λ r. r.quantity) (serving_total buys) on
      (λ x y h k. keys_served x y (on_orders.fit x h) (on_orders.fit y k) (side_is x h ∙ sym (side_is y k))
      ∙ ap (λ b. serving_cmp b x y) (side_is x h))
      (none_tie buys on on_orders.rising)

-- orders that pass a test, as they are served
pub in_order_filter : (buys : Bool) (q : Resting → Bool) (orders : List Resting) → IsStrictlySortedBy by_number orders
    → in_order (serving_cmp buys) (filter q orders) ≡ filter q (in_order (serving_cmp buys) orders)
in_order_filter buys q orders rising =
    let cmp = serving_cmp buys in
    let total = serving_total buys in
    one_sorted cmp total (in_order cmp (filter q orders)) (filter q (in_order cmp orders))
    (in_order_sorted cmp total (filter q orders) (none_tie buys (filter q orders) (IsStrictlySortedBy-filter by_number q orders rising)))
    (IsStrictlySortedBy-filter cmp q (in_order cmp orders) (in_order_sorted cmp total orders (none_tie buys orders rising)))
    (λ z h. let t = has_filtered q orders z (in_order_has cmp total (filter q orders) z h) in
    filtered_has q (in_order cmp orders) z (has_in_order cmp total orders z t.0) t.1)
    (λ z h. let t = has_filtered q (in_order cmp orders) z h in
    has_in_order cmp total (filter q orders) z (filtered_has q orders z (in_order_has cmp total orders z t.0) t.1))

-- the first of a sorted list stands before all others
pub sorted_first : {X : Type 0} (cmp : X → X → Ordering) (p : X) (rs : List X) → IsStrictlySortedBy cmp (p ∷ rs) → (r : X) → Has r rs → cmp p r ≡ Less
unfolding IsStrictlySortedBy
sorted_first cmp p rs sorted r h = of_one (λ w. cmp p w ≡ Less) rs r sorted.0 h

-- if a test that one passes is passed by all before it, those that pass are the front
module _ {X : Type 0} (cmp : X → X → Ordering) (q : X → Bool) where
  pub none_pass : (x : X) (xs : List X) → q x ≡ false → ((y : X) → Has y xs → q y ≡ true → q x ≡ true) → filter q xs ≡ []
  none_pass x [] fails before = refl
  none_pass x (y ∷ ys) fails before = at (q y) refl (none_pass x ys fails (λ z h. before z (inr h)))
    where
      at : (b : Bool) → q y ≡ b → filter q ys ≡ [] → filter q (y ∷ ys) ≡ []
      at true e rest = absurd (let z : true ≡ false = sym (before y (inl refl) e) ∙ fails in cc)
      at false e rest = ap (λ c. cond c (y ∷ filter q ys) (filter q ys)) e ∙ rest

  pub front_passes : (xs : List X) → IsStrictlySortedBy cmp xs
      → ((x y : X) → Has x xs → Has y xs → cmp x y ≡ Less → q y ≡ true → q x ≡ true) → filter q xs ≡ take_while q xs
  unfolding IsStrictlySortedBy
  front_passes [] sorted before = refl
  front_passes (x ∷ xs) sorted before = at (q x) refl (front_passes xs sorted.1 (λ y z h k. before y z (inr h) (inr k)))
      (λ e. none_pass x xs e (λ y h. before x y (inl refl) (inr h) (of_one (λ w. cmp x w ≡ Less) xs y sorted.0 h)))
    where
      at : (b : Bool) → q x ≡ b → filter q xs ≡ take_while q xs → (q x ≡ false → filter q xs ≡ []) → filter q (x ∷ xs) ≡ take_while q (x ∷ xs)
      at true e rest none = ap (λ c. cond c (x ∷ filter q xs) (filter q xs)) e
          ∙ (ap (λ ys. x ∷ ys) rest
          ∙ sym (take_while-cons q x xs ∙ ap (λ c. cond c (x ∷ take_while q xs) []) e))
      at false e rest none = ap (λ c. cond c (x ∷ filter q xs) (filter q xs)) e
          ∙ (none e
          ∙ sym (take_while-cons q x xs ∙ ap (λ c. cond c (x ∷ take_while q xs) []) e))

-- a better price is allowed too
pub better : (o : Resting) (x y : Resting) → serving_cmp (not o.buys) x y ≡ Less → allows o y.price ≡ true → allows o x.price ≡ true
better o x y less = by o.buys less
  where
    no_later : (a b : ℕ) (r : Ordering) → ordering_then (nat_cmp a b) r ≡ Less → a ≤ b
    no_later a b r e = elim (cases_lt b a) [
      | inl gt ↦ absurd (let z : Greater ≡ Less = sym (ap (λ (s : Ordering). ordering_then s r) (nat_greater a b gt)) ∙ e in cc)
      | inr le ↦ le
    ]

    at_most : (a b c : ℕ) → a ≤ b → nat_le b c ≡ true → nat_le a c ≡ true
    at_most a b c le e = grind (arith, nat_tests)

    at_least : (a b c : ℕ) → b ≤ a → nat_le c b ≡ true → nat_le c a ≡ true
    at_least a b c le e = grind (arith, nat_tests)

    by : (b : Bool) → serving_cmp (not b) x y ≡ Less → (if b then nat_le y.price o.price else nat_le o.price y.price) ≡ true
        → (if b then nat_le x.price o.price else nat_le o.price x.price) ≡ true
    by true e = at_most x.price y.price o.price (no_later x.price y.price (nat_cmp x.number y.number) e)
    by false e = at_least x.price y.price o.price (no_later y.price x.price (nat_cmp x.number y.number) e)

-- the other side of an order, as it is served
abbrev pub served : Resting → List Resting → List Resting
served o orders = in_order (serving_cmp (not o.buys)) (filter (is_on o.instrument (not o.buys)) orders)

module _ (o : Resting) (orders : List Resting) (are : AreOrders orders) where
  pub served_sorted : IsStrictlySortedBy (serving_cmp (not o.buys)) (served o orders)
  served_sorted =
      in_order_sorted (serving_cmp (not o.buys)) (serving_total (not o.buys)) (filter (is_on o.instrument (not o.buys)) orders)
      (none_tie (not o.buys) (filter (is_on o.instrument (not o.buys)) orders) (on_orders o.instrument (not o.buys) orders are).rising)

  -- of which those are partners whose price is allowed
  pub partners_allowed : partners o orders ≡ filter (λ r. allows o r.price) (served o orders)
  partners_allowed =
      ap (in_order (serving_cmp (not o.buys))) (filter_twice (is_on o.instrument (not o.buys)) (λ r. allows o r.price) orders)
      ∙ in_order_filter (not o.buys) (λ r. allows o r.price) (filter (is_on o.instrument (not o.buys)) orders)
      (on_orders o.instrument (not o.buys) orders are).rising

  pub partners_front : partners o orders ≡ take_while (λ r. allows o r.price) (served o orders)
  partners_front = partners_allowed ∙ front_passes (serving_cmp (not o.buys)) (λ r. allows o r.price) (served o orders) served_sorted
      (λ x y h k less. better o x y less)
