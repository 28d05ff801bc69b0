-- What all workers did, put together, share by share.
use Rattle.worker_pool.proofs.Common.{◌≡◌, ℕ, zero, suc, ◌+◌, ◌<◌, ◌≤◌, ◌&&◌, ◌==◌, ◌↔◌, List, [], ◌∷◌, ◌++◌, All, AllPairs, map, flat_map, length, get_or}
use Rattle.worker_pool.proofs.Common.{count_by, nat_lt, refl, sym, ap, ◌∙◌, subst, arith, cond, sum_by, flat_map-cons, All-nil, All-append, All-head, All-tail}
use Rattle.worker_pool.proofs.Common.{All-weaker, sum_by-append, sum_by-cons, same_Some, slice_get-get_or, nat_tests, Entry, IsIn, ClearingInput, Place}
use Rattle.worker_pool.proofs.Common.{IsPlace, BooksShape, PassView, DeskView, Done, once_below, place_of_item, places_of_items, spot_of, AreMadeBy}
use Rattle.worker_pool.proofs.Common.{IsScriptEntry, counted_number, IsDone, CountedShare}
use Rattle.order_rebuild.proofs.Common.{at_map}
use Rattle.txn_commit.proofs.Common.{map_at}
use Rattle.std.proofs.lemmas.List.Kept.{AllPairs-cons}
use Rattle.txn_commit.proofs.Flattened.{beside_flat, in_flat, into_flat, of_in, AreBeside}
use Rattle.txn_commit.proofs.Orders.Rebuilt.{apart_places, AreApart, Readings}
use Rattle.worker_pool.proofs.Running.{among_had, one_if}

abbrev pub items_of : CountedShare → List Done
items_of counted = counted.share.done.items

abbrev pub pass_of : CountedShare → PassView
pass_of counted = counted.share.pass

-- two lists of which each is in pairs, and each of the first with each of the second
pairs-append : {X : Type 0} (R : X → X → Type 0) (xs ys : List X) → AllPairs R xs → AllPairs R ys → All (λ x. All (R x) ys) xs → AllPairs R (xs ++ ys)
pairs-append R [] ys first second cross = second
pairs-append R (x ∷ xs) ys first second cross =
    let head : All (R x) xs = λ k d lt. first 0 (suc k) d (omega arith) (omega arith) in
    let tail : AllPairs R xs = λ i j d lt short. first (suc i) (suc j) d (omega arith) (omega arith) in
    AllPairs-cons R x (xs ++ ys) (All-append (R x) xs ys head (All-head (λ z. All (R z) ys) x xs cross))
    (pairs-append R xs ys tail second (All-tail (λ z. All (R z) ys) x xs cross))

-- what is counted over all shares' items is the sum over the workers
counted_by : {X : Type 0} (f : Done → ℕ) (items : X → List Done) (ws : List X) → sum_by f (flat_map items ws) ≡ sum_by (λ w. sum_by f (items w)) ws
counted_by f items [] = refl
counted_by f items (w ∷ ws) = omega (
  arith,
  ap (sum_by f) (flat_map-cons items w ws),
  sum_by-append f (items w) (flat_map items ws),
  counted_by f items ws,
  sum_by-cons (λ v. sum_by f (items v)) w ws,
)

sum_alike : {X : Type 0} (f g : X → ℕ) (xs : List X) → All (λ x. f x ≡ g x) xs → sum_by f xs ≡ sum_by g xs
sum_alike f g [] all = refl
sum_alike f g (x ∷ xs) all = omega (
  arith,
  All-head (λ y. f y ≡ g y) x xs all,
  sum_alike f g xs (All-tail (λ y. f y ≡ g y) x xs all),
  sum_by-cons f x xs,
  sum_by-cons g x xs,
)

pub sum_over : {X Y : Type 0} (f : Y → ℕ) (h : X → Y) (xs : List X) → sum_by f (map h xs) ≡ sum_by (λ x. f (h x)) xs
sum_over f h [] = refl
sum_over f h (x ∷ xs) = omega (arith, sum_over f h xs, sum_by-cons f (h x) (map h xs), sum_by-cons (λ y. f (h y)) x xs)

all_flat : {X Y : Type 0} (P : Y → Type 0) (f : X → List Y) (xs : List X) → All (λ x. All P (f x)) xs → All P (flat_map f xs)
all_flat P f [] all = All-nil P
all_flat P f (x ∷ xs) all = subst (λ l. All P l) (sym (flat_map-cons f x xs))
    (All-append P (f x) (flat_map f xs) (All-head (λ y. All P (f y)) x xs all) (all_flat P f xs (All-tail (λ y. All P (f y)) x xs all)))

-- the order that the workers' lists keep: of one caller the items rise, and are later and later calls of one seat
abbrev pub InOrder : Done → Done → Type 0
InOrder x y = x.caller ≡ y.caller → (x.index < y.index) × ((x.seat ≡ y.seat) × (x.call < y.call))

-- a caller of whom the workers took all scripts once stands in one worker's list alone
abbrev pub total_had : List CountedShare → ℕ → ℕ
total_had ws x = sum_by (λ (w : CountedShare). w.had x) ws

pub among_total : (ws : List CountedShare)
    → All (λ (w : CountedShare). All (λ (item : Done). 0 < w.had item.caller) w.share.done.items) ws
    → All (λ (item : Done). 0 < total_had ws item.caller) (flat_map items_of ws)
among_total [] each = All-nil (λ (item : Done). 0 < total_had [] item.caller)
among_total (w ∷ ws) each =
    let more : (x : ℕ) → total_had (w ∷ ws) x ≡ w.had x + total_had ws x = λ x. sum_by-cons (λ (v : CountedShare). v.had x) w ws in
    let own : All (λ (item : Done). 0 < total_had (w ∷ ws) item.caller) w.share.done.items =
    All-weaker (λ (item : Done). 0 < w.had item.caller) (λ (item : Done). 0 < total_had (w ∷ ws) item.caller)
    (λ item lt. omega (arith, more item.caller, lt)) w.share.done.items
    (All-head (λ (v : CountedShare). All (λ (item : Done). 0 < v.had item.caller) v.share.done.items) w ws each) in
    let others : All (λ (item : Done). 0 < total_had (w ∷ ws) item.caller) (flat_map items_of ws) =
    All-weaker (λ (item : Done). 0 < total_had ws item.caller) (λ (item : Done). 0 < total_had (w ∷ ws) item.caller)
    (λ item lt. omega (arith, more item.caller, lt)) (flat_map items_of ws)
    (among_total ws (All-tail (λ (v : CountedShare). All (λ (item : Done). 0 < v.had item.caller) v.share.done.items) w ws each)) in
    subst (λ l. All (λ (item : Done). 0 < total_had (w ∷ ws) item.caller) l) (sym (flat_map-cons items_of w ws))
    (All-append (λ (item : Done). 0 < total_had (w ∷ ws) item.caller) w.share.done.items (flat_map items_of ws) own others)

in_order_all : (ws : List CountedShare) → All (λ (w : CountedShare). AllPairs InOrder w.share.done.items) ws
    → All (λ (w : CountedShare). All (λ (item : Done). 0 < w.had item.caller) w.share.done.items) ws
    → ((x : ℕ) → total_had ws x ≤ 1) → AllPairs InOrder (flat_map items_of ws)
in_order_all [] pairs among once = λ i j d lt short. absurd (omega arith)
in_order_all (w ∷ ws) pairs among once =
    let more : (x : ℕ) → total_had (w ∷ ws) x ≡ w.had x + total_had ws x = λ x. sum_by-cons (λ (v : CountedShare). v.had x) w ws in
    let own : All (λ (item : Done). 0 < w.had item.caller) w.share.done.items =
    All-head (λ (v : CountedShare). All (λ (item : Done). 0 < v.had item.caller) v.share.done.items) w ws among in
    let rest = All-tail (λ (v : CountedShare). All (λ (item : Done). 0 < v.had item.caller) v.share.done.items) w ws among in
    let others : All (λ (item : Done). 0 < total_had ws item.caller) (flat_map items_of ws) = among_total ws rest in
    let cross : All (λ x. All (InOrder x) (flat_map items_of ws)) w.share.done.items = λ k d lt j e short same.
    absurd (omega (
      arith,
      own k d lt,
      others j e short,
      more (get_or w.share.done.items k d).caller,
      once (get_or w.share.done.items k d).caller,
      ap (total_had ws) same,
    )) in
    subst (AllPairs InOrder) (sym (flat_map-cons items_of w ws))
    (pairs-append InOrder w.share.done.items (flat_map items_of ws) (All-head (λ (v : CountedShare). AllPairs InOrder v.share.done.items) w ws pairs)
    (in_order_all ws (All-tail (λ (v : CountedShare). AllPairs InOrder v.share.done.items) w ws pairs) rest (λ x. omega (arith, once x, more x))) cross)

abbrev pub seen_by : CountedShare → List Entry
seen_by counted = counted.share.pass.view.seen

-- all items beside their entries
made_flat : (shape : BooksShape) (input : ClearingInput) (ws : List CountedShare)
    → All (λ (w : CountedShare). AreMadeBy shape input (seen_by w) (items_of w)) ws
    → AreMadeBy shape input (flat_map seen_by ws) (flat_map items_of ws)
made_flat shape input ws all = record { as_many = beside.as_many; each = beside.each }
  where
    beside : AreBeside (λ item e. IsScriptEntry shape input e item) (flat_map items_of ws) (flat_map seen_by ws)
    beside = beside_flat (λ item e. IsScriptEntry shape input e item) items_of seen_by ws ws refl (λ k v w at_v at_w.
        let made = of_in (λ (x : CountedShare). AreMadeBy shape input (seen_by x) (items_of x)) ws all v (k, at_v) in
        subst (λ (x : CountedShare). AreBeside (λ item e. IsScriptEntry shape input e item) (items_of v) (seen_by x)) (same_Some v w (sym at_v ∙ at_w))
        (record { as_many = made.as_many; each = made.each }))

-- an entry is among those of all shares exactly if some pass has seen it
pub seen_flat : (ws : List CountedShare) (e : Entry) → IsIn e (flat_map seen_by ws) ↔ ((pass : PassView) × (IsIn pass (map pass_of ws) × IsIn e pass.view.seen))
seen_flat ws e = (
  λ t. let r = in_flat seen_by ws e t in (r.1.share.pass, ((r.0, at_map pass_of ws r.0 r.1 r.2), r.3)),
  λ t.
      let m = map_at pass_of ws t.1.0.0 t.0 t.1.0.1 in
      into_flat seen_by ws e t.1.0.0 m.0 m.1 (subst (λ (pass : PassView). IsIn e pass.view.seen) (sym m.2) t.1.1),
)

module _ (desk : DeskView BooksShape) (input : ClearingInput) (ws : List CountedShare) (worked : All (IsDone desk input) ws) where
  abbrev pub all_items : List Done
  all_items = flat_map items_of ws

  abbrev pub all_entries : List Entry
  all_entries = flat_map seen_by ws

  pub made_all : AreMadeBy desk.shape input all_entries all_items
  made_all = made_flat desk.shape input ws (λ k d lt. (worked k d lt).made.made)

  pub below_all : All (λ (item : Done). item.restarts < desk.seats) all_items
  below_all = all_flat (λ (item : Done). item.restarts < desk.seats) items_of ws (λ k d lt. (worked k d lt).made.below)

  pub only_all : All (λ (item : Done). IsPlace input (place_of_item item)) all_items
  only_all = all_flat (λ (item : Done). IsPlace input (place_of_item item)) items_of ws (λ k d lt. (worked k d lt).run.only)

  module _ (once : (x : ℕ) → total_had ws x ≡ once_below x (length input.callers)) where
    pub once_all : (p : Place) → IsPlace input p → count_by (λ q. q.caller == p.caller && q.index == p.index) (places_of_items all_items) ≡ 1
    once_all p there =
        let test : Place → ℕ = λ q. cond (q.caller == p.caller && q.index == p.index) 1 0 in
        let by_worker : CountedShare → ℕ = λ w. sum_by (λ item. test (place_of_item item)) w.share.done.items in
        let one : once_below p.caller (length input.callers) ≡ 1 = grind (arith, there.0) in
        let none : one_if (p.caller == 0 && nat_lt p.index 0) ≡ zero = grind (arith, nat_tests) in
        let each : All (λ w. by_worker w ≡ w.had p.caller) ws = λ k d lt.
        sym (sum_over test place_of_item (get_or ws k d).share.done.items) ∙ omega (arith, (worked k d lt).run.each p there, none) in
        sum_over test place_of_item all_items ∙ counted_by (λ item. test (place_of_item item)) items_of ws
        ∙ sum_alike by_worker (λ w. w.had p.caller) ws each ∙ once p.caller ∙ one

    pub keeps_all : AllPairs InOrder all_items
    keeps_all = in_order_all ws
        (λ k d lt i j e less short same.
        let w : CountedShare = get_or ws k d in
        let items : List Done = w.share.done.items in
        let made = (worked k d lt).made in
        let early : i < length items = omega (arith, less, short) in
        let first = made.numbers i (get_or items i e) (slice_get-get_or items i e early) in
        let second = made.numbers j (get_or items j e) (slice_get-get_or items j e short) in (
          (worked k d lt).run.rising i j e less short same,
          (made.seats i e early ∙ sym (made.seats j e short), omega (arith, first, second, less)),
        ))
        (λ k d lt. among_had input (get_or ws k d).had 0 (get_or ws k d).share.done.items (worked k d lt).run)
        (λ x. omega (arith, once x, below_one x))
      where
        below_one : (x : ℕ) → once_below x (length input.callers) ≤ 1
        below_one x = grind arith

-- of shares whose seats are numbered on from one, no two items have the same seat and call
abbrev LaterCall : Done → Done → Type 0
LaterCall x y = x.seat ≡ y.seat → x.call < y.call

calls_apart : (desk : DeskView BooksShape) (input : ClearingInput) (ws : List CountedShare) (a : ℕ)
    → ((k : ℕ) (d : CountedShare) → k < length ws → counted_number (get_or ws k d) ≡ a + k) → All (IsDone desk input) ws
    → All (λ (item : Done). a ≤ item.seat) (flat_map items_of ws) × AllPairs LaterCall (flat_map items_of ws)
calls_apart desk input [] a numbered each = (All-nil (λ (item : Done). a ≤ item.seat), λ i j d lt short. absurd (omega arith))
calls_apart desk input (w ∷ ws) a numbered each =
    let its = (All-head (IsDone desk input) w ws each).made in
    let rest = calls_apart desk input ws (a + 1) (λ k d lt. omega (arith, numbered (suc k) d (omega arith)))
    (All-tail (IsDone desk input) w ws each) in
    let here : counted_number w ≡ a = omega (arith, numbered 0 w (omega arith)) in
    let own : AllPairs LaterCall (items_of w) = λ i j d lt short seat.
    omega (
      arith,
      its.numbers i (get_or (items_of w) i d) (slice_get-get_or (items_of w) i d (omega (arith, lt, short))),
      its.numbers j (get_or (items_of w) j d) (slice_get-get_or (items_of w) j d short),
      lt,
    ) in
    let cross : All (λ x. All (LaterCall x) (flat_map items_of ws)) (items_of w) = λ k d lt j e short seat.
    absurd (omega (arith, its.seats k d lt, here, seat, rest.0 j e short)) in (
      subst (λ l. All (λ (item : Done). a ≤ item.seat) l) (sym (flat_map-cons items_of w ws))
          (All-append (λ (item : Done). a ≤ item.seat) (items_of w) (flat_map items_of ws) (λ k d lt. omega (arith, its.seats k d lt, here))
          (All-weaker (λ (item : Done). a + 1 ≤ item.seat) (λ (item : Done). a ≤ item.seat) (λ item le. omega (arith, le)) (flat_map items_of ws) rest.0)),
      subst (AllPairs LaterCall) (sym (flat_map-cons items_of w ws)) (pairs-append LaterCall (items_of w) (flat_map items_of ws) own rest.1 cross),
    )

-- how an item is read
abbrev pub read : Readings Done
read = record { spot = spot_of; seat = λ item. item.seat; call = λ item. item.call }

pub no_two_calls : (desk : DeskView BooksShape) (input : ClearingInput) (ws : List CountedShare)
    → ((k : ℕ) (d : CountedShare) → k < length ws → counted_number (get_or ws k d) ≡ 0 + k) → All (IsDone desk input) ws
    → AreApart read (flat_map items_of ws)
no_two_calls desk input ws numbered each = apart_places read (flat_map items_of ws) (λ i j d lt short seat call.
    absurd (omega (arith, (calls_apart desk input ws 0 numbered each).1 i j d lt short seat, call)))
