-- One item more in the order, by the tallies.
use Rattle.order_rebuild.proofs.Common.{◌≡◌, ℕ, ◌<◌, ◌≤◌, Bool, true, false, ⊎_elim, inl, List, [], ◌∷◌, ◌++◌, length, slice_get, slice_index, slice_set, take}
use Rattle.order_rebuild.proofs.Common.{replicate, Some, sym, ap, ◌∙◌, subst, arith, Vec, Global, length-set, dite, ℕ_discrete, dec_lt, slice_get_within}
use Rattle.order_rebuild.proofs.Common.{length-replicate, get_or-replicate, below_get, UsedBefore, IsIn, Spot, IsNext, IsOrder, IsInLane, AreLanes, shorter}
use Rattle.order_rebuild.proofs.Common.{IsStep, row_at, version_at, left_at, AreKnownUses, MayStart, Lane, Tally}
use Rattle.std.proofs.lemmas.List.{get_or_past}
use Rattle.order_rebuild.proofs.Open.{IsRest, OpenAt, LeastOpen}
use Rattle.order_rebuild.proofs.TalliedItems.{AreTallied, IsTallied}
use Rattle.order_rebuild.specs.Tallies.{AreFresh}
use Rattle.order_rebuild.proofs.Codes.{same_there}
use Rattle.order_rebuild.proofs.Come.{marks}
use Rattle.order_rebuild.proofs.Begin.{all_marked, each_first}
use Rattle.order_rebuild.proofs.ByTallies.{tallied_all, tally_first, first_tally, tallied_first, tallied_more, tally_stays}
use Rattle.order_rebuild.proofs.Due.{use_before}
use Rattle.order_rebuild.proofs.Marks.{rest_first, rest_more, each_more, next_open}
use Rattle.order_rebuild.proofs.Steps.{spot as lane_spot, mark as lane_mark, caller_is, first_caller, open_first, other_item, lane_cases, lanes_after}
use Rattle.order_rebuild.proofs.Waits.{same_there as set_there, other_there}

-- the state between two items; what stands behind IsTallied is known once all are placed
pub record IsPlacing (list : List Spot) (rows : List (Vec ℕ Global)) (left : List Bool) (tallies : List Tally) (lanes : List Lane)
    (known : List ℕ) (out : List ℕ) (from : ℕ) : Type 0 where
  pub rest : IsRest list out left
  pub size : length tallies ≡ length rows
  pub tallied : AreTallied list left (row_at rows) (version_at tallies) (left_at tallies)
  pub lanes_are : AreLanes list left lanes
  pub as_many : length known ≡ length lanes
  pub gone : (i : ℕ) (lane : Lane) → i < from → slice_get lanes i ≡ Some lane → lane.next ≡ lane.end
  pub known_are : IsTallied list (row_at rows) → AreKnownUses list tallies lanes known
  pub each : IsTallied list (row_at rows) → (i p : ℕ) → slice_get out i ≡ Some p → IsNext list (take i out) p

-- the state before the first item
pub placing_first : (list : List Spot) (rows : List (Vec ℕ Global)) (n : ℕ) (left : List Bool) (tallies : List Tally) (lanes : List Lane)
    (known out : List ℕ) → n ≡ length list → left ≡ replicate n true → AreFresh rows tallies → known ≡ replicate (length lanes) 0
    → out ≡ [] → AreLanes list left lanes → IsPlacing list rows left tallies lanes known out 0
placing_first list rows n left tallies lanes known out whole all fresh none empty lanes_are = record {
  rest = subst (λ (o : List ℕ). IsRest list o left) (sym empty) (rest_first list left (size ∙ whole) (λ p l. marked p (omega (arith, l, size))));
  size = fresh.count;
  tallied = tallied_first list left (row_at rows) (version_at tallies) (left_at tallies) unplaced fresh.versions fresh.readers;
  lanes_are = lanes_are;
  as_many = ap length none ∙ length-replicate (length lanes) 0;
  gone = λ i x l. absurd (omega arith);
  known_are = λ is i x e s some f j u g l. absurd (let z = zero_at (length lanes) known i none in omega (arith, l, z));
  each = λ is. each_first list out empty;
}
  where
    size : length left ≡ n
    size = ap length all ∙ length-replicate n true

    marked : (p : ℕ) → p < n → slice_get left p ≡ Some true
    marked p l = ap (λ (bs : List Bool). slice_get bs p) all ∙ all_marked n p l

    unplaced : (q : ℕ) → slice_get left q ≡ Some false → ⊥
    unplaced q m = marks (slice_get left q) (marked q (let w = slice_get_within left q false m in omega (arith, w, size))) m

    zero_at : (m : ℕ) (xs : List ℕ) (i : ℕ) → xs ≡ replicate m 0 → slice_index xs i ≡ 0
    zero_at m xs i is = ap (λ (ys : List ℕ). slice_index ys i) is ∙ dite (dec_lt i m) (λ l. get_or-replicate m i 0 0 l)
        (λ n. get_or_past (replicate m 0) i 0 (let r = length-replicate {A = ℕ} m 0 in omega (arith, r, n)))

-- and with more that is known
pub known_again : (list : List Spot) (rows : List (Vec ℕ Global)) (left : List Bool) (tallies : List Tally) (lanes : List Lane) (known new : List ℕ)
    (out : List ℕ) (from : ℕ) → IsPlacing list rows left tallies lanes known out from → length new ≡ length lanes
    → (AreKnownUses list tallies lanes known → AreKnownUses list tallies lanes new) → IsPlacing list rows left tallies lanes new out from
known_again list rows left tallies lanes known new out from g size are = record {
  rest = g.rest;
  size = g.size;
  tallied = g.tallied;
  lanes_are = g.lanes_are;
  as_many = size;
  gone = g.gone;
  known_are = λ is. are (g.known_are is);
  each = g.each;
}

module _ (list : List Spot) (rows : List (Vec ℕ Global)) (left : List Bool) (tallies : List Tally) (lanes : List Lane)
    (known : List ℕ) (out : List ℕ) (from : ℕ) (state : IsPlacing list rows left tallies lanes known out from)
    (at : ℕ) (lane : Lane) (here : slice_get lanes at ≡ Some lane) (some : lane.next < lane.end) where
  abbrev pub p : ℕ
  p = lane.next

  abbrev pub spot : (s : Spot) × (slice_get list p ≡ Some s)
  spot = lane_spot list left lanes state.lanes_are at lane here some

  pub mark : slice_get left p ≡ Some true
  mark = lane_mark list left lanes state.lanes_are at lane here some

  -- what the tallies say, on a tallied list
  module _ (may : IsTallied list (row_at rows) → MayStart list tallies lane)
      (before : IsTallied list (row_at rows) → (i : ℕ) (x : Lane) → from ≤ i → i < at → slice_get lanes i ≡ Some x → MayStart list tallies x → ⊥) where
    first_use : IsTallied list (row_at rows) → (q : ℕ) (other : Spot) → slice_get list q ≡ Some other → slice_get left q ≡ Some true
        → UsedBefore other.uses spot.0.uses → ⊥
    first_use is q other e m used =
        let b = use_before other.uses spot.0.uses used in
        tally_first list left (row_at rows) (version_at tallies) (left_at tallies) state.rest.count state.tallied is p b.j spot.0 b.v spot.1 b.v_at
        ((may is).1 spot.0 spot.1 b.j b.v b.v_at) q b.i other b.u e b.u_at b.lock b.key m

    opened : IsTallied list (row_at rows) → OpenAt list left p spot.0
    opened is = record {
      at = spot.1;
      mark = mark;
      first = λ q other e m ne used. ⊎_elim (first_use is q other e m)
          (λ c. first_caller list left lanes state.lanes_are at lane here some q other e m ne c.0 c.1) used;
    }

    -- an open item may start its lane
    open_starts : IsTallied list (row_at rows) → (q : ℕ) (other : Spot) → OpenAt list left q other → (i : ℕ) (x : Lane)
        → slice_get lanes i ≡ Some x → IsInLane q x → MayStart list tallies x
    open_starts is q other o i x e w =
        let high = w.1 in
        let first = open_first list left lanes state.lanes_are q other o i x e w in (
          omega (arith, first, high),
          λ t f j u g. let same : other ≡ t = same_there list q other t o.at (ap (λ (k : ℕ). slice_get list k) (sym first) ∙ f) in
              first_tally list left (row_at rows) (version_at tallies) (left_at tallies) state.rest.count state.tallied is q j other u o.at
              (subst (λ (y : Spot). slice_get y.uses j ≡ Some u) (sym same) g) o.mark
              (λ r y ey m ne b. o.first r y ey m ne (inl b)),
        )

    least : IsTallied list (row_at rows) → LeastOpen list left p
    least is = record {
      spot = spot.0;
      is_open = opened is;
      least = λ q other o.
          let caller = caller_is list left lanes state.lanes_are at lane here some in
          let w = state.lanes_are.all q o.mark in
          let c = (state.lanes_are.each w.0 w.1 w.2).caller q other w.3 o.at in
          dite (dec_lt w.0 at)
          (λ l. absurd (dite (dec_lt w.0 from)
          (λ f. let g = state.gone w.0 w.1 f w.2 in let a = w.3 in let b = a.0 in let d = a.1 in omega (arith, g, b, d))
          (λ f. before is w.0 w.1 (omega arith) l w.2 (open_starts is q other o w.0 w.1 w.2 w.3))))
          (λ n. dite (ℕ_discrete w.0 at)
          (λ z. let is = ap (λ (x : Lane). x.caller) (same_there lanes at w.1 lane (subst (λ (k : ℕ). slice_get lanes k ≡ Some w.1) z w.2) here) in
          omega (arith, is, c, caller))
          (λ m. let r = state.lanes_are.rising at w.0 lane w.1 here w.2 (omega arith) in omega (arith, r, c, caller)));
    }

    module _ (now : List Tally) (long : length now ≡ length tallies)
        (step : IsStep spot.0.uses (row_at rows) (version_at tallies) (left_at tallies) (version_at now) (left_at now)) where
      known_after : IsTallied list (row_at rows) → AreKnownUses list now (slice_set lanes at (shorter lane)) (slice_set known at 0)
      known_after is i x e s full f j u g l = ⊎_elim
          (λ o. absurd (let z = ap (λ (k : ℕ). slice_index (slice_set known at 0) k) o.0 in
          let h = set_there known at 0 (let w = slice_get_within lanes at lane here in omega (arith, w, state.as_many)) in omega (arith, l, z, h)))
          (λ o. let same = other_there known at i 0 o.0 in
          let due = state.known_are is i x o.1 s full f j u g (omega (arith, l, same)) in
          tally_stays list left (row_at rows) (version_at tallies) (left_at tallies) (version_at now) (left_at now) state.tallied p spot.0 spot.1
          mark step state.rest.count is x.next j s u f g (state.lanes_are.within i x.next x o.1 (omega arith, full))
          (other_item list left lanes state.lanes_are at lane here some i x o.1 o.0 x.next (omega arith, full)) due)
          (lane_cases list left lanes state.lanes_are at lane here some i x e)

      pub placing_after : (next : ℕ) → ((i : ℕ) (x : Lane) → i < next → slice_get (slice_set lanes at (shorter lane)) i ≡ Some x → x.next ≡ x.end)
          → IsPlacing list rows (slice_set left p false) now (slice_set lanes at (shorter lane)) (slice_set known at 0) (out ++ p ∷ []) next
      placing_after next gone = record {
        rest = rest_more list out left p state.rest mark;
        size = long ∙ state.size;
        tallied = tallied_more list left (row_at rows) (version_at tallies) (left_at tallies) (version_at now) (left_at now) state.tallied p spot.0
            spot.1 mark step;
        lanes_are = lanes_after list left lanes state.lanes_are at lane here some;
        as_many = length-set known at 0 ∙ (state.as_many ∙ sym (length-set lanes at (shorter lane)));
        gone = gone;
        known_are = known_after;
        each = λ is. each_more list out p (state.each is) (next_open list out left p state.rest (least is));
      }

-- once all are placed they are in order
pub placed_order : (list : List Spot) (rows : List (Vec ℕ Global)) (left : List Bool) (tallies : List Tally) (out : List ℕ) → IsRest list out left
    → AreTallied list left (row_at rows) (version_at tallies) (left_at tallies)
    → (IsTallied list (row_at rows) → (i p : ℕ) → slice_get out i ≡ Some p → IsNext list (take i out) p)
    → ((q : ℕ) → slice_get left q ≡ Some true → ⊥) → IsOrder list out
placed_order list rows left tallies out rest tallied each none = record {
  whole = λ p l. placed (below_get p left (omega (arith, l, rest.count)));
  each = each (tallied_all list left (row_at rows) (version_at tallies) (left_at tallies) rest.count tallied none);
}
  where
    placed : {p : ℕ} → (b : Bool) × (slice_get left p ≡ Some b) → IsIn p out
    placed {p} (true, m) = absurd (none p m)
    placed {p} (false, m) = rest.shut p m
