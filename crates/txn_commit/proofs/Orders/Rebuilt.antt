-- What was run over a closed table, in the order that is rebuilt from what it used, beside the entries of its calls.
use Rattle.txn_commit.proofs.Common.{◌≡◌, ◌≢◌, ◌↔◌, ℕ, zero, suc, ◌+◌, ◌<◌, inl, inr, ⊎_elim, true, false, List, [], ◌∷◌, AllPairs, map, length, take, get_or}
use Rattle.txn_commit.proofs.Common.{slice_get, Some, refl, sym, ap, ◌∙◌, subst, arith, length-map, take_all, get_or_from_slice_get, slice_get-get_or}
use Rattle.txn_commit.proofs.Common.{slice_get_within, dite, dec_lt, Entry, Item, LockUse, Spot, replay, replay_items, IsIn, IsLegalTrace, map_at, at_map}
use Rattle.txn_commit.proofs.Common.{item_of_entry, items_of_entry, entry_from, in_flat_map, IsAttemptOf, IsOrder, Orderable, order_keeps, ListsUses}
use Rattle.txn_commit.proofs.Common.{items_of_closed, AreRecords, ClosedView, IsCoherent, IsLegalInEachOrder, AreAt, IsRebuilt}
use Rattle.history_model.proofs.Common.{KeepsUses}
use Rattle.values_rule.proofs.Common.{arranged}
use Rattle.order_rebuild.proofs.Common.{entries_at}
use Rattle.word_table.proofs.Common.{writes_of}
use Rattle.std.proofs.lemmas.List.{take-map}
use Rattle.std.proofs.Math.ListN.{get_or-map}
use mathlib.Core.List.{map-map}
use Rattle.history_model.specs.Arrangements.{WasSeenBefore}
use Rattle.history_model.specs.Histories.{replay_effects}
use Rattle.history_model.specs.Items.{item_effect}
use Rattle.history_model.proofs.Items.ItemOrders.{end_good, is_legal, same_end}
use Rattle.values_rule.proofs.Told.ItemsIn.{entry_into, flat_map_in}
use Rattle.order_rebuild.specs.Legal.{AreEntries, SameUses}
use Rattle.order_rebuild.proofs.Legal.{entries_ordered, orderable}
use Rattle.order_rebuild.proofs.Stuck.{order_once}
use Rattle.txn_commit.proofs.Orders.Arranged.{by_place, place_of_done, AreAllPlaces}
use Rattle.txn_commit.proofs.Orders.InPlace.{in_place}

-- a use that an entry lists is one that it has
same_uses : (us vs : List LockUse) → ListsUses us vs → SameUses us vs
same_uses us vs l k v wrote = (λ h. l.all (record { lock = k; version = v; wrote = wrote }) h, λ h. l.only (record { lock = k; version = v; wrote = wrote }) h)

-- the entry of an item, and no attempt
not_attempt : (who call : ℕ) (knew : List ℕ) (e x : Entry) (z : Item) → z.entry ≡ true → IsAttemptOf who call knew e.abandoned z → ⊥
not_attempt who call knew e x z is t = let no : false ≡ true = ap (λ (y : Item). y.entry) t.is ∙ is in cc

-- the words that the items of entries leave are those that the entries leave
replay_same : (base : List ℕ) (entries : List Entry) → replay_items base (map item_of_entry entries) ≡ replay base entries
replay_same base entries = ap (replay_effects base) (map-map item_effect item_of_entry entries)

-- an entry for nothing
abbrev no_entry : Entry
no_entry = record { who = 0; call = 0; stamp = 0; floor = 0; kept = false; trace = []; abandoned = []; uses = []; knew = [] }

-- how what was run is read: whose it is, and which seat made it by which call
pub record Readings (X : Type 0) : Type 0 where
  pub spot : X → Spot
  pub seat : X → ℕ
  pub call : X → ℕ

module _ {X : Type 0} (read : Readings X) where
  -- the entry is that of the call by which it was run
  pub record IsCallOf (x : X) (e : Entry) : Type 0 where
    pub seat_is : e.who ≡ read.seat x
    pub call_is : e.call ≡ read.call x
    pub uses_are : ListsUses e.uses (read.spot x).uses

  -- each beside its entry
  pub record AreCallsOf (given : List X) (all : List Entry) : Type 0 where
    pub as_many : length given ≡ length all
    pub each : (k : ℕ) (x : X) (e : Entry) → slice_get given k ≡ Some x → slice_get all k ≡ Some e → IsCallOf x e

  -- of one caller the indexes rise, and they are later and later calls of one seat
  abbrev pub InOrder : X → X → Type 0
  InOrder x y = (read.spot x).caller ≡ (read.spot y).caller
      → ((read.spot x).index < (read.spot y).index) × ((read.seat x ≡ read.seat y) × (read.call x < read.call y))

  -- no two were run by one call
  abbrev pub AreApart : List X → Type 0
  AreApart given = (p q : ℕ) (x y : X) → slice_get given p ≡ Some x → slice_get given q ≡ Some y
      → read.seat x ≡ read.seat y → read.call x ≡ read.call y → p ≡ q

-- the same of pairs
pub apart_places : {X : Type 0} (read : Readings X) (given : List X) → AllPairs (λ (x y : X). read.seat x ≡ read.seat y → read.call x ≢ read.call y) given
    → AreApart read given
apart_places {X = X} read given apart p q x y at_x at_y seat call = dite (dec_lt p q)
    (λ lt. absurd (by_place (λ (x y : X). read.seat x ≡ read.seat y → read.call x ≢ read.call y) given apart p q x y at_x at_y lt seat call))
    (λ no. dite (dec_lt q p)
    (λ lt. absurd (by_place (λ (x y : X). read.seat x ≡ read.seat y → read.call x ≢ read.call y) given apart q p y x at_y at_x lt (sym seat) (sym call)))
    (λ none. omega (arith, no, none)))

-- down the entries each trace is legal on what those before it leave, and that is good
pub record IsLegalDown (good : List ℕ → Type 0) (base : List ℕ) (entries : List Entry) : Type 0 where
  pub trace_legal : (k : ℕ) (e : Entry) → slice_get entries k ≡ Some e → IsLegalTrace e.trace (replay base (take k entries))
  pub good_before : (k : ℕ) → good (replay base (take k entries))

-- what was run over a closed table: each item beside the entry of its call, and the closed records are these entries
pub record AreRunOver {X S : Type 0} (read : Readings X) (good : List ℕ → Type 0) (closed : ClosedView S) (given : List X) (all : List Entry) : Type 0 where
  pub made : AreCallsOf read given all
  pub keeps : AllPairs (InOrder read) given
  pub distinct : AreApart read given
  pub same : (e : Entry) → IsIn e all ↔ IsIn e closed.records
  pub coherent : IsCoherent good closed
  pub legal : IsLegalInEachOrder good closed
  pub records : AreRecords closed

module _ {X S : Type 0} {read : Readings X} {good : List ℕ → Type 0} {closed : ClosedView S} {given : List X} {all : List Entry}
    (over : AreRunOver read good closed given all) where
  abbrev list : List Spot
  list = map read.spot given

  abbrev items : List Item
  items = items_of_closed closed

  -- the item beside an entry
  item_beside : (p : ℕ) (e : Entry) → slice_get all p ≡ Some e → X → (x : X) × (slice_get given p ≡ Some x)
  item_beside p e at d = let lt = slice_get_within all p e at in
      (get_or given p d, slice_get-get_or given p d (omega (arith, lt, over.made.as_many)))

  -- who stands at a place: an item beside its entry
  record Pair (p : ℕ) : Type 0 where
    item : X
    entry : Entry
    item_at : slice_get given p ≡ Some item
    entry_at : slice_get all p ≡ Some entry

  some_item : (xs : List X) (p : ℕ) → p < length xs → X
  some_item [] p lt = absurd (omega arith)
  some_item (x ∷ xs) p lt = x

  pair_of : (p : ℕ) (e : Entry) → slice_get all p ≡ Some e → Pair p
  pair_of p e at =
      let lt : p < length given = omega (arith, slice_get_within all p e at, over.made.as_many) in
      let t = item_beside p e at (some_item given p lt) in
      record { item = t.0; entry = e; item_at = t.1; entry_at = at }

  entry_of_item : (p : ℕ) (z : Item) → slice_get (map item_of_entry all) p ≡ Some z → (e : Entry) × (slice_get all p ≡ Some e) × (item_of_entry e ≡ z)
  entry_of_item p z at = let m = map_at item_of_entry all p z at in (m.0, m.1, m.2)

  spot_at : (p : ℕ) (s : Spot) → slice_get list p ≡ Some s → (x : X) × (slice_get given p ≡ Some x) × (read.spot x ≡ s)
  spot_at p s at = let m = map_at read.spot given p s at in (m.0, m.1, m.2)

  same_item : (x y : X) → Some x ≡ Some y → x ≡ y
  same_item x y e = cc

  -- each spot beside its entry's item
  rows : AreEntries list items (map item_of_entry all)
  rows = record {
    count = length-map all item_of_entry ∙ (sym over.made.as_many ∙ sym (length-map given read.spot));
    is_entry = λ p z at.
        let m = entry_of_item p z at in
        flat_map_in items_of_entry closed.records z m.0 ((over.same m.0).0 (p, m.1)) (entry_into m.0 z (inl m.2));
    all = λ z t is.
        let r = in_flat_map items_of_entry closed.records z t in
        let there = (over.same r.0).1 r.1 in
        ⊎_elim (λ e. (there.0, at_map item_of_entry all there.0 r.0 there.1 ∙ ap Some e))
        (λ a. absurd (not_attempt r.0.who r.0.call r.0.knew r.0 r.0 z is a)) (entry_from r.0 z r.2);
    apart = λ p q z at_p at_q.
        let m = entry_of_item p z at_p in
        let n = entry_of_item q z at_q in
        let u = pair_of p m.0 m.1 in
        let v = pair_of q n.0 n.1 in
        let f = (over.made.each p u.item m.0 u.item_at m.1) in
        let g = (over.made.each q v.item n.0 v.item_at n.1) in
        over.distinct p q u.item v.item u.item_at v.item_at
        (sym f.seat_is ∙ (ap (λ (y : Item). y.who) (m.2 ∙ sym n.2) ∙ g.seat_is))
        (sym f.call_is ∙ (ap (λ (y : Item). y.call) (m.2 ∙ sym n.2) ∙ g.call_is));
    uses = λ p s z at_s at_z.
        let m = entry_of_item p z at_z in
        let t = spot_at p s at_s in
        let f = (over.made.each p t.0 m.0 t.1 m.1) in
        subst (λ (y : Item). SameUses y.uses s.uses) m.2
        (subst (λ (y : Spot). SameUses m.0.uses y.uses) t.2 (same_uses m.0.uses (read.spot t.0).uses f.uses_are));
  }

  -- of one caller the one comes before the other, or they are one
  one_place : (p q : ℕ) (x y : X) → slice_get given p ≡ Some x → slice_get given q ≡ Some y → (read.spot x).caller ≡ (read.spot y).caller
      → (read.spot x).index ≡ (read.spot y).index → p ≡ q
  one_place p q x y at_x at_y caller index = dite (dec_lt p q)
      (λ lt. absurd (omega (arith, (by_place (InOrder read) given over.keeps p q x y at_x at_y lt caller).0, index)))
      (λ no. dite (dec_lt q p)
      (λ lt. absurd (omega (arith, (by_place (InOrder read) given over.keeps q p y x at_y at_x lt (sym caller)).0, index)))
      (λ none. omega (arith, no, none)))

  earlier_call : (p q : ℕ) (x y : X) → slice_get given p ≡ Some x → slice_get given q ≡ Some y → (read.spot x).caller ≡ (read.spot y).caller
      → (read.spot x).index < (read.spot y).index → (read.seat x ≡ read.seat y) × (read.call x < read.call y)
  earlier_call p q x y at_x at_y caller index = dite (dec_lt p q)
      (λ lt. (by_place (InOrder read) given over.keeps p q x y at_x at_y lt caller).1)
      (λ no. dite (dec_lt q p)
      (λ lt. absurd (omega (arith, (by_place (InOrder read) given over.keeps q p y x at_y at_x lt (sym caller)).0, index)))
      (λ none. let here : p ≡ q = omega (arith, no, none) in
      let one : x ≡ y = same_item x y (sym at_x ∙ (ap (λ (k : ℕ). slice_get given k) here ∙ at_y)) in
      absurd (omega (arith, ap (λ (z : X). (read.spot z).index) one, index))))

  -- so they can be put in order
  pub can_be_ordered : Orderable list
  can_be_ordered = orderable items (map item_of_entry all) over.coherent.order list over.coherent.arranged rows
      (λ p q s t at_s at_t caller index.
      let a = spot_at p s at_s in let b = spot_at q t at_t in
      one_place p q a.0 b.0 a.1 b.1 (ap (λ (z : Spot). z.caller) a.2 ∙ (caller ∙ ap (λ (z : Spot). z.caller) (sym b.2)))
      (ap (λ (z : Spot). z.index) a.2 ∙ (index ∙ ap (λ (z : Spot). z.index) (sym b.2))))
      (λ p q s t i j at_s at_t at_i at_j caller index.
      let a = spot_at p s at_s in let b = spot_at q t at_t in
      let m = entry_of_item p i at_i in let n = entry_of_item q j at_j in
      let f = (over.made.each p a.0 m.0 a.1 m.1) in
      let g = (over.made.each q b.0 n.0 b.1 n.1) in
      let before = earlier_call p q a.0 b.0 a.1 b.1 (ap (λ (z : Spot). z.caller) a.2 ∙ (caller ∙ ap (λ (z : Spot). z.caller) (sym b.2)))
      (omega (arith, ap (λ (z : Spot). z.index) a.2, ap (λ (z : Spot). z.index) b.2, index)) in
      let knew = over.records.knew_own n.0 m.0 ((over.same n.0).0 (q, n.1)) ((over.same m.0).0 (p, m.1)) (f.seat_is ∙ (before.0 ∙ sym g.seat_is))
      (omega (arith, f.call_is, g.call_is, before.1)) in
      subst (λ (y : Item). WasSeenBefore y j) m.2 (subst (λ (y : Item). WasSeenBefore (item_of_entry m.0) y) n.2 (refl, knew)))

  module _ (places : List ℕ) (order : IsOrder list places) where
    pub all_places : AreAllPlaces (length given) places
    all_places = record {
      within = λ i p at. omega (arith, slice_get_within list p (order.each i p at).spot (order.each i p at).may.at, length-map given read.spot);
      once = λ i j p f g. dite (dec_lt i j) (λ lt. absurd (order_once list places order i j p f g lt))
          (λ no. dite (dec_lt j i) (λ lt. absurd (order_once list places order j i p g f lt)) (λ none. omega (arith, no, none)));
      whole = λ p lt. order.whole p (omega (arith, lt, length-map given read.spot));
    }

    -- their entries in that order
    pub entries : List Entry
    entries = map (λ (p : ℕ). get_or all p no_entry) places

    pub entry_there : (i : ℕ) (e : Entry) → slice_get entries i ≡ Some e → (p : ℕ) × (slice_get places i ≡ Some p) × (slice_get all p ≡ Some e)
    unfolding entries
    entry_there i e at =
        let m = map_at (λ (p : ℕ). get_or all p no_entry) places i e at in
        let lt = all_places.within i m.0 m.1 in
        (m.0, m.1, slice_get-get_or all m.0 no_entry (omega (arith, lt, over.made.as_many)) ∙ ap Some m.2)

    pub records_there : (e : Entry) → IsIn e entries ↔ IsIn e closed.records
    unfolding entries
    records_there e = (
      λ t. let m = entry_there t.0 e t.1 in (over.same e).0 (m.0, m.2),
      λ t.
          let there = (over.same e).1 t in
          let lt : there.0 < length given = omega (arith, slice_get_within all there.0 e there.1, over.made.as_many) in
          let w = all_places.whole there.0 lt in
          (w.0, at_map (λ (p : ℕ). get_or all p no_entry) places w.0 there.0 w.1 ∙ ap Some (get_or_from_slice_get all there.0 e no_entry there.1)),
    )

    items_down : entries_at (item_of_entry no_entry) (map item_of_entry all) places ≡ map item_of_entry entries
    unfolding entries
    items_down = images places where
      images : (ps : List ℕ) → map (λ (p : ℕ). get_or (map item_of_entry all) p (item_of_entry no_entry)) ps
          ≡ map item_of_entry (map (λ (p : ℕ). get_or all p no_entry) ps)
      images [] = refl
      images (p ∷ ps) = λ i. get_or-map item_of_entry all p no_entry i ∷ images ps i

    in_uses : KeepsUses items (map item_of_entry entries)
    in_uses = subst (λ (l : List Item). KeepsUses items l) items_down
        (entries_ordered list items (map item_of_entry all) places (item_of_entry no_entry) rows order)

    -- down them each trace is legal, and good words are left
    pub legal_there : IsLegalDown good closed.base entries
    unfolding replay_effects
    legal_there = record {
      trace_legal = λ k e at.
          subst (λ (s : List ℕ). IsLegalTrace e.trace s) (before k)
          (is_legal good closed.base (writes_of closed.records) items (map item_of_entry entries) over.coherent.agree in_uses k (item_of_entry e)
          (at_map item_of_entry entries k e at)).0;
      good_before = good_at;
    }
      where
        before : (k : ℕ) → replay_items closed.base (take k (map item_of_entry entries)) ≡ replay closed.base (take k entries)
        before k = ap (replay_items closed.base) (take-map item_of_entry k entries) ∙ replay_same closed.base (take k entries)

        good_at : (k : ℕ) → good (replay closed.base (take k entries))
        good_at zero = subst good (before zero) over.coherent.agree.base_good
        good_at (suc k) = dite (dec_lt k (length entries))
            (λ lt.
            let e : Entry = get_or entries k no_entry in
            let at = at_map item_of_entry entries k e (slice_get-get_or entries k no_entry lt) in
            let next : k + 1 ≡ suc k = omega arith in
            subst (λ (n : ℕ). good (replay closed.base (take n entries))) next (subst good (before (k + 1))
            (is_legal good closed.base (writes_of closed.records) items (map item_of_entry entries) over.coherent.agree in_uses k (item_of_entry e) at).1))
            (λ no. subst (λ (l : List Entry). good (replay closed.base l)) (sym (take_all (suc k) entries (omega (arith, no))))
            (subst good (replay_same closed.base entries)
            (end_good good closed.base (writes_of closed.records) items (map item_of_entry entries) over.coherent.agree in_uses)))

    -- and the words are what they leave
    pub words_there : closed.words ≡ replay closed.base entries
    words_there = over.legal.words over.coherent.order over.coherent.arranged
        ∙ (same_end good closed.base (writes_of closed.records) items over.coherent.order (map item_of_entry entries) over.coherent.agree
        (arranged items over.coherent.order over.coherent.arranged) in_uses ∙ replay_same closed.base entries)

    module _ (done : List X) (at : AreAt given places done) where
      pub rebuilt : IsRebuilt read.spot done
      rebuilt = in_place read.spot given done places at all_places can_be_ordered order

      -- what is so of each item and its entry, as they were given, is so in this order
      pub made_there : (P : X → Entry → Type 0) → ((k : ℕ) (x : X) (e : Entry) → slice_get given k ≡ Some x → slice_get all k ≡ Some e → P x e)
          → (k : ℕ) (x : X) (e : Entry) → slice_get done k ≡ Some x → slice_get entries k ≡ Some e → P x e
      unfolding entries
      made_there P each k x e at_x at_e =
          let t = place_of_done given done places at all_places k x at_x in
          let m = entry_there k e at_e in
          let one : t.0 ≡ m.0 = same_place t.0 m.0 (sym t.1 ∙ m.1) in
          each t.0 x e t.2 (ap (λ (p : ℕ). slice_get all p) one ∙ m.2)
        where
          same_place : (p q : ℕ) → Some p ≡ Some q → p ≡ q
          same_place p q e = cc

      pub as_many_there : length done ≡ length entries
      unfolding entries
      as_many_there = at.count ∙ sym (length-map places (λ (p : ℕ). get_or all p no_entry))

      pub apart_there : AreApart read done
      apart_there j k x y at_x at_y seat call =
          let t = place_of_done given done places at all_places j x at_x in
          let u = place_of_done given done places at all_places k y at_y in
          let one : t.0 ≡ u.0 = over.distinct t.0 u.0 x y t.2 u.2 seat call in
          all_places.once j k t.0 t.1 (u.1 ∙ ap Some (sym one))

      -- of one caller they stand in their order
      pub rising_there : AllPairs (λ (x y : X). (read.spot x).caller ≡ (read.spot y).caller → (read.spot x).index < (read.spot y).index) done
      rising_there i j d lt short caller =
          let x : X = get_or done i d in
          let y : X = get_or done j d in
          let t = place_of_done given done places at all_places i x (slice_get-get_or done i d (omega (arith, lt, short))) in
          let u = place_of_done given done places at all_places j y (slice_get-get_or done j d short) in
          let not_after = order_keeps list places order i j t.0 u.0 (read.spot x) (read.spot y) t.1 u.1
          (at_map read.spot given t.0 x t.2) (at_map read.spot given u.0 y u.2) lt in
          dite (dec_lt (read.spot x).index (read.spot y).index) (λ less. less)
          (λ no. dite (dec_lt (read.spot y).index (read.spot x).index)
          (λ less. absurd (not_after (inr (sym caller, less))))
          (λ none.
          let one : t.0 ≡ u.0 = one_place t.0 u.0 x y t.2 u.2 caller (omega (arith, no, none)) in
          absurd (omega (arith, lt, all_places.once i j t.0 t.1 (u.1 ∙ ap Some (sym one))))))
