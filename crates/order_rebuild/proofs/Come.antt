-- The items that wait nowhere are those that may come, and the list gives the one of the least caller.
use Rattle.order_rebuild.proofs.Common.{◌≡◌, ◌≢◌, ℕ, zero, suc, ◌<◌, ◌≤◌, Bool, true, false, ◌⊎◌, inl, inr, ⊎_elim, List, [], ◌∷◌, length, slice_get}
use Rattle.order_rebuild.proofs.Common.{slice_index, slice_set, Some, refl, sym, ap, ◌∙◌, subst, arith, dite, ℕ_discrete, dec_lt, IsPermutation}
use Rattle.order_rebuild.proofs.Common.{All-permutation, slice_get_within, below_get, Lines, Spot, places, items, item_at, base_at, first_at, caller_of}
use Rattle.order_rebuild.proofs.Common.{AreLines, AreGone, AreStopped, AreWaits, AreClosed, Comer, comer_cmp, IsKnown, count_of, AreReady}
use Rattle.std.specs.List.{All, AllByRecursion}
use Rattle.std.specs.BinaryHeap.{PopsGreatest}
use Rattle.std.specs.Ordering.{is_lt}
use Rattle.std.proofs.lemmas.List.Elements.{All-tail}
use Rattle.std.proofs.lemmas.Bool.{lt-ltb}
use Rattle.order_rebuild.proofs.Open.{OpenAt, NoneOpen, LeastOpen}
use Rattle.order_rebuild.proofs.Marks.{set_same, set_other}
use Rattle.order_rebuild.proofs.Waits.{count_same, count_other, count_moved}

pub marks : (m : _) → m ≡ Some true → m ≡ Some false → ⊥
marks m a b = cc

mark_cases : (left : List Bool) (q : ℕ) → q < length left → (slice_get left q ≡ Some true) ⊎ (slice_get left q ≡ Some false)
mark_cases left q lt = of (below_get q left lt)
  where
    of : (b : Bool) × (slice_get left q ≡ Some b) → (slice_get left q ≡ Some true) ⊎ (slice_get left q ≡ Some false)
    of (true, e) = inl e
    of (false, e) = inr e

-- the state between two items
pub record IsState (l : Lines) (left : List Bool) (next wait : List ℕ) (ready : List Comer) : Type 0 where
  pub gone : AreGone l left next
  pub stopped : (p : ℕ) → AreStopped l left next p 0
  pub waits : AreWaits l next wait
  pub closed : AreClosed l next wait (λ e. ⊥)
  pub ready_is : AreReady l left wait ready

module _ (list : List Spot) (l : Lines) (lines : AreLines list l) (left : List Bool) (next wait : List ℕ)
    (ready : List Comer) (sized : length left ≡ length list) (state : IsState l left next wait ready) where
  stops : (b : ℕ) → b < places l → base_at l b ≡ b → slice_index next b < places l → base_at l (slice_index next b) ≡ b
      → slice_get left (item_at l (slice_index next b)) ≡ Some false → ⊥
  stops b lt is a c d = let k = state.stopped 0 b lt is (λ st. st a c d) in let z = k.1 in absurd (omega arith)

  pub open_waits : (q : ℕ) (s : Spot) → slice_get list q ≡ Some s → slice_get left q ≡ Some true → slice_index wait q ≡ 0 → OpenAt list left q s
  open_waits q s at mark zero_is = record {
    at = at;
    mark = mark;
    first = λ r other e m ne before.
        let t = lines.to r q other s e at ne before in
        let i = t.0 in let j = t.1 in
        let low = lines.rows.low j t.2 in let up = lines.rows.up j t.2 in
        let base = lines.rows.same j (base_at l j) t.2 (omega arith) (omega arith) in
        let w : slice_index wait (item_at l j) ≡ 0 = ap (λ (k : ℕ). slice_index wait k) t.6 ∙ zero_is in
        let o = state.waits.above j t.2 (omega arith) in
        let below = t.4 in
        let g = state.gone.gone (base_at l j) i (omega arith) base t.3 (omega arith) in
        marks (slice_get left r) m (subst (λ (k : ℕ). slice_get left k ≡ Some false) t.5 g.2);
  }

  pub waits_open : (q : ℕ) (s : Spot) → OpenAt list left q s → slice_index wait q ≡ 0
  waits_open q s o = cases (slice_index wait q) refl
    where
      inside : q < items l
      inside = let a = slice_get_within list q s o.at in let c = lines.count in omega arith

      waiting : (e : ℕ) → slice_index wait q ≡ suc e → ⊥
      waiting e is =
          let own = state.waits.own q e inside is in
          let low = lines.rows.low e own.0 in let up = lines.rows.up e own.0 in
          let shut : slice_index next (base_at l e) < first_at l e =
          dite (dec_lt (slice_index next (base_at l e)) (first_at l e)) (λ h. h) (λ h. absurd (state.closed q e inside is (omega arith))) in
          let base = lines.rows.same e (base_at l e) own.0 (omega arith) (omega arith) in
          let from = state.gone.from (base_at l e) (omega arith) base in
          let here = lines.rows.same e (slice_index next (base_at l e)) own.0 from (omega arith) in
          let within = lines.rows.within (slice_index next (base_at l e)) (omega arith) in
          let c = lines.count in
          let other = below_get (item_at l (slice_index next (base_at l e))) list (omega arith) in
          let ap_ = lines.apart (slice_index next (base_at l e)) e own.0 from shut in
          let before = lines.from (slice_index next (base_at l e)) e other.0 s own.0 from shut other.1
          (subst (λ (k : ℕ). slice_get list k ≡ Some s) (sym own.1) o.at) in
          ⊎_elim
          (λ m. o.first (item_at l (slice_index next (base_at l e))) other.0 other.1 m (λ z. ap_ (z ∙ sym own.1)) before)
          (λ m. stops (base_at l e) (omega arith) base (omega arith) here m)
          (mark_cases left (item_at l (slice_index next (base_at l e))) (omega arith))

      cases : (w : ℕ) → slice_index wait q ≡ w → slice_index wait q ≡ 0
      cases zero is = is
      cases (suc e) is = absurd (waiting e is)

  pub none_listed : ready ≡ [] → NoneOpen list left
  none_listed empty q s o =
      let a = slice_get_within list q s o.at in let c = lines.count in
      let h = state.ready_is.here q (omega arith) (waits_open q s o) o.mark in
      let z : count_of q ready ≡ 0 = ap (λ (r : List Comer). count_of q r) empty in omega arith

-- of two in order the caller of the first is no greater
no_less : (x y : Comer) → is_lt (comer_cmp x y) ≡ false → x.0.0 ≤ y.0.0
no_less x y e = dite (dec_lt y.0.0 x.0.0) (λ lt. absurd (let t = lt-ltb y.0.0 x.0.0 lt in
    let f : is_lt (comer_cmp x y) ≡ true = rw t refl in no e f)) (λ n. omega arith)
  where
    no : {b : Bool} → b ≡ false → b ≡ true → ⊥
    no a c = cc

least_of : (l : Lines) (x : Comer) (q : ℕ) (xs : List Comer) → All (IsKnown l) xs
    → AllByRecursion (λ y. is_lt (comer_cmp x y) ≡ false) xs → 0 < count_of q xs → x.0.0 ≤ caller_of l q
least_of l x q [] known above some = absurd (omega arith)
least_of l x q (y ∷ xs) known above some = dite (ℕ_discrete y.0.1 q)
    (λ s. let c = no_less x y above.0 in let k = known 0 y (omega arith) in let e = k.1 in let f = ap (caller_of l) s in omega arith)
    (λ n. least_of l x q xs (All-tail (IsKnown l) y xs known) above.1 (let c = count_other q y xs n in omega arith))

-- one that is in the list waits nowhere and is left
module _ (l : Lines) (left : List Bool) (wait : List ℕ) (ready : List Comer) (sized : length left ≡ items l) (is : AreReady l left wait ready) where
  pub listed : (q : ℕ) → q < items l → 0 < count_of q ready → (slice_index wait q ≡ 0) × (slice_get left q ≡ Some true)
  listed q lt some = (cases (slice_index wait q) refl, mark)
    where
      cases : (w : ℕ) → slice_index wait q ≡ w → slice_index wait q ≡ 0
      cases zero w = w
      cases (suc e) w = absurd (let n = is.not_waiting q e lt w in omega arith)

      mark : slice_get left q ≡ Some true
      mark = ⊎_elim (λ m. m) (λ m. absurd (let n = is.not_placed q lt m in omega arith)) (mark_cases left q (omega arith))

module _ (l : Lines) (left : List Bool) (next wait : List ℕ) (ready rest : List Comer) (x : Comer) (sized : length left
    ≡ items l) (state : IsState l left next wait ready)
    (moved : IsPermutation ready (x ∷ rest)) (pops : PopsGreatest comer_cmp ready x rest) where
  known : All (IsKnown l) (x ∷ rest)
  known = All-permutation (IsKnown l) ready (x ∷ rest) moved state.ready_is.known

  pub comer_known : IsKnown l x
  comer_known = known 0 x (omega arith)

  pub comer_here : (slice_index wait x.0.1 ≡ 0) × (slice_get left x.0.1 ≡ Some true)
  comer_here = let c = count_moved x.0.1 ready (x ∷ rest) moved in let d = count_same x.0.1 x rest refl in
      listed l left wait ready sized state.ready_is x.0.1 comer_known.0 (omega arith)

  pub comer_least : (list : List Spot) → AreLines list l → LeastOpen list left x.0.1
  comer_least list lines =
      let c = lines.count in let k = comer_known.0 in
      let s = below_get x.0.1 list (omega arith) in record {
        spot = s.0;
        is_open = open_waits list l lines left next wait ready (sized ∙ lines.count) state x.0.1 s.0 s.1 comer_here.1 comer_here.0;
        least = λ q other o.
            let within = slice_get_within list q other o.at in
            let h = state.ready_is.here q (omega arith) (waits_open list l lines left next wait ready (sized ∙ lines.count) state q other o) o.mark in
            let u = least_of l x q ready state.ready_is.known (pops state.ready_is.ordered).1 (omega arith) in
            let a = lines.caller q other o.at in let b = lines.caller x.0.1 s.0 s.1 in let d = comer_known.1 in omega arith;
      }

  abbrev marked : List Bool
  marked = slice_set left x.0.1 false

  stays : (q : ℕ) → q ≢ x.0.1 → slice_get marked q ≡ slice_get left q
  stays q n = set_other left x.0.1 q false n

  shut : slice_get marked x.0.1 ≡ Some false
  shut = set_same left x.0.1 true false comer_here.1

  falls : (q : ℕ) → slice_get left q ≡ Some false → slice_get marked q ≡ Some false
  falls q m = dite (ℕ_discrete q x.0.1) (λ s. subst (λ (k : ℕ). slice_get marked k ≡ Some false) (sym s) shut) (λ n. stays q n ∙ m)

  pub gone_placed : AreGone l marked next
  gone_placed = record {
    count = state.gone.count;
    from = state.gone.from;
    gone = λ b j lt is low high. let g = state.gone.gone b j lt is low high in (g.0, g.1, falls (item_at l j) g.2);
  }

  pub stopped_placed : AreStopped l marked next x.0.1 (places l)
  stopped_placed b lt is go = dite (dec_lt (slice_index next b) (places l))
      (λ a. dite (ℕ_discrete (base_at l (slice_index next b)) b)
      (λ c. dite (ℕ_discrete (item_at l (slice_index next b)) x.0.1)
      (λ d. (slice_index next b, a, d, c))
      (λ d. absurd (go (λ a1 c1 m. let k =
      state.stopped 0 b lt is (λ st. st a c (sym (stays (item_at l (slice_index next b)) d) ∙ m)) in let z = k.1 in absurd (omega arith)))))
      (λ c. absurd (go (λ a1 c1 m. c c1))))
      (λ a. absurd (go (λ a1 c1 m. a a1)))

  pub ready_placed : AreReady l marked wait rest
  ready_placed = record {
    ordered = (pops state.ready_is.ordered).0;
    known = All-tail (IsKnown l) x rest known;
    here = λ q lt z m. dite (ℕ_discrete q x.0.1)
        (λ s. absurd (marks (slice_get marked x.0.1) (subst (λ (k : ℕ). slice_get marked k ≡ Some true) s m) shut))
        (λ n. less q n ∙ state.ready_is.here q lt z (sym (stays q n) ∙ m));
    not_waiting = λ q e lt z. let c = state.ready_is.not_waiting q e lt z in let m = count_moved q ready (x ∷ rest) moved in dite (ℕ_discrete q x.0.1)
        (λ s. absurd (let d = count_same q x rest (sym s) in omega arith))
        (λ n. less q n ∙ c);
    not_placed = λ q lt m. dite (ℕ_discrete q x.0.1)
        (λ s. one q lt s)
        (λ n. less q n ∙ state.ready_is.not_placed q lt (sym (stays q n) ∙ m));
    waiting = λ q e lt z. dite (ℕ_discrete q x.0.1)
        (λ s. absurd (let h = comer_here.0 in let f = ap (λ (k : ℕ). slice_index wait k) s in omega arith))
        (λ n. stays q n ∙ state.ready_is.waiting q e lt z);
  }
    where
      less : (q : ℕ) → q ≢ x.0.1 → count_of q rest ≡ count_of q ready
      less q n = sym (count_other q x rest (λ s. n (sym s))) ∙ count_moved q ready (x ∷ rest) moved

      one : (q : ℕ) → q < items l → q ≡ x.0.1 → count_of q rest ≡ 0
      one q lt s =
          let h = state.ready_is.here q lt (ap (λ (k : ℕ). slice_index wait k) s
          ∙ comer_here.0) (subst (λ (k : ℕ). slice_get left k ≡ Some true) (sym s) comer_here.1) in
          let m = count_moved q ready (x ∷ rest) moved in let d = count_same q x rest (sym s) in omega arith
