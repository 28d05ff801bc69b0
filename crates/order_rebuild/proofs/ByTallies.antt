-- Versions followed and readers tallied: once all are placed the list is tallied, and on such a list the tallies say who may come.
use Rattle.order_rebuild.proofs.Common.{◌≡◌, ◌≢◌, ℕ, zero, suc, ◌+◌, ◌*◌, ◌<◌, ◌≤◌, Bool, true, false, ◌==◌, ◌⊎◌, inl, inr, ⊎_elim, List, [], ◌∷◌, length}
use Rattle.order_rebuild.proofs.Common.{slice_get, slice_set, Some, refl, sym, ap, ◌∙◌, subst, arith, dite, ℕ_discrete, dec_lt, cases_Bool, eqb-true}
use Rattle.order_rebuild.proofs.Common.{slice_get_within, below_get, UsedBefore, flag, LockUse, Spot, use_key, IsRising, is_of, is_at, MayUse, IsStep}
use Rattle.order_rebuild.proofs.UseCounts.{count_uses, count_all}
use Rattle.order_rebuild.proofs.TalliedItems.{is_reader, placed_of, IsWritten, IsOnce, AreTallied, IsTallied}
use Rattle.order_rebuild.proofs.Codes.{same_there, used_from}
use Rattle.order_rebuild.proofs.Counts.{uses_none, uses_some, of_is, is_at_is, and_both, all_cons, uses_cons}
use Rattle.order_rebuild.proofs.Due.{one_use}
use Rattle.order_rebuild.proofs.Marks.{set_same, set_other}

marks : {o : Bool} → o ≡ true → o ≡ false → ⊥
marks e f = cc

flag_on : (b : Bool) → b ≡ true → flag b ≡ 1
flag_on b e = rw e refl

flag_off : (b : Bool) → b ≡ false → flag b ≡ 0
flag_off b e = rw e refl

pub reader_from : (k w : ℕ) (u : LockUse) → u.lock ≡ k → u.version ≡ w → u.wrote ≡ false → is_reader k w u ≡ true
reader_from k w u l e f = is_at_is k (w * 2) u l (let z = flag_off u.wrote f in omega arith)

pub reader_is : (k w : ℕ) (u : LockUse) → is_reader k w u ≡ true → (u.lock ≡ k) × (u.version ≡ w) × (u.wrote ≡ false)
reader_is k w u t =
    let b = and_both (is_of k u) (use_key u == w * 2) t in
    let key : use_key u ≡ w * 2 = eqb-true (use_key u) (w * 2) b.1 in
    ⊎_elim (λ e. absurd (let z = flag_on u.wrote e in omega arith))
    (λ e. let z = flag_off u.wrote e in (of_is k u b.0, omega arith, e)) (cases_Bool u.wrote)

-- how many are placed
placed_le : (f : LockUse → Bool) (list : List Spot) (left : List Bool) → placed_of f list left ≤ count_all f list
unfolding placed_of
placed_le f [] left = omega arith
placed_le f (s ∷ list) [] = omega arith
placed_le f (s ∷ list) (true ∷ left) = let rest = placed_le f list left in omega (arith, rest, all_cons f s list)
placed_le f (s ∷ list) (false ∷ left) = let rest = placed_le f list left in omega (arith, rest, all_cons f s list)

placed_less : (f : LockUse → Bool) (list : List Spot) (left : List Bool) (r : ℕ) (y : Spot) → slice_get list r ≡ Some y
    → slice_get left r ≡ Some true → 0 < count_uses f y.uses → placed_of f list left < count_all f list
unfolding placed_of
placed_less f [] left r y e m some = absurd (cc)
placed_less f (s ∷ list) [] r y e m some = absurd (cc)
placed_less f (s ∷ list) (true ∷ left) zero y e m some =
    let same : s ≡ y = cc in
    let here = subst (λ (x : Spot). 0 < count_uses f x.uses) (sym same) some in
    let rest = placed_le f list left in omega (arith, rest, here, all_cons f s list)
placed_less f (s ∷ list) (false ∷ left) zero y e m some = absurd (cc)
placed_less f (s ∷ list) (true ∷ left) (suc r) y e m some =
    let rest = placed_less f list left r y e m some in omega (arith, rest, all_cons f s list)
placed_less f (s ∷ list) (false ∷ left) (suc r) y e m some =
    let rest = placed_less f list left r y e m some in omega (arith, rest, all_cons f s list)

-- all are
placed_all : (f : LockUse → Bool) (list : List Spot) (left : List Bool) → length left ≡ length list
    → ((q : ℕ) → slice_get left q ≡ Some true → ⊥) → placed_of f list left ≡ count_all f list
unfolding placed_of
placed_all f [] left c h = refl
placed_all f (s ∷ list) [] c h = absurd (omega (arith, c))
placed_all f (s ∷ list) (true ∷ left) c h = absurd (h 0 refl)
placed_all f (s ∷ list) (false ∷ left) c h =
    let rest = placed_all f list left (omega (arith, c)) (λ q m. h (suc q) m) in omega (arith, rest, all_cons f s list)

-- if no item that is placed has such a use, none is counted
placed_nought : (f : LockUse → Bool) (list : List Spot) (left : List Bool)
    → ((q : ℕ) (y : Spot) → slice_get list q ≡ Some y → slice_get left q ≡ Some false → count_uses f y.uses ≡ 0) → placed_of f list left ≡ 0
unfolding placed_of
placed_nought f [] left h = refl
placed_nought f (s ∷ list) [] h = refl
placed_nought f (s ∷ list) (true ∷ left) h = let rest = placed_nought f list left (λ q y e m. h (suc q) y e m) in omega (arith, rest)
placed_nought f (s ∷ list) (false ∷ left) h =
    let rest = placed_nought f list left (λ q y e m. h (suc q) y e m) in let here = h 0 s refl refl in omega (arith, rest, here)

-- some use is such
some_use : (f : LockUse → Bool) (us : List LockUse) → 0 < count_uses f us → (j : ℕ) × (u : LockUse) × (slice_get us j ≡ Some u) × (f u ≡ true)
some_use f [] l = absurd (omega (arith, l))
some_use f (u ∷ us) l = ⊎_elim (λ e. (0, u, refl, e))
    (λ e. let z = flag_off (f u) e in let w = some_use f us (omega (arith, l, z, uses_cons f u us)) in (suc w.0, w.1, w.2, w.3))
    (cases_Bool (f u))

-- who is left, if not all are placed
record HasLeft (f : LockUse → Bool) (list : List Spot) (left : List Bool) : Type 0 where
  r : ℕ
  j : ℕ
  y : Spot
  u : LockUse
  at : slice_get list r ≡ Some y
  use_at : slice_get y.uses j ≡ Some u
  mark : slice_get left r ≡ Some true
  is : f u ≡ true

one_on : (f : LockUse → Bool) (s : Spot) (list : List Spot) (b : Bool) (left : List Bool) → HasLeft f list left → HasLeft f (s ∷ list) (b ∷ left)
one_on f s list b left h = record { r = suc h.r; j = h.j; y = h.y; u = h.u; at = h.at; use_at = h.use_at; mark = h.mark; is = h.is }

left_some : (f : LockUse → Bool) (list : List Spot) (left : List Bool) → length left ≡ length list
    → placed_of f list left < count_all f list → HasLeft f list left
unfolding placed_of
left_some f [] left c l = absurd (omega (arith, l))
left_some f (s ∷ list) [] c l = absurd (omega (arith, c))
left_some f (s ∷ list) (true ∷ left) c l = dite (dec_lt 0 (count_uses f s.uses))
    (λ some. let w = some_use f s.uses some in record { r = 0; j = w.0; y = s; u = w.1; at = refl; use_at = w.2; mark = refl; is = w.3 })
    (λ none. one_on f s list true left (left_some f list left (omega (arith, c)) (omega (arith, l, none, all_cons f s list))))
left_some f (s ∷ list) (false ∷ left) c l =
    one_on f s list false left (left_some f list left (omega (arith, c)) (omega (arith, l, all_cons f s list)))

-- one item more is placed
placed_more : (f : LockUse → Bool) (list : List Spot) (left : List Bool) (p : ℕ) (s : Spot) → slice_get list p ≡ Some s
    → slice_get left p ≡ Some true → placed_of f list (slice_set left p false) ≡ placed_of f list left + count_uses f s.uses
unfolding placed_of
placed_more f [] left p s e m = absurd (cc)
placed_more f (x ∷ list) [] p s e m = absurd (cc)
placed_more f (x ∷ list) (true ∷ left) zero s e m =
    let same : count_uses f x.uses ≡ count_uses f s.uses = ap (λ (y : Spot). count_uses f y.uses) (some_same x s e) in omega (arith, same)
  where
    some_same : (a b : Spot) → Some a ≡ Some b → a ≡ b
    some_same a b e = cc
placed_more f (x ∷ list) (false ∷ left) zero s e m = absurd (cc)
placed_more f (x ∷ list) (true ∷ left) (suc p) s e m = let rest = placed_more f list left p s e m in omega (arith, rest)
placed_more f (x ∷ list) (false ∷ left) (suc p) s e m = let rest = placed_more f list left p s e m in omega (arith, rest)

module _ (list : List Spot) (left : List Bool) (rows : ℕ → ℕ → ℕ) (version readers : ℕ → ℕ) (count : length left ≡ length list)
    (are : AreTallied list left rows version readers) where
  -- once all are placed the list is tallied
  pub tallied_all : ((q : ℕ) → slice_get left q ≡ Some true → ⊥) → IsTallied list rows
  tallied_all none = record {
    rising = λ p s e. are.rising p s e (all p s e);
    once = λ p q i j x y u w a b ex ey eu ew. are.once p q i j x y u w (all p x ex) (all q y ey) ex ey eu ew;
    whole = λ p j w s u e f l.
        let h = are.passed p j s u e f (all p s e) in
        let r = are.written u.lock w (omega arith) in (r.p, r.j, r.s, r.u, r.at, r.use_at, r.lock, r.found, r.wrote);
    counts = λ p j s u e f t.
        let h = are.passed p j s u e f (all p s e) in let z = flag_on u.wrote t in
        are.spent u.lock u.version (omega arith) ∙ placed_all (is_reader u.lock u.version) list left count none;
  }
    where
      all : (p : ℕ) (s : Spot) → slice_get list p ≡ Some s → slice_get left p ≡ Some false
      all p s e = mark_of (below p s e)
        where
          below : (p : ℕ) (s : Spot) → slice_get list p ≡ Some s → (b : Bool) × (slice_get left p ≡ Some b)
          below p s e = below_get p left (let w = slice_get_within list p s e in omega (arith, w, count))

          mark_of : (b : Bool) × (slice_get left p ≡ Some b) → slice_get left p ≡ Some false
          mark_of (true, m) = absurd (none p m)
          mark_of (false, m) = m

  -- on a tallied list: of a version that was written and is spent no reader is left
  none_left : IsTallied list rows → (k w : ℕ) → rows k w ≡ placed_of (is_reader k w) list left
      → (p j : ℕ) (s : Spot) (u : LockUse) → slice_get list p ≡ Some s → slice_get s.uses j ≡ Some u → u.lock ≡ k → u.version ≡ w → u.wrote ≡ true
      → (r i : ℕ) (y : Spot) (v : LockUse) → slice_get list r ≡ Some y → slice_get y.uses i ≡ Some v → slice_get left r ≡ Some true
      → v.lock ≡ k → v.version ≡ w → v.wrote ≡ false → ⊥
  none_left is k w spent p j s u e f l t o r i y v ey ev m vl vt vo =
      let whole : rows k w ≡ count_all (is_reader k w) list = subst (λ (a : ℕ). rows a w ≡ count_all (is_reader a w) list) l
      (subst (λ (b : ℕ). rows u.lock b ≡ count_all (is_reader u.lock b) list) t (is.counts p j s u e f o)) in
      let less = placed_less (is_reader k w) list left r y ey m (uses_some (is_reader k w) y.uses i v ev (reader_from k w v vl vt vo)) in
      omega (arith, whole, less, spent)

  -- no use that is left has a version below its lock's
  not_below : IsTallied list rows → (r i : ℕ) (y : Spot) (v : LockUse) → slice_get list r ≡ Some y → slice_get y.uses i ≡ Some v
      → slice_get left r ≡ Some true → v.version < version v.lock → ⊥
  not_below is r i y v ey ev m low =
      let w = are.written v.lock v.version low in
      ⊎_elim (λ t. let one = are_one is w.p r w.j i w.s y w.u v w.at ey w.use_at ev w.wrote t w.lock w.found in
      marks_at w.p r one w.mark m)
      (λ o. none_left is v.lock v.version (are.spent v.lock v.version low) w.p w.j w.s w.u w.at w.use_at w.lock w.found w.wrote
      r i y v ey ev m refl refl o)
      (cases_Bool v.wrote)
    where
      are_one : IsTallied list rows → (p q i j : ℕ) (x y : Spot) (u w : LockUse) → slice_get list p ≡ Some x → slice_get list q ≡ Some y
          → slice_get x.uses i ≡ Some u → slice_get y.uses j ≡ Some w → u.wrote ≡ true → w.wrote ≡ true
          → u.lock ≡ w.lock → u.version ≡ w.version → p ≡ q
      are_one is p q i j x y u w ex ey eu ew = is.once p q i j x y u w (x, ex) (y, ey) ex ey eu ew

      marks_at : (p r : ℕ) → p ≡ r → slice_get left p ≡ Some false → slice_get left r ≡ Some true → ⊥
      marks_at p r same a b = two (sym a ∙ (ap (λ (k : ℕ). slice_get left k) same ∙ b))
        where
          two : Some false ≡ Some true → ⊥
          two e = cc

  -- if a use may come, no item that is left comes before it
  pub tally_first : IsTallied list rows → (p j : ℕ) (s : Spot) (u : LockUse) → slice_get list p ≡ Some s → slice_get s.uses j ≡ Some u
      → MayUse version readers u → (r i : ℕ) (y : Spot) (v : LockUse) → slice_get list r ≡ Some y → slice_get y.uses i ≡ Some v
      → v.lock ≡ u.lock → use_key v < use_key u → slice_get left r ≡ Some true → ⊥
  tally_first is p j s u e f due r i y v ey ev l key m =
      let at = due.0 in
      dite (dec_lt v.version u.version)
      (λ low. not_below is r i y v ey ev m (let same : version v.lock ≡ version u.lock = ap version l in omega (arith, same, at, low)))
      (λ n. ⊎_elim
      (λ t. let a = flag_on v.wrote t in absurd (⊎_elim (λ x. let b = flag_on u.wrote x in omega arith) (λ x. let b = flag_off u.wrote x in omega arith)
      (cases_Bool u.wrote)))
      (λ o. let a = flag_off v.wrote o in ⊎_elim
      (λ x. let b = flag_on u.wrote x in
      let z = due.1 x in let now = are.now u.lock in
      let spent : rows u.lock (version u.lock) ≡ placed_of (is_reader u.lock (version u.lock)) list left = omega (arith, z, now) in
      none_left is u.lock u.version (subst (λ (w : ℕ). rows u.lock w ≡ placed_of (is_reader u.lock w) list left) (sym at) spent)
      p j s u e f refl refl x r i y v ey ev m l (omega arith) o)
      (λ x. let b = flag_off u.wrote x in absurd (omega arith)) (cases_Bool u.wrote))
      (cases_Bool v.wrote))

  -- and if none that is left comes before its item, it may come
  pub first_tally : IsTallied list rows → (p j : ℕ) (s : Spot) (u : LockUse) → slice_get list p ≡ Some s → slice_get s.uses j ≡ Some u
      → slice_get left p ≡ Some true
      → ((r : ℕ) (y : Spot) → slice_get list r ≡ Some y → slice_get left r ≡ Some true → r ≢ p → UsedBefore y.uses s.uses → ⊥)
      → MayUse version readers u
  first_tally is p j s u e f m first = (found, λ t. spent t)
    where
      -- another use of the lock by an item that is left does not come before it
      other : (r i : ℕ) (y : Spot) (v : LockUse) → slice_get list r ≡ Some y → slice_get y.uses i ≡ Some v → slice_get left r ≡ Some true
          → v.lock ≡ u.lock → use_key v < use_key u → ⊥
      other r i y v ey ev mr l key = dite (ℕ_discrete r p)
          (λ z. let same : y ≡ s = same_there list p y s (ap (λ (a : ℕ). slice_get list a) (sym z) ∙ ey) e in
          let one = ap use_key (one_use s.uses (is.rising p s e) i j v u (subst (λ (x : Spot). slice_get x.uses i ≡ Some v) same ev) f l) in
          omega (arith, one, key))
          (λ ne. first r y ey mr ne (used_from y.uses s.uses i j u.lock v u ev f l refl key))

      flag_up : (b : Bool) → flag b ≤ 1
      flag_up true = omega arith
      flag_up false = omega arith

      not_above : version u.lock < u.version → ⊥
      not_above l =
          let w = is.whole p j (version u.lock) s u e f l in
          let mark = left_there w.0 w.2 w.4 w.1 w.3 w.5 w.6 w.7 w.8 in
          other w.0 w.1 w.2 w.3 w.4 w.5 mark w.6 (let a = w.7 in let b = flag_up w.3.wrote in omega arith)
        where
          left_there : (q : ℕ) (y : Spot) → slice_get list q ≡ Some y → (i : ℕ) (v : LockUse) → slice_get y.uses i ≡ Some v
              → v.lock ≡ u.lock → v.version ≡ version u.lock → v.wrote ≡ true → slice_get left q ≡ Some true
          left_there q y ey i v ev l vt t = mark_of (below_get q left (let b = slice_get_within list q y ey in omega (arith, b, count)))
            where
              mark_of : (b : Bool) × (slice_get left q ≡ Some b) → slice_get left q ≡ Some true
              mark_of (true, h) = h
              mark_of (false, h) = absurd (let a = are.passed q i y v ey ev h in let z = flag_on v.wrote t in
                  let same : version v.lock ≡ version u.lock = ap version l in omega arith)

      found : u.version ≡ version u.lock
      found = dite (dec_lt u.version (version u.lock)) (λ l. absurd (not_below is p j s u e f m l))
          (λ n. dite (dec_lt (version u.lock) u.version) (λ l. absurd (not_above l)) (λ k. omega arith))

      spent : u.wrote ≡ true → readers u.lock ≡ 0
      spent t = dite (ℕ_discrete (readers u.lock) 0) (λ z. z) (λ n. absurd (
          let k : ℕ = u.lock in let w : ℕ = u.version in
          let now : rows k w ≡ readers k + placed_of (is_reader k w) list left =
          subst (λ (a : ℕ). rows k a ≡ readers k + placed_of (is_reader k a) list left) (sym found) (are.now k) in
          let whole = is.counts p j s u e f t in
          let h = left_some (is_reader k w) list left count (omega (arith, n, now, whole)) in
          let r = reader_is k w h.u h.is in
          other h.r h.j h.y h.u h.at h.use_at h.mark r.0
          (let a = r.1 in let b = flag_off h.u.wrote r.2 in let c = flag_on u.wrote t in omega arith)))

-- of uses that rise one at most is of a lock
none_of : (k key : ℕ) (us : List LockUse) → ((j : ℕ) (u : LockUse) → slice_get us j ≡ Some u → u.lock ≡ k → use_key u ≢ key) → count_uses (is_at k key) us ≡ 0
none_of k key us h = uses_none (is_at k key) us (λ j u e t.
    let b = and_both (is_of k u) (use_key u == key) t in h j u e (of_is k u b.0) (eqb-true (use_key u) key b.1))

rising_on : (u : LockUse) (us : List LockUse) → IsRising (u ∷ us) → IsRising us
rising_on u us r i j v w e f l = r (suc i) (suc j) v w e f (omega arith)

one_at : (k key : ℕ) (us : List LockUse) → IsRising us → (j : ℕ) (u : LockUse) → slice_get us j ≡ Some u → is_at k key u ≡ true
    → count_uses (is_at k key) us ≡ 1
one_at k key [] r j u e t = absurd (cc)
one_at k key (w ∷ us) r zero u e t =
    let same : w ≡ u = cc in
    let here : flag (is_at k key w) ≡ 1 = flag_on (is_at k key w) (subst (λ (x : LockUse). is_at k key x ≡ true) (sym same) t) in
    let l = of_is k u (and_both (is_of k u) (use_key u == key) t).0 in
    let rest = none_of k key us (λ i v f lv. absurd (let h = r 0 (suc i) w v refl f (omega arith) in
    let a = ap (λ (x : LockUse). x.lock) same in omega arith)) in
    omega (arith, here, rest, uses_cons (is_at k key) w us)
one_at k key (w ∷ us) r (suc j) u e t =
    let rest = one_at k key us (rising_on w us r) j u e t in
    let l = of_is k u (and_both (is_of k u) (use_key u == key) t).0 in
    let here : flag (is_at k key w) ≡ 0 = ⊎_elim
    (λ b. absurd (let lw = of_is k w (and_both (is_of k w) (use_key w == key) b).0 in let h = r 0 (suc j) w u refl e (omega arith) in omega arith))
    (flag_off (is_at k key w)) (cases_Bool (is_at k key w)) in
    omega (arith, here, rest, uses_cons (is_at k key) w us)

-- the use of a lock, if there is one
find_use : (k : ℕ) (us : List LockUse) → ((j : ℕ) × (u : LockUse) × (slice_get us j ≡ Some u) × (u.lock ≡ k))
    ⊎ ((j : ℕ) (u : LockUse) → slice_get us j ≡ Some u → u.lock ≡ k → ⊥)
find_use k [] = inr (λ j u e l. cc)
find_use k (w ∷ us) = dite (ℕ_discrete w.lock k) (λ z. inl (0, w, refl, z)) (λ n. ⊎_elim
    (λ f. inl (suc f.0, f.1, f.2, f.3))
    (λ h. inr (none_in h n)) (find_use k us))
  where
    none_in : ((j : ℕ) (u : LockUse) → slice_get us j ≡ Some u → u.lock ≡ k → ⊥) → w.lock ≢ k → (j : ℕ) (u : LockUse)
        → slice_get (w ∷ us) j ≡ Some u → u.lock ≡ k → ⊥
    none_in h n zero u e l = n (let same : w ≡ u = cc in ap (λ (x : LockUse). x.lock) same ∙ l)
    none_in h n (suc j) u e l = h j u e l

-- before the first item
pub tallied_first : (list : List Spot) (left : List Bool) (rows : ℕ → ℕ → ℕ) (version readers : ℕ → ℕ)
    → ((q : ℕ) → slice_get left q ≡ Some false → ⊥) → ((k : ℕ) → version k ≡ 0) → ((k : ℕ) → readers k ≡ rows k 0)
    → AreTallied list left rows version readers
tallied_first list left rows version readers all nought full = record {
  rising = λ p s e m. absurd (all p m);
  passed = λ p j s u e f m. absurd (all p m);
  written = λ k w l. absurd (let z = nought k in omega arith);
  once = λ p q i j x y u w a. absurd (all p a);
  spent = λ k w l. absurd (let z = nought k in omega arith);
  now = λ k. let z = nought k in let n = placed_nought (is_reader k (version k)) list left (λ q y e m. absurd (all q m)) in let f = full k in
      let g : rows k (version k) ≡ rows k 0 = ap (λ (a : ℕ). rows k a) z in omega (arith, n, f, g);
}

-- one item more
module _ (list : List Spot) (left : List Bool) (rows : ℕ → ℕ → ℕ) (version readers new_version new_readers : ℕ → ℕ)
    (are : AreTallied list left rows version readers) (p : ℕ) (s : Spot) (at : slice_get list p ≡ Some s)
    (mark : slice_get left p ≡ Some true) (step : IsStep s.uses rows version readers new_version new_readers) where
  -- who is placed now was, or is the item
  was : (q : ℕ) → slice_get (slice_set left p false) q ≡ Some false → (q ≡ p) ⊎ (slice_get left q ≡ Some false)
  was q m = dite (ℕ_discrete q p) inl (λ n. inr (sym (set_other left p q false n) ∙ m))

  kept : (q : ℕ) → slice_get left q ≡ Some false → slice_get (slice_set left p false) q ≡ Some false
  kept q m = dite (ℕ_discrete q p) (λ z. absurd (two (sym m ∙ (ap (λ (k : ℕ). slice_get left k) z ∙ mark))))
      (λ n. set_other left p q false n ∙ m)
    where
      two : Some false ≡ Some true → ⊥
      two e = cc

  is_item : (q : ℕ) (y : Spot) → q ≡ p → slice_get list q ≡ Some y → s ≡ y
  is_item q y z e = same_there list p s y at (ap (λ (k : ℕ). slice_get list k) (sym z) ∙ e)

  use_in : (q j : ℕ) (y : Spot) (u : LockUse) → q ≡ p → slice_get list q ≡ Some y → slice_get y.uses j ≡ Some u → slice_get s.uses j ≡ Some u
  use_in q j y u z e f = subst (λ (x : Spot). slice_get x.uses j ≡ Some u) (sym (is_item q y z e)) f

  -- how a lock goes on: as its use says
  grows : (k : ℕ) → version k ≤ new_version k
  grows k = ⊎_elim
      (λ f. let l = ap new_version f.3 in let o = ap version f.3 in ⊎_elim
      (λ t. let h = (step.wrote f.0 f.1 f.2 t).0 in omega arith) (λ r. let h = (step.read f.0 f.1 f.2 r).0 in omega arith) (cases_Bool f.1.wrote))
      (λ n. let h = (step.other k n).0 in omega arith) (find_use k s.uses)

  passed_item : (j : ℕ) (u : LockUse) → slice_get s.uses j ≡ Some u → u.version + flag u.wrote ≤ new_version u.lock
  passed_item j u f = let due = (step.due j u f).0 in ⊎_elim
      (λ t. let z = flag_on u.wrote t in let h = (step.wrote j u f t).0 in omega arith)
      (λ r. let z = flag_off u.wrote r in let h = (step.read j u f r).0 in omega arith) (cases_Bool u.wrote)

  passed_more : (q j : ℕ) (y : Spot) (u : LockUse) → slice_get list q ≡ Some y → slice_get y.uses j ≡ Some u
      → slice_get (slice_set left p false) q ≡ Some false → u.version + flag u.wrote ≤ new_version u.lock
  passed_more q j y u e f m = ⊎_elim (λ z. passed_item j u (use_in q j y u z e f))
      (λ o. let h = are.passed q j y u e f o in let g = grows u.lock in omega arith) (was q m)

  -- a lock whose version grows was written by the item, at the version that it had
  wrote_it : (k : ℕ) → version k < new_version k → (j : ℕ) × (u : LockUse) × (slice_get s.uses j ≡ Some u) × (u.lock ≡ k) × (u.wrote ≡ true)
      × (new_version k ≡ version k + 1)
  wrote_it k l = ⊎_elim
      (λ f. let a = ap new_version f.3 in let b = ap version f.3 in ⊎_elim
      (λ t. (f.0, f.1, f.2, f.3, t, let h = (step.wrote f.0 f.1 f.2 t).0 in omega arith))
      (λ r. absurd (let h = (step.read f.0 f.1 f.2 r).0 in omega arith)) (cases_Bool f.1.wrote))
      (λ n. absurd (let h = (step.other k n).0 in omega arith)) (find_use k s.uses)

  written_more : (k w : ℕ) → w < new_version k → IsWritten list (slice_set left p false) k w
  written_more k w l = dite (dec_lt w (version k))
      (λ o. let r = are.written k w o in record {
        p = r.p;
        j = r.j;
        s = r.s;
        u = r.u;
        at = r.at;
        use_at = r.use_at;
        mark = kept r.p r.mark;
        lock = r.lock;
        found = r.found;
        wrote = r.wrote;
      })
      (λ n. let f = wrote_it k (omega arith) in record {
        p = p;
        j = f.0;
        s = s;
        u = f.1;
        at = at;
        use_at = f.2;
        mark = set_same left p true false mark;
        lock = f.3;
        found = let due = (step.due f.0 f.1 f.2).0 in let b = ap version f.3 in let g = f.5 in omega arith;
        wrote = f.4;
      })

  -- a use that was placed wrote below what the item's finds
  apart : (q i j : ℕ) (y : Spot) (u w : LockUse) → slice_get list q ≡ Some y → slice_get s.uses i ≡ Some u → slice_get y.uses j ≡ Some w
      → slice_get left q ≡ Some false → w.wrote ≡ true → u.lock ≡ w.lock → u.version ≡ w.version → ⊥
  apart q i j y u w e f g o t l v =
      let h = are.passed q j y w e g o in let z = flag_on w.wrote t in let due = (step.due i u f).0 in let b = ap version l in omega arith

  once_more : IsOnce list (λ q. slice_get (slice_set left p false) q ≡ Some false)
  once_more a b i j x y u w ma mb ex ey eu ew tu tw l v = ⊎_elim
      (λ za. ⊎_elim (λ zb. za ∙ sym zb) (λ ob. absurd (apart b i j y u w ey (use_in a i x u za ex eu) ew ob tw l v)) (was b mb))
      (λ oa. ⊎_elim (λ zb. absurd (apart a j i x w u ex (use_in b j y w zb ey ew) eu oa tu (sym l) (sym v)))
      (λ ob. are.once a b i j x y u w oa ob ex ey eu ew tu tw l v) (was b mb)) (was a ma)

  counted : (k w : ℕ) → placed_of (is_reader k w) list (slice_set left p false) ≡ placed_of (is_reader k w) list left + count_uses (is_reader k w) s.uses
  counted k w = placed_more (is_reader k w) list left p s at mark

  -- the item read no version of a lock but that which the lock has, and that only if it did not write
  reads_none : (k w : ℕ) → ((j : ℕ) (u : LockUse) → slice_get s.uses j ≡ Some u → u.lock ≡ k → u.version ≡ w → u.wrote ≡ false → ⊥)
      → count_uses (is_reader k w) s.uses ≡ 0
  reads_none k w h = uses_none (is_reader k w) s.uses (λ j u e t. let r = reader_is k w u t in h j u e r.0 r.1 r.2)

  spent_more : (k w : ℕ) → w < new_version k → rows k w ≡ placed_of (is_reader k w) list (slice_set left p false)
  spent_more k w l = dite (dec_lt w (version k))
      (λ o. let h = are.spent k w o in
      let z = reads_none k w (λ j u e lu v r. absurd (let due = (step.due j u e).0 in let b = ap version lu in omega arith)) in
      let c = counted k w in omega arith)
      (λ n. let f = wrote_it k (omega arith) in let g = f.5 in
      let same : version k ≡ w = omega arith in
      let due = (step.due f.0 f.1 f.2).1 f.4 in let none : readers k ≡ 0 = ap readers (sym f.3) ∙ due in
      let now : rows k w ≡ readers k + placed_of (is_reader k w) list left =
      subst (λ (a : ℕ). rows k a ≡ readers k + placed_of (is_reader k a) list left) same (are.now k) in
      let z = reads_none k w (λ j u e lu v r. marks f.4
      (ap (λ (x : LockUse). x.wrote) (one_use s.uses step.rising f.0 j f.1 u f.2 e (f.3 ∙ sym lu)) ∙ r)) in
      let c = counted k w in omega arith)

  -- of the next version no reader is placed
  next_none : (k w : ℕ) → new_version k ≡ w → version k < w → placed_of (is_reader k w) list (slice_set left p false) ≡ 0
  next_none k w is l = placed_nought (is_reader k w) list (slice_set left p false) (λ q y e m. uses_none (is_reader k w) y.uses (λ j u f t.
      let r = reader_is k w u t in ⊎_elim
      (λ z. let due = (step.due j u (use_in q j y u z e f)).0 in let b = ap version r.0 in let v = r.1 in absurd (omega arith))
      (λ o. let h = are.passed q j y u e f o in let b = ap version r.0 in let v = r.1 in absurd (omega arith)) (was q m)))

  now_more : (k : ℕ) → rows k (new_version k) ≡ new_readers k + placed_of (is_reader k (new_version k)) list (slice_set left p false)
  now_more k = ⊎_elim
      (λ f. ⊎_elim
      (λ t. let h = step.wrote f.0 f.1 f.2 t in
      let v : new_version k ≡ version k + 1 = subst (λ (a : ℕ). new_version a ≡ version a + 1) f.3 h.0 in
      let r : new_readers k ≡ rows k (version k + 1) = subst (λ (a : ℕ). new_readers a ≡ rows a (version a + 1)) f.3 h.1 in
      let z = next_none k (new_version k) refl (omega (arith, v)) in
      let g : rows k (new_version k) ≡ rows k (version k + 1) = ap (λ (a : ℕ). rows k a) v in omega (arith, z, r, g))
      (λ o. let h = step.read f.0 f.1 f.2 o in
      let v : new_version k ≡ version k = subst (λ (a : ℕ). new_version a ≡ version a) f.3 h.0 in
      let r : readers k ≡ new_readers k + 1 = subst (λ (a : ℕ). readers a ≡ new_readers a + 1) f.3 h.1 in
      let found : f.1.version ≡ version k = (step.due f.0 f.1 f.2).0 ∙ ap version f.3 in
      let one = one_at k (version k * 2) s.uses step.rising f.0 f.1 f.2 (reader_from k (version k) f.1 f.3 found o) in
      let c = counted k (version k) in let n = are.now k in
      subst (λ (a : ℕ). rows k a ≡ new_readers k + placed_of (is_reader k a) list (slice_set left p false)) (sym v) (omega (arith, r, one, c, n)))
      (cases_Bool f.1.wrote))
      (λ none. let h = step.other k none in
      let z = reads_none k (version k) (λ j u e lu v r. none j u e lu) in
      let c = counted k (version k) in let n = are.now k in let r = h.1 in
      subst (λ (a : ℕ). rows k a ≡ new_readers k + placed_of (is_reader k a) list (slice_set left p false)) (sym h.0) (omega (arith, z, c, n, r)))
      (find_use k s.uses)

  pub tallied_more : AreTallied list (slice_set left p false) rows new_version new_readers
  tallied_more = record {
    rising = λ q y e m. ⊎_elim (λ z. subst (λ (x : Spot). IsRising x.uses) (is_item q y z e) step.rising) (λ o. are.rising q y e o) (was q m);
    passed = passed_more;
    written = written_more;
    once = once_more;
    spent = spent_more;
    now = now_more;
  }

  -- on a tallied list what may come still may, if it is not of the item
  pub tally_stays : length left ≡ length list → IsTallied list rows → (q j : ℕ) (y : Spot) (u : LockUse) → slice_get list q ≡ Some y
      → slice_get y.uses j ≡ Some u → slice_get left q ≡ Some true → q ≢ p → MayUse version readers u → MayUse new_version new_readers u
  tally_stays count is q j y u e f m ne due = ⊎_elim
      (λ g. ⊎_elim
      (λ t. absurd (clash g.0 g.1 g.2 g.3 t))
      (λ o. let h = step.read g.0 g.1 g.2 o in let v = subst (λ (a : ℕ). new_version a ≡ version a) g.3 h.0 in
      let r = subst (λ (a : ℕ). readers a ≡ new_readers a + 1) g.3 h.1 in let d = due.0 in
      (omega (arith, v, d), λ t. absurd (let z = due.1 t in omega (arith, r, z)))) (cases_Bool g.1.wrote))
      (λ none. let h = step.other u.lock none in let a = h.0 in let b = h.1 in let d = due.0 in
      (omega (arith, a, d), λ t. b ∙ due.1 t))
      (find_use u.lock s.uses)
    where
      clash : (i : ℕ) (w : LockUse) → slice_get s.uses i ≡ Some w → w.lock ≡ u.lock → w.wrote ≡ true → ⊥
      clash i w g l t =
          let dw = step.due i w g in let du = due.0 in
          let same : w.version ≡ u.version = dw.0 ∙ (ap version l ∙ sym du) in ⊎_elim
          (λ x. ne (sym (is.once p q i j s y w u (s, at) (y, e) at e g f t x l same)))
          (λ x. tally_first list left rows version readers count are is p i s w at g dw q j y u e f (sym l)
          (let a = flag_on w.wrote t in let b = flag_off u.wrote x in omega arith) m)
          (cases_Bool u.wrote)
