-- Where items wait, as one of them settles and as a line goes on.
use Rattle.order_rebuild.proofs.Common.{◌≡◌, ◌≢◌, ℕ, suc, ◌+◌, ◌<◌, ◌≤◌, Bool, true, false, ◌⊎◌, inl, inr, ⊎_elim, List, ◌∷◌, length, slice_get, get_or}
use Rattle.order_rebuild.proofs.Common.{slice_index, slice_set, Some, refl, sym, ap, ◌∙◌, subst, arith, get_or-set_same, get_or-set_other, length-set, ◌==◌}
use Rattle.order_rebuild.proofs.Common.{dite, ℕ_discrete, dec_lt, IsPermutation, sum_by-cons, All-permutation, slice_get_read, get_or_from_slice_get, flag}
use Rattle.order_rebuild.proofs.Common.{Lines, places, items, item_at, base_at, first_at, last_of, caller_of, AreRows, IsOpen, AreGone, IsStopped, AreStopped}
use Rattle.order_rebuild.proofs.Common.{AreWaits, AreClosed, Comer, comer_cmp, IsKnown, count_of, KeepsReady}
use Rattle.std.proofs.Common.{eq-eqb, ne_eqb}
use Rattle.std.specs.BinaryHeap.{KeepsHeap}
use Rattle.std.proofs.lemmas.List.Sorted.{sum_by-IsPermutation}
use Rattle.std.proofs.lemmas.List.Elements.{All-cons}
use Rattle.order_rebuild.proofs.Befores.{before_at}

-- a number of a list after a write
pub same_there : (xs : List ℕ) (i v : ℕ) → i < length xs → slice_index (slice_set xs i v) i ≡ v
same_there xs i v l = get_or-set_same xs i v 0 l

pub other_there : (xs : List ℕ) (i j v : ℕ) → j ≢ i → slice_index (slice_set xs i v) j ≡ slice_index xs j
other_there xs i j v n = get_or-set_other xs i j v 0 n

-- how often an item is in the list with one more
pub count_more : (q : ℕ) (x : Comer) (ready : List Comer) → count_of q (x ∷ ready) ≡ flag (x.0.1 == q) + count_of q ready
count_more q x ready = sum_by-cons (λ (x : Comer). flag (x.0.1 == q)) x ready

pub count_same : (q : ℕ) (x : Comer) (ready : List Comer) → x.0.1 ≡ q → count_of q (x ∷ ready) ≡ suc (count_of q ready)
count_same q x ready e = let c = count_more q x ready in let f : flag (x.0.1 == q) ≡ 1 = rw (eq-eqb x.0.1 q e) refl in omega arith

pub count_other : (q : ℕ) (x : Comer) (ready : List Comer) → x.0.1 ≢ q → count_of q (x ∷ ready) ≡ count_of q ready
count_other q x ready n = let c = count_more q x ready in let f : flag (x.0.1 == q) ≡ 0 = rw (ne_eqb x.0.1 q n) refl in omega arith

pub count_moved : (q : ℕ) (xs ys : List Comer) → IsPermutation xs ys → count_of q ys ≡ count_of q xs
count_moved q xs ys p = sum_by-IsPermutation (λ (x : Comer). flag (x.0.1 == q)) xs ys p

-- the item q waits at another place
module _ (l : Lines) (rows : AreRows l) (next wait : List ℕ) (waits : AreWaits l next wait) (q at : ℕ) (inside : q < items l)
    (own : (e : ℕ) → at ≡ suc e → (e < places l) × (item_at l e ≡ q))
    (above : (i : ℕ) → i < places l → item_at l i ≡ q → at ≤ i → IsOpen l next i) where
  here : slice_index (slice_set wait q at) q ≡ at
  here = let c = waits.count in same_there wait q at (omega arith)

  pub set_waits : AreWaits l next (slice_set wait q at)
  set_waits = record {
    count = length-set wait q at ∙ waits.count;
    own = λ p e lt is. dite (ℕ_discrete p q)
        (λ s. let o = own e (sym here ∙ (ap (λ (i : ℕ). slice_index (slice_set wait q at) i) (sym s) ∙ is)) in (o.0, o.1 ∙ sym s))
        (λ n. waits.own p e lt (sym (other_there wait q p at n) ∙ is));
    above = λ i lt le. dite (ℕ_discrete (item_at l i) q)
        (λ s. above i lt s (let h : slice_index (slice_set wait q at) (item_at l i) ≡ at =
        ap (λ (j : ℕ). slice_index (slice_set wait q at) j) s ∙ here in omega arith))
        (λ n. waits.above i lt (let h = other_there wait q (item_at l i) at n in omega arith));
  }

  -- and it waits still
  pub ready_waits : (from to : ℕ) (ready : List Comer) → slice_index wait q ≡ suc from → at ≡ suc to → KeepsReady l wait ready (slice_set wait q at) ready
  ready_waits from to ready was is left r = record {
    ordered = r.ordered;
    known = r.known;
    here = λ p lt z mark. dite (ℕ_discrete p q)
        (λ s. absurd (let h : slice_index (slice_set wait q at) p ≡ at = ap (λ (j : ℕ). slice_index (slice_set wait q at) j) s ∙ here in omega arith))
        (λ n. r.here p lt (sym (other_there wait q p at n) ∙ z) mark);
    not_waiting = λ p e lt z. dite (ℕ_discrete p q)
        (λ s. r.not_waiting p from lt (ap (λ (j : ℕ). slice_index wait j) s ∙ was))
        (λ n. r.not_waiting p e lt (sym (other_there wait q p at n) ∙ z));
    not_placed = r.not_placed;
    waiting = λ p e lt z. dite (ℕ_discrete p q)
        (λ s. r.waiting p from lt (ap (λ (j : ℕ). slice_index wait j) s ∙ was))
        (λ n. r.waiting p e lt (sym (other_there wait q p at n) ∙ z));
  }

  -- or may come
  pub ready_comes : (from : ℕ) (x : Comer) (ready more : List Comer) → slice_index wait q ≡ suc from → at ≡ 0 → x.0.1 ≡ q → x.0.0 ≡ caller_of l q
      → IsPermutation (x ∷ ready) more → KeepsHeap comer_cmp ready more → KeepsReady l wait ready (slice_set wait q at) more
  ready_comes from x ready more was is it caller moved heap left r = record {
    ordered = heap r.ordered;
    known = All-permutation (IsKnown l) (x ∷ ready) more moved
        (All-cons (IsKnown l) x ready (subst (λ (j : ℕ). j < items l) (sym it) inside, caller ∙ ap (λ (j : ℕ). caller_of l j) (sym it)) r.known);
    here = λ p lt z mark. dite (ℕ_discrete p q)
        (λ s. count_moved p (x ∷ ready) more moved
        ∙ (count_same p x ready (it ∙ sym s) ∙ ap suc (r.not_waiting p from lt (ap (λ (j : ℕ). slice_index wait j) s ∙ was))))
        (λ n. others p n ∙ r.here p lt (sym (other_there wait q p at n) ∙ z) mark);
    not_waiting = λ p e lt z. dite (ℕ_discrete p q)
        (λ s. absurd (let h : slice_index (slice_set wait q at) p ≡ at = ap (λ (j : ℕ). slice_index (slice_set wait q at) j) s ∙ here in omega arith))
        (λ n. others p n ∙ r.not_waiting p e lt (sym (other_there wait q p at n) ∙ z));
    not_placed = λ p lt mark. dite (ℕ_discrete p q)
        (λ s. absurd (let w = r.waiting p from lt (ap (λ (j : ℕ). slice_index wait j) s ∙ was) in marks (slice_get left p) w mark))
        (λ n. others p n ∙ r.not_placed p lt mark);
    waiting = λ p e lt z. dite (ℕ_discrete p q)
        (λ s. r.waiting p from lt (ap (λ (j : ℕ). slice_index wait j) s ∙ was))
        (λ n. r.waiting p e lt (sym (other_there wait q p at n) ∙ z));
  }
    where
      others : (p : ℕ) → p ≢ q → count_of p more ≡ count_of p ready
      others p n = count_moved p (x ∷ ready) more moved ∙ count_other p x ready (λ e. n (sym e ∙ it))

      marks : (m : _) → m ≡ Some true → m ≡ Some false → ⊥
      marks m a b = cc

-- nothing was done
pub ready_same : (l : Lines) (wait : List ℕ) (ready : List Comer) → KeepsReady l wait ready wait ready
ready_same l wait ready left r = r

pub ready_after : (l : Lines) (w1 w2 w3 : List ℕ) (r1 r2 r3 : List Comer) → KeepsReady l w1 r1 w2 r2 → KeepsReady l w2 r2 w3 r3 → KeepsReady l w1 r1 w3 r3
ready_after l w1 w2 w3 r1 r2 r3 a b left r = b left (a left r)

-- what an index gave
pub index_is : (xs : List ℕ) (i x : ℕ) → i < length xs → x ≡ get_or xs i x → x ≡ slice_index xs i
index_is xs i x l e = sym (get_or_from_slice_get xs i x 0 (slice_get_read xs (length xs) i x refl l e))

-- what is due once the item at place i is settled: the same, but for that item's places
pub closed_more : (l : Lines) (next old new : List ℕ) (i q : ℕ) (Due After : ℕ → Type 0) → q ≡ item_at l i → AreWaits l next new → AreClosed l next old Due
    → ((e : ℕ) → slice_index new q ≡ suc e → IsOpen l next e → ⊥) → ((p : ℕ) → p ≢ q → slice_index new p ≡ slice_index old p)
    → ((e : ℕ) → e < places l → e ≢ i → Due e → After e) → AreClosed l next new After
closed_more l next old new i q Due After at waits closed settled others more p e lt is opened = dite (ℕ_discrete p q)
    (λ s. absurd (settled e (ap (λ (j : ℕ). slice_index new j) (sym s) ∙ is) opened))
    (λ n. let o = waits.own p e lt is in more e o.0 (λ s. n (sym o.1 ∙ (ap (item_at l) s ∙ sym at))) (closed p e lt (sym (others p n) ∙ is) opened))

-- one of the places that stand level from `start` is settled
pub level_more : (l : Lines) (next old new : List ℕ) (i q start : ℕ) → q ≡ item_at l i → AreWaits l next new
    → AreClosed l next old (λ e. (first_at l e ≡ start) × (i ≤ e))
    → ((e : ℕ) → slice_index new q ≡ suc e → IsOpen l next e → ⊥) → ((p : ℕ) → p ≢ q → slice_index new p ≡ slice_index old p)
    → AreClosed l next new (λ e. (first_at l e ≡ start) × (i + 1 ≤ e))
level_more l next old new i q start at waits closed settled others =
    closed_more l next old new i q (λ e. (first_at l e ≡ start) × (i ≤ e)) (λ e. (first_at l e ≡ start) × (i + 1 ≤ e)) at waits closed settled others
    (λ e lt n d. (d.0, let k = d.1 in omega arith))

pub all_more : (l : Lines) (next old new : List ℕ) (i q : ℕ) → q ≡ item_at l i → AreWaits l next new → AreClosed l next old (λ e. i ≤ e)
    → ((e : ℕ) → slice_index new q ≡ suc e → IsOpen l next e → ⊥) → ((p : ℕ) → p ≢ q → slice_index new p ≡ slice_index old p)
    → AreClosed l next new (λ e. i + 1 ≤ e)
all_more l next old new i q at waits closed settled others =
    closed_more l next old new i q (λ e. i ≤ e) (λ e. i + 1 ≤ e) at waits closed settled others (λ e lt n d. omega arith)

-- a line goes on by one place
module _ (l : Lines) (rows : AreRows l) (left : List Bool) (next wait : List ℕ) (gone : AreGone l left next) (waits : AreWaits l next wait) (line : ℕ)
    (inside : line < places l) (begins : base_at l line ≡ line)
    (passed : (slice_index next line < places l) × (base_at l (slice_index next line) ≡ line)
    × (slice_get left (item_at l (slice_index next line)) ≡ Some false)) where
  at : ℕ
  at = slice_index next line

  abbrev moved : List ℕ
  moved = slice_set next line (slice_index next line + 1)

  moved_here : slice_index moved line ≡ slice_index next line + 1
  moved_here = let c = gone.count in same_there next line (slice_index next line + 1) (omega arith)

  moved_at : (b : ℕ) → (slice_index moved b ≡ slice_index next b) ⊎ ((b ≡ line) × (slice_index moved b ≡ slice_index next line + 1))
  moved_at b = dite (ℕ_discrete b line)
      (λ s. inr (s, ap (λ (j : ℕ). slice_index moved j) s ∙ moved_here))
      (λ n. inl (other_there next line b (slice_index next line + 1) n))

  pub gone_on : AreGone l left moved
  gone_on = record {
    count = length-set next line (slice_index next line + 1) ∙ gone.count;
    from = λ b lt is. let f = gone.from b lt is in ⊎_elim (λ e. omega arith) (λ e. let g = e.1 in let s =
        ap (λ (j : ℕ). slice_index next j) e.0 in omega arith) (moved_at b);
    gone = λ b j lt is low high. ⊎_elim
        (λ e. gone.gone b j lt is low (omega arith))
        (λ e. dite (ℕ_discrete j (slice_index next line))
        (λ s. (
          subst (λ (i : ℕ). i < places l) (sym s) passed.0,
          ap (base_at l) s ∙ (passed.1 ∙ sym e.0),
          subst (λ (i : ℕ). slice_get left (item_at l i) ≡ Some false) (sym s) passed.2,
        ))
        (λ n. gone.gone b j lt is low (let g = e.1 in let s = ap (λ (i : ℕ). slice_index next i) e.0 in omega arith)))
        (moved_at b);
  }

  pub others_on : (b : ℕ) → b ≢ line → slice_index moved b ≡ slice_index next b
  others_on b n = other_there next line b (slice_index next line + 1) n

-- the lines of an item that was placed, from its last place down
module _ (l : Lines) (rows : AreRows l) (left : List Bool) (p : ℕ) where
  -- the first place of the line of a place
  pub line_of : (e : ℕ) → e < places l → (base_at l e < places l) × (base_at l (base_at l e) ≡ base_at l e)
  line_of e lt = let a = rows.low e lt in let b = rows.up e lt in (omega arith, rows.same e (base_at l e) lt (omega arith) (omega arith))

  pub own_first : p < items l → (e : ℕ) → last_of l p ≡ suc e → (e < places l) × (item_at l e ≡ p)
  own_first inside e is = let c = rows.chains.last_most p inside in (omega arith, rows.chains.last_own p e inside is)

  pub own_down : (e k : ℕ) → (e < places l) × (item_at l e ≡ p) → before_at l e ≡ suc k → (k < places l) × (item_at l k ≡ p)
  own_down e k o is = let a = o.0 in let b = rows.chains.below e o.0 in (omega arith, rows.chains.own e k o.0 is ∙ o.1)

  pub stopped_first : p < items l → (next : List ℕ) → AreStopped l left next p (places l) → AreStopped l left next p (last_of l p)
  stopped_first inside next stopped b lt is go = let k = stopped b lt is go in
      (k.0, dite (dec_lt k.0 (last_of l p)) (λ h. h) (λ h. absurd (rows.chains.last_none p k.0 inside (omega arith) k.1 k.2)), k.2, k.3)

  pub stopped_down : (old new : List ℕ) (e : ℕ) → (e < places l) × (item_at l e ≡ p) → AreStopped l left old p (suc e) → IsStopped l left new (base_at l e)
      → ((b : ℕ) → b ≢ base_at l e → slice_index new b ≡ slice_index old b) → AreStopped l left new p (before_at l e)
  stopped_down old new e o stopped now others b lt is go = dite (ℕ_discrete b (base_at l e))
      (λ s. absurd (go (subst (λ (i : ℕ). IsStopped l left new i) (sym s) now)))
      (λ n. let k = stopped b lt is (λ st.
      go (subst (λ (i : ℕ). i < places l → base_at l i ≡ b → slice_get left (item_at l i) ≡ Some false → ⊥) (sym (others b n)) st)) in (
        k.0,
        dite (dec_lt k.0 (before_at l e)) (λ h. h) (λ h. absurd (dite (ℕ_discrete k.0 e)
            (λ s. n (sym k.3 ∙ ap (base_at l) s))
            (λ m. let low = k.1 in rows.chains.none e k.0 o.0 (omega arith) (omega arith) (k.2 ∙ sym o.1)))),
        k.2,
        k.3,
      ))
