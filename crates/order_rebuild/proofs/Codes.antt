-- Places in lines: one item has one place in a line, and the order of places is the order of uses.
use Rattle.order_rebuild.proofs.Common.{◌≡◌, ◌≢◌, ℕ, ◌+◌, ◌*◌, ◌/◌, ◌<◌, ◌≤◌, Bool, true, false, ◌⊎◌, inl, inr, ⊎_elim, List, slice_get, Some, refl, sym, ap}
use Rattle.order_rebuild.proofs.Common.{◌∙◌, subst, arith, dite, dec_lt, cases_Bool, slice_get_within, LockUse, UsedBefore, flag, LINE, Spot, Precedes}
use Rattle.order_rebuild.proofs.Common.{Orderable, use_key, IsLockCode, line_place, IsTurnOf}
use Rattle.order_rebuild.specs.Turns.{HasAbove}

-- what stands at a place is one alone
pub same_there : {A : Type 0} (xs : List A) (i : ℕ) (x y : A) → slice_get xs i ≡ Some x → slice_get xs i ≡ Some y → x ≡ y
same_there xs i x y e f = let q : Some x ≡ Some y = sym e ∙ f in cc

-- a use with a lower key comes before one with a greater, and the other way round
pub earlier : (v w : ℕ) (b c : Bool) → v * 2 + flag b < w * 2 + flag c → (v < w) ⊎ ((v ≡ w) × (b ≡ false) × (c ≡ true))
earlier v w true true l = inl (omega arith)
earlier v w true false l = inl (omega arith)
earlier v w false false l = inl (omega arith)
earlier v w false true l = dite (dec_lt v w) inl (λ n. inr (omega arith, refl, refl))

pub lower : (v w : ℕ) (b c : Bool) → (v < w) ⊎ ((v ≡ w) × (b ≡ false) × (c ≡ true)) → v * 2 + flag b < w * 2 + flag c
lower v w true true (inl l) = omega arith
lower v w true false (inl l) = omega arith
lower v w false true (inl l) = omega arith
lower v w false false (inl l) = omega arith
lower v w true c (inr e) = let f = e.1 in cc
lower v w false true (inr e) = let f = e.0 in omega arith
lower v w false false (inr e) = let f = e.2 in cc

use_of : (u : LockUse) (k : ℕ) → u.lock ≡ k → Some u ≡ Some (record { lock = k; version = u.version; wrote = u.wrote })
use_of u k e = rw (← e) refl

pub used_from : (us vs : List LockUse) (i j k : ℕ) (u v : LockUse) → slice_get us i ≡ Some u → slice_get vs j ≡ Some v
    → u.lock ≡ k → v.lock ≡ k → use_key u < use_key v → UsedBefore us vs
used_from us vs i j k u v e f a b l = record {
  lock = k;
  found = u.version;
  other = v.version;
  wrote = u.wrote;
  other_wrote = v.wrote;
  uses = (i, e ∙ use_of u k a);
  other_uses = (j, f ∙ use_of v k b);
  earlier = earlier u.version v.version u.wrote v.wrote l;
}

flag_up : (b : Bool) → flag b ≤ 1
flag_up true = omega arith
flag_up false = omega arith

flag_true : (b : Bool) → b ≡ true → flag b ≡ 1
flag_true b e = rw e refl

flag_false : (b : Bool) → b ≡ false → flag b ≡ 0
flag_false b e = rw e refl

-- the place of an item in the line of a lock is one alone
pub code_same : (us : List LockUse) (k c d : ℕ) → IsLockCode us k c → IsLockCode us k d → c ≡ d
code_same us k c d x y =
    let low : x.low ≡ y.low = both x.low y.low (λ l. let h =
    y.least.least x.least.has.0 x.least.has.1 x.least.has.2 x.least.has.3 in let e = x.least.has.4 in
    omega arith) (λ l. let h = x.least.least y.least.has.0 y.least.has.1 y.least.has.2 y.least.has.3 in let e = y.least.has.4 in omega arith) in
    let wide : flag x.wide ≡ flag y.wide = flags x.wide y.wide
    (λ t. y.above.1 (subst (λ (n : ℕ). HasAbove us k n) low (x.above.0 t)))
    (λ t. x.above.1 (subst (λ (n : ℕ). HasAbove us k n) (sym low) (y.above.0 t))) in
    let a = x.is in let b = y.is in omega arith
  where
    both : (i j : ℕ) → (i < j → ⊥) → (j < i → ⊥) → i ≡ j
    both i j a b = grind arith

    flags : (b c : Bool) → (b ≡ true → c ≡ true) → (c ≡ true → b ≡ true) → flag b ≡ flag c
    flags true c f g = sym (flag_true c (f refl))
    flags false true f g = absurd (let e = g refl in no e)
      where
        no : false ≡ true → ⊥
        no e = cc
    flags false false f g = refl

-- the items' places in the line of a lock are in the order of their uses
pub codes_before : (us vs : List LockUse) (k c d : ℕ) → IsLockCode us k c → IsLockCode vs k d → c < d → UsedBefore us vs
codes_before us vs k c d x y l = dite (dec_lt x.low y.low)
    (λ lt. used_from us vs x.least.has.0 y.least.has.0 k x.least.has.1 y.least.has.1 x.least.has.2 y.least.has.2
    x.least.has.3 y.least.has.3 (let a = x.least.has.4 in let b = y.least.has.4 in omega arith))
    (λ n. ⊎_elim
    (λ t. let h = y.above.0 t in used_from us vs x.least.has.0 h.0 k x.least.has.1 h.1 x.least.has.2 h.2 x.least.has.3
    h.3 (let a = x.least.has.4 in let b = h.4 in let low = same n in omega arith))
    (λ t. absurd (let e = flag_false y.wide t in let a = x.is in let b = y.is in let f = flag_up x.wide in omega arith))
    (cases_Bool y.wide))
  where
    same : (x.low < y.low → ⊥) → x.low ≡ y.low
    same n = let a = x.is in let b = y.is in let f = flag_up x.wide in let g = flag_up y.wide in omega arith

pub before_codes : (us vs : List LockUse) (k c d i j : ℕ) (u v : LockUse) → IsLockCode us k c → IsLockCode vs k d → (UsedBefore vs us → ⊥)
    → slice_get us i ≡ Some u → slice_get vs j ≡ Some v → u.lock ≡ k → v.lock ≡ k → use_key u < use_key v → c < d
before_codes us vs k c d i j u v x y never eu ev lu lv l =
    let a = x.is in let b = y.is in
    let lx = x.least.least i u eu lu in
    let fx = flag_up x.wide in
    dite (dec_lt x.low y.low) (λ lt. omega arith)
    (λ n. dite (dec_lt y.low x.low)
    (λ lt. absurd (never (used_from vs us y.least.has.0 i k y.least.has.1 u y.least.has.2 eu y.least.has.3 lu (let h = y.least.has.4 in omega arith))))
    (λ m. let wide : y.wide ≡ true = y.above.1 (j, v, ev, lv, omega arith) in let fy = flag_true y.wide wide in
    ⊎_elim
    (λ t. absurd (let h = x.above.0 t in
    never (used_from vs us y.least.has.0 h.0 k y.least.has.1 h.1 y.least.has.2 h.2 y.least.has.3 h.3 (let g =
    y.least.has.4 in let z = h.4 in omega arith))))
    (λ t. let fz = flag_false x.wide t in omega arith)
    (cases_Bool x.wide)))

-- lines of locks are even, and of callers odd
pub line_is : (k r : ℕ) → r < LINE → (k * LINE + r) / LINE ≡ k
line_is k r l = omega arith

pub lock_line : (us : List LockUse) (k c : ℕ) → IsLockCode us k c → c / LINE ≡ 2 * k
lock_line us k c x = let l = line_is (2 * k) (2 * x.low + flag x.wide) x.fits in ap (λ (n : ℕ). n / LINE) x.is ∙ l

pub caller_line : (caller index : ℕ) → index < LINE → line_place caller index / LINE ≡ 2 * caller + 1
caller_line caller index l = line_is (2 * caller + 1) index l

-- two places of items in one line
pub turns_before : (list : List Spot) (p q c d : ℕ) (x y : Spot) → slice_get list p ≡ Some x → slice_get list q ≡ Some y
    → IsTurnOf list p c → IsTurnOf list q d → c / LINE ≡ d / LINE → c < d → Precedes x y
turns_before list p q c d x y ex ey s t line l = ⊎_elim
    (λ a. ⊎_elim
    (λ b. let k : a.0 ≡ b.0 = (let f = lock_line s.0.uses a.0 c a.1 in let g = lock_line t.0.uses b.0 d b.1 in omega arith) in
    let u = codes_before s.0.uses t.0.uses b.0 c d (subst (λ (n : ℕ). IsLockCode s.0.uses n c) k a.1) b.1 l in
    inl (subst (λ (z : Spot). UsedBefore z.uses y.uses) (same_there list p s.0 x s.1 ex)
    (subst (λ (z : Spot). UsedBefore s.0.uses z.uses) (same_there list q t.0 y t.1 ey) u)))
    (λ b. absurd (let f = lock_line s.0.uses a.0 c a.1 in let g = caller_line t.0.caller t.0.index b.1 in let h = ap (λ (n : ℕ). n / LINE) b.0 in omega arith))
    t.2)
    (λ a. ⊎_elim
    (λ b. absurd (let f = lock_line t.0.uses b.0 d b.1 in let g = caller_line s.0.caller s.0.index a.1 in let h = ap (λ (n : ℕ). n / LINE) a.0 in omega arith))
    (λ b. let f = caller_line s.0.caller s.0.index a.1 in let g = caller_line t.0.caller t.0.index b.1 in
    let h = ap (λ (n : ℕ). n / LINE) a.0 in let i = ap (λ (n : ℕ). n / LINE) b.0 in
    let same : s.0.caller ≡ t.0.caller = omega arith in
    let m = ap (λ (n : ℕ). (2 * n + 1) * LINE) same in let aa = a.0 in let bb = b.0 in
    let low : s.0.index < t.0.index = omega arith in
    inr (subst (λ (z : Spot). (z.caller ≡ y.caller) × (z.index < y.index)) (same_there list p s.0 x s.1 ex)
    (subst (λ (z : Spot). (s.0.caller ≡ z.caller) × (s.0.index < z.index)) (same_there list q t.0 y t.1 ey) (same, low))))
    t.2)
    s.2

pub turns_same : (list : List Spot) (p c d : ℕ) → IsTurnOf list p c → IsTurnOf list p d → c / LINE ≡ d / LINE → c ≡ d
turns_same list p c d s t line =
    let z : t.0 ≡ s.0 = same_there list p t.0 s.0 t.1 s.1 in ⊎_elim
    (λ a. ⊎_elim
    (λ b. let k : b.0 ≡ a.0 = (let f = lock_line s.0.uses a.0 c a.1 in let g = lock_line t.0.uses b.0 d b.1 in omega arith) in
    code_same s.0.uses a.0 c d a.1 (subst (λ (n : ℕ). IsLockCode s.0.uses n d) k (subst (λ (w : Spot). IsLockCode w.uses b.0 d) z b.1)))
    (λ b. absurd (let f = lock_line s.0.uses a.0 c a.1 in let g = caller_line t.0.caller t.0.index b.1 in let h = ap (λ (n : ℕ). n / LINE) b.0 in omega arith))
    t.2)
    (λ a. ⊎_elim
    (λ b. absurd (let f = lock_line t.0.uses b.0 d b.1 in let g = caller_line s.0.caller s.0.index a.1 in let h = ap (λ (n : ℕ). n / LINE) a.0 in omega arith))
    (λ b. a.0 ∙ sym (b.0 ∙ ap (λ (w : Spot). line_place w.caller w.index) z))
    t.2)
    s.2

-- of two items at most one has to come before the other
pub one_way : (list : List Spot) → Orderable list → (p q : ℕ) (x y : Spot) → slice_get list p ≡ Some x
    → slice_get list q ≡ Some y → p ≢ q → Precedes x y → Precedes y x → ⊥
one_way list o p q x y ex ey n a b = dite (dec_lt (o.number p) (o.number q))
    (λ l. o.in_order p q x y ex ey l b)
    (λ m. dite (dec_lt (o.number q) (o.number p))
    (λ l. o.in_order q p y x ey ex l a)
    (λ k. n (o.own p q (slice_get_within list p x ex) (slice_get_within list q y ey) (omega arith))))
