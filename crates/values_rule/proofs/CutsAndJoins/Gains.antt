-- What two lists of entries come to together.
use Rattle.values_rule.proofs.Common.{◌≡◌, ◌≢◌, ℕ, zero, suc, Bool, true, false, ◌&&◌, ◌⊎◌, inl, inr, ⊎_elim, List, [], ◌∷◌, ◌++◌, Some, if◌then◌else◌, refl}
use Rattle.values_rule.proofs.Common.{sym, ap, ◌∙◌, subst, arith, eq-eqb, ne_eqb, ◌==◌, or_cases, or_left, or_right, dite, ℕ_discrete, Abandoned, Entry, Read}
use Rattle.values_rule.proofs.Common.{Write, LockUse, IsIn, flag, bool_cases, differ, gains}
use Rattle.std.specs.Bool.{Decides}
use Rattle.std.specs.Cmp.Lexicographic.{pointwise, pointwise_decides, bytes_decides}
use Rattle.std.specs.Str.{bytes_eq}
use Rattle.std.proofs.lemmas.Bool.Decides.{Decides-and, Decides-eqb, Decides-like}
use Rattle.history_model.specs.declared.event.Event.{Event}
use Rattle.values_rule.proofs.Members.{in_join, none_in, in_first, in_second}
use Rattle.values_rule.specs.History.{last_call}
use Rattle.locks_rule.specs.Joins.{same_event, same_use, same_attempt, same_entry, has_entry, lacking}
use Rattle.values_rule.specs.Records.{IsApart}
use Rattle.values_rule.proofs.Told.ItemsIn.{in_parts}

-- the test is exact
flag_is : (a b : Bool) → Decides (flag a == flag b) (a ≡ b)
flag_is true true = (λ t. refl, λ e. refl)
flag_is true false = (λ t. absurd (cc), λ e. absurd (let z : true ≡ false = e in cc))
flag_is false true = (λ t. absurd (cc), λ e. absurd (let z : false ≡ true = e in cc))
flag_is false false = (λ t. refl, λ e. refl)

event_is : (e x : Event) → Decides (same_event e x) (e ≡ x)
event_is (Read a x) (Read b y) = Decides-like (a == b && x == y) (λ t. let f = t.0 in let g = t.1 in cc)
    (λ e. (let q : Read a x ≡ Read b y = e in cc, let q : Read a x ≡ Read b y = e in cc))
    (Decides-and (a == b) (x == y) (Decides-eqb a b) (Decides-eqb x y))
event_is (Read a x) (Write b y) = (λ t. absurd (let z : false ≡ true = t in cc), λ e. absurd (let z : Read a x ≡ Write b y = e in cc))
event_is (Write a x) (Read b y) = (λ t. absurd (let z : false ≡ true = t in cc), λ e. absurd (let z : Write a x ≡ Read b y = e in cc))
event_is (Write a x) (Write b y) = Decides-like (a == b && x == y) (λ t. let f = t.0 in let g = t.1 in cc)
    (λ e. (let q : Write a x ≡ Write b y = e in cc, let q : Write a x ≡ Write b y = e in cc))
    (Decides-and (a == b) (x == y) (Decides-eqb a b) (Decides-eqb x y))

use_eq : (u w : LockUse) → u.lock ≡ w.lock → u.version ≡ w.version → u.wrote ≡ w.wrote → u ≡ w
use_eq u w a b c i = record { lock = a i; version = b i; wrote = c i }

use_is : (u w : LockUse) → Decides (same_use u w) (u ≡ w)
use_is u w = Decides-like (same_use u w)
    (λ t. use_eq u w t.0.0 t.0.1 t.1)
    (λ e. ((ap (λ (z : LockUse). z.lock) e, ap (λ (z : LockUse). z.version) e), ap (λ (z : LockUse). z.wrote) e))
    (Decides-and (u.lock == w.lock && u.version == w.version) (flag u.wrote == flag w.wrote)
    (Decides-and (u.lock == w.lock) (u.version == w.version) (Decides-eqb u.lock w.lock) (Decides-eqb u.version w.version))
    (flag_is u.wrote w.wrote))

attempt_eq : (t s : Abandoned) → t.cause.seat ≡ s.cause.seat → t.cause.stamp ≡ s.cause.stamp → t.front ≡ s.front → t.trace ≡ s.trace
    → t.uses ≡ s.uses → t ≡ s
attempt_eq t s a b c d e i = record { cause = record { seat = a i; stamp = b i }; front = c i; trace = d i; uses = e i }

attempt_is : (t s : Abandoned) → Decides (same_attempt t s) (t ≡ s)
attempt_is t s =
    let cause = t.cause.seat == s.cause.seat && t.cause.stamp == s.cause.stamp in
    let traces = pointwise same_event t.trace s.trace in
    let uses = pointwise same_use t.uses s.uses in
    Decides-like (same_attempt t s)
    (λ h. attempt_eq t s h.0.0.0.0 h.0.0.0.1 h.0.0.1 h.0.1 h.1)
    (λ e. (
      (
        ((ap (λ (z : Abandoned). z.cause.seat) e, ap (λ (z : Abandoned). z.cause.stamp) e), ap (λ (z : Abandoned). z.front) e),
        ap (λ (z : Abandoned). z.trace) e,
      ),
      ap (λ (z : Abandoned). z.uses) e,
    ))
    (Decides-and (cause && t.front == s.front && traces) uses
    (Decides-and (cause && t.front == s.front) traces
    (Decides-and cause (t.front == s.front)
    (Decides-and (t.cause.seat == s.cause.seat) (t.cause.stamp == s.cause.stamp) (Decides-eqb t.cause.seat s.cause.seat)
    (Decides-eqb t.cause.stamp s.cause.stamp))
    (Decides-eqb t.front s.front)) (pointwise_decides event_is t.trace s.trace)) (pointwise_decides use_is t.uses s.uses))

entry_eq : (e x : Entry) → e.who ≡ x.who → e.call ≡ x.call → e.stamp ≡ x.stamp → e.floor ≡ x.floor → e.kept ≡ x.kept → e.trace ≡ x.trace
    → e.abandoned ≡ x.abandoned → e.uses ≡ x.uses → e.knew ≡ x.knew → e ≡ x
entry_eq e x a b c d k t s u w i = record {
  who = a i;
  call = b i;
  stamp = c i;
  floor = d i;
  kept = k i;
  trace = t i;
  abandoned = s i;
  uses = u i;
  knew = w i;
}

entry_is : (e x : Entry) → Decides (same_entry e x) (e ≡ x)
entry_is e x =
    let call = e.who == x.who && e.call == x.call in
    let numbers = call && e.stamp == x.stamp && e.floor == x.floor && flag e.kept == flag x.kept in
    let traces = pointwise same_event e.trace x.trace in
    let attempts = pointwise same_attempt e.abandoned x.abandoned in
    let uses = pointwise same_use e.uses x.uses in
    Decides-like (same_entry e x)
    (λ h. let n = h.0 in let l = h.1 in entry_eq e x n.0.0.0.0 n.0.0.0.1 n.0.0.1 n.0.1 n.1 l.0.0.0 l.0.0.1 l.0.1 l.1)
    (λ q. (
      (
        (((ap (λ (z : Entry). z.who) q, ap (λ (z : Entry). z.call) q), ap (λ (z : Entry). z.stamp) q), ap (λ (z : Entry). z.floor) q),
        ap (λ (z : Entry). z.kept) q,
      ),
      (
        ((ap (λ (z : Entry). z.trace) q, ap (λ (z : Entry). z.abandoned) q), ap (λ (z : Entry). z.uses) q),
        ap (λ (z : Entry). z.knew) q,
      ),
    ))
    (Decides-and numbers (traces && attempts && uses && bytes_eq e.knew x.knew)
    (Decides-and (call && e.stamp == x.stamp && e.floor == x.floor) (flag e.kept == flag x.kept)
    (Decides-and (call && e.stamp == x.stamp) (e.floor == x.floor)
    (Decides-and call (e.stamp == x.stamp)
    (Decides-and (e.who == x.who) (e.call == x.call) (Decides-eqb e.who x.who) (Decides-eqb e.call x.call))
    (Decides-eqb e.stamp x.stamp)) (Decides-eqb e.floor x.floor)) (flag_is e.kept x.kept))
    (Decides-and (traces && attempts && uses) (bytes_eq e.knew x.knew)
    (Decides-and (traces && attempts) uses
    (Decides-and traces attempts (pointwise_decides event_is e.trace x.trace) (pointwise_decides attempt_is e.abandoned x.abandoned))
    (pointwise_decides use_is e.uses x.uses)) (bytes_decides e.knew x.knew)))

pub entry_there : (x : Entry) (es : List Entry) → has_entry x es ≡ true → IsIn x es
unfolding has_entry
entry_there x [] t = absurd (cc)
entry_there x (e ∷ es) t = ⊎_elim
    (λ b. (zero, ap (λ (y : Entry). Some y) ((entry_is e x).0 b)))
    (λ s. let r = entry_there x es s in (suc r.0, r.1))
    (or_cases (same_entry e x) (has_entry x es) t)

pub there_entry : (x : Entry) (es : List Entry) → IsIn x es → has_entry x es ≡ true
unfolding has_entry
there_entry x [] t = absurd (none_in x t)
there_entry x (e ∷ es) t = ⊎_elim
    (λ same. or_left (same_entry e x) (has_entry x es) ((entry_is e x).1 same))
    (λ s. or_right (same_entry e x) (has_entry x es) (there_entry x es s))
    (in_join e es x t)

pub in_lacking : (es others : List Entry) (x : Entry) → IsIn x (lacking es others) → IsIn x others × (has_entry x es ≡ false)
unfolding lacking
in_lacking es [] x t = absurd (none_in x t)
in_lacking es (e ∷ others) x t = ⊎_elim
    (λ b. let rest = in_lacking es others x (subst (λ (c : Bool). IsIn x (if c then lacking es others else e ∷ lacking es others)) b t) in
    ((suc rest.0.0, rest.0.1), rest.1))
    (λ b. ⊎_elim
    (λ same. ((zero, ap (λ (y : Entry). Some y) same), subst (λ (y : Entry). has_entry y es ≡ false) same b))
    (λ s. let rest = in_lacking es others x s in ((suc rest.0.0, rest.0.1), rest.1))
    (in_join e (lacking es others) x (subst (λ (c : Bool). IsIn x (if c then lacking es others else e ∷ lacking es others)) b t)))
    (bool_cases (has_entry e es))

pub lacking_in : (es others : List Entry) (x : Entry) → IsIn x others → has_entry x es ≡ false → IsIn x (lacking es others)
unfolding lacking
lacking_in es [] x t f = absurd (none_in x t)
lacking_in es (e ∷ others) x t f = ⊎_elim
    (λ b. subst (λ (c : Bool). IsIn x (if c then lacking es others else e ∷ lacking es others)) (sym b) (⊎_elim
    (λ same. absurd (differ (has_entry x es) (subst (λ (y : Entry). has_entry y es ≡ true) same b) f))
    (λ s. lacking_in es others x s f) (in_join e others x t)))
    (λ b. subst (λ (c : Bool). IsIn x (if c then lacking es others else e ∷ lacking es others)) (sym b) (⊎_elim
    (λ same. (zero, ap (λ (y : Entry). Some y) same))
    (λ s. let r = lacking_in es others x s f in (suc r.0, r.1)) (in_join e others x t)))
    (bool_cases (has_entry e es))

pub gains_cases : (es others : List Entry) (x : Entry) → IsIn x (gains es others) → IsIn x es ⊎ IsIn x others
gains_cases es others x t = ⊎_elim inl (λ s. inr (in_lacking es others x s).0) (in_parts es (lacking es others) x t)

pub gains_first : (es others : List Entry) (x : Entry) → IsIn x es → IsIn x (gains es others)
gains_first es others x t = in_first es (lacking es others) x t

pub gains_second : (es others : List Entry) (x : Entry) → IsIn x others → IsIn x (gains es others)
gains_second es others x t = ⊎_elim
    (λ b. gains_first es others x (entry_there x es b))
    (λ b. in_second es (lacking es others) x (lacking_in es others x t b))
    (bool_cases (has_entry x es))

-- no entry twice
apart_tail : (x : Entry) (xs : List Entry) → IsApart (x ∷ xs) → IsApart xs
apart_tail x xs a p q y e f = let s : suc p ≡ suc q = a (suc p) (suc q) y e f in omega arith

apart_head : (x : Entry) (xs : List Entry) → IsApart (x ∷ xs) → IsIn x xs → ⊥
apart_head x xs a t = let s : zero ≡ suc t.0 = a zero (suc t.0) x refl t.1 in absurd (omega arith)

same_some : (x y : Entry) → Some x ≡ Some y → x ≡ y
same_some x y e = cc

apart_join : (x : Entry) (xs : List Entry) → (IsIn x xs → ⊥) → IsApart xs → IsApart (x ∷ xs)
apart_join x xs away a zero zero y e f = refl
apart_join x xs away a zero (suc q) y e f = absurd (away (q, f ∙ ap (λ (z : Entry). Some z) (sym (same_some x y e))))
apart_join x xs away a (suc p) zero y e f = absurd (away (p, e ∙ ap (λ (z : Entry). Some z) (sym (same_some x y f))))
apart_join x xs away a (suc p) (suc q) y e f = ap suc (a p q y e f)

apart_append : (xs ys : List Entry) → IsApart xs → IsApart ys → ((z : Entry) → IsIn z xs → IsIn z ys → ⊥) → IsApart (xs ++ ys)
apart_append [] ys a b away = b
apart_append (x ∷ xs) ys a b away = apart_join x (xs ++ ys)
    (λ t. ⊎_elim (apart_head x xs a) (away x (zero, refl)) (in_parts xs ys x t))
    (apart_append xs ys (apart_tail x xs a) b (λ z s t. away z (suc s.0, s.1) t))

lacking_apart : (es others : List Entry) → IsApart others → IsApart (lacking es others)
unfolding lacking
lacking_apart es [] a = a
lacking_apart es (e ∷ others) a = ⊎_elim
    (λ b. subst (λ (c : Bool). IsApart (if c then lacking es others else e ∷ lacking es others)) (sym b) (lacking_apart es others (apart_tail e others a)))
    (λ b. subst (λ (c : Bool). IsApart (if c then lacking es others else e ∷ lacking es others)) (sym b)
    (apart_join e (lacking es others) (λ t. apart_head e others a (in_lacking es others e t).0) (lacking_apart es others (apart_tail e others a))))
    (bool_cases (has_entry e es))

pub gains_apart : (es others : List Entry) → IsApart es → IsApart others → IsApart (gains es others)
gains_apart es others a b = apart_append es (lacking es others) a (lacking_apart es others b)
    (λ z s t. differ (has_entry z es) (there_entry z es s) (in_lacking es others z t).1)

-- entries of others leave a seat's last call
last_none : (j : ℕ) (ys : List Entry) → ((y : Entry) → IsIn y ys → y.who ≢ j) → last_call j ys ≡ 0
unfolding last_call
last_none j [] away = refl
last_none j (y ∷ ys) away = rw (ne_eqb y.who j (away y (zero, refl))) (last_none j ys (λ z t. away z (suc t.0, t.1)))

pub last_append : (j : ℕ) (xs ys : List Entry) → ((y : Entry) → IsIn y ys → y.who ≢ j) → last_call j (xs ++ ys) ≡ last_call j xs
unfolding last_call
last_append j [] ys away = last_none j ys away
last_append j (x ∷ xs) ys away = dite (ℕ_discrete x.who j)
    (λ q. rw (eq-eqb x.who j q, last_append j xs ys away) refl)
    (λ n. rw (ne_eqb x.who j n) (last_append j xs ys away))
