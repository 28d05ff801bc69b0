-- Lists of cells: what they say of a key, which blocks they have, and how often.
use Rattle.txn_alloc.proofs.Common.{◌≡◌, ◌≢◌, ℕ, ◌+◌, ◌≤◌, true, false, List, [], ◌∷◌, ◌++◌, Some, None, refl, sym, ap, ◌∙◌, arith, rules, ◌==◌, true≢false}
use Rattle.txn_alloc.proofs.Common.{dite, ℕ_discrete, AllByRecursion, Cell, Entries, value_of, has_block}
use Rattle.std.proofs.Common.{if◌then◌else◌}
use Rattle.std.specs.FinMap.{gets}
use Rattle.std.specs.FinMap as entry_map

-- what holds of each cell of two lists holds of each of both, and the other way round
pub all_append : (P : Cell → Type 0) (xs ys : List Cell) → AllByRecursion P xs → AllByRecursion P ys → AllByRecursion P (xs ++ ys)
all_append P [] ys h k = k
all_append P (x ∷ xs) ys h k = (h.0, all_append P xs ys h.1 k)

pub all_first : (P : Cell → Type 0) (xs ys : List Cell) → AllByRecursion P (xs ++ ys) → AllByRecursion P xs
all_first P [] ys h = tt
all_first P (x ∷ xs) ys h = (h.0, all_first P xs ys h.1)

pub all_last : (P : Cell → Type 0) (xs ys : List Cell) → AllByRecursion P (xs ++ ys) → AllByRecursion P ys
all_last P [] ys h = h
all_last P (x ∷ xs) ys h = all_last P xs ys h.1

pub all_map : (P Q : Cell → Type 0) (xs : List Cell) → ((c : Cell) → P c → Q c) → AllByRecursion P xs → AllByRecursion Q xs
all_map P Q [] step h = tt
all_map P Q (x ∷ xs) step h = (step x h.0, all_map P Q xs step h.1)

-- what cells say of a key
pub value_first : (key : ℕ) (c : Cell) (cs : List Cell) → c.key ≡ key → value_of key (c ∷ cs) ≡ Some c.value
value_first key c cs e = grind (rules)

pub value_later : (key : ℕ) (c : Cell) (cs : List Cell) → c.key ≢ key → value_of key (c ∷ cs) ≡ value_of key cs
value_later key c cs e = grind (rules)

pub value_past : (key : ℕ) (front rest : List Cell) → value_of key front ≡ None → value_of key (front ++ rest) ≡ value_of key rest
value_past key [] rest h = refl
value_past key (c ∷ front) rest h = grind (rules, value_past key front rest)

-- a key that no cell has
pub value_none : (key : ℕ) (cs : List Cell) → AllByRecursion (λ c. c.key ≢ key) cs → value_of key cs ≡ None
value_none key [] h = refl
value_none key (c ∷ cs) h = value_later key c cs h.0 ∙ value_none key cs h.1

-- a cell with another key says nothing
pub value_less : (k : ℕ) (front rest : List Cell) (c : Cell) → c.key ≢ k → value_of k (front ++ rest) ≡ value_of k (front ++ c ∷ rest)
value_less k [] rest c ne = sym (value_later k c rest ne)
value_less k (d ∷ front) rest c ne = dite (ℕ_discrete d.key k)
    (λ e. value_first k d (front ++ rest) e ∙ sym (value_first k d (front ++ c ∷ rest) e))
    (λ e. value_later k d (front ++ rest) e ∙ value_less k front rest c ne ∙ sym (value_later k d (front ++ c ∷ rest) e))

-- the blocks of cells
pub has_first : (c : Cell) (cs : List Cell) → has_block c.block (c ∷ cs) ≡ true
has_first c cs = grind rules

pub has_later : (b : ℕ) (c : Cell) (cs : List Cell) → has_block b cs ≡ true → has_block b (c ∷ cs) ≡ true
has_later b c cs h = dite (ℕ_discrete c.block b) (λ e. grind (rules, e)) (λ e. grind (rules, h))

pub first_block : (d : ℕ) (c : Cell) (cs : List Cell) → c.block ≡ d → has_block d (c ∷ cs) ≡ true
first_block d c cs e = grind rules

pub later_block : (d : ℕ) (c : Cell) (cs : List Cell) → c.block ≢ d → has_block d (c ∷ cs) ≡ has_block d cs
later_block d c cs ne = grind rules

pub has_middle : (b : ℕ) (front rest : List Cell) (c : Cell) → c.block ≡ b → has_block b (front ++ c ∷ rest) ≡ true
has_middle b [] rest c e = ap (λ d. has_block d (c ∷ rest)) (sym e) ∙ has_first c rest
has_middle b (d ∷ front) rest c e = has_later b d (front ++ c ∷ rest) (has_middle b front rest c e)

pub less_block : (d : ℕ) (front rest : List Cell) (c : Cell) → c.block ≢ d → has_block d (front ++ rest) ≡ has_block d (front ++ c ∷ rest)
less_block d [] rest c ne = sym (later_block d c rest ne)
less_block d (e ∷ front) rest c ne = dite (ℕ_discrete e.block d)
    (λ k. first_block d e (front ++ rest) k ∙ sym (first_block d e (front ++ c ∷ rest) k))
    (λ k. later_block d e (front ++ rest) k ∙ less_block d front rest c ne ∙ sym (later_block d e (front ++ c ∷ rest) k))

-- 1 if the cell is in block b
abbrev pub one_in : ℕ → Cell → ℕ
one_in b c = if c.block == b then 1 else 0

pub one_here : (b : ℕ) (c : Cell) → c.block ≡ b → one_in b c ≡ 1
one_here b c e = grind rules

pub one_there : (b : ℕ) (c : Cell) → c.block ≢ b → one_in b c ≡ 0
one_there b c ne = grind rules

-- how many of the cells are in block b
abbrev pub times_in : ℕ → List Cell → ℕ
times_in b [] = 0
times_in b (c ∷ cs) = one_in b c + times_in b cs

pub times-append : (b : ℕ) (xs ys : List Cell) → times_in b (xs ++ ys) ≡ times_in b xs + times_in b ys
times-append b [] ys = omega arith
times-append b (x ∷ xs) ys = omega (arith, times-append b xs ys)

pub has_times : (b : ℕ) (cs : List Cell) → has_block b cs ≡ true → 1 ≤ times_in b cs
has_times b [] h = absurd (true≢false (sym h))
has_times b (c ∷ cs) h = dite (ℕ_discrete c.block b)
    (λ e. omega (arith, one_here b c e))
    (λ e. let rest : 1 ≤ times_in b cs = has_times b cs (sym (later_block b c cs e) ∙ h) in omega arith)

pub times_has : (b : ℕ) (cs : List Cell) → 1 ≤ times_in b cs → has_block b cs ≡ true
times_has b [] h = absurd (omega arith)
times_has b (c ∷ cs) h = dite (ℕ_discrete c.block b)
    (first_block b c cs)
    (λ e. later_block b c cs e ∙ times_has b cs (omega (arith, one_there b c e)))

pub has_not : (b : ℕ) (cs : List Cell) → times_in b cs ≡ 0 → has_block b cs ≡ false
has_not b [] h = refl
has_not b (c ∷ cs) h = dite (ℕ_discrete c.block b)
    (λ e. absurd (omega (arith, one_here b c e)))
    (λ e. later_block b c cs e ∙ has_not b cs (omega arith))

-- the entries at a key that comes and goes
pub insert_same : (f : Entries) (key x : ℕ) → entry_map.get (entry_map.insert f key x) key ≡ Some x
insert_same f key x = grind (gets, rules)

pub insert_other : (f : Entries) (key x k : ℕ) → k ≢ key → entry_map.get (entry_map.insert f key x) k ≡ entry_map.get f k
insert_other f key x k ne = grind (gets, rules)

pub remove_same : (f : Entries) (key : ℕ) → entry_map.get (entry_map.remove f key) key ≡ None
remove_same f key = grind (gets, rules)

pub remove_other : (f : Entries) (key k : ℕ) → k ≢ key → entry_map.get (entry_map.remove f key) k ≡ entry_map.get f k
remove_other f key k ne = grind (gets, rules)
