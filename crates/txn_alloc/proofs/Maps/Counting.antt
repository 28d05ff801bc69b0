-- How many blocks sets have.
use Rattle.txn_alloc.proofs.Common.{◌≡◌, ◌≢◌, ℕ, zero, suc, ◌+◌, ◌-◌, ◌*◌, ◌<◌, ◌≤◌, Bool, true, false, List, [], ◌∷◌, Some, None, length, slice_get, cond}
use Rattle.txn_alloc.proofs.Common.{refl, sym, ap, ◌∙◌, subst, arith, rules, true≢false, dite, ℕ_discrete, nat_cmp, nat_cmp_total, nat_cmp-IsAntisymmetric}
use Rattle.txn_alloc.proofs.Common.{AllByRecursion, list_any, IsDistinct-cons, same_Some, Arena, block_at, Cell, Entries, value_of, has_block}
use Rattle.std.proofs.Common.{is_some, eqb}
use Rattle.std.specs.List.{sum_by, count_by, IsDistinct}
use Rattle.std.proofs.lemmas.List.Sums.{sum_by-cons}
use Rattle.std.proofs.lemmas.Map.Steps.{length-le_from_distinct_below}
use Rattle.txn_alloc.specs.EntryMaps.{HasKeysOnce}
use Rattle.txn_alloc.proofs.Maps.Cells.{value_first, value_later, has_first, later_block, has_not, times_in, one_here, one_there, remove_same, remove_other}
use Rattle.txn_alloc.proofs.Sets.{Blocks, out_empty, out_itself, contains-remove_other}
use Rattle.std.specs.FinSet as set
use Rattle.std.specs.FinMap as entry_map

-- 1 if the set has the block
abbrev pub times_of : Blocks → ℕ → ℕ
times_of s b = cond (set.contains s b) 1 0

-- the sum of a function over the numbers below one
abbrev pub sum_below : ℕ → (ℕ → ℕ) → ℕ
sum_below zero f = 0
sum_below (suc n) f = sum_below n f + f n

sum_alike : (n : ℕ) (f g : ℕ → ℕ) → ((k : ℕ) → k < n → f k ≡ g k) → sum_below n f ≡ sum_below n g
sum_alike zero f g same = refl
sum_alike (suc n) f g same =
    let rest : sum_below n f ≡ sum_below n g = sum_alike n f g (λ k lt. same k (omega arith)) in
    let last : f n ≡ g n = same n (omega arith) in
    omega arith

sum_const : (n c : ℕ) → sum_below n (λ k. c) ≡ n * c
sum_const zero c = omega arith
sum_const (suc n) c = let rest : sum_below n (λ k. c) ≡ n * c = sum_const n c in grind (arith, rest)

sum_both : (n : ℕ) (f g : ℕ → ℕ) → sum_below n (λ k. f k + g k) ≡ sum_below n f + sum_below n g
sum_both zero f g = refl
sum_both (suc n) f g = omega (arith, sum_both n f g)

-- a set with a member is not empty
pub some_member : (s : Blocks) (b : ℕ) → set.contains s b ≡ true → 1 ≤ set.len s
some_member s b h = at (set.len s) refl
  where
    at : (m : ℕ) → set.len s ≡ m → 1 ≤ set.len s
    at zero e = absurd (true≢false (sym h ∙ ap (λ z. set.contains z b) (set.empty_of_len s e) ∙ out_empty b))
    at (suc m) e = omega arith

-- without its greatest member that may be
less_outside : (n : ℕ) (s : Blocks) → ((b : ℕ) → suc n ≤ b → set.contains s b ≡ false) → (b : ℕ) → n ≤ b → set.contains (set.remove s n) b ≡ false
less_outside n s none b le = dite (ℕ_discrete b n)
    (λ e. ap (set.contains (set.remove s n)) e ∙ out_itself s n)
    (λ ne. contains-remove_other s n b ne ∙ none b (omega arith))

one_more : (n : ℕ) (s : Blocks) → ((b : ℕ) → suc n ≤ b → set.contains s b ≡ false)
    → sum_below n (times_of (set.remove s n)) ≡ set.len (set.remove s n) → sum_below (suc n) (times_of s) ≡ set.len s
one_more n s none below = at (set.contains s n) refl
  where
    rest : Blocks
    rest = set.remove s n

    alike : sum_below n (times_of s) ≡ sum_below n (times_of rest)
    alike = sum_alike n (times_of s) (times_of rest) (λ k lt. ap (λ b. cond b 1 0) (sym (contains-remove_other s n k (λ e. omega arith))))

    at : (m : Bool) → set.contains s n ≡ m → sum_below n (times_of s) + times_of s n ≡ set.len s
    at true e =
        let less : set.len rest ≡ set.len s - 1 = set.len-remove nat_cmp_total s n ∙ ap (λ b. cond b (set.len s - 1) (set.len s)) e in
        let one : times_of s n ≡ 1 = ap (λ b. cond b 1 0) e in
        let same : sum_below n (times_of s) ≡ set.len rest = alike ∙ below in
        omega (arith, some_member s n e)
    at false e =
        let less : set.len rest ≡ set.len s = set.len-remove nat_cmp_total s n ∙ ap (λ b. cond b (set.len s - 1) (set.len s)) e in
        let none_here : times_of s n ≡ 0 = ap (λ b. cond b 1 0) e in
        let same : sum_below n (times_of s) ≡ set.len rest = alike ∙ below in
        omega arith

-- a set whose members are below a number has as many as the numbers below that it has
pub len_below : (n : ℕ) (s : Blocks) → ((b : ℕ) → n ≤ b → set.contains s b ≡ false) → sum_below n (times_of s) ≡ set.len s
len_below zero s none =
    let same : s ≡ set.empty = set.same_set nat_cmp_total nat_cmp-IsAntisymmetric s set.empty (λ q. none q (omega arith) ∙ sym (out_empty q)) in
    sym (ap set.len same ∙ set.len-empty nat_cmp)
len_below (suc n) s none = one_more n s none (len_below n (set.remove s n) (less_outside n s none))

-- sums of sums, the one way and the other
sums_swap : (n : ℕ) (sets : List Blocks) → sum_below n (λ b. count_by (λ s. set.contains s b) sets) ≡ sum_by (λ s. sum_below n (times_of s)) sets
sums_swap n [] = omega (arith, sum_const n 0)
sums_swap n (s ∷ sets) =
    let parts : sum_below n (λ b. count_by (λ u. set.contains u b) (s ∷ sets)) ≡ sum_below n (λ b. times_of s b + count_by (λ u. set.contains u b) sets) =
    sum_alike n (λ b. count_by (λ u. set.contains u b) (s ∷ sets)) (λ b. times_of s b + count_by (λ u. set.contains u b)
    sets) (λ k lt. sum_by-cons (λ u. times_of u k) s sets) in
    parts ∙ sum_both n (times_of s) (λ b. count_by (λ u. set.contains u b) sets) ∙ ap (λ k. sum_below n (times_of s) + k) (sums_swap n sets)
    ∙ sym (sum_by-cons (λ u. sum_below n (times_of u)) s sets)

-- a set of which no block is counted has none
out_of_count : (b : ℕ) (s : Blocks) (sets : List Blocks) → count_by (λ u. set.contains u b) (s ∷ sets) ≡ 0
    → (set.contains s b ≡ false) × (count_by (λ u. set.contains u b) sets ≡ 0)
out_of_count b s sets h = at (set.contains s b) refl
  where
    parts : count_by (λ u. set.contains u b) (s ∷ sets) ≡ times_of s b + count_by (λ u. set.contains u b) sets
    parts = sum_by-cons (λ u. times_of u b) s sets

    at : (m : Bool) → set.contains s b ≡ m → (set.contains s b ≡ false) × (count_by (λ u. set.contains u b) sets ≡ 0)
    at true e = let one : times_of s b ≡ 1 = ap (λ k. cond k 1 0) e in absurd (omega (arith, one, parts, h))
    at false e = (e, omega (arith, parts, h))

lengths_below : (n : ℕ) (sets : List Blocks) → ((b : ℕ) → n ≤ b → count_by (λ s. set.contains s b) sets ≡ 0)
    → sum_by (λ s. sum_below n (times_of s)) sets ≡ sum_by set.len sets
lengths_below n [] none = refl
lengths_below n (s ∷ sets) none =
    sum_by-cons (λ u. sum_below n (times_of u)) s sets
    ∙ ap (λ k. k + sum_by (λ u. sum_below n (times_of u)) sets) (len_below n s (λ b le. (out_of_count b s sets (none b le)).0))
    ∙ ap (λ k. set.len s + k) (lengths_below n sets (λ b le. (out_of_count b s sets (none b le)).1))
    ∙ sym (sum_by-cons set.len s sets)

-- sets that share no block and together have all blocks below a number have that many
pub lengths_sum : (n : ℕ) (sets : List Blocks) → ((b : ℕ) → b < n → count_by (λ s. set.contains s b) sets ≡ 1)
    → ((b : ℕ) → n ≤ b → count_by (λ s. set.contains s b) sets ≡ 0)
    → sum_by (λ s. set.len s) sets ≡ n
lengths_sum n sets one none =
    let ones : sum_below n (λ b. count_by (λ s. set.contains s b) sets) ≡ sum_below n (λ b. 1) =
    sum_alike n (λ b. count_by (λ s. set.contains s b) sets) (λ b. 1) one in
    sym (lengths_below n sets none) ∙ sym (sums_swap n sets) ∙ ones ∙ sum_const n 1 ∙ omega arith

-- entries that have what cells say of each key, and each key in one cell alone, are as many as the cells
some_entry : (f : Entries) (k v : ℕ) → entry_map.get f k ≡ Some v → 1 ≤ entry_map.len f
some_entry f k v h = at (entry_map.len f) refl
  where
    at : (m : ℕ) → entry_map.len f ≡ m → 1 ≤ entry_map.len f
    at zero e = let none : entry_map.get f k ≡ None = ap (λ z. entry_map.get z k) (entry_map.empty_of_len f e) ∙ entry_map.get-empty nat_cmp k in absurd (cc)
    at (suc m) e = omega arith

pub len_cells : (cs : List Cell) (f : Entries) → ((key : ℕ) → entry_map.get f key ≡ value_of key cs) → HasKeysOnce cs → entry_map.len f ≡ length cs
len_cells [] f is once =
    ap entry_map.len (entry_map.same_map nat_cmp_total nat_cmp-IsAntisymmetric f entry_map.empty (λ q. is q
    ∙ sym (entry_map.get-empty nat_cmp q))) ∙ entry_map.len-empty nat_cmp ℕ
len_cells (c ∷ cs) f is once =
    let there : entry_map.get f c.key ≡ Some c.value = is c.key ∙ value_first c.key c cs refl in
    let rest : entry_map.len (entry_map.remove f c.key) ≡ length cs = len_cells cs (entry_map.remove f c.key)
    (λ k. dite (ℕ_discrete k c.key)
    (λ e. ap (entry_map.get (entry_map.remove f c.key)) e ∙ remove_same f c.key ∙ sym once.0 ∙ ap (λ z. value_of z cs) (sym e))
    (λ ne. remove_other f c.key k ne ∙ is k ∙ value_later k c cs (λ e. ne (sym e)))) once.1 in
    let less : entry_map.len (entry_map.remove f c.key) ≡ entry_map.len f - 1 =
    entry_map.len-remove nat_cmp_total f c.key ∙ ap (λ o. cond (is_some o) (entry_map.len f - 1) (entry_map.len f)) there in
    omega (arith, some_entry f c.key c.value there)

-- and so is a set of the blocks of cells that each have a block of their own
pub len_blocks : (cs : List Cell) (u : Blocks) → ((b : ℕ) → set.contains u b ≡ has_block b cs) → ((b : ℕ) → times_in b cs ≤ 1) → set.len u ≡ length cs
len_blocks [] u is once =
    let same : u ≡ set.empty = set.same_set nat_cmp_total nat_cmp-IsAntisymmetric u set.empty (λ q. is q ∙ sym (out_empty q)) in
    ap set.len same ∙ set.len-empty nat_cmp
len_blocks (c ∷ cs) u is once =
    let there : set.contains u c.block ≡ true = is c.block ∙ has_first c cs in
    let none : times_in c.block cs ≡ 0 = omega (arith, one_here c.block c refl, once c.block) in
    let rest : set.len (set.remove u c.block) ≡ length cs = len_blocks cs (set.remove u c.block)
    (λ b. dite (ℕ_discrete b c.block)
    (λ e. ap (set.contains (set.remove u c.block)) e ∙ out_itself u c.block ∙ sym (has_not c.block cs none) ∙ ap (λ z. has_block z cs) (sym e))
    (λ ne. contains-remove_other u c.block b ne ∙ is b ∙ later_block b c cs (λ e. ne (sym e))))
    (λ b. omega (arith, once b)) in
    let less : set.len (set.remove u c.block) ≡ set.len u - 1 = set.len-remove nat_cmp_total u c.block ∙ ap (λ z. cond z (set.len u - 1) (set.len u)) there in
    omega (arith, some_member u c.block there)

-- cells whose blocks have their keys, each key once, have each a block of its own
abbrev pub AreKeyed : Arena → List ℕ → List Cell → Type 0
AreKeyed arena s cs = AllByRecursion (λ c. slice_get s (block_at arena c.block) ≡ Some c.key) cs

none_keyed : (arena : Arena) (s : List ℕ) (b k : ℕ) (cs : List Cell) → slice_get s (block_at arena b) ≡ Some k
    → AreKeyed arena s cs → value_of k cs ≡ None → times_in b cs ≡ 0
none_keyed arena s b k [] e keys none = refl
none_keyed arena s b k (c ∷ cs) e keys none =
    let other_key : c.key ≢ k = λ same. absurd (cc (value_first k c cs same)) in
    let other : c.block ≢ b = λ same. other_key (same_Some c.key k (sym keys.0 ∙ ap (λ d. slice_get s (block_at arena d)) same ∙ e)) in
    let rest : times_in b cs ≡ 0 = none_keyed arena s b k cs e keys.1 (sym (value_later k c cs other_key) ∙ none) in
    omega (arith, one_there b c other)

pub keyed_once : (arena : Arena) (s : List ℕ) (b : ℕ) (cs : List Cell) → AreKeyed arena s cs → HasKeysOnce cs → times_in b cs ≤ 1
keyed_once arena s b [] keys once = omega arith
keyed_once arena s b (c ∷ cs) keys once = dite (ℕ_discrete c.block b)
    (λ same.
    let rest : times_in b cs ≡ 0 = none_keyed arena s b c.key cs (ap (λ d. slice_get s (block_at arena d)) (sym same) ∙ keys.0) keys.1 once.0 in
    omega (arith, one_here b c same))
    (λ other.
    omega (arith, one_there b c other, keyed_once arena s b cs keys.1 once.1))

-- a block that stands among cells is one of theirs
pub times_all : (P : ℕ → Type 0) (b : ℕ) (cs : List Cell) → AllByRecursion (λ c. P c.block) cs → 1 ≤ times_in b cs → P b
times_all P b [] all h = absurd (omega arith)
times_all P b (c ∷ cs) all h = dite (ℕ_discrete c.block b)
    (λ same. subst P same all.0)
    (λ other. times_all P b cs all.1 (omega (arith, one_there b c other)))

-- the numbers of the blocks of cells
numbers_of : List Cell → List ℕ
numbers_of [] = []
numbers_of (c ∷ cs) = c.block ∷ numbers_of cs

all_differ : (b : ℕ) (cs : List Cell) → times_in b cs ≡ 0 → AllByRecursion (λ y. eqb b y ≡ false) (numbers_of cs)
unfolding numbers_of
all_differ b [] h = tt
all_differ b (c ∷ cs) h = dite (ℕ_discrete c.block b)
    (λ same. absurd (omega (arith, one_here b c same)))
    (λ other. (grind (rules, other), all_differ b cs (omega (arith, one_there b c other))))

numbers_differ : (cs : List Cell) → ((b : ℕ) → times_in b cs ≤ 1) → IsDistinct eqb (numbers_of cs)
unfolding numbers_of IsDistinct
numbers_differ [] once = tt
numbers_differ (c ∷ cs) once =
    let none : times_in c.block cs ≡ 0 = omega (arith, one_here c.block c refl, once c.block) in
    IsDistinct-cons eqb c.block (numbers_of cs) (all_differ c.block cs none)
    (numbers_differ cs (λ b. omega (arith, once b)))

any_number : (b : ℕ) (cs : List Cell) → list_any (eqb b) (numbers_of cs) ≡ true → 1 ≤ times_in b cs
unfolding numbers_of
any_number b [] h = cc
any_number b (c ∷ cs) h = dite (ℕ_discrete c.block b)
    (λ same. omega (arith, one_here b c same))
    (λ other. let rest : 1 ≤ times_in b cs = any_number b cs (grind (rules, other, h)) in omega arith)

length-numbers_of : (cs : List Cell) → length (numbers_of cs) ≡ length cs
unfolding numbers_of
length-numbers_of [] = refl
length-numbers_of (c ∷ cs) = ap suc (length-numbers_of cs)

-- so cells that each have a block of their own, all below a number, are no more than that
pub length_below : (n : ℕ) (cs : List Cell) → ((b : ℕ) → times_in b cs ≤ 1) → AllByRecursion (λ c. c.block < n) cs → length cs ≤ n
length_below n cs once below =
    let short : length (numbers_of cs) ≤ n =
    length-le_from_distinct_below (numbers_of cs) n (numbers_differ cs once) (λ q m. times_all (λ d. d < n) q cs below (any_number q cs m)) in
    omega (arith, length-numbers_of cs)
