-- The entries of the map, in the order of their keys: the tree's cells from left to right.
use Rattle.txn_tree_map.proofs.Common.{◌≡◌, ◌≢◌, ℕ, ◌<◌, ◌≤◌, Bool, true, false, nat_lt, List, [], ◌∷◌, refl, sym, ap, ◌∙◌, subst, arith, rules, dite}
use Rattle.txn_tree_map.proofs.Common.{ℕ_discrete, nat_cmp_total, nat_cmp, Cell, Entries, Blocks, value_of, TreeMap, cells_of, IsAbove, IsRising, TreeHolds}
use Rattle.std.proofs.Common.{T}
use Rattle.std.specs.Cmp.{nat_cmp_is}
use Rattle.std.specs.Ordering.{is_lt, is_eq, eq_by_cmp}
use Rattle.std.specs.declared.cmp.Ordering.TheVariants.{Less, Equal, Greater}
use Rattle.std.specs.FinMap.{nat_cmp-IsAntisymmetric}
use Rattle.std.specs.FinMap.Entries.{is_sorted, below_all, find}
use Rattle.std.specs.FinMap as entry_map

-- the keys and values of cells
abbrev pub pairs_of : List Cell → List (ℕ × ℕ)
pairs_of [] = []
pairs_of (c ∷ cs) = (c.key, c.value) ∷ pairs_of cs

pub lower : (x y : ℕ) → x < y → is_lt (nat_cmp x y) ≡ true
lower x y lt = ap is_lt (sym (nat_cmp_is x y Less lt))

pub tied : (x y : ℕ) → x ≡ y → eq_by_cmp nat_cmp x y ≡ true
tied x y e = ap is_eq (sym (nat_cmp_is x y Equal e))

pub untied : (x y : ℕ) → x ≢ y → eq_by_cmp nat_cmp x y ≡ false
untied x y ne = at (nat_lt x y) refl
  where
    at : (b : Bool) → nat_lt x y ≡ b → eq_by_cmp nat_cmp x y ≡ false
    at true e = ap is_eq (sym (nat_cmp_is x y Less (grind (arith, rules, e))))
    at false e = ap is_eq (sym (nat_cmp_is x y Greater (let le : y ≤ x = grind (arith, rules, e) in omega arith)))

below_pairs : (k : ℕ) (cs : List Cell) → IsAbove k cs → below_all nat_cmp k (pairs_of cs) ≡ true
below_pairs k [] h = refl
below_pairs k (c ∷ cs) h = grind (rules, lower k c.key h.0, below_pairs k cs h.1)

sorted_pairs : (cs : List Cell) → IsRising cs → is_sorted nat_cmp (pairs_of cs) ≡ true
sorted_pairs [] h = refl
sorted_pairs (c ∷ cs) h = grind (rules, below_pairs c.key cs h.0, sorted_pairs cs h.1)

find_pairs : (key : ℕ) (cs : List Cell) → find nat_cmp key (pairs_of cs) ≡ value_of key cs
find_pairs key [] = refl
find_pairs key (c ∷ cs) = dite (ℕ_discrete c.key key)
    (λ e. grind (rules, tied key c.key (sym e), e))
    (λ ne. grind (rules, untied key c.key (λ e. ne (sym e)), ne, find_pairs key cs))

pub entries_cells : {map : TreeMap} {s : List ℕ} {f : Entries} {u : Blocks} (h : TreeHolds map s f u) → entry_map.entries f ≡ pairs_of (cells_of h.tree)
entries_cells {f} h =
    let cs : List Cell = cells_of h.tree in
    let sorted : T (is_sorted nat_cmp (pairs_of cs)) = subst T (sym (sorted_pairs cs h.search)) tt in
    let g : Entries = entry_map.from_sorted (pairs_of cs) in
    let same_map : f ≡ g = entry_map.same_map nat_cmp_total nat_cmp-IsAntisymmetric f g (λ q. h.entries_are q
    ∙ sym (find_pairs q cs) ∙ sym (entry_map.get-from_sorted nat_cmp (pairs_of cs) q sorted)) in
    ap entry_map.entries same_map ∙ entry_map.entries-from_sorted nat_cmp (pairs_of cs) sorted
