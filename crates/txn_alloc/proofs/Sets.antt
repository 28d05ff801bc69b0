-- The set of a list's blocks.
use Rattle.txn_alloc.proofs.Common.{◌≡◌, ◌≢◌, ℕ, true, false, List, [], ◌∷◌, ◌⊎◌, nat_eq, refl, sym, ◌∙◌, rules, IsDistinct, AllByRecursion, list_any, nat_cmp}
use Rattle.txn_alloc.proofs.Common.{IsDistinct-cons}
use Rattle.std.specs.FinSet.{members, contains-from_list_nat}
use Rattle.std.proofs.lemmas.Map.Keys.{IsDistinct-head}
use Rattle.std.specs.FinSet as set

abbrev pub Blocks : Type 0
Blocks = set.FinSet nat_cmp

-- a block more is in the set
pub in_here : (free : Blocks) (b : ℕ) → set.contains (set.insert free b) b ≡ true
in_here free b = grind (members, rules)

pub in_there : (free : Blocks) (b c : ℕ) → set.contains free c ≡ true → set.contains (set.insert free b) c ≡ true
in_there free b c h = grind (members, rules)

-- and so are no others
pub in_or : (free : Blocks) (b c : ℕ) → set.contains (set.insert free b) c ≡ true → (c ≡ b) ⊎ (set.contains free c ≡ true)
in_or free b c h = grind (members, rules)

pub out_both : (free : Blocks) (b c : ℕ) → c ≢ b → set.contains free c ≡ false → set.contains (set.insert free b) c ≡ false
out_both free b c n h = grind (members, rules)

pub out_less : (free : Blocks) (b c : ℕ) → set.contains free c ≡ false → set.contains (set.remove free b) c ≡ false
out_less free b c h = grind (members, rules)

pub out_itself : (free : Blocks) (b : ℕ) → set.contains (set.remove free b) b ≡ false
out_itself free b = grind (members, rules)

pub out_empty : (b : ℕ) → set.contains (set.empty {R = nat_cmp}) b ≡ false
out_empty b = grind (members, rules)

-- of the other blocks nothing changes
pub contains-insert_other : (free : Blocks) (b c : ℕ) → c ≢ b → set.contains (set.insert free b) c ≡ set.contains free c
contains-insert_other free b c n = grind (members, rules)

pub contains-remove_other : (free : Blocks) (b c : ℕ) → c ≢ b → set.contains (set.remove free b) c ≡ set.contains free c
contains-remove_other free b c n = grind (members, rules)

-- none of a list that is no block of it
not_any : (b : ℕ) (bs : List ℕ) → AllByRecursion (λ y. nat_eq b y ≡ false) bs → list_any (λ y. nat_eq y b) bs ≡ false
not_any b [] h = refl
not_any b (c ∷ bs) h = grind (rules, not_any b bs h.1, h.0)

-- the first of a list of different blocks is none of the others
pub out_rest : (b : ℕ) (bs : List ℕ) → IsDistinct nat_eq (b ∷ bs) → set.contains (set.from_list {R = nat_cmp} bs) b ≡ false
out_rest b bs h = contains-from_list_nat bs b ∙ not_any b bs (IsDistinct-head nat_eq b bs h)

all_differ : (b : ℕ) (bs : List ℕ) → list_any (λ y. nat_eq y b) bs ≡ false → AllByRecursion (λ y. nat_eq b y ≡ false) bs
all_differ b [] h = tt
all_differ b (c ∷ bs) h = (grind (rules, h), all_differ b bs (grind (rules, h)))

pub distinct_more : (b : ℕ) (bs : List ℕ) → set.contains (set.from_list {R = nat_cmp} bs) b ≡ false → IsDistinct nat_eq bs → IsDistinct nat_eq (b ∷ bs)
distinct_more b bs out h = IsDistinct-cons nat_eq b bs (all_differ b bs (sym (contains-from_list_nat bs b) ∙ out)) h
