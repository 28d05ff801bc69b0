-- How many entries trees have that hold records.
use Rattle.txn_records.proofs.Common.{◌≡◌, ℕ, suc, ◌+◌, ◌/◌, ◌%◌, ◌<◌, List, [], ◌∷◌, length, Some, None, refl, sym, ap, ◌∙◌, subst, arith, rules, dite}
use Rattle.txn_records.proofs.Common.{ℕ_discrete, nat_cmp_total, nat_cmp, nat_cmp-IsAntisymmetric, len-entries, get-entries, len_after_insert, Records}
use Rattle.txn_records.proofs.Common.{data_at_rank, Entries, tied, removed_here, removed_there, inserted_here, inserted_there, RANK_STEP, index_key_of, Trees}
use Rattle.txn_records.proofs.Common.{HoldRecords, RecordsAreInRange, rank_in}
use Rattle.std.proofs.Common.{zero}
use Rattle.std.specs.FinMap.{find, empty_of_len, len-empty, get-empty}
use Rattle.txn_records.proofs.Held.{id_below, range_removed, data_here, dropped, dropped_held}
use Rattle.std.specs.FinMap as finite

-- a map has one entry more than without one that it has
pub one_less : {X : Type 0} (m : finite.FinMap nat_cmp X) (k : ℕ) (x : X) → finite.get m k ≡ Some x → finite.len m ≡ finite.len (finite.remove m k) + 1
one_less m k x has =
    let again : finite.insert (finite.remove m k) k x ≡ m = finite.same_map nat_cmp_total nat_cmp-IsAntisymmetric (finite.insert (finite.remove m k) k x) m
    (λ q. dite (ℕ_discrete q k)
    (λ e. subst (λ z. finite.get (finite.insert (finite.remove m k) k x) z ≡ finite.get m z) (sym e) (inserted_here (finite.remove m k) k x ∙ sym has))
    (λ ne. inserted_there (finite.remove m k) k x q ne ∙ removed_there m k q ne)) in
    ap finite.len (sym again) ∙ len_after_insert nat_cmp_total (finite.remove m k) k x (removed_here m k)

-- a map with no entry has no length
no_entries : (m : Entries) → ((q : ℕ) → finite.get m q ≡ None) → finite.len m ≡ 0
no_entries m none = ap finite.len (finite.same_map nat_cmp_total nat_cmp-IsAntisymmetric m finite.empty (λ q. none q ∙ sym (get-empty nat_cmp q)))
    ∙ len-empty nat_cmp ℕ

-- each number is a key of the index
pub as_key : (k : ℕ) → k ≡ index_key_of (k / RANK_STEP) (k % RANK_STEP)
as_key k = omega arith

pub key_rest : (k : ℕ) → k % RANK_STEP < RANK_STEP
key_rest k = omega arith

-- a map with a length has an entry
first_entry : {X : Type 0} (m : finite.FinMap nat_cmp X) (n : ℕ) → finite.len m ≡ suc n → (k : ℕ) × (x : X) × (finite.get m k ≡ Some x)
first_entry {X} m n e = at (finite.entries m) refl
  where
    at : (es : List (ℕ × X)) → finite.entries m ≡ es → (k : ℕ) × (x : X) × (finite.get m k ≡ Some x)
    at [] is = absurd (omega (arith, e, len-entries m, ap length is))
    at (p ∷ es) is = (p.0, p.1, get-entries m p.0 ∙ ap (find nat_cmp p.0) is ∙ grind (rules, tied p.0 p.0 refl))

pub lengths : (n : ℕ) (records : Records) (trees : Trees) → finite.len records ≡ n → RecordsAreInRange records → HoldRecords trees records
    → (finite.len trees.ranks ≡ n) × (finite.len trees.index ≡ n)
lengths zero records trees e range held =
    let none : records ≡ finite.empty = empty_of_len records e in
    let absent : (q : ℕ) → finite.get records q ≡ None = λ q. ap (λ m. finite.get m q) none ∙ get-empty nat_cmp q in (
      no_entries trees.ranks (λ q. held.ranks q ∙ ap rank_in (absent q)),
      no_entries trees.index (λ q. ap (finite.get trees.index) (as_key q) ∙ held.index (q / RANK_STEP) (q % RANK_STEP) (key_rest q)
          ∙ ap (data_at_rank (q / RANK_STEP)) (absent (q % RANK_STEP))),
    )
lengths (suc n) records trees e range held =
    let first = first_entry records n e in
    let id : ℕ = first.0 in
    let rank : ℕ = first.1.0 in
    let there : finite.get records id ≡ Some (rank, first.1.1) = first.2 in
    let lt : id < RANK_STEP = id_below id (range id rank first.1.1 there).0 in
    let has : finite.get trees.ranks id ≡ Some rank = held.ranks id ∙ ap rank_in there in
    let found : finite.get trees.index (index_key_of rank id) ≡ Some first.1.1 =
    held.index rank id lt ∙ ap (data_at_rank rank) there ∙ data_here rank first.1.1 in
    let fewer : finite.len (finite.remove records id) ≡ n = omega (arith, e, one_less records id (rank, first.1.1) there) in
    let rest = lengths n (finite.remove records id) (dropped rank id trees) fewer (range_removed records id range)
    (dropped_held trees records rank id lt held has) in (
      omega (arith, rest.0, one_less trees.ranks id rank has),
      omega (arith, rest.1, one_less trees.index (index_key_of rank id) first.1.1 found),
    )
