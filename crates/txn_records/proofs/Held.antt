-- Trees that hold records, and hold them after a change.
use Rattle.txn_records.proofs.Common.{◌≡◌, ◌≢◌, ℕ, ◌<◌, ◌≤◌, if◌then◌else◌, Option, Some, None, IfSome, unwrap_or, refl, sym, ap, ◌∙◌, subst, arith, eq-eqb}
use Rattle.txn_records.proofs.Common.{ne_eqb, dite, ℕ_discrete, GREATEST_DATA, Records, IsId, IsRank, data_at_rank, removed_here, removed_there, inserted_here}
use Rattle.txn_records.proofs.Common.{inserted_there, RANK_STEP, index_key_of, Trees, HoldRecords, RecordsAreInRange, rank_in}
use Rattle.std.specs.FinMap as finite

-- an identifier is below the step of the ranks
pub id_below : (id : ℕ) → IsId id → id < RANK_STEP
id_below id is = omega (arith, is.1)

-- different records have different keys
pub keys_differ : (rank id other q : ℕ) → id < RANK_STEP → q < RANK_STEP → index_key_of rank id ≡ index_key_of other q → (rank ≡ other) × (id ≡ q)
keys_differ rank id other q lt below e = (omega (arith, lt, below, e), omega (arith, lt, below, e))

-- a record that has no rank is not there
pub no_record : (o : Option (ℕ × ℕ)) → rank_in o ≡ None → o ≡ None
no_record None e = refl
no_record (Some stored) e = absurd (cc)

-- one that has a rank is there
pub some_record : (o : Option (ℕ × ℕ)) (rank : ℕ) → rank_in o ≡ Some rank → (content : ℕ) × (o ≡ Some (rank, content))
some_record None rank e = absurd (cc)
some_record (Some stored) rank e = (stored.1, ap (λ r. Some (r, stored.1)) (ap (λ o. unwrap_or o 0) e))

-- its data stands at its rank, and at no other
pub data_here : (rank content : ℕ) → data_at_rank rank (Some (rank, content)) ≡ Some content
data_here rank content = ap (λ t. if t then Some content else None) (eq-eqb rank rank refl)

pub data_elsewhere : (o : Option (ℕ × ℕ)) (was rank : ℕ) → rank_in o ≡ Some was → rank ≢ was → data_at_rank rank o ≡ None
data_elsewhere None was rank e ne = refl
data_elsewhere (Some stored) was rank e ne =
    ap (λ t. if t then Some stored.1 else None) (ne_eqb stored.0 rank (λ same. ne (sym same ∙ ap (λ o. unwrap_or o 0) e)))

-- the rank and the data of a record are the record
pub record_is : (o : Option (ℕ × ℕ)) (rank : ℕ) (found : Option ℕ) → Some rank ≡ rank_in o → found ≡ data_at_rank rank o
    → Some (rank, unwrap_or found 0) ≡ o
record_is o rank found is told =
    let some = some_record o rank (sym is) in
    let data_is : found ≡ Some some.0 = told ∙ ap (data_at_rank rank) some.1 ∙ data_here rank some.0 in
    ap (λ f. Some (rank, unwrap_or f 0)) data_is ∙ sym some.1

-- a rank that is told is in range
pub rank_range : (records : Records) → RecordsAreInRange records → (id : ℕ) (answer : Option ℕ) → answer ≡ rank_in (finite.get records id)
    → IfSome answer IsRank
rank_range records range id None e = tt
rank_range records range id (Some rank) e =
    let some = some_record (finite.get records id) rank (sym e) in
    (range id rank some.0 some.1).1

-- records in range stay so
pub range_removed : (records : Records) (id : ℕ) → RecordsAreInRange records → RecordsAreInRange (finite.remove records id)
range_removed records id range q rank content there = dite (ℕ_discrete q id)
    (λ e. absurd (cc (removed_here records id)))
    (λ ne. range q rank content (sym (removed_there records id q ne) ∙ there))

same_some : {A : Type 0} (x y : A) → Some x ≡ Some y → x ≡ y
same_some x y e = ap (λ o. unwrap_or o x) e

pub range_inserted : (records : Records) (id rank content : ℕ) → RecordsAreInRange records → IsId id → IsRank rank → content ≤ GREATEST_DATA
    → RecordsAreInRange (finite.insert records id (rank, content))
range_inserted records id rank content range is ranked fits q r x there = dite (ℕ_discrete q id)
    (λ e.
    let same : (rank, content) ≡ (r, x) = same_some (rank, content) (r, x)
    (sym (inserted_here records id (rank, content)) ∙ ap (finite.get (finite.insert records id (rank, content))) (sym e) ∙ there) in
    (subst IsId (sym e) is, subst IsRank (ap (λ p. p.0) same) ranked, subst (λ n. n ≤ GREATEST_DATA) (ap (λ p. p.1) same) fits))
    (λ ne. range q r x (sym (inserted_there records id (rank, content) q ne) ∙ there))

-- trees that have a record as it is put, and the others as they were
module _ (trees now : Trees) (records : Records) (held : HoldRecords trees records) (id : ℕ) (lt : id < RANK_STEP)
    (ranks_there : (q : ℕ) → q ≢ id → finite.get now.ranks q ≡ finite.get trees.ranks q)
    (index_there : (r q : ℕ) → q < RANK_STEP → q ≢ id → finite.get now.index (index_key_of r q) ≡ finite.get trees.index (index_key_of r q)) where
  pub put_held : (rank content : ℕ) → finite.get now.ranks id ≡ Some rank → finite.get now.index (index_key_of rank id) ≡ Some content
      → ((r : ℕ) → r ≢ rank → finite.get now.index (index_key_of r id) ≡ None) → HoldRecords now (finite.insert records id (rank, content))
  put_held rank content rank_here here gone = record {
    ranks = λ q. dite (ℕ_discrete q id)
        (λ e. rw (e, inserted_here) rank_here)
        (λ ne. rw inserted_there (ranks_there q ne ∙ held.ranks q));
    index = λ r q below. dite (ℕ_discrete q id)
        (λ e. rw (e, inserted_here) (dite (ℕ_discrete r rank)
        (λ same. rw same (here ∙ sym (data_here rank content)))
        (λ other. gone r other ∙ sym (data_elsewhere (Some (rank, content)) rank r refl other))))
        (λ ne. rw inserted_there (index_there r q below ne ∙ held.index r q below));
  }

  pub cut_held : finite.get now.ranks id ≡ None → ((r : ℕ) → finite.get now.index (index_key_of r id) ≡ None)
      → HoldRecords now (finite.remove records id)
  cut_held none gone = record {
    ranks = λ q. dite (ℕ_discrete q id)
        (λ e. rw (e, removed_here) none)
        (λ ne. rw removed_there (ranks_there q ne ∙ held.ranks q));
    index = λ r q below. dite (ℕ_discrete q id)
        (λ e. rw (e, removed_here) (gone r))
        (λ ne. rw removed_there (index_there r q below ne ∙ held.index r q below));
  }

-- the trees after a record was taken out of both
abbrev pub dropped : ℕ → ℕ → Trees → Trees
dropped rank id trees = record { ranks = finite.remove trees.ranks id; index = finite.remove trees.index (index_key_of rank id) }

pub dropped_held : (trees : Trees) (records : Records) (rank id : ℕ) → id < RANK_STEP → HoldRecords trees records → finite.get trees.ranks id ≡ Some rank
    → HoldRecords (dropped rank id trees) (finite.remove records id)
dropped_held trees records rank id lt held has =
    cut_held trees (dropped rank id trees) records held id lt (λ q ne. removed_there trees.ranks id q ne)
    (λ r q below ne. removed_there trees.index (index_key_of rank id) (index_key_of r q) (λ e. ne (keys_differ r q rank id below lt e).1))
    (removed_here trees.ranks id)
    (λ r. dite (ℕ_discrete r rank)
    (λ e. rw e (removed_here trees.index (index_key_of rank id)))
    (λ ne. removed_there trees.index (index_key_of rank id) (index_key_of r id) (λ e. ne (keys_differ r id rank id lt lt e).0)
    ∙ held.index r id lt ∙ data_elsewhere (finite.get records id) rank r (sym (held.ranks id) ∙ has) ne))
