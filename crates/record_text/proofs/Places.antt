-- What the index of records has at a place.
use Rattle.record_text.proofs.Common.{◌≡◌, ℕ, Bool, false, cond, List, [], ◌∷◌, map, Option, Some, None, refl, sym, ap, ◌∙◌, subst, arith, if◌then◌else◌}
use Rattle.record_text.proofs.Common.{entries_sorted, find, below_all, is_sorted, nat_cmp, is_eq, ordering_then, Ordering, Less, Equal, Greater, below_first}
use Rattle.record_text.proofs.Common.{below_rest, sorted_first, sorted_rest, positions_total, Records, index_cmp, index_of}
use Rattle.std.proofs.Common.{◌==◌, eq-eqb}
use Rattle.std.specs.Prelude.{T}
use Rattle.std.specs.FinMap.{get-entries, get-from_entries}
use Rattle.std.proofs.lemmas.Bool.{ne_eqb}
use Rattle.std.proofs.lemmas.Cmp.{ranked}
use Rattle.record_text.specs.Laws.{data_at_rank}
use Rattle.record_text.proofs.Indexes.{Stored, place_of, second_decides}
use Rattle.std.specs.FinMap as finite

-- records whose identifiers are all above one have no place of it
none_above : (rank id : ℕ) (es : List Stored) → T (below_all nat_cmp id es) → find index_cmp (rank, id) (map place_of es) ≡ None
none_above rank id [] h = refl
none_above rank id (e ∷ es) h =
    let other : is_eq (index_cmp (rank, id) (place_of e).0) ≡ false =
    second_decides (nat_cmp rank e.1.0) (nat_cmp id e.0) (ap is_eq (below_first nat_cmp id e es h)) in
    ap (λ b. cond b (Some e.1.1) (find index_cmp (rank, id) (map place_of es))) other
    ∙ none_above rank id es (below_rest nat_cmp id e es h)

-- in the order of identifiers the first with the identifier is looked for, and then its rank
has_place : (rank id : ℕ) (es : List Stored) → T (is_sorted nat_cmp es)
    → find index_cmp (rank, id) (map place_of es) ≡ data_at_rank rank (find nat_cmp id es)
has_place rank id [] sorted = refl
has_place rank id (e ∷ es) sorted = by_order (nat_cmp id e.0) (nat_cmp rank e.1.0) (has_place rank id es (sorted_rest nat_cmp e es sorted)) refl refl
  where
    rest : Option ℕ
    rest = find index_cmp (rank, id) (map place_of es)

    found : Option (ℕ × ℕ)
    found = find nat_cmp id es

    no_more : nat_cmp id e.0 ≡ Equal → rest ≡ None
    no_more same = none_above rank id es
        (subst (λ k. T (below_all nat_cmp k es)) (sym (ranked id e.0 Equal (sym same))) (sorted_first nat_cmp e es sorted))

    other_rank : (b : Bool) → (e.1.0 == rank) ≡ b → b ≡ false → None ≡ data_at_rank rank (Some e.1)
    other_rank b is differs = ap (λ t. if t then Some e.1.1 else None) (sym (is ∙ differs))

    by_order : (r s : Ordering) → rest ≡ data_at_rank rank found → nat_cmp id e.0 ≡ r → nat_cmp rank e.1.0 ≡ s
        → cond (is_eq (ordering_then s r)) (Some e.1.1) rest ≡ data_at_rank rank (cond (is_eq r) (Some e.1) found)
    by_order Less s behind at rank_is = ap (λ b. cond b (Some e.1.1) rest) (second_decides s Less refl) ∙ behind
    by_order Greater s behind at rank_is = ap (λ b. cond b (Some e.1.1) rest) (second_decides s Greater refl) ∙ behind
    by_order Equal Equal behind at rank_is = ap (λ t. if t then Some e.1.1 else None) (sym (eq-eqb e.1.0 rank (sym (ranked rank e.1.0 Equal (sym rank_is)))))
    by_order Equal Less behind at rank_is = no_more at
        ∙ other_rank (e.1.0 == rank) refl (ne_eqb e.1.0 rank (λ same. let less = ranked rank e.1.0 Less (sym rank_is) in absurd (omega (arith, same, less))))
    by_order Equal Greater behind at rank_is = no_more at
        ∙ other_rank (e.1.0 == rank) refl (ne_eqb e.1.0 rank (λ same. let more = ranked rank e.1.0 Greater (sym rank_is) in absurd (omega (arith, same, more))))

pub at_place : (records : Records) (rank id : ℕ) → finite.get (index_of records) (rank, id) ≡ data_at_rank rank (finite.get records id)
at_place records rank id =
    get-from_entries positions_total (map place_of (finite.entries records)) (rank, id)
    ∙ has_place rank id (finite.entries records) (entries_sorted records)
    ∙ ap (data_at_rank rank) (sym (get-entries records id))
