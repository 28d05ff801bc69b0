-- Jobs that were run once and in their order are a journal, and as many as the scripts.
use Rattle.txn_stores.proofs.Common.{◌≡◌, ℕ, ◌+◌, ◌<◌, ◌==◌, Bool, true, false, cond, List, [], ◌∷◌, ◌++◌, map, length, refl, sym, ap, ◌∙◌, subst, arith}
use Rattle.txn_stores.proofs.Common.{zero-add, count_by, range_with_len, sum_by-cons, All-map, slice_get-get_or, IsIn, Done, AreOnceInOrder, Place, IsJournalOf}
use Rattle.txn_stores.proofs.Common.{IsPlaceOf, place_of_done, script_count}
use Rattle.order_rebuild.proofs.Common.{at_map}
use Rattle.txn_commit.proofs.Common.{indexes_of}
use Rattle.script_reader.proofs.Common.{count_scripts, CallerOf}
use Rattle.std.proofs.Common.{◌&&◌, get_or, eq-eqb, append_assoc, length-append}
use Rattle.std.specs.Prelude.{sum_by}
use Rattle.std.specs.List.{filter}
use Rattle.txn_commit.proofs.Orders.Once.{later_index, pairs_map}
use Rattle.word_table.proofs.Joined.Counting.{in_filter}
use Rattle.txn_stores.specs.Statements.{JobsAreJournal, JobsCounted}
use Rattle.txn_stores.proofs.Ranges.{in_range, range_once}

module _ {A : Type 0} where
  -- a place stands as often among jobs as its index among those of its caller
  place_count : (c i : ℕ) (jobs : List (Done A)) → count_by (λ p. p.caller == c && p.index == i) (map place_of_done jobs)
      ≡ count_by (λ n. n == i) (indexes_of c jobs)
  place_count c i [] = refl
  place_count c i (x ∷ xs) =
      sum_by-cons (λ (p : Place). cond (p.caller == c && p.index == i) 1 0) (place_of_done x) (map place_of_done xs)
      ∙ at (x.caller == c) (place_count c i xs)
    where
      rest : ℕ
      rest = count_by (λ p. p.caller == c && p.index == i) (map place_of_done xs)

      kept : List (Done A)
      kept = filter (λ (ran : Done A). ran.caller == c) xs

      both : (b : Bool) → (true && b) ≡ b
      both true = refl
      both false = refl

      neither : (b : Bool) → (false && b) ≡ false
      neither true = refl
      neither false = refl

      at : (b : Bool) → rest ≡ count_by (λ n. n == i) (map (λ (ran : Done A). ran.index) kept)
          → cond (b && x.index == i) 1 0 + rest ≡ count_by (λ n. n == i) (map (λ (ran : Done A). ran.index) (cond b (x ∷ kept) kept))
      at true same = ap (λ b. cond b 1 0 + rest) (both (x.index == i)) ∙ ap (λ n. cond (x.index == i) 1 0 + n) same
          ∙ sym (sum_by-cons (λ n. cond (n == i) 1 0) x.index (map (λ (ran : Done A). ran.index) kept))
      at false same = ap (λ b. cond b 1 0 + rest) (neither (x.index == i)) ∙ zero-add rest ∙ same

module _ {S A : Type 0} (callers : List (CallerOf S)) (jobs : List (Done A)) (once : AreOnceInOrder (length callers) (script_count callers) jobs) where
  index_fits : (k : ℕ) (d : Done A) → k < length jobs → (get_or jobs k d).index < script_count callers (get_or jobs k d).caller
  index_fits k d lt =
      let ran : Done A = get_or jobs k d in
      let c : ℕ = ran.caller in
      let there = in_filter (λ (r : Done A). r.caller == c) jobs ran (eq-eqb c c refl) (k, slice_get-get_or jobs k d lt) in
      in_range (script_count callers c) ran.index (subst (λ l. IsIn ran.index l) (once.each c (once.of_callers k d lt)) (
        there.0,
        at_map (λ (r : Done A). r.index) (filter (λ (r : Done A). r.caller == c) jobs) there.0 ran there.1,
      ))

  journal : IsJournalOf callers (map place_of_done jobs)
  journal = record {
    only = All-map (IsPlaceOf callers) place_of_done jobs (λ k d lt. (once.of_callers k d lt, index_fits k d lt));
    once = λ place is. place_count place.caller place.index jobs
        ∙ ap (count_by (λ n. n == place.index)) (once.each place.caller is.0)
        ∙ range_once 0 (script_count callers place.caller) place.index (omega arith) (omega (arith, is.1));
    rising = pairs_map (λ (p q : Place). p.caller ≡ q.caller → p.index < q.index) place_of_done jobs
        (later_index (length callers) (script_count callers) jobs once);
  }

pub jobs_are_journal : {S A : Type 0} → JobsAreJournal S A
jobs_are_journal callers jobs once = journal callers jobs once

-- the scripts of all callers, counted one caller after another
module _ {S : Type 0} where
  at_first : (before callers : List (CallerOf S)) (x d : CallerOf S) → get_or (before ++ x ∷ callers) (length before) d ≡ x
  at_first [] callers x d = refl
  at_first (y ∷ ys) callers x d = at_first ys callers x d

  counted : (before callers : List (CallerOf S))
      → sum_by (script_count (before ++ callers)) (range_with_len (length before) (length callers)) ≡ count_scripts callers
  counted before [] = refl
  counted before (x ∷ xs) =
      let first : script_count (before ++ x ∷ xs) (length before) ≡ length x.scripts =
      ap (λ (c : CallerOf S). length c.scripts) (at_first before xs x (record { name = []; scripts = [] })) in
      let rest : sum_by (script_count (before ++ x ∷ xs)) (range_with_len (length before + 1) (length xs)) ≡ count_scripts xs =
      subst (λ n. sum_by (script_count (before ++ x ∷ xs)) (range_with_len n (length xs)) ≡ count_scripts xs)
      (length-append before (x ∷ []))
      (subst (λ l. sum_by (script_count l) (range_with_len (length (before ++ x ∷ [])) (length xs)) ≡ count_scripts xs)
      (append_assoc before (x ∷ []) xs) (counted (before ++ x ∷ []) xs)) in
      sum_by-cons (script_count (before ++ x ∷ xs)) (length before) (range_with_len (length before + 1) (length xs))
      ∙ ap (λ n. n + sum_by (script_count (before ++ x ∷ xs)) (range_with_len (length before + 1) (length xs))) first
      ∙ ap (λ n. length x.scripts + n) rest ∙ sym (sum_by-cons (λ (c : CallerOf S). length c.scripts) x xs)

pub jobs_counted : {S : Type 0} → JobsCounted S
jobs_counted callers = counted [] callers
