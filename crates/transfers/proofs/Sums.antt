-- The sum of a list when an amount goes from one word to another.
use Rattle.transfers.proofs.Common.{◌≡◌, ◌≢◌, ℕ, ◌+◌, ◌-◌, ◌<◌, ◌≤◌, List, length, sum, slice_index, slice_set, ◌∙◌, arith, slice_get-get_or, moved}
use Rattle.txn.proofs.Common.{get_set_other}
use Rattle.std.proofs.Common.{rules}
use Rattle.std.proofs.lemmas.List.Sums.{sum_by-set, get_or-le-sum_by}
use Rattle.std.proofs.lemmas.Option.{get_or_from_slice_get}

-- another word than the one that was set stays
other_stays : (s : List ℕ) (i j v : ℕ) → j ≢ i → j < length s → slice_index (slice_set s i v) j ≡ slice_index s j
other_stays s i j v differ within = get_or_from_slice_get (slice_set s i v) j (slice_index s j) 0 (get_set_other s i j v differ ∙ slice_get-get_or s j 0 within)

-- two words are within the sum
pub two_within : (s : List ℕ) (i j : ℕ) → j ≢ i → i < length s → j < length s → slice_index s i + slice_index s j ≤ sum s
two_within s i j differ within_i within_j =
    let zeroed : sum (slice_set s i 0) + slice_index s i ≡ sum s + 0 = sum_by-set (λ n. n) s i 0 0 within_i in
    let same : slice_index (slice_set s i 0) j ≡ slice_index s j = other_stays s i j 0 differ within_j in
    let long : j < length (slice_set s i 0) = search rules in
    let rest : slice_index (slice_set s i 0) j ≤ sum (slice_set s i 0) = get_or-le-sum_by (λ n. n) (slice_set s i 0) j 0 long in
    omega (arith, zeroed, same, rest)

-- what is moved stays in the sum
pub moved_sum : (from to amount : ℕ) (s : List ℕ) → to ≢ from → from < length s → to < length s
    → amount ≤ slice_index s from → sum (moved from to amount s) ≡ sum s
moved_sum from to amount s differ within_from within_to enough =
    let less : ℕ = slice_index s from - amount in
    let taken : sum (slice_set s from less) + slice_index s from ≡ sum s + less = sum_by-set (λ n. n) s from less 0 within_from in
    let same : slice_index (slice_set s from less) to ≡ slice_index s to = other_stays s from to less differ within_to in
    let long : to < length (slice_set s from less) = search rules in
    let put : sum (moved from to amount s) + slice_index (slice_set s from less) to ≡ sum (slice_set s from less) + (slice_index s to + amount) =
    sum_by-set (λ n. n) (slice_set s from less) to (slice_index s to + amount) 0 long in
    omega (arith, taken, same, put, enough)
