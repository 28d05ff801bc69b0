-- Words from a place on, as a list and one by one.
use Rattle.txn_cells.proofs.Common.{◌≡◌, ◌≢◌, ◌⊎◌, inl, inr, ℕ, zero, suc, ◌+◌, ◌*◌, ◌<◌, ◌≤◌, List, [], ◌∷◌, Some, length, take, drop, get_or, slice_get}
use Rattle.txn_cells.proofs.Common.{slice_set, refl, sym, ap, ◌∙◌, arith, ◌-◌, get_or-set_same, get_or-set_other, length-set, same_Some, HasWords, PutsWords}
use Rattle.std.proofs.Common.{min, length-take, length-drop, get_or-take, get_or-drop}
use Rattle.std.proofs.lemmas.Grind.{same_number_lists}
use Rattle.std.proofs.lemmas.Bool.{cases_lt}
use Rattle.std.proofs.Math.Nat.{mul-le-mul_right, suc-mul}

-- so many words from a place on, if they are there
pub length_window : (n a : ℕ) (s : List ℕ) → a + n ≤ length s → length (take n (drop a s)) ≡ n
length_window n a s h = simp (length-take, length-drop) (omega (arith, h))

pub window_within : (n a : ℕ) (s : List ℕ) → 1 ≤ n → length (take n (drop a s)) ≡ n → a + n ≤ length s
window_within n a s some long =
    let least : length (take n (drop a s)) ≡ min n (length s - a) = simp (length-take, length-drop) in
    omega (arith, some, long, least)

pub window_at : (n a : ℕ) (s : List ℕ) (k : ℕ) → k < n → get_or (take n (drop a s)) k 0 ≡ get_or s (a + k) 0
window_at n a s k h = get_or-take n (drop a s) k 0 h ∙ get_or-drop a s k 0

-- words that stand from a place on are the words there
pub window_is : (n a : ℕ) (s words : List ℕ) → a + n ≤ length s → length words ≡ n → HasWords a words s → take n (drop a s) ≡ words
window_is n a s words within count stand =
    let long : length (take n (drop a s)) ≡ n = length_window n a s within in
    same_number_lists _ words (long ∙ sym count) (λ k below. let small : k < n = omega (arith, below, long) in
    window_at n a s k small ∙ stand k (omega (arith, small, count)))

-- a window that other words leave alone
pub window_stays : (n a : ℕ) (s t : List ℕ) → length t ≡ length s → a + n ≤ length s
    → ((k : ℕ) → k < n → get_or t (a + k) 0 ≡ get_or s (a + k) 0) → take n (drop a t) ≡ take n (drop a s)
window_stays n a s t same within each =
    let long : length (take n (drop a s)) ≡ n = length_window n a s within in
    window_is n a t (take n (drop a s)) (omega (arith, within, same)) long (λ k below. let small : k < n =
    omega (arith, below, long) in each k small ∙ sym (window_at n a s k small))

-- the front of a list of words, and one word more
length_front : (k : ℕ) (words : List ℕ) → k < length words → length (take k words) ≡ k
length_front k words below = simp length-take (omega (arith, below))

-- one word more was found, of those that stand
pub has_more : (place k : ℕ) (words s : List ℕ) → k < length words → HasWords place (take k words) s
    → get_or s (place + k) 0 ≡ get_or words k 0 → HasWords place (take (k + 1) words) s
has_more place k words s below stand this i h =
    let front : length (take k words) ≡ k = length_front k words below in
    let more : length (take (k + 1) words) ≡ k + 1 = simp length-take (omega (arith, below)) in
    let small : i < k + 1 = omega (arith, h, more) in
    elim (cases_lt i k) [
      | inl less ↦ stand i (omega (arith, less, front)) ∙ get_or-take k words i 0 less ∙ sym (get_or-take (k + 1) words i 0 small)
      | inr up ↦
          let same : i ≡ k = omega (arith, up, small) in
          ap (λ j. get_or s (place + j) 0) same ∙ this ∙ ap (λ j. get_or words j 0) (sym same) ∙ sym (get_or-take (k + 1) words i 0 small)
    ]

-- one word more was put in
pub puts_more : (place k : ℕ) (words old mid : List ℕ) → k < length words → place + length words ≤ length old → PutsWords place (take k words) old mid
    → PutsWords place (take (k + 1) words) old (slice_set mid (place + k) (get_or words k 0))
puts_more place k words old mid below within puts =
    let front : length (take k words) ≡ k = length_front k words below in
    let more : length (take (k + 1) words) ≡ k + 1 = simp length-take (omega (arith, below)) in
    let there : place + k < length mid = omega (arith, within, below, puts.count) in
    let other : (a : ℕ) → a ≢ place + k → get_or (slice_set mid (place + k) (get_or words k 0)) a 0 ≡ get_or mid a 0 =
    λ a apart. get_or-set_other mid (place + k) a (get_or words k 0) 0 apart in
    record {
      count = length-set mid (place + k) (get_or words k 0) ∙ puts.count;
      stand = has_more place k words (slice_set mid (place + k) (get_or words k 0)) below
          (λ i h. other (place + i) (omega (arith, h, front)) ∙ puts.stand i h)
          (get_or-set_same mid (place + k) (get_or words k 0) 0 there);
      others = λ a. elim [
        | inl low ↦ other a (omega (arith, low)) ∙ puts.others a (inl low)
        | inr high ↦ other a (omega (arith, high, more)) ∙ puts.others a (inr (omega (arith, high, more, front)))
      ];
    }

-- cells that are not the same have no word in common
pub cells_apart : (n i j : ℕ) → i < j → i * n + n ≤ j * n
cells_apart n i j h =
    let step : suc i * n ≤ j * n = mul-le-mul_right n (omega (arith, h)) in
    omega (arith, step, suc-mul i n)

-- an element of a list in which one was put
pub get_set_cases : {X : Type 0} (xs : List X) (i j : ℕ) (x y : X) → slice_get (slice_set xs i x) j ≡ Some y
    → ((j ≡ i) × (y ≡ x)) ⊎ ((j ≢ i) × (slice_get xs j ≡ Some y))
get_set_cases [] i j x y e = absurd (cc e)
get_set_cases (z ∷ xs) zero zero x y e = inl (refl, sym (same_Some x y e))
get_set_cases (z ∷ xs) zero (suc j) x y e = inr (λ k. absurd (omega (arith, k)), e)
get_set_cases (z ∷ xs) (suc i) zero x y e = inr (λ k. absurd (omega (arith, k)), e)
get_set_cases (z ∷ xs) (suc i) (suc j) x y e =
    elim (get_set_cases xs i j x y e) [ inl k ↦ inl (ap suc k.0, k.1) | inr k ↦ inr (λ same. k.0 (omega (arith, same)), k.1) ]
