-- A call has fewer attempts that gave way than there are seats, by the pigeonhole principle.
use Rattle.history_model.proofs.Common.{◌≡◌, ◌≢◌, ℕ, zero, suc, ◌<◌, List, [], ◌∷◌, length, slice_get, Some, refl, sym, ap, arith, true, false, ne_eqb, dite}
use Rattle.history_model.proofs.Common.{ℕ_discrete, IsIn}
use Rattle.std.proofs.Common.{eqb}
use Rattle.std.specs.List.{AllByRecursion, IsDistinct, list_any}
use Rattle.std.proofs.lemmas.Map.Steps.{length-le_from_distinct_below}
use Rattle.history_model.specs.declared.entry.Abandoned.{Abandoned}
use Rattle.history_model.specs.Legal.{GaveWayToOthers}

-- the seats of the causes
seats_of : List Abandoned → List ℕ
seats_of [] = []
seats_of (x ∷ xs) = x.cause.seat ∷ seats_of xs

length-seats_of : (xs : List Abandoned) → length (seats_of xs) ≡ length xs
unfolding seats_of
length-seats_of [] = refl
length-seats_of (x ∷ xs) = ap suc (length-seats_of xs)

all_others : (j : ℕ) (xs : List Abandoned) → ((k : ℕ) (y : Abandoned) → slice_get xs k ≡ Some y → j ≢ y.cause.seat)
    → AllByRecursion (λ i. eqb j i ≡ false) (seats_of xs)
unfolding seats_of
all_others j [] h = tt
all_others j (x ∷ xs) h = (ne_eqb j x.cause.seat (h zero x refl), all_others j xs (λ k. h (suc k)))

distinct_seats : (xs : List Abandoned) → ((i k : ℕ) (x y : Abandoned) → slice_get xs i ≡ Some x
    → slice_get xs k ≡ Some y → x.cause.seat ≡ y.cause.seat → i ≡ k) → IsDistinct eqb (seats_of xs)
unfolding seats_of IsDistinct
distinct_seats [] h = tt
distinct_seats (x ∷ xs) h = (
  all_others x.cause.seat xs (λ k y at same. let e : zero ≡ suc k = h zero (suc k) x y refl at same in absurd (omega arith)),
  distinct_seats xs (λ i k y z a b same. let e : suc i ≡ suc k = h (suc i) (suc k) y z a b same in omega arith),
)

among_seats : (j : ℕ) (xs : List Abandoned) → list_any (eqb j) (seats_of xs) ≡ true → (x : Abandoned) × IsIn x xs × (j ≡ x.cause.seat)
unfolding seats_of
among_seats j [] h = cc
among_seats j (x ∷ xs) h = dite (ℕ_discrete j x.cause.seat)
    (λ e. (x, (zero, refl), e))
    (λ n. let rest : list_any (eqb j) (seats_of xs) ≡ true = rw (ne_eqb j x.cause.seat n) at h in
    let found = among_seats j xs rest in (found.0, (suc found.1.0, found.1.1), found.2))

pub attempts_are_few : (n who : ℕ) (attempts : List Abandoned) → who < n → GaveWayToOthers n who attempts → length attempts < n
unfolding IsDistinct
attempts_are_few n who attempts lt h =
    let others : AllByRecursion (λ i. eqb who i ≡ false) (seats_of attempts) =
    all_others who attempts (λ k y at same. (h.elsewhere y (k, at)).1 (sym same)) in
    let below : (q : ℕ) → list_any (eqb q) (who ∷ seats_of attempts) ≡ true → q < n = λ q t. dite (ℕ_discrete q who)
    (λ e. omega arith)
    (λ ne. let rest : list_any (eqb q) (seats_of attempts) ≡ true = rw (ne_eqb q who ne) at t in
    let found = among_seats q attempts rest in let low = (h.elsewhere found.0 found.1).0 in omega (arith, low, found.2)) in
    let few = length-le_from_distinct_below (who ∷ seats_of attempts) n (others, distinct_seats attempts h.differ) below in
    omega (arith, few, length-seats_of attempts)
