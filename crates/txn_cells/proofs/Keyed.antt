-- Lists that have one member for each round of each caller.
use Rattle.txn_cells.proofs.Common.{◌≡◌, ⊎_elim, ℕ, ◌+◌, ◌-◌, ◌<◌, ◌≤◌, Bool, true, false, ◌==◌, if◌then◌else◌, List, Some, slice_get, sum_by, refl, sym, ap}
use Rattle.txn_cells.proofs.Common.{◌∙◌, arith, eqb_tells}
use Rattle.std.proofs.lemmas.Bool.{cases_Bool}
use Rattle.txn_cells.proofs.SumsBelow.{sum_of_all, same_in_all, none_in_all, one_in_all, same_terms, one_term, turned}

-- the amount, if the member counts and has this caller and call
abbrev pick : Bool → ℕ → ℕ → ℕ → ℕ → ℕ → ℕ
pick counts c who call_of_round call amount = if counts then (if c == who then (if call_of_round == call then amount else 0) else 0) else 0

pick_yes : (c who k call amount : ℕ) → c ≡ who → k ≡ call → pick true c who k call amount ≡ amount
pick_yes c who k call amount e f = ⊎_elim
    (λ yes. ⊎_elim
    (λ too. ap (λ b. if b then (if k == call then amount else 0) else 0) yes.0 ∙ ap (λ b. if b then amount else 0) too.0)
    (λ no. absurd (no.1 f)) (eqb_tells k call))
    (λ no. absurd (no.1 e)) (eqb_tells c who)

pick_no : (counts : Bool) (c who k call amount : ℕ) → (counts ≡ true → c ≡ who → k ≡ call → ⊥) → pick counts c who k call amount ≡ 0
pick_no false c who k call amount never = refl
pick_no true c who k call amount never = ⊎_elim
    (λ yes. ⊎_elim
    (λ too. absurd (never refl yes.1 too.1))
    (λ off. ap (λ b. if b then (if k == call then amount else 0) else 0) yes.0 ∙ ap (λ b. if b then amount else 0) off.0) (eqb_tells k call))
    (λ off. ap (λ b. if b then (if k == call then amount else 0) else 0) off.0) (eqb_tells c who)

-- the members that count are one for each round of each caller, by caller and call
pub record HasOneEach {X : Type 0} (callers rounds : ℕ) (who call : X → ℕ) (counts : X → Bool) (xs : List X) : Type 0 where
  pub near : (i : ℕ) (x : X) → slice_get xs i ≡ Some x → counts x ≡ true → (who x < callers) × (1 ≤ call x) × (call x ≤ rounds)
  pub there : (c r : ℕ) → c < callers → r < rounds
      → (i : ℕ) × (x : X) × (slice_get xs i ≡ Some x) × (counts x ≡ true) × (who x ≡ c) × (call x ≡ r + 1)
  pub one : (i j : ℕ) (x y : X) → slice_get xs i ≡ Some x → slice_get xs j ≡ Some y → counts x ≡ true → counts y ≡ true
      → who x ≡ who y → call x ≡ call y → i ≡ j

module _ {X : Type 0} (callers rounds : ℕ) (who call : X → ℕ) (counts : X → Bool) (xs : List X)
    (each : HasOneEach callers rounds who call counts xs) (f : ℕ → ℕ → ℕ) where
  -- what a member brings to a round
  abbrev part : X → ℕ → ℕ → ℕ
  part x c r = pick (counts x) c (who x) (r + 1) (call x) (f c r)

  -- what it brings to all
  abbrev brings : X → ℕ
  brings x = if counts x then f (who x) (call x - 1) else 0

  brings_all : (i : ℕ) (x : X) → slice_get xs i ≡ Some x → brings x ≡ sum_of_all callers rounds (part x)
  brings_all i x at = ⊎_elim
      (λ yes.
      let near : (who x < callers) × (1 ≤ call x) × (call x ≤ rounds) = each.near i x at yes in
      let here : part x (who x) (call x - 1) ≡ f (who x) (call x - 1) =
      ap (λ b. pick b (who x) (who x) (call x - 1 + 1) (call x) (f (who x) (call x - 1))) yes
      ∙ pick_yes (who x) (who x) (call x - 1 + 1) (call x) (f (who x) (call x - 1)) refl (omega (arith, near.1)) in
      ap (λ b. if b then f (who x) (call x - 1) else 0) yes ∙ (sym here
      ∙ sym (one_in_all callers rounds (part x) (who x) (call x - 1) near.0 (omega (arith, near.1, near.2))
      (λ d s other. pick_no (counts x) d (who x) (s + 1) (call x) (f d s)
      (λ _ e k. ⊎_elim (λ no. no e) (λ no. no (omega (arith, k))) other)))))
      (λ no. ap (λ b. if b then f (who x) (call x - 1) else 0) no
      ∙ sym (none_in_all callers rounds (part x) (λ c r _ _. ap (λ b. pick b c (who x) (r + 1) (call x) (f c r)) no)))
      (cases_Bool (counts x))

  brought : (c r : ℕ) → c < callers → r < rounds → sum_by (λ x. part x c r) xs ≡ f c r
  brought c r lt less =
      let there : (i : ℕ) × (x : X) × (slice_get xs i ≡ Some x) × (counts x ≡ true) × (who x ≡ c) × (call x ≡ r + 1) = each.there c r lt less in
      let i : ℕ = there.0 in
      let x : X = there.1 in
      one_term (λ y. part y c r) xs i x there.2
      (λ j y at no. pick_no (counts y) c (who y) (r + 1) (call y) (f c r)
      (λ yes e k. no (each.one j i y x at there.2 yes there.3 (sym e ∙ sym there.4) (sym k ∙ sym there.5))))
      ∙ (ap (λ b. pick b c (who x) (r + 1) (call x) (f c r)) there.3
      ∙ pick_yes c (who x) (r + 1) (call x) (f c r) (sym there.4) (sym there.5))

  -- the sum over the members is the sum over all rounds
  pub sum_of_each : sum_by brings xs ≡ sum_of_all callers rounds f
  sum_of_each = same_terms brings (λ x. sum_of_all callers rounds (part x)) xs brings_all
      ∙ (turned callers rounds part xs
      ∙ same_in_all callers rounds (λ c r. sum_by (λ x. part x c r) xs) f brought)
