-- What callers did, from what each of them did.
use Rattle.txn_cells.proofs.Common.{◌≡◌, ◌⊎◌, inl, inr, ⊎_elim, ℕ, ◌+◌, ◌*◌, ◌<◌, ◌≤◌, List, [], ◌∷◌, ◌++◌, Some, length, get_or, slice_get, slice_index, sym}
use Rattle.txn_cells.proofs.Common.{ap, ◌∙◌, subst, arith, eqb_tells, get_or_from_slice_get, slice_get_within, Entry, IsGood, IsIn, number, below_get}
use Rattle.txn_cells.proofs.Common.{AreSeenBy, ClosedView, PassView, CELLS, AreAllCells, AreCells, HasRounds, IsRound}
use Rattle.word_table.proofs.Common.{in_first, none_in, in_join}
use Rattle.values_rule.proofs.Told.ItemsIn.{in_parts}
use Rattle.txn_threads.specs.Clients.{HaveWorked}
use Rattle.txn_cells.specs.contracts.numbers.U128Coded.TheImpl.{ghosts as numbers}
use Rattle.txn_cells.specs.declared.coded.Coded.{Ghosts as Codes}

-- what is said of the words of an array that has all cells is said of them
module _ (code : Codes ℕ) (at len : ℕ) (first : at ≡ 0) (all : len ≡ CELLS) where
  abbrev pub of_array : List ℕ → Type 0
  of_array s = IsGood (at + len * code.WORDS) (AreCells code at len) s

  abbrev from_place : ℕ → ℕ → List ℕ → Type 0
  from_place a l s = IsGood (a + l * code.WORDS) (AreCells code a l) s

  abbrev with_count : ℕ → List ℕ → Type 0
  with_count n s = IsGood n (AreCells code 0 CELLS) s

  count_is : 0 + CELLS * code.WORDS ≡ CELLS * code.WORDS
  count_is = omega arith

  pub of_cells : (P : (List ℕ → Type 0) → Type 0) → P of_array → P (AreAllCells code)
  of_cells P p = subst (λ n. P (with_count n)) count_is (subst (λ l. P (from_place 0 l)) all (subst (λ a. P (from_place a len)) first p))

  pub of_words : (P : (List ℕ → Type 0) → Type 0) → P (AreAllCells code) → P of_array
  of_words P p =
      subst (λ a. P (from_place a len)) (sym first) (subst (λ l. P (from_place 0 l)) (sym all) (subst (λ n. P (with_count n)) (sym count_is) p))

module _ (code : Codes ℕ) where
  -- a round that was made among some entries was made among more
  pub still_round : (old new : List Entry) → ((e : Entry) → IsIn e old → IsIn e new) → (c r : ℕ) → IsRound code old c r → IsRound code new c r
  still_round old new among c r made = record {
    entry = made.entry;
    there = among made.entry made.there;
    by_seat = made.by_seat;
    call_is = made.call_is;
    adds = made.adds;
  }

  -- no round was made yet
  pub no_rounds : (c : ℕ) (seen : List Entry) → seen ≡ [] → HasRounds code c 0 seen
  no_rounds c seen none = record {
    each = λ r lt. absurd (omega (arith, lt));
    no_more = λ e is. absurd (none_in e (subst (λ l. IsIn e l) none is));
  }

  -- one round more was made
  pub one_round : (old new : List Entry) (e : Entry) → new ≡ old ++ e ∷ [] → (c n : ℕ) → e.who ≡ c → e.call ≡ n + 1
      → IsRound code (old ++ e ∷ []) c n → HasRounds code c n old → HasRounds code c (n + 1) new
  one_round old new e seen c n who call last so_far = subst (HasRounds code c (n + 1)) (sym seen) (record {
    each = λ r lt. ⊎_elim
        (λ less. still_round old (old ++ e ∷ []) (λ x is. in_first old (e ∷ []) x is) c r (so_far.each r less))
        (λ is. subst (λ k. IsRound code (old ++ e ∷ []) c k) (sym is) last)
        (less_or_last r lt);
    no_more = λ x is. ⊎_elim
        (λ before. let t = so_far.no_more x before in (t.0, t.1, omega (arith, t.2)))
        (λ here. ⊎_elim
        (λ same. (
          ap (λ (y : Entry). y.who) (sym same) ∙ who,
          omega (arith, ap (λ (y : Entry). y.call) same, call),
          omega (arith, ap (λ (y : Entry). y.call) same, call),
        ))
        (λ none. absurd (none_in x none)) (in_join e [] x here))
        (in_parts old (e ∷ []) x is);
  })
    where
      less_or_last : (k : ℕ) → k < n + 1 → (k < n) ⊎ (k ≡ n)
      less_or_last k lt = ⊎_elim (λ yes. inr yes.1) (λ no. inl (omega (arith, no.1, lt))) (eqb_tells k n)

-- the passes of callers who have made their rounds
pub record HaveMade (callers rounds : ℕ) (passes : List PassView) : Type 0 where
  pub count : length passes ≡ callers
  pub each : (k : ℕ) (p : PassView) → slice_get passes k ≡ Some p → HasRounds numbers k rounds p.view.seen

module _ {S C : Type 0} (rounds_of : C → ℕ) (callers rounds : ℕ) (closed : ClosedView S) (old new : List C)
    (many : length old ≡ callers) (all : (k : ℕ) (c : C) → k < length old → rounds_of (get_or old k c) ≡ rounds)
    (worked : HaveWorked (λ _ was _ before after. HasRounds numbers (number before.view) (rounds_of was) after.view.seen) closed old new) where
  -- each client made its rounds with the pass of its place
  pub have_made : HaveMade callers rounds worked.passes
  have_made = record {
    count = worked.count ∙ many;
    each = λ k p at.
        let lt : k < length old = omega (arith, slice_get_within worked.passes k p at, worked.count) in
        let c : C = (below_get k old lt).0 in
        let w = worked.each k c p lt in
        let here : get_or worked.passes k p ≡ p = get_or_from_slice_get worked.passes k p p at in
        let number_is : number w.before.view ≡ k = ap (λ l. slice_index l 0) (sym w.next.who_stays ∙ w.who_is) in
        subst (λ (q : PassView). HasRounds numbers k rounds q.view.seen) here
        (subst (λ n. HasRounds numbers n rounds (get_or worked.passes k p).view.seen) number_is
        (subst (λ n. HasRounds numbers (number w.before.view) n (get_or worked.passes k p).view.seen) (all k c lt) w.done));
  }

module _ {S : Type 0} (callers rounds : ℕ) (passes : List PassView) (made : HaveMade callers rounds passes)
    (closed : ClosedView S) (seen : AreSeenBy passes closed.records) where
  pub each_made : (c r : ℕ) → c < callers → r < rounds → IsRound numbers closed.records c r
  each_made c r lt less =
      let p = below_get c passes (omega (arith, lt, made.count)) in
      still_round numbers p.0.view.seen closed.records (λ e is. (seen e).1 (p.0, ((c, p.1), is))) c r ((made.each c p.0 p.1).each r less)

  pub none_besides : (e : Entry) → IsIn e closed.records → (e.who < callers) × (1 ≤ e.call) × (e.call ≤ rounds)
  none_besides e is =
      let found = (seen e).0 is in
      let t = (made.each found.1.0.0 found.0 found.1.0.1).no_more e found.1.1 in
      let below : found.1.0.0 < length passes = slice_get_within passes found.1.0.0 found.0 found.1.0.1 in
      (omega (arith, t.0, below, made.count), t.1, t.2)
