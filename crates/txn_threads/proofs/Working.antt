-- Clients whose threads have ended: all passes of the desk, and what they leave.
use Rattle.txn_threads.proofs.Common.{◌≡◌, ℕ, ◌<◌, List, [], ◌∷◌, length, get_or, Some, slice_get, ⊎_elim, sym, ap, ◌∙◌, subst, arith, get_or_from_slice_get}
use Rattle.txn_threads.proofs.Common.{slice_get_cases, IsCoherent, IsLegalInEachOrder, PassView, DeskView, IsPass}
use Rattle.values_rule.proofs.Common.{replay_items}
use Rattle.word_table.proofs.Common.{IsIn, AreAllPasses, ClosedView}
use Rattle.std.proofs.Common.{◌+◌}
use Rattle.std.proofs.lemmas.List.{take_all}
use Rattle.std.proofs.lemmas.Option.{slice_get_within}
use Rattle.history_model.specs.declared.item.Item.{Item}
use Rattle.history_model.specs.Histories.{replay_effects}
use Rattle.values_rule.specs.Closing.{IsPlaced}

module _ {S : Type 0} (desk : DeskView S) (passes : List PassView)
    (each : (k : ℕ) (d : PassView) → k < length passes → IsPass desk k (get_or passes k d)) where
  -- a pass that stands among them, with its place
  at_its_place : (p : PassView) → IsIn p passes → (k : ℕ) × (k < length passes) × (get_or passes k p ≡ p) × IsPass desk k p
  at_its_place p (k, is) =
      let within : k < length passes = slice_get_within passes k p is in
      let here : get_or passes k p ≡ p = get_or_from_slice_get passes k p p is in (
        k,
        within,
        here,
        subst (λ (q : PassView). IsPass desk k q) here (each k p within),
      )

  -- they are all passes of the desk
  pub all_passes : desk.seats ≡ length passes → AreAllPasses desk.table desk.seats passes
  all_passes count = record {
    of_table = λ p is. (at_its_place p is).3.of_table;
    idle = λ p is. (at_its_place p is).3.idle;
    all = λ j lt. some j (omega (arith, count, lt));
  }
    where
      some : (j : ℕ) → j < length passes → (p : PassView) × IsIn p passes × (p.view.who ≡ j ∷ [])
      some j lt = ⊎_elim
          (λ x. let p : PassView = x.0 in (p, (j, x.2), ap (λ (q : PassView). q.view.who) (sym x.3) ∙ (each j p lt).who_is))
          (λ past. absurd (omega (arith, past.0, lt))) (slice_get_cases passes j).1

-- what a legal table left is good
pub left_good : {S : Type 0} (good : List ℕ → Type 0) (closed : ClosedView S) → good closed.base
    → IsCoherent good closed → IsLegalInEachOrder good closed → good closed.words
unfolding replay_effects
left_good good closed opened c l = subst good (sym (l.words c.order c.arranged)) (all_of c.order (l.placed c.order c.arranged)) where
  all_of : (order : List Item) → ((p : ℕ) (x : Item) → slice_get order p ≡ Some x → IsPlaced good closed.seats closed.base order p x)
      → good (replay_items closed.base order)
  all_of [] placed = opened
  all_of (x ∷ xs) placed = ⊎_elim
      (λ t. subst (λ (o : List Item). good (replay_items closed.base o)) (take_all (length xs + 1) (x ∷ xs) (omega arith))
      (placed (length xs) t.0 t.2).leaves_good)
      (λ past. absurd (omega (arith, past.0))) (slice_get_cases (x ∷ xs) (length xs)).1
