-- Two passes that are all passes of a desk, as a test closes it.
use Rattle.lock_or_yield.proofs.Common.{◌≡◌, ℕ, zero, suc, ◌<◌, ⊎_elim, List, [], ◌∷◌, refl, sym, subst, arith, IsIn, DeskView}
use Rattle.word_table.proofs.Common.{in_join, none_in, AreAllPasses, PassView}
use Rattle.history_model.specs.declared.view.Phase.TheVariants.{Idle}

-- a fact of both passes is one of each
each : (P : PassView → Type 0) (a b : PassView) → P a → P b → (p : PassView) → IsIn p (a ∷ b ∷ []) → P p
each P a b x y p t = ⊎_elim (λ e. subst P e x) (λ s. ⊎_elim (λ e. subst P e y) (λ n. absurd (none_in p n)) (in_join b [] p s)) (in_join a (b ∷ []) p t)

pub two_passes : {S : Type 0} (desk : DeskView S) (a b : PassView) → (a.table ≡ desk.table) × (a.view.who ≡ 0 ∷ [])
    × (a.view.phase ≡ Idle) → (b.table ≡ desk.table) × (b.view.who ≡ 1 ∷ []) × (b.view.phase ≡ Idle) → AreAllPasses desk.table 2 (a ∷ b ∷ [])
two_passes desk a b x y = record {
  of_table = each (λ p. p.table ≡ desk.table) a b x.0 y.0;
  idle = each (λ p. p.view.phase ≡ Idle) a b x.2 y.2;
  all = at;
}
  where
    at : (j : ℕ) → j < 2 → (p : PassView) × IsIn p (a ∷ b ∷ []) × (p.view.who ≡ j ∷ [])
    at zero lt = (a, (0, refl), x.1)
    at (suc zero) lt = (b, (1, refl), y.1)
    at (suc (suc j)) lt = absurd (omega arith)

-- the same of a list and a number that are those
pub closes_two : {S : Type 0} (desk : DeskView S) (passes : List PassView) (a b : PassView) → desk.seats ≡ 2
    → passes ≡ a ∷ b ∷ [] → (a.table ≡ desk.table) × (a.view.who ≡ 0 ∷ []) × (a.view.phase ≡ Idle)
    → (b.table ≡ desk.table) × (b.view.who ≡ 1 ∷ []) × (b.view.phase ≡ Idle) → AreAllPasses desk.table desk.seats passes
closes_two desk passes a b two are x y = subst (λ (l : List PassView). AreAllPasses desk.table desk.seats l) (sym are)
    (subst (λ (n : ℕ). AreAllPasses desk.table n (a ∷ b ∷ [])) (sym two) (two_passes desk a b x y))
