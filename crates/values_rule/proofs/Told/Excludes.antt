-- Phases.
use Rattle.values_rule.proofs.Common.{◌≡◌, true, false, sym, ap, ◌∙◌, Phase, Releasing, is_open}

pub not_released : (p : Phase) → is_open p ≡ true → p ≡ Releasing → ⊥
not_released p t e = let z : true ≡ false = sym t ∙ ap is_open e in cc
