-- A finite map after a change at a key, there and elsewhere.
use Rattle.txn_stores.proofs.Common.{◌≡◌, ◌≢◌, ℕ, Some, None, sym, ◌∙◌, subst, rules, dite, ℕ_discrete, nat_cmp}
use Rattle.std.specs.Cmp.{nat_cmp_total}
use Rattle.std.specs.FinMap.{gets, nat_cmp-IsAntisymmetric}
use Rattle.std.specs.FinMap as finite

module _ {X : Type 0} (m : finite.FinMap nat_cmp X) (k : ℕ) where
  pub removed_here : finite.get (finite.remove m k) k ≡ None
  removed_here = grind (gets, rules)

  pub removed_there : (q : ℕ) → q ≢ k → finite.get (finite.remove m k) q ≡ finite.get m q
  removed_there q ne = grind (gets, rules)

  pub inserted_here : (x : X) → finite.get (finite.insert m k x) k ≡ Some x
  inserted_here x = grind (gets, rules)

  pub inserted_there : (x : X) (q : ℕ) → q ≢ k → finite.get (finite.insert m k x) q ≡ finite.get m q
  inserted_there x q ne = grind (gets, rules)

  -- a map from which an absent key is taken is the same
  pub remove_absent : finite.get m k ≡ None → finite.remove m k ≡ m
  remove_absent none = finite.same_map nat_cmp_total nat_cmp-IsAntisymmetric (finite.remove m k) m
      (λ q. dite (ℕ_discrete q k)
      (λ e. subst (λ z. finite.get (finite.remove m k) z ≡ finite.get m z) (sym e) (removed_here ∙ sym none))
      (λ ne. removed_there q ne))
