-- What is known of the first items of lanes.
use Rattle.order_rebuild.proofs.Common.{◌≡◌, ℕ, ◌<◌, ◌≤◌, List, length, map, slice_get, slice_index, slice_set, get_or, Some, refl, sym, ap, ◌∙◌, subst, arith}
use Rattle.order_rebuild.proofs.Common.{dite, ℕ_discrete, slice_get_read, at_map, LockUse, Spot, MayUseBelow, AreKnownUses, MayStart, Lane, Tally}
use Rattle.order_rebuild.specs.Tallies.{MayUseAll, AreKnownOf}
use Rattle.order_rebuild.proofs.Codes.{same_there}
use Rattle.order_rebuild.proofs.Waits.{same_there as set_there, other_there}

-- the uses that the code reads are those of the lane's first item
module _ {X : Type 0} (spot : X → Spot) (done : List X) (tallies : List Tally) (lane : Lane) (x : X) (us : List LockUse)
    (some : lane.next < lane.end) (inside : lane.end ≤ length done) (is : x ≡ get_or done lane.next x) (uses : us ≡ (spot x).uses) where
  at : slice_get (map spot done) lane.next ≡ Some (spot x)
  at = at_map spot done lane.next x (slice_get_read done (length done) lane.next x refl (omega arith) is)

  there : (s : Spot) → slice_get (map spot done) lane.next ≡ Some s → us ≡ s.uses
  there s e = uses ∙ ap (λ (t : Spot). t.uses) (same_there (map spot done) lane.next (spot x) s at e)

  pub known_to : (n : ℕ) → AreKnownOf (map spot done) tallies lane n → MayUseBelow tallies us n
  known_to n known j u e l = known (spot x) some at j u (subst (λ (ws : List LockUse). slice_get ws j ≡ Some u) uses e) l

  pub starts_to : MayStart (map spot done) tallies lane → MayUseAll tallies us
  starts_to start j u e = start.1 (spot x) at j u (subst (λ (ws : List LockUse). slice_get ws j ≡ Some u) uses e)

  pub starts_from : MayUseAll tallies us → MayStart (map spot done) tallies lane
  starts_from all = (some, λ s e j u f. all j u (subst (λ (ws : List LockUse). slice_get ws j ≡ Some u) (sym (there s e)) f))

-- more is known of one lane
pub known_set : (list : List Spot) (tallies : List Tally) (lanes : List Lane) (known : List ℕ) (at n : ℕ) (lane : Lane) → at < length known
    → slice_get lanes at ≡ Some lane → AreKnownOf list tallies lane n → AreKnownUses list tallies lanes known
    → AreKnownUses list tallies lanes (slice_set known at n)
known_set list tallies lanes known at n lane inside here more are i x e = dite (ℕ_discrete i at)
    (λ z. let same : lane ≡ x = same_there lanes at lane x here (ap (λ (k : ℕ). slice_get lanes k) (sym z) ∙ e) in
    let is : n ≡ slice_index (slice_set known at n) i =
    sym (ap (λ (k : ℕ). slice_index (slice_set known at n) k) z ∙ set_there known at n inside) in
    subst (λ (k : ℕ). AreKnownOf list tallies x k) is (subst (λ (y : Lane). AreKnownOf list tallies y n) same more))
    (λ ne. subst (λ (k : ℕ). AreKnownOf list tallies x k) (sym (other_there known at i n ne)) (are i x e))
