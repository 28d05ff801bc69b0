-- Uses before others, and of one lock.
use Rattle.order_rebuild.proofs.Common.{◌≡◌, ℕ, ◌<◌, List, slice_get, Some, refl, ap, ◌∙◌, arith, dite, dec_lt, UsedBefore, LockUse, use_key, IsRising}
use Rattle.order_rebuild.proofs.Codes.{same_there, lower}

-- a use before another: of one lock, with the lower key
pub record IsUseBefore (us vs : List LockUse) : Type 0 where
  pub i : ℕ
  pub j : ℕ
  pub u : LockUse
  pub v : LockUse
  pub u_at : slice_get us i ≡ Some u
  pub v_at : slice_get vs j ≡ Some v
  pub lock : u.lock ≡ v.lock
  pub key : use_key u < use_key v

pub use_before : (us vs : List LockUse) → UsedBefore us vs → IsUseBefore us vs
use_before us vs b = record {
  i = b.uses.0;
  j = b.other_uses.0;
  u = record { lock = b.lock; version = b.found; wrote = b.wrote };
  v = record { lock = b.lock; version = b.other; wrote = b.other_wrote };
  u_at = b.uses.1;
  v_at = b.other_uses.1;
  lock = refl;
  key = lower b.found b.other b.wrote b.other_wrote b.earlier;
}

-- an item that rises uses a lock once
pub one_use : (us : List LockUse) → IsRising us → (i j : ℕ) (u v : LockUse) → slice_get us i ≡ Some u → slice_get us j ≡ Some v
    → u.lock ≡ v.lock → u ≡ v
one_use us rising i j u v e f l = dite (dec_lt i j) (λ h. absurd (let r = rising i j u v e f h in omega (arith, r, l)))
    (λ n. dite (dec_lt j i) (λ h. absurd (let r = rising j i v u f e h in omega (arith, r, l)))
    (λ m. same_there us i u v e (ap (λ (k : ℕ). slice_get us k) (omega arith) ∙ f)))
