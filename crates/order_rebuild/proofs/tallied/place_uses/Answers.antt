use Rattle.order_rebuild.proofs.Common.{◌≡◌, ℕ, ◌+◌, ◌<◌, false, List, length, length-set, slice_get, slice_index, slice_index_or, Some, refl, ap, sym, ◌∙◌}
use Rattle.order_rebuild.proofs.Common.{arith, dite, ℕ_discrete, slice_get-get_or, slice_get_read, LockUse, no_tally}
use Rattle.order_rebuild.proofs.Codes.{same_there}
use Rattle.order_rebuild.proofs.Follows.{place_one}
use Rattle.order_rebuild.proofs.tallied.place_uses.Goals as goal

abbrev no_use : LockUse
no_use = record { lock = 0; version = 0; wrote = false }

pub loop-i-preserved : goal.loop-i-preserved
loop-i-preserved c =
    let us : List LockUse = c.args.uses.now in let i : ℕ = c.loop-i.i in
    let tallies = c.loop-i.tallies in
    let u : LockUse = slice_index_or us i no_use in
    let at : slice_get us i ≡ Some u = slice_get-get_or us i no_use c.loop-i-test.true in
    let inside : u.lock < length tallies = c.if-lock-tallies.false in
    let before = c.loop-i.invariant.above in
    let above : (j : ℕ) (w : LockUse) → j < i → slice_get us j ≡ Some w → w.lock < u.lock =
    λ j w l e. let h = before j w l e in omega (arith, h, c.if-lock-from.false) in
    let e = c.in_ok-place_use.ensures in
    record {
      count = length-set tallies u.lock c.place_use.new.tally ∙ c.loop-i.invariant.count;
      above = λ j w l f. dite (ℕ_discrete j i)
          (λ z. let same = ap (λ (x : LockUse). x.lock) (same_there us i w u (ap (λ (k : ℕ). slice_get us k) (sym z) ∙ f) at) in omega (arith, same))
          (λ n. let h = above j w (omega arith) f in omega arith);
      step = place_one c.args.rows.now us c.args.tallies.now tallies i u (slice_index_or tallies u.lock no_tally) c.place_use.new.tally c.index-rows-lock.result
          at
          (slice_get-get_or tallies u.lock no_tally inside)
          (slice_get_read c.args.rows.now (length c.args.rows.now) u.lock c.index-rows-lock.result refl
          (omega (arith, inside, c.loop-i.invariant.count, c.requires)) c.index-rows-lock.is)
          above c.loop-i.invariant.step e.found
          (λ t. let h = e.wrote t in
          (h.0, (h.1.0, h.1.1 ∙ ap (λ (xs : List ℕ). slice_index xs ((slice_index_or tallies u.lock no_tally).version + 1)) c.deref.ensures.value)))
          e.read;
    }
