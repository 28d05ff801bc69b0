use Rattle.transfers.proofs.Common.{◌≡◌, ◌+◌, ◌<◌, ◌^◌, refl, arith}
use Rattle.txn.proofs.Common.{each_plain, some_from, only_read, only_write, only_then, sees_read, sees_write, sees_then}
use Rattle.transfers.proofs.Summing.{sum_fits, sum_adds}
use Rattle.transfers.proofs.adding.add_to.Goals as goal

pub overflow_add-v : goal.overflow_add-v
overflow_add-v g c =
    let words = g.W.Words in
    let shapes = g.W.Shape.Shape in
    let some = some_from words shapes c.args.w.now c.read.new.self c.in_ok-v.ensures.shape (g.met.W.Words.fits c.read.new.self c.in_ok-v.ensures.sound) in
    let sum : c.in_ok-v.v + c.args.by < 2 ^ 64 =
    sum_fits _ _ _ _ c.args.a c.in_ok-v.v c.in_ok-v.ensures.value c.args.by (each_plain words shapes _ _ c.requires.room) some in
    omega (arith, sum)

pub returns-clause-added : goal.returns-clause-added
returns-clause-added g c = record { at = (sum_adds _ _ _ _ c.args.a c.in_ok-v.v c.in_ok-v.ensures.value _ c.args.by c.in_ok-write.ensures.value).at }

pub returns-clause-frame : goal.returns-clause-frame
returns-clause-frame g c = record {
  appended = only_then (λ b. b ≡ c.args.a) _ _ _ (only_read (λ b. b ≡ c.args.a) _ _ c.args.a c.in_ok-v.v
      c.in_ok-v.ensures.value) (only_write (λ b. b ≡ c.args.a) _ _ c.args.a (c.in_ok-v.v + c.args.by) c.in_ok-write.ensures.value refl);
}

pub returns-clause-reads : goal.returns-clause-reads
returns-clause-reads g c = record {
  appended = sees_then (λ b. b ≡ c.args.a) _ _ _ (sees_read (λ b. b ≡ c.args.a) _ _ c.args.a c.in_ok-v.v
      c.in_ok-v.ensures.value refl) (sees_write (λ b. b ≡ c.args.a) _ _ c.args.a (c.in_ok-v.v + c.args.by) c.in_ok-write.ensures.value refl);
}
