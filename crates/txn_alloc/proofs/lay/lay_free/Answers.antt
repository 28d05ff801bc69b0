use Rattle.txn_alloc.proofs.Common.{◌≡◌, ℕ, suc, ◌-◌, drop, subst, arith}
use Rattle.txn_alloc.proofs.FreeLists.Laid.{IsLaidFrom, laid_back, laid_free}
use Rattle.txn_alloc.proofs.lay.lay_free.Goals as goal

pub loop-index-preserved : goal.loop-index-preserved
loop-index-preserved c =
    let order = c.args.order.now in
    let n : ℕ = c.loop-index.index - 1 in
    let more : c.loop-index.index ≡ suc n = omega (arith, c.loop-index-test.true) in
    rw c.put_first.ensures
    (laid_back c.requires.laid_out c.requires.once c.requires.below n
    (omega (arith, c.loop-index-test.true))
    (subst (λ k. IsLaidFrom c.args.arena.now order c.args.words.now (drop k order) c.loop-index.words) more c.loop-index.invariant))

pub returns-clause-free : goal.returns-clause-free
returns-clause-free c =
    let order = c.args.order.now in
    let none : c.loop-index.index ≡ 0 = omega (arith, c.loop-index-test.false) in
    laid_free c.args.arena.now order c.args.words.now c.requires.laid_out
    (subst (λ k. IsLaidFrom c.args.arena.now order c.args.words.now (drop k order) c.loop-index.words) none c.loop-index.invariant) c.requires.once
