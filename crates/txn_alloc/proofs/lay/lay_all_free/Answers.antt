use Rattle.txn_alloc.proofs.Common.{◌≡◌, ℕ, suc, ◌-◌, drop, subst, arith, all_blocks}
use Rattle.txn_alloc.proofs.FreeLists.Laid.{IsLaidFrom, laid_free}
use Rattle.txn_alloc.proofs.FreeLists.AllLaid.{all_once, all_laid_none, all_laid_back}
use Rattle.txn_alloc.proofs.lay.lay_all_free.Goals as goal

pub loop-block-init : goal.loop-block-init
loop-block-init c = all_laid_none c.requires c.clear_heads.ensures.others c.clear_heads.ensures.none

pub loop-block-preserved : goal.loop-block-preserved
loop-block-preserved c =
    let a = c.args.arena.now in
    let n : ℕ = c.loop-block.block - 1 in
    let more : c.loop-block.block ≡ suc n = omega (arith, c.loop-block-test.true) in
    rw c.put_first.ensures
    (all_laid_back c.requires n (omega (arith, c.loop-block-test.true))
    (subst (λ k. IsLaidFrom a (all_blocks a) c.args.words.now (drop k (all_blocks a)) c.loop-block.words) more c.loop-block.invariant))

pub returns-clause-free : goal.returns-clause-free
returns-clause-free c =
    let a = c.args.arena.now in
    let none : c.loop-block.block ≡ 0 = omega (arith, c.loop-block-test.false) in
    laid_free a (all_blocks a) c.args.words.now c.requires
    (subst (λ k. IsLaidFrom a (all_blocks a) c.args.words.now (drop k (all_blocks a)) c.loop-block.words) none c.loop-block.invariant)
    (all_once 0 a.blocks)
