use Rattle.word_table.proofs.Common.{refl, ◌<◌, arith, ◌∙◌, LOCKS, rising}
use Rattle.word_table.proofs.Calls.Unsharing.{cleared_bits, clears_all, clears_join, clears_none}
use Rattle.word_table.proofs.pass.Pass.clear_read_bits.Goals as goal

pub loop-i-init : goal.loop-i-init
loop-i-init g c = record {
  table = refl;
  clears = clears_none _ c.args.self.now c.requires.undone c.requires.begun;
  before = λ k lt. absurd (omega arith);
}

pub loop-i-preserved : goal.loop-i-preserved
loop-i-preserved g c = let inv = c.loop-i.invariant in record {
  table = c.clear_word.ensures.table ∙ inv.table;
  clears = clears_join _ c.args.self.now c.loop-i.self c.clear_word.new.self inv.clears c.clear_word.ensures.clears;
  before = c.clear_word.ensures.before;
}

pub returns-clause-steps : goal.returns-clause-steps
returns-clause-steps g c = let inv = c.loop-i.invariant in let over = c.loop-i-test.false in
    (clears_all _ c.args.self.now c.loop-i.self inv.clears (λ k near. inv.before k (omega arith))).0

pub returns-clause-clears : goal.returns-clause-clears
returns-clause-clears g c = let inv = c.loop-i.invariant in let over = c.loop-i-test.false in
    (clears_all _ c.args.self.now c.loop-i.self inv.clears (λ k near. inv.before k (omega arith))).1

-- a bit that were left would be one of the first view, and so of a lock
pub returns-clause-none : goal.returns-clause-none
returns-clause-none g c k bit = let inv = c.loop-i.invariant in let over = c.loop-i-test.false in
    let near : k < LOCKS = c.only_locks_have_bits.ensures k (cleared_bits _ (rising c.args.self.now.view.bits) c.args.self.now.view c.loop-i.self.view
    (returns-clause-clears g c) k bit) in inv.before k (omega arith) bit
