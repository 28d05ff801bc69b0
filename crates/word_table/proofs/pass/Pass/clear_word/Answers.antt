use Rattle.word_table.proofs.Common.{refl, ℕ, ap, ◌∙◌, View}
use Rattle.word_table.proofs.Calls.Unsharing.{bits_left, clears_join, clears_none, clears_one, fewer_bits, least_of_word, none_of_word}
use Rattle.word_table.proofs.pass.Pass.clear_word.Goals as goal

pub loop-lock-init : goal.loop-lock-init
loop-lock-init g c = record {
  table = refl;
  clears = clears_none _ c.args.self.now c.requires.undone c.requires.begun;
  before = c.requires.before;
}

pub loop-lock-smaller : goal.loop-lock-smaller
loop-lock-smaller g c = let inv = c.loop-lock.invariant in let v : View = c.loop-lock.self.view in
    fewer_bits v c.clear_read_bit.new.self.view c.in-Some.lock c.in-Some.ensures.lock
    (least_of_word v c.args.i c.in-Some.lock inv.before c.in-Some.ensures.least) (ap (λ (u : View). u.bits) c.clear_read_bit.ensures.view)

pub loop-lock-preserved : goal.loop-lock-preserved
loop-lock-preserved g c = let inv = c.loop-lock.invariant in let old = c.loop-lock.self in let new = c.clear_read_bit.new.self in
    let k : ℕ = c.in-Some.lock in let t = c.clear_read_bit.ensures.taken in record {
      table = c.clear_read_bit.ensures.table ∙ inv.table;
      clears = clears_join _ c.args.self.now old new inv.clears (clears_one _ old new k t.0 c.in-Some.ensures.lock
          (least_of_word old.view c.args.i k inv.before c.in-Some.ensures.least) t.1 c.clear_read_bit.ensures.steps
          inv.clears.undone inv.clears.begun);
      before = λ j lt bit. inv.before j lt (bits_left old.view new.view k j (ap (λ (u : View). u.bits) c.clear_read_bit.ensures.view) bit);
    }

pub returns-clause-before : goal.returns-clause-before
returns-clause-before g c = none_of_word c.loop-lock.self.view c.args.i c.loop-lock.invariant.before c.in_default.ensures.least
