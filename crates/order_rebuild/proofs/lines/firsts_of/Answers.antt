use Rattle.order_rebuild.proofs.Common.{◌≤◌, ℕ, ◌+◌, List, slice_index, sym, subst, arith, AreStarts}
use Rattle.order_rebuild.proofs.Makes.{IsRun, run_on, run_new, starts_more}
use Rattle.order_rebuild.proofs.lines.firsts_of.Goals.{then-codes-i, else-codes-i}
use Rattle.order_rebuild.proofs.lines.firsts_of.Goals as goal

pub loop-i-preserved : goal.loop-i-preserved
loop-i-preserved c =
    let f : ℕ → ℕ = λ k. slice_index c.args.codes.now k in
    let i : ℕ = c.loop-i.i in let inv = c.loop-i.invariant in let low = inv.run.low in let within = c.loop-i-test.true in
    let up : slice_index c.args.codes.now c.loop-i.start ≤ slice_index c.args.codes.now i = c.requires c.loop-i.start i 0 low within in
    let rise : f c.loop-i.start ≤ f i = omega arith in
    let run : IsRun f (i + 1) c.if-codes-i.start × (c.if-codes-i.start ≤ i) = elim c.if-codes-i.branch [
      | then-codes-i w ↦ subst (λ (n : ℕ). IsRun f (i + 1) n × (n ≤ i)) (sym w.start-is)
          (run_new f i c.loop-i.start inv.run rise w.if-codes-i.true, omega arith)
      | else-codes-i w ↦ subst (λ (n : ℕ). IsRun f (i + 1) n × (n ≤ i)) (sym w.start-is) (run_on f i c.loop-i.start inv.run w.if-codes-i.false, low)
    ] in record {
      starts = subst (λ (base : List ℕ). AreStarts f (i + 1) base) (sym c.in_ok-push.ensures.items)
          (starts_more f i c.if-codes-i.start c.loop-i.first.items inv.starts run.0 run.1);
      run = run.0;
    }
