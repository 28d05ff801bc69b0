use Rattle.transfers.proofs.Common.{◌≡◌, ◌+◌, ◌<◌, ◌≤◌, ◌^◌, sum, take, get_or, ◌∙◌, sym, subst, [], arith, sum_by_more, ⊤, Leads}
use Rattle.transfers.proofs.Growing.{Grown, grown_more}
use Rattle.transfers.proofs.Meaning.{adds_none, adds_all}
use Rattle.transfers.proofs.add_all.AddAllJob.run.Goals as goal

pub loop-x-preserved : goal.loop-x-preserved
loop-x-preserved g c =
    let loop = c.loop-x in
    let xs = c.args.self.now.amounts.now in
    let more : sum (take (loop.x-index + 1) xs) ≡ sum (take loop.x-index xs) + get_or xs loop.x-index 0 =
    sum_by_more (λ n. n) xs loop.x-index 0 c.loop-x-test.true in
    let room : c.in_ok-v.v + get_or xs loop.x-index 0 < 2 ^ 64 = omega arith in
    record {
      shape = c.in_ok-write.ensures.shape ∙ c.in_ok-v.ensures.shape ∙ loop.invariant.shape;
      origin = c.in_ok-write.ensures.origin ∙ c.in_ok-v.ensures.origin ∙ loop.invariant.origin;
      stop = c.in_ok-write.ensures.stops;
      sound = c.in_ok-write.ensures.sound;
      grown = subst (λ m. Leads 1 (λ _. ⊤) [] (g.W.Words.trace c.write.new.self) (Grown m)) (sym more)
          (grown_more 1 (λ _. ⊤) _ _ _ c.in_ok-v.v (sum (take loop.x-index xs)) loop.invariant.grown c.in_ok-v.ensures.value
          _ (get_or xs loop.x-index 0) c.in_ok-write.ensures.value room);
    }

pub returns-then-x-v-clause-meaning : goal.returns-then-x-v-clause-meaning
returns-then-x-v-clause-meaning g c =
    let xs = c.args.self.now.amounts.now in
    let over : 2 ^ 64 ≤ c.in_ok-v.v + get_or xs c.loop-x.x-index 0 = omega arith in
    adds_none 1 (λ _. ⊤) _ _ xs c.loop-x.x-index c.in_ok-v.v c.loop-x.invariant.grown c.in_ok-v.ensures.value c.loop-x-test.true over

pub returns-clause-meaning : goal.returns-clause-meaning
returns-clause-meaning g c =
    adds_all 1 (λ _. ⊤) _ c.args.self.now.amounts.now c.loop-x.x-index c.loop-x.invariant.grown c.loop-x-test.false
