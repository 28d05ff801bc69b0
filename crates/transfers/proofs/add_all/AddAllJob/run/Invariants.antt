use Rattle.transfers.proofs.Common.{◌≡◌, [], None, sum, take, ⊤, Leads}
use Rattle.transfers.proofs.Growing.{Grown}
use Rattle.transfers.proofs.add_all.AddAllJob.run.Given as goal

abbrev pub invariant-loop-x : goal.invariant-loop-x
invariant-loop-x g l =
    let words = g.W.Words in
    record {
      shape : words.shape l.w ≡ words.shape l.fn.w;
      origin : words.origin l.w ≡ words.origin l.fn.w;
      stop : words.stop l.w ≡ None;
      sound : words.is_sound l.w;
      grown : Leads 1 (λ _. ⊤) [] (words.trace l.w) (Grown (sum (take l.x-index l.self.amounts.now)));
    }
