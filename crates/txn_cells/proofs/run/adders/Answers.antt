use Rattle.txn_cells.proofs.Common.{◌≡◌, ◌∷◌, [], length, refl, ap, arith}
use Rattle.std.proofs.Common.{length-append}
use Rattle.std.proofs.lemmas.List.Elements.{All-push, All-same}
use Rattle.txn_cells.specs.declared.rounds.Adder.{Adder}
use Rattle.txn_cells.proofs.run.adders.Goals as goal

pub loop-preserved : goal.loop-preserved
loop-preserved g c =
    let at = c.loop in
    let is = c.in_ok-push.ensures.items in
    let Worker = Adder g.row.G.Denot in
    let IsNew = λ (w : Worker). (w.shape ≡ c.args.shape) × (w.rounds ≡ c.args.rounds) in
    let adder : Worker = record { shape = c.args.shape; rounds = c.args.rounds; gate = c.args.gate } in
    record {
      count = omega (arith, ap (λ l. length l) is, length-append at.adders.items (adder ∷ []), at.invariant.count);
      new = All-same IsNew _ _ is (All-push IsNew at.adders.items adder at.invariant.new (refl, refl));
    }
