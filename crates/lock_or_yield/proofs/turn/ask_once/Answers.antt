use Rattle.lock_or_yield.proofs.Common.{Some, None, refl, sym, subst, RuleHolds, Intent, ComesTo}
use Rattle.lock_or_yield.proofs.Turning.{share_clear, share_meets}
use Rattle.lock_or_yield.proofs.turn.ask_once.Goals as goal

pub returns-in-Granted-clause-once : goal.returns-in-Granted-clause-once
returns-in-Granted-clause-once g c = let sound = RuleHolds g.S.Shape c.args.desk.now in let h = c.in-Granted.ensures in
    subst (λ (i : Intent). ComesTo i sound c.args.a c.args.pass.now.view None c.share.new.pass.view) (sym c.in-Read.is)
    (share_clear sound c.args.a c.args.pass.now.view c.share.new.pass.view h.step h.call h.grants (h.granted refl))

pub returns-in-Met-clause-once : goal.returns-in-Met-clause-once
returns-in-Met-clause-once g c = let sound = RuleHolds g.S.Shape c.args.desk.now in let h = c.in-Met.ensures in let j = c.in-Met.seat in
    subst (λ (i : Intent). ComesTo i sound c.args.a c.args.pass.now.view (Some j) c.share.new.pass.view) (sym c.in-Read.is)
    (share_meets sound c.args.a j c.args.pass.now.view c.share.new.pass.view h.step h.call h.grants (h.met j refl))

pub returns-in-Write-clause-once : goal.returns-in-Write-clause-once
returns-in-Write-clause-once g c = let h = c.claim_and_scan.ensures in
    subst (λ (i : Intent). ComesTo i (RuleHolds g.S.Shape c.args.desk.now) c.args.a c.args.pass.now.view c.claim_and_scan.result
    c.claim_and_scan.new.pass.view) (sym c.in-Write.is) (record { asks = h.asks; clear = h.clear; met = h.met; held = h.held })
