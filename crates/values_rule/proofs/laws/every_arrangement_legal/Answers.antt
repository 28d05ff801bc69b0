use Rattle.values_rule.proofs.Whole.Legality.{place, leaves_good, attempts_legal}
use Rattle.values_rule.proofs.laws.every_arrangement_legal.Goals as goal

pub returns-clause-placed : goal.returns-clause-placed
returns-clause-placed g c = λ shape n base words views order h q a. place (g.S.Shape.good shape) n base words views h q order a

pub returns-clause-leaves_good : goal.returns-clause-leaves_good
returns-clause-leaves_good g c = λ shape n base words views order h q a. leaves_good (g.S.Shape.good shape) n base words views h q order a

pub returns-clause-attempts_legal : goal.returns-clause-attempts_legal
returns-clause-attempts_legal g c = λ shape n base words views order h q a.
    attempts_legal (g.S.Shape.good shape) n base words views h q order a
