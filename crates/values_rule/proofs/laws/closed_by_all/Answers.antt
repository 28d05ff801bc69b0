use Rattle.values_rule.proofs.Whole.Closing.{agree_with_table, has_arrangement, memory_is_left}
use Rattle.values_rule.proofs.laws.closed_by_all.Goals as goal

pub returns-clause-agree : goal.returns-clause-agree
returns-clause-agree g c = λ shape n base words views id v h q me rests all.
    agree_with_table (g.S.Shape.good shape) n base words views id v h q me rests all

pub returns-clause-arranged : goal.returns-clause-arranged
returns-clause-arranged g c = λ shape n base words views id v h q me rests all.
    has_arrangement (g.S.Shape.good shape) n base words views id v h q me rests all

pub returns-clause-memory : goal.returns-clause-memory
returns-clause-memory g c = λ shape n base words views id v h q me rests all.
    memory_is_left (g.S.Shape.good shape) n base words views id v h q me rests all
