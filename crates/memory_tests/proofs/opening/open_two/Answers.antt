use Rattle.std.proofs.Common.{refl, arith}
use Rattle.word_table.proofs.Openings.Opened.{two_of, has_opened}
use Rattle.memory_tests.proofs.opening.open_two.Goals as goal

pub returns-clause-zero : goal.returns-clause-zero
returns-clause-zero g c = has_opened c.in_ok-desk.desk c.args.base.items 2 0 _ _ _
    (two_of _ _ _ c.in-Some-pop.zero c.in-Some.one c.in-Some.ensures.items c.in-Some-pop.ensures.items c.in_ok-desk.ensures.count) refl
    (c.in_ok-desk.ensures.passes 0 (omega arith)) c.in_ok-desk.ensures.desk.0

pub returns-clause-one : goal.returns-clause-one
returns-clause-one g c = has_opened c.in_ok-desk.desk c.args.base.items 2 1 _ _ _
    (two_of _ _ _ c.in-Some-pop.zero c.in-Some.one c.in-Some.ensures.items c.in-Some-pop.ensures.items c.in_ok-desk.ensures.count) refl
    (c.in_ok-desk.ensures.passes 1 (omega arith)) c.in_ok-desk.ensures.desk.0
