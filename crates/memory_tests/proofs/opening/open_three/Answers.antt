use Rattle.std.proofs.Common.{◌≡◌, [], ◌∷◌, refl, arith}
use Rattle.word_table.proofs.Openings.Opened.{three_of, has_opened}
use Rattle.memory_tests.proofs.opening.open_three.Goals as goal

all_three : (c : goal.After-drop-passes) → c.in_ok-desk.passes.items ≡ c.in-Some-pop-2.zero ∷ c.in-Some-pop.one ∷ c.in-Some.two ∷ []
all_three c = three_of _ _ _ _ c.in-Some-pop-2.zero c.in-Some-pop.one c.in-Some.two c.in-Some.ensures.items
    c.in-Some-pop.ensures.items c.in-Some-pop-2.ensures.items c.in_ok-desk.ensures.count

pub returns-clause-zero : goal.returns-clause-zero
returns-clause-zero c = has_opened c.in_ok-desk.desk c.in_ok-base.base.items 3 0 _ _ _ (all_three c) refl
    (c.in_ok-desk.ensures.passes 0 (omega arith)) c.in_ok-desk.ensures.desk.0

pub returns-clause-one : goal.returns-clause-one
returns-clause-one c = has_opened c.in_ok-desk.desk c.in_ok-base.base.items 3 1 _ _ _ (all_three c) refl
    (c.in_ok-desk.ensures.passes 1 (omega arith)) c.in_ok-desk.ensures.desk.0

pub returns-clause-two : goal.returns-clause-two
returns-clause-two c = has_opened c.in_ok-desk.desk c.in_ok-base.base.items 3 2 _ _ _ (all_three c) refl
    (c.in_ok-desk.ensures.passes 2 (omega arith)) c.in_ok-desk.ensures.desk.0
