use Rattle.word_table.proofs.Common.{IsGood}
use Rattle.word_table.proofs.Runs.Looking.{looks_are_waits}
use Rattle.word_table.proofs.Runs.Waiting.{has_no_circle, has_no_deadlock}
use Rattle.word_table.proofs.Runs.Ending.{waits_end}
use Rattle.word_table.proofs.Runs.Arising.{waits_arise}
use Rattle.word_table.proofs.laws.every_wait.Goals as goal

pub returns-clause-looks : goal.returns-clause-looks
returns-clause-looks g c shape n base = looks_are_waits (IsGood (g.S.Shape.word_count shape) (g.S.Shape.good shape)) n base

pub returns-clause-arise : goal.returns-clause-arise
returns-clause-arise g c shape base = waits_arise (IsGood (g.S.Shape.word_count shape) (g.S.Shape.good shape)) base

pub returns-clause-circle : goal.returns-clause-circle
returns-clause-circle g c shape n base = has_no_circle (IsGood (g.S.Shape.word_count shape) (g.S.Shape.good shape)) n base

pub returns-clause-deadlock : goal.returns-clause-deadlock
returns-clause-deadlock g c shape n base = has_no_deadlock (IsGood (g.S.Shape.word_count shape) (g.S.Shape.good shape)) n base

pub returns-clause-ends : goal.returns-clause-ends
returns-clause-ends g c shape n base = waits_end (IsGood (g.S.Shape.word_count shape) (g.S.Shape.good shape)) n base
