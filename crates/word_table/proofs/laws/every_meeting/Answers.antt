use Rattle.word_table.proofs.Common.{IsGood}
use Rattle.word_table.proofs.Runs.Meetings.{meets_in_conflict, never_meets_apart}
use Rattle.word_table.proofs.laws.every_meeting.Goals as goal

pub returns-clause-conflict : goal.returns-clause-conflict
returns-clause-conflict g c shape n base = meets_in_conflict (IsGood (g.S.Shape.word_count shape) (g.S.Shape.good shape)) n base

pub returns-clause-apart : goal.returns-clause-apart
returns-clause-apart g c shape n base = never_meets_apart (IsGood (g.S.Shape.word_count shape) (g.S.Shape.good shape)) n base
