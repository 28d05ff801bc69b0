use Rattle.word_table.proofs.Joined.Noting.{both_seen}
use Rattle.word_table.proofs.desk.Desk.meet.Goals as goal

pub returns-clause-both : goal.returns-clause-both
returns-clause-both g c = both_seen c.args.pass.now.view c.meet_note.new.self.view c.args.note.seen c.meet_note.ensures.view
