use Rattle.word_table.proofs.Common.{lock_of_word}
use Rattle.word_table.proofs.Calls.Answering.{not_granted}
use Rattle.word_table.proofs.desk.Desk.share.Goals as goal

pub share_new-requires-clause-free : goal.share_new-requires-clause-free
share_new-requires-clause-free g c = not_granted c.args.pass.now.view (lock_of_word c.args.a) c.lock_of.result c.is_granted.result
    c.lock_of.ensures.lock c.is_granted.ensures.1 c.if-is_granted.false

pub returns-clause-held : goal.returns-clause-held
returns-clause-held g c held = absurd (not_granted c.args.pass.now.view (lock_of_word c.args.a) c.lock_of.result c.is_granted.result
    c.lock_of.ensures.lock c.is_granted.ensures.1 c.if-is_granted.false held)

pub returns-clause-held_if : goal.returns-clause-held_if
returns-clause-held_if g c same = absurd (c.share_new.ensures.moves same)
