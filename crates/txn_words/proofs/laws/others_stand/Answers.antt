use Rattle.txn_words.proofs.FrameLaws.{appended_keeps}
use Rattle.txn_words.proofs.laws.others_stand.Goals as goal

pub returns : goal.returns
returns c = appended_keeps
