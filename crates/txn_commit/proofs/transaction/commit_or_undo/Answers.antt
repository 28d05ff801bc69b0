use Rattle.txn_commit.proofs.Common.{sym, ap, ◌∙◌, subst, View, IsGood, Trace, IsLegalTrace, after}
use Rattle.txn_words.proofs.Common.{length-after}
use Rattle.txn_commit.proofs.Settling.{knew_since, lists_since}
use Rattle.txn_commit.proofs.transaction.commit_or_undo.Goals as goal

pub commit-requires-clause-leaves_good : goal.commit-requires-clause-leaves_good
commit-requires-clause-leaves_good g c kept words fine legal =
    let same = ap (λ (v : View). v.trace) (c.undo_unless.ensures.undone.stays kept) in
    subst (λ (t : Trace). IsGood (g.S.Shape.word_count c.args.attempt.now.desk.now.shape)
    (g.S.Shape.good c.args.attempt.now.desk.now.shape) (after t words)) (sym same)
    (record {
      count = length-after c.args.attempt.now.pass.now.view.trace words ∙ fine.count;
      good = c.requires.leaves_good kept words (record {
        count = fine.count;
        good = fine.good;
        legal = subst (λ (t : Trace). IsLegalTrace t words) same legal;
      });
    })

-- what was listed before the commit is what the entry has
pub returns-clause-uses : goal.returns-clause-uses
returns-clause-uses g c = let sound = c.requires.sound in
    lists_since c.args.kept c.args.attempt.now.pass.now.view c.undo_unless.new.pass.view c.in-Ok.uses.items c.undo_unless.ensures.undone
    c.in-Ok.ensures.uses sound.fits.0 (sym sound.log_is ∙ sound.noted sound.fits.0 sound.fits.1)

pub returns-clause-knew : goal.returns-clause-knew
returns-clause-knew g c = knew_since c.args.kept c.args.attempt.now.pass.now.view c.undo_unless.new.pass.view c.undo_unless.ensures.undone c.commit.ensures.knew
