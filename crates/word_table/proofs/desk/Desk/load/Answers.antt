use Rattle.word_table.proofs.Common.{lock_of_word, FindsVersion}
use Rattle.word_table.proofs.Calls.Taken.{of_desk}
use Rattle.word_table.proofs.desk.Desk.load.Goals as goal

-- the version was found, and the value loaded then
pub returns-clause-taken : goal.returns-clause-taken
returns-clause-taken g c = record {
  between = c.find_version.new.self.view;
  finds = of_desk g.S.Shape.word_count g.S.Shape.good _ c.args.self.now
      (λ sound. FindsVersion sound (lock_of_word c.args.a) c.args.pass.now.view c.find_version.new.self.view) c.self.view_is c.find_version.ensures.finds;
  taken = c.load_used.ensures.taken;
}
