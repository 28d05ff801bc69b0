use Rattle.word_table.proofs.Common.{◌≡◌, false, inr, ap, View, lock_of_word, has, not_true, locks_found}
use Rattle.word_table.proofs.Calls.Versioning.{finds_used, finds_view}
use Rattle.word_table.proofs.desk.Desk.find_new.Goals as goal

pub load_version-requires-clause-unused : goal.load_version-requires-clause-unused
load_version-requires-clause-unused g c = not_true (has (lock_of_word c.args.a) (locks_found c.args.pass.now.view.uses)) c.requires.unused

pub returns-clause-view : goal.returns-clause-view
returns-clause-view g c = let unused : has (lock_of_word c.args.a) (locks_found c.args.pass.now.view.uses) ≡ false =
    not_true (has (lock_of_word c.args.a) (locks_found c.args.pass.now.view.uses)) c.requires.unused in
    finds_view _ (lock_of_word c.args.a) c.args.pass.now.view c.load_version.new.self.view (inr (unused, c.load_version.ensures.taken))

pub returns-clause-uses : goal.returns-clause-uses
returns-clause-uses g c = let t = c.load_version.ensures.taken in (t.0, ap (λ (u : View). u.uses) t.1.view)

pub returns-clause-used : goal.returns-clause-used
returns-clause-used g c = let unused : has (lock_of_word c.args.a) (locks_found c.args.pass.now.view.uses) ≡ false =
    not_true (has (lock_of_word c.args.a) (locks_found c.args.pass.now.view.uses)) c.requires.unused in
    finds_used _ (lock_of_word c.args.a) c.args.pass.now.view c.load_version.new.self.view (inr (unused, c.load_version.ensures.taken))
