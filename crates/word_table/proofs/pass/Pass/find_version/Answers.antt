use Rattle.word_table.proofs.Common.{◌≡◌, ℕ, false, inr, sym, ap, ◌∙◌, View, IsGood, lock_of_word, has, PassView, IsSound, locks_found}
use Rattle.word_table.proofs.Calls.Versioning.{finds_view, finds_used}
use Rattle.word_table.proofs.Copied.VersionCopies.{bit_used}
use Rattle.word_table.proofs.pass.Pass.find_version.Goals as goal

-- the lock had no use, and its version was loaded
pub returns-clause-finds : goal.returns-clause-finds
returns-clause-finds g c = let i = c.self.invariant in let p = c.self.inside in let v : View = p.seat.me.0 in let k : ℕ = c.lock_of.result in
    let unused : has (lock_of_word c.args.a) (locks_found c.args.self.now.view.uses) ≡ false =
    ap (λ (m : ℕ). has m (locks_found c.args.self.now.view.uses)) (sym c.lock_of.ensures.lock)
    ∙ (sym (ap (λ (x : PassView). has k (locks_found x.view.uses)) c.self.view_is)
    ∙ (bit_used p.locks.versions v.uses v.owed v.trace v.undo v.phase i.locks_are.versions_are k c.lock_of.ensures.below c.test.result
    c.test.ensures ∙ c.if-test.false)) in
    inr (unused, c.load_version.ensures.taken)

pub returns-clause-view : goal.returns-clause-view
returns-clause-view g c = finds_view (IsSound (IsGood (g.S.Shape.word_count c.args.table.now.key.shape)
    (g.S.Shape.good c.args.table.now.key.shape)) c.args.table.now.key.seats c.args.table.now.key.base.items)
    (lock_of_word c.args.a) c.args.self.now.view c.load_version.new.self.view (returns-clause-finds g c)

pub returns-clause-used : goal.returns-clause-used
returns-clause-used g c = finds_used (IsSound (IsGood (g.S.Shape.word_count c.args.table.now.key.shape)
    (g.S.Shape.good c.args.table.now.key.shape)) c.args.table.now.key.seats c.args.table.now.key.base.items)
    (lock_of_word c.args.a) c.args.self.now.view c.load_version.new.self.view (returns-clause-finds g c)
