use Rattle.word_table.proofs.Common.{ap, ◌∙◌, subst, View, IsGranted, PassView}
use Rattle.word_table.proofs.Copied.VersionCopies.{bit_used}
use Rattle.word_table.proofs.pass.Pass.has_use.Goals as goal

-- an attempt that runs holds the locks of its uses
pub returns-clause-granted : goal.returns-clause-granted
returns-clause-granted g c used runs = let i = c.self.invariant in let p = c.self.inside in let v : View = p.seat.me.0 in
    subst (λ (x : PassView). IsGranted x.view c.args.k) c.self.view_is
    (i.holds_used (ap (λ (x : PassView). x.view.phase) c.self.view_is ∙ runs) c.args.k
    (bit_used p.locks.versions v.uses v.owed v.trace v.undo v.phase i.locks_are.versions_are c.args.k c.requires c.test.result
    c.test.ensures ∙ used))
