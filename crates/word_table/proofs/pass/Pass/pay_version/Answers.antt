use Rattle.word_table.proofs.Common.{◌≡◌, ◌⊎◌, false, List, ℕ, [], sym, ap, ◌∙◌, subst, View, Releasing, has, without-absent, PassView}
use Rattle.word_table.proofs.Copied.VersionCopies.{marked_owed, unmarked_unowed}
use Rattle.word_table.proofs.pass.Pass.pay_version.Goals as goal

pub store_version-requires-clause-phase : goal.store_version-requires-clause-phase
store_version-requires-clause-phase g c = let i = c.self.invariant in let p = c.self.inside in let v : View = p.seat.me.0 in
    sym (ap (λ (x : PassView). x.view.phase) c.self.view_is)
    ∙ (marked_owed p.locks.versions v.uses v.owed v.trace v.undo v.phase i.locks_are.versions_are c.args.k c.requires.claim.0
    c.test.result c.test.ensures (λ e. c.requires.begun (sym (ap (λ (x : PassView). x.view.phase) c.self.view_is) ∙ e))
    (subst (λ (x : PassView). (x.view.undo ≡ []) ⊎ (x.view.phase ≡ Releasing)) (sym c.self.view_is) c.requires.undone) c.if-test.true).0

pub store_version-requires-clause-owed : goal.store_version-requires-clause-owed
store_version-requires-clause-owed g c = let i = c.self.invariant in let p = c.self.inside in let v : View = p.seat.me.0 in
    sym (ap (λ (x : PassView). has c.args.k x.view.owed) c.self.view_is)
    ∙ (marked_owed p.locks.versions v.uses v.owed v.trace v.undo v.phase i.locks_are.versions_are c.args.k c.requires.claim.0
    c.test.result c.test.ensures (λ e. c.requires.begun (sym (ap (λ (x : PassView). x.view.phase) c.self.view_is) ∙ e))
    (subst (λ (x : PassView). (x.view.undo ≡ []) ⊎ (x.view.phase ≡ Releasing)) (sym c.self.view_is) c.requires.undone) c.if-test.true).1

pub returns-else-test-clause-view : goal.returns-else-test-clause-view
returns-else-test-clause-view g c = let i = c.self.invariant in let p = c.self.inside in let v : View = p.seat.me.0 in
    let free : has c.args.k c.args.self.now.view.owed ≡ false = sym (ap (λ (x : PassView). has c.args.k x.view.owed) c.self.view_is)
    ∙ unmarked_unowed p.locks.versions v.uses v.owed v.trace v.undo v.phase i.locks_are.versions_are c.args.k c.requires.claim.0
    c.test.result c.test.ensures c.if-test.false in
    ap (λ (l : List ℕ). record c.args.self.now.view { owed = l }) (sym (without-absent c.args.k c.args.self.now.view.owed free))
