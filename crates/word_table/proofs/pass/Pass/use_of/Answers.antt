use Rattle.word_table.proofs.Common.{◌≡◌, ℕ, ◌<◌, slice_index, sym, ap, ◌∙◌, subst, arith, LOCKS, View, IsIn, PassView}
use Rattle.word_table.proofs.Copied.VersionCopies.{bit_used, used_found}
use Rattle.word_table.proofs.pass.Pass.use_of.Goals as goal

pub returns-clause-found : goal.returns-clause-found
returns-clause-found g c = let r = c.self.invariant.locks_are.versions_are in let p = c.self.inside in let v : View = p.seat.me.0 in
    let near : c.args.k < LOCKS = omega arith in
    let is : c.use_at.result.version ≡ slice_index p.locks.versions.found.items c.args.k =
    c.use_at.ensures.copied.version ∙ ap (λ (k : ℕ). slice_index p.locks.versions.found.items k) c.use_at.ensures.lock in (
      c.use_at.ensures.lock,
      subst (λ (x : PassView). IsIn (c.args.k, c.use_at.result.version) x.view.uses) c.self.view_is
          (subst (λ (n : ℕ). IsIn (c.args.k, n) v.uses) (sym is)
          (used_found p.locks.versions v.uses v.owed v.trace v.undo v.phase r c.args.k
          (bit_used p.locks.versions v.uses v.owed v.trace v.undo v.phase r c.args.k near c.test.result c.test.ensures ∙ c.if-not-test.false))),
    )

-- the attempt found the version once
pub returns-clause-once : goal.returns-clause-once
returns-clause-once g c = λ x t. let p = c.self.inside in
    sym (c.self.invariant.locks_are.versions_are.found_are c.args.k x (subst (λ (y : PassView). IsIn (c.args.k, x) y.view.uses) (sym c.self.view_is) t))
    ∙ sym (c.use_at.ensures.copied.version ∙ ap (λ (k : ℕ). slice_index p.locks.versions.found.items k) c.use_at.ensures.lock)
