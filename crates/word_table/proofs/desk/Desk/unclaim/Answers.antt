use Rattle.word_table.proofs.Common.{ap, ◌∙◌, subst, View, has, number, has-without_same, release_writer_action, DeskHolds, TakenIn}
use Rattle.word_table.specs.Calls.{Pays}
use Rattle.word_table.proofs.Calls.Staying.{claim_gone}
use Rattle.word_table.proofs.Calls.Taken.{of_desk}
use Rattle.word_table.proofs.desk.Desk.unclaim.Goals as goal

pub release_writer-requires-clause-unowed : goal.release_writer-requires-clause-unowed
release_writer-requires-clause-unowed g c = ap (λ (v : View). has c.args.k v.owed) c.pay_version.ensures.view
    ∙ has-without_same c.args.k c.args.pass.now.view.owed

pub returns-clause-step : goal.returns-clause-step
returns-clause-step g c = c.release_writer.ensures.view
    ∙ ap (λ (v : View). (release_writer_action (number v) c.args.k v).view 0) c.pay_version.ensures.view

pub returns-clause-gone : goal.returns-clause-gone
returns-clause-gone g c = claim_gone c.pay_version.new.self.view c.release_writer.new.self.view c.args.k c.release_writer.ensures.view

-- what was owed was paid, and the claim given up then
pub returns-clause-taken : goal.returns-clause-taken
returns-clause-taken g c = let t = c.release_writer.ensures.taken in record {
  pays = of_desk g.S.Shape.word_count g.S.Shape.good _ c.args.self.now (λ sound. Pays sound c.args.k c.args.pass.now.view)
      c.self.view_is c.pay_version.ensures.pays;
  found = t.0;
  taken = subst (λ (v : View). TakenIn (DeskHolds g.S.Shape.word_count g.S.Shape.good c.args.self.now)
      (release_writer_action (number v) c.args.k v) v t.0 c.release_writer.new.self.view) c.pay_version.ensures.view
      (of_desk g.S.Shape.word_count g.S.Shape.good _ c.args.self.now
      (λ sound. TakenIn sound (release_writer_action (number c.pay_version.new.self.view) c.args.k c.pay_version.new.self.view)
      c.pay_version.new.self.view t.0 c.release_writer.new.self.view) c.self.view_is t.1);
}
