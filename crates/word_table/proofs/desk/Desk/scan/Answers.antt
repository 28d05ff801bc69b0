use Rattle.word_table.proofs.Common.{number, ScannedBy, DeskHolds}
use Rattle.word_table.proofs.Calls.Answering.{scan_clear, scan_met}
use Rattle.word_table.proofs.Calls.Taken.{of_desk}
use Rattle.word_table.proofs.Calls.Staying.{scan_leaves}
use Rattle.word_table.proofs.desk.Desk.scan.Goals as goal

pub returns-clause-step : goal.returns-clause-step
returns-clause-step g c = of_desk g.S.Shape.word_count g.S.Shape.good _ c.args.self.now
    (λ sound. ScannedBy sound c.args.pass.now.view c.args.k c.args.other c.look_for_bit.result
    c.look_for_bit.new.self.view) c.self.view_is c.look_for_bit.ensures.scanned

pub returns-clause-clear : goal.returns-clause-clear
returns-clause-clear g c = scan_clear (DeskHolds g.S.Shape.word_count g.S.Shape.good c.args.self.now)
    c.args.pass.now.view c.args.k c.args.other c.look_for_bit.result c.look_for_bit.new.self.view (returns-clause-step g c)

pub returns-clause-met : goal.returns-clause-met
returns-clause-met g c = scan_met (DeskHolds g.S.Shape.word_count g.S.Shape.good c.args.self.now) c.args.self.now.seats
    c.args.self.now.base (λ ws vs h. h.locks) c.args.pass.now.view c.args.k c.args.other (number c.args.pass.now.view)
    c.look_for_bit.result c.look_for_bit.new.self.view c.look_for_bit.ensures.one c.requires.claim.0 c.requires.other.0
    c.requires.other.1 (returns-clause-step g c)

pub returns-clause-call : goal.returns-clause-call
returns-clause-call g c = (scan_leaves (DeskHolds g.S.Shape.word_count g.S.Shape.good c.args.self.now)
    c.args.pass.now.view c.args.k c.args.other c.look_for_bit.result c.look_for_bit.new.self.view (returns-clause-step g c)).call

pub returns-clause-grants : goal.returns-clause-grants
returns-clause-grants g c = (scan_leaves (DeskHolds g.S.Shape.word_count g.S.Shape.good c.args.self.now)
    c.args.pass.now.view c.args.k c.args.other c.look_for_bit.result c.look_for_bit.new.self.view (returns-clause-step g c)).grants
