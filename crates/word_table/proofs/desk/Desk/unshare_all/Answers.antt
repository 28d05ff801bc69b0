use Rattle.word_table.proofs.Common.{View, DeskHolds, rising}
use Rattle.word_table.specs.Unsharing.{ClearsEach}
use Rattle.word_table.proofs.Calls.Taken.{of_desk}
use Rattle.word_table.proofs.Calls.Unsharing.{cleared_grants, cleared_phase, cleared_rest}
use Rattle.word_table.proofs.desk.Desk.unshare_all.Goals as goal

pub returns-clause-taken : goal.returns-clause-taken
returns-clause-taken g c = let old : View = c.args.pass.now.view in
    of_desk g.S.Shape.word_count g.S.Shape.good _ c.args.self.now
    (λ sound. ClearsEach sound (rising old.bits) old c.clear_read_bits.new.self.view) c.self.view_is c.clear_read_bits.ensures.clears

pub returns-clause-rest : goal.returns-clause-rest
returns-clause-rest g c = let old : View = c.args.pass.now.view in
    cleared_rest (DeskHolds g.S.Shape.word_count g.S.Shape.good c.args.self.now) (rising old.bits) old c.clear_read_bits.new.self.view
    (returns-clause-taken g c)

pub returns-clause-phase : goal.returns-clause-phase
returns-clause-phase g c = let old : View = c.args.pass.now.view in
    cleared_phase (DeskHolds g.S.Shape.word_count g.S.Shape.good c.args.self.now) (rising old.bits) old c.clear_read_bits.new.self.view
    (returns-clause-taken g c)

pub returns-clause-grants : goal.returns-clause-grants
returns-clause-grants g c k bit = let old : View = c.args.pass.now.view in
    cleared_grants (DeskHolds g.S.Shape.word_count g.S.Shape.good c.args.self.now) (rising old.bits) old c.clear_read_bits.new.self.view
    (returns-clause-taken g c) k bit (c.clear_read_bits.ensures.none k)
