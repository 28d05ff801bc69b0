use Rattle.word_table.proofs.Common.{ℕ, sym, ap, subst, ◌∙◌, IfOk-from_err, AreAllPasses, IsGood}
use Rattle.word_table.proofs.Openings.Opening.{opening_sound}
use Rattle.word_table.proofs.Joined.Gathering.{fresh_passes}
use Rattle.word_table.proofs.desk.Desk.new.Goals as goal

pub lay_table-requires : goal.lay_table-requires
lay_table-requires g c = opening_sound (IsGood (g.S.Shape.word_count c.args.shape) (g.S.Shape.good c.args.shape))
    c.args.n c.args.base.items c.as_slice.result.now (c.as_slice.ensures.value ∙ c.in_ok-words.ensures) c.requires.good

pub returns-clause-all : goal.returns-clause-all
returns-clause-all g c = let t = c.in_ok-table.table in
    subst (λ (m : ℕ). AreAllPasses t.table_id m c.in_ok-passes.passes.items) (sym (ap (λ (x : _). x.seats) c.in_ok-table.ensures.table.2))
    (fresh_passes t.key.base.items c.args.n t.table_id c.in_ok-passes.passes.items c.in_ok-passes.ensures.count c.in_ok-passes.ensures.passes)

pub returns-in_err-words : goal.returns-in_err-words
returns-in_err-words g c = let failed = c.from_residual.ensures.0 in search IfOk-from_err

pub returns-in_err-table : goal.returns-in_err-table
returns-in_err-table g c = let failed = c.from_residual-in_err-table.ensures.0 in search IfOk-from_err

pub returns-in_err-passes : goal.returns-in_err-passes
returns-in_err-passes g c = let failed = c.from_residual-in_err-passes.ensures.0 in search IfOk-from_err
