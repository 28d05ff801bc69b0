use Rattle.word_table.proofs.Common.{ℕ, ◌+◌, ◌^◌, ◌<◌, subst}
use Rattle.word_table.proofs.step.add.Goals as goal

-- the number that was found in a sound table has room for one more
pub returns-clause-fits : goal.returns-clause-fits
returns-clause-fits g c = let k = c.args.table.now.key in let t = c.add_by.ensures.took.0 in
    subst (λ (x : ℕ). x + 1 < 2 ^ 64) t.found_is (c.requires.room k.seats k.base.items t.words t.views t.place t.holds t.knows)
