use Rattle.transfers.proofs.Common.{subst, sym, refl, arith, nothing_yet, was_read, HasSum}
use Rattle.std.proofs.lemmas.Option.{slice_get_past}
use Rattle.transfers.proofs.look.LookJob.run.Goals as goal

pub returns-then-place-vault-clause-meaning : goal.returns-then-place-vault-clause-meaning
returns-then-place-vault-clause-meaning g c s fit =
    record { keeps = refl; tells = sym (slice_get_past s _ (omega (arith, fit.count, c.if-place-vault.true))); same = nothing_yet _ s c.requires.fresh }

pub returns-then-place-vault-clause-good : goal.returns-then-place-vault-clause-good
returns-then-place-vault-clause-good g c kept s fit =
    subst (HasSum c.args.self.now.vault.total) (sym (nothing_yet _ s c.requires.fresh)) fit.good

pub returns-clause-meaning : goal.returns-clause-meaning
returns-clause-meaning g c s fit =
    let r = was_read _ _ _ _ c.args.self.now.place c.in_ok-held.held s s (nothing_yet _ s c.requires.fresh) c.in_ok-held.ensures.value fit in
    record { keeps = refl; tells = sym r.value; same = r.same }

pub returns-clause-good : goal.returns-clause-good
returns-clause-good g c kept s fit =
    let r = was_read _ _ _ _ c.args.self.now.place c.in_ok-held.held s s (nothing_yet _ s c.requires.fresh) c.in_ok-held.ensures.value fit in
    subst (HasSum c.args.self.now.vault.total) (sym r.same) fit.good
