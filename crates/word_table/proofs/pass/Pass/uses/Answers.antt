use Rattle.word_table.proofs.Common.{◌≡◌, ◌⊎◌, [], sym, subst, Running, Withdrawing, PassView, AreUsesOf}
use Rattle.word_table.proofs.Copied.Listings.{all_uses}
use Rattle.word_table.proofs.pass.Pass.uses.Goals as goal

pub returns-clause-uses : goal.returns-clause-uses
returns-clause-uses g c = subst (λ (p : PassView). AreUsesOf p.view c.list_words.new.uses.items) c.self.view_is
    (all_uses c.self.inside.seat.me.0 c.self.inside.locks.versions c.list_words.new.uses.items c.self.invariant.locks_are.versions_are
    (subst (λ (p : PassView). (p.view.phase ≡ Running) ⊎ ((p.view.phase ≡ Withdrawing) × (p.view.undo ≡ []))) (sym c.self.view_is) c.requires)
    c.list_words.ensures.listed)
