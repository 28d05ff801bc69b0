use Rattle.record_text.proofs.Common.{sym, ap, ◌∙◌, nat_cmp_total, get-lookup}
use Rattle.std.specs.FinMap as finite
use Rattle.record_text.proofs.store.Store.get.Goals as goal

pub returns : goal.returns
returns c = c.copied.ensures ∙ c.get.ensures.value
    ∙ sym (get-lookup nat_cmp_total c.self.inside.records.entries c.args.id) ∙ ap (λ s. finite.get s.records c.args.id) c.self.view_is
