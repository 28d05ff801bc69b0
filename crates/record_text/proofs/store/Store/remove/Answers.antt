use Rattle.record_text.proofs.Common.{◌≡◌, sym, ap, ◌∙◌, subst, nat_cmp_total, get-lookup, the_view, Gives, RecordStore, HasRoom}
use Rattle.books_report.specs.Stores.Steps.{step_with}
use Rattle.record_text.proofs.Removals.{is_absent, is_gone, keeps_room, removed_from_tree}
use Rattle.record_text.proofs.store.Store.remove.Goals.{Joined-remove, in-Some, in-None}
use Rattle.std.specs.FinMap as finite
use Rattle.record_text.specs.declared.reply.RecordValue.TheVariants as value
use Rattle.record_text.proofs.store.Store.remove.Goals as goal

-- the records after the removal
records_after : (c : Joined-remove) → finite.from_entries c.remove.new.self.entries ≡ finite.remove c.args.self.now.records c.args.id
records_after c =
    removed_from_tree c.self.inside.records.entries c.remove.new.self.entries c.args.self.now.records c.args.id
    (ap (λ s. s.records) c.self.view_is) c.remove.ensures.updates.0

-- what was there
found : (c : Joined-remove) → finite.get c.args.self.now.records c.args.id ≡ c.remove.result
found c = ap (λ s. finite.get s.records c.args.id) (sym c.self.view_is)
    ∙ get-lookup nat_cmp_total c.self.inside.records.entries c.args.id ∙ sym c.remove.ensures.value

pub invariant_of-self : goal.invariant_of-self
invariant_of-self c =
    subst HasRoom (ap (λ (s : RecordStore). record s { records = finite.remove c.args.self.now.records c.args.id }) (sym c.self.view_is)
    ∙ ap (λ records. record (the_view c.self.inside) { records = records }) (sym (records_after c)))
    (keeps_room c.args.self.now c.args.id (subst HasRoom c.self.view_is c.self.invariant))

pub returns-clause-step : goal.returns-clause-step
returns-clause-step c =
    elim c.match-remove.branch [
      | in-Some w ↦ is_gone c.args.self.now c.args.id w.in-Some.field-0 (found c ∙ w.in-Some.is)
          ∙ ap (λ records. Gives value.Gone records) (sym (records_after c))
          ∙ ap (λ o. step_with o (finite.from_entries c.remove.new.self.entries)) (sym w.result-is)
      | in-None w ↦ is_absent c.args.self.now c.args.id (found c ∙ w.in-None.is)
          ∙ ap (λ o. step_with o (finite.from_entries c.remove.new.self.entries)) (sym w.result-is)
    ]
