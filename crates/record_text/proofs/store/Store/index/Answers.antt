use Rattle.record_text.proofs.Common.{[], ◌++◌, ◌∷◌, map, sym, ap, ◌∙◌, subst, append-nil, nat_cmp_total, keys_of, IsStrictlySortedBy, nat_cmp}
use Rattle.record_text.proofs.Common.{entries-from_entries, index_cmp}
use Rattle.record_text.proofs.Indexes.{one_more, place_of, Stored}
use Rattle.std.specs.FinMap as finite
use Rattle.record_text.proofs.store.Store.index.Goals as goal

pub loop-id-init : goal.loop-id-init
loop-id-init c =
    let gives = c.into_iter-id-iterator.ensures.into_iter_gives in
    let ordered = gives.5 in
    let all = ap (λ s. finite.entries s.records) (sym c.self.view_is) ∙ entries-from_entries nat_cmp_total c.self.inside.records.entries ordered in (
      [],
      record {
        sorted = subst (λ l. IsStrictlySortedBy nat_cmp (keys_of l)) (sym all) ordered;
        whole = all ∙ sym gives.0;
        so_far = ap (λ l. finite.from_entries {R = index_cmp} l) c.new-index.ensures.empty;
      },
    )

pub loop-id-preserved : goal.loop-id-preserved
loop-id-preserved c =
    let e : Stored = (c.in-Some.id.now, c.in-Some.field-0-1.now) in (
      c.loop-id.invariant.0 ++ e ∷ [],
      one_more _ c.loop-id.invariant.0 c.loop-id.id-iterator e c.next.new.self c.loop-id.index.entries
          c.insert.new.self.entries c.in-Some.ensures.steps c.in_ok-insert.ensures.updates.0 c.loop-id.invariant.1,
    )

pub returns : goal.returns
returns c =
    let i = c.loop-id.invariant.1 in
    i.so_far ∙ ap (λ l. finite.from_entries {R = index_cmp} (map place_of l))
    (sym (i.whole ∙ ap (λ l. c.loop-id.invariant.0 ++ l) c.in-None.ensures.steps.0 ∙ append-nil c.loop-id.invariant.0))
