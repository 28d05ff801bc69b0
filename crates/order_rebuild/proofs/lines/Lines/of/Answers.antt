use Rattle.order_rebuild.proofs.Common.{◌<◌, ◌/◌, ℕ, List, length, map, slice_index, sym, ap, ◌∙◌, subst, IsNonDecreasing, Turn, LINE, AreStarts, AreChains}
use Rattle.order_rebuild.proofs.Rows.{items_within, codes_sorted, made}
use Rattle.order_rebuild.proofs.lines.Lines.of.Goals as goal

pub chains_of-requires : goal.chains_of-requires
chains_of-requires g c =
    let item_is = c.in_ok-item.ensures ∙ ap (λ (ts : List Turn). map (λ (t : Turn). t.item) ts) c.as_slice.ensures.value in
    subst (λ (xs : List ℕ). (i : ℕ) → i < length xs → slice_index xs i < length c.args.done.now) (sym c.as_slice-3.ensures.value)
    (items_within (map g.P.Placed.spot c.args.done.now) (length c.args.done.now) c.in_ok-turns.turns.items
    c.in_ok-item.item.items c.in_ok-turns.ensures.turns item_is)

pub bases_of-requires : goal.bases_of-requires
bases_of-requires g c =
    let codes_is = c.in_ok-codes.ensures ∙ ap (λ (ts : List Turn). map (λ (t : Turn). t.code) ts) c.as_slice-2.ensures.value in
    subst (λ (xs : List ℕ). IsNonDecreasing xs) (sym (c.as_slice-4.ensures.value ∙ codes_is))
    (codes_sorted c.in_ok-turns.turns.items c.in_ok-turns.ensures.sorted)

pub firsts_of-requires : goal.firsts_of-requires
firsts_of-requires g c =
    let codes_is = c.in_ok-codes.ensures ∙ ap (λ (ts : List Turn). map (λ (t : Turn). t.code) ts) c.as_slice-2.ensures.value in
    subst (λ (xs : List ℕ). IsNonDecreasing xs) (sym (c.as_slice-5.ensures.value ∙ codes_is))
    (codes_sorted c.in_ok-turns.turns.items c.in_ok-turns.ensures.sorted)

pub returns : goal.returns
returns g c =
    let item_is = c.in_ok-item.ensures ∙ ap (λ (ts : List Turn). map (λ (t : Turn). t.item) ts) c.as_slice.ensures.value in
    let codes_is = c.in_ok-codes.ensures ∙ ap (λ (ts : List Turn). map (λ (t : Turn). t.code) ts) c.as_slice-2.ensures.value in
    made g.P.Placed.spot c.args.done.now c.in_ok-turns.turns.items
    (record {
      callers = c.in_ok-callers.callers;
      last = c.in_ok-before.last;
      item = c.in_ok-item.item;
      base =
          c.in_ok-base.base;
      first = c.in_ok-first.first;
      before = c.in_ok-before.before;
    })
    c.in_ok-codes.codes.items c.in_ok-turns.ensures.turns c.in_ok-turns.ensures.sorted codes_is item_is
    (subst (λ (xs : List ℕ). AreStarts (λ i. slice_index xs i / LINE) (length xs) c.in_ok-base.base.items) c.as_slice-4.ensures.value c.in_ok-base.ensures)
    (subst (λ (xs : List ℕ). AreStarts (λ i. slice_index xs i) (length xs) c.in_ok-first.first.items) c.as_slice-5.ensures.value c.in_ok-first.ensures)
    (subst (λ (xs : List ℕ). AreChains xs (length xs) (length c.args.done.now) c.in_ok-before.before.items
    c.in_ok-before.last.items) c.as_slice-3.ensures.value c.in_ok-before.ensures.chains)
    c.in_ok-before.ensures.count c.in_ok-callers.ensures
