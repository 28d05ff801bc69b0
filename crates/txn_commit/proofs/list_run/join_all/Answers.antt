use Rattle.txn_commit.proofs.Common.{◌≡◌, ◌++◌, [], flat_map, length, sym, ap, ◌∙◌, append_assoc, arith, append-nil, flat_map-cons, into_iter_items}
use Rattle.std.proofs.lemmas.List.{nil_from_length}
use Rattle.txn_commit.proofs.list_run.join_all.Goals as goal

pub loop-worker-preserved : goal.loop-worker-preserved
loop-worker-preserved g c =
    let at = c.loop-worker in
    let i = at.invariant in
    let steps = c.in-Some.ensures.steps in
    let after = into_iter_items c.next.new.self in
    record {
      left = omega (arith, i.left, steps.1, ap (λ l. length l) steps.0);
      all_come = ap (λ l. l ++ flat_map (λ worker. worker.done.items) after) c.in_ok-append.ensures.items
          ∙ append_assoc at.done.items c.in-Some.worker.done.items (flat_map (λ worker. worker.done.items) after)
          ∙ ap (λ l. at.done.items ++ l) (sym (flat_map-cons (λ worker. worker.done.items) c.in-Some.worker after))
          ∙ ap (λ l. at.done.items ++ flat_map (λ worker. worker.done.items) l) (sym steps.0) ∙ i.all_come;
    }

pub returns : goal.returns
returns g c =
    let at = c.loop-worker in
    let i = at.invariant in
    let none : into_iter_items at.worker-iterator ≡ [] =
    nil_from_length (into_iter_items at.worker-iterator) (omega (arith, i.left, c.in-None.ensures.steps.0)) in
    sym (append-nil at.done.items) ∙ ap (λ l. at.done.items ++ flat_map (λ worker. worker.done.items) l) (sym none) ∙ i.all_come
    ∙ ap (flat_map (λ worker. worker.done.items)) c.into_iter-worker-iterator.ensures.into_iter_gives.0
