use Rattle.txn_books.proofs.Common.{◌+◌, ◌++◌, sym, ap, ◌∙◌, subst, arith}
use Rattle.txn_books.proofs.LaidOut.Relaid.{AreFreeBelow, free_none, free_more, free_all}
use Rattle.txn_books.proofs.building.free_blocks.Goals as goal

pub loop-list-init : goal.loop-list-init
loop-list-init c free hold = subst (λ xs. AreFreeBelow free 0 xs) (sym c.new-order.ensures.items) (free_none free)

pub loop-list-preserved : goal.loop-list-preserved
loop-list-preserved c free hold =
    let n = c.loop-list.list in
    let order = c.loop-list.order.items in
    let more = free_more c.args.arena.now c.args.words.now free n order c.in_ok-blocks.blocks.items hold
    c.loop-list-test.true c.in_ok-blocks.ensures (c.loop-list.invariant free hold) in
    subst (λ xs. AreFreeBelow free (n + 1) xs) (sym (c.in_ok-extend_from_slice.ensures.items ∙ ap (λ ys. order ++ ys) c.deref.ensures.value)) more

pub returns : goal.returns
returns c free hold = free_all free c.loop-list.list c.loop-list.order.items (omega (arith, c.loop-list-test.false)) (c.loop-list.invariant free hold)
