use Rattle.txn_books.proofs.Common.{◌≡◌, ◌+◌, ◌-◌, ◌<◌, length, get_or, ◌++◌, Some, sym, ap, ◌∙◌, subst, arith, length-append, slice_get-get_or, block_at}
use Rattle.txn_books.proofs.Common.{HasList}
use Rattle.txn_alloc.proofs.FreeLists.Lists.{block_in}
use Rattle.txn_books.proofs.LaidOut.Relaid.{through_none, through_below, through_next, list_there, list_short}
use Rattle.txn_books.proofs.building.list_blocks.Goals as goal

pub loop-name-init : goal.loop-name-init
loop-name-init c whole list = record {
  place = (c.args.arena.now.heads + c.args.list);
  rest = whole;
  named = slice_get-get_or c.args.words.now (c.args.arena.now.heads + c.args.list) 0
      (list_there c.args.arena.now c.args.words.now (c.args.arena.now.heads + c.args.list) whole list);
  list = list;
  all = ap (λ xs. xs ++ whole) c.new-order.ensures.items;
}

pub prove-unreachable-requires : goal.prove-unreachable-requires
prove-unreachable-requires c =
    let hold = c.requires.order.1 in
    let l = hold.lists c.args.list c.requires.list in
    let below = (through_below c.loop-name-test.true (c.loop-name.invariant l.order l.list)).0 in
    omega (arith, below, c.if-prove.true, c.from.ensures)

pub loop-name-smaller : goal.loop-name-smaller
loop-name-smaller c =
    let hold = c.requires.order.1 in
    let l = hold.lists c.args.list c.requires.list in
    let room = (through_below c.loop-name-test.true (c.loop-name.invariant l.order l.list)).1 in
    let few = list_short c.args.arena.now c.args.words.now (c.args.arena.now.heads + c.args.list) l.order l.list l.once in
    let more : length c.push.new.self.items ≡ length c.loop-name.order.items + 1 = ap length c.in_ok-push.ensures.items
    ∙ length-append c.loop-name.order.items _ in
    omega (arith, room, few, more)

pub loop-name-preserved : goal.loop-name-preserved
loop-name-preserved c whole list =
    let at = c.loop-name.invariant whole list in
    let hold = c.requires.order.1 in
    let l = hold.lists c.args.list c.requires.list in
    let below = (through_below c.loop-name-test.true at).0 in
    let there : block_at c.args.arena.now (c.loop-name.name - 1) < length c.args.words.now =
    block_in c.args.arena.now c.args.words.now (c.loop-name.name - 1) hold.laid_out (omega (arith, below, c.loop-name-test.true)) in
    rw c.in_ok-push.ensures.items
    (through_next (get_or c.args.words.now c.place_of.result 0) c.loop-name-test.true
    (slice_get-get_or c.args.words.now (block_at c.args.arena.now (c.loop-name.name - 1)) 0 there
    ∙ ap (λ p. Some (get_or c.args.words.now p 0)) (sym c.place_of.ensures)) at)

pub returns : goal.returns
returns c =
    let hold = c.requires.order.1 in
    let l = hold.lists c.args.list c.requires.list in
    subst (λ bs. HasList c.args.arena.now c.args.words.now (c.args.arena.now.heads + c.args.list) bs)
    (sym (through_none c.loop-name-test.false (c.loop-name.invariant l.order l.list))) l.list
