use Rattle.txn_tree_map.proofs.Common.{◌≡◌, ◌+◌, ◌<◌, ◌∙◌, ap, arith, rules, goes_call, goes_then, goes_as, looks_at, each_looked, block_at, laid_block, IsWalk}
use Rattle.txn_tree_map.proofs.Common.{each_now, each_since, some_since}
use Rattle.txn_tree_map.proofs.InOrder.SumCalls.{come_some, come_none, come_behind, none_from, past_from, links_from, node_below, node_from, next_from}
use Rattle.txn_tree_map.proofs.InOrder.SumCalls.{value_from}
use Rattle.txn_tree_map.proofs.sum.next_entry.Goals as goal

pub prove-unreachable-requires : goal.prove-unreachable-requires
prove-unreachable-requires g c =
    let nearest = come_some (rw c.in-Some.is at c.in_ok-next_node.ensures.come) in
    let goes = c.in_ok-next_node.ensures.goes_on in
    let some = some_since g.W.Words g.W.Shape.Shape goes.shape (g.met.W.Words.fits c.next_node.new.w goes.sound) in
    omega (arith, node_below nearest some, c.if-prove.true)

pub read-requires-clause-within : goal.read-requires-clause-within
read-requires-clause-within g c =
    let m = c.args.map.now in
    let node = c.in-Some.node in
    let lt : node.block < m.arena.blocks = omega (arith, c.if-prove.false) in
    let in_list = laid_block m.arena _ _ _ (g.met.W.Words.fits c.args.w.now c.requires.ready.sound) node.block
    (record { at = λ s fit. (c.requires.order.at s fit).holds.laid.arena }) lt in
    omega (arith, in_list.0, ap g.W.Shape.Shape.word_count c.in_ok-next_node.ensures.goes_on.shape, c.place_of.ensures)

pub returns-in-None-clause-none : goal.returns-in-None-clause-none
returns-in-None-clause-none g c =
    let nearest = come_none c.next_node.new.walk c.args.least (rw c.in-None.is at c.in_ok-next_node.ensures.whole)
    (rw c.in-None.is at c.in_ok-next_node.ensures.come) in
    none_from c.args.high nearest

pub returns-in-None-clause-reads : goal.returns-in-None-clause-reads
returns-in-None-clause-reads g c =
    let nearest = come_none c.next_node.new.walk c.args.least (rw c.in-None.is at c.in_ok-next_node.ensures.whole)
    (rw c.in-None.is at c.in_ok-next_node.ensures.come) in
    record { at = links_from c.args.least c.args.high nearest (each_now c.requires.order) }

pub returns-then-key-high-clause-none : goal.returns-then-key-high-clause-none
returns-then-key-high-clause-none g c =
    let nearest = come_some (rw c.in-Some.is at c.in_ok-next_node.ensures.come) in
    past_from c.args.high c.if-key-high.true nearest

pub returns-then-key-high-clause-reads : goal.returns-then-key-high-clause-reads
returns-then-key-high-clause-reads g c =
    let nearest = come_some (rw c.in-Some.is at c.in_ok-next_node.ensures.come) in
    record { at = links_from c.args.least c.args.high nearest (each_now c.requires.order) }

pub returns-in_ok-value-in-Some-clause-next : goal.returns-in_ok-value-in-Some-clause-next
returns-in_ok-value-in-Some-clause-next g c =
    let m = c.args.map.now in
    let node = c.in-Some.node in
    let q = c.place_of.result + 1 in
    let is_value : q ≡ block_at m.arena node.block + 1 = omega (arith, c.place_of.ensures) in
    let nearest = come_some (rw c.in-Some.is at c.in_ok-next_node.ensures.come) in
    next_from c.in_ok-value-in-Some.value is_value nearest c.in_ok-value-in-Some.ensures.value

pub returns-in_ok-value-in-Some-clause-walk : goal.returns-in_ok-value-in-Some-clause-walk
returns-in_ok-value-in-Some-clause-walk g c =
    let m = c.args.map.now in
    let node = c.in-Some.node in
    let come = rw c.in-Some.is at c.in_ok-next_node.ensures.come in
    let read = c.in_ok-value-in-Some.ensures in
    each_since c.args.w.now (read.shape ∙ c.in_ok-next_node.ensures.goes_on.shape)
    (each_looked _ _ _ _ (looks_at _ _ _ _ _ c.in_ok-value-in-Some.value read.value) (IsWalk m c.next_node.new.walk (node.key + 1) 0)
    (come_behind come))

pub returns-in_ok-value-in-Some-clause-reads : goal.returns-in_ok-value-in-Some-clause-reads
returns-in_ok-value-in-Some-clause-reads g c =
    let m = c.args.map.now in
    let node = c.in-Some.node in
    let q = c.place_of.result + 1 in
    let is_value : q ≡ block_at m.arena node.block + 1 = omega (arith, c.place_of.ensures) in
    let nearest = come_some (rw c.in-Some.is at c.in_ok-next_node.ensures.come) in
    record {
      at = value_from c.in_ok-value-in-Some.value is_value nearest
          c.in_ok-value-in-Some.ensures.value c.if-key-high.false (each_now c.requires.order);
    }

pub returns-in_ok-value-in-Some-clause-low : goal.returns-in_ok-value-in-Some-clause-low
returns-in_ok-value-in-Some-clause-low g c =
    let nearest = come_some (rw c.in-Some.is at c.in_ok-next_node.ensures.come) in
    let goes = c.in_ok-next_node.ensures.goes_on in
    let some = some_since g.W.Words g.W.Shape.Shape goes.shape (g.met.W.Words.fits c.next_node.new.w goes.sound) in
    node_from nearest some

pub returns-in_err-next_node-clause-goes_on : goal.returns-in_err-next_node-clause-goes_on
returns-in_err-next_node-clause-goes_on g c = goes_as c.in_err-next_node.ensures.goes_on (search rules)

pub returns-in_err-value-in-Some-clause-goes_on : goal.returns-in_err-value-in-Some-clause-goes_on
returns-in_err-value-in-Some-clause-goes_on g c =
    goes_as (goes_then c.in_ok-next_node.ensures.goes_on (goes_call c.in_err-value-in-Some.ensures)) (search rules)
