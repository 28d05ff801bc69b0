use Rattle.txn_books.proofs.Common.{◌≡◌, ℕ, List, Some, arith, KeepsOthers, one_set, used, arena_of}
use Rattle.txn_alloc.proofs.Common.{IsInOrder, HasNone, Takes}
use Rattle.txn_alloc.specs.FreeLists.{IsHeadFor}
use Rattle.txn_books.proofs.OneState.States.{tree_apart, no_room}
use Rattle.txn_books.proofs.OnBooks.Built.{built_good, led, fresh}
use Rattle.std.specs.FinSet as set
use Rattle.txn_books.proofs.building.take_block.Goals as goal

pub new-plain-requires : goal.new-plain-requires
new-plain-requires c = built_good c.args.shape.now c.args.words.items c.requires.0 c.requires.1

pub take_near-requires-clause-order : goal.take_near-requires-clause-order
take_near-requires-clause-order c =
    rw c.arena.ensures (record {
      at = fresh (IsInOrder (arena_of c.args.shape.now)) c.args.shape.now c.args.words.items c.new-plain.result c.new-plain.ensures.view
          (λ x good. (good.1.parts.free, (tree_apart c.args.shape.now x good.0 good.1).free_lists));
    })

pub unreachable-requires : goal.unreachable-requires
unreachable-requires c =
    let shape = c.args.shape.now in
    let words : List ℕ = c.args.words.items in
    let books = c.requires.0 in
    let stand = c.requires.1.stands in
    let goes = c.in-Ok.ensures.goes_on in
    let none = rw (c.in_default-taken.is, c.arena.ensures) at c.in-Ok.ensures.none in
    let empty : HasNone (arena_of shape) words = led (λ x y. HasNone (arena_of shape) x) shape words
    c.new-plain.result c.take_near.new.w c.new-plain.ensures.view goes.shape goes.origin goes.sound none.at in
    let all : used books ≡ books.blocks = no_room stand.parts stand.range
    (one_set (arena_of shape) words stand.parts.free set.empty (tree_apart shape words books stand).free_lists empty) in
    omega (arith, all, c.requires.2)

pub returns : goal.returns
returns c =
    let shape = c.args.shape.now in
    let goes = c.in-Ok.ensures.goes_on in
    let taken = rw (c.in-Some.is, c.arena.ensures) at c.in-Ok.ensures.taken in
    let others = rw (c.in-Some.is, c.arena.ensures) at c.in-Ok.ensures.others in
    let below = rw (c.in-Some.is, c.arena.ensures) at c.in-Ok.ensures.number in
    let block : ℕ = c.in-Some.block in
    let both = led (λ x y. Takes (arena_of shape) (Some block) x y × KeepsOthers (IsHeadFor (arena_of shape) block) x y) shape c.args.words.items
    c.new-plain.result c.take_near.new.w c.new-plain.ensures.view goes.shape goes.origin goes.sound (λ s fit. (taken.at s fit, others.at s fit)) in
    rw (c.number.ensures, c.into_words.ensures) (record { below = below; takes = both.0; kept = both.1 })
