use Rattle.txn_books.proofs.Common.{◌≡◌, ◌++◌, length, take, drop, arith, ClearingBooks, IsBuilt, AreFree}
use Rattle.txn_books.proofs.OnBooks.Built.{all_written}
use Rattle.std.proofs.lemmas.List.Sorted.{IsNonDecreasingBy-from_sort}
use Rattle.std.proofs.lemmas.Map.Keys.{IsStrictlyIncreasing-from_distinct}
use Rattle.txn_alloc.proofs.FreeLists.Laid.{rising_of}
use Rattle.txn_alloc.specs.Laying.{of_list}
use Rattle.txn_books.proofs.LaidOut.Relaid.{free_held, sorted_once, sorted_below, relaid_built}
use Rattle.txn_books.proofs.building.sort_free.Goals.{In_ok-order, After-lay_free}
use Rattle.txn_books.proofs.building.sort_free.Goals as goal

pub free_blocks-requires : goal.free_blocks-requires
free_blocks-requires c = rw (c.deref.ensures.value, c.arena-arena.ensures) (
  c.requires.1.stands.parts.free,
  free_held c.requires.1,
)

-- the lists that were gone through
are : (c : In_ok-order) (books : ClearingBooks) (built : IsBuilt c.args.shape.now c.args.words.items books)
    → AreFree built.stands.parts.free c.in_ok-order.order.items
are c books built = (rw (c.deref.ensures.value, c.arena-arena.ensures) at c.in_ok-order.ensures) built.stands.parts.free
    (free_held built)

pub lay_free-requires-clause-below : goal.lay_free-requires-clause-below
lay_free-requires-clause-below c =
    rw (c.deref-2.ensures.value, c.arena-arena.ensures)
    (sorted_below c.requires.1 c.in_ok-order.order.items
    c.sort.new.self.items (are (goal.at.lay_free-requires-clause-below c).In_ok-order c.requires.0 c.requires.1) c.in_ok-sort.ensures.permutation)

pub lay_free-requires-clause-once : goal.lay_free-requires-clause-once
lay_free-requires-clause-once c =
    rw c.deref-2.ensures.value
    (sorted_once c.requires.1 c.in_ok-order.order.items
    c.sort.new.self.items (are (goal.at.lay_free-requires-clause-once c).In_ok-order c.requires.0 c.requires.1) c.in_ok-sort.ensures.permutation)

-- the words that were laid
kept : (c : After-lay_free) → take c.args.words.len (c.lay_free.new.words ++ drop (length c.lay_free.new.words) c.args.words.items) ≡ c.lay_free.new.words
kept c = all_written c.args.words.len c.lay_free.new.words c.args.words.items (omega (arith, c.deref_mut.ensures.len, c.lay_free.ensures.others.count))

pub returns-clause-built : goal.returns-clause-built
returns-clause-built c books built =
    let shape = c.args.shape.now in
    let free = rw (c.arena-arena.ensures, c.deref-2.ensures.value) at c.lay_free.ensures.free in
    let others = rw (c.arena-arena.ensures, c.deref-2.ensures.value, c.deref_mut.ensures.value) at c.lay_free.ensures.others in
    rw (kept (goal.at.returns-clause-built c).After-lay_free)
    (relaid_built built c.in_ok-order.order.items c.sort.new.self.items
    (are (goal.at.returns-clause-built c).In_ok-order books built) c.in_ok-sort.ensures.permutation c.lay_free.new.words free others)

pub returns-clause-rising : goal.returns-clause-rising
returns-clause-rising c h lt =
    let shape = c.args.shape.now in
    let sorted = c.sort.new.self.items in
    let laid = rw (c.arena-arena.ensures, c.deref-2.ensures.value) at c.lay_free.ensures.lists h lt in
    rw (kept (goal.at.returns-clause-rising c).After-lay_free) (record {
      order = of_list h sorted;
      list = laid;
      rises = rising_of h sorted (IsStrictlyIncreasing-from_distinct sorted (IsNonDecreasingBy-from_sort (λ x. x) sorted c.in_ok-sort.ensures.sorted)
          (sorted_once c.requires.1 c.in_ok-order.order.items sorted
          (are (goal.at.returns-clause-rising c).In_ok-order c.requires.0 c.requires.1) c.in_ok-sort.ensures.permutation));
    })
