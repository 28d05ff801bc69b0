use Rattle.txn_books.proofs.Common.{◌≡◌, ◌+◌, ◌-◌, ◌<◌, ◌≤◌, List, length, slice_get, get_or, ◌++◌, refl, ap, ◌∙◌, arith, length-append, length-map}
use Rattle.txn_books.proofs.Common.{slice_get-get_or, Cell, block_at, entries_in}
use Rattle.txn_books.proofs.ReadOff.Walked.{chain_there, follows_none, follows_below, follows_next}
use Rattle.txn_books.proofs.listing.list_chain.Goals as goal

pub bounds-words-place : goal.bounds-words-place
bounds-words-place c = chain_there c.args.arena.now c.args.words.now c.args.place c.requires.chain.0 c.requires.chain.1

pub offset_bounds-words-place : goal.offset_bounds-words-place
offset_bounds-words-place c =
    let lt : c.args.place < length c.args.words.now = chain_there c.args.arena.now c.args.words.now c.args.place c.requires.chain.0 c.requires.chain.1 in
    omega (arith, lt)

pub loop-name-init : goal.loop-name-init
loop-name-init c cells chain = record {
  place = c.args.place;
  rest = cells;
  named = slice_get-get_or c.args.words.now c.args.place 0 (chain_there c.args.arena.now c.args.words.now c.args.place cells chain);
  chain = chain;
  all = refl;
}

pub block_of-requires-clause-block : goal.block_of-requires-clause-block
block_of-requires-clause-block c =
    (follows_below c.loop-name-test.true (c.loop-name.invariant c.requires.chain.0 c.requires.chain.1)).0

pub loop-name-smaller : goal.loop-name-smaller
loop-name-smaller c =
    let cells : List Cell = c.requires.chain.0 in
    let room : length c.loop-name.listed.items + 1 ≤ length (c.args.listed.now.items ++ entries_in cells) =
    (follows_below c.loop-name-test.true (c.loop-name.invariant cells c.requires.chain.1)).1 in
    let whole : length (c.args.listed.now.items ++ entries_in cells) ≡ length c.args.listed.now.items + length cells =
    length-append c.args.listed.now.items (entries_in cells) ∙ ap (λ n. length c.args.listed.now.items + n) (length-map cells (λ d. (d.key, d.value))) in
    let few = c.requires.chain.2 in
    let more : length c.push.new.self.items ≡ length c.loop-name.listed.items + 1 = ap length c.in_ok-push.ensures.items
    ∙ length-append c.loop-name.listed.items _ in
    omega (arith, room, whole, few, more)

pub loop-name-preserved : goal.loop-name-preserved
loop-name-preserved c cells chain =
    let word = c.block_of.ensures in
    rw c.in_ok-push.ensures.items
    (follows_next (get_or c.block_of.result 0 0) (get_or c.block_of.result 1 0) (get_or c.block_of.result 2 0) c.loop-name-test.true
    (ap (slice_get c.args.words.now) (let e : block_at c.args.arena.now (c.loop-name.name - 1)
    ≡ block_at c.args.arena.now (c.loop-name.name - 1) + 0 = omega arith in e) ∙ word 0 (omega arith))
    (word 1 (omega arith)) (word 2 (omega arith)) (c.loop-name.invariant cells chain))

pub returns : goal.returns
returns c cells chain = follows_none c.loop-name-test.false (c.loop-name.invariant cells chain)
