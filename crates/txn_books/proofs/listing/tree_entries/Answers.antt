use Rattle.txn_books.proofs.Common.{◌≡◌, ℕ, ◌+◌, ◌-◌, ◌≤◌, length, slice_get, get_or, [], sym, ap, ◌∙◌, subst, arith, length-append, nil_from_length}
use Rattle.txn_books.proofs.Common.{slice_get-get_or, same_Some, block_at, name_of, AddsUp, entries_in}
use Rattle.txn_books.proofs.ReadOff.Visited.{Visits, down, visits_all, visits_end, visits_none, visits_node, visits_below, down_adds, down_few}
use Rattle.txn_books.proofs.listing.tree_entries.Goals.{In-Some}
use Rattle.std.specs.FinMap as entry_map
use Rattle.txn_books.proofs.listing.tree_entries.Goals as goal

-- what is visited at a name
at_name : (c : In-Some) → Visits c.args.tree.now.arena c.args.words.now c.loop-name.names.items c.loop-name.listed.items
    (entries_in (down c.requires.held.holds.tree []))
at_name c = c.loop-name.invariant c.requires.held.holds.tree c.requires.held.holds.spelled

pub loop-name-init : goal.loop-name-init
loop-name-init c root spelled =
    let name : ℕ = get_or c.args.words.now c.args.tree.now.root 0 in
    let there = slice_get-get_or c.args.words.now c.args.tree.now.root 0 c.requires.held.holds.laid.root in
    let first = visits_all c.args.tree.now.arena c.args.words.now root name (same_Some name (name_of root) (sym there ∙ spelled.0)) spelled.1 in
    rw (c.in_ok-push.ensures.items, c.new-names.ensures.items, c.new-listed.ensures.items) first

pub block_of-requires-clause-block : goal.block_of-requires-clause-block
block_of-requires-clause-block c =
    (visits_below c.pop.new.self.items c.in-Some.name c.in-Some.ensures.items c.if-name-ne0.true (at_name (goal.at.block_of-requires-clause-block c).In-Some)).0

pub loop-name-smaller-in-Continue-branch-4 : goal.loop-name-smaller-in-Continue-branch-4
loop-name-smaller-in-Continue-branch-4 c =
    let held = c.requires.held in
    let room : length c.loop-name.listed.items + 1 ≤ length (entries_in (down held.holds.tree [])) =
    (visits_below c.pop.new.self.items c.in-Some.name c.in-Some.ensures.items c.if-name-ne0.true
    (at_name (goal.at.loop-name-smaller-in-Continue-branch-4 c).In-Some)).1 in
    let few = down_few held.holds in
    let more : length c.push-then-name-ne0.new.self.items ≡ length c.loop-name.listed.items + 1 =
    ap length c.in_ok-push-2.ensures.items ∙ length-append c.loop-name.listed.items _ in
    let was : length c.loop-name.names.items ≡ length c.pop.new.self.items + 1 = ap length c.in-Some.ensures.items ∙ length-append c.pop.new.self.items _ in
    let one : length c.push-then-name-ne0-2.new.self.items ≡ length c.pop.new.self.items + 1 =
    ap length c.in_ok-push-3.ensures.items ∙ length-append c.pop.new.self.items _ in
    let two : length c.push-then-name-ne0-3.new.self.items ≡ length c.push-then-name-ne0-2.new.self.items + 1 =
    ap length c.in_ok-push-4.ensures.items ∙ length-append c.push-then-name-ne0-2.new.self.items _ in
    omega (arith, room, few, more, was, one, two)

pub loop-name-preserved-in-Continue-branch-4 : goal.loop-name-preserved-in-Continue-branch-4
loop-name-preserved-in-Continue-branch-4 c root spelled =
    let word = c.block_of.ensures in
    let left : ℕ = get_or c.block_of.result 2 0 in
    let right : ℕ = get_or c.block_of.result 3 0 in
    rw (c.in_ok-push-4.ensures.items, c.in_ok-push-3.ensures.items, c.in_ok-push-2.ensures.items)
    (visits_node c.pop.new.self.items c.in-Some.name c.in-Some.ensures.items
    (get_or c.block_of.result 0 0) (get_or c.block_of.result 1 0) left right c.if-name-ne0.true
    (ap (slice_get c.args.words.now) (let e : block_at c.args.tree.now.arena (c.in-Some.name - 1)
    ≡ block_at c.args.tree.now.arena (c.in-Some.name - 1) + 0 = omega arith in e) ∙ word 0 (omega arith))
    (word 1 (omega arith)) (word 2 (omega arith)) (word 3 (omega arith)) (c.loop-name.invariant root spelled))

pub loop-name-preserved : goal.loop-name-preserved
loop-name-preserved c root spelled =
    visits_none c.pop.new.self.items c.in-Some.name c.in-Some.ensures.items c.if-name-ne0.false (c.loop-name.invariant root spelled)

pub returns : goal.returns
returns c entries used held =
    let none = c.in_default.ensures in
    subst (λ xs. AddsUp entry_map.empty xs entries)
    (sym (visits_end (nil_from_length c.loop-name.names.items (omega (arith, none.cases.0)))
    (c.loop-name.invariant held.tree held.spelled)))
    (down_adds held)
