use Rattle.txn_tree_map.proofs.Common.{◌≡◌, ℕ, ◌+◌, ◌^◌, ◌<◌, ◌≤◌, ◌++◌, ◌∷◌, List, [], length, slice_get, Some, get_or, sym, ap, ◌∙◌, subst, arith, rules}
use Rattle.txn_tree_map.proofs.Common.{append-nil, slice_get-get_or, block_at, priority_of}
use Rattle.std.proofs.lemmas.List.{nil_from_length}
use Rattle.txn_tree_map.proofs.Inserts.SpineSteps.{IsUp, up_first, up_below, up_seat, up_more, up_all}
use Rattle.txn_tree_map.proofs.spine.go_up.Goals.{In-Some, After-place_of-at}
use Rattle.txn_tree_map.proofs.spine.go_up.Goals as goal

pub loop-block-init : goal.loop-block-init
loop-block-init c = up_first c.args.key c.requires

-- the spine with the block that was taken off it
up : (c : In-Some) → IsUp c.args.map.now c.args.key c.args.words.now (c.pop.new.self.items ++ c.in-Some.block ∷ [])
up c = subst (λ (bs : List ℕ). IsUp c.args.map.now c.args.key c.args.words.now bs) c.in-Some.ensures.items c.loop-block.invariant

-- its words are words of the list
within : (c : In-Some) → (block_at c.args.map.now.arena c.in-Some.block + 4 ≤ length c.args.words.now) × (length c.args.words.now ≤ 2 ^ 64)
within c = (
  (up c).is_at.laid.arena.blocks c.in-Some.block
      (up_below c.args.key c.pop.new.self.items c.in-Some.block (up c)),
  (up c).is_at.laid.arena.places,
)

-- its key
there : (c : After-place_of-at) → block_at c.args.map.now.arena c.in-Some.block + 4 ≤ length c.args.words.now
    → slice_get c.args.words.now (block_at c.args.map.now.arena c.in-Some.block)
    ≡ Some (get_or c.args.words.now c.place_of-at.result 0)
there c lt = slice_get-get_or c.args.words.now (block_at c.args.map.now.arena c.in-Some.block) 0 (omega arith)
    ∙ ap (λ p. Some (get_or c.args.words.now p 0)) (sym c.place_of-at.ensures)

pub place_of-at-requires : goal.place_of-at-requires
place_of-at-requires c = record { fits = omega (arith, (within c).0, (within c).1) }

pub offset_bounds-words-at : goal.offset_bounds-words-at
offset_bounds-words-at c =
    let w = within (goal.at.offset_bounds-words-at c).In-Some in
    let lt : c.place_of-at.result < length c.args.words.now = omega (arith, w.0, c.place_of-at.ensures) in
    search rules

pub bounds-words-at : goal.bounds-words-at
bounds-words-at c = omega (arith, (within (goal.at.bounds-words-at c).In-Some).0, c.place_of-at.ensures)

pub overflow_add-result : goal.overflow_add-result
overflow_add-result c =
    let w = within (goal.at.overflow_add-result c).In-Some in
    omega (arith, w.0, w.1, c.place_of-at.ensures)

pub returns-then-priority-rank : goal.returns-then-priority-rank
returns-then-priority-rank c =
    let above = up (goal.at.returns-then-priority-rank c).In-Some in
    let is_key = there (goal.at.returns-then-priority-rank c).After-place_of-at (within (goal.at.returns-then-priority-rank c).In-Some).0 in
    let key : ℕ = get_or c.args.words.now c.place_of-at.result 0 in
    let lt : priority_of c.args.key < priority_of key = omega (arith, c.if-priority-rank.true, c.priority-rank.ensures.value, c.priority.ensures.value) in
    rw (c.in_ok-push.ensures.items, c.place_of-at.ensures)
    (up_seat c.args.key c.pop.new.self.items c.in-Some.block above key is_key lt)

pub loop-block-preserved : goal.loop-block-preserved
loop-block-preserved c =
    let above = up (goal.at.loop-block-preserved c).In-Some in
    let is_key = there (goal.at.loop-block-preserved c).After-place_of-at (within (goal.at.loop-block-preserved c).In-Some).0 in
    let key : ℕ = get_or c.args.words.now c.place_of-at.result 0 in
    let le : priority_of key ≤ priority_of c.args.key = omega (arith, c.if-priority-rank.false, c.priority-rank.ensures.value, c.priority.ensures.value) in
    up_more c.args.key c.pop.new.self.items c.in-Some.block above key is_key
    c.priority-rank.ensures.small c.priority.ensures.small le

pub returns : goal.returns
returns c =
    let none = nil_from_length c.pop.new.self.items (omega (arith, (c.in_default.ensures.cases).1, c.pop.new.self.ok)) in
    let whole : c.loop-block.blocks.items ≡ [] = c.in_default.ensures.items ∙ append-nil c.pop.new.self.items ∙ none in
    rw none (up_all c.args.key
    (subst (λ (bs : List ℕ). IsUp c.args.map.now c.args.key c.args.words.now bs) whole c.loop-block.invariant))
