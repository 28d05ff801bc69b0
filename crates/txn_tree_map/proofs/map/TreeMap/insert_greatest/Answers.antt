use Rattle.txn_tree_map.proofs.Common.{◌≡◌, ℕ, ◌+◌, List, length, get_or, slice_set, ap, ◌∙◌, arith, length-set, slice_get_within, block_at}
use Rattle.std.proofs.lemmas.Option.{get_or_from_slice_get}
use Rattle.txn_tree_map.proofs.Inserts.SpineSteps.{seat_name, laid_words, laid_spine, laid_apart, laid_own}
use Rattle.txn_tree_map.proofs.map.TreeMap.insert_greatest.Goals.{After-from}
use Rattle.txn_tree_map.proofs.map.TreeMap.insert_greatest.Goals as goal

pub write_node-requires : goal.write_node-requires
write_node-requires c =
    omega (arith, c.requires.spine.is_at.laid.arena.blocks c.args.block c.requires.block, c.place_of.ensures)

pub bounds-words-place-2 : goal.bounds-words-place-2
bounds-words-place-2 c =
    let seat = c.in_ok-place.ensures in
    let n : ℕ = c.place_of.result in
    let s : List ℕ = c.args.words.now in
    let s1 : List ℕ = slice_set s n c.args.key in
    let s2 : List ℕ = slice_set s1 (n + 1) c.args.value in
    let s3 : List ℕ = slice_set s2 (n + 2) (get_or s c.in_ok-place.place 0) in
    let long : length c.write_node.new.words ≡ length s = ap length c.write_node.ensures
    ∙ length-set s3 (n + 3) 0 ∙ length-set s2 (n + 2) (get_or s c.in_ok-place.place 0) ∙ length-set s1 (n + 1) c.args.value ∙ length-set s n c.args.key in
    omega (arith, slice_get_within s c.in_ok-place.place seat.name (seat_name seat))

-- the words that were laid
laid : (c : After-from) → slice_set c.write_node.new.words c.in_ok-place.place (c.from.result + 1) ≡ laid_words c.args.self.now c.args.key c.args.value
    c.args.block c.in_ok-place.place c.args.words.now c.args.spine.now c.go_up.new.blocks.items
    c.requires.spine c.in_ok-place.ensures c.requires.order c.requires.block c.requires.unused
laid c =
    let seat = c.in_ok-place.ensures in
    let place : ℕ = c.in_ok-place.place in
    let s : List ℕ = c.args.words.now in
    let node : ℕ → ℕ → List ℕ = λ n left. slice_set (slice_set (slice_set (slice_set s n c.args.key) (n + 1) c.args.value) (n + 2) left) (n + 3) 0 in
    let name =
    get_or_from_slice_get s place seat.name 0 (seat_name seat) in
    ap (λ ws. slice_set ws place (c.from.result + 1))
    (c.write_node.ensures ∙ ap (λ n. node n (get_or s place 0)) c.place_of.ensures ∙ ap (node (block_at c.args.self.now.arena c.args.block)) name)
    ∙ ap (λ b. slice_set (node (block_at c.args.self.now.arena c.args.block) seat.name) place (b + 1)) c.from.ensures

pub returns-clause-put : goal.returns-clause-put
returns-clause-put c = rw (laid c)
    (laid_apart c.args.self.now c.args.key c.args.value c.args.block c.in_ok-place.place c.args.words.now c.args.spine.now c.go_up.new.blocks.items
    c.requires.spine c.in_ok-place.ensures c.requires.order c.requires.block c.requires.unused c.requires.lacks)

pub returns-clause-spine : goal.returns-clause-spine
returns-clause-spine c = rw (laid c, c.in_ok-push.ensures.items)
    (laid_spine c.args.self.now c.args.key c.args.value c.args.block c.in_ok-place.place c.args.words.now c.args.spine.now c.go_up.new.blocks.items
    c.requires.spine c.in_ok-place.ensures c.requires.order c.requires.block c.requires.unused)

pub returns-clause-frame : goal.returns-clause-frame
returns-clause-frame c = rw (laid c)
    (laid_own c.args.self.now c.args.key c.args.value c.args.block c.in_ok-place.place c.args.words.now c.args.spine.now c.go_up.new.blocks.items
    c.requires.spine c.in_ok-place.ensures c.requires.order c.requires.block c.requires.unused c.requires.lacks)
