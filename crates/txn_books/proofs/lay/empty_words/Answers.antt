use Rattle.txn_books.proofs.Common.{◌≡◌, ℕ, ◌++◌, length, take, drop, replicate, ap, ◌∙◌, arith, length-replicate, words_of}
use Rattle.txn_books.proofs.OnBooks.Built.{all_written}
use Rattle.txn_books.proofs.LaidOut.Emptied.{empty_stands, all_below, all_once}
use Rattle.txn_books.proofs.lay.empty_words.Goals.{After-lay_free}
use Rattle.txn_books.proofs.lay.empty_words.Goals as goal

pub lay_free-requires-clause-below : goal.lay_free-requires-clause-below
lay_free-requires-clause-below c = rw (c.deref.ensures.value, c.in_ok-order.ensures, c.arena.ensures) (all_below c.args.shape.now.blocks)

pub lay_free-requires-clause-once : goal.lay_free-requires-clause-once
lay_free-requires-clause-once c = rw (c.deref.ensures.value, c.in_ok-order.ensures) (all_once 0 c.args.shape.now.blocks)

-- the words that were laid, and what they were
kept : (c : After-lay_free) → take c.in_ok-words.words.len (c.lay_free.new.words ++ drop (length c.lay_free.new.words)
    c.in_ok-words.words.items) ≡ c.lay_free.new.words
kept c = all_written c.in_ok-words.words.len c.lay_free.new.words c.in_ok-words.words.items
    (omega (arith, c.deref_mut.ensures.len, c.lay_free.ensures.others.count))

zeros : (c : After-lay_free) → c.deref_mut.result.now ≡ replicate (words_of c.args.shape.now) 0
zeros c = c.deref_mut.ensures.value ∙ c.in_ok-words.ensures.items_if_clones_equal (λ y e. e) ∙ ap (λ n. replicate n 0) c.word_count.ensures

pub returns-clause-count : goal.returns-clause-count
returns-clause-count c =
    let d = (goal.at.returns-clause-count c).After-lay_free in
    let nil : ℕ = 0 in
    ap length (kept d) ∙ c.lay_free.ensures.others.count ∙ ap length (zeros d) ∙ length-replicate (words_of c.args.shape.now) nil

pub returns-clause-stands : goal.returns-clause-stands
returns-clause-stands c =
    let d = (goal.at.returns-clause-stands c).After-lay_free in
    let shape = c.args.shape.now in
    let others = rw (c.arena.ensures, c.deref.ensures.value, c.in_ok-order.ensures) at c.lay_free.ensures.others in
    let free = rw (c.arena.ensures, c.deref.ensures.value, c.in_ok-order.ensures) at c.lay_free.ensures.free in
    rw (kept d) (empty_stands shape c.requires.blocks c.requires.instruments c.requires.ring c.deref_mut.result.now c.lay_free.new.words (zeros d) others free)

pub returns-clause-rising : goal.returns-clause-rising
returns-clause-rising c h lt =
    let d = (goal.at.returns-clause-rising c).After-lay_free in
    let list = rw (c.arena.ensures, c.deref.ensures.value, c.in_ok-order.ensures) at (c.lay_free.ensures.lists h lt) in
    rw (kept d) list
