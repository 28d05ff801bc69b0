use Rattle.order_match.proofs.Common.{◌≡◌, replicate, ap, ◌∙◌, empty_book, words_of, Stands}
use Rattle.txn_stores.proofs.Emptied.{whole_count, whole_stands}
use Rattle.txn_stores.proofs.Ranges.{all_below, all_once}
use Rattle.order_match.proofs.Emptied.{empty_stands}
use Rattle.order_match.proofs.lay.empty_words.Goals.{After-lay_free}
use Rattle.order_match.proofs.lay.empty_words.Goals as goal

pub lay_free-requires-clause-below : goal.lay_free-requires-clause-below
lay_free-requires-clause-below c = rw (c.deref.ensures.value, c.in_ok-order.ensures, c.arena.ensures) (all_below c.args.shape.now.blocks)

pub lay_free-requires-clause-once : goal.lay_free-requires-clause-once
lay_free-requires-clause-once c = rw (c.deref.ensures.value, c.in_ok-order.ensures) (all_once 0 c.args.shape.now.blocks)

zeros : (c : After-lay_free) → c.deref_mut.result.now ≡ replicate (words_of c.args.shape.now) 0
zeros c = c.deref_mut.ensures.value ∙ c.in_ok-words.ensures.items_if_clones_equal (λ y e. e) ∙ ap (λ n. replicate n 0) c.word_count.ensures

pub returns-clause-count : goal.returns-clause-count
returns-clause-count c =
    let d = (goal.at.returns-clause-count c).After-lay_free in
    whole_count _ _ c.in_ok-words.words.items c.deref_mut.result.now c.lay_free.new.words c.deref.result.now c.arena.result c.deref_mut.ensures.len
    (zeros d) c.lay_free.ensures.others

pub returns-clause-stands : goal.returns-clause-stands
returns-clause-stands c =
    let d = (goal.at.returns-clause-stands c).After-lay_free in
    let shape = c.args.shape.now in
    whole_stands _ _ c.in_ok-words.words.items c.deref_mut.result.now c.lay_free.new.words c.deref.result.now c.arena.result c.deref_mut.ensures.len (zeros d)
    c.lay_free.ensures.others (λ words. Stands shape words (empty_book shape.blocks)) _ _
    c.arena.ensures (c.deref.ensures.value ∙ c.in_ok-order.ensures) c.lay_free.ensures.free
    (λ kept free. empty_stands shape c.deref_mut.result.now c.lay_free.new.words (zeros d) kept free
    c.requires.blocks c.requires.instruments)
