use Rattle.txn_alloc.proofs.Common.{Some, inl, inr, arith, ap, ◌∙◌, begins_trans, each_plain, leads_plain, state_after, sees_read, sees_then, sees_write}
use Rattle.txn_alloc.proofs.Common.{sees_more, only_read, only_write, only_then, only_more, writes_keep, each_from, some_from, IsHeadTo, IsWrittenByTake}
use Rattle.txn_alloc.proofs.Common.{IsReadByTake, IsInOrder, HasNone, Lacks, Takes}
use Rattle.history_model.proofs.Traces.FittingLaws.{some_at}
use Rattle.txn_words.proofs.Looks.{each_looked}
use Rattle.txn_alloc.proofs.FreeLists.Rounds.{own_head, last_head}
use Rattle.txn_alloc.proofs.FreeLists.Traces.{lies, taken_from_some, order_taken, lacks_itself}
use Rattle.txn_alloc.proofs.FreeLists.Takings.{found_none, takes_nearest, takes_some}
use Rattle.txn_alloc.proofs.free.take_near.Goals as goal

pub returns-in_default-clause-none : goal.returns-in_default-clause-none
returns-in_default-clause-none g c =
    let none = rw c.in_default.is at c.in_ok-number.ensures.none in
    record { at = (found_none c.args.arena.now c.args.near _ _ _ none (each_plain g.W.Words g.W.Shape.Shape _ _ c.requires.order)).at }

pub returns-in_default-clause-order : goal.returns-in_default-clause-order
returns-in_default-clause-order g c =
    let none = rw c.in_default.is at c.in_ok-number.ensures.none in
    each_from g.W.Words g.W.Shape.Shape c.args.w.now _ _ c.in_ok-number.ensures.goes_on.shape
    (each_looked _ _ _ _ none (IsInOrder c.args.arena.now) (each_plain g.W.Words g.W.Shape.Shape _ _ c.requires.order))

pub read-requires-clause-within : goal.read-requires-clause-within
read-requires-clause-within g c =
    let l = lies c.args.arena.now _ _ _ (each_plain g.W.Words g.W.Shape.Shape _ _ c.requires.order) (g.met.W.Words.fits c.args.w.now c.requires.ready.sound) in
    let below = rw c.in-Some.is at c.in_ok-number.ensures.block in
    omega (arith, l.block c.in-Some.number below, ap g.W.Shape.Shape.word_count c.in_ok-number.ensures.goes_on.shape, c.place_of.ensures)

pub write-requires-clause-within : goal.write-requires-clause-within
write-requires-clause-within g c =
    let l = lies c.args.arena.now _ _ _ (each_plain g.W.Words g.W.Shape.Shape _ _ c.requires.order) (g.met.W.Words.fits c.args.w.now c.requires.ready.sound) in
    omega (
      arith,
      l.head c.from.result,
      ap g.W.Shape.Shape.word_count c.in_ok-number.ensures.goes_on.shape,
      ap g.W.Shape.Shape.word_count c.in_ok-next.ensures.shape,
      c.head_of.ensures,
    )

pub returns-clause-taken : goal.returns-clause-taken
returns-clause-taken g c =
    let a = c.args.arena.now in
    let found = rw c.in-Some.is at c.in_ok-number.ensures.found in
    rw c.of.ensures (record {
      at =
          (takes_some a c.args.near _ _ _ found _ _ _ _ c.in_ok-next.next c.place_of.ensures
          c.in_ok-next.ensures.value (own_head a _ _ _ c.from.ensures c.head_of.ensures) c.in_ok-write.ensures.value).at;
    })

pub returns-clause-nearest : goal.returns-clause-nearest
returns-clause-nearest g c =
    let found = rw c.in-Some.is at c.in_ok-number.ensures.found in
    rw c.of.ensures (record {
      at =
          (takes_nearest c.args.arena.now c.args.near _ _ _ found _
          (begins_trans _ _ _ c.in_ok-next.ensures.begins c.in_ok-write.ensures.begins)).at;
    })

pub returns-clause-none_if : goal.returns-clause-none_if
returns-clause-none_if g c =
    let a = c.args.arena.now in
    let some = some_from g.W.Words g.W.Shape.Shape c.args.w.now c.write.new.self
    (c.in_ok-write.ensures.shape ∙ c.in_ok-next.ensures.shape ∙ c.in_ok-number.ensures.goes_on.shape)
    (g.met.W.Words.fits c.write.new.self c.in_ok-write.ensures.sound) in
    λ none. taken_from_some a _ _ _ c.of.result some
    (leads_plain g.W.Words g.W.Shape.Shape _ _ (Takes a (Some c.of.result)) (returns-clause-taken g c))
    (leads_plain g.W.Words g.W.Shape.Shape _ _ (λ before after. HasNone a before) none)

pub returns-clause-lacks : goal.returns-clause-lacks
returns-clause-lacks g c =
    let a = c.args.arena.now in
    state_after g.W.Words g.W.Shape.Shape _ _ (IsInOrder a) (Lacks a c.of.result) (Takes a (Some c.of.result))
    (c.in_ok-write.ensures.shape ∙ c.in_ok-next.ensures.shape ∙ c.in_ok-number.ensures.goes_on.shape)
    (begins_trans _ _ _ c.in_ok-number.ensures.goes_on.begins
    (begins_trans _ _ _ c.in_ok-next.ensures.begins c.in_ok-write.ensures.begins)) c.requires.order (returns-clause-taken g c) (lacks_itself a c.of.result)

pub returns-clause-order : goal.returns-clause-order
returns-clause-order g c =
    let a = c.args.arena.now in
    state_after g.W.Words g.W.Shape.Shape _ _ (IsInOrder a) (IsInOrder a) (Takes a (Some c.of.result))
    (c.in_ok-write.ensures.shape ∙ c.in_ok-next.ensures.shape ∙ c.in_ok-number.ensures.goes_on.shape)
    (begins_trans _ _ _ c.in_ok-number.ensures.goes_on.begins
    (begins_trans _ _ _ c.in_ok-next.ensures.begins c.in_ok-write.ensures.begins)) c.requires.order
    (returns-clause-taken g c) (order_taken a (Some c.of.result))

pub returns-clause-frame : goal.returns-clause-frame
returns-clause-frame g c =
    let a = c.args.arena.now in
    let own = IsWrittenByTake a (Some c.in-Some.number) in
    let found = rw c.in-Some.is at c.in_ok-number.ensures.found in
    rw c.of.ensures (record {
      appended = only_then own _ _ _ (only_more (λ b. ⊥) own _ _ (λ b k. absurd k) found.writes)
          (only_then own _ _ _ (only_read own _ _ _ _ c.in_ok-next.ensures.value)
          (only_write own _ _ _ _ c.in_ok-write.ensures.value (own_head a _ _ _ c.from.ensures c.head_of.ensures)));
    })

pub returns-clause-others : goal.returns-clause-others
returns-clause-others g c = writes_keep g.W.Words g.W.Shape.Shape _ _ _ (returns-clause-frame g c)

pub returns-clause-reads : goal.returns-clause-reads
returns-clause-reads g c =
    let a = c.args.arena.now in
    let b = c.in-Some.number in
    let seen = IsReadByTake a c.args.near (Some b) in
    let found = rw c.in-Some.is at c.in_ok-number.ensures.found in
    let some = some_at g.W.Shape.Shape.word_count g.W.Shape.Shape.good _ _ _ c.in_ok-number.ensures.goes_on.shape
    (g.met.W.Words.fits c.nearest.new.w c.in_ok-number.ensures.goes_on.sound) in
    rw c.of.ensures (sees_then seen _ _ _ (sees_more (IsHeadTo a c.args.near b) seen _ _ (λ z k. inl k) (found.reads some.0 some.1))
    (sees_then seen _ _ _ (sees_read seen _ _ _ _ c.in_ok-next.ensures.value (inr c.place_of.ensures))
    (sees_write seen _ _ _ _ c.in_ok-write.ensures.value (inl (last_head a c.args.near b _ (own_head a _ _ _ c.from.ensures c.head_of.ensures))))))
