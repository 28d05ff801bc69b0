use Rattle.txn_alloc.proofs.Common.{◌≡◌, ◌+◌, ◌*◌, inl, inr, arith, ap, ◌∙◌, rules, begins_trans, each_plain, state_after, goes_call, goes_then, goes_as}
use Rattle.txn_alloc.proofs.Common.{sees_read, sees_then, sees_write, only_read, only_write, only_then, writes_keep, block_at, IsHeadOrFirst, IsInOrder, Gives}
use Rattle.txn_alloc.proofs.FreeLists.Rounds.{own_head}
use Rattle.txn_alloc.proofs.FreeLists.Traces.{Lies, lies, gives_back, order_given}
use Rattle.txn_alloc.proofs.free.give.Goals as goal

pub read-requires-clause-within : goal.read-requires-clause-within
read-requires-clause-within g c =
    let l = lies c.args.arena.now _ _ _ (each_plain g.W.Words g.W.Shape.Shape _ _ c.requires.order) (g.met.W.Words.fits c.args.w.now c.requires.ready.sound) in
    omega (arith, l.head c.from.result, c.head_of-head.ensures)

pub write-requires-clause-within : goal.write-requires-clause-within
write-requires-clause-within g c =
    let a = c.args.arena.now in
    let l : Lies a (g.W.Shape.Shape.word_count (g.W.Words.shape c.args.w.now)) =
    lies a _ _ _ (each_plain g.W.Words g.W.Shape.Shape _ _ c.requires.order) (g.met.W.Words.fits c.args.w.now c.requires.ready.sound) in
    let same : g.W.Shape.Shape.word_count (g.W.Words.shape c.read.new.self)
    ≡ g.W.Shape.Shape.word_count (g.W.Words.shape c.args.w.now) = ap g.W.Shape.Shape.word_count c.in_ok-first.ensures.shape in
    omega (arith, l.block c.args.block c.requires.number)

pub write-requires-2-clause-within : goal.write-requires-2-clause-within
write-requires-2-clause-within g c =
    let a = c.args.arena.now in
    let l : Lies a (g.W.Shape.Shape.word_count (g.W.Words.shape c.args.w.now)) =
    lies a _ _ _ (each_plain g.W.Words g.W.Shape.Shape _ _ c.requires.order) (g.met.W.Words.fits c.args.w.now c.requires.ready.sound) in
    let same : g.W.Shape.Shape.word_count (g.W.Words.shape c.write.new.self)
    ≡ g.W.Shape.Shape.word_count (g.W.Words.shape c.args.w.now) =
    ap g.W.Shape.Shape.word_count (c.in_ok-write.ensures.shape ∙ c.in_ok-first.ensures.shape) in
    omega (arith, l.head c.from.result, c.head_of-head.ensures)

pub returns-clause-given : goal.returns-clause-given
returns-clause-given g c =
    let a = c.args.arena.now in
    let is_block : c.place_of.result ≡ a.first + 4 * c.args.block = omega (arith, c.place_of.ensures, c.number-number.ensures) in
    let is_name : c.from-2.result + 1 ≡ c.args.block + 1 = omega (arith, c.from-2.ensures, c.number-number.ensures) in
    record {
      at = (gives_back a _ _ _ _ _ _ c.args.block _ _ _ _ (own_head c.args.arena.now _ _ _ (c.from.ensures
          ∙ c.number-number.ensures) c.head_of-head.ensures) c.in_ok-first.ensures.value is_block
          c.in_ok-write.ensures.value is_name c.in_ok-write-2.ensures.value c.requires.number (each_plain g.W.Words g.W.Shape.Shape _ _ c.requires.lacks)).at;
    }

pub returns-clause-order : goal.returns-clause-order
returns-clause-order g c =
    let a = c.args.arena.now in
    state_after g.W.Words g.W.Shape.Shape _ _ (IsInOrder a) (IsInOrder a) (Gives a c.args.block)
    (c.in_ok-write-2.ensures.shape ∙ c.in_ok-write.ensures.shape ∙ c.in_ok-first.ensures.shape)
    (begins_trans _ _ _ c.in_ok-first.ensures.begins
    (begins_trans _ _ _ c.in_ok-write.ensures.begins c.in_ok-write-2.ensures.begins)) c.requires.order
    (returns-clause-given g c) (order_given a c.args.block)

pub returns-clause-frame : goal.returns-clause-frame
returns-clause-frame g c =
    let a = c.args.arena.now in
    let own = IsHeadOrFirst a c.args.block in
    let is_first : c.place_of.result ≡ block_at a c.args.block = omega (arith, c.place_of.ensures, c.number-number.ensures) in
    record {
      appended = only_then own _ _ _ (only_read own _ _ _ _ c.in_ok-first.ensures.value)
          (only_then own _ _ _ (only_write own _ _ _ _ c.in_ok-write.ensures.value (inr is_first))
          (only_write own _ _ _ _ c.in_ok-write-2.ensures.value
          (inl (own_head c.args.arena.now _ _ _ (c.from.ensures ∙ c.number-number.ensures) c.head_of-head.ensures))));
    }

pub returns-clause-others : goal.returns-clause-others
returns-clause-others g c = writes_keep g.W.Words g.W.Shape.Shape _ _ _ (returns-clause-frame g c)

pub returns-clause-reads : goal.returns-clause-reads
returns-clause-reads g c =
    let a = c.args.arena.now in
    let seen = IsHeadOrFirst a c.args.block in
    let is_first : c.place_of.result ≡ block_at a c.args.block = omega (arith, c.place_of.ensures, c.number-number.ensures) in
    sees_then seen _ _ _ (sees_read seen _ _ _ _ c.in_ok-first.ensures.value
    (inl (own_head c.args.arena.now _ _ _ (c.from.ensures ∙ c.number-number.ensures) c.head_of-head.ensures)))
    (sees_then seen _ _ _ (sees_write seen _ _ _ _ c.in_ok-write.ensures.value (inr is_first))
    (sees_write seen _ _ _ _ c.in_ok-write-2.ensures.value
    (inl (own_head c.args.arena.now _ _ _ (c.from.ensures ∙ c.number-number.ensures) c.head_of-head.ensures))))

pub returns-in_err-first-clause-goes_on : goal.returns-in_err-first-clause-goes_on
returns-in_err-first-clause-goes_on g c = goes_as (goes_call c.in_err-first.ensures) (search rules)

pub returns-in_err-write-clause-goes_on : goal.returns-in_err-write-clause-goes_on
returns-in_err-write-clause-goes_on g c = goes_as (goes_then (goes_call c.in_ok-first.ensures) (goes_call c.in_err-write.ensures)) (search rules)

pub returns-in_err-write-2-clause-goes_on : goal.returns-in_err-write-2-clause-goes_on
returns-in_err-write-2-clause-goes_on g c = goes_as (goes_then (goes_then (goes_call c.in_ok-first.ensures) (goes_call c.in_ok-write.ensures))
    (goes_call c.in_err-write-2.ensures)) (search rules)
