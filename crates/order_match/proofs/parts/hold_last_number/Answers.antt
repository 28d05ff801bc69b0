use Rattle.order_match.proofs.Common.{◌≡◌, ℕ, ◌<◌, sym, subst, ◌∙◌, IfOk-weaker, Trace, EndsWithWrite, each_plain, LAST_AT}
use Rattle.txn_stores.proofs.Common.{Begins}
use Rattle.txn_words.specs.Marks.{TakesBack}
use Rattle.txn_words.proofs.GoingBack.{marked_stays, same_as_at_mark}
use Rattle.order_match.proofs.LastNumber.{last_within}
use Rattle.order_match.proofs.parts.hold_last_number.Goals as goal

pub write-requires-clause-within : goal.write-requires-clause-within
write-requires-clause-within g c =
    subst (λ z. LAST_AT < g.W.Shape.Shape.word_count z) (sym c.mark-before.ensures.shape)
    (last_within c.args.shape.now _ _ _ (each_plain g.W.Words g.W.Shape.Shape _ _ c.requires.parts) (g.met.W.Words.fits c.args.w.now c.requires.ready.sound))

pub back_to-requires-clause-mark : goal.back_to-requires-clause-mark
back_to-requires-clause-mark g c =
    marked_stays (g.W.Words.trace c.args.w.now) (g.W.Words.trace c.mark-before.new.self) (g.W.Words.trace c.write.new.self)
    c.mark-before.result.writes c.mark-before.ensures.writes c.mark-before.ensures.trace c.in_ok-write.ensures.begins

pub returns-clause-same : goal.returns-clause-same
returns-clause-same g c =
    let words = g.W.Words in let shapes = g.W.Shape.Shape in
    let mark = c.mark-before in let old = c.write.new.self in let new = c.back_to.new.self in
    let front : Begins (words.trace c.args.w.now) (words.trace old) =
    subst (λ (t : Trace). Begins t (words.trace old)) mark.ensures.trace c.in_ok-write.ensures.begins in
    IfOk-weaker c.back_to.result _ _
    (λ v back. same_as_at_mark words shapes c.args.w.now old new (c.in_ok-write.ensures.shape ∙ mark.ensures.shape) front c.back_to.ensures.begins
    (subst (λ (m : ℕ). TakesBack (shapes.word_count (words.shape old)) (shapes.good (words.shape old)) m (words.trace old) (words.trace new))
    mark.ensures.writes back))
    c.back_to.ensures.back

pub returns-clause-writes : goal.returns-clause-writes
returns-clause-writes g c =
    let words = g.W.Words in
    IfOk-weaker c.back_to.result _ _
    (λ v back. record {
      value = 0;
      written = words.trace c.write.new.self;
      ends = subst (λ (t : Trace). EndsWithWrite t (words.trace c.write.new.self) LAST_AT 0) c.mark-before.ensures.trace c.in_ok-write.ensures.value;
      begins = c.back_to.ensures.begins;
    })
    c.back_to.ensures.back
