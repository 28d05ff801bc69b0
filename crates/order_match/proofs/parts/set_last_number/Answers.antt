use Rattle.order_match.proofs.Common.{IfOk-weaker, each_plain, state_after, HasSomeParts, with_last}
use Rattle.order_match.proofs.LastNumber.{last_within, last_written}
use Rattle.order_match.proofs.parts.set_last_number.Goals as goal

pub write-requires-clause-within : goal.write-requires-clause-within
write-requires-clause-within g c =
    last_within c.args.shape.now _ _ _ (each_plain g.W.Words g.W.Shape.Shape _ _ c.requires.parts) (g.met.W.Words.fits c.args.w.now c.requires.ready.sound)

pub returns-clause-set : goal.returns-clause-set
returns-clause-set g c =
    IfOk-weaker c.write.result _ _ (λ v write. record { at = (last_written c.args.shape.now _ _ _ _ c.args.last write).at }) c.write.ensures.value

pub returns-clause-parts : goal.returns-clause-parts
returns-clause-parts g c =
    IfOk-weaker c.write.result _ _
    (λ v did. state_after g.W.Words g.W.Shape.Shape _ _ (HasSomeParts c.args.shape.now) (HasSomeParts c.args.shape.now) _
    c.write.ensures.shape c.write.ensures.begins c.requires.parts did (λ x y some change. (with_last c.args.last some.0, change some.0 some.1)))
    (returns-clause-set g c)
