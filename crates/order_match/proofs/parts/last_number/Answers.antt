use Rattle.order_match.proofs.Common.{IfOk-weaker, each_plain, looked, looked_stands}
use Rattle.order_match.proofs.LastNumber.{last_read, last_within}
use Rattle.order_match.proofs.parts.last_number.Goals as goal

pub read-requires-clause-within : goal.read-requires-clause-within
read-requires-clause-within g c =
    last_within c.args.shape.now _ _ _ (each_plain g.W.Words g.W.Shape.Shape _ _ c.requires.parts) (g.met.W.Words.fits c.args.w.now c.requires.ready.sound)

pub returns-clause-told : goal.returns-clause-told
returns-clause-told g c =
    IfOk-weaker c.read.result _ _ (λ v read. record { at = (last_read c.args.shape.now _ _ _ _ v read).at }) c.read.ensures.value

pub returns-clause-parts : goal.returns-clause-parts
returns-clause-parts g c =
    IfOk-weaker c.read.result _ _ (λ v told. looked_stands (looked c.read.ensures.shape c.read.ensures.begins told) c.requires.parts) (returns-clause-told g c)
