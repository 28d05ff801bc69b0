use Rattle.order_rebuild.proofs.Common.{◌+◌, List, sym, subst, below_get, Turn, GainTurns}
use Rattle.order_rebuild.proofs.Makes.{gain_more}
use Rattle.order_rebuild.proofs.lines.push_turns.Goals as goal

pub loop-i-preserved : goal.loop-i-preserved
loop-i-preserved c =
    let u = below_get c.loop-i.i c.args.uses.now c.loop-i-test.true in
    subst (λ (new : List Turn). GainTurns c.args.uses.now c.args.item (c.loop-i.i + 1) c.args.turns.now.items new) (sym c.in_ok-push.ensures.items)
    (gain_more c.args.uses.now c.args.item c.loop-i.i c.lock_code-code.result u.0 c.args.turns.now.items
    c.loop-i.turns.items c.loop-i.invariant u.1 (c.lock_code-code.ensures u.0 u.1))
