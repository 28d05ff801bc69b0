use Rattle.order_match.proofs.Common.{◌≡◌, ◌+◌, Some, None, arith, sym, subst, ◌∙◌, begins_trans, Tells, leads_then, state_after, leads_less, looked}
use Rattle.order_match.proofs.Common.{looked_stands, HasParts, HasSomeParts, IsGoodFor}
use Rattle.txn_stores.proofs.Common.{LeadsTo}
use Rattle.order_match.proofs.Calls.{good_parts}
use Rattle.order_match.proofs.Entering.{next_none, next_some, tells_next}
use Rattle.order_match.proofs.LastNumber.{told_behind}
use Rattle.order_match.proofs.trading.next_number.Goals.{In_ok-last}
use Rattle.order_match.proofs.trading.next_number.Goals as goal

pub hold_last_number-requires-clause-parts : goal.hold_last_number-requires-clause-parts
hold_last_number-requires-clause-parts g c = record { at = λ s fit. good_parts c.args.shape.now _ (c.requires.stands.at s fit) }

pub last_number-requires-clause-parts : goal.last_number-requires-clause-parts
last_number-requires-clause-parts g c =
    let held = c.in_ok-hold_last_number.ensures in
    state_after g.W.Words g.W.Shape.Shape _ _ (IsGoodFor c.args.shape.now) (HasSomeParts c.args.shape.now) (λ before now. now ≡ before)
    held.goes_on.shape held.goes_on.begins c.requires.stands held.same
    (λ x y good same. good_parts c.args.shape.now y (subst (IsGoodFor c.args.shape.now) (sym same) good))

-- the last number is that from before it was asked for to write
told : (g : _) (c : In_ok-last g) → LeadsTo g.W.Words g.W.Shape.Shape c.args.w.now c.last_number.new.w
    (Tells (HasParts c.args.shape.now) (λ held. held.last) c.in_ok-last.last)
told g c =
    let held = c.in_ok-hold_last_number.ensures in
    leads_less g.W.Words g.W.Shape.Shape _ _ _ _ (λ x z k. told_behind c.args.shape.now x k.0 z k.1 k.2)
    (leads_then g.W.Words g.W.Shape.Shape _ _ _ _ _ held.goes_on.shape c.in_ok-last.ensures.goes_on.begins held.same c.in_ok-last.ensures.told)

pub returns-then-last-from-clause-told : goal.returns-then-last-from-clause-told
returns-then-last-from-clause-told g c =
    leads_less g.W.Words g.W.Shape.Shape _ _ _ _
    (tells_next c.args.shape.now c.in_ok-last.last (Some (c.in_ok-last.last + 1))
    (next_some c.in_ok-last.last (omega (arith, c.if-last-from.true, c.from.ensures))))
    (told g (goal.at.returns-then-last-from-clause-told g c).In_ok-last)

pub returns-then-last-from-clause-stands : goal.returns-then-last-from-clause-stands
returns-then-last-from-clause-stands g c =
    let held = c.in_ok-hold_last_number.ensures.goes_on in let goes = c.in_ok-last.ensures.goes_on in
    looked_stands (looked (goes.shape ∙ held.shape) (begins_trans _ _ _ held.begins goes.begins) (returns-then-last-from-clause-told g c)) c.requires.stands

pub returns-else-last-from-clause-told : goal.returns-else-last-from-clause-told
returns-else-last-from-clause-told g c =
    leads_less g.W.Words g.W.Shape.Shape _ _ _ _
    (tells_next c.args.shape.now c.in_ok-last.last None (next_none c.in_ok-last.last (omega (arith, c.if-last-from.false, c.from.ensures))))
    (told g (goal.at.returns-else-last-from-clause-told g c).In_ok-last)

pub returns-else-last-from-clause-stands : goal.returns-else-last-from-clause-stands
returns-else-last-from-clause-stands g c =
    let held = c.in_ok-hold_last_number.ensures.goes_on in let goes = c.in_ok-last.ensures.goes_on in
    looked_stands (looked (goes.shape ∙ held.shape) (begins_trans _ _ _ held.begins goes.begins) (returns-else-last-from-clause-told g c)) c.requires.stands
