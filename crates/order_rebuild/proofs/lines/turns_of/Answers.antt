use Rattle.order_rebuild.proofs.Common.{◌≡◌, ◌<◌, ℕ, ◌+◌, List, [], ◌∷◌, ◌++◌, length, map, slice_get, Some, refl, sym, ap, ◌∙◌, subst, option_map}
use Rattle.order_rebuild.proofs.Common.{slice_get-map, slice_get_read, LockUse, Spot, Turn, LINE, line_place, AreTurns, GainTurns}
use Rattle.order_rebuild.proofs.Makes.{turns_more}
use Rattle.order_rebuild.proofs.lines.turns_of.Goals as goal

pub loop-p-preserved : goal.loop-p-preserved
loop-p-preserved g c =
    let list : List Spot = map g.P.Placed.spot c.args.done.now in
    let p : ℕ = c.loop-p.p in
    let s : Spot = g.P.Placed.spot c.index-done-p.result in
    let old : List Turn = c.loop-p.turns.items in let new : List Turn = c.push_turns.new.turns.items in
    let here : slice_get c.args.done.now p ≡ Some c.index-done-p.result =
    slice_get_read c.args.done.now (length c.args.done.now) p c.index-done-p.result refl c.loop-p-test.true c.index-done-p.is in
    let at : slice_get list p ≡ Some s = slice_get-map g.P.Placed.spot c.args.done.now p ∙ ap (option_map g.P.Placed.spot) here in
    let gains : GainTurns s.uses p (length s.uses) old new =
    subst (λ (us : List LockUse). GainTurns us p (length us) old new) c.uses.ensures c.in_ok-push_turns.ensures in
    let fits = subst (λ (n : ℕ). n < LINE) c.index.ensures c.code_of_caller-code.ensures.fits in
    let code : c.code_of_caller-code.result ≡ line_place s.caller s.index =
    c.code_of_caller-code.ensures.is ∙ (ap (λ (n : ℕ). line_place n c.index.result) c.caller.ensures
    ∙ ap (λ (n : ℕ). line_place s.caller n) c.index.ensures) in
    let all = c.in_ok-push.ensures.items ∙ ap (λ (n : ℕ). new ++ record { code = n; item = p } ∷ []) code in
    subst (λ (turns : List Turn). AreTurns list (p + 1) turns) (sym all) (turns_more list p s old new c.loop-p.invariant at gains fits)
