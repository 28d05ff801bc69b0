use Rattle.lock_or_yield.proofs.Common.{◌≡◌, ℕ, Some, refl, sym, ap, ◌∙◌, subst, View, has, number, scan_row_action, MetOn, DeskHolds, IsUnscanned}
use Rattle.word_table.proofs.Common.{IsLeast}
use Rattle.lock_or_yield.proofs.Scanning.{scan_met, scan_clear, clear_more, left_other_seat, left_not_held, fewer_left}
use Rattle.lock_or_yield.proofs.turn.scan_rest.Goals as goal

pub scan-requires-clause-other : goal.scan-requires-clause-other
scan-requires-clause-other g c = let left = c.in-Some.ensures.least.0 in (
  left.seat,
  left_other_seat c.args.pass.now.view c.loop-other.pass.view c.args.k c.in-Some.other c.who-own.result
      c.who-own.ensures.one c.loop-other.invariant.3 left,
)

pub returns-in-Met-clause-met : goal.returns-in-Met-clause-met
returns-in-Met-clause-met g c = let v = c.loop-other.pass.view in
    let m = c.in-Met.ensures.met c.in-Met.seat refl in record {
      before = v;
      clear = c.loop-other.invariant.3;
      least = subst (λ (i : ℕ). IsLeast (IsUnscanned v c.args.k) (Some i)) (sym m.0) c.in-Some.ensures.least;
      meets = subst (λ (i : ℕ). MetOn (DeskHolds g.S.Shape.word_count g.S.Shape.good c.args.desk.now)
          (scan_row_action (number v) c.args.k i) v v c.scan.new.pass.view c.args.k c.in-Met.seat) (sym m.0) m.1;
      view = (scan_met (DeskHolds g.S.Shape.word_count g.S.Shape.good c.args.desk.now) v c.args.k c.in-Some.other
          c.in-Met.seat c.scan.new.pass.view c.in-Met.ensures.step).1;
    }

pub returns-in-Met-clause-held : goal.returns-in-Met-clause-held
returns-in-Met-clause-held g c held =
    absurd (left_not_held c.args.pass.now.view c.loop-other.pass.view c.args.k c.in-Some.other c.loop-other.invariant.3 c.in-Some.ensures.least.0 held)

pub loop-other-smaller : goal.loop-other-smaller
loop-other-smaller g c = fewer_left c.args.k c.in-Some.other c.loop-other.pass.view c.scan.new.pass.view c.in-Some.ensures.least.0
    (scan_clear (DeskHolds g.S.Shape.word_count g.S.Shape.good c.args.desk.now) c.loop-other.pass.view c.args.k
    c.in-Some.other c.scan.new.pass.view c.in-Clear.ensures.step)

pub loop-other-preserved : goal.loop-other-preserved
loop-other-preserved g c = let v = c.loop-other.pass.view in let inv = c.loop-other.invariant in
    let e : c.scan.new.pass.view ≡ _ = scan_clear (DeskHolds g.S.Shape.word_count g.S.Shape.good c.args.desk.now) v
    c.args.k c.in-Some.other c.scan.new.pass.view c.in-Clear.ensures.step in (
      c.scan.ensures.desk ∙ inv.0,
      ap (λ (x : View). x.phase) e ∙ inv.1,
      ap (λ (x : View). has c.args.k x.claims) e ∙ inv.2,
      clear_more c.args.k c.in-Some.other c.args.pass.now.view v c.scan.new.pass.view inv.3 e c.scan.ensures.grants,
      λ held. absurd (left_not_held c.args.pass.now.view v c.args.k c.in-Some.other inv.3 c.in-Some.ensures.least.0 held),
    )
