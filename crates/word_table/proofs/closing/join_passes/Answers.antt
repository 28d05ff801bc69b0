use Rattle.word_table.proofs.Common.{◌≡◌, true, List, [], ◌∷◌, ◌++◌, ap, sym, subst, ◌∙◌, arith, View, has, number, PassView, IsGathered}
use Rattle.word_table.proofs.Joined.Gathering.{first_gathered, next_gathered, next_pass, none_left, seat_view}
use Rattle.word_table.proofs.closing.join_passes.Goals as goal

pub loop-pass-init : goal.loop-pass-init
loop-pass-init g c = let s = c.into_seat-seat.ensures in
    first_gathered c.args.table.now.table_id c.args.table.now.key.seats c.args.passes.items c.args.first
    c.into_seat-seat.result.table_id c.into_seat-seat.result.me c.requires.all s.table s.seat s.named

pub join_one-requires-clause-table : goal.join_one-requires-clause-table
join_one-requires-clause-table g c = let i = c.loop-pass.invariant in let s = c.into_seat.ensures in
    let n = next_pass c.args.table.now.table_id (c.args.passes.items ++ c.args.first ∷ []) c.loop-pass.passes.items
    c.pop.new.self.items c.in-Some.pass c.loop-pass.seat.table_id c.loop-pass.seat.me i c.in-Some.ensures.items in
    (i.table_is, s.table ∙ n.0)

pub join_one-requires-clause-seat : goal.join_one-requires-clause-seat
join_one-requires-clause-seat g c = let i = c.loop-pass.invariant in (i.phase, i.named.0, i.named.1)

pub join_one-requires-clause-other : goal.join_one-requires-clause-other
join_one-requires-clause-other g c = let i = c.loop-pass.invariant in let s = c.into_seat.ensures in
    let n = next_pass c.args.table.now.table_id (c.args.passes.items ++ c.args.first ∷ []) c.loop-pass.passes.items
    c.pop.new.self.items c.in-Some.pass c.loop-pass.seat.table_id c.loop-pass.seat.me i c.in-Some.ensures.items in
    let is = seat_view c.into_seat.result.me c.in-Some.pass.view s.seat in (
      is.1,
      ap (λ (v : View). v.phase) is.0 ∙ n.1,
      number c.in-Some.pass.view,
      subst (λ (v : View). has (number c.in-Some.pass.view) v.who ≡ true) (sym is.0) s.named,
    )

pub loop-pass-preserved : goal.loop-pass-preserved
loop-pass-preserved g c = let i = c.loop-pass.invariant in let s = c.into_seat.ensures in
    next_gathered c.args.table.now.table_id (c.args.passes.items ++ c.args.first ∷ []) c.loop-pass.passes.items
    c.pop.new.self.items c.in-Some.pass c.loop-pass.seat.table_id c.join_one.new.seat.table_id c.loop-pass.seat.me
    c.join_one.new.seat.me c.into_seat.result.me.0 i c.in-Some.ensures.items
    (seat_view c.into_seat.result.me c.in-Some.pass.view s.seat).0 c.join_one.ensures.table c.join_one.ensures.seat

pub returns : goal.returns
returns g c = let i = c.loop-pass.invariant in
    subst (λ (l : List PassView). IsGathered c.args.table.now.table_id (c.args.passes.items ++ c.args.first ∷ []) l
    c.loop-pass.seat.table_id c.loop-pass.seat.me) (none_left c.loop-pass.passes.items (λ t. c.in_default.ensures.variant.1 (omega arith))) i
