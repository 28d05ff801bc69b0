use Rattle.record_text.proofs.Common.{◌≡◌, ℕ, ◌<◌, ◌≤◌, [], ◌++◌, ◌∷◌, true, false, nat_le, sym, ap, ◌∙◌, arith, append-nil, nat_tests, entries-from_entries}
use Rattle.record_text.proofs.Common.{positions_total}
use Rattle.record_text.proofs.Listing.{Entry, lists, listed, nothing_listed, passes_full, passes_low}
use Rattle.record_text.proofs.store.Store.ids_from.Goals.{else-of-rank-via-then-of-rank+else-len-most, else-of-rank-via-else-of-rank}
use Rattle.std.specs.FinMap as finite
use Rattle.record_text.proofs.store.Store.ids_from.Goals as goal

tests_true : (a b : ℕ) → a ≤ b → nat_le a b ≡ true
tests_true a b le = grind (arith, nat_tests)

tests_false : (a b : ℕ) → b < a → nat_le a b ≡ false
tests_false a b lt = grind (arith, nat_tests)

pub loop-of-init : goal.loop-of-init
loop-of-init c =
    let gives = c.into_iter-of-iterator.ensures.into_iter_gives in
    let all = ap (λ m. finite.entries m) (sym c.in_ok-items.ensures) ∙ entries-from_entries positions_total c.in_ok-items.field-0.entries gives.5 in
    ([], record { whole = all ∙ sym gives.0; so_far = c.new-ids.ensures ∙ sym (nothing_listed c.args.rank c.args.most) })

pub loop-of-preserved-then-len-most : goal.loop-of-preserved-then-len-most
loop-of-preserved-then-len-most c =
    let e : Entry = (c.in-Some.field-0-0.now, c.in-Some.field-0-1.now) in (
      c.loop-of.invariant.0 ++ e ∷ [],
      lists c.args.rank c.args.most _ c.loop-of.invariant.0 c.loop-of.of-iterator e c.next.new.self c.loop-of.ids
          c.in-Some.ensures.steps c.loop-of.invariant.1 c.push.new.self (tests_true c.args.rank e.0.0 (omega (arith, c.if-of-rank.true, c.in-Some.of-is)))
          (omega (arith, c.len.ensures, c.if-len-most.true)) c.in_ok-push.ensures.ok,
    )

pub loop-of-preserved : goal.loop-of-preserved
loop-of-preserved c =
    let e : Entry = (c.in-Some.field-0-0.now, c.in-Some.field-0-1.now) in (
      c.loop-of.invariant.0 ++ e ∷ [],
      elim c.else-of-rank.branch [
        | else-of-rank-via-then-of-rank+else-len-most w ↦ passes_full c.args.rank c.args.most _ c.loop-of.invariant.0 c.loop-of.of-iterator e
            c.next.new.self c.loop-of.ids c.in-Some.ensures.steps c.loop-of.invariant.1
            (tests_true c.args.rank e.0.0 (omega (arith, w.if-of-rank.true, c.in-Some.of-is))) (omega (arith, w.len.ensures, w.if-len-most.false))
        | else-of-rank-via-else-of-rank w ↦ passes_low c.args.rank c.args.most _ c.loop-of.invariant.0 c.loop-of.of-iterator e
            c.next.new.self c.loop-of.ids c.in-Some.ensures.steps c.loop-of.invariant.1
            (tests_false c.args.rank e.0.0 (omega (arith, w.if-of-rank.false, c.in-Some.of-is)))
      ],
    )

pub returns : goal.returns
returns c =
    let i = c.loop-of.invariant.1 in
    i.so_far ∙ ap (listed c.args.rank c.args.most)
    (sym (i.whole ∙ ap (λ l. c.loop-of.invariant.0 ++ l) c.in-None.ensures.steps.0 ∙ append-nil c.loop-of.invariant.0))
