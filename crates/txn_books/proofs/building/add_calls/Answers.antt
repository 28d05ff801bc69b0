use Rattle.txn_books.proofs.Common.{take, subst, arith, take_all, with_positions, IsBuilt}
use Rattle.txn_books.proofs.ReadOff.Growing.{call_is, call_fits, call_step}
use Rattle.txn_books.proofs.building.add_calls.Goals as goal

pub add_call-requires-clause-books : goal.add_call-requires-clause-books
add_call-requires-clause-books c = (
  record (with_positions c.args.books.now) { calls = take c.loop-index.index c.args.books.now.calls },
  c.loop-index.invariant,
  call_fits c.ranges-2.ensures c.loop-index.index c.call_at-account.result c.call_at-account.ensures,
)

pub add_call-requires-clause-call : goal.add_call-requires-clause-call
add_call-requires-clause-call c = call_is c.ranges-2.ensures c.loop-index.index c.call_at-account.result c.call_at-account.ensures

pub loop-index-preserved : goal.loop-index-preserved
loop-index-preserved c =
    subst (λ cs. IsBuilt c.args.shape.now c.in_ok-words.words.items (record (with_positions c.args.books.now) { calls = cs }))
    (call_step c.ranges-2.ensures c.loop-index.index c.call_at-account.result c.call_at-account.ensures)
    (c.in_ok-words.ensures (record (with_positions c.args.books.now) { calls = take c.loop-index.index c.args.books.now.calls }) c.loop-index.invariant)

pub returns : goal.returns
returns c =
    subst (λ cs. IsBuilt c.args.shape.now c.loop-index.words.items (record (with_positions c.args.books.now) { calls = cs }))
    (take_all c.loop-index.index c.args.books.now.calls (omega (arith, c.loop-index-test.false, c.calls-index-end.ensures))) c.loop-index.invariant
