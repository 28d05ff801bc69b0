use Rattle.txn_ring.proofs.Common.{◌≡◌, ◌+◌, arith, each_plain, state_after, sees_read, IsOwn, IsInOrder, HasCount}
use Rattle.txn_words.proofs.CallLaws.{state_at}
use Rattle.txn_ring.proofs.Traces.{Lies, lies, same, has_count, order_same}
use Rattle.txn_ring.proofs.ring.Ring.len.Goals as goal

pub read-requires-clause-within : goal.read-requires-clause-within
read-requires-clause-within g c =
    let ring = c.args.self.now in
    let l : Lies ring (g.W.Shape.Shape.word_count (g.W.Words.shape c.args.w.now)) =
    lies ring _ _ _ (each_plain g.W.Words g.W.Shape.Shape _ _ c.requires.order) (g.met.W.Words.fits c.args.w.now c.requires.ready.sound) in
    omega (arith, l.some, l.whole)

pub returns-clause-count : goal.returns-clause-count
returns-clause-count g c =
    let ring = c.args.self.now in
    state_at g.W.Words g.W.Shape.Shape _ _ (HasCount ring c.in_ok-count.count) c.in_ok-count.ensures.shape
    (has_count ring _ _ _ _ c.in_ok-count.count c.in_ok-count.ensures.value)

pub returns-clause-same : goal.returns-clause-same
returns-clause-same g c =
    record { at = (same c.args.self.now _ _ _ _ c.in_ok-count.count c.in_ok-count.ensures.value).at }

pub returns-clause-order : goal.returns-clause-order
returns-clause-order g c =
    let ring = c.args.self.now in
    state_after g.W.Words g.W.Shape.Shape _ _ (IsInOrder ring) (IsInOrder ring) (λ before after. after ≡ before)
    c.in_ok-count.ensures.shape c.in_ok-count.ensures.begins c.requires.order (returns-clause-same g c) (order_same ring)

pub returns-clause-reads : goal.returns-clause-reads
returns-clause-reads g c =
    let ring = c.args.self.now in
    let l : Lies ring (g.W.Shape.Shape.word_count (g.W.Words.shape c.args.w.now)) =
    lies ring _ _ _ (each_plain g.W.Words g.W.Shape.Shape _ _ c.requires.order) (g.met.W.Words.fits c.args.w.now c.requires.ready.sound) in
    let count : IsOwn ring (ring.at + 1) = record { low = omega arith; high = omega (arith, l.some) } in
    record { appended = sees_read (IsOwn ring) _ _ _ _ c.in_ok-count.ensures.value count }
