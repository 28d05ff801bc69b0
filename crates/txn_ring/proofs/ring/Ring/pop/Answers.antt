use Rattle.txn_ring.proofs.Common.{◌≡◌, ℕ, ◌+◌, ◌-◌, ◌*◌, ◌%◌, ◌<◌, ◌≤◌, Option, None, Some, arith, refl, ap, ◌∙◌, rules, Begins, begins_trans, LeadsTo}
use Rattle.txn_ring.proofs.Common.{WritesOnly, each_plain, leads_plain, state_after, goes_call, goes_then, goes_as, some_from, only_read, only_write, only_then}
use Rattle.txn_ring.proofs.Common.{writes_keep, sees_read, sees_write, sees_then, place_at, IsOwn, IsInOrder, IsEmpty, Pops}
use Rattle.txn_ring.proofs.Traces.{Lies, lies, same, found_empty, not_empty, bounds, pops, order_popped}
use Rattle.txn_ring.proofs.ring.Ring.pop.Goals as goal

pub read-requires-clause-within : goal.read-requires-clause-within
read-requires-clause-within g c =
    let ring = c.args.self.now in
    let l : Lies ring (g.W.Shape.Shape.word_count (g.W.Words.shape c.args.w.now)) =
    lies ring _ _ _ (each_plain g.W.Words g.W.Shape.Shape _ _ c.requires.order) (g.met.W.Words.fits c.args.w.now c.requires.ready.sound) in
    omega (arith, l.some, l.whole)

pub returns-then-count-eq0 : goal.returns-then-count-eq0
returns-then-count-eq0 g c =
    let ring = c.args.self.now in
    let read = c.in_ok-count.ensures.value in
    let count : IsOwn ring (ring.at + 1) = omega arith in
    let popped : LeadsTo g.W.Words g.W.Shape.Shape c.args.w.now c.read.new.self (Pops ring None) =
    record { at = (same ring _ _ _ _ c.in_ok-count.count read).at } in
    let frame : WritesOnly g.W.Words c.args.w.now c.read.new.self (IsOwn ring) = record { appended = only_read (IsOwn ring) _ _ _ _ read } in
    record {
      popped = popped;
      none = record {
        at = (found_empty ring _ _ _ _ c.in_ok-count.count read c.if-count-eq0.true
            (each_plain g.W.Words g.W.Shape.Shape _ _ c.requires.order)).at;
      };
      none_if = λ _. refl;
      order = state_after g.W.Words g.W.Shape.Shape _ _ (IsInOrder ring) (IsInOrder ring) (Pops ring None)
          c.in_ok-count.ensures.shape c.in_ok-count.ensures.begins c.requires.order popped (order_popped ring None);
      frame = frame;
      others = writes_keep g.W.Words g.W.Shape.Shape _ _ _ frame;
      none_frame = record { appended = only_read (λ _. ⊥) _ _ _ _ read };
      reads = record { appended = sees_read (IsOwn ring) _ _ _ _ read count };
      goes_on = goes_as (goes_call c.in_ok-count.ensures) c.in_ok-count.ensures.stops;
    }

pub returns-in_err-count-clause-goes_on : goal.returns-in_err-count-clause-goes_on
returns-in_err-count-clause-goes_on g c = goes_as (goes_call c.in_err-count.ensures) (search rules)

pub prove-unreachable-requires-2 : goal.prove-unreachable-requires-2
prove-unreachable-requires-2 g c =
    let ring = c.args.self.now in
    let some = some_from g.W.Words g.W.Shape.Shape c.args.w.now c.read-2.new.self (c.in_ok-front.ensures.shape ∙ c.in_ok-count.ensures.shape)
    (g.met.W.Words.fits c.read-2.new.self c.in_ok-front.ensures.sound) in
    let b : (c.in_ok-front.front < ring.capacity) × (c.in_ok-count.count ≤ ring.capacity) =
    bounds ring _ _ _ _ c.in_ok-count.count c.in_ok-count.ensures.value _ c.in_ok-front.front
    c.in_ok-front.ensures.value (each_plain g.W.Words g.W.Shape.Shape _ _ c.requires.order) some in
    omega (arith, b.0)

pub read-requires-2-clause-within : goal.read-requires-2-clause-within
read-requires-2-clause-within g c =
    let ring = c.args.self.now in
    let l : Lies ring (g.W.Shape.Shape.word_count (g.W.Words.shape c.args.w.now)) =
    lies ring _ _ _ (each_plain g.W.Words g.W.Shape.Shape _ _ c.requires.order) (g.met.W.Words.fits c.args.w.now c.requires.ready.sound) in
    let shape : g.W.Shape.Shape.word_count (g.W.Words.shape c.read.new.self)
    ≡ g.W.Shape.Shape.word_count (g.W.Words.shape c.args.w.now) = ap g.W.Shape.Shape.word_count (c.in_ok-count.ensures.shape) in
    omega (arith, l.some, l.whole)

pub read-requires-3-clause-within : goal.read-requires-3-clause-within
read-requires-3-clause-within g c =
    let ring = c.args.self.now in
    let l : Lies ring (g.W.Shape.Shape.word_count (g.W.Words.shape c.args.w.now)) =
    lies ring _ _ _ (each_plain g.W.Words g.W.Shape.Shape _ _ c.requires.order) (g.met.W.Words.fits c.args.w.now c.requires.ready.sound) in
    let shape : g.W.Shape.Shape.word_count (g.W.Words.shape c.read-2.new.self)
    ≡ g.W.Shape.Shape.word_count (g.W.Words.shape c.args.w.now) =
    ap g.W.Shape.Shape.word_count (c.in_ok-front.ensures.shape ∙ c.in_ok-count.ensures.shape) in
    omega (arith, l.some, l.whole)

pub read-requires-4-clause-within : goal.read-requires-4-clause-within
read-requires-4-clause-within g c =
    let ring = c.args.self.now in
    let l : Lies ring (g.W.Shape.Shape.word_count (g.W.Words.shape c.args.w.now)) =
    lies ring _ _ _ (each_plain g.W.Words g.W.Shape.Shape _ _ c.requires.order) (g.met.W.Words.fits c.args.w.now c.requires.ready.sound) in
    let shape : g.W.Shape.Shape.word_count (g.W.Words.shape c.read-3.new.self)
    ≡ g.W.Shape.Shape.word_count (g.W.Words.shape c.args.w.now) =
    ap g.W.Shape.Shape.word_count (c.in_ok-first.ensures.shape ∙ c.in_ok-front.ensures.shape ∙ c.in_ok-count.ensures.shape) in
    omega (arith, l.some, l.whole)

pub write-requires-clause-within : goal.write-requires-clause-within
write-requires-clause-within g c =
    let ring = c.args.self.now in
    let l : Lies ring (g.W.Shape.Shape.word_count (g.W.Words.shape c.args.w.now)) =
    lies ring _ _ _ (each_plain g.W.Words g.W.Shape.Shape _ _ c.requires.order) (g.met.W.Words.fits c.args.w.now c.requires.ready.sound) in
    let shape : g.W.Shape.Shape.word_count (g.W.Words.shape c.read-4.new.self)
    ≡ g.W.Shape.Shape.word_count (g.W.Words.shape c.args.w.now) =
    ap g.W.Shape.Shape.word_count (c.in_ok-second.ensures.shape ∙ c.in_ok-first.ensures.shape
    ∙ c.in_ok-front.ensures.shape ∙ c.in_ok-count.ensures.shape) in
    omega (arith, l.some, l.whole)

pub write-requires-2-clause-within : goal.write-requires-2-clause-within
write-requires-2-clause-within g c =
    let ring = c.args.self.now in
    let l : Lies ring (g.W.Shape.Shape.word_count (g.W.Words.shape c.args.w.now)) =
    lies ring _ _ _ (each_plain g.W.Words g.W.Shape.Shape _ _ c.requires.order) (g.met.W.Words.fits c.args.w.now c.requires.ready.sound) in
    let shape : g.W.Shape.Shape.word_count (g.W.Words.shape c.write.new.self)
    ≡ g.W.Shape.Shape.word_count (g.W.Words.shape c.args.w.now) =
    ap g.W.Shape.Shape.word_count (c.in_ok-write.ensures.shape ∙ c.in_ok-second.ensures.shape
    ∙ c.in_ok-first.ensures.shape ∙ c.in_ok-front.ensures.shape ∙ c.in_ok-count.ensures.shape) in
    omega (arith, l.some, l.whole)

pub returns-in_err-front-clause-goes_on : goal.returns-in_err-front-clause-goes_on
returns-in_err-front-clause-goes_on g c = goes_as (goes_then (goes_call c.in_ok-count.ensures) (goes_call c.in_err-front.ensures)) (search rules)

pub returns-in_err-first-clause-goes_on : goal.returns-in_err-first-clause-goes_on
returns-in_err-first-clause-goes_on g c =
    goes_as (goes_then (goes_then (goes_call c.in_ok-count.ensures) (goes_call c.in_ok-front.ensures)) (goes_call c.in_err-first.ensures)) (search rules)

pub returns-in_err-second-clause-goes_on : goal.returns-in_err-second-clause-goes_on
returns-in_err-second-clause-goes_on g c =
    goes_as (goes_then (goes_then (goes_then (goes_call c.in_ok-count.ensures) (goes_call c.in_ok-front.ensures))
    (goes_call c.in_ok-first.ensures)) (goes_call c.in_err-second.ensures)) (search rules)

pub returns-in_err-write-clause-goes_on : goal.returns-in_err-write-clause-goes_on
returns-in_err-write-clause-goes_on g c = goes_as (goes_then (goes_then (goes_then
    (goes_then (goes_call c.in_ok-count.ensures) (goes_call c.in_ok-front.ensures))
    (goes_call c.in_ok-first.ensures)) (goes_call c.in_ok-second.ensures)) (goes_call c.in_err-write.ensures)) (search rules)

pub returns-in_err-write-2-clause-goes_on : goal.returns-in_err-write-2-clause-goes_on
returns-in_err-write-2-clause-goes_on g c = goes_as (goes_then (goes_then (goes_then
    (goes_then (goes_then (goes_call c.in_ok-count.ensures) (goes_call c.in_ok-front.ensures))
    (goes_call c.in_ok-first.ensures)) (goes_call c.in_ok-second.ensures)) (goes_call c.in_ok-write.ensures))
    (goes_call c.in_err-write-2.ensures)) (search rules)

pub returns : goal.returns
returns g c =
    let ring = c.args.self.now in
    let answer : Option (ℕ × ℕ) = Some (c.in_ok-first.first, c.in_ok-second.second) in
    let is_own = IsOwn ring in
    let front : IsOwn ring ring.at = omega arith in
    let count : IsOwn ring (ring.at + 1) = omega arith in
    let first : IsOwn ring (ring.at + 2 + 2 * c.in_ok-front.front) = omega arith in
    let second : IsOwn ring (ring.at + 3 + 2 * c.in_ok-front.front) = omega arith in
    let is_capacity : c.from-capacity.result ≡ ring.capacity = omega arith in
    let place : (c.in_ok-front.front + 1) % c.from-capacity.result ≡ (c.in_ok-front.front + 1) % ring.capacity =
    ap (λ k. (c.in_ok-front.front + 1) % k) is_capacity in
    let is_second : ring.at + 3 + 2 * c.in_ok-front.front ≡ place_at ring c.in_ok-front.front + 1 = omega arith in
    let one_more : c.in_ok-count.count ≡ (c.in_ok-count.count - 1) + 1 = omega (arith, c.if-count-eq0.false) in
    let popped : LeadsTo g.W.Words g.W.Shape.Shape c.args.w.now c.write-2.new.self (Pops ring answer) = record {
      at = (pops ring _ _ _ _ c.in_ok-count.count c.in_ok-count.ensures.value _ c.in_ok-front.front
          c.in_ok-front.ensures.value _ _ _ _ (c.in_ok-first.first, c.in_ok-second.second) _ _ _ _ refl is_second place one_more
          c.in_ok-first.ensures.value c.in_ok-second.ensures.value c.in_ok-write.ensures.value c.in_ok-write-2.ensures.value).at;
    } in
    let frame : WritesOnly g.W.Words c.args.w.now c.write-2.new.self is_own = record {
      appended = only_then is_own _ _ _ (only_read is_own _ _ _ _ c.in_ok-count.ensures.value)
          (only_then is_own _ _ _ (only_read is_own _ _ _ _ c.in_ok-front.ensures.value)
          (only_then is_own _ _ _ (only_read is_own _ _ _ _ c.in_ok-first.ensures.value)
          (only_then is_own _ _ _ (only_read is_own _ _ _ _ c.in_ok-second.ensures.value)
          (only_then is_own _ _ _ (only_write is_own _ _ _ _ c.in_ok-write.ensures.value front)
          (only_write is_own _ _ _ _ c.in_ok-write-2.ensures.value count)))));
    } in
    let later : Begins (g.W.Words.trace c.read.new.self) (g.W.Words.trace c.write-2.new.self) =
    begins_trans _ _ _ c.in_ok-front.ensures.begins
    (begins_trans _ _ _ c.in_ok-first.ensures.begins
    (begins_trans _ _ _ c.in_ok-second.ensures.begins (begins_trans _ _ _ c.in_ok-write.ensures.begins c.in_ok-write-2.ensures.begins))) in
    let begins : Begins (g.W.Words.trace c.args.w.now) (g.W.Words.trace c.write-2.new.self) = begins_trans _ _ _ c.in_ok-count.ensures.begins later in
    let shape : g.W.Words.shape c.write-2.new.self ≡ g.W.Words.shape c.args.w.now = c.in_ok-write-2.ensures.shape
    ∙ c.in_ok-write.ensures.shape ∙ c.in_ok-second.ensures.shape ∙ c.in_ok-first.ensures.shape
    ∙ c.in_ok-front.ensures.shape ∙ c.in_ok-count.ensures.shape in
    let some = some_from g.W.Words g.W.Shape.Shape c.args.w.now c.write-2.new.self shape
    (g.met.W.Words.fits c.write-2.new.self c.in_ok-write-2.ensures.sound) in
    record {
      popped = popped;
      none = tt;
      none_if = λ none. not_empty ring _ _ _ _ c.in_ok-count.count c.in_ok-count.ensures.value _ later some
          c.if-count-eq0.false (leads_plain g.W.Words g.W.Shape.Shape _ _ (λ before after. IsEmpty ring before) none);
      order = state_after g.W.Words g.W.Shape.Shape _ _ (IsInOrder ring) (IsInOrder ring) (Pops ring answer) shape
          begins c.requires.order popped (order_popped ring answer);
      frame = frame;
      others = writes_keep g.W.Words g.W.Shape.Shape _ _ _ frame;
      none_frame = tt;
      reads = record {
        appended = sees_then is_own _ _ _ (sees_read is_own _ _ _ _ c.in_ok-count.ensures.value count)
            (sees_then is_own _ _ _ (sees_read is_own _ _ _ _ c.in_ok-front.ensures.value front)
            (sees_then is_own _ _ _ (sees_read is_own _ _ _ _ c.in_ok-first.ensures.value first)
            (sees_then is_own _ _ _ (sees_read is_own _ _ _ _ c.in_ok-second.ensures.value second)
            (sees_then is_own _ _ _ (sees_write is_own _ _ _ _ c.in_ok-write.ensures.value front)
            (sees_write is_own _ _ _ _ c.in_ok-write-2.ensures.value count)))));
      };
      goes_on = goes_as (goes_then (goes_then
          (goes_then (goes_then (goes_then (goes_call c.in_ok-count.ensures) (goes_call c.in_ok-front.ensures))
          (goes_call c.in_ok-first.ensures)) (goes_call c.in_ok-second.ensures)) (goes_call c.in_ok-write.ensures))
          (goes_call c.in_ok-write-2.ensures)) c.in_ok-write-2.ensures.stops;
    }
