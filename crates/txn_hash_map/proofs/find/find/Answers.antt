use Rattle.txn_hash_map.proofs.Common.{◌≡◌, ◌+◌, ◌*◌, ◌<◌, Some, refl, ap, ◌∙◌, subst, rules, arith, IsFoundAt, IsMissing, IsLink, looks_map, goes_call}
use Rattle.txn_hash_map.proofs.Common.{goes_then, goes_as, laid_block, some_since}
use Rattle.std.proofs.Common.{◌-◌}
use Rattle.txn_hash_map.proofs.Passed.{IsPassed}
use Rattle.txn_hash_map.proofs.Steps.{bucket_fits, passed_none, passed_end, passed_more, passed_found, passed_all}
use Rattle.txn_words.proofs.Looks.{looks_none}
use Rattle.txn_words.proofs.CallLaws.{goes}
use Rattle.txn_hash_map.proofs.Looks.{looks_within, looks_names, looks_name, looks_key}
use Rattle.txn_hash_map.proofs.find.find.Goals as goal

pub overflow_add-place : goal.overflow_add-place
overflow_add-place g c =
    let some = g.met.W.Words.fits c.args.w.now c.requires.ready.sound in
    let low = bucket_fits c.args.map.now c.args.key _ (c.requires.order.at some.0 some.1).holds.laid in
    omega (arith, c.bucket.ensures)

pub loop-init : goal.loop-init
loop-init g c =
    let m = c.args.map.now in
    record {
      shape = refl;
      origin = refl;
      stop = c.requires.ready.going;
      sound = c.requires.ready.sound;
      looks = looks_none _ _ _ (IsLink m c.args.key) _ (record {
        at = λ s fit. let o = c.requires.order.at s fit in
            passed_none m c.args.key _ (m.buckets + c.bucket.result) (ap (λ b. m.buckets + b) c.bucket.ensures) o.holds;
      });
    }

pub read-requires-clause-within : goal.read-requires-clause-within
read-requires-clause-within g c =
    let i = c.loop.invariant in
    let some = some_since g.W.Words g.W.Shape.Shape i.shape (g.met.W.Words.fits c.loop.w i.sound) in
    let within : c.loop.place < g.W.Shape.Shape.word_count (g.W.Words.shape c.args.w.now) =
    looks_within c.args.map.now c.args.key i.looks some in
    omega (arith, ap g.W.Shape.Shape.word_count i.shape)

pub prove-unreachable-requires : goal.prove-unreachable-requires
prove-unreachable-requires g c =
    let m = c.args.map.now in
    let i = c.loop.invariant in
    let some = some_since g.W.Words g.W.Shape.Shape (c.in_ok-name.ensures.shape ∙ i.shape)
    (g.met.W.Words.fits c.read.new.self c.in_ok-name.ensures.sound) in
    let one_more : c.in_ok-name.name ≡ (c.in_ok-name.name - 1) + 1 = omega (arith, c.if-name-eq0.false) in
    let lt : c.in_ok-name.name - 1 < m.arena.blocks =
    looks_names m c.args.key c.loop.place c.loop.counter c.in_ok-name.name (c.in_ok-name.name - 1)
    (looks_name _ c.in_ok-name.name i.looks c.in_ok-name.ensures.value) one_more some in
    omega arith

pub read-requires-in-loop-clause-within : goal.read-requires-in-loop-clause-within
read-requires-in-loop-clause-within g c =
    let m = c.args.map.now in
    let i = c.loop.invariant in
    let some = some_since g.W.Words g.W.Shape.Shape i.shape (g.met.W.Words.fits c.loop.w i.sound) in
    let b = c.in_ok-name.name - 1 in
    let lt : b < m.arena.blocks = omega arith in
    let in_list = laid_block m.arena _ _ _ some b (record { at = λ s fit. (i.looks.holds s fit).laid.arena }) lt in
    omega (arith, in_list.0, c.place_of-at.ensures, ap g.W.Shape.Shape.word_count (c.in_ok-name.ensures.shape ∙ i.shape))

pub returns-then-name-eq0 : goal.returns-then-name-eq0
returns-then-name-eq0 g c =
    let m = c.args.map.now in
    let i = c.loop.invariant in
    record {
      found = tt;
      missing =
          looks_map _ _ _ (IsLink m c.args.key) _ _ (IsMissing m c.args.key)
          (λ s h. passed_end m c.args.key s h.0 (h.1 ∙ ap Some c.if-name-eq0.true))
          (looks_name _ c.in_ok-name.name i.looks c.in_ok-name.ensures.value);
      block = tt;
      goes_on = goes_as (goes_then (goes i.shape i.origin i.looks.begins i.stop i.sound) (goes_call c.in_ok-name.ensures)) (search rules);
    }

pub returns-then-there-key : goal.returns-then-there-key
returns-then-there-key g c =
    let m = c.args.map.now in
    let i = c.loop.invariant in
    let b = c.in_ok-name.name - 1 in
    let one_more : c.in_ok-name.name ≡ b + 1 = omega (arith, c.if-name-eq0.false) in
    let lt : b < m.arena.blocks = omega arith in
    let is_block : c.place_of-at.result ≡ m.arena.first + 4 * b = c.place_of-at.ensures in
    record {
      found =
          looks_map _ _ _ (IsLink m c.args.key) _ _ (IsFoundAt m c.args.key c.loop.place b)
          (λ s h. passed_found m c.args.key s b h.0 h.1 (h.2 ∙ ap Some c.if-there-key.true))
          (looks_key _ _ c.in_ok-name.name b _ c.in_ok-there.there
          i.looks c.in_ok-name.ensures.value c.in_ok-there.ensures.value
          one_more is_block);
      missing = tt;
      block = lt;
      goes_on = goes_as (goes_then (goes_then (goes i.shape i.origin i.looks.begins i.stop i.sound)
          (goes_call c.in_ok-name.ensures)) (goes_call c.in_ok-there.ensures)) (search rules);
    }

pub loop-preserved : goal.loop-preserved
loop-preserved g c =
    let m = c.args.map.now in
    let i = c.loop.invariant in
    let b = c.in_ok-name.name - 1 in
    let one_more : c.in_ok-name.name ≡ b + 1 = omega (arith, c.if-name-eq0.false) in
    let lt : b < m.arena.blocks = omega arith in
    let is_block : c.place_of-at.result ≡ m.arena.first + 4 * b = c.place_of-at.ensures in
    let is_next : m.arena.first + 4 * b + 2 ≡ c.place_of-at.result + 2 = omega (arith, c.place_of-at.ensures) in
    record {
      shape = c.in_ok-there.ensures.shape ∙ c.in_ok-name.ensures.shape ∙ i.shape;
      origin = c.in_ok-there.ensures.origin ∙ c.in_ok-name.ensures.origin ∙ i.origin;
      stop = c.in_ok-there.ensures.stops;
      sound = c.in_ok-there.ensures.sound;
      looks = looks_map _ _ _ (IsLink m c.args.key) _ _ _
          (λ s h. subst (λ q. IsPassed m c.args.key q (c.loop.counter + 1) s) is_next
          (passed_more m c.args.key s b c.in_ok-there.there h.0 h.1 h.2 c.if-there-key.false))
          (looks_key _ _ c.in_ok-name.name b _ c.in_ok-there.there
          i.looks c.in_ok-name.ensures.value c.in_ok-there.ensures.value
          one_more is_block);
    }

pub returns : goal.returns
returns g c =
    let m = c.args.map.now in
    let i = c.loop.invariant in
    record {
      found = tt;
      missing =
          looks_map _ _ _ (IsLink m c.args.key) _ _ (IsMissing m c.args.key)
          (λ s h. passed_all m c.args.key s (omega (arith, c.loop-test.false)) h) i.looks;
      block = tt;
      goes_on = goes_as (goes i.shape i.origin i.looks.begins i.stop i.sound) i.stop;
    }

pub returns-in_err-name-clause-goes_on : goal.returns-in_err-name-clause-goes_on
returns-in_err-name-clause-goes_on g c =
    let i = c.loop.invariant in
    goes_as (goes_then (goes i.shape i.origin i.looks.begins i.stop i.sound) (goes_call c.in_err-name.ensures)) (search rules)

pub returns-in_err-there-clause-goes_on : goal.returns-in_err-there-clause-goes_on
returns-in_err-there-clause-goes_on g c =
    let i = c.loop.invariant in
    goes_as (goes_then (goes_then (goes i.shape i.origin i.looks.begins i.stop i.sound)
    (goes_call c.in_ok-name.ensures)) (goes_call c.in_err-there.ensures)) (search rules)
