use Rattle.txn_hash_map.proofs.Common.{◌≡◌, ◌+◌, ◌*◌, arith, ap, ◌∙◌, rules, goes_call, goes_then, goes_as, bucket_of, each_now}
use Rattle.txn_hash_map.proofs.Fronts.{room, puts_front, front_only, front_reads}
use Rattle.txn_hash_map.proofs.front.put_in_front.Goals as goal

pub overflow_add-place : goal.overflow_add-place
overflow_add-place g c =
    let r = room c.args.key c.args.block (each_now c.requires.laid)
    (g.met.W.Words.fits c.args.w.now c.requires.ready.sound) c.requires.block in
    omega (arith, r.bucket, r.small, c.bucket.ensures)

pub read-requires-clause-within : goal.read-requires-clause-within
read-requires-clause-within g c =
    let r = room c.args.key c.args.block (each_now c.requires.laid)
    (g.met.W.Words.fits c.args.w.now c.requires.ready.sound) c.requires.block in
    omega (arith, r.bucket, c.bucket.ensures)

pub write-requires-clause-within : goal.write-requires-clause-within
write-requires-clause-within g c =
    let r = room c.args.key c.args.block (each_now c.requires.laid)
    (g.met.W.Words.fits c.args.w.now c.requires.ready.sound) c.requires.block in
    omega (arith, r.block, ap g.W.Shape.Shape.word_count c.in_ok-next.ensures.shape)

pub write-requires-2-clause-within : goal.write-requires-2-clause-within
write-requires-2-clause-within g c =
    let r = room c.args.key c.args.block (each_now c.requires.laid)
    (g.met.W.Words.fits c.args.w.now c.requires.ready.sound) c.requires.block in
    omega (arith, r.block, ap g.W.Shape.Shape.word_count (c.in_ok-write.ensures.shape ∙ c.in_ok-next.ensures.shape))

pub write-requires-3-clause-within : goal.write-requires-3-clause-within
write-requires-3-clause-within g c =
    let r = room c.args.key c.args.block (each_now c.requires.laid)
    (g.met.W.Words.fits c.args.w.now c.requires.ready.sound) c.requires.block in
    omega (arith, r.block, ap g.W.Shape.Shape.word_count (c.in_ok-write-2.ensures.shape ∙ c.in_ok-write.ensures.shape ∙ c.in_ok-next.ensures.shape))

pub write-requires-4-clause-within : goal.write-requires-4-clause-within
write-requires-4-clause-within g c =
    let r = room c.args.key c.args.block (each_now c.requires.laid)
    (g.met.W.Words.fits c.args.w.now c.requires.ready.sound) c.requires.block in
    omega (
      arith,
      r.bucket,
      c.bucket.ensures,
      ap g.W.Shape.Shape.word_count (c.in_ok-write-3.ensures.shape
          ∙ c.in_ok-write-2.ensures.shape ∙ c.in_ok-write.ensures.shape ∙ c.in_ok-next.ensures.shape),
    )

pub returns-clause-put : goal.returns-clause-put
returns-clause-put g c =
    let m = c.args.map.now in
    let is_bucket : m.buckets + c.bucket.result ≡ m.buckets + bucket_of c.args.key = ap (λ k. m.buckets + k) c.bucket.ensures in
    let is_block : c.place_of-at.result ≡ m.arena.first + 4 * c.args.block = c.place_of-at.ensures in
    let is_name : c.from.result + 1 ≡ c.args.block + 1 = omega arith in
    record {
      at = (puts_front m c.args.key c.args.value c.args.block _ _ _ _ _ _ _ _ _ _ c.in_ok-next.next _ is_bucket is_block is_name
          c.in_ok-next.ensures.value c.in_ok-write.ensures.value c.in_ok-write-2.ensures.value c.in_ok-write-3.ensures.value c.in_ok-write-4.ensures.value
          (each_now c.requires.laid) c.requires.block).at;
    }

pub returns-clause-frame : goal.returns-clause-frame
returns-clause-frame g c =
    let m = c.args.map.now in
    let is_bucket : m.buckets + c.bucket.result ≡ m.buckets + bucket_of c.args.key = ap (λ k. m.buckets + k) c.bucket.ensures in
    let is_block : c.place_of-at.result ≡ m.arena.first + 4 * c.args.block = c.place_of-at.ensures in
    let is_name : c.from.result + 1 ≡ c.args.block + 1 = omega arith in
    record {
      appended = front_only m c.args.key c.args.value c.args.block 0 (λ s. ⊥) _ _ _ _ _ _ _ _ c.in_ok-next.next _ is_bucket is_block is_name
          c.in_ok-next.ensures.value c.in_ok-write.ensures.value c.in_ok-write-2.ensures.value c.in_ok-write-3.ensures.value c.in_ok-write-4.ensures.value;
    }

pub returns-clause-reads : goal.returns-clause-reads
returns-clause-reads g c =
    let m = c.args.map.now in
    let is_bucket : m.buckets + c.bucket.result ≡ m.buckets + bucket_of c.args.key = ap (λ k. m.buckets + k) c.bucket.ensures in
    let is_block : c.place_of-at.result ≡ m.arena.first + 4 * c.args.block = c.place_of-at.ensures in
    let is_name : c.from.result + 1 ≡ c.args.block + 1 = omega arith in
    front_reads m c.args.key c.args.value c.args.block 0 (λ s. ⊥) _ _ _ _ _ _ _ _ c.in_ok-next.next _ is_bucket is_block is_name
    c.in_ok-next.ensures.value c.in_ok-write.ensures.value c.in_ok-write-2.ensures.value c.in_ok-write-3.ensures.value c.in_ok-write-4.ensures.value

pub returns-in_err-next-clause-goes_on : goal.returns-in_err-next-clause-goes_on
returns-in_err-next-clause-goes_on g c = goes_as (goes_call c.in_err-next.ensures) (search rules)

pub returns-in_err-write-clause-goes_on : goal.returns-in_err-write-clause-goes_on
returns-in_err-write-clause-goes_on g c = goes_as (goes_then (goes_call c.in_ok-next.ensures) (goes_call c.in_err-write.ensures)) (search rules)

pub returns-in_err-write-2-clause-goes_on : goal.returns-in_err-write-2-clause-goes_on
returns-in_err-write-2-clause-goes_on g c = goes_as (goes_then (goes_then (goes_call c.in_ok-next.ensures) (goes_call c.in_ok-write.ensures))
    (goes_call c.in_err-write-2.ensures)) (search rules)

pub returns-in_err-write-3-clause-goes_on : goal.returns-in_err-write-3-clause-goes_on
returns-in_err-write-3-clause-goes_on g c =
    goes_as (goes_then (goes_then (goes_then (goes_call c.in_ok-next.ensures) (goes_call c.in_ok-write.ensures))
    (goes_call c.in_ok-write-2.ensures)) (goes_call c.in_err-write-3.ensures)) (search rules)

pub returns-in_err-write-4-clause-goes_on : goal.returns-in_err-write-4-clause-goes_on
returns-in_err-write-4-clause-goes_on g c = goes_as (goes_then (goes_then (goes_then
    (goes_then (goes_call c.in_ok-next.ensures) (goes_call c.in_ok-write.ensures))
    (goes_call c.in_ok-write-2.ensures)) (goes_call c.in_ok-write-3.ensures)) (goes_call c.in_err-write-4.ensures)) (search rules)
