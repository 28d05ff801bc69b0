use Rattle.txn_tree_map.proofs.Common.{◌≡◌, ◌+◌, ◌<◌, ap, ◌∙◌, arith, rules, goes_call, goes_then, goes_as, block_at, laid_block, each_now, each_since}
use Rattle.txn_tree_map.proofs.Common.{leads_since, some_since, within_since, reads_since}
use Rattle.txn_tree_map.proofs.Inserts.PutCalls.{seat_within, can_split, put_all}
use Rattle.txn_tree_map.proofs.insert.put_in.Goals as goal

pub find_seat-requires-clause-missing : goal.find_seat-requires-clause-missing
find_seat-requires-clause-missing g c = record { at = λ s fit. (c.requires.missing.at s fit).missing }

pub write-requires-clause-within : goal.write-requires-clause-within
write-requires-clause-within g c =
    let m = c.args.map.now in
    let some = g.met.W.Words.fits c.args.w.now c.requires.ready.sound in
    let below : c.args.block < m.arena.blocks = (c.requires.missing.at some.0 some.1).below in
    let in_list = laid_block m.arena _ _ _ some c.args.block (record { at = λ s fit. (c.requires.missing.at s fit).missing.is_at.laid.arena }) below in
    omega (arith, in_list.0, c.place_of-at.ensures, ap g.W.Shape.Shape.word_count c.in_ok-seat.ensures.goes_on.shape)

pub write-requires-2-clause-within : goal.write-requires-2-clause-within
write-requires-2-clause-within g c =
    let m = c.args.map.now in
    let some = g.met.W.Words.fits c.args.w.now c.requires.ready.sound in
    let below : c.args.block < m.arena.blocks = (c.requires.missing.at some.0 some.1).below in
    let in_list = laid_block m.arena _ _ _ some c.args.block (record { at = λ s fit. (c.requires.missing.at s fit).missing.is_at.laid.arena }) below in
    omega (arith, in_list.0, c.place_of-at.ensures, ap g.W.Shape.Shape.word_count (c.in_ok-write.ensures.shape ∙ c.in_ok-seat.ensures.goes_on.shape))

pub split-requires-clause-whole : goal.split-requires-clause-whole
split-requires-clause-whole g c =
    let m = c.args.map.now in
    let is_block : c.place_of-at.result ≡ block_at m.arena c.args.block = omega (arith, c.place_of-at.ensures) in
    each_since c.args.w.now (c.in_ok-write-2.ensures.shape
    ∙ c.in_ok-write.ensures.shape ∙ c.in_ok-seat.ensures.goes_on.shape)
    (can_split c.args.value c.in_ok-seat.ensures.seat
    (each_now c.requires.missing)
    (c.place_of-at.result) 0 _ _ is_block c.in_ok-write.ensures.value c.in_ok-write-2.ensures.value)

pub write-requires-3-clause-within : goal.write-requires-3-clause-within
write-requires-3-clause-within g c =
    let goes = c.in_ok-seat.ensures.goes_on in
    let some = some_since g.W.Words g.W.Shape.Shape goes.shape (g.met.W.Words.fits c.find_seat.new.w goes.sound) in
    let within = seat_within c.args.value
    c.in_ok-seat.ensures.seat (each_now c.requires.missing) some in
    omega (
      arith,
      ap g.W.Shape.Shape.word_count (c.in_ok-split.ensures.goes_on.shape
          ∙ c.in_ok-write-2.ensures.shape ∙ c.in_ok-write.ensures.shape ∙ goes.shape),
    )

pub returns : goal.returns
returns g c =
    let first = c.in_ok-seat.ensures in
    let one = c.in_ok-write.ensures in
    let two = c.in_ok-write-2.ensures in
    let split = c.in_ok-split.ensures in
    let three = c.in_ok-write-3.ensures in
    let is_block : c.place_of-at.result ≡ block_at c.args.map.now.arena c.args.block = omega (arith, c.place_of-at.ensures) in
    let is_name : c.from.result + 1 ≡ c.args.block + 1 = omega (arith, c.from.ensures) in
    let same = two.shape ∙ one.shape ∙ first.goes_on.shape in
    let puts = put_all c.args.value first.seat (each_now c.requires.missing) c.place_of-at.result (c.from.result + 1) _ _ is_block one.value two.value _
    split.goes_on.begins (leads_since same split.split) is_name three.value in
    record {
      put = record { at = puts.0.at };
      frame = record { at = puts.1 (within_since same split.frame) };
      reads = record { at = puts.2 (reads_since same split.reads) };
      goes_on = goes_as (goes_then (goes_then (goes_then (goes_then first.goes_on (goes_call one)) (goes_call two)) split.goes_on) (goes_call three))
          (search rules);
    }

pub returns-in_err-seat-clause-goes_on : goal.returns-in_err-seat-clause-goes_on
returns-in_err-seat-clause-goes_on g c = goes_as c.in_err-seat.ensures.goes_on (search rules)

pub returns-in_err-write-clause-goes_on : goal.returns-in_err-write-clause-goes_on
returns-in_err-write-clause-goes_on g c = goes_as (goes_then c.in_ok-seat.ensures.goes_on (goes_call c.in_err-write.ensures)) (search rules)

pub returns-in_err-write-2-clause-goes_on : goal.returns-in_err-write-2-clause-goes_on
returns-in_err-write-2-clause-goes_on g c =
    goes_as (goes_then (goes_then c.in_ok-seat.ensures.goes_on (goes_call c.in_ok-write.ensures)) (goes_call c.in_err-write-2.ensures)) (search rules)

pub returns-in_err-split-clause-goes_on : goal.returns-in_err-split-clause-goes_on
returns-in_err-split-clause-goes_on g c = goes_as (goes_then (goes_then (goes_then c.in_ok-seat.ensures.goes_on (goes_call c.in_ok-write.ensures))
    (goes_call c.in_ok-write-2.ensures)) c.in_err-split.ensures.goes_on) (search rules)

pub returns-in_err-write-3-clause-goes_on : goal.returns-in_err-write-3-clause-goes_on
returns-in_err-write-3-clause-goes_on g c = goes_as (goes_then (goes_then (goes_then
    (goes_then c.in_ok-seat.ensures.goes_on (goes_call c.in_ok-write.ensures)) (goes_call c.in_ok-write-2.ensures))
    c.in_ok-split.ensures.goes_on) (goes_call c.in_err-write-3.ensures)) (search rules)
