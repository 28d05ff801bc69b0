use Rattle.txn_tree_map.proofs.Common.{◌≡◌, ◌+◌, arith, rules, goes_call, goes_as, only_write, sees_write, block_at}
use Rattle.txn_tree_map.specs.Stored.{IsValueOf}
use Rattle.txn_tree_map.proofs.Inserts.InPlace.{lies_in, set_in_place, set_keeps, set_apart}
use Rattle.txn_tree_map.proofs.map.TreeMap.set_stored.Goals as goal

pub place_of-requires : goal.place_of-requires
place_of-requires g c =
    let in_list = lies_in c.args.self.now c.args.key c.args.block
    (g.met.W.Words.fits c.args.w.now c.requires.ready.sound) c.requires.order c.requires.held in
    omega (arith, in_list.0, in_list.1)

pub overflow_add-place_of : goal.overflow_add-place_of
overflow_add-place_of g c =
    let in_list = lies_in c.args.self.now c.args.key c.args.block
    (g.met.W.Words.fits c.args.w.now c.requires.ready.sound) c.requires.order c.requires.held in
    omega (arith, in_list.0, in_list.1, c.place_of.ensures)

pub write-requires-clause-within : goal.write-requires-clause-within
write-requires-clause-within g c =
    let in_list = lies_in c.args.self.now c.args.key c.args.block
    (g.met.W.Words.fits c.args.w.now c.requires.ready.sound) c.requires.order c.requires.held in
    omega (arith, in_list.0, c.place_of.ensures)

pub returns : goal.returns
returns g c =
    let m = c.args.self.now in
    let b = c.args.block in
    let q = c.place_of.result + 1 in
    let write = c.in_ok-write.ensures in
    let is_value : q ≡ block_at m.arena b + 1 = omega (arith, c.place_of.ensures) in
    record {
      put = set_in_place m c.args.key b c.args.value q c.write.new.self write.shape is_value c.requires.held write.value;
      blocks = set_keeps m c.args.key b c.args.value q c.write.new.self write.shape is_value c.requires.held write.value;
      order = set_apart m c.args.key b c.args.value q c.write.new.self write.shape is_value c.requires.held write.value
          c.requires.order;
      frame = record { appended = only_write (IsValueOf m b) _ _ q c.args.value write.value is_value };
      reads = record { appended = sees_write (IsValueOf m b) _ _ q c.args.value write.value is_value };
      goes_on = goes_as (goes_call write) write.stops;
    }

pub returns-in_err-write-clause-goes_on : goal.returns-in_err-write-clause-goes_on
returns-in_err-write-clause-goes_on g c = goes_as (goes_call c.in_err-write.ensures) (search rules)
