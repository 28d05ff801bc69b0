use Rattle.txn_tree_map.proofs.Common.{◌≡◌, ◌+◌, arith, rules, ap, ◌∙◌, goes_call, goes_then, goes_as, block_at, each_looked, tree_part, laid_block, held}
use Rattle.txn_tree_map.proofs.Common.{looks_value, each_now, each_since, leads_since, some_since, within_since, reads_since}
use Rattle.txn_alloc.proofs.FreeLists.Wider.{take_keeps}
use Rattle.txn_tree_map.proofs.Searches.SearchSteps.{missing_value}
use Rattle.txn_alloc.proofs.Maps.Inserted.{revalued, put_new, found_full}
use Rattle.txn_tree_map.proofs.Searches.Gets.{near_own, keys_block}
use Rattle.txn_tree_map.proofs.Inserts.Values.{inserted_old}
use Rattle.txn_tree_map.proofs.Inserts.InsertCalls.{can_put_each, inserts_new, takes_new, owns_new, sees_new}
use Rattle.txn_alloc.specs.FreeLists as lists
use Rattle.txn_tree_map.proofs.map.TreeMap.insert.Goals as goal

pub find-requires-clause-order : goal.find-requires-clause-order
find-requires-clause-order g c = record { at = λ s fit. held (c.requires.order.at s fit) }

pub read-requires-clause-within : goal.read-requires-clause-within
read-requires-clause-within g c =
    let m = c.args.self.now in
    let below = rw c.in-Some.is at c.in_ok-found.ensures.block in
    let goes = c.in_ok-found.ensures.goes_on in
    let in_list = laid_block m.arena _ _ _ (g.met.W.Words.fits c.args.w.now c.requires.ready.sound)
    c.in-Some.found.block (record { at = λ s fit. (c.requires.order.at s fit).holds.map.laid.arena }) below in
    omega (arith, in_list.0, ap g.W.Shape.Shape.word_count goes.shape, c.place_of-at.ensures)

pub write-requires-clause-within : goal.write-requires-clause-within
write-requires-clause-within g c =
    let m = c.args.self.now in
    let below = rw c.in-Some.is at c.in_ok-found.ensures.block in
    let goes = c.in_ok-found.ensures.goes_on in
    let in_list = laid_block m.arena _ _ _ (g.met.W.Words.fits c.args.w.now c.requires.ready.sound)
    c.in-Some.found.block (record { at = λ s fit. (c.requires.order.at s fit).holds.map.laid.arena }) below in
    omega (arith, in_list.0, ap g.W.Shape.Shape.word_count goes.shape, ap g.W.Shape.Shape.word_count c.in_ok-old-in-Some.ensures.shape, c.place_of-at.ensures)

pub take_near-requires-clause-order : goal.take_near-requires-clause-order
take_near-requires-clause-order g c =
    let m = c.args.self.now in
    let missing = rw c.in-None.is at c.in_ok-found.ensures.missing in
    let goes = c.in_ok-found.ensures.goes_on in
    each_since c.args.w.now goes.shape
    (each_looked _ _ _ _ missing (lists.IsInOrder m.arena) (record { at = λ s fit. let o = c.requires.order.at s fit in (o.free, o.holds.free_lists) }))

pub put_in-requires-clause-missing : goal.put_in-requires-clause-missing
put_in-requires-clause-missing g c =
    let m = c.args.self.now in
    let missing = rw c.in-None.is at c.in_ok-found.ensures.missing in
    let goes = c.in_ok-found.ensures.goes_on in
    let then = c.in_ok-block-in-None.ensures in
    let taken = rw c.in-Some-2.is at then.taken in
    rw c.number.ensures (each_since c.args.w.now (then.goes_on.shape ∙ goes.shape)
    (can_put_each c.args.value (each_now c.requires.order) missing then.goes_on.begins c.in-Some-2.block
    (leads_since goes.shape taken)
    (take_keeps m.arena c.in_ok-block-in-None.field-0 _ _ _ _ (leads_since goes.shape then.others))))

pub returns-in_ok-write-in-Some : goal.returns-in_ok-write-in-Some
returns-in_ok-write-in-Some g c =
    let m = c.args.self.now in
    let key = c.args.key in
    let b = c.in-Some.found.block in
    let q = c.place_of-at.result + 1 in
    let read = c.in_ok-old-in-Some.ensures in
    let write = c.in_ok-write-in-Some.ensures in
    let found = rw c.in-Some.is at c.in_ok-found.ensures.found in
    let is_value : q ≡ block_at m.arena b + 1 = omega (arith, c.place_of-at.ensures) in
    let goes = goes_then (goes_then c.in_ok-found.ensures.goes_on (goes_call read)) (goes_call write) in
    let some = some_since g.W.Words g.W.Shape.Shape goes.shape (g.met.W.Words.fits c.write.new.self goes.sound) in
    let i = revalued g.W.Words g.W.Shape.Shape (tree_part m) key c.args.value c.args.w.now c.write.new.self goes.shape goes.begins
    c.requires.order some b q c.in_ok-old-in-Some.old is_value _ (keys_block m key c.in-Some.found.place b) (near_own m key)
    (looks_value _ _ _ _ found _ q c.in_ok-old-in-Some.old read.value) write.value
    (λ s f used free hold h. inserted_old c.args.value h hold) in
    record {
      put = i.put;
      nearest = i.nearest;
      full = i.full;
      full_if = i.full_if;
      order = i.order;
      frame = i.frame;
      old = i.old;
      full_frame = i.full_frame;
      reads = i.reads;
      goes_on = goes_as goes write.stops;
    }

pub returns-in_ok-put_in-in-Some-2 : goal.returns-in_ok-put_in-in-Some-2
returns-in_ok-put_in-in-Some-2 g c =
    let m = c.args.self.now in
    let key = c.args.key in
    let b = c.in-Some-2.block in
    let first = c.in_ok-found.ensures.goes_on in
    let take = c.in_ok-block-in-None.ensures in
    let last = c.in_ok-put_in-in-Some-2.ensures in
    let goes = goes_then (goes_then first take.goes_on) last.goes_on in
    let missing = rw c.in-None.is at c.in_ok-found.ensures.missing in
    let order = each_now c.requires.order in
    let taken = leads_since first.shape (rw c.in-Some-2.is at take.taken) in
    let nearest = leads_since first.shape (rw c.in-Some-2.is at take.nearest) in
    let kept = take_keeps m.arena c.in_ok-block-in-None.field-0 _ _ _ _
    (leads_since first.shape take.others) in
    let heads = rw c.in-Some-2.is at take.frame in
    let names = rw c.in-Some-2.is at take.reads in
    let same = take.goes_on.shape ∙ first.shape in
    let put = leads_since same (rw c.number.ensures at last.put) in
    let own = rw c.number.ensures at last.frame in
    let seen = rw c.number.ensures at last.reads in
    let some = some_since g.W.Words g.W.Shape.Shape goes.shape (g.met.W.Words.fits c.put_in.new.w goes.sound) in
    let i = put_new g.W.Words g.W.Shape.Shape (tree_part m) key c.args.value c.args.w.now c.put_in.new.w goes.shape goes.begins c.requires.order some
    (inserts_new c.args.value order missing take.goes_on.begins b taken kept last.goes_on.begins put)
    (takes_new c.args.value order missing take.goes_on.begins b taken kept last.goes_on.begins put nearest)
    (owns_new c.args.value order missing take.goes_on.begins b taken kept last.goes_on.begins put
    heads.appended (within_since same own))
    (sees_new c.args.value order missing take.goes_on.begins b taken kept last.goes_on.begins put names
    (reads_since same seen)) in
    record {
      put = i.put;
      nearest = i.nearest;
      full = i.full;
      full_if = i.full_if;
      order = i.order;
      frame = i.frame;
      old = i.old;
      full_frame = i.full_frame;
      reads = i.reads;
      goes_on = goes_as goes last.goes_on.stops;
    }

pub returns-in-None-2 : goal.returns-in-None-2
returns-in-None-2 g c =
    let m = c.args.self.now in
    let key = c.args.key in
    let first = c.in_ok-found.ensures.goes_on in
    let take = c.in_ok-block-in-None.ensures in
    let goes = goes_then first take.goes_on in
    let missing = rw c.in-None.is at c.in_ok-found.ensures.missing in
    let taken = rw c.in-None-2.is at take.taken in
    let none = rw c.in-None-2.is at take.none in
    let still = rw c.in-None-2.is at take.frame in
    let names = rw c.in-None-2.is at take.reads in
    let i = found_full g.W.Words g.W.Shape.Shape (tree_part m) key c.args.value c.args.w.now c.take_near.new.w goes.shape goes.begins
    c.requires.order _ (near_own m key) (λ s f used h. missing_value h) missing take.goes_on.begins
    (leads_since first.shape taken)
    (leads_since first.shape none)
    still.appended names in
    record {
      put = i.put;
      nearest = i.nearest;
      full = i.full;
      full_if = i.full_if;
      order = i.order;
      frame = i.frame;
      old = i.old;
      full_frame = i.full_frame;
      reads = i.reads;
      goes_on = goes_as goes take.goes_on.stops;
    }

pub returns-in_err-found-clause-goes_on : goal.returns-in_err-found-clause-goes_on
returns-in_err-found-clause-goes_on g c = goes_as c.in_err-found.ensures.goes_on (search rules)

pub returns-in_err-old-in-Some-clause-goes_on : goal.returns-in_err-old-in-Some-clause-goes_on
returns-in_err-old-in-Some-clause-goes_on g c =
    goes_as (goes_then c.in_ok-found.ensures.goes_on (goes_call c.in_err-old-in-Some.ensures)) (search rules)

pub returns-in_err-write-in-Some-clause-goes_on : goal.returns-in_err-write-in-Some-clause-goes_on
returns-in_err-write-in-Some-clause-goes_on g c = goes_as (goes_then (goes_then c.in_ok-found.ensures.goes_on (goes_call c.in_ok-old-in-Some.ensures))
    (goes_call c.in_err-write-in-Some.ensures)) (search rules)

pub returns-in_err-block-in-None-clause-goes_on : goal.returns-in_err-block-in-None-clause-goes_on
returns-in_err-block-in-None-clause-goes_on g c =
    goes_as (goes_then c.in_ok-found.ensures.goes_on c.in_err-block-in-None.ensures.goes_on) (search rules)

pub returns-in_err-put_in-in-Some-2-clause-goes_on : goal.returns-in_err-put_in-in-Some-2-clause-goes_on
returns-in_err-put_in-in-Some-2-clause-goes_on g c =
    goes_as (goes_then (goes_then c.in_ok-found.ensures.goes_on c.in_ok-block-in-None.ensures.goes_on)
    c.in_err-put_in-in-Some-2.ensures.goes_on) (search rules)
