use Rattle.txn_tree_map.proofs.Common.{◌≡◌, ap, ◌∙◌, arith, rules, goes_call, goes_then, goes_as, block_at, laid_block, each_now, each_since, leads_since}
use Rattle.txn_tree_map.proofs.Common.{within_since, reads_since}
use Rattle.txn_tree_map.proofs.Removals.RemoveCalls.{can_join, cuts_all}
use Rattle.txn_tree_map.proofs.remove.cut.Goals as goal

pub read-requires-clause-within : goal.read-requires-clause-within
read-requires-clause-within g c =
    let in_list = laid_block c.args.map.now.arena _ _ _ (g.met.W.Words.fits c.args.w.now c.requires.ready.sound)
    c.args.found.block (record { at = λ s fit. (c.requires.can.at s fit).found.is_at.laid.arena }) c.requires.block in
    omega (arith, in_list.0, c.place_of-at.ensures)

pub read-requires-2-clause-within : goal.read-requires-2-clause-within
read-requires-2-clause-within g c =
    let in_list = laid_block c.args.map.now.arena _ _ _ (g.met.W.Words.fits c.args.w.now c.requires.ready.sound)
    c.args.found.block (record { at = λ s fit. (c.requires.can.at s fit).found.is_at.laid.arena }) c.requires.block in
    omega (arith, in_list.0, c.place_of-at.ensures, ap g.W.Shape.Shape.word_count c.in_ok-value.ensures.shape)

pub read-requires-3-clause-within : goal.read-requires-3-clause-within
read-requires-3-clause-within g c =
    let in_list = laid_block c.args.map.now.arena _ _ _ (g.met.W.Words.fits c.args.w.now c.requires.ready.sound)
    c.args.found.block (record { at = λ s fit. (c.requires.can.at s fit).found.is_at.laid.arena }) c.requires.block in
    omega (arith, in_list.0, c.place_of-at.ensures, ap g.W.Shape.Shape.word_count (c.in_ok-left.ensures.shape ∙ c.in_ok-value.ensures.shape))

pub join-requires-clause-pair : goal.join-requires-clause-pair
join-requires-clause-pair g c =
    let m = c.args.map.now in
    let f = c.args.found in
    let a = c.place_of-at.result in
    let is_block : a ≡ block_at m.arena f.block = omega (arith, c.place_of-at.ensures) in
    each_since c.args.w.now (c.in_ok-right.ensures.shape
    ∙ c.in_ok-left.ensures.shape ∙ c.in_ok-value.ensures.shape)
    (can_join m f.place f.block a c.in_ok-value.value c.in_ok-left.left c.in_ok-right.right _ _ _ _ _ _ c.requires.block is_block
    c.in_ok-value.ensures.value c.in_ok-left.ensures.value c.in_ok-right.ensures.value (each_now c.requires.can))

pub returns : goal.returns
returns g c =
    let m = c.args.map.now in
    let f = c.args.found in
    let a = c.place_of-at.result in
    let one = c.in_ok-value.ensures in
    let two = c.in_ok-left.ensures in
    let three = c.in_ok-right.ensures in
    let join = c.in_ok-join.ensures in
    let is_block : a ≡ block_at m.arena f.block = omega (arith, c.place_of-at.ensures) in
    let same = three.shape ∙ two.shape ∙ one.shape in
    let cuts = cuts_all m f.place f.block a c.in_ok-value.value c.in_ok-left.left c.in_ok-right.right _ _ _ _ _ _ c.requires.block is_block
    one.value two.value three.value join.goes_on.begins in
    record {
      cut = record { at = (cuts.0 (leads_since same join.joined)).at };
      frame = record { at = cuts.1 (within_since same join.frame) };
      reads = record { at = cuts.2 (reads_since same join.reads) };
      goes_on = goes_as (goes_then (goes_then (goes_then (goes_call one) (goes_call two)) (goes_call three)) join.goes_on) (search rules);
    }

pub returns-in_err-value-clause-goes_on : goal.returns-in_err-value-clause-goes_on
returns-in_err-value-clause-goes_on g c = goes_as (goes_call c.in_err-value.ensures) (search rules)

pub returns-in_err-left-clause-goes_on : goal.returns-in_err-left-clause-goes_on
returns-in_err-left-clause-goes_on g c = goes_as (goes_then (goes_call c.in_ok-value.ensures) (goes_call c.in_err-left.ensures)) (search rules)

pub returns-in_err-right-clause-goes_on : goal.returns-in_err-right-clause-goes_on
returns-in_err-right-clause-goes_on g c =
    goes_as (goes_then (goes_then (goes_call c.in_ok-value.ensures) (goes_call c.in_ok-left.ensures)) (goes_call c.in_err-right.ensures)) (search rules)

pub returns-in_err-join-clause-goes_on : goal.returns-in_err-join-clause-goes_on
returns-in_err-join-clause-goes_on g c = goes_as (goes_then (goes_then (goes_then (goes_call c.in_ok-value.ensures) (goes_call c.in_ok-left.ensures))
    (goes_call c.in_ok-right.ensures)) c.in_err-join.ensures.goes_on) (search rules)
