use Rattle.txn_tree_map.proofs.Common.{◌≡◌, ◌+◌, ◌-◌, inl, inr, refl, arith, rules, goes_call, goes_then, goes_as, each_now, each_since, leads_since}
use Rattle.txn_tree_map.proofs.Inserts.SplitCalls.{can_part_below, part_block, rest_within, rest_own, rest_seen, parts_low, parts_high}
use Rattle.txn_tree_map.proofs.split.part_one.Goals as goal

pub prove-unreachable-requires : goal.prove-unreachable-requires
prove-unreachable-requires g c =
    let m = c.args.map.now in
    let e = c.args.ends in
    let some = g.met.W.Words.fits c.args.w.now c.requires.ready.sound in
    let lt =
    can_part_below m c.args.key e.smaller e.greater e.rest (e.rest - 1) (c.requires.parted.at some.0 some.1) (omega (arith, c.requires.rest)) in
    omega arith

pub read-requires-clause-within : goal.read-requires-clause-within
read-requires-clause-within g c =
    let in_list = part_block (each_now c.requires.parted) (g.met.W.Words.fits c.args.w.now c.requires.ready.sound) (c.args.ends.rest - 1) (omega arith) in
    omega (arith, in_list.0)

pub overflow_add-at-then-there-key : goal.overflow_add-at-then-there-key
overflow_add-at-then-there-key g c =
    let in_list = part_block (each_now c.requires.parted) (g.met.W.Words.fits c.args.w.now c.requires.ready.sound) (c.args.ends.rest - 1) (omega arith) in
    omega (arith, in_list.0, in_list.1)

pub overflow_add-at-2 : goal.overflow_add-at-2
overflow_add-at-2 g c =
    let in_list = part_block (each_now c.requires.parted) (g.met.W.Words.fits c.args.w.now c.requires.ready.sound) (c.args.ends.rest - 1) (omega arith) in
    omega (arith, in_list.0, in_list.1)

pub hang-requires-clause-within : goal.hang-requires-clause-within
hang-requires-clause-within g c =
    let e = c.args.ends in
    each_since c.args.w.now c.in_ok-there.ensures.shape
    (rest_within c.args.map.now c.args.key e.smaller e.greater e.rest _ (e.rest - 1) _ c.in_ok-there.ensures.value (omega arith)
    (each_now c.requires.parted)).0

pub hang-requires-2-clause-within : goal.hang-requires-2-clause-within
hang-requires-2-clause-within g c =
    let e = c.args.ends in
    each_since c.args.w.now c.in_ok-there.ensures.shape
    (rest_within c.args.map.now c.args.key e.smaller e.greater e.rest _ (e.rest - 1) _ c.in_ok-there.ensures.value (omega arith)
    (each_now c.requires.parted)).1

pub returns-then-there-key : goal.returns-then-there-key
returns-then-there-key g c =
    let m = c.args.map.now in
    let e = c.args.ends in
    let b = e.rest - 1 in
    let is_name : e.rest ≡ b + 1 = omega (arith, c.requires.rest) in
    let one = c.in_ok-there.ensures in
    let last = c.in_ok-right.ensures in
    record {
      parted = record {
        at = (parts_low m c.args.key e.smaller e.greater e.rest _ b _ one.value is_name last.goes_on.begins c.if-there-key.true (leads_since one.shape
            last.hung)).at;
      };
      frame = record { appended = rest_own m c.args.key e.smaller e.greater e.rest _ b _ one.value is_name e.smaller (inl refl) last.frame.appended };
      reads = rest_seen m c.args.key e.smaller e.greater e.rest _ b _ one.value is_name e.smaller _ (inl refl) (inr (inr refl)) last.reads;
      goes_on = goes_as (goes_then (goes_call one) last.goes_on) (search rules);
    }

pub returns : goal.returns
returns g c =
    let m = c.args.map.now in
    let e = c.args.ends in
    let b = e.rest - 1 in
    let is_name : e.rest ≡ b + 1 = omega (arith, c.requires.rest) in
    let one = c.in_ok-there.ensures in
    let last = c.in_ok-left.ensures in
    record {
      parted = record {
        at = (parts_high m c.args.key e.smaller e.greater e.rest _ b _ one.value is_name last.goes_on.begins (λ k. omega (
          arith,
          c.if-there-key.false,
        )) (leads_since one.shape last.hung)).at;
      };
      frame = record { appended = rest_own m c.args.key e.smaller e.greater e.rest _ b _ one.value is_name e.greater (inr refl) last.frame.appended };
      reads = rest_seen m c.args.key e.smaller e.greater e.rest _ b _ one.value is_name e.greater _ (inr refl) (inr (inl refl)) last.reads;
      goes_on = goes_as (goes_then (goes_call one) last.goes_on) (search rules);
    }

pub returns-in_err-there-clause-goes_on : goal.returns-in_err-there-clause-goes_on
returns-in_err-there-clause-goes_on g c = goes_as (goes_call c.in_err-there.ensures) (search rules)

pub returns-in_err-right-clause-goes_on : goal.returns-in_err-right-clause-goes_on
returns-in_err-right-clause-goes_on g c = goes_as (goes_then (goes_call c.in_ok-there.ensures) c.in_err-right.ensures.goes_on) (search rules)

pub returns-in_err-left-clause-goes_on : goal.returns-in_err-left-clause-goes_on
returns-in_err-left-clause-goes_on g c = goes_as (goes_then (goes_call c.in_ok-there.ensures) c.in_err-left.ensures.goes_on) (search rules)
