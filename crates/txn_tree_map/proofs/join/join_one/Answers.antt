use Rattle.txn_tree_map.proofs.Common.{◌≡◌, ◌+◌, ◌-◌, ◌<◌, inl, inr, refl, ap, ◌∙◌, arith, rules, goes_call, goes_then, goes_as, each_now, each_since}
use Rattle.txn_tree_map.proofs.Common.{leads_since}
use Rattle.txn_tree_map.proofs.Removals.JoinCalls.{can_go_on_below, gap_block, tops_within, hung_own, hung_seen, joins_left, joins_right}
use Rattle.txn_tree_map.proofs.join.join_one.Goals as goal

pub prove-unreachable-requires : goal.prove-unreachable-requires
prove-unreachable-requires g c =
    let m = c.args.map.now in
    let p = c.args.gap in
    let some = g.met.W.Words.fits c.args.w.now c.requires.ready.sound in
    let lt : p.left - 1 < m.arena.blocks =
    (can_go_on_below m p.place p.left p.right (c.requires.joined.at some.0 some.1)).0 (p.left - 1) (omega (arith, c.requires.left)) in
    omega arith

pub prove-unreachable-requires-2 : goal.prove-unreachable-requires-2
prove-unreachable-requires-2 g c =
    let m = c.args.map.now in
    let p = c.args.gap in
    let some = g.met.W.Words.fits c.args.w.now c.requires.ready.sound in
    let lt : p.right - 1 < m.arena.blocks =
    (can_go_on_below m p.place p.left p.right (c.requires.joined.at some.0 some.1)).1 (p.right - 1) (omega (arith, c.requires.right)) in
    omega arith

pub overflow_add-right_at : goal.overflow_add-right_at
overflow_add-right_at g c =
    let in_list = gap_block (each_now c.requires.joined) (g.met.W.Words.fits c.args.w.now c.requires.ready.sound) (c.args.gap.right - 1) (omega arith) in
    omega (arith, in_list.0, in_list.1)

pub read-requires-clause-within : goal.read-requires-clause-within
read-requires-clause-within g c =
    let in_list = gap_block (each_now c.requires.joined) (g.met.W.Words.fits c.args.w.now c.requires.ready.sound) (c.args.gap.left - 1) (omega arith) in
    omega (arith, in_list.0)

pub read-requires-2-clause-within : goal.read-requires-2-clause-within
read-requires-2-clause-within g c =
    let in_list = gap_block (each_now c.requires.joined) (g.met.W.Words.fits c.args.w.now c.requires.ready.sound) (c.args.gap.right - 1) (omega arith) in
    omega (arith, in_list.0, ap g.W.Shape.Shape.word_count c.in_ok-left_key.ensures.shape)

pub hang-requires-clause-within : goal.hang-requires-clause-within
hang-requires-clause-within g c =
    let p = c.args.gap in
    let one = c.in_ok-left_key.ensures in
    let two = c.in_ok-right_key.ensures in
    each_since c.args.w.now (two.shape ∙ one.shape) (tops_within c.args.map.now p.place p.left p.right _ _ (p.left - 1) (p.right - 1) _ _ one.value two.value
    (p.left - 1) 3 (omega arith) (omega arith) (each_now c.requires.joined))

pub hang-requires-2-clause-within : goal.hang-requires-2-clause-within
hang-requires-2-clause-within g c =
    let p = c.args.gap in
    let one = c.in_ok-left_key.ensures in
    let two = c.in_ok-right_key.ensures in
    each_since c.args.w.now (two.shape ∙ one.shape) (tops_within c.args.map.now p.place p.left p.right _ _ (p.left - 1) (p.right - 1) _ _ one.value two.value
    (p.right - 1) 2 (omega arith) (omega arith) (each_now c.requires.joined))

pub returns-then-priority : goal.returns-then-priority
returns-then-priority g c =
    let m = c.args.map.now in
    let p = c.args.gap in
    let b = p.left - 1 in
    let d = p.right - 1 in
    let left_is : p.left ≡ b + 1 = omega (arith, c.requires.left) in
    let right_is : p.right ≡ d + 1 = omega (arith, c.requires.right) in
    let one = c.in_ok-left_key.ensures in
    let two = c.in_ok-right_key.ensures in
    let last = c.in_ok-inner.ensures in
    record {
      joined = record {
        at = (joins_left m p.place p.left p.right _ _ b d _ _ one.value two.value left_is right_is last.goes_on.begins
            (omega (arith, c.if-priority.true, c.priority.ensures.value, c.priority-2.ensures.value))
            (leads_since (two.shape ∙ one.shape) last.hung)).at;
      };
      frame = record { appended = hung_own m p.place p.left p.right _ _ b d _ _ one.value two.value left_is right_is last.frame.appended };
      reads = hung_seen m p.place p.left p.right _ _ b d _ _ one.value two.value left_is right_is b _ (inl left_is) (inr (inr refl)) last.reads;
      goes_on = goes_as (goes_then (goes_then (goes_call one) (goes_call two)) last.goes_on) (search rules);
    }

pub returns : goal.returns
returns g c =
    let m = c.args.map.now in
    let p = c.args.gap in
    let b = p.left - 1 in
    let d = p.right - 1 in
    let left_is : p.left ≡ b + 1 = omega (arith, c.requires.left) in
    let right_is : p.right ≡ d + 1 = omega (arith, c.requires.right) in
    let one = c.in_ok-left_key.ensures in
    let two = c.in_ok-right_key.ensures in
    let last = c.in_ok-inner-2.ensures in
    record {
      joined = record {
        at = (joins_right m p.place p.left p.right _ _ b d _ _ one.value two.value left_is right_is last.goes_on.begins
            c.priority-2.ensures.small c.priority.ensures.small
            (λ k. omega (arith, c.if-priority.false, c.priority.ensures.value, c.priority-2.ensures.value))
            (leads_since (two.shape ∙ one.shape) last.hung)).at;
      };
      frame = record { appended = hung_own m p.place p.left p.right _ _ b d _ _ one.value two.value left_is right_is last.frame.appended };
      reads = hung_seen m p.place p.left p.right _ _ b d _ _ one.value two.value left_is right_is d _ (inr right_is) (inr (inl refl)) last.reads;
      goes_on = goes_as (goes_then (goes_then (goes_call one) (goes_call two)) last.goes_on) (search rules);
    }

pub returns-in_err-left_key-clause-goes_on : goal.returns-in_err-left_key-clause-goes_on
returns-in_err-left_key-clause-goes_on g c = goes_as (goes_call c.in_err-left_key.ensures) (search rules)

pub returns-in_err-right_key-clause-goes_on : goal.returns-in_err-right_key-clause-goes_on
returns-in_err-right_key-clause-goes_on g c =
    goes_as (goes_then (goes_call c.in_ok-left_key.ensures) (goes_call c.in_err-right_key.ensures)) (search rules)

pub returns-in_err-inner-clause-goes_on : goal.returns-in_err-inner-clause-goes_on
returns-in_err-inner-clause-goes_on g c = goes_as (goes_then (goes_then (goes_call c.in_ok-left_key.ensures) (goes_call c.in_ok-right_key.ensures))
    c.in_err-inner.ensures.goes_on) (search rules)

pub returns-in_err-inner-2-clause-goes_on : goal.returns-in_err-inner-2-clause-goes_on
returns-in_err-inner-2-clause-goes_on g c = goes_as (goes_then (goes_then (goes_call c.in_ok-left_key.ensures) (goes_call c.in_ok-right_key.ensures))
    c.in_err-inner-2.ensures.goes_on) (search rules)
