use Rattle.txn_tree_map.proofs.Common.{◌≡◌, ◌+◌, arith, ap, ◌∙◌, rules, goes_call, goes_then, goes_as, block_at, HasMap, looks_only, each_looked, tree_part}
use Rattle.txn_tree_map.proofs.Common.{IsLink, finds_none, laid_block, IsNearOr, looks_value, sees_near, each_now, each_since}
use Rattle.txn_tree_map.proofs.Searches.SearchSteps.{missing_value}
use Rattle.txn_alloc.proofs.Maps.Founds.{finds_some, sees_value}
use Rattle.txn_tree_map.proofs.Searches.Gets.{near_own, keys_block, holds_key}
use Rattle.txn_tree_map.proofs.map.TreeMap.stored.Goals as goal

pub returns-in_err-find-clause-goes_on : goal.returns-in_err-find-clause-goes_on
returns-in_err-find-clause-goes_on g c = goes_as c.in_err-find.ensures.goes_on (search rules)

pub returns-in-None : goal.returns-in-None
returns-in-None g c =
    let m = c.args.self.now in
    let goes = c.in_ok-find.ensures.goes_on in
    let missing = rw c.in-None.is at c.in_ok-find.ensures.missing in
    let plain = each_now c.requires.order in
    record {
      found = record { at = (finds_none (tree_part m) c.args.key _ _ _ _ (λ s f v. missing_value) missing).at };
      held = search rules;
      order = each_since c.args.w.now goes.shape (each_looked _ _ _ _ missing (HasMap (tree_part m)) plain);
      frame = looks_only g.W.Words g.W.Shape.Shape _ _ (IsLink m) _ missing;
      reads = record { at = sees_near (tree_part m) c.args.key _ _ _ _ (near_own m c.args.key) missing plain };
      goes_on = goes_as goes goes.stops;
    }

pub read-requires-clause-within : goal.read-requires-clause-within
read-requires-clause-within g c =
    let m = c.args.self.now in
    let found = rw c.in-Some.is at c.in_ok-find.ensures.found in
    let below = rw c.in-Some.is at c.in_ok-find.ensures.block in
    let goes = c.in_ok-find.ensures.goes_on in
    let in_list = laid_block m.arena _ _ _ (g.met.W.Words.fits c.args.w.now c.requires.ready.sound)
    c.in-Some.found.block (record { at = λ s fit. (c.requires.order.at s fit).holds.laid.arena }) below in
    omega (arith, in_list.0, ap g.W.Shape.Shape.word_count goes.shape, c.place_of.ensures)

pub returns-in_err-value-in-Some-clause-goes_on : goal.returns-in_err-value-in-Some-clause-goes_on
returns-in_err-value-in-Some-clause-goes_on g c =
    goes_as (goes_then c.in_ok-find.ensures.goes_on (goes_call c.in_err-value-in-Some.ensures)) (search rules)

pub returns-in_ok-value-in-Some : goal.returns-in_ok-value-in-Some
returns-in_ok-value-in-Some g c =
    let m = c.args.self.now in
    let b = c.in-Some.found.block in
    let q = c.place_of.result + 1 in
    let y = c.in_ok-value-in-Some.value in
    let value = c.in_ok-value-in-Some.ensures in
    let goes = c.in_ok-find.ensures.goes_on in
    let is_value : q ≡ block_at m.arena b + 1 = omega (arith, c.place_of.ensures) in
    let looks = looks_value _ _ _ _ (rw c.in-Some.is at c.in_ok-find.ensures.found) _ q y value.value in
    let plain = each_now c.requires.order in
    let shape : g.W.Words.shape c.read.new.self ≡ g.W.Words.shape c.args.w.now = value.shape ∙ goes.shape in
    record {
      found = record { at = (finds_some (tree_part m) c.args.key _ _ _ _ b q y is_value (keys_block m c.args.key c.in-Some.found.place b) looks).at };
      held = each_since c.args.w.now shape
          (holds_key m c.args.key c.in-Some.found.place b q y looks (each_looked _ _ _ _ looks (HasMap (tree_part m)) plain));
      order = each_since c.args.w.now shape (each_looked _ _ _ _ looks (HasMap (tree_part m)) plain);
      frame = looks_only g.W.Words g.W.Shape.Shape _ _ (IsNearOr (IsLink m) q) _ looks;
      reads = record {
        at = sees_value (tree_part m) c.args.key _ _ _ _ b q y is_value (keys_block m c.args.key c.in-Some.found.place b) looks (near_own m c.args.key) plain;
      };
      goes_on = goes_as (goes_then goes (goes_call value)) value.stops;
    }
