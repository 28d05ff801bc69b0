use Rattle.txn_hash_map.proofs.Common.{◌≡◌, ◌+◌, None, Some, arith, ap, ◌∙◌, rules, begins_trans, LeadsTo, state_after, goes_call, goes_then, goes_as, block_at}
use Rattle.txn_hash_map.proofs.Common.{chain_part, IsLink, finds_none, looks_only, laid_block, looks_value, IsNearOr, sees_near, each_now, some_since}
use Rattle.txn_alloc.proofs.Common.{HasMap, Finds}
use Rattle.txn_alloc.proofs.Maps.Parts.{held_found}
use Rattle.txn_hash_map.proofs.Steps.{missing_value}
use Rattle.txn_alloc.proofs.Maps.Founds.{finds_some, sees_value}
use Rattle.txn_hash_map.proofs.Looks.{near_own, keys_block}
use Rattle.txn_hash_map.proofs.map.ChainMap.get.Goals as goal

pub returns-in_err-find-clause-goes_on : goal.returns-in_err-find-clause-goes_on
returns-in_err-find-clause-goes_on g c = goes_as c.in_err-find.ensures.goes_on (search rules)

pub returns-in-None : goal.returns-in-None
returns-in-None g c =
    let m = c.args.self.now in
    let goes = c.in_ok-find.ensures.goes_on in
    let missing = rw c.in-None.is at c.in_ok-find.ensures.missing in
    let found : LeadsTo g.W.Words g.W.Shape.Shape c.args.w.now c.find.new.w (Finds (chain_part m) c.args.key None) =
    record { at = (finds_none (chain_part m) c.args.key _ _ _ _ (λ s f v. missing_value m c.args.key s) missing).at } in
    record {
      found = found;
      order = state_after g.W.Words g.W.Shape.Shape _ _ (HasMap (chain_part m)) (HasMap (chain_part m))
          (Finds (chain_part m) c.args.key None) goes.shape goes.begins c.requires.order found (held_found (chain_part m) c.args.key None);
      frame = looks_only g.W.Words g.W.Shape.Shape _ _ (IsLink m c.args.key) _ missing;
      reads = record {
        at = sees_near (chain_part m) c.args.key _ _ _ _ (near_own m c.args.key) missing
            (each_now c.requires.order);
      };
      goes_on = goes_as goes goes.stops;
    }

pub read-requires-clause-within : goal.read-requires-clause-within
read-requires-clause-within g c =
    let m = c.args.self.now in
    let found = rw c.in-Some.is at c.in_ok-find.ensures.found in
    let below = rw c.in-Some.is at c.in_ok-find.ensures.block in
    let goes = c.in_ok-find.ensures.goes_on in
    let some = some_since g.W.Words g.W.Shape.Shape goes.shape (g.met.W.Words.fits c.find.new.w goes.sound) in
    let in_list = laid_block m.arena _ _ _ some c.in-Some.found.block (record { at = λ s fit. (found.holds s fit).laid.arena }) below in
    omega (arith, in_list.0, ap g.W.Shape.Shape.word_count goes.shape, c.place_of.ensures)

pub returns-in_err-value-in-Some-clause-goes_on : goal.returns-in_err-value-in-Some-clause-goes_on
returns-in_err-value-in-Some-clause-goes_on g c =
    goes_as (goes_then c.in_ok-find.ensures.goes_on (goes_call c.in_err-value-in-Some.ensures)) (search rules)

pub returns-in_ok-value-in-Some : goal.returns-in_ok-value-in-Some
returns-in_ok-value-in-Some g c =
    let m = c.args.self.now in
    let b = c.in-Some.found.block in
    let q = c.place_of.result + 1 in
    let y = c.in_ok-value-in-Some.value in
    let value = c.in_ok-value-in-Some.ensures in
    let goes = c.in_ok-find.ensures.goes_on in
    let is_value : q ≡ block_at m.arena b + 1 = omega (arith, c.place_of.ensures) in
    let looks = looks_value _ _ _ _ (rw c.in-Some.is at c.in_ok-find.ensures.found) _ q y value.value in
    let shape : g.W.Words.shape c.read.new.self ≡ g.W.Words.shape c.args.w.now = value.shape ∙ goes.shape in
    let begins = begins_trans _ _ _ goes.begins value.begins in
    let found : LeadsTo g.W.Words g.W.Shape.Shape c.args.w.now c.read.new.self (Finds (chain_part m) c.args.key (Some y)) = record {
      at = (finds_some (chain_part m) c.args.key _ _ _ _ b q y is_value (keys_block m c.args.key c.in-Some.found.place b) looks).at;
    } in
    record {
      found = found;
      order = state_after g.W.Words g.W.Shape.Shape _ _ (HasMap (chain_part m)) (HasMap (chain_part m))
          (Finds (chain_part m) c.args.key (Some y)) shape begins c.requires.order found (held_found (chain_part m) c.args.key (Some y));
      frame = looks_only g.W.Words g.W.Shape.Shape _ _ (IsNearOr (IsLink m c.args.key) q) _ looks;
      reads = record {
        at = sees_value (chain_part m) c.args.key _ _ _ _ b q y is_value
            (keys_block m c.args.key c.in-Some.found.place b) looks (near_own m c.args.key) (each_now c.requires.order);
      };
      goes_on = goes_as (goes_then goes (goes_call value)) value.stops;
    }
