use Rattle.txn_hash_map.proofs.Common.{◌≡◌, ◌+◌, ◌<◌, None, Some, inl, inr, arith, ap, ◌∙◌, rules, SomeFits, state_after, goes_call, goes_then, goes_as}
use Rattle.txn_hash_map.proofs.Common.{only_more, LeadsTo, block_at, HasMapApart, Removes, chain_part, held, finds_none, looks_read, looks_only, IsLink}
use Rattle.txn_hash_map.proofs.Common.{laid_block, IsNearOr, looks_value, sees_near, each_now, each_since, leads_since, some_since}
use Rattle.history_model.proofs.Traces.FittingLaws.{some_at}
use Rattle.txn_alloc.proofs.FreeLists.Wider.{give_keeps}
use Rattle.txn_alloc.proofs.Maps.Parts.{order_removed}
use Rattle.txn_hash_map.proofs.Steps.{missing_value, found_of}
use Rattle.txn_hash_map.proofs.Looks.{near_own}
use Rattle.txn_hash_map.proofs.Removals.{HasRead, HasCut, HasGivenBack, place_within, order_cut, lacks_cut, removes_some, owns_removed, sees_removed}
use Rattle.txn_hash_map.proofs.map.ChainMap.remove.Goals.{In_ok-next-in-Some, In_ok-write-in-Some}
use Rattle.txn_hash_map.proofs.map.ChainMap.remove.Goals as goal

pub find-requires-clause-order : goal.find-requires-clause-order
find-requires-clause-order g c = record { at = λ s fit. held (c.requires.order.at s fit) }

pub read-requires-clause-within : goal.read-requires-clause-within
read-requires-clause-within g c =
    let m = c.args.self.now in
    let goes = c.in_ok-find.ensures.goes_on in
    let found = rw c.in-Some.is at c.in_ok-find.ensures.found in
    let below = rw c.in-Some.is at c.in_ok-find.ensures.block in
    let some = some_since g.W.Words g.W.Shape.Shape goes.shape (g.met.W.Words.fits c.find.new.w goes.sound) in
    let in_list = laid_block m.arena _ _ _ some c.in-Some.found.block (record { at = λ s fit. (found.holds s fit).laid.arena }) below in
    omega (arith, in_list.0, ap g.W.Shape.Shape.word_count goes.shape, c.place_of-at.ensures)

pub read-requires-in-Some-clause-within : goal.read-requires-in-Some-clause-within
read-requires-in-Some-clause-within g c =
    let m = c.args.self.now in
    let goes = c.in_ok-find.ensures.goes_on in
    let found = rw c.in-Some.is at c.in_ok-find.ensures.found in
    let below = rw c.in-Some.is at c.in_ok-find.ensures.block in
    let some = some_since g.W.Words g.W.Shape.Shape goes.shape (g.met.W.Words.fits c.find.new.w goes.sound) in
    let in_list = laid_block m.arena _ _ _ some c.in-Some.found.block (record { at = λ s fit. (found.holds s fit).laid.arena }) below in
    omega (arith, in_list.0, ap g.W.Shape.Shape.word_count goes.shape, ap g.W.Shape.Shape.word_count c.in_ok-value-in-Some.ensures.shape, c.place_of-at.ensures)

-- the key was found, and its value and the next name were read
reads : (g : _) (c : In_ok-next-in-Some g) → HasRead g.W.Words g.W.Shape.Shape c.args.self.now c.args.key c.args.w.now
    c.read-in-Some.new.self c.in-Some.found.place c.in-Some.found.block c.in_ok-value-in-Some.value c.in_ok-next-in-Some.next
reads g c =
    let m = c.args.self.now in
    let found = rw c.in-Some.is at c.in_ok-find.ensures.found in
    let b = c.in-Some.found.block in
    let q = c.place_of-at.result + 1 in
    let r = c.place_of-at.result + 2 in
    let is_next : r ≡ block_at m.arena b + 2 = omega (arith, c.place_of-at.ensures) in
    record {
      value = q;
      next = r;
      is_value = omega (arith, c.place_of-at.ensures);
      is_next = is_next;
      looks = looks_read _ _ _ (IsNearOr (IsLink m c.args.key) q) _ _ r _ _
          (looks_value _ _ _ _ found _ q _ c.in_ok-value-in-Some.ensures.value) c.in_ok-next-in-Some.ensures.value
          (λ s h. inl (inr (b, found_of m c.args.key s h.0, inr is_next)));
    }

-- and the block was cut out of its chain
cuts : (g : _) (c : In_ok-write-in-Some g) → HasRead g.W.Words g.W.Shape.Shape c.args.self.now c.args.key c.args.w.now
    c.read-in-Some.new.self c.in-Some.found.place c.in-Some.found.block c.in_ok-value-in-Some.value c.in_ok-next-in-Some.next
    → HasCut g.W.Words g.W.Shape.Shape c.args.self.now c.args.key c.args.w.now
    c.write.new.self c.in-Some.found.place c.in-Some.found.block c.in_ok-value-in-Some.value c.in_ok-next-in-Some.next
cuts g c reads = record {
  seen = g.W.Words.trace c.read-in-Some.new.self;
  reads = reads;
  writes = c.in_ok-write-in-Some.ensures.value;
  order = each_now c.requires.order;
}

pub write-requires-clause-within : goal.write-requires-clause-within
write-requires-clause-within g c =
    let counts = g.W.Shape.Shape.word_count in
    let same = c.in_ok-next-in-Some.ensures.shape ∙ c.in_ok-value-in-Some.ensures.shape ∙ c.in_ok-find.ensures.goes_on.shape in
    let some : SomeFits (counts (g.W.Words.shape c.args.w.now))
    (g.W.Shape.Shape.good (g.W.Words.shape c.args.w.now)) (g.W.Words.trace c.read-in-Some.new.self) =
    some_at counts g.W.Shape.Shape.good _ _ _ same (g.met.W.Words.fits c.read-in-Some.new.self c.in_ok-next-in-Some.ensures.sound) in
    let within : c.in-Some.found.place < counts (g.W.Words.shape c.args.w.now) =
    place_within (reads g (goal.at.write-requires-clause-within g c).In_ok-next-in-Some) some in
    omega (arith, ap counts same)

pub give-requires-clause-order : goal.give-requires-clause-order
give-requires-clause-order g c =
    let at = goal.at.give-requires-clause-order g c in
    let same = c.in_ok-write-in-Some.ensures.shape ∙ c.in_ok-next-in-Some.ensures.shape ∙ c.in_ok-value-in-Some.ensures.shape
    ∙ c.in_ok-find.ensures.goes_on.shape in
    each_since c.args.w.now same
    (order_cut (cuts g at.In_ok-write-in-Some (reads g at.In_ok-next-in-Some)))

pub give-requires-clause-lacks : goal.give-requires-clause-lacks
give-requires-clause-lacks g c =
    let at = goal.at.give-requires-clause-lacks g c in
    let same = c.in_ok-write-in-Some.ensures.shape ∙ c.in_ok-next-in-Some.ensures.shape ∙ c.in_ok-value-in-Some.ensures.shape
    ∙ c.in_ok-find.ensures.goes_on.shape in
    rw c.of.ensures (each_since c.args.w.now same
    (lacks_cut (cuts g at.In_ok-write-in-Some (reads g at.In_ok-next-in-Some))))

pub returns-in-None : goal.returns-in-None
returns-in-None g c =
    let part = chain_part c.args.self.now in
    let key = c.args.key in
    let goes = c.in_ok-find.ensures.goes_on in
    let missing = rw c.in-None.is at c.in_ok-find.ensures.missing in
    let removed : LeadsTo g.W.Words g.W.Shape.Shape c.args.w.now c.find.new.w (Removes part key None) =
    record { at = (finds_none part key _ _ _ _ (λ s f v. missing_value c.args.self.now key s) missing).at } in
    record {
      removed = removed;
      order = state_after g.W.Words g.W.Shape.Shape _ _ (HasMapApart part) (HasMapApart part) (Removes part key None)
          goes.shape goes.begins c.requires.order removed (order_removed part key None);
      frame = record { at = λ s fit. only_more (λ a. ⊥) _ _ _ (λ a k. absurd k) missing.writes };
      none_frame = looks_only g.W.Words g.W.Shape.Shape _ _ (IsLink c.args.self.now key) _ missing;
      reads = record {
        at = sees_near part key _ _ _ _ (near_own c.args.self.now key) missing (record { at = λ s fit. held (c.requires.order.at s fit) });
      };
      goes_on = goes_as goes goes.stops;
    }

pub returns-in_ok-give-in-Some : goal.returns-in_ok-give-in-Some
returns-in_ok-give-in-Some g c =
    let at = goal.at.returns-in_ok-give-in-Some g c in
    let m = c.args.self.now in
    let key = c.args.key in
    let y = c.in_ok-value-in-Some.value in
    let given = c.in_ok-give-in-Some.ensures in
    let goes =
    goes_then (goes_then (goes_then (goes_then c.in_ok-find.ensures.goes_on (goes_call c.in_ok-value-in-Some.ensures))
    (goes_call c.in_ok-next-in-Some.ensures)) (goes_call c.in_ok-write-in-Some.ensures)) given.goes_on in
    let same = c.in_ok-write-in-Some.ensures.shape ∙ c.in_ok-next-in-Some.ensures.shape ∙ c.in_ok-value-in-Some.ensures.shape
    ∙ c.in_ok-find.ensures.goes_on.shape in
    let back : HasGivenBack g.W.Words g.W.Shape.Shape m key c.args.w.now c.give.new.w c.in-Some.found.place
    c.in-Some.found.block y c.in_ok-next-in-Some.next = record {
      cut = g.W.Words.trace c.write.new.self;
      cuts = cuts g at.In_ok-write-in-Some (reads g at.In_ok-next-in-Some);
      begins = given.goes_on.begins;
      gives = leads_since same (rw c.of.ensures at given.given);
      keeps = give_keeps m.arena c.in-Some.found.block _ _ _ _
          (leads_since same (rw c.of.ensures at given.others));
    } in
    let removed : LeadsTo g.W.Words g.W.Shape.Shape c.args.w.now c.give.new.w (Removes (chain_part m) key (Some y)) =
    record { at = (removes_some back).at } in
    let frame = rw c.of.ensures at given.frame in
    let names = rw c.of.ensures at given.reads in
    record {
      removed = removed;
      order = state_after g.W.Words g.W.Shape.Shape _ _ (HasMapApart (chain_part m)) (HasMapApart (chain_part m))
          (Removes (chain_part m) key (Some y)) goes.shape goes.begins c.requires.order removed (order_removed (chain_part m) key (Some y));
      frame = record { at = owns_removed back frame.appended };
      none_frame = tt;
      reads = record { at = sees_removed back names };
      goes_on = goes_as goes given.goes_on.stops;
    }

pub returns-in_err-find-clause-goes_on : goal.returns-in_err-find-clause-goes_on
returns-in_err-find-clause-goes_on g c = goes_as c.in_err-find.ensures.goes_on (search rules)

pub returns-in_err-value-in-Some-clause-goes_on : goal.returns-in_err-value-in-Some-clause-goes_on
returns-in_err-value-in-Some-clause-goes_on g c =
    goes_as (goes_then c.in_ok-find.ensures.goes_on (goes_call c.in_err-value-in-Some.ensures)) (search rules)

pub returns-in_err-next-in-Some-clause-goes_on : goal.returns-in_err-next-in-Some-clause-goes_on
returns-in_err-next-in-Some-clause-goes_on g c = goes_as (goes_then (goes_then c.in_ok-find.ensures.goes_on (goes_call c.in_ok-value-in-Some.ensures))
    (goes_call c.in_err-next-in-Some.ensures)) (search rules)

pub returns-in_err-write-in-Some-clause-goes_on : goal.returns-in_err-write-in-Some-clause-goes_on
returns-in_err-write-in-Some-clause-goes_on g c =
    goes_as (goes_then (goes_then (goes_then c.in_ok-find.ensures.goes_on (goes_call c.in_ok-value-in-Some.ensures))
    (goes_call c.in_ok-next-in-Some.ensures)) (goes_call c.in_err-write-in-Some.ensures)) (search rules)

pub returns-in_err-give-in-Some-clause-goes_on : goal.returns-in_err-give-in-Some-clause-goes_on
returns-in_err-give-in-Some-clause-goes_on g c = goes_as (goes_then (goes_then (goes_then
    (goes_then c.in_ok-find.ensures.goes_on (goes_call c.in_ok-value-in-Some.ensures))
    (goes_call c.in_ok-next-in-Some.ensures)) (goes_call c.in_ok-write-in-Some.ensures)) c.in_err-give-in-Some.ensures.goes_on) (search rules)
