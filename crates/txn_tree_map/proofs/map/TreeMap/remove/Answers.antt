use Rattle.txn_tree_map.proofs.Common.{Some, None, arith, ◌∙◌, rules, LeadsTo, goes_then, goes_as, only_more, HasMapApart, Removes, looks_each, looks_map}
use Rattle.txn_tree_map.proofs.Common.{looks_only, tree_part, IsLink, CanCut, held, finds_none, sees_near, each_now, each_since, leads_since, within_since}
use Rattle.txn_tree_map.proofs.Common.{reads_since}
use Rattle.txn_alloc.proofs.Common.{state_after}
use Rattle.txn_alloc.proofs.FreeLists.Wider.{give_keeps}
use Rattle.txn_alloc.proofs.Maps.Parts.{order_removed}
use Rattle.txn_tree_map.proofs.Searches.SearchSteps.{missing_value}
use Rattle.txn_tree_map.proofs.Searches.Gets.{near_own}
use Rattle.txn_tree_map.proofs.Removals.RemoveCalls.{order_cut, lacks_cut, removes_some, owns_removed, sees_removed}
use Rattle.txn_tree_map.proofs.map.TreeMap.remove.Goals as goal

pub find-requires-clause-order : goal.find-requires-clause-order
find-requires-clause-order g c = record { at = λ s fit. held (c.requires.order.at s fit) }

pub cut-requires-clause-block : goal.cut-requires-clause-block
cut-requires-clause-block g c = rw c.in-Some.is at c.in_ok-find.ensures.block

pub cut-requires-clause-can : goal.cut-requires-clause-can
cut-requires-clause-can g c =
    let m = c.args.self.now in
    let f = c.in-Some.found in
    let found = rw c.in-Some.is at c.in_ok-find.ensures.found in
    looks_each g.W.Words g.W.Shape.Shape _ _ (IsLink m) (CanCut m f.place f.block)
    (looks_map _ _ _ (IsLink m) _ _ _ (λ s h. record { key = c.args.key; found = h }) found) c.in_ok-find.ensures.goes_on.shape

pub give-requires-clause-order : goal.give-requires-clause-order
give-requires-clause-order g c =
    let goes = c.in_ok-find.ensures.goes_on in
    let cut = c.in_ok-value-in-Some.ensures in
    let found = rw c.in-Some.is at c.in_ok-find.ensures.found in
    each_since c.args.w.now (cut.goes_on.shape ∙ goes.shape)
    (order_cut c.in_ok-value-in-Some.value
    (each_now c.requires.order) found cut.goes_on.begins
    (leads_since goes.shape cut.cut))

pub give-requires-clause-number : goal.give-requires-clause-number
give-requires-clause-number g c =
    let below = rw c.in-Some.is at c.in_ok-find.ensures.block in
    omega (arith, c.of.ensures)

pub give-requires-clause-lacks : goal.give-requires-clause-lacks
give-requires-clause-lacks g c =
    let goes = c.in_ok-find.ensures.goes_on in
    let cut = c.in_ok-value-in-Some.ensures in
    let found = rw c.in-Some.is at c.in_ok-find.ensures.found in
    rw c.of.ensures (each_since c.args.w.now (cut.goes_on.shape ∙ goes.shape)
    (lacks_cut c.in_ok-value-in-Some.value
    (each_now c.requires.order) found cut.goes_on.begins
    (leads_since goes.shape cut.cut)))

pub returns-in-None : goal.returns-in-None
returns-in-None g c =
    let part = tree_part c.args.self.now in
    let key = c.args.key in
    let goes = c.in_ok-find.ensures.goes_on in
    let missing = rw c.in-None.is at c.in_ok-find.ensures.missing in
    let removed : LeadsTo g.W.Words g.W.Shape.Shape c.args.w.now c.find.new.w (Removes part key None) =
    record { at = (finds_none part key _ _ _ _ (λ s f v. missing_value) missing).at } in
    record {
      removed = removed;
      order = state_after g.W.Words g.W.Shape.Shape _ _ (HasMapApart part) (HasMapApart part) (Removes part key None)
          goes.shape goes.begins c.requires.order removed (order_removed part key None);
      frame = record { at = λ s fit. only_more (λ a. ⊥) _ _ _ (λ a k. absurd k) missing.writes };
      none_frame = looks_only g.W.Words g.W.Shape.Shape _ _ (IsLink c.args.self.now) _ missing;
      reads = record {
        at = sees_near part key _ _ _ _ (near_own c.args.self.now key) missing (record { at = λ s fit. held (c.requires.order.at s fit) });
      };
      goes_on = goes_as goes goes.stops;
    }

pub returns-in_ok-give-in-Some : goal.returns-in_ok-give-in-Some
returns-in_ok-give-in-Some g c =
    let m = c.args.self.now in
    let key = c.args.key in
    let b = c.in-Some.found.block in
    let y = c.in_ok-value-in-Some.value in
    let first = c.in_ok-find.ensures.goes_on in
    let cut = c.in_ok-value-in-Some.ensures in
    let give = c.in_ok-give-in-Some.ensures in
    let goes = goes_then (goes_then first cut.goes_on) give.goes_on in
    let same = cut.goes_on.shape ∙ first.shape in
    let order = each_now c.requires.order in
    let found = rw c.in-Some.is at c.in_ok-find.ensures.found in
    let cuts = leads_since first.shape cut.cut in
    let given = leads_since same (rw c.of.ensures at give.given) in
    let kept = give_keeps m.arena b _ _ _ _
    (leads_since same (rw c.of.ensures at give.others)) in
    let own = within_since first.shape cut.frame in
    let seen = reads_since first.shape cut.reads in
    let frame = rw c.of.ensures at give.frame in
    let names = rw c.of.ensures at give.reads in
    let removed : LeadsTo g.W.Words g.W.Shape.Shape c.args.w.now c.give.new.w (Removes (tree_part m) key (Some y)) =
    record { at = (removes_some y order found cut.goes_on.begins cuts give.goes_on.begins given kept).at } in
    record {
      removed = removed;
      order = state_after g.W.Words g.W.Shape.Shape _ _ (HasMapApart (tree_part m)) (HasMapApart (tree_part m))
          (Removes (tree_part m) key (Some y)) goes.shape goes.begins c.requires.order removed (order_removed (tree_part m) key (Some y));
      frame = record { at = owns_removed y order found cut.goes_on.begins cuts give.goes_on.begins kept own frame.appended };
      none_frame = tt;
      reads = record { at = sees_removed y order found cut.goes_on.begins cuts give.goes_on.begins kept seen names };
      goes_on = goes_as goes give.goes_on.stops;
    }

pub returns-in_err-find-clause-goes_on : goal.returns-in_err-find-clause-goes_on
returns-in_err-find-clause-goes_on g c = goes_as c.in_err-find.ensures.goes_on (search rules)

pub returns-in_err-value-in-Some-clause-goes_on : goal.returns-in_err-value-in-Some-clause-goes_on
returns-in_err-value-in-Some-clause-goes_on g c =
    goes_as (goes_then c.in_ok-find.ensures.goes_on c.in_err-value-in-Some.ensures.goes_on) (search rules)

pub returns-in_err-give-in-Some-clause-goes_on : goal.returns-in_err-give-in-Some-clause-goes_on
returns-in_err-give-in-Some-clause-goes_on g c = goes_as (goes_then (goes_then c.in_ok-find.ensures.goes_on c.in_ok-value-in-Some.ensures.goes_on)
    c.in_err-give-in-Some.ensures.goes_on) (search rules)
