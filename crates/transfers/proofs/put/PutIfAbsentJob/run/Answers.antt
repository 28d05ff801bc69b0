use Rattle.transfers.proofs.Common.{refl, sym, ◌∙◌}
use Rattle.txn.proofs.Common.{order_found, order_inserted, good_at_start, done_from_start, may_look, there_still, behind}
use Rattle.txn.specs.Maps.{New}
use Rattle.transfers.proofs.put.PutIfAbsentJob.run.Goals as goal

pub get-requires-clause-order : goal.get-requires-clause-order
get-requires-clause-order g c = may_look (good_at_start c.requires.shape c.requires.fresh)

pub insert-requires-clause-order : goal.insert-requires-clause-order
insert-requires-clause-order g c =
    let found = c.in_ok-was.ensures in
    there_still found.goes_on found.found (good_at_start c.requires.shape c.requires.fresh)

pub returns-in-Some-clause-meaning : goal.returns-in-Some-clause-meaning
returns-in-Some-clause-meaning g c s fit =
    let found = done_from_start c.requires.shape c.requires.fresh c.in_ok-was.ensures.found s fit in
    (λ kept. found.same, λ entries used free holds. sym (found.found entries used holds.map) ∙ c.in-Some.is)

pub returns-in-Some-clause-good : goal.returns-in-Some-clause-good
returns-in-Some-clause-good g c kept s fit =
    order_found _ _ _ _ _ fit.good (done_from_start c.requires.shape c.requires.fresh c.in_ok-was.ensures.found s fit)

pub returns-in-New-clause-meaning : goal.returns-in-New-clause-meaning
returns-in-New-clause-meaning g c s fit =
    let found = c.in_ok-was.ensures in
    let put = rw c.in-New.is at c.in_ok-insert-in-None.ensures in
    (refl, done_from_start c.requires.shape c.requires.fresh (behind found.goes_on found.found put.goes_on put.put) s fit)

pub returns-in-New-clause-good : goal.returns-in-New-clause-good
returns-in-New-clause-good g c kept s fit =
    order_inserted _ c.args.self.now.key c.args.self.now.value New s _ fit.good (returns-in-New-clause-meaning g c s fit).1

pub returns-in-Old-clause-meaning : goal.returns-in-Old-clause-meaning
returns-in-Old-clause-meaning g c s fit =
    let found = c.in_ok-was.ensures in
    let put = rw c.in-Old.is at c.in_ok-insert-in-None.ensures in
    let was = done_from_start c.requires.shape c.requires.fresh (behind found.goes_on found.found put.goes_on put.put) s fit in
    (λ no. cc, λ entries used free holds. (was entries used free holds).present)

pub returns-in-Full-clause-meaning : goal.returns-in-Full-clause-meaning
returns-in-Full-clause-meaning g c s fit =
    let found = c.in_ok-was.ensures in
    let put = c.in_ok-insert-in-None.ensures in
    (refl, done_from_start c.requires.shape c.requires.fresh (behind found.goes_on found.found put.goes_on (put.full c.in-Full.is)) s fit)
