use Rattle.twoplsf.proofs.Common.{◌≡◌, length, refl, rules, IfOk-at_ok}
use Rattle.std.proofs.lemmas.Iterator.{items_from_collect}
use Rattle.std.proofs.lemmas.Iterator.Adapters.{YieldsList-from_vec}
use Rattle.twoplsf.proofs.words.words_of.Goals as goal

pub returns-in_ok-collect-in-Ok-clause-texts : goal.returns-in_ok-collect-in-Ok-clause-texts
returns-in_ok-collect-in-Ok-clause-texts c =
    let args = c.in-Ok.args in
    let len : args.rest.len ≡ length args.rest.items = search rules in
    let all = items_from_collect c.collect.result c.collect.ensures.ran (YieldsList-from_vec {s = args} args.rest.items refl len) in
    let same : c.in_ok-collect-in-Ok.field-0.items ≡ args.rest.items = IfOk-at_ok _ c.in_ok-collect-in-Ok.was all in
    search (rules, same)
