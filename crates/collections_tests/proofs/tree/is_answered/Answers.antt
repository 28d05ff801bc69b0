use Rattle.txn_words.proofs.CallLaws.{state_after}
use Rattle.std.proofs.Common.{sym, subst}
use Rattle.txn_alloc.specs.EntryMaps.{HasMapApart, SumsRange}
use Rattle.txn_alloc.proofs.Maps.InJobs.{may_look, there_still}
use Rattle.txn_tree_map.specs.Trees.{tree_part}
use Rattle.txn_tree_map.specs.Firsts.{FindsFirst}
use Rattle.collections_tests.proofs.tree.is_answered.Goals as goal

pub get-requires-clause-order : goal.get-requires-clause-order
get-requires-clause-order g c = may_look c.requires.order

pub returns-in_ok-get-in-Get-clause-order : goal.returns-in_ok-get-in-Get-clause-order
returns-in_ok-get-in-Get-clause-order g c =
    let got = c.in_ok-get-in-Get.ensures in
    there_still got.goes_on got.found c.requires.order

pub sum_range-requires-clause-order : goal.sum_range-requires-clause-order
sum_range-requires-clause-order g c = may_look c.requires.order

pub first_from-requires-clause-order : goal.first_from-requires-clause-order
first_from-requires-clause-order g c = may_look c.requires.order

pub returns-in_ok-sum_range-in-Sum-clause-order : goal.returns-in_ok-sum_range-in-Sum-clause-order
returns-in_ok-sum_range-in-Sum-clause-order g c =
    let summed = c.in_ok-sum_range-in-Sum.ensures in
    let part = tree_part c.args.tree.now in
    state_after _ _ _ _ (HasMapApart part) (HasMapApart part)
    (SumsRange part c.in-Sum.low c.in-Sum.high c.in_ok-sum_range-in-Sum.field-0) summed.goes_on.shape summed.goes_on.begins
    c.requires.order summed.sum (λ x y o k. subst (λ z. HasMapApart part z) (sym k.same) o)

pub returns-in_ok-first_from-in-First-clause-order : goal.returns-in_ok-first_from-in-First-clause-order
returns-in_ok-first_from-in-First-clause-order g c =
    let got = c.in_ok-first_from-in-First.ensures in
    let map = c.args.tree.now in
    let part = tree_part map in
    state_after _ _ _ _ (HasMapApart part) (HasMapApart part)
    (FindsFirst map c.in-First.key c.in_ok-first_from-in-First.field-0) got.goes_on.shape got.goes_on.begins
    c.requires.order got.found (λ x y o k. subst (λ z. HasMapApart part z) (sym k.same) o)
