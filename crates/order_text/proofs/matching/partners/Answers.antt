use Rattle.order_text.proofs.Common.{List, filter, not, rules, subst, IsPermutation, is_lt, IsStrictlySortedBy-filter, ranks_by, Resting, may_trade}
use Rattle.order_text.proofs.Common.{serving_cmp, by_number}
use Rattle.std.proofs.lemmas.Fn.{always_returns_same}
use Rattle.order_text.proofs.Serving.{none_tie, serving_total}
use Rattle.order_text.proofs.Sorting.{sorts}
use Rattle.order_text.proofs.matching.partners.Goals as goal

pub returns : goal.returns
returns c = let buys = not c.args.order.now.buys in let found = filter (may_trade c.args.order.now) c.args.orders.now.items in
    sorts (serving_cmp buys) (serving_total buys) found c.sort_by.new.self.items
    (none_tie buys found (IsStrictlySortedBy-filter by_number (may_trade c.args.order.now) c.args.orders.now.items c.requires.rising))
    (subst (λ (l : List Resting). IsPermutation l c.sort_by.new.self.items) c.in_ok-served.ensures c.in_ok-sort_by.ensures.permutation)
    (c.in_ok-sort_by.ensures.sorted (λ x y. is_lt (serving_cmp buys x y)) (ranks_by (serving_total buys) (λ x. x))
    (always_returns_same _ _ _ (λ a r f k. search rules)))
