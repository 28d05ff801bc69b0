use Rattle.order_text.proofs.Common.{ℕ, Option, true, rules, tests, sym, ap, ◌∙◌, unwrap_or, YieldsList-from_map, YieldsList-from_slice, option_map_id}
use Rattle.order_text.proofs.Common.{YieldsList-at, YieldsList-from_filter, Resting, OrderBook, best_buy, is_on}
use Rattle.std.proofs.lemmas.Iterator.Consumers.{max_from_yields_List}
use Rattle.order_text.proofs.book.Book.best_buy.Goals as goal

pub returns : goal.returns
returns c =
    let best = max_from_yields_List c.map.result c.max-highest.result c.max-highest.ensures.ran
    (YieldsList-from_map _ (λ (r : Resting). r.price)
    (YieldsList-at c.map.ensures.source (YieldsList-from_filter _ (is_on c.args.instrument true)
    (YieldsList-at c.filter.ensures.source (YieldsList-from_slice c.self.inside.orders.items (c.iter.ensures.rest ∙ c.deref.ensures.value)))
    c.filter.ensures.closure (λ x b q k. search (rules, tests))))
    c.map.ensures.closure (λ x r q k. search rules)) in
    c.unwrap_or.ensures
    ∙ (ap (λ (o : Option ℕ). unwrap_or o 0) (sym (option_map_id c.max-highest.result) ∙ best)
    ∙ ap (λ (b : OrderBook). best_buy c.args.instrument b.orders) c.self.view_is)
