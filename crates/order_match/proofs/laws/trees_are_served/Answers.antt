use Rattle.order_match.proofs.Served.{in_range, keys_served, orders_of, partners_front, trees_served}
use Rattle.order_match.proofs.laws.trees_are_served.Goals as goal

pub returns-clause-keys : goal.returns-clause-keys
returns-clause-keys c = λ instruments x y p q. keys_served x y (in_range instruments x p) (in_range instruments y q)

pub returns-clause-trees : goal.returns-clause-trees
returns-clause-trees c = λ instruments instrument buys book is low.
    trees_served instrument buys book.orders (orders_of instruments book is) low.0

pub returns-clause-partners : goal.returns-clause-partners
returns-clause-partners c = λ instruments order book is. partners_front order book.orders (orders_of instruments book is)
