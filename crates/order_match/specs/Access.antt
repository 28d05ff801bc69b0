-- What calls on one of the parts answer and leave. What a call that only looks answers is said by the forms of
-- txn_words' Access.
use Rattle.std.specs.Prelude.{ℕ, ◌+◌, ◌==◌, if◌then◌else◌, sum_by, Bool, true, false, List, [], ◌∷◌, Option, Some, None}
use Rattle.std.specs.List.{range_with_len}
use Rattle.std.specs.Option.{option_map}
use Rattle.std.specs.FinMap as finite
use Rattle.txn_alloc.specs.declared.put.Put.{Put}
use Rattle.txn_alloc.specs.declared.put.Put.TheVariants.{New, Old, Full}
use Rattle.txn_alloc.specs.EntryMaps.{Entries}
use Rattle.order_text.specs.declared.order.Resting.{Resting}
use Rattle.order_text.specs.Orders.{OrderBook, all_but, best_buy, best_sell, order_at}
use Rattle.order_match.specs.declared.shape.OrderShape.{OrderShape}
use Rattle.order_match.specs.Layout.{sides_of}
use Rattle.order_match.specs.Standing.{Held}

-- what is held, with another number, other places, or other quantities of one side
abbrev pub with_last : ℕ → Held → Held
with_last last held = record held { last = last }

abbrev pub with_places : Entries → Held → Held
with_places places held = record held { places = places }

abbrev pub with_side : ℕ → Entries → Held → Held
with_side side entries held = record held { sides = λ t. if t == side then entries else held.sides t }

-- how many entries the parts hold in all, each in a block
abbrev pub entries_in : OrderShape → Held → ℕ
entries_in shape held =
    finite.len held.places + sum_by (λ side. finite.len (held.sides side)) (range_with_len 0 (sides_of shape))

-- whether they use all blocks
abbrev pub is_used_up : OrderShape → Held → Bool
is_used_up shape held = entries_in shape held == shape.blocks

-- what is answered if a key is put: what it had, or whether there was room for a new one
abbrev pub put_answer : Option ℕ → Bool → Put
put_answer (Some was) lacks_room = Old was
put_answer None false = New
put_answer None true = Full

-- the entries after that
abbrev pub put_by : Put → ℕ → ℕ → Entries → Entries
put_by New key value entries = finite.insert entries key value
put_by (Old was) key value entries = finite.insert entries key value
put_by Full key value entries = entries

-- the first of a list
abbrev pub first_of : {X : Type 0} → List X → Option X
first_of [] = None
first_of (x ∷ xs) = Some x

-- the entry with the lowest key
abbrev pub first_in : Entries → Option (ℕ × ℕ)
first_in entries = first_of (finite.entries entries)

-- the best price of a side, or 0 if no order rests
abbrev pub best_on : ℕ → Bool → List Resting → ℕ
best_on instrument buys orders = if buys then best_buy instrument orders else best_sell instrument orders

-- the quantity of a resting order, if it is there, and the book without it
abbrev pub quantity_at : ℕ → List Resting → Option ℕ
quantity_at number orders = option_map (λ r. r.quantity) (order_at number orders)

abbrev pub without_order : ℕ → OrderBook → OrderBook
without_order number book = record book { orders = all_but number book.orders }
