-- What the laws of order books on words say.
use Rattle.std.specs.Prelude.{◌≡◌, ℕ, ◌+◌, ◌≤◌, ◌<◌, ◌↔◌, not, nat_lt, Bool, true, List, [], ◌∷◌, Some, map, filter, slice_get}
use Rattle.std.specs.List.{take_while}
use Rattle.std.specs.Ordering.{nat_cmp}
use Rattle.std.specs.FinSet as set
use Rattle.std.specs.FinMap as finite
use Rattle.books_model.specs.Ranges.{IsWithin}
use Rattle.order_text.specs.declared.order.Resting.{Resting}
use Rattle.order_text.specs.Matching.{allows, in_order, partners, serving_cmp}
use Rattle.order_text.specs.Orders.{OrderBook, blocks_of, is_on}
use Rattle.order_text.specs.Ranges.{IsBookOf, IsRestingOrder}
use Rattle.txn_words.specs.Frames.{KeepsOthers}
use Rattle.txn_alloc.specs.FreeLists.{FreeListsHold}
use Rattle.txn_alloc.specs.EntryMaps.{Entries, Blocks, IsOwn}
use Rattle.txn_hash_map.specs.Chains.{ChainsHold, chain_part}
use Rattle.txn_tree_map.specs.Trees.{TreeHolds, tree_part}
use Rattle.txn_alloc.specs.Blocks.{times_among}
use Rattle.order_match.specs.declared.shape.OrderShape.{OrderShape}
use Rattle.order_match.specs.declared.layout.TheConstants.{LAST_AT}
use Rattle.order_match.specs.Layout.{arena_of, chains_of, tree_of, sides_of, side_at, resting_key}
use Rattle.order_match.specs.Standing.{Held, HasParts, Stands, quantities_on}
use Rattle.order_match.specs.Access.{with_last, with_places, with_side}

-- of two orders of one side, each in its ranges, the one that is served first has the lower key
abbrev pub KeysAreServed : Type 0
KeysAreServed = (instruments : ℕ) (x y : Resting) → IsRestingOrder instruments x → IsRestingOrder instruments y
    → x.buys ≡ y.buys → nat_cmp (resting_key x) (resting_key y) ≡ serving_cmp x.buys x y

-- so going up the keys of a side's tree from 0 is going down its orders as they are served
abbrev pub TreesAreServed : Type 0
TreesAreServed = (instruments instrument : ℕ) (buys : Bool) (book : OrderBook) → IsBookOf instruments book
    → IsWithin 1 instruments instrument
    → finite.entries (quantities_on (side_at instrument buys) book.orders)
    ≡ map (λ r. (resting_key r, r.quantity)) (in_order (serving_cmp buys) (filter (is_on instrument buys) book.orders))

-- and the partners of an incoming order are the front of these, up to the first price that it does not allow
abbrev pub PartnersAreFront : Type 0
PartnersAreFront = (instruments : ℕ) (order : Resting) (book : OrderBook) → IsBookOf instruments book
    → partners order book.orders
    ≡ take_while (λ r. allows order r.price)
    (in_order (serving_cmp (not order.buys)) (filter (is_on order.instrument (not order.buys)) book.orders))

-- different sides have different numbers, and so different roots
abbrev pub SidesDiffer : Type 0
SidesDiffer = (i j : ℕ) (b c : Bool) → 1 ≤ i → 1 ≤ j → side_at i b ≡ side_at j c → (i ≡ j) × (b ≡ c)

-- words stand for one book at most
abbrev pub OneBook : Type 0
OneBook = (shape : OrderShape) (words : List ℕ) (book other : OrderBook) → Stands shape words book
    → Stands shape words other → book ≡ other

-- free blocks and two for each order are all blocks
abbrev pub FreeBlocksCounted : Type 0
FreeBlocksCounted = (shape : OrderShape) (words : List ℕ) (book : OrderBook) (stand : Stands shape words book)
    → set.len stand.parts.free + blocks_of book.orders ≡ shape.blocks

-- no two blocks are free exactly if there are not enough for an order more
abbrev pub FullWithoutTwo : Type 0
FullWithoutTwo = (shape : OrderShape) (words : List ℕ) (book : OrderBook) (stand : Stands shape words book)
    → (set.len stand.parts.free < 2) ↔ (nat_lt book.blocks (blocks_of book.orders + 2) ≡ true)

-- a call on the tree of a side that wrote its own words alone, with as many of its blocks and the free ones in each place
-- as before, leaves the count, the chains and the trees of all other sides
abbrev pub TreeChangeStands : Type 0
TreeChangeStands = (shape : OrderShape) (old new : List ℕ) (held : Held) (parts : HasParts shape old held)
    (side : ℕ) (entries : Entries) (used_after free : Blocks) (key : ℕ) → side < sides_of shape
    → TreeHolds (tree_of shape side) new entries used_after
    → FreeListsHold (arena_of shape) new free
    → ((b : ℕ) → times_among b (used_after ∷ free ∷ []) ≡ times_among b (parts.side_used side ∷ parts.free ∷ []))
    → KeepsOthers (IsOwn (tree_part (tree_of shape side)) key old new) old new
    → HasParts shape new (with_side side entries held)

-- a call on the chains leaves the count and all trees
abbrev pub ChainChangeStands : Type 0
ChainChangeStands = (shape : OrderShape) (old new : List ℕ) (held : Held) (parts : HasParts shape old held)
    (places : Entries) (used_after free : Blocks) (key : ℕ)
    → ChainsHold (chains_of shape) new places used_after
    → FreeListsHold (arena_of shape) new free
    → ((b : ℕ) → times_among b (used_after ∷ free ∷ []) ≡ times_among b (parts.chain_used ∷ parts.free ∷ []))
    → KeepsOthers (IsOwn (chain_part (chains_of shape)) key old new) old new
    → HasParts shape new (with_places places held)

-- and a new last number leaves the chains and all trees
abbrev pub LastChangeStands : Type 0
LastChangeStands = (shape : OrderShape) (old new : List ℕ) (held : Held) (last : ℕ) → HasParts shape old held
    → slice_get new LAST_AT ≡ Some last
    → KeepsOthers (λ a. a ≡ LAST_AT) old new
    → HasParts shape new (with_last last held)
