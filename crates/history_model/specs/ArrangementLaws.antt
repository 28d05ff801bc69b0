-- The laws that the crate's functions state.
use Rattle.std.specs.Prelude.{◌≡◌, ℕ, Bool, true, List, [], ◌∷◌, ◌++◌}
use Rattle.history_model.specs.declared.item.Item.{Item}
use Rattle.history_model.specs.Arrangements.{IsArrangement, MayStandLast, Adds, RaisesVersions, WritesNewest, KeepsValues, Drops, passing}
use Rattle.history_model.specs.Traces.{IsLegalTrace}
use Rattle.history_model.specs.Items.{Uses, LegalOnValues, AgreeWithVersions, KeepsUses, LegalOrder, IsNewest, replay_items}
use Rattle.history_model.specs.Legal.{IsIn}

-- a trace that uses only newest values is legal on the words that the list leaves
abbrev pub OpenIsLegal : List ℕ → (ℕ → ℕ) → List Item → List Item → Type 0
OpenIsLegal base next items order = (x : Item) → LegalOnValues base items x
    → ((k v : ℕ) (b : Bool) → Uses x k v b → v ≡ next k) → IsLegalTrace x.trace (replay_items base order)

-- a list that keeps the order of uses is legal, and leaves the newest values and a good list; an open attempt is legal
-- behind it
abbrev pub OrderedIsLegal : (List ℕ → Type 0) → Type 0
OrderedIsLegal good = (base : List ℕ) (next : ℕ → ℕ) (items order : List Item)
    → AgreeWithVersions good base next items → KeepsUses items order → LegalOrder good base order
    × IsNewest base next items (replay_items base order) × good (replay_items base order)
    × OpenIsLegal base next items order

-- and all such lists leave the same words
abbrev pub SameWords : (List ℕ → Type 0) → Type 0
SameWords good = (base : List ℕ) (next : ℕ → ℕ) (items one two : List Item)
    → AgreeWithVersions good base next items → KeepsUses items one → KeepsUses items two
    → replay_items base one ≡ replay_items base two

-- an item that may stand last, put at the end of an arrangement, makes an arrangement
abbrev pub StandsLast : (List ℕ → Type 0) → Type 0
StandsLast good = (base : List ℕ) (next raised : ℕ → ℕ) (items more order : List Item) (x : Item)
    → AgreeWithVersions good base next items → IsArrangement items order → MayStandLast good base next items x
    → Adds x items more → RaisesVersions x next raised
    → AgreeWithVersions good base raised more × IsArrangement more (order ++ x ∷ []) × KeepsValues base next items more
    × WritesNewest base x next raised items more

-- an arrangement without some items that are no entries is an arrangement of the rest
abbrev pub DropsItems : (List ℕ → Type 0) → Type 0
DropsItems good = (base : List ℕ) (next : ℕ → ℕ) (items less order : List Item) (keep : Item → Bool)
    → AgreeWithVersions good base next items → IsArrangement items order
    → ((z : Item) → IsIn z items → z.entry ≡ true → keep z ≡ true) → Drops keep items less
    → AgreeWithVersions good base next less × IsArrangement less (passing keep order) × KeepsValues base next items less
