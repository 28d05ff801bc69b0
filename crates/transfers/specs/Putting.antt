-- What it means to put a key into a map if it is absent.
use Rattle.std.specs.Prelude.{◌≡◌, ℕ, Bool, true, false, List, None, Some}
use Rattle.std.specs.FinMap as entry_map
use Rattle.txn.specs.Maps.{Blocks, Entries, HoldsApart, Inserts, LacksRoom, New, Part}
use Rattle.transfers.specs.declared.put.PutAnswer.{PutAnswer}
use Rattle.transfers.specs.declared.put.PutAnswer.TheVariants.{Put, Was, Full}

-- the key was absent, and has the value, if this is kept; or it had the value that is told, and nothing changes; or it is
-- absent and there is no room, and nothing is kept
abbrev pub PutsIfAbsent : Part → ℕ → ℕ → List ℕ → Bool → PutAnswer → List ℕ → Type 0
PutsIfAbsent part key value s kept Put t = (kept ≡ true) × Inserts part key value New s t
PutsIfAbsent part key value s kept (Was was) t =
    (kept ≡ true → t ≡ s)
    × ((entries : Entries) (used free : Blocks) → HoldsApart part s entries used free → entry_map.get entries key ≡ Some was)
PutsIfAbsent part key value s kept Full t = (kept ≡ false) × LacksRoom part key s
