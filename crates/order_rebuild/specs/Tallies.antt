-- Tallies of locks as the code has them, and what is known of items by them.
use Rattle.std.specs.Prelude.{◌≡◌, ℕ, ◌<◌, List, [], length, slice_get, slice_index, slice_index_or, map, Some}
use Rattle.std.specs.declared.vec.Vec.{Vec}
use Rattle.std.specs.Global.{Global}
use Rattle.history_model.specs.declared.item.LockUse.{LockUse}
use Rattle.history_model.specs.declared.placed.Spot.{Spot}
use Rattle.order_rebuild.specs.Tallied.{MayUse}
use Rattle.order_rebuild.specs.declared.lanes.Lane.{Lane}
use Rattle.order_rebuild.specs.declared.tallied.Tally.{Tally}

-- how many uses of lock k only read the version, by the rows
abbrev pub row_at : List (Vec ℕ Global) → ℕ → ℕ → ℕ
row_at rows k version = slice_index (slice_index_or (map (λ (row : Vec ℕ Global). row.items) rows) k []) version

abbrev pub no_tally : Tally
no_tally = record { version = 0; readers = 0 }

abbrev pub version_at : List Tally → ℕ → ℕ
version_at tallies k = (slice_index_or tallies k no_tally).version

abbrev pub left_at : List Tally → ℕ → ℕ
left_at tallies k = (slice_index_or tallies k no_tally).readers

-- nothing is placed
pub record AreFresh (rows : List (Vec ℕ Global)) (tallies : List Tally) : Type 0 where
  pub count : length tallies ≡ length rows
  pub versions : (k : ℕ) → version_at tallies k ≡ 0
  pub readers : (k : ℕ) → left_at tallies k ≡ row_at rows k 0

-- the first n uses may come by the tallies; all may
abbrev pub MayUseBelow : List Tally → List LockUse → ℕ → Type 0
MayUseBelow tallies us n = (j : ℕ) (u : LockUse) → slice_get us j ≡ Some u → j < n → MayUse (version_at tallies) (left_at tallies) u

abbrev pub MayUseAll : List Tally → List LockUse → Type 0
MayUseAll tallies us = (j : ℕ) (u : LockUse) → slice_get us j ≡ Some u → MayUse (version_at tallies) (left_at tallies) u

-- the first n uses of the lane's first item may come; so many of each lane's
abbrev pub AreKnownOf : List Spot → List Tally → Lane → ℕ → Type 0
AreKnownOf list tallies lane n = (s : Spot) → lane.next < lane.end → slice_get list lane.next ≡ Some s → MayUseBelow tallies s.uses n

abbrev pub AreKnownUses : List Spot → List Tally → List Lane → List ℕ → Type 0
AreKnownUses list tallies lanes known = (i : ℕ) (lane : Lane) → slice_get lanes i ≡ Some lane
    → AreKnownOf list tallies lane (slice_index known i)

-- the lane's first item may come by its uses
abbrev pub MayStart : List Spot → List Tally → Lane → Type 0
MayStart list tallies lane = (lane.next < lane.end)
    × ((s : Spot) → slice_get list lane.next ≡ Some s → MayUseAll tallies s.uses)
