-- The orders in which scripts of callers may be run.
use Rattle.std.specs.Prelude.{◌≡◌, ℕ, ◌<◌, ◌&&◌, ◌==◌, List, length, count_by, All, AllPairs}
use Rattle.script_reader.specs.Gathered.{CallerOf, caller_at}
use Rattle.script_reader.specs.Input.{ClearingInput}

-- a place: a caller and the index of one of its scripts, both from 0
pub record Place : Type 0 where
  pub caller : ℕ
  pub index : ℕ

module _ {S : Type 0} (callers : List (CallerOf S)) where
  -- callers have a script at this place
  abbrev pub IsPlaceOf : Place → Type 0
  IsPlaceOf place = (place.caller < length callers) × (place.index < length (caller_at callers place.caller).scripts)

  -- the order has each script of the callers once, and each caller's in rising index
  pub record IsJournalOf (order : List Place) : Type 0 where
    pub only : All IsPlaceOf order
    pub once : (place : Place) → IsPlaceOf place
        → count_by (λ p. p.caller == place.caller && p.index == place.index) order ≡ 1
    pub rising : AllPairs (λ p q. p.caller ≡ q.caller → p.index < q.index) order

-- the input has a script at this place
abbrev pub IsPlace : ClearingInput → Place → Type 0
IsPlace input = IsPlaceOf input.callers

-- the order has each script of the input once, and each caller's in rising index
abbrev pub IsJournal : ClearingInput → List Place → Type 0
IsJournal input = IsJournalOf input.callers
