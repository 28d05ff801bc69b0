-- The places of the scripts of an input.
use Rattle.record_text.specs.Input.{StoreInput}
use Rattle.script_reader.specs.Journal.{Place, IsPlaceOf}

-- the input has a script at this place
abbrev pub IsRecordPlace : StoreInput → Place → Type 0
IsRecordPlace input = IsPlaceOf input.callers
