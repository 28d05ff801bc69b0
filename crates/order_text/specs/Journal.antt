-- The places of the scripts of an input.
use Rattle.order_text.specs.Input.{BookInput}
use Rattle.script_reader.specs.Journal.{Place, IsPlaceOf}

-- the input has a script at this place
abbrev pub IsOrderPlace : BookInput → Place → Type 0
IsOrderPlace input = IsPlaceOf input.callers
