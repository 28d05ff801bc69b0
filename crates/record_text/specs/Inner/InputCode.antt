-- How inputs are stored.
use Rattle.std.specs.Prelude.{ℕ, List, refl}
use Rattle.std.specs.Coded.{Coded, code_by, coded×, coded_ℕ}
use Rattle.record_text.specs.declared.script.RecordOp.{RecordOp}
use Rattle.record_text.specs.contracts.script.RecordOp as operation
use Rattle.record_text.specs.Input.{StoreInput}
use Rattle.script_reader.specs.Gathered.{CallerOf}
use Rattle.script_reader.specs.Codes.{callers_code}

-- an input is stored as its blocks and its callers
abbrev pub store_input_code : Coded StoreInput
store_input_code = code_by (ℕ × List (CallerOf (List RecordOp))) (coded× coded_ℕ (callers_code operation.the_row.coded))
    (λ i. (i.blocks, i.callers)) (λ p. record { blocks = p.0; callers = p.1 }) (λ _. refl)
