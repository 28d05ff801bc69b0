-- How inputs are stored.
use Rattle.std.specs.Prelude.{ℕ, List, refl}
use Rattle.std.specs.Coded.{Coded, code_by, coded×, coded_ℕ}
use Rattle.order_text.specs.declared.script.OrderOp.{OrderOp}
use Rattle.order_text.specs.contracts.script.OrderOp as operation
use Rattle.order_text.specs.Input.{BookInput}
use Rattle.script_reader.specs.Gathered.{CallerOf}
use Rattle.script_reader.specs.Codes.{callers_code}

-- an input is stored as its sizes and its callers
abbrev pub book_input_code : Coded BookInput
book_input_code = code_by (ℕ × (ℕ × List (CallerOf (List OrderOp)))) (coded× coded_ℕ (coded× coded_ℕ (callers_code operation.the_row.coded)))
    (λ i. (i.blocks, (i.instruments, i.callers))) (λ p. record { blocks = p.0; instruments = p.1.0; callers = p.1.1 }) (λ _. refl)
