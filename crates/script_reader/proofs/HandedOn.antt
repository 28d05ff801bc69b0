-- What the exit of a `?` hands on.
use Rattle.script_reader.proofs.Common.{◌≡◌, Result, Ok, Err, ap, ◌∙◌, Fault}
use Rattle.std.proofs.Common.{IsErrAnd}
use Rattle.script_reader.specs.declared.fault.Refusal.{Refusal}
use Rattle.script_reader.specs.declared.fault.Refusal.TheVariants as refusal

-- an error that is handed on is the result
pub handed_on : {T E : Type 0} {r : Result T E} {x : E} → IsErrAnd r (λ y. y ≡ x) → r ≡ Err x
handed_on {r = Ok v} h = absurd h
handed_on {r = Err y} h = ap Err h

module _ {T : Type 0} {r : Result T Refusal} {why : Fault} where
  -- a line's fault that is handed on is the one that is told
  pub same_reason : {x : Fault} → IsErrAnd r (λ y. y ≡ refusal.LineFault x) → r ≡ Err (refusal.LineFault why) → x ≡ why
  same_reason h e = cc (handed_on h)

  -- and so is that of a part of the text that was refused
  pub same_refusal : {S : Type 0} {s : Result S Refusal} {x : Refusal} → s ≡ Err x → IsErrAnd r (λ y. y ≡ x) → r ≡ Err (refusal.LineFault why)
      → s ≡ Err (refusal.LineFault why)
  same_refusal {x} is h e = let same : x ≡ refusal.LineFault why = cc (handed_on h) in is ∙ ap Err same
