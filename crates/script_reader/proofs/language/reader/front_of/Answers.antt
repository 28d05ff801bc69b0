use Rattle.script_reader.proofs.Common.{sym, subst, HasTextInFront}
use Rattle.script_reader.proofs.HandedOn.{same_refusal}
use Rattle.script_reader.proofs.language.Listed.Behind.{behind_front, front_read}
use Rattle.script_reader.proofs.language.reader.front_of.Goals as goal

pub returns-in_err-sizes-clause-fault : goal.returns-in_err-sizes-clause-fault
returns-in_err-sizes-clause-fault g c why e =
    c.sizes_of.ensures.fault why (same_refusal c.in_err-sizes.was c.from_residual.ensures.1 e)

pub returns-in_err-callers-clause-fault : goal.returns-in_err-callers-clause-fault
returns-in_err-callers-clause-fault g c why e =
    behind_front g.met.L.Language.lawful (g.L.Language.sizes_of c.in_ok-sizes.sizes) c.in_ok-sizes.ensures.sized
    c.in_ok-sizes.ensures.text (c.scripts_of.ensures.fault why (same_refusal c.in_err-callers.was c.from_residual-in_err-callers.ensures.1 e))

pub new-requires : goal.new-requires
new-requires g c = record {
  even = c.in_ok-callers.ensures.even;
  few = c.in_ok-callers.ensures.found.valid.few;
  few_scripts = c.in_ok-callers.ensures.found.valid.few_scripts;
}

pub returns-clause-found : goal.returns-clause-found
returns-clause-found g c =
    let language = g.L.Language.language in
    let ns = g.L.Language.sizes_of c.in_ok-sizes.sizes in
    subst (λ l. HasTextInFront language ns l c.args.lines.now c.scripts_of.new.lines) (sym c.new.ensures)
    (front_read language
    c.in_ok-sizes.ensures.sized c.in_ok-sizes.ensures.text c.in_ok-callers.ensures.found)
