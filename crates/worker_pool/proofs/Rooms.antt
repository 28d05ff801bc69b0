-- How many scripts one caller has.
use Rattle.worker_pool.proofs.Common.{ℕ, ◌≤◌, [], length, ap, arith, lt_of_not-le, get_or-le-sum_by, caller_at, dite, dec_le, ClearingInput, IsInput}
use Rattle.worker_pool.proofs.Common.{MOST_SCRIPTS}
use Rattle.script_reader.proofs.Common.{Caller}
use Rattle.std.proofs.lemmas.List.{get_or_past}

-- no caller has more scripts than an input may have
pub few_scripts : (input : ClearingInput) → IsInput input → (c : ℕ) → length (caller_at input.callers c).scripts ≤ MOST_SCRIPTS
few_scripts input valid c =
    let none : Caller = record { name = []; scripts = [] } in
    let count : Caller → ℕ = λ b. length b.scripts in
    dite (dec_le (length input.callers) c)
    (λ past. omega (arith, ap count (get_or_past input.callers c none past)))
    (λ within. omega (arith, get_or-le-sum_by count input.callers c none (lt_of_not-le within), valid.callers.few_scripts))
