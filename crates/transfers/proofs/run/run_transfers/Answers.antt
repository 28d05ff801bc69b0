use Rattle.transfers.proofs.Common.{◌≡◌, ℕ, List, get_or, sum, sym, ap, ◌∙◌, subst, arith, same_Some, slice_get-get_or}
use Rattle.std.proofs.Common.{Bool}
use Rattle.std.proofs.lemmas.Result.{IfOk-weaker}
use Rattle.transfers.specs.declared.request.Answer.{Answer}
use Rattle.transfers.specs.declared.request.Request.{Request}
use Rattle.transfers.specs.Requests.{Does}
use Rattle.transfers.proofs.run.run_transfers.Goals as goal

-- an audit answers the sum
tells : (audit : _) (s t : List ℕ) (kept : Bool) (answer : Answer) → Does (Request.Audit audit) s kept answer t → answer ≡ Answer.Told (sum s)
tells audit s t kept (Answer.Told told) does = ap Answer.Told does.tells
tells audit s t kept (Answer.Moved made) does = absurd does
tells audit s t kept (Answer.Held held) does = absurd does

pub returns-clause-told : goal.returns-clause-told
returns-clause-told g c =
    IfOk-weaker c.run_jobs.result _ _ (λ end served k any lt audit at.
    let ran = get_or end.done.items k any in
    let did = served.each k ran (slice_get-get_or end.done.items k any lt) in
    let its = same_Some did.meaning.0 (Request.Audit audit) (sym did.meaning.1 ∙ at) in
    tells audit _ _ _ ran.reply (subst (λ r. Does r (served.before k) did.kept ran.reply did.left) its did.meaning.2)
    ∙ ap Answer.Told (served.good_words k (omega (arith, lt))).good.sum_is) c.run_jobs.ensures.serial
