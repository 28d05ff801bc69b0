-- What audits told among the requests that were done.
use Rattle.std.specs.Prelude.{◌≡◌, ℕ, List, All, Vec, Some}
use Rattle.std.specs.Global.{Global}
use Rattle.transfers.specs.declared.audit.Audit.{Audit}
use Rattle.transfers.specs.declared.request.Answer.{Answer}
use Rattle.transfers.specs.declared.request.Answer.TheVariants.{Told}
use Rattle.transfers.specs.declared.request.Request.{Request}
use Rattle.txn.specs.Prelude.{job_at, Done}

-- each request that is an audit was told this sum
abbrev pub AreTold : ℕ → List (Vec Request Global) → List (Done Answer) → Type 0
AreTold sum lists done = All (λ ran. (audit : Audit) → job_at lists ran.caller ran.index ≡ Some (Request.Audit audit) → ran.reply ≡ Told sum) done
