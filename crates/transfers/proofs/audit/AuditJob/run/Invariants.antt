use Rattle.transfers.proofs.Common.{◌≡◌, None}
use Rattle.transfers.proofs.Auditing.{IsSummed}
use Rattle.transfers.proofs.audit.AuditJob.run.Given as goal

-- the words so far are summed
abbrev pub invariant-loop-place : goal.invariant-loop-place
invariant-loop-place g l =
    let words = g.W.Words in
    let vault = l.self.vault in
    record {
      shape : words.shape l.w ≡ words.shape l.fn.w;
      origin : words.origin l.w ≡ words.origin l.fn.w;
      stop : words.stop l.w ≡ None;
      sound : words.is_sound l.w;
      summed : IsSummed vault.words vault.total l.place l.total (words.trace l.w);
    }
