-- What a request of any kind means.
use Rattle.std.specs.Prelude.{◌≡◌, ℕ, List, Bool}
use Rattle.transfers.specs.declared.request.Answer.{Answer}
use Rattle.transfers.specs.declared.request.Answer.TheVariants.{Moved, Told, Held}
use Rattle.transfers.specs.declared.request.Request.{Request}
use Rattle.transfers.specs.declared.request.Request.TheVariants.{Transfer, Audit, Look}
use Rattle.transfers.specs.declared.vault.Vault.{Vault}
use Rattle.transfers.specs.Moving.{Moves, TellsSum, TellsWord}

-- the vault of which it is asked
abbrev pub vault_of : Request → Vault
vault_of (Transfer job) = job.vault
vault_of (Audit job) = job.vault
vault_of (Look job) = job.vault

-- each kind means what its job does, and has an answer of its own kind
abbrev pub Does : Request → List ℕ → Bool → Answer → List ℕ → Type 0
Does (Transfer job) s kept (Moved made) t = (made ≡ kept) × Moves job.from job.to job.amount s kept t
Does (Audit job) s kept (Told sum) t = TellsSum s kept sum t
Does (Look job) s kept (Held held) t = TellsWord job.place s kept held t
Does request s kept answer t = ⊥
