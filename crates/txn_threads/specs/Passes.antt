-- A pass before and after it was lent to a thread.
use Rattle.std.specs.Prelude.{◌≡◌, ℕ, ◌<◌, List, [], ◌∷◌, length, slice_get, Some}
use Rattle.history_model.specs.declared.view.Phase.TheVariants.{Idle}
use Rattle.word_table.specs.Copies.{fresh_pass, PassView}
use Rattle.word_table.specs.Desks.{DeskView}

-- a pass of this desk that made no call and has seen nothing
pub record IsFresh {S : Type 0} (desk : DeskView S) (pass : PassView) : Type 0 where
  pub of_table : pass.table ≡ desk.table
  pub idle : pass.view.phase ≡ Idle
  pub no_call : pass.view.call ≡ 0
  pub nothing_seen : pass.view.seen ≡ []

-- the same pass, between calls
pub record IsNext (old new : PassView) : Type 0 where
  pub table_stays : new.table ≡ old.table
  pub idle : new.view.phase ≡ Idle
  pub who_stays : new.view.who ≡ old.view.who

-- the passes of a desk as it is opened
pub record AreNew {S : Type 0} (desk : DeskView S) (passes : List PassView) : Type 0 where
  pub count : length passes ≡ desk.seats
  pub each : (j : ℕ) → j < desk.seats → slice_get passes j ≡ Some (fresh_pass desk.table desk.base desk.seats j)

-- pass k of a desk, between calls
pub record IsPass {S : Type 0} (desk : DeskView S) (k : ℕ) (pass : PassView) : Type 0 where
  pub of_table : pass.table ≡ desk.table
  pub idle : pass.view.phase ≡ Idle
  pub who_is : pass.view.who ≡ k ∷ []
