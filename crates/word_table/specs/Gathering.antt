-- What stands while the passes of a table come together.
use Rattle.std.specs.Prelude.{◌≡◌, ◌⊎◌, ℕ, true, List, []}
use Rattle.atomic_table.specs.Table.{Me}
use Rattle.atomic_table.specs.Seated.{TableId}
use Rattle.history_model.specs.declared.entry.Entry.{Entry}
use Rattle.history_model.specs.declared.view.View.{View}
use Rattle.history_model.specs.declared.view.Phase.TheVariants.{Idle}
use Rattle.history_model.specs.Legal.{IsIn}
use Rattle.history_model.specs.Sets.{has}
use Rattle.word_table.specs.Copies.{PassView}

-- the view v took in p, or is p: it has its numbers, and has seen what it had seen
pub record HasTaken (v p : View) : Type 0 where
  pub numbers : (j : ℕ) → has j p.who ≡ true → has j v.who ≡ true
  pub seen : (e : Entry) → IsIn e p.seen → IsIn e v.seen

-- of all passes, those that are left, and a seat that has taken the others
pub record IsGathered (table : TableId) (all left : List PassView) (of : TableId) (me : Me (Unit {0}) View) : Type 0 where
  pub table_is : of ≡ table
  pub slots : me.1 ≡ []
  pub phase : me.0.phase ≡ Idle
  pub named : (j : ℕ) × (has j me.0.who ≡ true)
  pub each : (pass : PassView) → IsIn pass all → IsIn pass left ⊎ HasTaken me.0 pass.view
  pub only : (e : Entry) → IsIn e me.0.seen → (pass : PassView) × (IsIn pass all × IsIn e pass.view.seen)
  pub all_left : (pass : PassView) → IsIn pass left → (pass.table ≡ table) × (pass.view.phase ≡ Idle)
  pub among : (pass : PassView) → IsIn pass left → IsIn pass all
