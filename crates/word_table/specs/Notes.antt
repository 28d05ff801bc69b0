-- What a note is seen as, and what the seat behind it knows.
use Rattle.std.specs.Prelude.{◌≡◌, List, []}
use Rattle.atomic_table.specs.Table.{Me}
use Rattle.atomic_table.specs.Seated.{TableId}
use Rattle.history_model.specs.declared.entry.Entry.{Entry}
use Rattle.history_model.specs.declared.view.View.{View}
use Rattle.history_model.specs.declared.view.Phase.TheVariants.{Idle}

-- a note: the table that it is of, and the entries that it has seen
pub record NoteView : Type 0 where
  pub table : TableId
  pub seen : List Entry

-- the seat of a note has no number, and is in no call
pub record IsNote (me : Me (Unit {0}) View) : Type 0 where
  pub slots : me.1 ≡ []
  pub phase : me.0.phase ≡ Idle
  pub unnumbered : me.0.who ≡ []
