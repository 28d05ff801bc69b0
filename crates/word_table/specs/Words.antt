-- What the words of a table are seen as, and a seat of it.
use Rattle.std.specs.Prelude.{ℕ, List, map}
use Rattle.atomic_table.specs.Seated.{TableId}
use Rattle.atomic_table.specs.Table.{Me}
use Rattle.history_model.specs.declared.view.View.{View}
use Rattle.word_table.specs.declared.rule.Counted.{Counted}
use Rattle.word_table.specs.declared.rule.Ground.{Ground}

-- which table they are, and what it was made with
pub record WordsView (S : Type 0) : Type 0 where
  pub table_id : TableId
  pub key : Ground S

-- a seat: of which table it is and which number it has there, what it knows, and how many steps it took
pub record SeatView : Type 0 where
  pub table_id : TableId
  pub id : ℕ
  pub me : Me (Unit {0}) View
  pub steps : ℕ

-- what seats know, whatever the number of steps
abbrev pub views_of : List Counted → List View
views_of = map (λ (it : Counted). it.view)

abbrev pub known : Me (Unit {0}) Counted → Me (Unit {0}) View
known me = (me.0.view, me.1)
