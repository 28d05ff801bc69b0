-- What a desk is seen as, and what holds of its table.
use Rattle.std.specs.Prelude.{ℕ, List}
use Rattle.atomic_table.specs.Seated.{TableId}
use Rattle.history_model.specs.declared.view.View.{View}
use Rattle.history_model.specs.declared.shape.Shape.{Ghosts as Shapes}
use Rattle.history_model.specs.Fitting.{IsGood}
use Rattle.word_table.specs.Sound.{IsSound}

-- a desk: which table it is, the words that it began with, how many seats it has, and which words are good
pub record DeskView (S : Type 0) : Type 0 where
  pub table : TableId
  pub base : List ℕ
  pub seats : ℕ
  pub shape : S

-- the rule of a desk's table; word_count and good are those of the shape
abbrev pub DeskHolds : {S : Type 0} → (S → ℕ) → (S → List ℕ → Type 0) → DeskView S → List ℕ → List View → Type 0
DeskHolds word_count good desk = IsSound (IsGood (word_count desk.shape) (good desk.shape)) desk.seats desk.base

-- the same, and what is said of the desk's words, by its shape
module _ {S : Type 0} (shapes : Shapes S) (desk : DeskView S) where
  abbrev pub RuleHolds : List ℕ → List View → Type 0
  RuleHolds = DeskHolds shapes.word_count shapes.good desk

  -- a list of its words that is good
  abbrev pub AreGoodWords : List ℕ → Type 0
  AreGoodWords = IsGood (shapes.word_count desk.shape) (shapes.good desk.shape)
