use Rattle.history_model.proofs.Common.{◌≡◌, slice_get, Some}
use Rattle.history_model.proofs.Traces.FittingLaws.{each_fitting_state, each_from_states}
use Rattle.history_model.proofs.laws.of_each_fitting_state.Goals as goal

pub returns : goal.returns
returns g c shape = λ trace a v. (
  each_fitting_state (g.S.Shape.word_count shape) (g.S.Shape.good shape) trace (λ state. slice_get state a ≡ Some v),
  each_from_states (g.S.Shape.word_count shape) (g.S.Shape.good shape) trace (λ state. slice_get state a ≡ Some v),
)
