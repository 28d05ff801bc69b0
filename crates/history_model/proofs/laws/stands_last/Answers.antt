use Rattle.history_model.proofs.Items.ItemEnds.{ends_agree, ends_arranged, ends_values, ends_moved}
use Rattle.history_model.proofs.laws.stands_last.Goals as goal

pub returns : goal.returns
returns g c shape base next raised items more order x held arrangement may adds raises = (
  ends_agree (g.S.Shape.good shape) base next raised items more order x held arrangement may adds raises,
  ends_arranged (g.S.Shape.good shape) base next raised items more order x held arrangement may adds raises,
  ends_values (g.S.Shape.good shape) base next raised items more order x held arrangement may adds raises,
  ends_moved (g.S.Shape.good shape) base next raised items more order x held arrangement may adds raises,
)
