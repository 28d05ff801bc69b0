use Rattle.history_model.proofs.Items.ItemDrops.{drops_agree, drops_arranged, drops_values}
use Rattle.history_model.proofs.laws.drops_items.Goals as goal

pub returns : goal.returns
returns g c shape base next items less order keep held arrangement entries drops = (
  drops_agree (g.S.Shape.good shape) base next items less order keep held arrangement entries drops,
  drops_arranged (g.S.Shape.good shape) base next items less order keep held arrangement entries drops,
  drops_values (g.S.Shape.good shape) base next items less order keep held arrangement entries drops,
)
