use Rattle.txn_alloc.proofs.Maps.Parts.{some_apart}
use Rattle.txn_hash_map.proofs.Stands.{empty_others, empty_laid}
use Rattle.txn_hash_map.proofs.map.ChainMap.lay_empty.Goals as goal

pub returns-clause-map : goal.returns-clause-map
returns-clause-map c = empty_laid c.requires c.clear.ensures.others c.lay_all_free.ensures.others c.clear.ensures.none c.lay_all_free.ensures.free

pub returns-clause-order : goal.returns-clause-order
returns-clause-order c = some_apart (returns-clause-map c)

pub returns-clause-others : goal.returns-clause-others
returns-clause-others c = empty_others c.requires c.clear.ensures.others c.lay_all_free.ensures.others
