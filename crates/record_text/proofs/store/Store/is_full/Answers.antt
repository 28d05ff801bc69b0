use Rattle.record_text.proofs.Common.{◌*◌, sym, ap, ◌∙◌, arith, is_store_full}
use Rattle.std.proofs.Common.{◌+◌, nat_lt}
use Rattle.record_text.proofs.Rooms.{blocks_of_tree}
use Rattle.record_text.proofs.store.Store.is_full.Goals as goal

pub overflow_add-result : goal.overflow_add-result
overflow_add-result c =
    omega (arith, c.len.ensures.len, blocks_of_tree c.self.inside.records c.len.ensures.ordered, c.self.invariant.enough, c.self.invariant.blocks.1)

pub returns : goal.returns
returns c =
    ap (λ n. nat_lt c.self.inside.blocks (2 * n + 2)) c.len.ensures.len
    ∙ ap (λ n. nat_lt c.self.inside.blocks (n + 2)) (sym (blocks_of_tree c.self.inside.records c.len.ensures.ordered))
    ∙ ap (λ s. is_store_full s.blocks s.records) c.self.view_is
