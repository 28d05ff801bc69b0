use Rattle.txn_stores.proofs.Common.{◌≡◌, map, take, Done}
use Rattle.txn_stores.proofs.run.replies_of.Given as goal

-- the replies of the items so far are lent
abbrev pub invariant-loop-item : goal.invariant-loop-item
invariant-loop-item g l = map (λ reply. reply.now) l.replies.items ≡ map (λ (item : Done g.row.A.Denot). item.reply) (take l.item-index l.done)
