use Rattle.worker_pool.proofs.Dealt.{row_after, shown_out}
use Rattle.worker_pool.proofs.dealing.deal_out.Goals as goal

pub returns-clause-shown : goal.returns-clause-shown
returns-clause-shown c =
    shown_out c.args.workers c.in_ok-owners.stealers.items c.in_ok-owners.owners.items c.deal_all.new.owners.items
    c.rows_of.new.owners.items c.in_ok-owners.ensures.new c.in_ok-deal_all.ensures.still c.in_ok-rows.ensures.owners c.in_ok-owners.ensures.shown

pub returns-clause-rows : goal.returns-clause-rows
returns-clause-rows c = λ k row lt. row_after c.args.workers c.deal_all.new.owners.items c.rows_of.new.owners.items _
    c.in_ok-rows.ensures.owners (c.in_ok-rows.ensures.new k row lt)
