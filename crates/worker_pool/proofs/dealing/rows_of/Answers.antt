use Rattle.worker_pool.proofs.Common.{◌∷◌, [], arith, ap, length, length-append, Vec, Global, ℕ, All-push, All-same, Pass, Deal, IsNewRow}
use Rattle.worker_pool.proofs.Dealt.{less_more, row_before}
use Rattle.worker_pool.proofs.dealing.rows_of.Goals as goal

pub loop-worker-preserved : goal.loop-worker-preserved
loop-worker-preserved c =
    let i = c.loop-worker.invariant in
    let n = c.loop-worker._worker in
    let row = c.in_ok-row.row in
    let is = c.in_ok-push.ensures.items in
    let e = c.in_ok-row.ensures in
    record {
      count = omega (arith, i.count, ap (λ l. length l) is, length-append c.loop-worker.rows.items (row ∷ []));
      owners = less_more n c.args.owners.now.items c.loop-worker.owners.items c.row_of.new.owners.items i.owners e.owners;
      new = All-same (λ (r : Vec (Pass ℕ Deal Global) Global). IsNewRow c.args.owners.now.items r.items) _ _ is
          (All-push (λ (r : Vec (Pass ℕ Deal Global) Global). IsNewRow c.args.owners.now.items r.items)
          c.loop-worker.rows.items row i.new (row_before n c.args.owners.now.items c.loop-worker.owners.items row.items i.owners e.row));
    }
