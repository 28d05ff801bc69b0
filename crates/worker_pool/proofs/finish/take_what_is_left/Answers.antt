use Rattle.worker_pool.proofs.Common.{arith, length}
use Rattle.std.proofs.lemmas.Result.{on_ok_weaker}
use Rattle.worker_pool.proofs.Draining.{all_fifo, all_parts, same_dealt}
use Rattle.worker_pool.proofs.finish.take_what_is_left.Goals as goal

pub drain_all-requires : goal.drain_all-requires
drain_all-requires g c =
    let n = length c.args.rows.items in
    let more = c.take_rows_back.ensures.owners in
    record {
      all = all_parts n c.args.owners.items c.take_rows_back.new.owners.items c.requires.owners more;
      fifo = all_fifo n c.args.owners.items c.take_rows_back.new.owners.items c.requires.owners more;
    }

pub returns : goal.returns
returns g c = on_ok_weaker c.drain_all.result
    (λ emptied x. omega (
      arith,
      emptied x,
      c.take_rows_back.ensures.took x,
      same_dealt (length c.args.rows.items) c.args.owners.items c.take_rows_back.new.owners.items x c.take_rows_back.ensures.owners,
    ))
    c.drain_all.ensures
