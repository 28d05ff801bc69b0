use Rattle.order_rebuild.proofs.Common.{◌≡◌, arith, heap_items, item_at}
use Rattle.order_rebuild.proofs.Waits.{index_is, all_more, ready_after}
use Rattle.order_rebuild.proofs.ready.queue_all.Goals as goal

pub loop-i-preserved : goal.loop-i-preserved
loop-i-preserved c =
    let l = c.args.lines.now in
    let at : c.index.result.now ≡ item_at l c.loop-i.i = index_is l.item.items c.loop-i.i c.index.result.now (let t =
    c.loop-i-test.true in omega (arith, l.item.ok.0)) c.index.ensures in
    record {
      waits = c.in_ok-queue_item.ensures.waits;
      closed = all_more l c.args.next.now c.loop-i.wait c.queue_item.new.wait c.loop-i.i c.index.result.now at
          c.in_ok-queue_item.ensures.waits c.loop-i.invariant.closed c.in_ok-queue_item.ensures.closed c.in_ok-queue_item.ensures.others;
      ready = ready_after l c.args.wait.now c.loop-i.wait c.queue_item.new.wait (heap_items c.args.ready.now)
          (heap_items c.loop-i.ready) (heap_items c.queue_item.new.ready) c.loop-i.invariant.ready c.in_ok-queue_item.ensures.ready;
    }
