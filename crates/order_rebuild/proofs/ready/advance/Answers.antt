use Rattle.order_rebuild.proofs.Common.{◌∙◌, heap_items}
use Rattle.order_rebuild.proofs.Waits.{gone_on, others_on, ready_after}
use Rattle.order_rebuild.proofs.ready.advance.Goals as goal

pub on-preserved : goal.on-preserved
on-preserved c =
    let l = c.args.lines.now in let i = c.on.invariant in let passed = c.is_passed.ensures.0 c.on-test.true in record {
      gone = gone_on l c.requires.rows c.args.left.now c.on.next c.on.wait i.gone i.waits c.args.line c.requires.inside c.requires.line passed;
      waits = c.in_ok-queue_level.ensures.waits;
      closed = c.in_ok-queue_level.ensures.closed;
      others = λ b n. others_on l c.requires.rows c.args.left.now c.on.next c.on.wait i.gone i.waits c.args.line
          c.requires.inside c.requires.line passed b n ∙ i.others b n;
      ready = ready_after l c.args.wait.now c.on.wait c.queue_level.new.wait (heap_items c.args.ready.now)
          (heap_items c.on.ready) (heap_items c.queue_level.new.ready) i.ready c.in_ok-queue_level.ensures.ready;
    }
