use Rattle.std.proofs.Common.{◌∙◌}
use Rattle.order_text.specs.Interpreter.{order_outcome_of}
use Rattle.stores_tests.proofs.orders.both_reply.Goals as goal

pub returns : goal.returns
returns g c =
    let stand = c.requires.good.good in
    record {
      good = record {
        count = c.in_ok-reply.ensures.count ∙ c.requires.good.count;
        good = ((order_outcome_of c.in_ok-script.script stand.0).1, c.in_ok-reply.ensures.words stand.0 stand.1);
      };
    }
