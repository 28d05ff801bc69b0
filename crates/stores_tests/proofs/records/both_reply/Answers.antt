use Rattle.std.proofs.Common.{◌∙◌}
use Rattle.record_text.specs.Interpreter.{record_outcome_of}
use Rattle.stores_tests.proofs.records.both_reply.Goals as goal

pub returns : goal.returns
returns g c =
    let stand = c.requires.good.good in
    record {
      good = record {
        count = c.in_ok-reply.ensures.count ∙ c.requires.good.count;
        good = (
          (record_outcome_of c.in_ok-script.script stand.0 c.args.shape.now.blocks).1,
          c.in_ok-reply.ensures.words stand.0 stand.1,
        );
      };
    }
