use Rattle.twoplsf.proofs.Common.{Rose, texts_of}
use Rattle.txn_cells.specs.contracts.numbers.U128Coded.TheImpl.{ghosts as numbers}
use Rattle.twoplsf.proofs.CellLines.{one_list}
use Rattle.twoplsf.proofs.Serving.{took_by}
use Rattle.twoplsf.proofs.FromText.{HasEnded, causes, headline, headline_records, headline_orders, made, complete, complete_check, complete_records}
use Rattle.twoplsf.proofs.FromText.{complete_orders, complete_making}
use Rattle.twoplsf.proofs.serve.serve.Given.{Over}
use Rattle.twoplsf.proofs.serve.serve.Goals as goal

-- what became of the command
ended : (g : Over) (c : goal.After-serve_words g)
    → HasEnded c.serve_words.result.status (texts_of c.args.words.now) (g.S.Source.left c.args.source.now)
    (g.S.Source.left c.serve_words.new.source) (g.K.Sink.taken c.args.sink.now)
    (g.K.Sink.taken c.serve_words.new.sink)
    (Rose (g.S.Source.faults c.args.source.now) (g.S.Source.faults c.serve_words.new.source))
    (Rose (g.K.Sink.faults c.args.sink.now) (g.K.Sink.faults c.serve_words.new.sink))
ended g c =
    let served = c.serve_words.ensures in
    record {
      text = took_by numbers one_list (texts_of c.args.words.now) (g.S.Source.left c.args.source.now)
          (g.S.Source.left c.serve_words.new.source) c.serve_words.result.status (g.K.Sink.taken c.args.sink.now)
          (g.K.Sink.taken c.serve_words.new.sink) served.text;
      taken = served.taken;
      read = served.read_fault;
      write = served.write_fault;
    }

pub returns : goal.returns
returns g c = record {
  headline = headline (ended g c);
  headline_records = headline_records (ended g c);
  headline_orders = headline_orders (ended g c);
  made = made (ended g c);
  served = c.serve_words.ensures;
  causes = causes (ended g c);
  complete = complete (ended g c);
  complete_check = complete_check (ended g c);
  complete_records = complete_records (ended g c);
  complete_orders = complete_orders (ended g c);
  complete_making = complete_making (ended g c);
}
