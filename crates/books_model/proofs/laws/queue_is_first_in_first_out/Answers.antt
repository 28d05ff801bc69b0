use Rattle.books_model.proofs.Common.{run_parts}
use Rattle.books_model.proofs.Scripts.Outcomes.{ends_done, stops_no_done}
use Rattle.books_model.proofs.Scripts.QueueLaws.{parts_in_order}
use Rattle.books_model.proofs.laws.queue_is_first_in_first_out.Goals as goal

pub returns : goal.returns
returns c = λ script values before after is. ends_done _ before (run_parts 1 script before) values after
    (parts_in_order 1 script before) (λ stop e. stops_no_done 1 script before values stop e) is
