use Rattle.txn_commit.proofs.Common.{◌≤◌, subst, sym, ap, ◌∙◌, arith, IsGood, IsCoherent, IsLegalInEachOrder, jobs_of_first}
use Rattle.word_table.specs.declared.limits.TheConstants.{LAST_CALL}
use Rattle.txn_commit.proofs.AllLists.{all_whole}
use Rattle.txn_commit.proofs.list_run.run_lists.Goals as goal

pub run_clients-requires-clause-ready : goal.run_clients-requires-clause-ready
run_clients-requires-clause-ready g c κs within = λ k d lt.
    let h = c.in_ok-started.ensures.new k d lt in (
      (
        h.2,
        omega (arith, h.1, c.requires.workers.0),
        subst (λ lists. jobs_of_first (g.L.Lists.jobs lists) (g.L.Lists.callers lists) ≤ LAST_CALL) (sym h.0) c.requires.room,
      ),
      ap g.L.Lists.shape h.0 ∙ sym c.shape.ensures,
    )

pub returns : goal.returns
returns g c =
    let shapes = g.L.Shape.Shape in
    let ended = c.in_ok-ended.ensures in
    let started = c.in_ok-started.ensures in
    let closed = c.in_ok-ended.ended.closed in
    let shape = c.shape.ensures in
    let coherent = subst (λ s. IsCoherent (IsGood (shapes.word_count s) (shapes.good s)) closed) shape ended.coherent in
    let legal = subst (λ s. IsLegalInEachOrder (IsGood (shapes.word_count s) (shapes.good s)) closed) shape ended.legal in
    let whole = all_whole (λ s. IsGood (shapes.word_count s) (shapes.good s)) g.L.Lists.means g.L.Lists.callers g.L.Lists.jobs
    (λ w. w.lists.now) (λ w. w.workers) (λ w. w.done.items) closed (g.L.Lists.shape c.args.lists.now) c.in_ok-started.started.items
    c.in_ok-ended.ended.clients.items c.args.lists.now c.args.workers c.in_ok-done.done.items (ended.closed.2 ∙ shape) ended.closed.1 started.count
    (omega (arith, c.requires.workers.0)) started.new ended.worked ended.records coherent legal c.in_ok-done.ensures in
    record {
      closed = (ended.closed.0, ended.closed.1 ∙ started.count, ended.closed.2 ∙ shape);
      coherent = coherent;
      legal = legal;
      records = ended.records;
      good = subst (λ s. IsGood (shapes.word_count s) (shapes.good s) closed.words) shape ended.good;
      once = whole.once;
      seats = whole.dealt;
      entries = whole.recorded;
      calls = whole.counted;
      below = whole.below;
      meant = whole.meant;
      run = whole.run;
    }
