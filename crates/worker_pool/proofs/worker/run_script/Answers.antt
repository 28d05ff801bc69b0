use Rattle.worker_pool.proofs.Common.{◌≡◌, ℕ, ◌+◌, List, slice_index, refl, sym, ap, ◌∙◌, subst, script_at, IsGood, number, BooksShape, words_of, ScriptMeans}
use Rattle.worker_pool.proofs.Common.{IsGoodFor, GetsEntry, Done}
use Rattle.txn_books.proofs.Common.{ScriptOn}
use Rattle.books_model.specs.declared.script.Part.{Part}
use Rattle.worker_pool.proofs.Making.{made_more}
use Rattle.worker_pool.proofs.worker.run_script.Goals as goal

pub returns-clause-made : goal.returns-clause-made
returns-clause-made g c = λ done made.
    let desk = c.args.work.now.desk.now in
    let input = c.args.work.now.input.now in
    let old = c.args.pass.now in
    let new = c.transact.new.pass in
    let receipt = c.in_ok-receipt.receipt in
    let e = c.in_ok-receipt.ensures in
    let job = c.new-job.result in
    let item : Done = record {
      caller = c.args.caller;
      index = c.args.index;
      seat = c.who.result;
      call = receipt.call;
      uses = receipt.uses;
      restarts = receipt.restarts;
      reply = receipt.answer;
    } in
    let shape_is : job.shape ≡ desk.shape = ap (λ (j : ScriptOn). j.shape) c.new-job.ensures ∙ sym c.requires.fit.shape_is in
    let script_is : job.script ≡ script_at input.callers c.args.caller c.args.index = ap (λ (j : ScriptOn). j.script) c.new-job.ensures
    ∙ c.script-script.ensures in
    let good = IsGood (words_of desk.shape) (IsGoodFor desk.shape) in
    let gets = subst (λ (s : BooksShape). GetsEntry good
    (ScriptMeans s (script_at input.callers c.args.caller c.args.index)) (number old.view) (old.view.call + 1) old.view.seen new.view.seen receipt) shape_is
    (subst (λ (script : List Part). GetsEntry good (ScriptMeans job.shape script) (number old.view) (old.view.call + 1)
    old.view.seen new.view.seen receipt) script_is e.entry) in
    let named : c.who.result ≡ number old.view = c.who.ensures.number ∙ ap (λ (w : List ℕ). slice_index w 0) e.seat.who in
    made_more desk input (number old.view) (old.view.call + 1) old.view.seen new.view.seen receipt item gets
    (record { seat = named; call = refl; uses = refl; restarts = refl; reply = refl })
    done _ old new refl refl refl e.desk e.idle e.seat.who e.call refl e.few made
