use Rattle.txn_commit.proofs.Common.{◌∙◌, inr, subst, sym, IsGood, number, begin_call_action, PassView, AsksItsFootprint, EndsWithoutEntry}
use Rattle.std.proofs.lemmas.Result.{on_err_weaker, on_ok_weaker}
use Rattle.txn_commit.proofs.Ending.{begins_sound, both_on_err, ends_with_footprint, ends_without, some_seats, words_counted}
use Rattle.txn_commit.proofs.transaction.transact.Goals as goal

pub run_attempts-ended-requires-clause-sound : goal.run_attempts-ended-requires-clause-sound
run_attempts-ended-requires-clause-sound g c = let old = c.args.pass.now.view in let taken = c.begin-call.ensures.taken in
    begins_sound g.S.Shape.word_count g.S.Shape.good c.args.desk.now old c.of-began.result.value c.begin-call.new.pass c.in_ok-undo.undo
    c.of-began.ensures (c.begin-call.ensures.desk ∙ c.requires.desk)
    (words_counted g.S.Shape.word_count g.S.Shape.good c.args.desk.now (begin_call_action (number old) old) old taken.0
    c.begin-call.new.pass.view c.who-seat.result taken.1 c.who-seat.ensures.one)
    c.begin-call.ensures.step c.in_ok-undo.ensures.empty c.in_ok-undo.ensures.room c.begin-call.ensures.fits

pub run_attempts-ended-requires-clause-seats : goal.run_attempts-ended-requires-clause-seats
run_attempts-ended-requires-clause-seats g c = let old = c.args.pass.now.view in let taken = c.begin-call.ensures.taken in
    some_seats g.S.Shape.word_count g.S.Shape.good c.args.desk.now (begin_call_action (number old) old) old taken.0
    c.begin-call.new.pass.view c.who-seat.result taken.1 c.who-seat.ensures.one

-- the pass that was lent to the attempt is the one that comes back
pub returns-clause-err : goal.returns-clause-err
returns-clause-err g c = let old = c.args.pass.now.view in let back = sym (c.pass-1.given.1 (sym c.run_attempts-ended.ensures.name)) in
    let ran = c.run_attempts-ended.ensures in
    on_err_weaker c.run_attempts-ended.result
    (λ up. inr (subst (λ (p : PassView). EndsWithoutEntry (IsGood (g.S.Shape.word_count c.args.desk.now.shape)
    (g.S.Shape.good c.args.desk.now.shape)) c.args.desk.now.seats c.args.desk.now.base old p.view) back
    (ends_without g.S.Shape.word_count g.S.Shape.good c.args.desk.now (number c.release_all.new.pass.view) old
    c.begin-call.new.pass.view c.run_attempts-ended.new.attempt.pass.now.view c.release_all.new.pass.view c.finish_call.new.pass.view
    c.begin-call.ensures.step (up.0, up.1.0, up.1.1.0, up.1.1.1.0, up.1.1.1.1) (ran.call ∙ c.begin-call.ensures.number)
    c.release_all.ensures.released c.release_all.ensures.nothing c.finish_call.ensures.bounded c.finish_call.ensures.step)))
    (both_on_err _ _ c.run_attempts-ended.result ran.seen (both_on_err _ _ c.run_attempts-ended.result ran.floor
    (both_on_err _ _ c.run_attempts-ended.result ran.given_up (both_on_err _ _ c.run_attempts-ended.result ran.left ran.last))))

pub returns-clause-footprint : goal.returns-clause-footprint
returns-clause-footprint g c = let back = sym (c.pass-1.given.1 (sym c.run_attempts-ended.ensures.name)) in
    on_ok_weaker c.run_attempts-ended.result (λ asks. subst (λ (p : PassView). AsksItsFootprint p.view) back
    (ends_with_footprint (number c.release_all.new.pass.view) c.run_attempts-ended.new.attempt.pass.now.view
    c.release_all.new.pass.view c.finish_call.new.pass.view c.release_all.ensures.released c.finish_call.ensures.step asks))
    c.run_attempts-ended.ensures.footprint
