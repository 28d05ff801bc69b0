use Rattle.txn_commit.proofs.Common.{◌≡◌, ℕ, [], Option, Some, refl, ap, ◌∙◌, rules, View, Cause, Running, Halt, StandsAs, Releases, Undoes, LeavesFootprint}
use Rattle.txn_commit.proofs.Attempts.{some_fits}
use Rattle.txn_commit.proofs.Ending.{gave_way, none_granted, none_noted}
use Rattle.txn_commit.proofs.Footprints.{footprint_restarts}
use Rattle.txn_commit.specs.declared.attempt.Halt.TheVariants as halt
use Rattle.txn_commit.proofs.transaction.give_way.Goals as goal

-- what the call asked for stays its footprint
given_way : (n : ℕ) (cause : Cause) (halted : Option Halt) (began old undone released new : View)
    → halted ≡ Some (halt.Yield cause) → StandsAs n halted began old
    → Undoes old undone → Releases undone released → new ≡ record released { phase = Running; trace = []; uses = []; waits = new.waits }
    → LeavesFootprint old → LeavesFootprint new
given_way n cause halted began old undone released new is stands undo rel restarts =
    footprint_restarts n cause began old new (gave_way n halted cause began old is stands)
    (ap (λ (v : View). v.abandoned) restarts ∙ (ap (λ (v : View). v.abandoned) rel.rest ∙ ap (λ (v : View). v.abandoned) undo.some.rest))
    (ap (λ (v : View). v.meetings) restarts ∙ (ap (λ (v : View). v.meetings) rel.rest ∙ ap (λ (v : View). v.meetings) undo.some.rest))
    (ap (λ (v : View). v.asked) restarts ∙ (ap (λ (v : View). v.asked) rel.rest ∙ ap (λ (v : View). v.asked) undo.some.rest))

pub undo_all-requires : goal.undo_all-requires
undo_all-requires g c = record {
  desk = c.requires.sound.table;
  phase = search rules;
  notes = c.requires.sound.log_is;
  within = search rules;
}

pub wait_out-requires : goal.wait_out-requires
wait_out-requires g c = record {
  desk = search rules;
  phase = search rules;
  other = search rules;
  cause = search rules;
  nothing = search rules;
  undone = search rules;
}

pub returns : goal.returns
returns g c = record {
  name = refl;
  desk = refl;
  sound = record {
    table = search rules;
    words = search rules;
    call = search rules;
    stands = search rules;
    judged = search rules;
    log_is = search rules;
    within = search rules;
    noted =
        none_noted (g.S.Shape.word_count c.args.attempt.now.desk.now.shape)
        (g.S.Shape.good c.args.attempt.now.desk.now.shape) c.undo_all.new.undo.list c.wait_out.new.pass.view.trace c.undo_all.ensures.notes
        (ap (λ (v : View). v.trace) c.wait_out.ensures.restarts);
    granted = none_granted c.wait_out.new.pass.view c.undo_all.new.undo.list c.undo_all.ensures.notes;
    room = search rules;
    memory = search rules;
    fits =
        some_fits (g.S.Shape.word_count c.args.attempt.now.desk.now.shape)
        (g.S.Shape.good c.args.attempt.now.desk.now.shape) c.args.attempt.now.desk.now.seats c.args.attempt.now.desk.now.base c.wait_out.new.pass.view
        c.wait_out.ensures.fits;
    current = λ runs. c.wait_out.ensures.fits;
    footprint =
        given_way c.args.attempt.now.desk.now.seats c.args.cause c.args.attempt.now.halt
        c.args.attempt.now.began.value.view c.args.attempt.now.pass.now.view c.undo_all.new.pass.view c.release_all.new.pass.view c.wait_out.new.pass.view
        c.requires.halted c.requires.sound.stands c.undo_all.ensures.undone c.release_all.ensures.released
        c.wait_out.ensures.restarts c.requires.sound.footprint;
  };
  going = refl;
  began = c.of.ensures;
  fresh = ap (λ (v : View). v.trace) c.wait_out.ensures.restarts;
  call = search rules;
  abandoned = search rules;
}
