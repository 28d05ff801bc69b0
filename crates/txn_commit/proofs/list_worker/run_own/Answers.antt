use Rattle.txn_commit.proofs.Common.{◌≡◌, ◌+◌, ℕ, List, length, slice_index, refl, sym, ap, ◌∙◌, subst, subst₂, arith, IfOk-from_err, number, IsNext}
use Rattle.txn_commit.proofs.Common.{AreGoodWords, HasRun, RanFirst}
use Rattle.txn_commit.proofs.UnderWay.{IsUnderWay}
use Rattle.txn_commit.proofs.ListWork.{first_none, first_passes, first_runs, jobs_more, jobs_within, list_count, run_none}
use Rattle.txn_commit.proofs.list_worker.run_own.Goals.{then-caller-workers+in_ok-run_list, else-caller-workers}
use Rattle.txn_commit.proofs.list_worker.run_own.Goals as goal

pub loop-caller-init : goal.loop-caller-init
loop-caller-init g c =
    let fresh = c.requires.fresh in
    let desk = c.args.desk.now in
    let seat = number c.args.pass.now.view in
    record {
      table = refl;
      idle = fresh.idle;
      who = refl;
      run = run_none (AreGoodWords g.L.Shape.Shape desk) (g.L.Lists.means c.args.lists.now) desk.seats seat c.args.pass.now.view c.args.done.now.items
          fresh.no_call fresh.nothing_seen c.requires.none;
      first = first_none (g.L.Lists.jobs c.args.lists.now) c.args.workers seat c.args.done.now.items c.requires.none;
      few = omega (arith, ap (λ l. length l) c.requires.none);
    }

pub run_list-requires-clause-run : goal.run_list-requires-clause-run
run_list-requires-clause-run g c =
    let i = c.loop-caller.invariant in
    let at = c.loop-caller in
    let desk = c.args.desk.now in
    let named : number at.pass.view ≡ number c.args.pass.now.view = ap (λ (w : List ℕ). slice_index w 0) i.who in
    subst (λ n. HasRun (AreGoodWords g.L.Shape.Shape desk) (g.L.Lists.means c.args.lists.now) desk.seats n at.pass.view at.done.items) (sym named) i.run

pub run_list-requires-clause-room : goal.run_list-requires-clause-room
run_list-requires-clause-room g c =
    let jobs = g.L.Lists.jobs c.args.lists.now in
    let at = c.loop-caller in
    omega (
      arith,
      at.invariant.few,
      jobs_more jobs at.caller,
      jobs_within jobs (at.caller + 1) (g.L.Lists.callers c.args.lists.now) (omega (arith, c.loop-caller-test.true)),
      c.requires.room,
    )

pub loop-caller-preserved : goal.loop-caller-preserved
loop-caller-preserved g c =
    let i = c.loop-caller.invariant in
    let at = c.loop-caller in
    let jobs = g.L.Lists.jobs c.args.lists.now in
    let desk = c.args.desk.now in
    let good = AreGoodWords g.L.Shape.Shape desk in
    let means = g.L.Lists.means c.args.lists.now in
    let began = c.args.pass.now in
    let named : number at.pass.view ≡ number began.view = ap (λ (w : List ℕ). slice_index w 0) i.who in
    elim c.if-caller-workers.branch [
      | then-caller-workers+in_ok-run_list w ↦
          let e = w.in_ok-run_list.ensures in
          subst₂ (λ p d. IsUnderWay good means jobs c.args.workers desk.seats began (at.caller + 1) p d.items) (sym w.pass-is) (sym w.done-is) (record {
            table = e.next.table_stays ∙ i.table;
            idle = e.next.idle;
            who = e.next.who_stays ∙ i.who;
            run = subst (λ n. HasRun good means desk.seats n w.run_list.new.pass.view w.run_list.new.done.items) named e.run;
            first = first_runs jobs c.args.workers (number began.view) at.caller at.done.items i.first w.run_list.new.done.items
                (w.if-caller-workers.true ∙ c.who-seat.ensures.number) e.list;
            few = omega (arith, i.few, jobs_more jobs at.caller, list_count at.caller (jobs at.caller) at.done.items w.run_list.new.done.items e.list);
          })
      | else-caller-workers w ↦
          subst₂ (λ p d. IsUnderWay good means jobs c.args.workers desk.seats began (at.caller + 1) p d.items) (sym w.pass-is) (sym w.done-is) (record {
            table = i.table;
            idle = i.idle;
            who = i.who;
            run = i.run;
            first = first_passes jobs c.args.workers (number began.view) at.caller at.done.items i.first
                (λ same. w.if-caller-workers.false (same ∙ sym c.who-seat.ensures.number));
            few = omega (arith, i.few, jobs_more jobs at.caller);
          })
    ]

pub returns-in_err-run_list : goal.returns-in_err-run_list
returns-in_err-run_list g c =
    let failed = c.from_residual.ensures.0 in
    let i = c.loop-caller.invariant in
    let e = c.run_list.ensures.next in
    let next : IsNext c.args.pass.now c.run_list.new.pass = record { table_stays = e.table_stays ∙ i.table; idle = e.idle; who_stays = e.who_stays ∙ i.who } in
    search IfOk-from_err

pub returns : goal.returns
returns g c =
    let i = c.loop-caller.invariant in
    let all : c.loop-caller.caller ≡ g.L.Lists.callers c.args.lists.now = omega arith in
    record {
      next = record { table_stays = i.table; idle = i.idle; who_stays = i.who };
      run = i.run;
      first = subst (λ n. RanFirst (g.L.Lists.jobs c.args.lists.now) c.args.workers (number c.args.pass.now.view) n c.loop-caller.done.items) all i.first;
    }
