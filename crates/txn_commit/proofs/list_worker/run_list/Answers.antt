use Rattle.txn_commit.proofs.Common.{◌≡◌, ℕ, List, slice_index, refl, ap, ◌∙◌, subst, arith, IfOk-from_err, number, IsNext, AreGoodWords, RanList}
use Rattle.txn_commit.proofs.ListWork.{list_count, list_more, list_none, run_more}
use Rattle.txn_commit.proofs.list_worker.run_list.Goals as goal

pub loop-index-init : goal.loop-index-init
loop-index-init g c = record {
  table = refl;
  idle = c.requires.phase;
  who = refl;
  run = c.requires.run;
  list = list_none c.args.caller c.args.done.now.items;
}

pub run_listed-requires-clause-room : goal.run_listed-requires-clause-room
run_listed-requires-clause-room g c =
    let i = c.loop-index.invariant in
    omega (
      arith,
      i.run.calls,
      list_count c.args.caller c.loop-index.index c.args.done.now.items c.loop-index.done.items i.list,
      c.requires.room,
      c.loop-index-test.true,
    )

pub loop-index-preserved : goal.loop-index-preserved
loop-index-preserved g c =
    let i = c.loop-index.invariant in
    let at = c.loop-index in
    let item = c.in_ok-item.item in
    let e = c.in_ok-item.ensures in
    let is = c.in_ok-push.ensures.items in
    let desk = c.args.desk.now in
    let named : number at.pass.view ≡ number c.args.pass.now.view = ap (λ (w : List ℕ). slice_index w 0) i.who in
    record {
      table = e.next.table_stays ∙ i.table;
      idle = e.next.idle;
      who = e.next.who_stays ∙ i.who;
      run = run_more (AreGoodWords g.L.Shape.Shape desk) (g.L.Lists.means c.args.lists.now) desk.seats (number c.args.pass.now.view)
          at.pass.view c.run_listed.new.pass.view at.done.items c.push.new.self.items item i.run named e.made is;
      list = list_more c.args.caller at.index c.args.done.now.items at.done.items c.push.new.self.items item i.list e.place.0 e.place.1 is;
    }

pub returns-in_err-item : goal.returns-in_err-item
returns-in_err-item g c =
    let failed = c.from_residual.ensures.0 in
    let i = c.loop-index.invariant in
    let e = c.run_listed.ensures.next in
    let next : IsNext c.args.pass.now c.run_listed.new.pass = record {
      table_stays = e.table_stays ∙ i.table;
      idle = e.idle;
      who_stays = e.who_stays
          ∙ i.who;
    } in
    search IfOk-from_err

pub returns-in_err-push : goal.returns-in_err-push
returns-in_err-push g c =
    let failed = c.from_residual-in_err-push.ensures.0 in
    let i = c.loop-index.invariant in
    let e = c.run_listed.ensures.next in
    let next : IsNext c.args.pass.now c.run_listed.new.pass = record {
      table_stays = e.table_stays ∙ i.table;
      idle = e.idle;
      who_stays = e.who_stays
          ∙ i.who;
    } in
    search IfOk-from_err

pub returns : goal.returns
returns g c =
    let i = c.loop-index.invariant in
    let all : c.loop-index.index ≡ g.L.Lists.jobs c.args.lists.now c.args.caller = omega arith in
    record {
      next = record { table_stays = i.table; idle = i.idle; who_stays = i.who };
      run = i.run;
      list = subst (λ n. RanList c.args.caller n c.args.done.now.items c.loop-index.done.items) all i.list;
    }
