use Rattle.worker_pool.proofs.Common.{◌<◌, ◌∷◌, [], arith, ap, length, sym, length-append, worker_view}
use Rattle.worker_pool.proofs.Dealt.{cutting_more, still_over}
use Rattle.worker_pool.proofs.dealing.row_of.Goals as goal

pub loop-k-preserved : goal.loop-k-preserved
loop-k-preserved c =
    let i = c.loop-k.invariant in
    let k = c.loop-k.k in
    let owner = c.index_mut.result.now in
    let pass = c.pass_of.result in
    let is = c.in_ok-push.ensures.items in
    let e = c.pass_of.ensures in
    let within : k < length c.args.owners.now.items = omega (arith, c.loop-k-test.true, c.loop-k.auto.k-end, c.len-k-end.ensures, c.args.owners.now.ok) in
    let some : 1 < (worker_view owner).parts =
    still_over c.args.owners.now.items c.loop-k.owners.items c.loop-k.row.items k owner (sym i.at) within
    c.index_mut.ensures.value c.requires.parts i.cut in
    record {
      at = omega (arith, i.at, ap (λ l. length l) is, length-append c.loop-k.row.items (pass ∷ []));
      cut = cutting_more c.args.owners.now.items c.loop-k.owners.items c.loop-k.row.items c.push.new.self.items k owner
          c.pass_of.new.owner pass is (sym i.at) within c.index_mut.ensures.value e.same e.deque (omega (arith, some)) e.given e.left i.cut;
    }
