use Rattle.worker_pool.proofs.Common.{◌≡◌, ◌∙◌, ℕ, List, All, length, get_or, map, sym, ap, subst, arith, length-map, ClearingInput, IsInput, WorkerClient}
use Rattle.worker_pool.proofs.Common.{IsFree, IsDealtOut, Stealers, worker_of, IsSeated}
use Rattle.txn_books.proofs.Common.{shape_of}
use Rattle.worker_pool.proofs.Ending.{dealt_to_all}
use Rattle.worker_pool.proofs.Lent.{all_dealt, all_parts}
use Rattle.worker_pool.proofs.run.run_all.Goals as goal

-- as many items as images
as_many : {X Y : Type 0} (f : X → Y) (xs : List X) {ys : List Y} → map f xs ≡ ys → length xs ≡ length ys
as_many f xs is = sym (length-map xs f) ∙ ap (λ l. length l) is

pub seat_workers-requires-clause-free : goal.seat_workers-requires-clause-free
seat_workers-requires-clause-free g c = subst (λ n. All (IsFree n) c.args.owners.items) (sym c.requires.count.0) c.requires.free

pub lend-requires-clause-some : goal.lend-requires-clause-some
lend-requires-clause-some g c κs within = omega (
  arith,
  c.requires.some,
  c.requires.count.0,
  as_many _ _ c.in_ok-clients.ensures.owners,
)

pub lend-requires-clause-ready : goal.lend-requires-clause-ready
lend-requires-clause-ready g c κs within = λ k d lt.
    let shared = c.in_ok-clients.ensures.shared k d lt in
    let fit = c.requires.fit in
    record {
      begins = record {
        seated = subst (λ (s : Stealers). IsSeated s (worker_of (get_or c.in_ok-clients.clients.items k d).worker)) (sym shared.1)
            (c.in_ok-clients.ensures.seated k d lt);
        sizes = shared.0 ∙ fit.sizes ∙ ap (λ (i : ClearingInput). shape_of i.books) (sym shared.2);
        valid = subst IsInput (sym shared.2) fit.valid;
      };
      shape_is = fit.shape_is ∙ sym shared.0;
    }

pub lend-requires-clause-seats : goal.lend-requires-clause-seats
lend-requires-clause-seats g c κs within = omega (
  arith,
  c.requires.passes.count,
  c.requires.count.0,
  as_many _ _ c.in_ok-clients.ensures.owners,
)

pub last_round-requires-clause-some : goal.last_round-requires-clause-some
last_round-requires-clause-some g c = omega (
  arith,
  c.in_ok-clients-2.ensures.worked.left,
  c.requires.some,
  c.requires.count.0,
  as_many _ _ c.in_ok-clients.ensures.owners,
)

pub last_round-requires-clause-ended : goal.last_round-requires-clause-ended
last_round-requires-clause-ended g c =
    let Client = WorkerClient g.row.G.Denot in
    let e = c.in_ok-clients.ensures in
    all_parts (λ (x : Client). worker_of x.worker) (λ (x : Client). x.stealers.now) (λ (x : Client). x.input.now)
    c.in_ok-clients-2.ensures.worked (λ k d lt. let same = e.shared k d lt in (same.1, same.2)) e.seats
    (c.requires.shown.count ∙ sym (as_many _ _ e.owners))

pub last_round-requires-clause-dealt : goal.last_round-requires-clause-dealt
last_round-requires-clause-dealt g c =
    let Client = WorkerClient g.row.G.Denot in
    let e = c.in_ok-clients.ensures in
    let clients = c.in_ok-clients.clients.items in
    let callers = length c.args.work.now.input.now.callers in
    let same = all_dealt (λ (x : Client). worker_of x.worker) (λ (x : Client). x.stealers.now) (λ (x : Client). x.input.now)
    c.in_ok-clients-2.ensures.worked (λ k d lt. let alike = e.shared k d lt in (alike.1, alike.2)) e.seats
    (c.requires.shown.count ∙ sym (as_many _ _ e.owners)) in
    subst (λ (l : List (List ℕ)). IsDealtOut callers l c.args.left.items) (sym same)
    (dealt_to_all (λ (x : Client). (worker_of x.worker).queue) callers clients c.args.owners.items c.args.left.items e.owners
    (omega (arith, c.requires.count.0, c.requires.some)) c.requires.dealt)
