use Rattle.worker_pool.proofs.Common.{◌≡◌, ◌∷◌, [], arith, ap, length, sym, ◌∙◌, length-append, All-push, All-same, worker_view, ALL_PARTS, deal}
use Rattle.worker_pool.proofs.Dealt.{shown_more}
use Rattle.worker_pool.proofs.dealing.make_deques.Goals as goal

pub loop-deque-preserved : goal.loop-deque-preserved
loop-deque-preserved c =
    let i = c.loop-deque.invariant in
    let owner = c.in_ok-owner.owner in
    let stealer = c.in_ok-stealer.field-0 in
    let owners_are = c.in_ok-push-2.ensures.items in
    let made = c.in_ok-owner.ensures in
    record {
      count = omega (arith, i.count, ap (λ l. length l) owners_are, length-append c.loop-deque.owners.items (owner ∷ []));
      shown = shown_more c.loop-deque.stealers.items c.push.new.self.items c.loop-deque.owners.items
          c.push-in-loop-deque.new.self.items stealer owner c.in_ok-push.ensures.items owners_are i.shown
          (record { deque = sym c.in_ok-stealer.ensures.0; own_fifo = made.1; fifo = c.in_ok-stealer.ensures.1 ∙ made.1 });
      new = All-same (λ w. worker_view w ≡ deal ALL_PARTS [] []) _ _ owners_are
          (All-push (λ w. worker_view w ≡ deal ALL_PARTS [] []) c.loop-deque.owners.items owner i.new made.4);
    }
