use Rattle.books_model.proofs.Common.{◌≡◌, ◌<◌, ◌++◌, ◌∷◌, [], length, drop, sym, ap, subst, ◌∙◌, arith, length-append, ClearingBooks, put_call, AreInRange}
use Rattle.books_model.proofs.Common.{changed_books}
use Rattle.books_model.proofs.Queues.{drop-push}
use Rattle.books_model.proofs.InRange.{put_call-in_range}
use Rattle.books_model.proofs.draft.Draft.queue_call.Goals.{In_ok-push}
use Rattle.books_model.proofs.draft.Draft.queue_call.Goals as goal

-- the books after the changes so far
abbrev so_far : In_ok-push → ClearingBooks
so_far c = changed_books c.self.inside.books.now c.self.inside.changes

-- the books after the call was queued
after : (c : In_ok-push) → changed_books c.self.inside.books.now (record c.self.inside.changes {
  added =
      c.push.new.self;
}) ≡ put_call (so_far c) c.args.account c.args.shortfall
after c =
    let books = c.self.inside.books.now in
    let changes = c.self.inside.changes in
    ap (λ calls. record (so_far c) { calls = calls })
    (ap (λ added. drop changes.taken (books.calls ++ added)) c.in_ok-push.ensures.items
    ∙ drop-push changes.taken books.calls changes.added.items (c.args.account, c.args.shortfall) c.self.invariant.known.taken)

pub invariant_of-self-2 : goal.invariant_of-self-2
invariant_of-self-2 c =
    let h = c.self.invariant in
    let room : length (so_far c).calls < (so_far c).ring = subst (λ d. length d.after.calls < d.after.ring) (sym c.self.view_is) c.requires.room in
    record {
      before = h.before;
      known = record {
        ordered = h.known.ordered;
        accounts = h.known.accounts;
        positions = h.known.positions;
        prices = h.known.prices;
        taken = omega (
          arith,
          h.known.taken,
          ap length c.in_ok-push.ensures.items,
          length-append c.self.inside.changes.added.items ((c.args.account, c.args.shortfall) ∷ []),
        );
      };
      counted = h.counted;
      after = subst AreInRange (sym (after c)) (put_call-in_range (so_far c) c.args.account c.args.shortfall h.after c.requires.call room);
    }

pub returns-clause-ok : goal.returns-clause-ok
returns-clause-ok c = after (goal.at.returns-clause-ok c).In_ok-push ∙ ap (λ d. put_call d.after c.args.account c.args.shortfall) c.self.view_is
