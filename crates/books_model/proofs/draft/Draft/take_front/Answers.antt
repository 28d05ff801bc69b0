use Rattle.books_model.proofs.Common.{◌≡◌, ◌<◌, ◌+◌, ◌++◌, length, drop, sym, ap, subst, ◌∙◌, arith, length-append, length-drop, ClearingBooks, AreInRange}
use Rattle.books_model.proofs.Common.{changed_books}
use Rattle.books_model.proofs.Queues.{drop-next}
use Rattle.books_model.proofs.Drafts.{taken-in_range}
use Rattle.books_model.proofs.draft.Draft.take_front.Goals.{After-len}
use Rattle.books_model.proofs.draft.Draft.take_front.Goals as goal

-- the books after the changes so far
abbrev so_far : After-len → ClearingBooks
so_far c = changed_books c.self.inside.books.now c.self.inside.changes

-- a call is left
is_left : (c : After-len) → c.self.inside.changes.taken < length c.self.inside.books.now.calls + length c.self.inside.changes.added.items
is_left c =
    let calls = c.self.inside.books.now.calls ++ c.self.inside.changes.added.items in
    let some : 0 < length (drop c.self.inside.changes.taken calls) = subst (λ d. 0 < length d.after.calls) (sym c.self.view_is) c.requires in
    omega (arith, some, length-drop c.self.inside.changes.taken calls, length-append c.self.inside.books.now.calls c.self.inside.changes.added.items)

-- the books after one more call was taken
after : (c : After-len) → changed_books c.self.inside.books.now (record c.self.inside.changes {
  taken =
      c.self.inside.changes.taken + 1;
}) ≡ record (so_far c) { calls = drop 1 (so_far c).calls }
after c = ap (λ calls. record (so_far c) { calls = calls })
    (drop-next c.self.inside.changes.taken (c.self.inside.books.now.calls ++ c.self.inside.changes.added.items))

pub invariant_of-self : goal.invariant_of-self
invariant_of-self c =
    let h = c.self.invariant in
    let at = (goal.at.invariant_of-self c).After-len in
    let more = is_left at in
    record {
      before = h.before;
      known = record {
        ordered = h.known.ordered;
        accounts = h.known.accounts;
        positions = h.known.positions;
        prices = h.known.prices;
        taken = omega (arith, more);
      };
      counted = h.counted;
      after = subst AreInRange (sym (after at)) (taken-in_range (so_far at) h.after);
    }

pub returns-clause-after : goal.returns-clause-after
returns-clause-after c = after (goal.at.returns-clause-after c).After-len ∙ ap (λ d. record d.after { calls = drop 1 d.after.calls }) c.self.view_is
