use Rattle.books_model.proofs.Common.{◌≡◌, ◌<◌, Some, IsSome, sym, ap, subst, ◌∙◌, ClearingBooks, used, AreInRange, changed_books, set_price}
use Rattle.books_model.proofs.Drafts.{used_price, price_is_used, counted}
use Rattle.books_model.proofs.draft.Draft.change_price.Goals.{In_ok-note_change}
use Rattle.std.specs.FinMap as map
use Rattle.books_model.proofs.draft.Draft.change_price.Goals as goal

-- the books after the changes so far
abbrev so_far : In_ok-note_change → ClearingBooks
so_far c = changed_books c.self.inside.books.now c.self.inside.changes

-- what was there in them
was_there : (c : In_ok-note_change) → c.args.was ≡ map.get (so_far c).prices c.args.instrument
was_there c = sym c.requires.was ∙ ap (λ d. map.get d.after.prices c.args.instrument) (sym c.self.view_is)

-- the books after one more change
after : (c : In_ok-note_change)
    → changed_books c.self.inside.books.now (record c.self.inside.changes { prices = c.note_change.new.changes })
    ≡ set_price (so_far c) c.args.instrument (Some c.args.price)
after c = ap (λ m. record (so_far c) { prices = m }) (c.in_ok-note_change.ensures.ok c.self.inside.books.now.prices)

pub count_after-self-inside-requires-clause-least : goal.count_after-self-inside-requires-clause-least
count_after-self-inside-requires-clause-least c =
    λ there. subst (λ n. 0 < n) (sym c.self.invariant.counted) (price_is_used (so_far c) c.args.instrument (subst IsSome (was_there c) there))

pub invariant_of-self-2 : goal.invariant_of-self-2
invariant_of-self-2 c =
    let here = (goal.at.invariant_of-self-2 c).In_ok-note_change in
    let books = c.self.inside.books.now in
    let known = c.in_ok-note_change.ensures.known books.prices
    (sym (was_there here)) c.self.invariant.known.prices in
    record {
      before = c.self.invariant.before;
      known = record {
        ordered = c.self.invariant.known.ordered;
        accounts = c.self.invariant.known.accounts;
        positions = c.self.invariant.known.positions;
        prices = known;
        taken = c.self.invariant.known.taken;
      };
      counted = counted c.count_after-self-inside.result c.self.inside.used _
          (used (so_far here)) c.args.was _ (Some c.args.price)
          (was_there here) c.self.invariant.counted
          c.count_after-self-inside.ensures (used_price (so_far here)
          c.args.instrument (Some c.args.price)) ∙ ap used (sym (after here));
      after = subst AreInRange (sym (after here
          ∙ ap (λ d. set_price d.after c.args.instrument (Some c.args.price)) c.self.view_is)) c.requires.range;
    }

pub returns-clause-ok : goal.returns-clause-ok
returns-clause-ok c = after (goal.at.returns-clause-ok c).In_ok-note_change
    ∙ ap (λ d. set_price d.after c.args.instrument (Some c.args.price)) c.self.view_is
