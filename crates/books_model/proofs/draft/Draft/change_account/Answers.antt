use Rattle.books_model.proofs.Common.{◌≡◌, ◌<◌, IsSome, sym, ap, subst, ◌∙◌, ClearingBooks, used, AreInRange, changed_books, set_account}
use Rattle.books_model.proofs.Drafts.{used_account, account_is_used, counted}
use Rattle.books_model.proofs.draft.Draft.change_account.Goals.{In_ok-note_change}
use Rattle.std.specs.FinMap as map
use Rattle.books_model.proofs.draft.Draft.change_account.Goals as goal

-- the books after the changes so far
abbrev so_far : In_ok-note_change → ClearingBooks
so_far c = changed_books c.self.inside.books.now c.self.inside.changes

-- what was there in them
was_there : (c : In_ok-note_change) → c.args.was ≡ map.get (so_far c).accounts c.args.account
was_there c = sym c.requires.was ∙ ap (λ d. map.get d.after.accounts c.args.account) (sym c.self.view_is)

-- the books after one more change
after : (c : In_ok-note_change)
    → changed_books c.self.inside.books.now (record c.self.inside.changes { accounts = c.note_change.new.changes })
    ≡ set_account (so_far c) c.args.account c.args.now
after c = ap (λ m. record (so_far c) { accounts = m }) (c.in_ok-note_change.ensures.ok c.self.inside.books.now.accounts)

pub count_after-self-inside-requires-clause-least : goal.count_after-self-inside-requires-clause-least
count_after-self-inside-requires-clause-least c =
    λ there. subst (λ n. 0 < n) (sym c.self.invariant.counted) (account_is_used (so_far c) c.args.account (subst IsSome (was_there c) there))

pub invariant_of-self-2 : goal.invariant_of-self-2
invariant_of-self-2 c =
    let here = (goal.at.invariant_of-self-2 c).In_ok-note_change in
    let books = c.self.inside.books.now in
    let known = c.in_ok-note_change.ensures.known books.accounts
    (sym (was_there here)) c.self.invariant.known.accounts in
    record {
      before = c.self.invariant.before;
      known = record {
        ordered = c.note_change.ensures.ordered;
        accounts = known;
        positions = c.self.invariant.known.positions;
        prices = c.self.invariant.known.prices;
        taken = c.self.invariant.known.taken;
      };
      counted = counted c.count_after-self-inside.result c.self.inside.used _
          (used (so_far here)) c.args.was _ c.args.now
          (was_there here) c.self.invariant.counted
          c.count_after-self-inside.ensures (used_account (so_far here)
          c.args.account c.args.now) ∙ ap used (sym (after here));
      after = subst AreInRange (sym (after here
          ∙ ap (λ d. set_account d.after c.args.account c.args.now) c.self.view_is)) c.requires.range;
    }

pub returns-clause-ok : goal.returns-clause-ok
returns-clause-ok c = after (goal.at.returns-clause-ok c).In_ok-note_change
    ∙ ap (λ d. set_account d.after c.args.account c.args.now) c.self.view_is
