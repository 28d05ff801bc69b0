use Rattle.books_model.proofs.Common.{◌≡◌, ◌≤◌, ap, subst, sym, ◌∙◌, arith, nat_cmp_total, exact_unsigned, put_cash, used, AreInRange, the_view}
use Rattle.books_model.proofs.Maps.Trees.{from_entries-inserted}
use Rattle.books_model.proofs.InRange.{put_cash-in_range, used_after_insert}
use Rattle.books_model.proofs.books.Books.add_account.Goals.{In_ok-insert}
use Rattle.books_model.proofs.books.Books.add_account.Goals as goal

-- the fields after the insertion show the books with the account
view_after : (c : In_ok-insert) → the_view (record c.self.inside { accounts = c.insert.new.self }) ≡ put_cash c.args.self.now c.args.account c.args.cash
view_after c =
    ap (λ accounts. record (the_view c.self.inside) { accounts = accounts })
    (from_entries-inserted nat_cmp_total exact_unsigned c.self.inside.accounts.entries c.insert.new.self.entries
    c.args.account c.args.cash c.in_ok-insert.ensures.updates.0)
    ∙ ap (λ books. put_cash books c.args.account c.args.cash) c.self.view_is

pub invariant_of-self-2 : goal.invariant_of-self-2
invariant_of-self-2 c =
    let in_range : AreInRange c.args.self.now = subst AreInRange c.self.view_is c.self.invariant in
    let room : used (put_cash c.args.self.now c.args.account c.args.cash) ≤ c.args.self.now.blocks =
    omega (arith, used_after_insert c.args.self.now c.args.account c.args.cash c.requires.absent, c.requires.room) in
    subst AreInRange (sym (view_after c)) (put_cash-in_range c.args.self.now c.args.account c.args.cash in_range c.requires.account c.requires.cash room)

pub returns-clause-ok : goal.returns-clause-ok
returns-clause-ok c = view_after c
