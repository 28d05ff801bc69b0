use Rattle.books_model.proofs.Common.{◌≡◌, ℕ, List, ◌++◌, drop, sym, ap, subst, ◌∙◌, nat_cmp_total, nat_cmp, exact_unsigned, ClearingBooks, position_cmp}
use Rattle.books_model.proofs.Common.{AreInRange, changed, changed_books, the_view}
use Rattle.books_model.specs.Inner.Changes.{AreChangesOf}
use Rattle.books_model.proofs.Maps.Trees.{positions_total, exact_positions}
use Rattle.books_model.proofs.Maps.Changes.{changed-roomier}
use Rattle.books_model.proofs.books.Books.put_in.Goals.{After-make_all_room, After-take_back-in-Err-2, After-drop_front}
use Rattle.std.specs.FinMap as map
use Rattle.books_model.proofs.books.Books.put_in.Goals as goal

-- books with other maps and another queue
abbrev with_parts : ClearingBooks → map.FinMap nat_cmp ℕ → map.FinMap position_cmp ℕ → map.FinMap nat_cmp ℕ → List (ℕ × ℕ) → ClearingBooks
with_parts books accounts positions prices calls = record books { accounts = accounts; positions = positions; prices = prices; calls = calls }

-- equal parts make equal books
same_parts : (books : ClearingBooks) (a a' : map.FinMap nat_cmp ℕ) (p p' : map.FinMap position_cmp ℕ) (r r' : map.FinMap nat_cmp ℕ) (c c' : List (ℕ × ℕ))
    → a ≡ a' → p ≡ p' → r ≡ r' → c ≡ c' → with_parts books a p r c ≡ with_parts books a' p' r' c'
same_parts books a a' p p' r r' c c' e f g h = λ i. with_parts books (e i) (f i) (g i) (h i)

-- the changes are of the books as their fields show them
known : (c : After-make_all_room) → AreChangesOf (the_view c.self.inside) c.args.changes.now
known c = subst (λ b. AreChangesOf b c.args.changes.now) (sym c.self.view_is) c.requires.changes

-- out of memory, all is as before
back : (c : After-take_back-in-Err-2)
    → the_view (record c.self.inside {
      accounts = c.take_back.new.values;
      positions = c.take_back-in-Err.new.values;
      prices = c.take_back-in-Err-2.new.values;
      calls = c.reserve.new.self;
    }) ≡ the_view c.self.inside
back c =
    let books = the_view c.self.inside in
    let h = known (goal.at.returns-in-Err-clause-err c).After-make_all_room in
    same_parts books _ books.accounts _ books.positions _ books.prices _ books.calls
    (c.take_back.ensures books.accounts h.accounts c.make_all_room.ensures.accounts)
    (c.take_back-in-Err.ensures books.positions h.positions c.make_all_room.ensures.positions)
    (c.take_back-in-Err-2.ensures books.prices h.prices c.make_all_room.ensures.prices)
    c.reserve.ensures.items

-- and else the changes are put in
put_in : (c : After-drop_front)
    → the_view (record c.self.inside {
      accounts = c.apply_changes.new.values;
      positions = c.apply_changes-2.new.values;
      prices =
          c.apply_changes-3.new.values;
      calls = c.drop_front.new.queue;
    }) ≡ changed_books (the_view c.self.inside) c.args.changes.now
put_in c =
    let books = the_view c.self.inside in
    let changes = c.args.changes.now in
    same_parts books _ (changed books.accounts changes.accounts.entries) _
    (changed books.positions changes.positions.entries) _ (changed books.prices changes.prices.entries) _
    (drop changes.taken (books.calls ++ changes.added.items))
    (c.apply_changes.ensures ∙ changed-roomier nat_cmp_total exact_unsigned books.accounts _ changes.accounts.entries c.make_all_room.ensures.accounts)
    (c.apply_changes-2.ensures ∙ changed-roomier positions_total exact_positions books.positions _ changes.positions.entries c.make_all_room.ensures.positions)
    (c.apply_changes-3.ensures ∙ changed-roomier nat_cmp_total exact_unsigned books.prices _ changes.prices.entries c.make_all_room.ensures.prices)
    (c.drop_front.ensures ∙ ap (drop changes.taken) (c.append_all.ensures
    ∙ ap (λ queue. queue ++ c.deref.result.now) c.reserve.ensures.items ∙ ap (λ added. books.calls ++ added) c.deref.ensures.value))

pub invariant_of-self-in-Err : goal.invariant_of-self-in-Err
invariant_of-self-in-Err c = subst AreInRange (sym (back c)) c.self.invariant

pub returns-in-Err-clause-err : goal.returns-in-Err-clause-err
returns-in-Err-clause-err c = back c ∙ c.self.view_is

pub invariant_of-self-2 : goal.invariant_of-self-2
invariant_of-self-2 c =
    subst AreInRange (sym (put_in c ∙ ap (λ b. changed_books b c.args.changes.now) c.self.view_is)) c.requires.range

pub returns-clause-ok : goal.returns-clause-ok
returns-clause-ok c = put_in c ∙ ap (λ b. changed_books b c.args.changes.now) c.self.view_is
