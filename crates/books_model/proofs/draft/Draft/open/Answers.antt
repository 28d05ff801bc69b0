use Rattle.books_model.proofs.Common.{◌≡◌, None, sym, ◌∙◌, arith}
use Rattle.books_model.proofs.InRange.{put_cash-in_range, used_after_insert}
use Rattle.books_model.proofs.Drafts.{room_left}
use Rattle.books_model.proofs.Maps.Comparing.{none_of}
use Rattle.std.specs.FinMap as map
use Rattle.books_model.proofs.draft.Draft.open.Goals as goal

pub change_account-requires-clause-range : goal.change_account-requires-clause-range
change_account-requires-clause-range c =
    let books = c.args.self.now.after in
    let absent : map.get books.accounts c.args.account ≡ None = sym c.cash.ensures.value ∙ none_of c.cash.result (sym c.is_some.ensures ∙ c.if-is_some.false) in
    let more = room_left books c.is_full.ensures.range (sym c.if-is_full.ensures.value) in
    put_cash-in_range books c.args.account 0 c.is_full.ensures.range c.requires (omega arith) (omega (arith, used_after_insert books c.args.account 0 absent))
