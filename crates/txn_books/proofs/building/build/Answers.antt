use Rattle.txn_books.proofs.building.build.Goals as goal

pub sort_free-requires : goal.sort_free-requires
sort_free-requires c = (c.args.books.now, c.in_ok-words-5.ensures)
