use Rattle.txn_books.proofs.Common.{sym, subst, HasMap, TreeHolds, tree_part, ChainsHold, chain_part, Stands, AddsUp, AddsAccounts, AddsPrices, AddsPositions}
use Rattle.txn_books.proofs.Common.{AddsCalls, with_accounts, with_prices, with_positions}
use Rattle.txn_books.proofs.ReadOff.Stages.{has_tree, has_chains, first_stage, second_stage, third_stage, last_stage}
use Rattle.txn_books.proofs.read.read_books.Goals.{After-deref, After-deref-2, After-deref-3}
use Rattle.std.specs.FinMap as entry_map
use Rattle.txn_books.proofs.read.read_books.Goals as goal

pub tree_entries-requires : goal.tree_entries-requires
tree_entries-requires c = record {
  held =
      subst (λ z. HasMap (tree_part z) c.args.words.now) (sym c.tree.ensures) (has_tree c.requires.good.1);
}

pub chain_entries-requires : goal.chain_entries-requires
chain_entries-requires c = record {
  held =
      subst (λ z. HasMap (chain_part z) c.args.words.now) (sym c.chains.ensures)
      (has_chains c.requires.good.1);
}

-- the stages, of the books that the words stand for
first : (c : After-deref) → AddsAccounts c.deref.result.now c.new-books.result (with_accounts c.requires.good.0)
first c = first_stage c.requires.good.1 c.new-books.result c.deref.result.now c.new-books.ensures
    (λ entries used held. subst (λ xs. AddsUp entry_map.empty xs entries) (sym c.deref.ensures.value)
    (c.in_ok-accounts.ensures entries used (subst (λ z. TreeHolds z c.args.words.now entries used) (sym c.tree.ensures) held)))

second : (c : After-deref-2) → AddsPrices c.deref-2.result.now c.add_accounts.new.books (with_prices c.requires.good.0)
second c = second_stage c.requires.good.1 c.add_accounts.new.books c.deref-2.result.now
    (λ entries used held. subst (λ xs. AddsUp entry_map.empty xs entries) (sym c.deref-2.ensures.value)
    (c.in_ok-chained.ensures entries used (subst (λ z. ChainsHold z c.args.words.now entries used) (sym c.chains.ensures) held)))
    (c.in_ok-add_accounts.ensures (with_accounts c.requires.good.0) (first (goal.at.add_prices-requires c).After-deref))

third : (c : After-deref-3) → AddsPositions c.deref-3.result.now c.add_prices.new.books (with_positions c.requires.good.0)
third c = third_stage c.requires.good.1 c.add_prices.new.books c.deref-3.result.now
    (λ entries used held. subst (λ xs. AddsUp entry_map.empty xs entries) (sym c.deref-3.ensures.value)
    (c.in_ok-chained.ensures entries used (subst (λ z. ChainsHold z c.args.words.now entries used) (sym c.chains.ensures) held)))
    (c.in_ok-add_prices.ensures (with_prices c.requires.good.0) (second (goal.at.add_positions-requires c).After-deref-2))

pub add_accounts-requires : goal.add_accounts-requires
add_accounts-requires c = (with_accounts c.requires.good.0, first c)

pub add_prices-requires : goal.add_prices-requires
add_prices-requires c = (with_prices c.requires.good.0, second c)

pub add_positions-requires : goal.add_positions-requires
add_positions-requires c = (with_positions c.requires.good.0, third c)

pub add_calls-requires : goal.add_calls-requires
add_calls-requires c = (
  c.requires.good.0,
  subst (λ z. AddsCalls z c.args.words.now c.add_positions.new.books c.requires.good.0) (sym c.queue.ensures)
      (last_stage c.requires.good.1 c.add_positions.new.books
      (c.in_ok-add_positions.ensures (with_positions c.requires.good.0) (third (goal.at.add_calls-requires c).After-deref-3))),
)

pub returns : goal.returns
returns c =
    let calls = subst (λ z. AddsCalls z c.args.words.now c.add_positions.new.books c.requires.good.0) (sym c.queue.ensures)
    (last_stage c.requires.good.1 c.add_positions.new.books
    (c.in_ok-add_positions.ensures (with_positions c.requires.good.0) (third (goal.at.returns c).After-deref-3))) in
    record { found = subst (λ b. Stands c.args.shape.now c.args.words.now b) (sym (c.in_ok-add_calls.ensures c.requires.good.0 calls)) c.requires.good.1 }
