use Rattle.txn_books.proofs.Common.{◌+◌, subst, arith, nat_cmp, tree_of, nothing_yet, IsBuilt, above}
use Rattle.txn_tree_map.proofs.Inserts.SpineSteps.{spine_above}
use Rattle.txn_books.proofs.OneState.States.{tree_apart}
use Rattle.txn_books.proofs.ReadOff.Growing.{number_next, one_less, accounts_first, account_step, number_done}
use Rattle.std.specs.FinMap as entry_map
use Rattle.txn_books.proofs.building.add_accounts.Goals as goal

pub empty_spine-spine-requires : goal.empty_spine-spine-requires
empty_spine-spine-requires c =
    let stand = c.requires.nothing.stands in
    rw (c.tree.ensures, c.deref.ensures.value)
    (stand.parts.tree_used, (tree_apart c.args.shape.now c.args.words.items (nothing_yet c.args.books.now) stand).map)

pub loop-account-init : goal.loop-account-init
loop-account-init c = record {
  done = entry_map.empty;
  built = c.requires.nothing;
  spine = rw (c.tree.ensures, c.deref.ensures.value) at c.empty_spine-spine.ensures 1;
  left = accounts_first c.ranges-2.ensures;
}

pub add_account-requires-clause-books : goal.add_account-requires-clause-books
add_account-requires-clause-books c =
    let was = c.loop-account.invariant in
    let k = account_step c.ranges-2.ensures was.done c.loop-account.last was.left (
      c.in-Some.account,
      c.in-Some.cash,
    ) c.in-Some.ensures.first in
    (record (nothing_yet c.args.books.now) { accounts = was.done }, was.built, k.absent, k.room)

pub add_account-requires-clause-spine : goal.add_account-requires-clause-spine
add_account-requires-clause-spine c =
    spine_above (tree_of c.args.shape.now) (c.loop-account.last + 1) c.in-Some.account c.loop-account.words.items c.loop-account.spine
    (omega (arith, c.in-Some.ensures.least.0)) c.loop-account.invariant.spine

pub loop-account-smaller : goal.loop-account-smaller
loop-account-smaller c =
    one_less (c.in-Some.account, c.in-Some.cash)
    (above nat_cmp c.loop-account.last (entry_map.entries c.args.books.now.accounts))
    (above nat_cmp c.in-Some.account (entry_map.entries c.args.books.now.accounts))
    (number_next c.loop-account.last (c.in-Some.account, c.in-Some.cash) c.args.books.now.accounts c.in-Some.ensures.first)

pub loop-account-preserved : goal.loop-account-preserved
loop-account-preserved c =
    let was = c.loop-account.invariant in
    let k = account_step c.ranges-2.ensures was.done c.loop-account.last was.left (
      c.in-Some.account,
      c.in-Some.cash,
    ) c.in-Some.ensures.first in
    record {
      done = entry_map.insert was.done c.in-Some.account c.in-Some.cash;
      built = c.in_ok-words.ensures.built (record (nothing_yet c.args.books.now) { accounts = was.done }) was.built;
      spine = c.in_ok-words.ensures.spine;
      left = k.rest.adds;
    }

pub returns : goal.returns
returns c =
    let was = c.loop-account.invariant in
    subst (λ m. IsBuilt c.args.shape.now c.loop-account.words.items (record (nothing_yet c.args.books.now) { accounts = m }))
    (number_done c.args.books.now.accounts was.done c.loop-account.last was.left c.in_default.ensures.first) was.built
