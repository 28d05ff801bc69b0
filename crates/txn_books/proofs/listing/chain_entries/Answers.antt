use Rattle.txn_books.proofs.Common.{ℕ, ◌+◌, sym, subst, arith}
use Rattle.txn_books.proofs.ReadOff.Walked.{Gathers, gathers_none, gathers_more, gathers_all, bucket_chain}
use Rattle.txn_books.proofs.listing.chain_entries.Goals as goal

pub loop-bucket-init : goal.loop-bucket-init
loop-bucket-init c entries used held = subst (λ xs. Gathers 0 entries xs) (sym c.new-listed.ensures.items) (gathers_none entries)

pub loop-bucket-preserved : goal.loop-bucket-preserved
loop-bucket-preserved c entries used held =
    let n : ℕ = c.loop-bucket.bucket in
    let listed = c.in_ok-list_chain.ensures (held.cells n) (held.chain n c.loop-bucket-test.true) in
    subst (λ xs. Gathers (n + 1) entries xs) (sym listed)
    (gathers_more held n c.loop-bucket.listed.items
    c.loop-bucket-test.true (c.loop-bucket.invariant entries used held))

pub list_chain-requires-clause-chain : goal.list_chain-requires-clause-chain
list_chain-requires-clause-chain c = let held = c.requires.held in
    bucket_chain held.holds c.loop-bucket.bucket c.loop-bucket-test.true

pub returns : goal.returns
returns c entries used held =
    gathers_all held c.loop-bucket.bucket c.loop-bucket.listed.items
    (omega arith) (c.loop-bucket.invariant entries used held)
