use Rattle.txn_books.proofs.Common.{Entries, Blocks, ChainsHold}
use Rattle.txn_books.proofs.ReadOff.Walked.{Gathers}
use Rattle.txn_books.proofs.listing.chain_entries.Given as goal

abbrev pub invariant-loop-bucket : goal.invariant-loop-bucket
invariant-loop-bucket l = (entries : Entries) (used : Blocks) → ChainsHold l.chains l.words entries used → Gathers l.bucket entries l.listed.items
