use Rattle.txn_commit.proofs.Common.{subst, View, HasClaim}
use Rattle.txn_commit.proofs.Releasing.{bits_given_up, releases_more, still_begun, still_undone}
use Rattle.txn_commit.proofs.release.release_all.Goals as goal

pub unshare_all-requires-clause-undone : goal.unshare_all-requires-clause-undone
unshare_all-requires-clause-undone g c = still_undone c.args.pass.now.view c.release_claims.new.pass.view c.release_claims.ensures.released c.requires.undone

pub unshare_all-requires-clause-begun : goal.unshare_all-requires-clause-begun
unshare_all-requires-clause-begun g c = still_begun c.args.pass.now.view c.release_claims.new.pass.view c.release_claims.ensures.released c.requires.begun

pub returns-clause-released : goal.returns-clause-released
returns-clause-released g c = let mid : View = c.release_claims.new.pass.view in let new : View = c.unshare_all.new.pass.view in
    releases_more c.args.pass.now.view mid new c.release_claims.ensures.released
    (bits_given_up mid new c.unshare_all.ensures.rest c.unshare_all.ensures.phase)

pub returns-clause-nothing : goal.returns-clause-nothing
returns-clause-nothing g c = record {
  no_bit = c.unshare_all.ensures.gone;
  no_claim = λ k claim. c.release_claims.ensures.no_claim k (subst (λ (v : View). HasClaim v k) c.unshare_all.ensures.rest claim);
}
