use Rattle.txn_commit.proofs.Common.{◌∙◌, number, HasClaim}
use Rattle.txn_commit.proofs.Releasing.{at_next, near_next, fewer_left, least_from_word, least_below, releases_more, claim_given_up, claims_without}
use Rattle.txn_commit.proofs.Releasing.{still_undone, still_begun}
use Rattle.txn_commit.proofs.release.release_claims.Goals as goal

pub unclaim-requires-clause-claim : goal.unclaim-requires-clause-claim
unclaim-requires-clause-claim g c = let inv = c.loop-next.invariant in (
  near_next c.loop-next.next c.in-Some.lock c.in-Some.is inv.near,
  at_next (HasClaim c.loop-next.pass.view) c.loop-next.next c.in-Some.lock c.in-Some.is inv.least,
)

pub loop-next-preserved : goal.loop-next-preserved
loop-next-preserved g c = let inv = c.loop-next.invariant in let old = c.loop-next.pass.view in let new = c.unclaim.new.pass.view in
    let step = claim_given_up old new (number old) c.in-Some.lock c.unclaim.ensures.step in record {
      table = c.unclaim.ensures.desk ∙ inv.table;
      released = releases_more c.args.pass.now.view old new inv.released step;
      undone = still_undone old new step inv.undone;
      begun = still_begun old new step inv.begun;
      near = c.next_claim_from-next.ensures.lock;
      least = least_from_word (HasClaim new) c.in-Some.lock c.next_claim_from-next.result
          (λ k lt h. least_below (HasClaim old) c.loop-next.next c.in-Some.lock c.in-Some.is inv.least k lt
          (claims_without old new (number old) c.in-Some.lock k c.unclaim.ensures.step h))
          c.next_claim_from-next.ensures.least;
    }

pub loop-next-smaller : goal.loop-next-smaller
loop-next-smaller g c = let inv = c.loop-next.invariant in let old = c.loop-next.pass.view in let new = c.unclaim.new.pass.view in
    fewer_left (HasClaim new) c.in-Some.lock c.loop-next.next c.next_claim_from-next.result c.in-Some.is
    (near_next c.loop-next.next c.in-Some.lock c.in-Some.is inv.near) c.unclaim.ensures.gone
    (λ k lt h. least_below (HasClaim old) c.loop-next.next c.in-Some.lock c.in-Some.is inv.least k lt
    (claims_without old new (number old) c.in-Some.lock k c.unclaim.ensures.step h))
    c.next_claim_from-next.ensures.least c.next_claim_from-next.ensures.lock
