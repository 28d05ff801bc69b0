use Rattle.txn_tree_map.proofs.Common.{◌≡◌, ℕ, ◌⊎◌, inl, inr, refl, ap, arith, rules, goes_call, goes_then, goes_as, only_read, only_write, only_then}
use Rattle.txn_tree_map.proofs.Common.{sees_read, sees_write, sees_then, each_now}
use Rattle.txn_tree_map.proofs.Inserts.SplitCalls.{are_within, hangs_leads}
use Rattle.txn_tree_map.proofs.hang.hang.Goals as goal

pub read-requires-clause-within : goal.read-requires-clause-within
read-requires-clause-within g c =
    (are_within _ _ _ (g.met.W.Words.fits c.args.w.now c.requires.ready.sound)
    (each_now c.requires.within)).1

pub write-requires-clause-within : goal.write-requires-clause-within
write-requires-clause-within g c =
    let within = are_within _ _ _ (g.met.W.Words.fits c.args.w.now c.requires.ready.sound)
    (each_now c.requires.within) in
    omega (arith, within.0, ap g.W.Shape.Shape.word_count c.in_ok-rest.ensures.shape)

pub returns-clause-hung : goal.returns-clause-hung
returns-clause-hung g c = record {
  at =
      (hangs_leads _ _ _ _ _ c.args.hole c.args.name c.args.inner c.in_ok-rest.rest c.in_ok-rest.ensures.value c.in_ok-write.ensures.value).at;
}

pub returns-clause-frame : goal.returns-clause-frame
returns-clause-frame g c =
    let own : ℕ → Type 0 = λ a. a ≡ c.args.hole in
    record { appended = only_then own _ _ _ (only_read own _ _ _ _ c.in_ok-rest.ensures.value) (only_write own _ _ _ _ c.in_ok-write.ensures.value refl) }

pub returns-clause-reads : goal.returns-clause-reads
returns-clause-reads g c =
    let seen : ℕ → Type 0 = λ a. (a ≡ c.args.hole) ⊎ (a ≡ c.args.inner) in
    sees_then seen _ _ _ (sees_read seen _ _ _ _ c.in_ok-rest.ensures.value (inr refl)) (sees_write seen _ _ _ _ c.in_ok-write.ensures.value (inl refl))

pub returns-in_err-rest-clause-goes_on : goal.returns-in_err-rest-clause-goes_on
returns-in_err-rest-clause-goes_on g c = goes_as (goes_call c.in_err-rest.ensures) (search rules)

pub returns-in_err-write-clause-goes_on : goal.returns-in_err-write-clause-goes_on
returns-in_err-write-clause-goes_on g c = goes_as (goes_then (goes_call c.in_ok-rest.ensures) (goes_call c.in_err-write.ensures)) (search rules)
