use Rattle.transfers.proofs.Common.{◌+◌, true, false, subst, ⊤, Leads, AddsWhereFits}
use Rattle.txn.proofs.Common.{leads_fresh, leads_leads}
use Rattle.transfers.proofs.Fitting.{neither_fits, other_fits, pair_fits}
use Rattle.transfers.proofs.pair_or.AddPairOrJob.run.Goals as goal

pub returns-then-branch-clause-meaning : goal.returns-then-branch-clause-meaning
returns-then-branch-clause-meaning g c s fit =
    let job = c.args.self.now in let words = g.W.Words in
    let told : Leads 1 (λ _. ⊤) (words.trace c.args.w.now) (words.trace c.add_pair.new.w)
    (AddsWhereFits (job.first + job.second) c.in_ok-add_pair.field-0) = record { at = c.in_ok-add_pair.ensures.added.at } in
    let pair = subst (λ b. Leads 1 (λ _. ⊤) (words.trace c.args.w.now) (words.trace c.add_pair.new.w)
    (AddsWhereFits (job.first + job.second) b)) c.if-branch.true told in
    pair_fits (job.first + job.second) job.other s _ (leads_fresh 1 (λ _. ⊤) (words.trace c.args.w.now)
    (words.trace c.add_pair.new.w) (AddsWhereFits (job.first + job.second) true) c.requires.fresh pair s fit)

pub returns-then-branch-2-clause-meaning : goal.returns-then-branch-2-clause-meaning
returns-then-branch-2-clause-meaning g c s fit =
    let job = c.args.self.now in let words = g.W.Words in
    let first = words.trace c.args.w.now in let mid = words.trace c.add_pair.new.w in let last = words.trace c.add_fitting.new.w in
    let told : Leads 1 (λ _. ⊤) first mid (AddsWhereFits (job.first + job.second) c.in_ok-add_pair.field-0) =
    record { at = c.in_ok-add_pair.ensures.added.at } in
    let pair = subst (λ b. Leads 1 (λ _. ⊤) first mid (AddsWhereFits (job.first + job.second) b)) c.if-branch.false told in
    let answered : Leads 1 (λ _. ⊤) mid last (AddsWhereFits job.other c.in_ok-add_fitting.field-0) = record { at = c.in_ok-add_fitting.ensures.added.at } in
    let other = subst (λ b. Leads 1 (λ _. ⊤) mid last (AddsWhereFits job.other b)) c.if-branch-2.true answered in
    let both = leads_leads 1 (λ _. ⊤) first mid last (AddsWhereFits (job.first + job.second) false)
    (AddsWhereFits job.other true) c.in_ok-add_fitting.ensures.goes_on.begins pair other in
    let k = leads_fresh 1 (λ _. ⊤) first last _ c.requires.fresh both s fit in
    other_fits (job.first + job.second) job.other s k.0 _ k.1 k.2

pub returns-clause-meaning : goal.returns-clause-meaning
returns-clause-meaning g c s fit =
    let job = c.args.self.now in let words = g.W.Words in
    let first = words.trace c.args.w.now in let mid = words.trace c.add_pair.new.w in let last = words.trace c.add_fitting.new.w in
    let told : Leads 1 (λ _. ⊤) first mid (AddsWhereFits (job.first + job.second) c.in_ok-add_pair.field-0) =
    record { at = c.in_ok-add_pair.ensures.added.at } in
    let pair = subst (λ b. Leads 1 (λ _. ⊤) first mid (AddsWhereFits (job.first + job.second) b)) c.if-branch.false told in
    let answered : Leads 1 (λ _. ⊤) mid last (AddsWhereFits job.other c.in_ok-add_fitting.field-0) = record { at = c.in_ok-add_fitting.ensures.added.at } in
    let other = subst (λ b. Leads 1 (λ _. ⊤) mid last (AddsWhereFits job.other b)) c.if-branch-2.false answered in
    let both = leads_leads 1 (λ _. ⊤) first mid last (AddsWhereFits (job.first + job.second) false)
    (AddsWhereFits job.other false) c.in_ok-add_fitting.ensures.goes_on.begins pair other in
    let k = leads_fresh 1 (λ _. ⊤) first last _ c.requires.fresh both s fit in
    neither_fits (job.first + job.second) job.other s k.0 _ k.1 k.2
