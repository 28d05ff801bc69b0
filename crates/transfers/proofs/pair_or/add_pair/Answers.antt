use Rattle.transfers.proofs.Common.{ℕ, true, false, ◌∙◌, subst, Trace, AddsWhereFits}
use Rattle.txn.proofs.Common.{Begins, begins_trans, fits_begins, LeadsTo, TakesBack, leads_marked, leads_then, marked_stays, same_as_at_mark}
use Rattle.transfers.proofs.Fitting.{both_fit, first_not, second_not}
use Rattle.transfers.proofs.pair_or.add_pair.Goals as goal

pub returns-then-not-branch-clause-added : goal.returns-then-not-branch-clause-added
returns-then-not-branch-clause-added g c =
    let words = g.W.Words in let shapes = g.W.Shape.Shape in
    let mark = c.mark-before in
    let leads : LeadsTo words shapes mark.new.self c.add_fitting.new.w (AddsWhereFits c.args.first false) =
    subst (λ b. LeadsTo words shapes mark.new.self c.add_fitting.new.w (AddsWhereFits c.args.first b)) c.if-not-branch.true c.in_ok-add_fitting.ensures.added in
    let whole = leads_marked words shapes c.args.w.now mark.new.self c.add_fitting.new.w
    (AddsWhereFits c.args.first false) mark.ensures.shape mark.ensures.trace leads in
    record { at = λ s fit. first_not c.args.first c.args.second _ _ (whole.at s fit) }

pub returns-then-branch-clause-added : goal.returns-then-branch-clause-added
returns-then-branch-clause-added g c =
    let words = g.W.Words in let shapes = g.W.Shape.Shape in
    let mark = c.mark-before in let mid = c.add_fitting.new.w in let last = c.add_fitting-2.new.w in
    let leads : LeadsTo words shapes mark.new.self mid (AddsWhereFits c.args.first true) =
    subst (λ b. LeadsTo words shapes mark.new.self mid (AddsWhereFits c.args.first b)) c.if-not-branch.false c.in_ok-add_fitting.ensures.added in
    let first = leads_marked words shapes c.args.w.now mark.new.self mid (AddsWhereFits c.args.first true) mark.ensures.shape mark.ensures.trace leads in
    let second : LeadsTo words shapes mid last (AddsWhereFits c.args.second true) =
    subst (λ b. LeadsTo words shapes mid last (AddsWhereFits c.args.second b)) c.if-branch.true c.in_ok-add_fitting-2.ensures.added in
    let both = leads_then words shapes c.args.w.now mid last (AddsWhereFits c.args.first true) (AddsWhereFits c.args.second true)
    (c.in_ok-add_fitting.ensures.goes_on.shape ∙ mark.ensures.shape) c.in_ok-add_fitting-2.ensures.goes_on.begins first second in
    record { at = λ s fit. let k = both.at s fit in both_fit c.args.first c.args.second _ k.0 _ k.1 k.2 }

pub back_to-requires-clause-mark : goal.back_to-requires-clause-mark
back_to-requires-clause-mark g c =
    let words = g.W.Words in let mark = c.mark-before in
    marked_stays (words.trace c.args.w.now) (words.trace mark.new.self) (words.trace c.add_fitting-2.new.w)
    mark.result.writes mark.ensures.writes mark.ensures.trace
    (begins_trans (words.trace mark.new.self) (words.trace c.add_fitting.new.w) (words.trace c.add_fitting-2.new.w)
    c.in_ok-add_fitting.ensures.goes_on.begins c.in_ok-add_fitting-2.ensures.goes_on.begins)

pub returns-clause-added : goal.returns-clause-added
returns-clause-added g c =
    let words = g.W.Words in let shapes = g.W.Shape.Shape in
    let mark = c.mark-before in let mid = c.add_fitting.new.w in let old = c.add_fitting-2.new.w in let new = c.back_to.new.self in
    let leads : LeadsTo words shapes mark.new.self mid (AddsWhereFits c.args.first true) =
    subst (λ b. LeadsTo words shapes mark.new.self mid (AddsWhereFits c.args.first b)) c.if-not-branch.false c.in_ok-add_fitting.ensures.added in
    let first = leads_marked words shapes c.args.w.now mark.new.self mid (AddsWhereFits c.args.first true) mark.ensures.shape mark.ensures.trace leads in
    let second : LeadsTo words shapes mid old (AddsWhereFits c.args.second false) =
    subst (λ b. LeadsTo words shapes mid old (AddsWhereFits c.args.second b)) c.if-branch.false c.in_ok-add_fitting-2.ensures.added in
    let both = leads_then words shapes c.args.w.now mid old (AddsWhereFits c.args.first true) (AddsWhereFits c.args.second false)
    (c.in_ok-add_fitting.ensures.goes_on.shape ∙ mark.ensures.shape) c.in_ok-add_fitting-2.ensures.goes_on.begins first second in
    let front : Begins (words.trace c.args.w.now) (words.trace old) = subst (λ (t : Trace). Begins t (words.trace old)) mark.ensures.trace
    (begins_trans (words.trace mark.new.self) (words.trace mid) (words.trace old)
    c.in_ok-add_fitting.ensures.goes_on.begins c.in_ok-add_fitting-2.ensures.goes_on.begins) in
    let same = same_as_at_mark words shapes c.args.w.now old new
    (c.in_ok-add_fitting-2.ensures.goes_on.shape ∙ (c.in_ok-add_fitting.ensures.goes_on.shape ∙ mark.ensures.shape)) front c.in_ok-back_to.ensures.begins
    (subst (λ (m : ℕ). TakesBack (shapes.word_count (words.shape old)) (shapes.good (words.shape old)) m
    (words.trace old) (words.trace new)) mark.ensures.writes c.in_ok-back_to.ensures.back) in
    record {
      at = λ s fit.
          let k = both.at s (fits_begins _ _ (words.trace old) (words.trace new) s c.in_ok-back_to.ensures.begins fit) in
          second_not c.args.first c.args.second _ k.0 _ _ k.1 k.2 (same.at s fit);
    }
