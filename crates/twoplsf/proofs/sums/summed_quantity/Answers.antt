use Rattle.twoplsf.proofs.Common.{◌+◌, ℕ, Bool, not, refl, sym, ap, ◌∙◌, arith, sum_by, is_lt, entries, entries_sorted, position_cmp, up_to_all}
use Rattle.books_report.proofs.Common.{positions_total}
use Rattle.books_report.proofs.Walking.Walks.{fewer_left}
use Rattle.books_report.proofs.Walking.Walked.{positions_from, found_entry, found_nothing}
use Rattle.twoplsf.proofs.Summing.{summed_next, some_quantity}
use Rattle.twoplsf.proofs.sums.summed_quantity.Goals as goal

abbrev later : ℕ × ℕ → ℕ × ℕ → Bool
later k q = is_lt (position_cmp k q)

pub loop-account-init : goal.loop-account-init
loop-account-init c = rw (positions_from c.args.books.now c.requires) refl

pub overflow_add-sum : goal.overflow_add-sum
overflow_add-sum c =
    let m = c.args.books.now.positions in
    let e : (ℕ × ℕ) × ℕ = ((c.in-Some.account, c.in-Some.instrument), c.in-Some.quantity) in
    let next = summed_next positions_total later (λ _ _. refl) c.loop-account.last (entries m) e (entries_sorted m)
    (found_entry _ _ _ _ c.in-Some.ensures.first) in
    let few = some_quantity c.args.books.now (λ x. not (later e.0 x.0)) c.requires in
    omega arith

pub loop-account-preserved : goal.loop-account-preserved
loop-account-preserved c =
    let m = c.args.books.now.positions in
    let e : (ℕ × ℕ) × ℕ = ((c.in-Some.account, c.in-Some.instrument), c.in-Some.quantity) in
    let next = summed_next positions_total later (λ _ _. refl) c.loop-account.last (entries m) e (entries_sorted m)
    (found_entry _ _ _ _ c.in-Some.ensures.first) in
    ap (λ s. s + c.in-Some.quantity) c.loop-account.invariant ∙ sym next

pub loop-account-smaller : goal.loop-account-smaller
loop-account-smaller c =
    let m = c.args.books.now.positions in
    let e : (ℕ × ℕ) × ℕ = ((c.in-Some.account, c.in-Some.instrument), c.in-Some.quantity) in
    fewer_left positions_total later (λ _ _. refl) c.loop-account.last (entries m) e (entries_sorted m) (found_entry _ _ _ _ c.in-Some.ensures.first)

pub returns : goal.returns
returns c =
    let m = c.args.books.now.positions in
    let all = up_to_all positions_total later (λ _ _. refl) c.loop-account.last (entries m) (found_nothing _ c.in_default.ensures.first) in
    c.loop-account.invariant ∙ ap (λ es. sum_by (λ e. e.1) es) all
