use Rattle.books_report.proofs.Common.{◌++◌, ℕ, Bool, refl, ap, ◌∙◌, append-nil, string_bytes, flat_map, is_lt, entries, entries_sorted, position_cmp}
use Rattle.books_report.proofs.Common.{positions_total, position_line}
use Rattle.books_report.proofs.Walking.Walks.{up_to, up_to-next, up_to_all, fewer_left, written_next}
use Rattle.books_report.proofs.Walking.Walked.{positions_from, found_entry, found_nothing}
use Rattle.books_report.proofs.books.write_positions.Goals as goal

abbrev later : ℕ × ℕ → ℕ × ℕ → Bool
later k q = is_lt (position_cmp k q)

pub loop-account-init : goal.loop-account-init
loop-account-init c = rw (positions_from c.args.books.now c.requires, append-nil) refl

pub loop-account-preserved : goal.loop-account-preserved
loop-account-preserved c =
    let m = c.args.books.now.positions in
    let e : (ℕ × ℕ) × ℕ = ((c.in-Some.account, c.in-Some.instrument), c.in-Some.quantity) in
    let more = up_to-next positions_total later (λ _ _. refl) c.loop-account.last (entries m) e (entries_sorted m)
    (found_entry _ _ _ _ c.in-Some.ensures.first) in
    written_next (string_bytes c.args.text.now) (string_bytes c.loop-account.text) (string_bytes c.write_position.new.text) position_line
    (up_to later c.loop-account.last (entries m)) (up_to later e.0 (entries m)) e c.loop-account.invariant c.in_ok-write_position.ensures more

pub loop-account-smaller : goal.loop-account-smaller
loop-account-smaller c =
    let m = c.args.books.now.positions in
    let e : (ℕ × ℕ) × ℕ = ((c.in-Some.account, c.in-Some.instrument), c.in-Some.quantity) in
    fewer_left positions_total later (λ _ _. refl) c.loop-account.last (entries m) e (entries_sorted m) (found_entry _ _ _ _ c.in-Some.ensures.first)

pub returns : goal.returns
returns c =
    let m = c.args.books.now.positions in
    let all = up_to_all positions_total later (λ _ _. refl) c.loop-account.last (entries m) (found_nothing _ c.in_default.ensures.first) in
    c.loop-account.invariant ∙ ap (λ es. string_bytes c.args.text.now ++ flat_map position_line es) all
