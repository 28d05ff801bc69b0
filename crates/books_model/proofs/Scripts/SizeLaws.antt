-- No script changes the sizes of books, and each operation keeps the order of the queue.
use Rattle.books_model.proofs.Common.{◌≡◌, ℕ, ◌+◌, cond, not, ◌&&◌, ◌==◌, nat_lt, List, [], ◌∷◌, ◌++◌, length, refl, ap, ◌∙◌, append-nil, GREATEST_CASH, Op}
use Rattle.books_model.proofs.Common.{Part, operations_in, Value, ClearingBooks, HaveSameSizes, cash_of, holds_any, is_account, is_full, margin_of, next_of}
use Rattle.books_model.proofs.Common.{shortfall_of, run_from, step_of, run_part, run_parts, queued_by, taken_by}
use Rattle.books_model.proofs.Scripts.CashLaws.{traded}
use Rattle.books_model.proofs.Scripts.Outcomes.{WhereDone, WhereEnds, choice, gives, declines, finds_no_block, step_first, run_first, either_holds, weaker}
use Rattle.std.specs.FinMap as map
use Rattle.books_model.specs.declared.script.Op.TheVariants as op
use Rattle.books_model.specs.declared.script.Part.TheVariants as part

-- the sizes are those of the books before, and what was queued and what an operation queues is what it takes and what
-- is queued after it
abbrev pub Keeps : Op → ClearingBooks → Value → ClearingBooks → Type 0
Keeps o books v after = HaveSameSizes books after × (books.calls ++ queued_by o v ≡ taken_by v ++ after.calls)

-- books have the sizes that they have
pub same_sizes : (books : ClearingBooks) → HaveSameSizes books books
same_sizes books = record { blocks = refl; instruments = refl; ring = refl }

-- the sizes of books that have those of others, which have those of the first
pub sizes-trans : (a b c : ClearingBooks) → HaveSameSizes a b → HaveSameSizes b c → HaveSameSizes a c
sizes-trans a b c h k = record { blocks = k.blocks ∙ h.blocks; instruments = k.instruments ∙ h.instruments; ring = k.ring ∙ h.ring }

-- the front of the queue is taken, or there is none
next_keeps : (books : ClearingBooks) (calls : List (ℕ × ℕ)) → books.calls ≡ calls → WhereDone (Keeps op.Next books) (next_of books calls)
next_keeps books [] is = gives _ _ _ (same_sizes books, append-nil books.calls)
next_keeps books (call ∷ calls) is = gives _ _ _ (record { blocks = refl; instruments = refl; ring = refl }, append-nil books.calls ∙ is)

-- a shortfall joins the back
margin_keeps : (books : ClearingBooks) (a m shortfall : ℕ) → WhereDone (Keeps (op.Margin a m) books) (margin_of books a shortfall)
margin_keeps books a m shortfall =
    choice _ (shortfall == 0) _ _ (λ _. gives _ _ _ (same_sizes books, append-nil books.calls)) (λ some.
    gives _ _ _ (record { blocks = refl; instruments = refl; ring = refl }, ap (λ t. books.calls ++ cond t [] ((a, shortfall) ∷ [])) some))

-- each operation keeps both
pub step_keeps : (o : Op) (books : ClearingBooks) → WhereDone (Keeps o books) (step_of o books)
step_keeps (op.OpenAccount a) books =
    choice _ (is_account books a) _ _ (λ _. declines _ _) (λ _. choice _ (is_full books) _ _ (λ _. finds_no_block _)
    (λ _. gives _ _ _ (record { blocks = refl; instruments = refl; ring = refl }, append-nil books.calls)))
step_keeps (op.Close a) books =
    choice _ (not (is_account books a)) _ _ (λ _. declines _ _) (λ _. choice _ (not (cash_of books a == 0)) _ _ (λ _. declines _ _) (λ _.
    choice _ (holds_any books a) _ _ (λ _. declines _ _)
    (λ _. gives _ _ _ (record { blocks = refl; instruments = refl; ring = refl }, append-nil books.calls))))
step_keeps (op.Deposit a x) books =
    choice _ (not (is_account books a)) _ _ (λ _. declines _ _) (λ _.
    choice _ (nat_lt GREATEST_CASH (cash_of books a + x)) _ _ (λ _. declines _ _)
    (λ _. gives _ _ _ (record { blocks = refl; instruments = refl; ring = refl }, append-nil books.calls)))
step_keeps (op.Withdraw a x) books =
    choice _ (not (is_account books a)) _ _ (λ _. declines _ _) (λ _.
    choice _ (nat_lt (cash_of books a) x) _ _ (λ _. declines _ _)
    (λ _. gives _ _ _ (record { blocks = refl; instruments = refl; ring = refl }, append-nil books.calls)))
step_keeps (op.Move a b x) books =
    choice _ (a == b) _ _ (λ _. declines _ _) (λ _. choice _ (not (is_account books a && is_account books b)) _ _ (λ _. declines _ _) (λ _.
    choice _ (nat_lt (cash_of books a) x) _ _ (λ _. declines _ _) (λ _.
    choice _ (nat_lt GREATEST_CASH (cash_of books b + x)) _ _ (λ _. declines _ _)
    (λ _. gives _ _ _ (record { blocks = refl; instruments = refl; ring = refl }, append-nil books.calls)))))
step_keeps (op.Price i p) books =
    choice _ (not (map.contains_key books.prices i) && is_full books) _ _ (λ _. finds_no_block _)
    (λ _. gives _ _ _ (record { blocks = refl; instruments = refl; ring = refl }, append-nil books.calls))
step_keeps (op.Trade a b i q) books = traded _ books a b i q (λ _ _ _. (record { blocks = refl; instruments = refl; ring = refl }, append-nil books.calls))
step_keeps (op.Margin a m) books =
    choice _ (not (is_account books a)) _ _ (λ _. declines _ _) (λ _.
    choice _ (not (shortfall_of books a m == 0) && (length books.calls == books.ring)) _ _ (λ _. declines _ _)
    (λ _. margin_keeps books a m (shortfall_of books a m)))
step_keeps op.Next books = next_keeps books books.calls refl
step_keeps (op.Show a) books =
    choice _ (not (is_account books a)) _ _ (λ _. declines _ _) (λ _. gives _ _ _ (same_sizes books, append-nil books.calls))
step_keeps (op.Sum a b) books = gives _ _ _ (same_sizes books, append-nil books.calls)

-- each run keeps the sizes
pub run_keeps : (k : ℕ) (ops : List Op) (books : ClearingBooks) → WhereEnds (λ _ after. HaveSameSizes books after) (run_from k ops books)
run_keeps k [] books = same_sizes books
run_keeps k (o ∷ ops) books =
    step_first (λ _ after. HaveSameSizes books after) (Keeps o books) k (step_of o books) (λ next. run_from (k + 1) ops next) (step_keeps o books)
    (λ v next first. (λ _ after. HaveSameSizes next after, run_keeps (k + 1) ops next, λ values after rest. sizes-trans books next after first.0 rest))

-- each part keeps them
pub part_keeps : (k : ℕ) (p : Part) (books : ClearingBooks) → WhereEnds (λ _ after. HaveSameSizes books after) (run_part k p books)
part_keeps k (part.One o) books = run_keeps k (o ∷ []) books
part_keeps k (part.Either first second) books =
    either_holds (λ _ after. HaveSameSizes books after) _ _ (run_keeps k first books) (run_keeps (k + length first) second books)

-- and so does a run of parts
pub parts_keep : (k : ℕ) (parts : List Part) (books : ClearingBooks) → WhereEnds (λ _ after. HaveSameSizes books after) (run_parts k parts books)
parts_keep k [] books = same_sizes books
parts_keep k (p ∷ parts) books =
    run_first (λ _ after. HaveSameSizes books after) (λ _ after. HaveSameSizes books after) (run_part k p books)
    (λ next. run_parts (k + length (operations_in p)) parts next) (part_keeps k p books)
    (λ values next first. weaker (λ _ after. HaveSameSizes next after) (λ _ after. HaveSameSizes books after) _
    (λ more after rest. sizes-trans books next after first rest) (parts_keep (k + length (operations_in p)) parts next))
