-- The memory with all unfinished writes taken back is what every arrangement leaves.
use Rattle.values_rule.proofs.Common.{◌≡◌, List, ℕ, length, ◌∙◌, arith, value_word, memory_of, items_of, next_version, now_of}
use Rattle.std.proofs.Common.{length-drop}
use Rattle.values_rule.proofs.WrittenBack.{restored}
use Rattle.values_rule.specs.Closing.{UndoingRestores}
use Rattle.values_rule.proofs.Whole.Legality.{now_is}
use Rattle.values_rule.proofs.Told.Newest.{length-newest}

pub undoing_restores : (good : List ℕ → Type 0) → UndoingRestores good
undoing_restores good n base ws vs order h q arrangement =
    let now : List ℕ = now_of n base ws vs in
    let now_long : length now ≡ length base = length-newest base (items_of vs) (next_version n ws vs) in
    let memory_long : length (memory_of n ws) ≡ length base = let d = length-drop (value_word n 0) ws in omega (arith, d, h.word_count) in
    restored n ws now vs (omega (arith, now_long, memory_long)) (λ id a o v e t. (q.undo.noted id a o v e t).2)
    (λ a lt free. q.undo.unnoted a (omega (arith, lt, now_long)) free)
    ∙ now_is good n base ws vs h q order arrangement
