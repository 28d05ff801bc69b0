-- What holds of a deque between any two steps.
use Rattle.std.specs.Prelude.{◌≡◌, ℕ, ◌+◌, ◌==◌, if◌then◌else◌, List, sum_by}
use Rattle.worker_pool.specs.declared.rule.Deal.{Deal}
use Rattle.worker_pool.specs.declared.rule.TheConstants.{ALL_PARTS}
use Rattle.worker_pool.specs.Counting.{times}

-- how often caller x was taken, and dealt. Who has no part counts for nothing
abbrev pub took : ℕ → Deal → ℕ
took x v = if v.parts == 0 then 0 else times x v.taken

abbrev pub put : ℕ → Deal → ℕ
put x v = if v.parts == 0 then 0 else times x v.dealt

-- each caller was taken as often as it was dealt
abbrev pub IsAllTaken : Deal → Type 0
IsAllTaken v = (x : ℕ) → times x v.taken ≡ times x v.dealt

-- the rule: the callers in the deque and those that were taken from it are those that were dealt to it, each as often
pub record IsDealt (items : List ℕ) (views : List Deal) : Type 0 where
  pub parts : sum_by (λ (v : Deal). v.parts) views ≡ ALL_PARTS
  pub once : (x : ℕ) → sum_by (took x) views + times x items ≡ sum_by (put x) views
