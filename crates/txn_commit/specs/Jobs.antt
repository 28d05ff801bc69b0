-- What lists of jobs of one type come to.
use Rattle.std.specs.Prelude.{◌≡◌, ◌⊎◌, ◌<◌, ℕ, Bool, List, [], Vec, Option, Some, get_or, length, map, slice_get, sum_by}
use Rattle.std.specs.Global.{Global}
use Rattle.word_table.specs.declared.limits.TheConstants.{LAST_CALL, MOST_PASSES}

module _ {J : Type 0} where
  -- the jobs of list c; beyond the lists there are none
  abbrev pub list_at : List (Vec J Global) → ℕ → List J
  list_at lists c = get_or (map (λ (list : Vec J Global). list.items) lists) c []

  -- job i of list c
  abbrev pub job_at : List (Vec J Global) → ℕ → ℕ → Option J
  job_at lists c i = slice_get (list_at lists c) i

  -- how many jobs list c has
  abbrev pub count_at : List (Vec J Global) → ℕ → ℕ
  count_at lists c = length (list_at lists c)

  -- how many jobs all lists have
  abbrev pub count_jobs : List (Vec J Global) → ℕ
  count_jobs lists = sum_by (λ (list : Vec J Global). length list.items) lists

  -- a table does not take so many threads, lists or jobs
  abbrev pub AreTooMany : List (Vec J Global) → ℕ → Type 0
  AreTooMany lists threads =
      (threads ≡ 0) ⊎ (MOST_PASSES < threads) ⊎ (LAST_CALL < length lists) ⊎ (LAST_CALL < count_jobs lists)

  -- what job i of list c means
  abbrev pub means_at : {A : Type 0} → (J → List ℕ → Bool → A → List ℕ → Type 0) → List (Vec J Global)
      → ℕ → ℕ → List ℕ → Bool → A → List ℕ → Type 0
  means_at means lists c i s kept answer t = (job : J) × (job_at lists c i ≡ Some job) × means job s kept answer t
