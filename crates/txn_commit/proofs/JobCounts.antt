-- How many jobs lists of jobs have, and which.
use Rattle.txn_commit.proofs.Common.{◌≡◌, ℕ, ◌<◌, ◌≤◌, Bool, All, List, [], Some, Result, get_or, length, map, slice_get, sym, ap, ◌∙◌, subst, arith}
use Rattle.txn_commit.proofs.Common.{range_with_len, length-map, get_or_from_slice_get, slice_get-get_or, slice_get_within, Entry, below_get, Receipt}
use Rattle.txn_commit.proofs.Common.{jobs_of_first, count_jobs, GetsEntry}
use Rattle.std.proofs.Common.{Vec, Global, IfOk, sum}
use Rattle.std.proofs.lemmas.List.{get_or-map}
use Rattle.std.proofs.lemmas.List.FromFn.{fill_by_all}
use Rattle.std.proofs.lemmas.List.Sums.{get_or-le-sum_by, sum-map}
use Rattle.std.proofs.lemmas.Result.{IfOk-weaker}
use Rattle.txn_commit.specs.Jobs.{count_at, job_at, list_at, means_at}

module _ {J : Type 0} (lists : List (Vec J Global)) where
  abbrev items_of : Vec J Global → List J
  items_of list = list.items

  abbrev jobs_in : Vec J Global → ℕ
  jobs_in list = length list.items

  -- the list of a caller is the one at its place
  pub list_there : (c : ℕ) (list : Vec J Global) → c < length lists → list_at lists c ≡ items_of (get_or lists c list)
  list_there c list lt = get_or-map items_of lists c list [] lt

  -- a caller has no more jobs than all together
  pub jobs_of_one : (c : ℕ) → c < length lists → count_at lists c ≤ count_jobs lists
  jobs_of_one c lt =
      let list = (below_get c lists lt).0 in
      omega (arith, get_or-le-sum_by jobs_in lists c list lt, ap (λ (l : List J). length l) (list_there c list lt))

  -- and these have as many
  pub jobs_of_all : jobs_of_first (count_at lists) (length lists) ≡ count_jobs lists
  jobs_of_all =
      let callers : List ℕ = range_with_len 0 (length lists) in
      let each : map jobs_in lists ≡ map (count_at lists) callers = fill_by_all (count_at lists) (map jobs_in lists) (length lists) 0
      (length-map lists jobs_in) (λ k lt.
      let list = (below_get k lists lt).0 in
      get_or-map jobs_in lists k list 0 lt ∙ ap (λ (l : List J). length l) (sym (list_there k list lt))) in
      sym (sum-map (count_at lists) callers) ∙ ap sum (sym each) ∙ sum-map jobs_in lists

  -- the job that was taken of a caller's list
  pub job_there : (c i : ℕ) (list : List J) (job : J) → list ≡ list_at lists c → i < count_at lists c → job ≡ get_or list i job
      → job_at lists c i ≡ Some job
  job_there c i list job same lt is =
      ap (λ (l : List J). slice_get l i) (sym same)
      ∙ (slice_get-get_or list i job (subst (λ (l : List J). i < length l) (sym same) lt) ∙ ap (λ (j : J). Some j) (sym is))

  -- what holds of all jobs holds of one
  pub of_job : (P : J → Type 0) → All (λ (list : Vec J Global). All P list.items) lists → (c i : ℕ) (job : J) → c < length lists
      → job_at lists c i ≡ Some job → P job
  of_job P all c i job lt at =
      let list = (below_get c lists lt).0 in
      let same = list_there c list lt in
      let there : slice_get (items_of (get_or lists c list)) i ≡ Some job = ap (λ (l : List J). slice_get l i) (sym same) ∙ at in
      subst P (get_or_from_slice_get (items_of (get_or lists c list)) i job job there)
      (all c list lt i job (slice_get_within (items_of (get_or lists c list)) i job there))

  -- the entry of a job of a list
  pub entry_of_job : {A E : Type 0} (means : J → List ℕ → Bool → A → List ℕ → Type 0) (good : List ℕ → Type 0) (who call : ℕ)
      (old new : List Entry) (c i : ℕ) (job : J) → job_at lists c i ≡ Some job → (result : Result (Receipt A) E)
      → IfOk result (λ receipt. GetsEntry good (means job) who call old new receipt)
      → IfOk result (λ receipt. GetsEntry good (means_at means lists c i) who call old new receipt)
  entry_of_job means good who call old new c i job at result gets =
      IfOk-weaker result (λ receipt. GetsEntry good (means job) who call old new receipt)
      (λ receipt. GetsEntry good (means_at means lists c i) who call old new receipt)
      (λ receipt is. record {
        entry = is.entry;
        seen = is.seen;
        made_by = is.made_by;
        call_is = is.call_is;
        knew = is.knew;
        floor_is = is.floor_is;
        restarts_are = is.restarts_are;
        uses_are = is.uses_are;
        meaning = λ s good_s legal. (job, at, is.meaning s good_s legal);
      }) gets
