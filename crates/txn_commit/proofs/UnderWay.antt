-- How far a worker has come with the lists of the callers.
use Rattle.txn_commit.proofs.Common.{◌≡◌, ℕ, ◌≤◌, Bool, List, length, Idle, number, PassView, Done, jobs_of_first, HasRun, RanFirst}

module _ {A : Type 0} (good : List ℕ → Type 0) (means : ℕ → ℕ → List ℕ → Bool → A → List ℕ → Type 0) where
  -- of the first n callers a pass ran those that are its own, since it began; so it made no more calls than these have jobs
  pub record IsUnderWay (jobs : ℕ → ℕ) (workers seats : ℕ) (began : PassView) (n : ℕ) (pass : PassView) (done : List (Done A)) : Type 0 where
    pub table : pass.table ≡ began.table
    pub idle : pass.view.phase ≡ Idle
    pub who : pass.view.who ≡ began.view.who
    pub run : HasRun good means seats (number began.view) pass.view done
    pub first : RanFirst jobs workers (number began.view) n done
    pub few : length done ≤ jobs_of_first jobs n
