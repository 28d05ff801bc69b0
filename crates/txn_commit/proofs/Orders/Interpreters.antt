-- An interpreter, down the jobs that were run.
use Rattle.txn_commit.proofs.Common.{Done}
use Rattle.std.specs.Prelude.{◌≡◌, ℕ, Bool, true, false, List, [], ◌∷◌}

-- what an interpreter answers down jobs, each on the state that those before it leave
unfoldable pub answers_down : {A X : Type 0} → (ℕ → ℕ → X → A) → (ℕ → ℕ → X → X) → List (Done A) → X → List A
answers_down reply left [] x = []
answers_down reply left (job ∷ jobs) x = reply job.caller job.index x ∷ answers_down reply left jobs (left job.caller job.index x)

-- the state that they leave
unfoldable pub state_down : {A X : Type 0} → (ℕ → ℕ → X → X) → List (Done A) → X → X
state_down left [] x = x
state_down left (job ∷ jobs) x = state_down left jobs (left job.caller job.index x)

-- a job's meaning is one step of an interpreter: of words that stand for a state it answers what the interpreter replies,
-- and what it keeps stands for the state that this leaves; if it keeps nothing, the state is as it was
pub record IsInterpreterStep {A X : Type 0} (means : ℕ → ℕ → List ℕ → Bool → A → List ℕ → Type 0) (stands : List ℕ → X → Type 0)
    (reply : ℕ → ℕ → X → A) (left : ℕ → ℕ → X → X) : Type 0 where
  pub replies : (c i : ℕ) (s t : List ℕ) (kept : Bool) (answer : A) (x : X) → means c i s kept answer t → stands s x
      → answer ≡ reply c i x
  pub keeps : (c i : ℕ) (s t : List ℕ) (kept : Bool) (answer : A) (x : X) → means c i s kept answer t → stands s x → kept ≡ true
      → stands t (left c i x)
  pub reverts : (c i : ℕ) (s t : List ℕ) (kept : Bool) (answer : A) (x : X) → means c i s kept answer t → stands s x → kept ≡ false
      → left c i x ≡ x
