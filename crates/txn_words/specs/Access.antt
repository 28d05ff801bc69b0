-- What a call on words that stand for a model answers, and what it does to the model. Any store over words says it by
-- these, with its own relation for 'these words stand for that model'.
use Rattle.std.specs.Prelude.{◌≡◌, ℕ, Bool, not, if◌then◌else◌, List}

-- this holds of the model that the words stand for
abbrev pub OfModel : {Model : Type 0} → (List ℕ → Model → Type 0) → (Model → Type 0) → List ℕ → Type 0
OfModel {Model} stands P words = (model : Model) → stands words model → P model

-- from state to state: nothing changes, and the answer is what the model says
pub record Tells {Model A : Type 0} (stands : List ℕ → Model → Type 0) (says : Model → A) (answer : A)
    (old new : List ℕ) : Type 0 where
  pub same : new ≡ old
  pub told : (model : Model) → stands old model → answer ≡ says model

-- from state to state: the model changes so
abbrev pub Changes : {Model : Type 0} → (List ℕ → Model → Type 0) → (Model → Model) → List ℕ → List ℕ → Type 0
Changes {Model} stands change old new = (model : Model) → stands old model → stands new (change model)

-- from state to state: the model changes so unless it lacks the room for it, and then it stays what it was;
-- the answer says whether it has it
pub record ChangesWithRoom {Model : Type 0} (stands : List ℕ → Model → Type 0)
    (lacks_room : Model → Bool) (change : Model → Model) (had_room : Bool) (old new : List ℕ) : Type 0 where
  pub answer : (model : Model) → stands old model → had_room ≡ not (lacks_room model)
  pub left : (model : Model) → stands old model → stands new (if had_room then change model else model)

-- from state to state: the answer is what the model says, and it changes so
pub record TellsAndChanges {Model A : Type 0} (stands : List ℕ → Model → Type 0)
    (says : Model → A) (change : Model → Model) (answer : A) (old new : List ℕ) : Type 0 where
  pub told : (model : Model) → stands old model → answer ≡ says model
  pub left : (model : Model) → stands old model → stands new (change model)
