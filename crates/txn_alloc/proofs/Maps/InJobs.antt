-- Calls of a map within a job: what the job begins with, what holds behind a look, and what a call behind one did.
use Rattle.txn_alloc.proofs.Common.{◌≡◌, List, [], ℕ, Option, sym, subst, after, Fits, InEachState, LeadsTo, state_after, Part, Finds, HasMap, HasMapApart}
use Rattle.std.proofs.Common.{Result}
use Rattle.history_model.specs.declared.shape.Shape.{Ghosts as Shapes}
use Rattle.history_model.proofs.Traces.FittingLaws.{each_fresh}
use Rattle.txn_words.specs.declared.words.Stop.{Stop}
use Rattle.txn_words.specs.declared.words.Words.{Ghosts as AnyWords}
use Rattle.txn_words.specs.Calls.{GoesOn}
use Rattle.txn_words.proofs.CallLaws.{leads_from_start, leads_then}
use Rattle.txn_alloc.proofs.Maps.Parts.{held, order_found}

module _ {W S O : Type 0} {words : AnyWords W S O} {shapes : Shapes S} {v : W} {shape : S} where
  -- the words that a job begins with are good for its shape
  pub good_at_start : words.shape v ≡ shape → words.trace v ≡ [] → InEachState words shapes v (shapes.good shape)
  good_at_start same fresh = subst (λ x. InEachState words shapes v (shapes.good x)) same (record {
    at = (each_fresh (shapes.word_count (words.shape v)) (shapes.good (words.shape v)) (words.trace v) fresh).at;
  })

  -- what was done from there on, of every good list that fits
  pub done_from_start : {w : W} {R : List ℕ → List ℕ → Type 0} → words.shape v ≡ shape → words.trace v ≡ [] → LeadsTo words shapes v w R
      → (s : List ℕ) → Fits (shapes.word_count shape) (shapes.good shape) (words.trace w) s → R s (after (words.trace w) s)
  done_from_start {w = w} {R = R} same fresh leads s fit = leads_from_start words shapes v w R fresh leads s
      (subst (λ x. Fits (shapes.word_count x) (shapes.good x) (words.trace w) s) (sym same) fit)

-- a map beside free blocks may be looked into
pub may_look : {W S O : Type 0} {words : AnyWords W S O} {shapes : Shapes S} {v : W} {part : Part}
    → InEachState words shapes v (HasMapApart part) → InEachState words shapes v (HasMap part)
may_look each = record { at = λ s fit. held (each.at s fit) }

module _ {W S O A : Type 0} {words : AnyWords W S O} {shapes : Shapes S} {v w : W} {r : Result A Stop} {part : Part} {key : ℕ} {answer : Option ℕ}
    (goes : GoesOn words v w r) (look : LeadsTo words shapes v w (Finds part key answer)) where
  -- the map stands behind a look
  pub there_still : InEachState words shapes v (HasMapApart part) → InEachState words shapes w (HasMapApart part)
  there_still each = state_after words shapes v w (HasMapApart part) (HasMapApart part) (Finds part key answer) goes.shape goes.begins each look
      (order_found part key answer)

  -- and a call behind it led from where the look began
  pub behind : {B : Type 0} {x : W} {q : Result B Stop} {R : List ℕ → List ℕ → Type 0} → GoesOn words w x q → LeadsTo words shapes w x R
      → LeadsTo words shapes v x R
  behind {x = x} {R = R} more call = record {
    at = λ s fit.
        let both = (leads_then words shapes v w x (Finds part key answer) R goes.shape more.begins look call).at s fit in
        subst (λ z. R z (after (words.trace x) s)) both.1.same both.2;
  }
