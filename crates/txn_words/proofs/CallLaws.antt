-- From what a call on words did to what holds after it.
use Rattle.txn_words.proofs.Common.{◌≡◌, ℕ, List, [], Option, Some, Result, Ok, Err, refl, sym, ◌∙◌, subst, Begins, Fits, InEach, Leads, begins_trans}
use Rattle.txn_words.proofs.Common.{fits_begins, leads_at, each_at, Stop, InEachState, LeadsTo}
use Rattle.std.proofs.Common.{None}
use Rattle.history_model.specs.declared.shape.Shape.{Ghosts as Shapes}
use Rattle.history_model.specs.Traces.{after}
use Rattle.history_model.proofs.Traces.FittingLaws.{after_call}
use Rattle.txn_words.specs.declared.words.Words.{Ghosts as AnyWords}
use Rattle.txn_words.specs.Calls.{GoesOn}
use Rattle.txn_words.specs.Steps.{stop_after}

module _ {W S O : Type 0} (words : AnyWords W S O) (shapes : Shapes S) where
  -- the same facts over traces alone, as the lemmas of the history model take them
  pub each_plain : (w : W) (P : List ℕ → Type 0) → InEachState words shapes w P
      → InEach (shapes.word_count (words.shape w)) (shapes.good (words.shape w)) (words.trace w) P
  each_plain w P h = record { at = h.at }

  pub leads_plain : (v w : W) (R : List ℕ → List ℕ → Type 0) → LeadsTo words shapes v w R
      → Leads (shapes.word_count (words.shape v)) (shapes.good (words.shape v)) (words.trace v) (words.trace w) R
  leads_plain v w R h = record { at = h.at }

  -- what holds after a call
  pub state_after : (v w : W) (P Q : List ℕ → Type 0) (R : List ℕ → List ℕ → Type 0) → words.shape w ≡ words.shape v → Begins (words.trace v) (words.trace w)
      → InEachState words shapes v P → LeadsTo words shapes v w R → ((x y : List ℕ) → P x → R x y → Q y) → InEachState words shapes w Q
  state_after v w P Q R e b each leads step =
      record {
        at = (after_call shapes.word_count shapes.good (words.shape v) (words.shape w) (words.trace v)
            (words.trace w) P Q R e b (each_plain v P each) (leads_plain v w R leads) step).at;
      }

  -- one call after another
  pub leads_then : (u v w : W) (R T : List ℕ → List ℕ → Type 0) → words.shape v ≡ words.shape u → Begins (words.trace v) (words.trace w)
      → LeadsTo words shapes u v R → LeadsTo words shapes v w T → LeadsTo words shapes u w (λ x z. (y : List ℕ) × R x y × T y z)
  leads_then u v w R T e b first second = record {
    at = λ s fit. (
      after (words.trace v) s,
      first.at s (fits_begins _ _ (words.trace v) (words.trace w) s b fit),
      (leads_at shapes.word_count shapes.good (words.trace v) (words.trace w) T (words.shape v) (words.shape u) e (leads_plain v w T second)).at s fit,
    );
  }

  -- a call that began with no event
  pub leads_from_start : (v w : W) (R : List ℕ → List ℕ → Type 0) → words.trace v ≡ [] → LeadsTo words shapes v w R
      → (s : List ℕ) → Fits (shapes.word_count (words.shape v)) (shapes.good (words.shape v)) (words.trace w) s → R s (after (words.trace w) s)
  unfolding after
  leads_from_start v w R e leads s fit = subst (λ t. R (after t s) (after (words.trace w) s)) e (leads.at s fit)

  -- what holds after a call in every state, under the shape as it leaves it
  pub state_at : (v w : W) (P : List ℕ → Type 0) → words.shape w ≡ words.shape v
      → InEach (shapes.word_count (words.shape v)) (shapes.good (words.shape v)) (words.trace w) P → InEachState words shapes w P
  state_at v w P e h = record { at = (each_at shapes.word_count shapes.good (words.trace w) P (words.shape v) (words.shape w) (sym e) h).at }

-- an answer that leaves this stop
abbrev pub answer_with : Option Stop → Result Unit Stop
answer_with None = Ok tt
answer_with (Some stop) = Err stop

pub leaves_its_stop : (stop : Option Stop) → stop ≡ stop_after (answer_with stop)
leaves_its_stop None = refl
leaves_its_stop (Some stop) = refl

module _ {W S O : Type 0} {words : AnyWords W S O} {v w : W} {stop : Option Stop} where
  -- calls whose clauses these are go on
  pub goes : words.shape w ≡ words.shape v → words.origin w ≡ words.origin v → Begins (words.trace v) (words.trace w) → words.stop w ≡ stop → words.is_sound w
      → GoesOn words v w (answer_with stop)
  goes shape origin begins stops sound = record { shape = shape; origin = origin; begins = begins; stops = stops ∙ leaves_its_stop stop; sound = sound }

  -- and so does a read or a write, whatever its value
  pub goes_call : {V : Type 0} → record {
    value : V;
    begins : Begins (words.trace v) (words.trace w);
    stops : words.stop w ≡ stop;
    shape : words.shape w ≡ words.shape v;
    origin : words.origin w ≡ words.origin v;
    sound : words.is_sound w;
  } → GoesOn words v w (answer_with stop)
  goes_call call = goes call.shape call.origin call.begins call.stops call.sound

module _ {W S O A B : Type 0} {words : AnyWords W S O} {v w : W} {r : Result A Stop} {s : Result B Stop} where
  -- calls one after another go on from where the first began
  pub goes_then : {u : W} → GoesOn words u v r → GoesOn words v w s → GoesOn words u w s
  goes_then first second = record {
    shape = second.shape ∙ first.shape;
    origin = second.origin ∙ first.origin;
    begins = begins_trans _ _ _ first.begins second.begins;
    stops = second.stops;
    sound = second.sound;
  }

  -- and so does an answer of another kind that stops as they do
  pub goes_as : GoesOn words v w r → words.stop w ≡ stop_after s → GoesOn words v w s
  goes_as goes stops = record {
    shape = goes.shape;
    origin = goes.origin;
    begins = goes.begins;
    stops = stops;
    sound = goes.sound;
  }

module _ {W S O : Type 0} (words : AnyWords W S O) (shapes : Shapes S) where
  -- what a call leads to that came right after a mark was taken
  pub leads_marked : (u v w : W) (R : List ℕ → List ℕ → Type 0) → words.shape v ≡ words.shape u
      → words.trace v ≡ words.trace u → LeadsTo words shapes v w R → LeadsTo words shapes u w R
  leads_marked u v w R shape same h = record {
    at = λ s fit. subst (λ t. R (after t s) (after (words.trace w) s)) same
        ((leads_at shapes.word_count shapes.good (words.trace v) (words.trace w) R (words.shape v) (words.shape u) shape
        (leads_plain words shapes v w R h)).at s fit);
  }
