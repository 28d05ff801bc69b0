-- What a call on words asks and leaves, over the ghost members of the words and of their shape.
-- A collection cites these as `IsReady W.Words w.old` and `InEachState W.Words W.Shape.Shape w.old P`.
use Rattle.std.specs.Prelude.{◌≡◌, ℕ, List, None, Result}
use Rattle.history_model.specs.declared.shape.Shape.{Ghosts as Shapes}
use Rattle.history_model.specs.Traces.{after, Begins}
use Rattle.history_model.specs.Fitting.{Fits}
use Rattle.txn_words.specs.declared.words.Stop.{Stop}
use Rattle.txn_words.specs.declared.words.Words.{Ghosts as AnyWords}
use Rattle.txn_words.specs.Steps.{stop_after}
use Rattle.txn_words.specs.Frames.{AppendsOnly, AppendsReads}
use Rattle.history_model.specs.Marks.{count_writes}
use Rattle.txn_words.specs.Marks.{TakesBack}

module _ {W S O : Type 0} (words : AnyWords W S O) where
  -- a call may be made
  pub record IsReady (w : W) : Type 0 where
    pub going : words.stop w ≡ None
    pub sound : words.is_sound w

  -- what every call leaves, a refused one too: a stop that it answers is one that the words answered in it
  pub record GoesOn {A : Type 0} (old new : W) (result : Result A Stop) : Type 0 where
    pub shape : words.shape new ≡ words.shape old
    pub origin : words.origin new ≡ words.origin old
    pub begins : Begins (words.trace old) (words.trace new)
    pub stops : words.stop new ≡ stop_after result
    pub sound : words.is_sound new

  -- the frame of a call: each write among the events that it appended is at a word that IsOwn holds of
  pub record WritesOnly (old new : W) (IsOwn : ℕ → Type 0) : Type 0 where
    pub appended : AppendsOnly (words.trace old) (words.trace new) IsOwn

  -- what a call reads: each read among the events that it appended is at a word that IsSeen holds of
  pub record ReadsOnly (old new : W) (IsSeen : ℕ → Type 0) : Type 0 where
    pub appended : AppendsReads (words.trace old) (words.trace new) IsSeen

  module _ (shapes : Shapes S) where
    -- P holds in every good state that fits the trace
    pub record InEachState (w : W) (P : List ℕ → Type 0) : Type 0 where
      pub at : (s : List ℕ) → Fits (shapes.word_count (words.shape w)) (shapes.good (words.shape w)) (words.trace w) s
          → P (after (words.trace w) s)

    -- R leads from what the old trace leaves to what the new one leaves, of every good list on which the new one is legal
    pub record LeadsTo (old new : W) (R : List ℕ → List ℕ → Type 0) : Type 0 where
      pub at : (s : List ℕ) → Fits (shapes.word_count (words.shape old)) (shapes.good (words.shape old))
          (words.trace new) s → R (after (words.trace old) s) (after (words.trace new) s)

    -- the frame of a call whose own words the state tells: in each good state that fits, each write among the events
    -- that it appended is at a word that IsOwn holds of, from what the old trace leaves and what the new one leaves
    pub record WritesWithin (old new : W) (IsOwn : List ℕ → List ℕ → ℕ → Type 0) : Type 0 where
      pub at : (s : List ℕ) → Fits (shapes.word_count (words.shape old)) (shapes.good (words.shape old))
          (words.trace new) s
          → AppendsOnly (words.trace old) (words.trace new)
          (IsOwn (after (words.trace old) s) (after (words.trace new) s))

    -- what a call reads, likewise
    pub record ReadsWithin (old new : W) (IsSeen : List ℕ → List ℕ → ℕ → Type 0) : Type 0 where
      pub at : (s : List ℕ) → Fits (shapes.word_count (words.shape old)) (shapes.good (words.shape old))
          (words.trace new) s
          → AppendsReads (words.trace old) (words.trace new)
          (IsSeen (after (words.trace old) s) (after (words.trace new) s))

    -- the law of marks: after going back to a mark that was taken where a front of the trace ended, the words are in each
    -- state what they were at the mark
    abbrev pub SameAsAtMark : Type 0
    SameAsAtMark =
        (marked old new : W)
        → words.shape old ≡ words.shape marked → Begins (words.trace marked) (words.trace old)
        → Begins (words.trace old) (words.trace new)
        → TakesBack (shapes.word_count (words.shape old)) (shapes.good (words.shape old))
        (count_writes (words.trace marked)) (words.trace old) (words.trace new)
        → LeadsTo marked new (λ before now. now ≡ before)
