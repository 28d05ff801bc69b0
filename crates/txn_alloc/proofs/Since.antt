-- What a later call left, said at the shape that an earlier call began with. The facts tell the words and the shapes.
use Rattle.txn_alloc.proofs.Common.{◌≡◌, ℕ, List, Trace, after, Fits, SomeFits, InEach, Leads, InEachState, LeadsTo, WritesWithin, ReadsWithin, AppendsOnly}
use Rattle.txn_alloc.proofs.Common.{AppendsReads, Looks, each_plain, leads_plain, each_from, some_from}
use Rattle.history_model.specs.declared.shape.Shape.{Ghosts as Shapes}
use Rattle.txn_words.specs.declared.words.Words.{Ghosts as AnyWords}
use Rattle.txn_words.proofs.Looks.{looks_from, leads_from, within_from, reads_from}

-- what holds in every state that fits, of the traces alone
pub each_now : {W S O : Type 0} {words : AnyWords W S O} {shapes : Shapes S} {v : W} {P : List ℕ → Type 0} → InEachState words shapes v P
    → InEach (shapes.word_count (words.shape v)) (shapes.good (words.shape v)) (words.trace v) P
each_now {words} {shapes} h = each_plain words shapes _ _ h

-- what a call leads to, of the traces alone
pub leads_now : {W S O : Type 0} {words : AnyWords W S O} {shapes : Shapes S} {v w : W} {R : List ℕ → List ℕ → Type 0} → LeadsTo words shapes v w R
    → Leads (shapes.word_count (words.shape v)) (shapes.good (words.shape v)) (words.trace v) (words.trace w) R
leads_now {words} {shapes} h = leads_plain words shapes _ _ _ h

-- what holds in every state, of a later call's words
pub each_since : {W S O : Type 0} {words : AnyWords W S O} {shapes : Shapes S} (u : W) {v : W} {P : List ℕ → Type 0} → words.shape v ≡ words.shape u
    → InEach (shapes.word_count (words.shape u)) (shapes.good (words.shape u)) (words.trace v) P → InEachState words shapes v P
each_since {words} {shapes} u e h = each_from words shapes u _ _ e h

module _ {W S O : Type 0} (words : AnyWords W S O) (shapes : Shapes S) {u v : W} where
  -- a later look
  pub looks_since : {t y : Trace} {IsSeen : List ℕ → ℕ → Type 0} {P : List ℕ → Type 0} → words.shape v ≡ words.shape u
      → Looks (shapes.word_count (words.shape v)) (shapes.good (words.shape v)) t y IsSeen P
      → Looks (shapes.word_count (words.shape u)) (shapes.good (words.shape u)) t y IsSeen P
  looks_since e l = looks_from words shapes u v _ _ _ _ e l

  -- a list that fits what a later call left
  pub some_since : words.shape v ≡ words.shape u → SomeFits (shapes.word_count (words.shape v)) (shapes.good (words.shape v)) (words.trace v)
      → SomeFits (shapes.word_count (words.shape u)) (shapes.good (words.shape u)) (words.trace v)
  some_since e some = some_from words shapes u v e some

module _ {W S O : Type 0} {words : AnyWords W S O} {shapes : Shapes S} {u v w : W} where
  -- what a later call leads to
  pub leads_since : {R : List ℕ → List ℕ → Type 0} → words.shape v ≡ words.shape u → LeadsTo words shapes v w R
      → Leads (shapes.word_count (words.shape u)) (shapes.good (words.shape u)) (words.trace v) (words.trace w) R
  leads_since e h = leads_from words shapes u v _ _ e h

  -- what a later call writes
  pub within_since : {IsOwn : List ℕ → List ℕ → ℕ → Type 0} → words.shape v ≡ words.shape u → WritesWithin words shapes v w IsOwn
      → (s : List ℕ) → Fits (shapes.word_count (words.shape u)) (shapes.good (words.shape u)) (words.trace w) s
      → AppendsOnly (words.trace v) (words.trace w) (IsOwn (after (words.trace v) s) (after (words.trace w) s))
  within_since e h = within_from words shapes u v _ _ e h

  -- and reads
  pub reads_since : {IsSeen : List ℕ → List ℕ → ℕ → Type 0} → words.shape v ≡ words.shape u → ReadsWithin words shapes v w IsSeen
      → (s : List ℕ) → Fits (shapes.word_count (words.shape u)) (shapes.good (words.shape u)) (words.trace w) s
      → AppendsReads (words.trace v) (words.trace w) (IsSeen (after (words.trace v) s) (after (words.trace w) s))
  reads_since e h = reads_from words shapes u v _ _ e h

-- in each state that fits, the writes from here on are at words of one's own, and the reads at words that one may see
abbrev pub Writes : ℕ → (List ℕ → Type 0) → Trace → Trace → (List ℕ → List ℕ → ℕ → Type 0) → Type 0
Writes n G t u IsOwn = (s : List ℕ) → Fits n G u s → AppendsOnly t u (IsOwn (after t s) (after u s))

abbrev pub Reads : ℕ → (List ℕ → Type 0) → Trace → Trace → (List ℕ → List ℕ → ℕ → Type 0) → Type 0
Reads n G t u IsSeen = (s : List ℕ) → Fits n G u s → AppendsReads t u (IsSeen (after t s) (after u s))
