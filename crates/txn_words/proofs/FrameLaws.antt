-- The frame of a call: step by step, and what it says of the words that the call may not write.
use Rattle.txn_words.proofs.Common.{◌≡◌, ℕ, zero, suc, List, [], ◌∷◌, ◌++◌, length, ◌⊎◌, inl, inr, slice_get, Some, refl, sym, ap, ◌∙◌, subst, append_assoc}
use Rattle.txn_words.proofs.Common.{append-nil, same_Some, Event, Read, Write, Trace, after, Writes, after-append, length-after, EndsWithWrite, AppendsOnly}
use Rattle.txn_words.proofs.Common.{WritesOnly, LeadsTo}
use Rattle.history_model.specs.declared.shape.Shape.{Ghosts as Shapes}
use Rattle.history_model.proofs.Traces.LastEvents.{unwritten_stays}
use Rattle.txn_words.specs.declared.words.Words.{Ghosts as AnyWords}
use Rattle.txn_words.specs.Frames.{KeepsOthers}

-- a write of an appended trace is one of its first part or of its second
writes_append_at : (t u : Trace) (i a v : ℕ) → slice_get (t ++ u) i ≡ Some (Write a v) → Writes t a ⊎ Writes u a
writes_append_at [] u i a v e = inr (i, v, e)
writes_append_at (x ∷ t) u zero a v e = inl (zero, v, e)
writes_append_at (x ∷ t) u (suc i) a v e = elim (writes_append_at t u i a v e) [ inl k ↦ inl (suc k.0, k.1, k.2) | inr k ↦ inr k ]

pub writes_append : (t u : Trace) (a : ℕ) → Writes (t ++ u) a → Writes t a ⊎ Writes u a
writes_append t u a w = writes_append_at t u w.0 a w.1 w.2

-- a trace of one event writes a word only by it
pub writes_one : (x : Event) (a : ℕ) → Writes (x ∷ []) a → (v : ℕ) × (x ≡ Write a v)
writes_one x a w = at (w.0) (w.1) (w.2)
  where
    at : (i v : ℕ) → slice_get (x ∷ []) i ≡ Some (Write a v) → (v : ℕ) × (x ≡ Write a v)
    at zero v e = (v, same_Some x (Write a v) e)
    at (suc i) v e = cc

-- the word of an event
place : Event → ℕ
place (Read a v) = a
place (Write a v) = a

-- what appended events do not write stays
pub appended_keeps : (t u : Trace) (s : List ℕ) → (length (after (t ++ u) s) ≡ length (after t s))
    × ((a : ℕ) → ¬ Writes u a → slice_get (after (t ++ u) s) a ≡ slice_get (after t s) a)
appended_keeps t u s = (
  length-after (t ++ u) s ∙ sym (length-after t s),
  λ a not_written. ap (λ z. slice_get z a) (after-append t u s) ∙ unwritten_stays u (after t s) a not_written,
)

module _ (IsOwn : ℕ → Type 0) where
  -- no event more
  pub only_same : (t : Trace) → AppendsOnly t t IsOwn
  only_same t = record { more = []; whole = sym (append-nil t); own = λ a w. absurd (cc (w.2)) }

  -- a read writes nothing
  pub only_read : (t u : Trace) (b v : ℕ) → u ≡ t ++ Read b v ∷ [] → AppendsOnly t u IsOwn
  only_read t u b v e = record { more = Read b v ∷ []; whole = e; own = λ a w. absurd (cc ((writes_one (Read b v) a w).1)) }

  -- one call after another
  pub only_then : (t u v : Trace) → AppendsOnly t u IsOwn → AppendsOnly u v IsOwn → AppendsOnly t v IsOwn
  only_then t u v f g = record {
    more = f.more ++ g.more;
    whole = g.whole ∙ ap (λ z. z ++ g.more) f.whole ∙ append_assoc t f.more g.more;
    own = λ a w. elim (writes_append f.more g.more a w) [ inl k ↦ f.own a k | inr k ↦ g.own a k ];
  }

  -- one write at an own word
  only_one_write : (t u : Trace) (b v : ℕ) → u ≡ t ++ Write b v ∷ [] → IsOwn b → AppendsOnly t u IsOwn
  unfolding place
  only_one_write t u b v e own = record {
    more = Write b v ∷ [];
    whole = e;
    own = λ a w. let one : (x : ℕ) × (Write b v ≡ Write a x) = writes_one (Write b v) a w in subst IsOwn (ap place one.1) own;
  }

  -- a write at an own word, as words make it
  pub only_write : (t u : Trace) (b v : ℕ) → EndsWithWrite t u b v → IsOwn b → AppendsOnly t u IsOwn
  only_write t u b v (inl e) own = only_one_write t u b v e own
  only_write t u b v (inr e) own =
      let whole : u ≡ (t ++ Read b e.0 ∷ []) ++ Write b v ∷ [] = e.1 ∙ sym (append_assoc t (Read b e.0 ∷ []) (Write b v ∷ [])) in
      only_then t (t ++ Read b e.0 ∷ []) u (only_read t (t ++ Read b e.0 ∷ []) b e.0 refl) (only_one_write (t ++ Read b e.0 ∷ []) u b v whole own)

  -- words that are not its own stay, from every list
  pub only_keeps : (t u : Trace) (s : List ℕ) → AppendsOnly t u IsOwn → KeepsOthers IsOwn (after t s) (after u s)
  only_keeps t u s f =
      let k = appended_keeps t f.more s in
      record {
        count = ap (λ z. length (after z s)) f.whole ∙ k.0;
        same = λ a not_own. ap (λ z. slice_get (after z s) a) f.whole ∙ k.1 a (λ w. not_own (f.own a w));
      }

-- a call that may write less may write more
pub only_more : (IsOwn IsWider : ℕ → Type 0) (t u : Trace) → ((a : ℕ) → IsOwn a → IsWider a) → AppendsOnly t u IsOwn → AppendsOnly t u IsWider
only_more IsOwn IsWider t u wider f = record { more = f.more; whole = f.whole; own = λ a w. wider a (f.own a w) }

module _ {W S O : Type 0} (words : AnyWords W S O) (shapes : Shapes S) where
  -- what a call with a frame leaves, in every state that fits
  pub writes_keep : (v w : W) (IsOwn : ℕ → Type 0) → WritesOnly words v w IsOwn → LeadsTo words shapes v w (KeepsOthers IsOwn)
  writes_keep v w IsOwn f = record { at = λ s fit. only_keeps IsOwn (words.trace v) (words.trace w) s f.appended }
