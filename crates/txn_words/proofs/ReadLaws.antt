-- What a call reads, step by step.
use Rattle.txn_words.proofs.Common.{◌≡◌, ℕ, zero, suc, [], ◌∷◌, ◌++◌, ◌⊎◌, inl, inr, slice_get, Some, refl, sym, ap, ◌∙◌, subst, append_assoc, append-nil}
use Rattle.txn_words.proofs.Common.{same_Some, Event, Read, Write, Trace, EndsWithWrite, AppendsReads}
use Rattle.txn_words.specs.Frames.{Reads}

-- a read of an appended trace is one of its first part or of its second
reads_append_at : (t u : Trace) (i a v : ℕ) → slice_get (t ++ u) i ≡ Some (Read a v) → Reads t a ⊎ Reads u a
reads_append_at [] u i a v e = inr (i, v, e)
reads_append_at (x ∷ t) u zero a v e = inl (zero, v, e)
reads_append_at (x ∷ t) u (suc i) a v e = elim (reads_append_at t u i a v e) [ inl k ↦ inl (suc k.0, k.1, k.2) | inr k ↦ inr k ]

pub reads_append : (t u : Trace) (a : ℕ) → Reads (t ++ u) a → Reads t a ⊎ Reads u a
reads_append t u a w = reads_append_at t u w.0 a w.1 w.2

-- a trace of one event reads a word only by it
pub reads_one : (x : Event) (a : ℕ) → Reads (x ∷ []) a → (v : ℕ) × (x ≡ Read a v)
reads_one x a w = at (w.0) (w.1) (w.2)
  where
    at : (i v : ℕ) → slice_get (x ∷ []) i ≡ Some (Read a v) → (v : ℕ) × (x ≡ Read a v)
    at zero v e = (v, same_Some x (Read a v) e)
    at (suc i) v e = cc

-- the word of an event
place : Event → ℕ
place (Read a v) = a
place (Write a v) = a

module _ (IsSeen : ℕ → Type 0) where
  -- no event more
  pub sees_same : (t : Trace) → AppendsReads t t IsSeen
  sees_same t = record { more = []; whole = sym (append-nil t); seen = λ a w. absurd (cc (w.2)) }

  -- a read of a word that may be seen
  pub sees_read : (t u : Trace) (b v : ℕ) → u ≡ t ++ Read b v ∷ [] → IsSeen b → AppendsReads t u IsSeen
  unfolding place
  sees_read t u b v e seen = record {
    more = Read b v ∷ [];
    whole = e;
    seen = λ a w. let one : (x : ℕ) × (Read b v ≡ Read a x) = reads_one (Read b v) a w in subst IsSeen (ap place one.1) seen;
  }

  -- a write reads nothing
  sees_one_write : (t u : Trace) (b v : ℕ) → u ≡ t ++ Write b v ∷ [] → AppendsReads t u IsSeen
  sees_one_write t u b v e = record { more = Write b v ∷ []; whole = e; seen = λ a w. absurd (cc ((reads_one (Write b v) a w).1)) }

  -- one call after another
  pub sees_then : (t u v : Trace) → AppendsReads t u IsSeen → AppendsReads u v IsSeen → AppendsReads t v IsSeen
  sees_then t u v f g = record {
    more = f.more ++ g.more;
    whole = g.whole ∙ ap (λ z. z ++ g.more) f.whole ∙ append_assoc t f.more g.more;
    seen = λ a w. elim (reads_append f.more g.more a w) [ inl k ↦ f.seen a k | inr k ↦ g.seen a k ];
  }

  -- a write, which may read its word first
  pub sees_write : (t u : Trace) (b v : ℕ) → EndsWithWrite t u b v → IsSeen b → AppendsReads t u IsSeen
  sees_write t u b v (inl e) seen = sees_one_write t u b v e
  sees_write t u b v (inr e) seen =
      let whole : u ≡ (t ++ Read b e.0 ∷ []) ++ Write b v ∷ [] = e.1 ∙ sym (append_assoc t (Read b e.0 ∷ []) (Write b v ∷ [])) in
      sees_then t (t ++ Read b e.0 ∷ []) u (sees_read t (t ++ Read b e.0 ∷ []) b e.0 refl seen) (sees_one_write (t ++ Read b e.0 ∷ []) u b v whole)

-- a call that may see less may see more
pub sees_more : (IsSeen IsWider : ℕ → Type 0) (t u : Trace) → ((a : ℕ) → IsSeen a → IsWider a) → AppendsReads t u IsSeen → AppendsReads t u IsWider
sees_more IsSeen IsWider t u wider f = record { more = f.more; whole = f.whole; seen = λ a w. wider a (f.seen a w) }
