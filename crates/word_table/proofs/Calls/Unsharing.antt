-- Read bits given up, by rising lock.
use Rattle.word_table.proofs.Common.{◌≡◌, ◌≢◌, ℕ, zero, suc, ◌+◌, ◌*◌, ◌/◌, ◌<◌, ◌≤◌, Bool, true, false, ◌⊎◌, inl, inr, ⊎_elim, List, [], ◌∷◌, length, Some}
use Rattle.word_table.proofs.Common.{refl, sym, ap, ◌∙◌, subst, arith, filter, range_with_len, cases_lt, dite, ℕ_discrete, LOCKS, View, Phase, Idle, Running}
use Rattle.word_table.proofs.Common.{Yielding, Withdrawing, Releasing, has, without, number, HasBit, HasReadGrant, differ, not_true, has-without}
use Rattle.word_table.proofs.Common.{has-without_same, has-without_other, clear_read_bit_action, released_phase, PassView, ClearsMore, TakenIn, IsLeast}
use Rattle.std.proofs.Math.Bool.{cond}
use Rattle.word_table.specs.Unsharing.{ClearsEach, rising}
use Rattle.word_table.proofs.Copied.After.{releases_on}

-- sets that have the same numbers from a on have the same ones listed
listed_same : (p q : ℕ → Bool) (n a : ℕ) → ((j : ℕ) → a ≤ j → p j ≡ q j) → filter p (range_with_len a n) ≡ filter q (range_with_len a n)
listed_same p q zero a same = refl
listed_same p q (suc n) a same =
    let rest : filter p (range_with_len (a + 1) n) ≡ filter q (range_with_len (a + 1) n) = listed_same p q n (a + 1) (λ j le. same j (omega arith)) in
    ap (λ (b : Bool). cond b (a ∷ filter p (range_with_len (a + 1) n)) (filter p (range_with_len (a + 1) n))) (same a (omega arith))
    ∙ ap (λ (l : List ℕ). cond (q a) (a ∷ l) l) rest

-- without a number there is none to list
listed_none : (p : ℕ → Bool) (n a : ℕ) → ((j : ℕ) → j < a + n → p j ≡ false) → filter p (range_with_len a n) ≡ []
listed_none p zero a none = refl
listed_none p (suc n) a none =
    ap (λ (b : Bool). cond b (a ∷ filter p (range_with_len (a + 1) n)) (filter p (range_with_len (a + 1) n))) (none a (omega arith))
    ∙ listed_none p n (a + 1) (λ j lt. none j (omega arith))

-- the least number comes first, and those of the set without it follow
listed_first : (p q : ℕ → Bool) (k n a : ℕ) → a ≤ k → k < a + n → p k ≡ true → q k ≡ false → ((j : ℕ) → j < k → p j ≡ false)
    → ((j : ℕ) → j ≢ k → p j ≡ q j) → filter p (range_with_len a n) ≡ k ∷ filter q (range_with_len a n)
listed_first p q k zero a le lt it gone least same = absurd (omega arith)
listed_first p q k (suc n) a le lt it gone least same =
    let ps : List ℕ = filter p (range_with_len (a + 1) n) in let qs : List ℕ = filter q (range_with_len (a + 1) n) in
    dite (ℕ_discrete a k)
    (λ (e : a ≡ k). ap (λ (b : Bool). cond b (a ∷ ps) ps) (ap p e ∙ it)
    ∙ (ap (λ (l : List ℕ). a ∷ l) (listed_same p q n (a + 1) (λ j far. same j (λ f. omega arith)))
    ∙ (ap (λ (x : ℕ). x ∷ qs) e ∙ ap (λ (b : Bool). k ∷ cond b (a ∷ qs) qs) (sym (ap q e ∙ gone)))))
    (λ ne. let early : a < k = omega arith in
    ap (λ (b : Bool). cond b (a ∷ ps) ps) (least a early)
    ∙ (listed_first p q k n (a + 1) (omega arith) (omega arith) it gone least same
    ∙ ap (λ (b : Bool). k ∷ cond b (a ∷ qs) qs) (sym (sym (same a ne) ∙ least a early))))

rising_first : (locks : List ℕ) (k : ℕ) → k < LOCKS → IsLeast (λ j. has j locks ≡ true) (Some k) → rising locks ≡ k ∷ rising (without k locks)
unfolding rising
rising_first locks k near least = listed_first (λ j. has j locks) (λ j. has j (without k locks)) k LOCKS 0 (omega arith) near least.0
    (has-without_same k locks) (λ j lt. not_true (has j locks) (least.1 j lt)) (λ j ne. sym (has-without_other j k locks ne))

rising_none : (locks : List ℕ) → ((k : ℕ) → k < LOCKS → ¬ (has k locks ≡ true)) → rising locks ≡ []
unfolding rising
rising_none locks none = listed_none (λ j. has j locks) LOCKS 0 (λ j lt. not_true (has j locks) (none j lt))

-- once its bit is cleared, one lock fewer has one
bits_next : (v w : View) (k : ℕ) → k < LOCKS → IsLeast (HasBit v) (Some k) → w.bits ≡ without k v.bits → rising v.bits ≡ k ∷ rising w.bits
bits_next v w k near least gone = rising_first v.bits k near least ∙ ap (λ (l : List ℕ). k ∷ rising l) (sym gone)

pub fewer_bits : (v w : View) (k : ℕ) → k < LOCKS → IsLeast (HasBit v) (Some k) → w.bits ≡ without k v.bits
    → length (rising w.bits) < length (rising v.bits)
fewer_bits v w k near least gone =
    let fewer : length (rising v.bits) ≡ suc (length (rising w.bits)) = ap (λ (l : List ℕ). length l) (bits_next v w k near least gone) in omega arith

-- and none that had none before
pub bits_left : (v w : View) (k l : ℕ) → w.bits ≡ without k v.bits → HasBit w l → HasBit v l
bits_left v w k l gone bit = (has-without l k v.bits (ap (λ (bits : List ℕ). has l bits) (sym gone) ∙ bit)).1

-- none before a word, and this is the least of its locks
pub least_of_word : (v : View) (i k : ℕ) → ((j : ℕ) → j < 64 * i → ¬ HasBit v j) → IsLeast (λ j. (j / 64 ≡ i) × HasBit v j) (Some k)
    → IsLeast (HasBit v) (Some k)
least_of_word v i k before least = (
  least.0.1,
  λ j lt bit. ⊎_elim (λ (early : j < 64 * i). before j early bit)
      (λ (late : 64 * i ≤ j). least.1 j lt (let word : k / 64 ≡ i = least.0.0 in omega arith, bit)) (cases_lt j (64 * i)),
)

pub none_of_word : (v : View) (i : ℕ) → ((j : ℕ) → j < 64 * i → ¬ HasBit v j) → ((j : ℕ) → ¬ ((j / 64 ≡ i) × HasBit v j))
    → (j : ℕ) → j < 64 * (i + 1) → ¬ HasBit v j
none_of_word v i before none j lt bit = ⊎_elim (λ (early : j < 64 * i). before j early bit)
    (λ (late : 64 * i ≤ j). none j (omega arith, bit)) (cases_lt j (64 * i))

-- what is undone stays so, and a call that has begun has
still_undone : (v : View) (phase : Phase) → phase ≡ released_phase v.phase → (v.undo ≡ []) ⊎ (v.phase ≡ Releasing) → (v.undo ≡ []) ⊎ (phase ≡ Releasing)
still_undone v phase e = ⊎_elim (λ (none : v.undo ≡ []). inl none) (λ (over : v.phase ≡ Releasing). inr (e ∙ ap released_phase over))

module _ (sound : List ℕ → List View → Type 0) where
  pub clears_none : (pass : PassView) → (pass.view.undo ≡ []) ⊎ (pass.view.phase ≡ Releasing) → pass.view.phase ≢ Idle → ClearsMore sound pass pass
  clears_none pass undone begun = record { steps = refl; goes_on = λ last h. h; undone = undone; begun = begun }

  -- the bit of the least lock that has one is the next to go
  pub clears_one : (old new : PassView) (k found : ℕ) → k < LOCKS → IsLeast (HasBit old.view) (Some k)
      → TakenIn sound (clear_read_bit_action (number old.view) k old.view) old.view found new.view → new.steps ≡ old.steps + 1
      → (old.view.undo ≡ []) ⊎ (old.view.phase ≡ Releasing) → old.view.phase ≢ Idle → ClearsMore sound old new
  unfolding ClearsEach
  clears_one old new k found near least taken step undone begun =
      let next : rising old.view.bits ≡ k ∷ rising new.view.bits = bits_next old.view new.view k near least (ap (λ (u : View). u.bits) taken.view) in record {
        steps = let fewer : length (rising old.view.bits) ≡ suc (length (rising new.view.bits)) = ap (λ (l : List ℕ). length l) next in omega arith;
        goes_on = λ last h. subst (λ (l : List ℕ). ClearsEach sound l old.view last) (sym next) (found, new.view, (taken, h));
        undone = subst (λ (u : View). (u.undo ≡ []) ⊎ (u.phase ≡ Releasing)) (sym taken.view)
            (still_undone old.view (released_phase old.view.phase) refl undone);
        begun = subst (λ (u : View). u.phase ≢ Idle) (sym taken.view) (releases_on old.view.phase begun);
      }

  pub clears_join : (first mid last : PassView) → ClearsMore sound first mid → ClearsMore sound mid last → ClearsMore sound first last
  clears_join first mid last c d = record {
    steps = let early = c.steps in let late = d.steps in omega arith;
    goes_on = λ w h. c.goes_on w (d.goes_on w h);
    undone = d.undone;
    begun = d.begun;
  }

  -- if no bit is left, all were cleared
  pub clears_all : (first last : PassView) → ClearsMore sound first last → ((k : ℕ) → k < LOCKS → ¬ HasBit last.view k)
      → (last.steps ≡ first.steps + length (rising first.view.bits)) × ClearsEach sound (rising first.view.bits) first.view last.view
  unfolding ClearsEach
  clears_all first last c none =
      let over : rising last.view.bits ≡ [] = rising_none last.view.bits none in (
        (let nought : length (rising last.view.bits) ≡ 0 = ap (λ (l : List ℕ). length l) over in let steps = c.steps in omega arith),
        c.goes_on last.view (subst (λ (l : List ℕ). ClearsEach sound l last.view last.view) (sym over) refl),
      )

  -- all but bits, grants and the phase stays
  pub cleared_rest : (locks : List ℕ) (v w : View) → ClearsEach sound locks v w → w ≡ record v { phase = w.phase; bits = w.bits; reads = w.reads }
  unfolding ClearsEach
  cleared_rest [] v w h = h ∙ ap (λ (u : View). record v { phase = u.phase; bits = u.bits; reads = u.reads }) (sym h)
  cleared_rest (k ∷ locks) v w h = cleared_rest locks h.1 w h.2.1
      ∙ ap (λ (u : View). record u { phase = w.phase; bits = w.bits; reads = w.reads }) h.2.0.view

  released_twice : (p : Phase) → released_phase (released_phase p) ≡ released_phase p
  released_twice Idle = refl
  released_twice Running = refl
  released_twice Yielding = refl
  released_twice Withdrawing = refl
  released_twice Releasing = refl

  pub cleared_phase : (locks : List ℕ) (v w : View) → ClearsEach sound locks v w → (w.phase ≡ v.phase) ⊎ (w.phase ≡ released_phase v.phase)
  unfolding ClearsEach
  cleared_phase [] v w h = inl (ap (λ (u : View). u.phase) h)
  cleared_phase (k ∷ locks) v w h = let once : h.1.phase ≡ released_phase v.phase = ap (λ (u : View). u.phase) h.2.0.view in
      inr (⊎_elim (λ (same : w.phase ≡ h.1.phase). same ∙ once)
      (λ (again : w.phase ≡ released_phase h.1.phase). again ∙ (ap released_phase once ∙ released_twice v.phase))
      (cleared_phase locks h.1 w h.2.1))

  -- no bit and no grant is new
  pub cleared_bits : (locks : List ℕ) (v w : View) → ClearsEach sound locks v w → (l : ℕ) → HasBit w l → HasBit v l
  unfolding ClearsEach
  cleared_bits [] v w h l bit = subst (λ (u : View). HasBit u l) h bit
  cleared_bits (k ∷ locks) v w h l bit = (has-without l k v.bits (ap (λ (u : View). has l u.bits) (sym h.2.0.view)
      ∙ cleared_bits locks h.1 w h.2.1 l bit)).1

  cleared_reads : (locks : List ℕ) (v w : View) → ClearsEach sound locks v w → (l : ℕ) → HasReadGrant w l → HasReadGrant v l
  unfolding ClearsEach
  cleared_reads [] v w h l read = subst (λ (u : View). HasReadGrant u l) h read
  cleared_reads (k ∷ locks) v w h l read = (has-without l k v.reads (ap (λ (u : View). has l u.reads) (sym h.2.0.view)
      ∙ cleared_reads locks h.1 w h.2.1 l read)).1

  -- with its bit goes the grant of a lock
  pub cleared_grants : (locks : List ℕ) (v w : View) → ClearsEach sound locks v w → (l : ℕ) → HasBit v l → ¬ HasBit w l → ¬ HasReadGrant w l
  unfolding ClearsEach
  cleared_grants [] v w h l bit gone = absurd (gone (subst (λ (u : View). HasBit u l) (sym h) bit))
  cleared_grants (k ∷ locks) v w h l bit gone = dite (ℕ_discrete l k)
      (λ (e : l ≡ k). λ read. differ (has l h.1.reads) (cleared_reads locks h.1 w h.2.1 l read)
      (ap (λ (u : View). has l u.reads) h.2.0.view ∙ (ap (λ (x : ℕ). has l (without x v.reads)) (sym e) ∙ has-without_same l v.reads)))
      (λ ne. cleared_grants locks h.1 w h.2.1 l
      (ap (λ (u : View). has l u.bits) h.2.0.view ∙ (has-without_other l k v.bits ne ∙ bit)) gone)
