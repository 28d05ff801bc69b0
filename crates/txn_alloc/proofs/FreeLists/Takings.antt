-- The search for the first list that is not empty, and what a take does, in every fitting state at once.
use Rattle.txn_alloc.proofs.Common.{◌≡◌, ℕ, ◌+◌, ◌%◌, ◌<◌, ◌≤◌, List, [], ◌∷◌, ◌++◌, slice_get, slice_set, Some, sym, ap, ◌∙◌, subst, arith, dite, ℕ_discrete}
use Rattle.txn_alloc.proofs.Common.{Read, Trace, after, Begins, Fits, SomeFits, InEach, Leads, read_there, after_read, fits_front, fits_begins, Looks}
use Rattle.txn_alloc.proofs.Common.{EndsWithWrite, after_write_end, fits_write_end, looks_read, looks_wider, seen_before, Arena, HEADS, block_at, head_of}
use Rattle.txn_alloc.proofs.Common.{steps_to, IsHead, IsHeadTo, IsNearest, IsInOrder, FreeListsHold, HasNone, TakesBlock, Takes}
use Rattle.txn_words.proofs.Looks.{looks_none, looks_map, looks_still}
use Rattle.txn_alloc.proofs.FreeLists.Rounds.{is_head, same_head, from_own, steps_are, round_at}
use Rattle.txn_alloc.proofs.FreeLists.Lists.{none_free, took, head_names}

-- no list up to here names a block
abbrev pub AreEmpty : Arena → ℕ → ℕ → List ℕ → Type 0
AreEmpty arena near passed words = (i : ℕ) → i < passed → slice_get words (head_of arena (near + i)) ≡ Some 0

-- a is the head of one of the lists up to here
abbrev pub IsHeadWithin : Arena → ℕ → ℕ → List ℕ → ℕ → Type 0
IsHeadWithin arena near passed words a = (i : ℕ) × (i < passed) × (a ≡ head_of arena (near + i))

-- no head names a block
abbrev pub AreAllEmpty : Arena → List ℕ → Type 0
AreAllEmpty arena words = (h : ℕ) → h < HEADS → slice_get words (arena.heads + h) ≡ Some 0

empty_more : (arena : Arena) (near passed : ℕ) (s : List ℕ) → AreEmpty arena near passed s
    → slice_get s (head_of arena (near + passed)) ≡ Some 0 → AreEmpty arena near (passed + 1) s
empty_more arena near passed s empty last i lt =
    dite (ℕ_discrete i passed) (λ e. ap (λ k. slice_get s (head_of arena (near + k))) e ∙ last) (λ ne. empty i (omega arith))

-- the list that is first not to be empty has the block that its head names at its head
nearest_at : (arena : Arena) (near passed b : ℕ) (s : List ℕ) → passed < HEADS → IsInOrder arena s
    → AreEmpty arena near passed s → slice_get s (head_of arena (near + passed)) ≡ Some (b + 1)
    → (steps_to near b ≡ passed) × (b < arena.blocks) × IsNearest arena near b s
nearest_at arena near passed b s few order empty there =
    let names = head_names (near + passed) b there order.1 in
    let steps : steps_to near b ≡ passed = steps_are near b passed few names.1 in (
      steps,
      names.0,
      record {
        there = ap (slice_get s) (same_head arena b (near + passed) names.1) ∙ there;
        empty = λ i lt. empty i (subst (λ (k : ℕ). i < k) steps lt);
      },
    )

module _ (arena : Arena) (near n : ℕ) (G : List ℕ → Type 0) (t : Trace) where
  pub none_passed : Looks n G t t (IsHeadWithin arena near 0) (AreEmpty arena near 0)
  none_passed = looks_none n G t (IsHeadWithin arena near 0) (AreEmpty arena near 0) (record { at = λ s fit i lt. absurd (omega arith) })

  -- one head more was read
  module _ (u v : Trace) (passed a x : ℕ) (l : Looks n G t u (IsHeadWithin arena near passed)
      (AreEmpty arena near passed)) (is_a : a ≡ head_of arena (near % HEADS + passed)) (e : v ≡ u ++ Read a x ∷ []) where
    is_place : a ≡ head_of arena (near + passed)
    is_place = is_a ∙ ap (λ k. arena.heads + k) (from_own near passed)

    one_read : Looks n G t v (IsHeadWithin arena near (passed + 1)) (λ s. AreEmpty arena near passed s × (slice_get s (head_of arena (near + passed)) ≡ Some x))
    one_read = looks_map n G t (IsHeadWithin arena near (passed + 1)) v _ (λ s. AreEmpty arena near passed s
        × (slice_get s (head_of arena (near + passed)) ≡ Some x)) (λ s h. (h.0, ap (slice_get s) (sym is_place) ∙ h.1))
        (looks_read n G t (IsHeadWithin arena near (passed + 1)) u v a x (AreEmpty arena near passed)
        (looks_wider n G t u (IsHeadWithin arena near passed) (IsHeadWithin arena near (passed + 1))
        (AreEmpty arena near passed) (λ s p b k. (k.0, omega (arith, k.1), k.2)) l)
        e (λ s p. (passed, omega arith, is_place)))

    pub one_passed : x ≡ 0 → Looks n G t v (IsHeadWithin arena near (passed + 1)) (AreEmpty arena near (passed + 1))
    one_passed z = looks_map n G t (IsHeadWithin arena near (passed + 1)) v _ (AreEmpty arena near (passed + 1))
        (λ s h. empty_more arena near passed s h.0 (h.1 ∙ ap Some z)) one_read

    -- it names a block
    module _ (b : ℕ) (few : passed < HEADS) (names : x ≡ b + 1) (order : InEach n G t (IsInOrder arena)) where
      in_order : Looks n G t v (IsHeadWithin arena near (passed + 1)) (λ s. IsInOrder arena s
          × (AreEmpty arena near passed s × (slice_get s (head_of arena (near + passed)) ≡ Some x)))
      in_order = looks_still n G t (IsHeadWithin arena near (passed + 1)) v _ (IsInOrder arena) order one_read

      found_at : (s : List ℕ) → IsInOrder arena s
          × (AreEmpty arena near passed s × (slice_get s (head_of arena (near + passed)) ≡ Some x))
          → (steps_to near b ≡ passed) × (b < arena.blocks) × IsNearest arena near b s
      found_at s h = nearest_at arena near passed b s few h.0 h.1.0 (h.1.1 ∙ ap Some names)

      pub found_block : Looks n G t v (λ s. IsHeadTo arena near b) (IsNearest arena near b)
      found_block = looks_map n G t (λ s. IsHeadTo arena near b) v _ (IsNearest arena near b) (λ s h. (found_at s h).2)
          (looks_wider n G t v (IsHeadWithin arena near (passed + 1)) (λ s. IsHeadTo arena near b) _
          (λ s h a k. let steps = (found_at s h).0 in (k.0, omega (arith, k.1), k.2)) in_order)

      pub found_below : SomeFits n G v → b < arena.blocks
      found_below some = (found_at (after v some.0) (in_order.holds some.0 some.1)).1

  -- all heads were read
  pub all_passed : {u : Trace} (passed : ℕ) → HEADS ≤ passed
      → Looks n G t u (IsHeadWithin arena near passed) (AreEmpty arena near passed) → Looks n G t u (λ s. IsHead arena) (AreAllEmpty arena)
  all_passed {u} passed le l = looks_map n G t (λ s. IsHead arena) u (AreEmpty arena near passed) (AreAllEmpty arena)
      (λ s empty h lt. let at = round_at near h lt in ap (λ k. slice_get s (arena.heads + k)) (sym at.2) ∙ empty at.0 (omega (arith, at.1)))
      (looks_wider n G t u (IsHeadWithin arena near passed) (λ s. IsHead arena) (AreEmpty arena near passed)
      (λ s p a k. subst (IsHead arena) (sym k.2) (is_head arena (near + k.0))) l)

  -- no block was free
  pub found_none : {u : Trace} → Looks n G t u (λ s. IsHead arena) (AreAllEmpty arena) → InEach n G t (IsInOrder arena)
      → Leads n G t u (λ before after. HasNone arena before)
  found_none {u} l order = record {
    at = λ s fit.
        let o : IsInOrder arena (after t s) = order.at s (fits_begins n G t u s l.begins fit) in
        subst (FreeListsHold arena (after t s)) (none_free (seen_before n G t u l s fit) o.1) o.1;
  }

  -- the block at the head of the first list was taken
  module _ {u : Trace} {b : ℕ} (l : Looks n G t u (λ s. IsHeadTo arena near b) (IsNearest arena near b)) where
    pub takes_nearest : (w : Trace) → Begins u w → Leads n G t w (λ before after. IsNearest arena near b before)
    takes_nearest w begins = record { at = λ s fit. seen_before n G t u l s (fits_begins n G u w s begins fit) }

    pub takes_some : (v w : Trace) (p q x : ℕ) → p ≡ block_at arena b → v ≡ u ++ Read p x ∷ [] → q ≡ head_of arena b
        → EndsWithWrite v w q x → Leads n G t w (Takes arena (Some b))
    takes_some v w p q x is_p e is_q ends = record {
      at = λ s fit f hold.
          let fit_v : Fits n G v s = fits_write_end n G v w q x s ends fit in
          let whole : Fits n G (u ++ Read p x ∷ []) s = subst (λ z. Fits n G z s) e fit_v in
          let fit_u : Fits n G u s = fits_front n G u (Read p x ∷ []) s whole in
          let same_u : after u s ≡ after t s = l.same s fit_u in
          let same_v : after v s ≡ after t s = ap (λ z. after z s) e ∙ after_read u s p x ∙ same_u in
          let at_p : slice_get (after t s) p ≡ Some x = ap (λ z. slice_get z p) (sym same_u) ∙ read_there u s p x whole.legal in
          let at_block : slice_get (after t s) (block_at arena b) ≡ Some x = ap (slice_get (after t s)) (sym is_p) ∙ at_p in
          let last : after w s ≡ slice_set (after t s) (head_of arena b) x = after_write_end v w q x s ends
          ∙ ap (λ z. slice_set z q x) same_v ∙ ap (λ k. slice_set (after t s) k x) is_q in
          subst (λ z. TakesBlock arena b (after t s) z f) (sym last) (took b x (seen_before n G t u l s fit_u).there at_block hold);
    }
