-- How what was seen grows read by read, and what a later call's relation says from an earlier state on.
use Rattle.txn_words.proofs.Common.{◌≡◌, ℕ, List, [], ◌∷◌, ◌++◌, slice_get, Some, refl, sym, ap, ◌∙◌, subst, Read, Trace, after, Begins, Fits, SomeFits, InEach}
use Rattle.txn_words.proofs.Common.{Leads, after_read, begins_refl, begins_trans, fits_begins, each_at, leads_at, InEachState, LeadsTo, WritesOnly, AppendsOnly}
use Rattle.txn_words.proofs.Common.{AppendsReads}
use Rattle.history_model.specs.declared.shape.Shape.{Ghosts as Shapes}
use Rattle.history_model.proofs.Traces.TraceLaws.{read_there}
use Rattle.history_model.proofs.Traces.FittingLaws.{some_at}
use Rattle.txn_words.specs.declared.words.Words.{Ghosts as AnyWords}
use Rattle.txn_words.specs.Calls.{WritesWithin, ReadsWithin}
use Rattle.txn_words.proofs.CallLaws.{leads_plain}
use Rattle.txn_words.proofs.FrameLaws.{only_same, only_read, only_then}
use Rattle.txn_words.proofs.ReadLaws.{sees_same, sees_read, sees_then, sees_more}
use Rattle.txn_words.specs.Looks.{Looks}

module _ (n : ℕ) (G : List ℕ → Type 0) (t : Trace) (IsSeen : List ℕ → ℕ → Type 0) where
  pub looks_none : (P : List ℕ → Type 0) → InEach n G t P → Looks n G t t IsSeen P
  looks_none P h = record {
    begins = begins_refl t;
    same = λ s fit. refl;
    writes = only_same (λ a. ⊥) t;
    reads = λ s fit. sees_same (IsSeen (after t s)) t;
    holds = h.at;
  }

  -- one look after another, if what was seen before tells that the later one sees no more
  pub looks_grow : (u v : Trace) (IsNear : List ℕ → ℕ → Type 0) (P Q : List ℕ → Type 0) → ((s : List ℕ) → P s → Q s → (a : ℕ) → IsNear s a → IsSeen s a)
      → Looks n G t u IsSeen P → Looks n G u v IsNear Q → Looks n G t v IsSeen (λ s. P s × Q s)
  looks_grow u v IsNear P Q step l m = record {
    begins = begins_trans t u v l.begins m.begins;
    same = λ s fit. m.same s fit ∙ l.same s (fits_begins n G u v s m.begins fit);
    writes = only_then (λ b. ⊥) t u v l.writes m.writes;
    reads = λ s fit.
        let fit_u : Fits n G u s = fits_begins n G u v s m.begins fit in
        let same : after u s ≡ after t s = l.same s fit_u in
        let before : P (after t s) = subst P same (l.holds s fit_u) in
        let later : Q (after t s) = subst Q (m.same s fit ∙ same) (m.holds s fit) in
        let near : AppendsReads u v (IsNear (after t s)) = subst (λ z. AppendsReads u v (IsNear z)) same (m.reads s fit) in
        sees_then (IsSeen (after t s)) t u v (l.reads s fit_u) (sees_more (IsNear (after t s)) (IsSeen (after t s)) u v (step (after t s) before later) near);
    holds = λ s fit. (subst P (sym (m.same s fit)) (l.holds s (fits_begins n G u v s m.begins fit)), m.holds s fit);
  }

  pub looks_then : (u v : Trace) (P Q : List ℕ → Type 0) → Looks n G t u IsSeen P → Looks n G u v IsSeen Q → Looks n G t v IsSeen (λ s. P s × Q s)
  looks_then u v P Q l m = looks_grow u v IsSeen P Q (λ s p q a k. k) l m

  pub looks_map : (u : Trace) (P Q : List ℕ → Type 0) → ((s : List ℕ) → P s → Q s) → Looks n G t u IsSeen P → Looks n G t u IsSeen Q
  looks_map u P Q step l = record { begins = l.begins; same = l.same; writes = l.writes; reads = l.reads; holds = λ s fit. step (after u s) (l.holds s fit) }

  -- what held before holds still
  pub looks_still : (u : Trace) (P Q : List ℕ → Type 0) → InEach n G t Q → Looks n G t u IsSeen P → Looks n G t u IsSeen (λ s. Q s × P s)
  looks_still u P Q each l = looks_then t u Q P (looks_none Q each) l

-- a look at one word
pub looks_at : (n : ℕ) (G : List ℕ → Type 0) (t v : Trace) (a x : ℕ) → v ≡ t ++ Read a x ∷ [] → Looks n G t v (λ s b. b ≡ a) (λ s. slice_get s a ≡ Some x)
looks_at n G t v a x e =
    let same : (s : List ℕ) → after v s ≡ after t s = λ s. ap (λ w. after w s) e ∙ after_read t s a x in
    record {
      begins = (Read a x ∷ [], e);
      same = λ s fit. same s;
      writes = only_read (λ b. ⊥) t v a x e;
      reads = λ s fit. sees_read (λ b. b ≡ a) t v a x e refl;
      holds = λ s fit. ap (λ z. slice_get z a) (same s) ∙ read_there t s a x ((subst (λ w. Fits n G w s) e fit).legal);
    }

-- one read more, of a word that what was seen before lets see
pub looks_read : (n : ℕ) (G : List ℕ → Type 0) (t : Trace) (IsSeen : List ℕ → ℕ → Type 0) (u v : Trace) (a x : ℕ)
    (P : List ℕ → Type 0) → Looks n G t u IsSeen P → v ≡ u ++ Read a x ∷ []
    → ((s : List ℕ) → P s → IsSeen s a) → Looks n G t v IsSeen (λ s. P s × (slice_get s a ≡ Some x))
looks_read n G t IsSeen u v a x P l e seen =
    looks_grow n G t IsSeen u v (λ s b. b ≡ a) P (λ s. slice_get s a ≡ Some x) (λ s p q b k. subst (IsSeen s) (sym k) (seen s p)) l (looks_at n G u v a x e)

-- what may see more
pub looks_wider : (n : ℕ) (G : List ℕ → Type 0) (t u : Trace) (IsSeen IsWider : List ℕ → ℕ → Type 0) (P : List ℕ
    → Type 0) → ((s : List ℕ) → P s → (a : ℕ) → IsSeen s a → IsWider s a) → Looks n G t u IsSeen P → Looks n G t u IsWider P
looks_wider n G t u IsSeen IsWider P wider l = record {
  begins = l.begins;
  same = l.same;
  writes = l.writes;
  reads = λ s fit. sees_more (IsSeen (after t s)) (IsWider (after t s)) t u (wider (after t s) (subst P (l.same s fit) (l.holds s fit))) (l.reads s fit);
  holds = l.holds;
}

module _ (n : ℕ) (G : List ℕ → Type 0) (t u : Trace) {IsSeen : List ℕ → ℕ → Type 0} {P : List ℕ → Type 0} (l : Looks n G t u IsSeen P) where
  -- the state is what it was as the look began
  pub leads_back : (v : Trace) (R : List ℕ → List ℕ → Type 0) → Begins u v → Leads n G u v R → Leads n G t v R
  leads_back v R b h = record { at = λ s fit. subst (λ z. R z (after v s)) (l.same s (fits_begins n G u v s b fit)) (h.at s fit) }

  -- what held still holds
  pub each_looked : (Q : List ℕ → Type 0) → InEach n G t Q → InEach n G u Q
  each_looked Q o = record { at = λ s fit. subst Q (sym (l.same s fit)) (o.at s (fits_begins n G t u s l.begins fit)) }

  -- what was seen held as the look began
  pub seen_before : (s : List ℕ) → Fits n G u s → P (after t s)
  seen_before s fit = subst P (l.same s fit) (l.holds s fit)

module _ {W S O : Type 0} (words : AnyWords W S O) (shapes : Shapes S) (v w : W) (IsSeen : List ℕ → ℕ → Type 0) (P : List ℕ → Type 0)
    (l : Looks (shapes.word_count (words.shape v)) (shapes.good (words.shape v)) (words.trace v) (words.trace w) IsSeen P) where
  pub looks_each : words.shape w ≡ words.shape v → InEachState words shapes w P
  looks_each e = record { at = (each_at shapes.word_count shapes.good (words.trace w) P (words.shape v) (words.shape w) (sym e) (record { at = l.holds })).at }

  pub looks_only : WritesOnly words v w (λ a. ⊥)
  looks_only = record { appended = l.writes }

-- a later look, said at the shape that an earlier call began with
pub looks_from : {W S O : Type 0} (words : AnyWords W S O) (shapes : Shapes S) (u v : W) (t y : Trace) (IsSeen : List ℕ
    → ℕ → Type 0) (P : List ℕ → Type 0) → words.shape v ≡ words.shape u
    → Looks (shapes.word_count (words.shape v)) (shapes.good (words.shape v)) t y IsSeen P
    → Looks (shapes.word_count (words.shape u)) (shapes.good (words.shape u)) t y IsSeen P
looks_from words shapes u v t y IsSeen P e l = subst (λ z. Looks (shapes.word_count z) (shapes.good z) t y IsSeen P) e l

-- a later call's relation, likewise
pub leads_from : {W S O : Type 0} (words : AnyWords W S O) (shapes : Shapes S) (u v w : W) (R : List ℕ → List ℕ
    → Type 0) → words.shape v ≡ words.shape u → LeadsTo words shapes v w R
    → Leads (shapes.word_count (words.shape u)) (shapes.good (words.shape u)) (words.trace v) (words.trace w) R
leads_from words shapes u v w R e h =
    leads_at shapes.word_count shapes.good (words.trace v) (words.trace w) R (words.shape v) (words.shape u) e (leads_plain words shapes v w R h)

pub each_from : {W S O : Type 0} (words : AnyWords W S O) (shapes : Shapes S) (u v : W) (P : List ℕ → Type 0) → words.shape v ≡ words.shape u
    → InEach (shapes.word_count (words.shape u)) (shapes.good (words.shape u)) (words.trace v) P → InEachState words shapes v P
each_from words shapes u v P e h = record { at = (each_at shapes.word_count shapes.good (words.trace v) P (words.shape u) (words.shape v) (sym e) h).at }

-- a list that fits what a later call left, likewise
pub some_from : {W S O : Type 0} (words : AnyWords W S O) (shapes : Shapes S) (u v : W) → words.shape v ≡ words.shape u
    → SomeFits (shapes.word_count (words.shape v)) (shapes.good (words.shape v)) (words.trace v)
    → SomeFits (shapes.word_count (words.shape u)) (shapes.good (words.shape u)) (words.trace v)
some_from words shapes u v e some = some_at shapes.word_count shapes.good (words.trace v) (words.shape v) (words.shape u) e some

-- a later call's frame, likewise
pub within_from : {W S O : Type 0} (words : AnyWords W S O) (shapes : Shapes S) (u v w : W) (IsOwn : List ℕ → List ℕ → ℕ
    → Type 0) → words.shape v ≡ words.shape u → WritesWithin words shapes v w IsOwn
    → (s : List ℕ) → Fits (shapes.word_count (words.shape u)) (shapes.good (words.shape u)) (words.trace w) s
    → AppendsOnly (words.trace v) (words.trace w) (IsOwn (after (words.trace v) s) (after (words.trace w) s))
within_from words shapes u v w IsOwn e h s fit = h.at s (subst (λ z. Fits (shapes.word_count z) (shapes.good z) (words.trace w) s) (sym e) fit)

-- what a later call read, likewise
pub reads_from : {W S O : Type 0} (words : AnyWords W S O) (shapes : Shapes S) (u v w : W) (IsSeen : List ℕ → List ℕ → ℕ
    → Type 0) → words.shape v ≡ words.shape u → ReadsWithin words shapes v w IsSeen
    → (s : List ℕ) → Fits (shapes.word_count (words.shape u)) (shapes.good (words.shape u)) (words.trace w) s
    → AppendsReads (words.trace v) (words.trace w) (IsSeen (after (words.trace v) s) (after (words.trace w) s))
reads_from words shapes u v w IsSeen e h s fit = h.at s (subst (λ z. Fits (shapes.word_count z) (shapes.good z) (words.trace w) s) (sym e) fit)
