-- Words in a plain list, after one event more.
use Rattle.txn_words.proofs.Common.{◌≡◌, ℕ, zero, suc, ◌<◌, List, [], ◌∷◌, ◌++◌, length, slice_get, slice_set, Option, Some, true, Result, Ok, Err, sym, ap}
use Rattle.txn_words.proofs.Common.{◌∙◌, subst, arith, slice_get_within, get_or_from_slice_get, Stop, Read, Write, Trace, Fits, Notes, written_back}
use Rattle.txn_words.proofs.Common.{count_writes, after_read, after-append, length-after, fits_front, notes_counted}
use Rattle.std.proofs.Common.{All, Bool, false, if◌then◌else◌, OnOk}
use Rattle.std.proofs.lemmas.List.Elements.{All-append}
use Rattle.history_model.specs.Traces.{after, IsLegalTrace}
use Rattle.history_model.specs.Fitting.{IsGood}
use Rattle.history_model.specs.Undoing.{notes_of}
use Rattle.history_model.proofs.Traces.TraceLaws.{legal_read, legal_whole}
use Rattle.history_model.proofs.Traces.UndoLaws.{writes_undone}
use Rattle.history_model.proofs.Traces.MarkLaws.{one_note_more, read_unnoted}
use Rattle.txn_words.specs.Plainly.{PlainView, Follows}

one_within : (a was n : ℕ) → a < n → All (λ (note : ℕ × ℕ). note.0 < n) ((a, was) ∷ [])
one_within a was n lt zero d near = lt
one_within a was n lt (suc k) d near = absurd (omega arith)

-- words that nothing was done to
pub follows_fresh : (n : ℕ) (G : List ℕ → Type 0) (origin : List ℕ) (t : Trace) (notes : Notes) (words : List ℕ)
    → IsGood n G words → t ≡ [] → notes ≡ [] → origin ≡ words → Follows n G origin t notes words
unfolding after notes_of IsLegalTrace
follows_fresh n G origin t notes words good fresh none same = record {
  fits = subst (λ (u : Trace). Fits n G u origin) (sym fresh)
      (subst (λ (w : List ℕ). Fits n G [] w) (sym same) (record { count = good.count; good = good.good; legal = tt }));
  same = sym same ∙ ap (λ (u : Trace). after u origin) (sym fresh);
  noted = λ s fit. none ∙ ap (λ (u : Trace). notes_of u s) (sym fresh);
  within = subst (λ (l : Notes). All (λ note. note.0 < n) l) (sym none) (λ k d lt. absurd (omega arith));
}

module _ (n : ℕ) (G : List ℕ → Type 0) (origin : List ℕ) (t : Trace) (notes : Notes) (words : List ℕ) (f : Follows n G origin t notes words) where
  -- there are as many words as the shape says
  pub follows_count : length words ≡ n
  follows_count = ap length f.same ∙ length-after t origin ∙ f.fits.count

  -- and as many notes as writes
  pub follows_noted : length notes ≡ count_writes t
  follows_noted = ap length (f.noted origin f.fits) ∙ notes_counted t origin

  -- written back they restore the list
  pub follows_restores : written_back notes words ≡ origin
  follows_restores =
      ap (λ (l : Notes). written_back l words) (f.noted origin f.fits)
      ∙ ap (λ (w : List ℕ). written_back (notes_of t origin) w) f.same
      ∙ writes_undone t origin

  -- a read of the value that is there
  pub follows_read : (a v : ℕ) → slice_get words a ≡ Some v → Follows n G origin (t ++ Read a v ∷ []) notes words
  follows_read a v found = record {
    fits = record {
      count = f.fits.count;
      good = f.fits.good;
      legal = legal_read t origin a v f.fits.legal (ap (λ xs. slice_get xs a) (sym f.same) ∙ found);
    };
    same = f.same ∙ sym (after_read t origin a v);
    noted = λ s fit. f.noted s (fits_front n G t (Read a v ∷ []) s fit) ∙ sym (read_unnoted t s a v);
    within = f.within;
  }

  -- a read of the value that is there and a write, to the trace, to the notes and to the words
  pub follows_write : (a was v : ℕ) → a < n → slice_get words a ≡ Some was
      → Follows n G origin (t ++ Read a was ∷ Write a v ∷ []) (notes ++ (a, was) ∷ []) (slice_set words a v)
  unfolding after IsLegalTrace
  follows_write a was v lt found = record {
    fits = record {
      count = f.fits.count;
      good = f.fits.good;
      legal = legal_whole t (Read a was ∷ Write a v ∷ []) origin f.fits.legal (ap (λ xs. slice_get xs a) (sym f.same) ∙ found, tt);
    };
    same = ap (λ xs. slice_set xs a v) f.same ∙ sym (after-append t (Read a was ∷ Write a v ∷ []) origin);
    noted = λ s fit. ap (λ (l : Notes). l ++ (a, was) ∷ [])
        (f.noted s (fits_front n G t (Read a was ∷ Write a v ∷ []) s fit)) ∙ sym (one_note_more t s a was v fit.legal);
    within = All-append (λ note. note.0 < n) notes ((a, was) ∷ []) f.within (one_within a was n lt);
  }

-- parts of a view, for `ap`
abbrev pub shape_of : {S : Type 0} → PlainView S → S
shape_of view = view.shape

abbrev pub stop_of : {S : Type 0} → PlainView S → Option Stop
stop_of view = view.stop

-- a noted word is one of the shape's
pub note_within : (n : ℕ) (notes : Notes) (i : ℕ) (note : ℕ × ℕ) → All (λ (x : ℕ × ℕ). x.0 < n) notes → slice_get notes i ≡ Some note → note.0 < n
note_within n notes i note all e = subst (λ (x : ℕ × ℕ). x.0 < n) (get_or_from_slice_get notes i note note e) (all i note (slice_get_within notes i note e))

abbrev pub trace_of : {S : Type 0} → PlainView S → Trace
trace_of view = view.trace

abbrev pub origin_of : {S : Type 0} → PlainView S → List ℕ
origin_of view = view.origin

-- a view whose trace has grown
pub grows : {S : Type 0} (p q : PlainView S) (t more : Trace) → p ≡ q → t ≡ p.trace ++ more → record p { trace = t } ≡ record q { trace = q.trace ++ more }
grows {S} p q t more e f = ap (λ (u : Trace). record p { trace = u }) f ∙ ap (λ (z : PlainView S). record z { trace = z.trace ++ more }) e

pub same_more : {S : Type 0} (p q r : PlainView S) → q ≡ record p { trace = q.trace } → r ≡ record q { trace = r.trace } → r ≡ record p { trace = r.trace }
same_more {S} p q r e f = f ∙ ap (λ (z : PlainView S). record z { trace = r.trace }) e

-- what was noted of a write, on every list on which the trace is legal
pub noted_at : {S : Type 0} (count : S → ℕ) (good : S → List ℕ → Type 0) (p q : PlainView S) (notes : Notes) (i : ℕ) (note : ℕ × ℕ) → p ≡ q
    → ((s : List ℕ) → Fits (count p.shape) (good p.shape) p.trace s → notes ≡ notes_of p.trace s) → slice_get notes i ≡ Some note
    → (s : List ℕ) → Fits (count q.shape) (good q.shape) q.trace s → slice_get (notes_of q.trace s) i ≡ Some note
noted_at {S} count good p q notes i note e noted there =
    subst (λ (z : PlainView S). (s : List ℕ) → Fits (count z.shape) (good z.shape) z.trace s → slice_get (notes_of z.trace s) i ≡ Some note) e
    (λ s fit. ap (λ (l : Notes). slice_get l i) (sym (noted s fit)) ∙ there)

-- a push that found room
pub pushed : {X : Type 0} (made : Bool) (new old : List X) (x : X) → new ≡ (if made then old ++ x ∷ [] else old) → made ≡ true → new ≡ old ++ x ∷ []
pushed true new old x e k = e
pushed false new old x e k = absurd (cc)

pub map_ok : {A E P Q : Type 0} (r : Result A E) → (P → Q) → OnOk r P → OnOk r Q
map_ok (Ok x) f p = f p
map_ok (Err x) f p = p
