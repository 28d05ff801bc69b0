-- Going back to a mark.
use Rattle.history_model.proofs.Common.{◌≡◌, ℕ, zero, suc, ◌<◌, List, [], ◌∷◌, ◌++◌, length, slice_get, slice_set, slice_index, Option, Some, refl, sym, ap}
use Rattle.history_model.proofs.Common.{◌∙◌, subst, arith, eq-eqb, dite, ℕ_discrete, append_assoc, append-nil, get_or_from_slice_get, same_Some, Read, Write}
use Rattle.history_model.proofs.Common.{Trace, Writes, Notes}
use Rattle.std.proofs.Common.{drop}
use Rattle.history_model.specs.Traces.{after, IsLegalTrace, value_after}
use Rattle.history_model.specs.Undoing.{written_back, notes_of}
use Rattle.history_model.specs.Marks.{count_writes}
use Rattle.history_model.proofs.Traces.TraceLaws.{after-append, legal_parts, legal_read, read_there}
use Rattle.history_model.proofs.Traces.LastEvents.{get-after-value_after}
use Rattle.history_model.proofs.Traces.UndoLaws.{writes_undone}

-- the notes of a front, and then those of the rest
pub notes_by_parts : (t u : Trace) (s : List ℕ) → notes_of (t ++ u) s ≡ notes_of t s ++ notes_of u (after t s)
unfolding notes_of after
notes_by_parts [] u s = refl
notes_by_parts (Read a v ∷ t) u s = notes_by_parts t u s
notes_by_parts (Write a v ∷ t) u s = ap (λ (l : Notes). (a, slice_index s a) ∷ l) (notes_by_parts t u (slice_set s a v))

pub notes_counted : (t : Trace) (s : List ℕ) → length (notes_of t s) ≡ count_writes t
unfolding notes_of count_writes
notes_counted [] s = refl
notes_counted (Read a v ∷ t) s = notes_counted t s
notes_counted (Write a v ∷ t) s = let e : length (notes_of t (slice_set s a v)) ≡ count_writes t = notes_counted t (slice_set s a v) in omega (arith, e)

drop_front : (xs ys : Notes) (n : ℕ) → length xs ≡ n → drop n (xs ++ ys) ≡ ys
drop_front [] ys zero e = refl
drop_front [] ys (suc n) e = absurd (omega (arith, e))
drop_front (x ∷ xs) ys zero e = absurd (omega (arith, e))
drop_front (x ∷ xs) ys (suc n) e = drop_front xs ys n (omega (arith, e))

pub rest_undone : (front rest : Trace) (s : List ℕ)
    → written_back (drop (count_writes front) (notes_of (front ++ rest) s)) (after (front ++ rest) s) ≡ after front s
rest_undone front rest s =
    ap (λ (l : Notes). written_back (drop (count_writes front) l) (after (front ++ rest) s)) (notes_by_parts front rest s)
    ∙ ap (λ (l : Notes). written_back l (after (front ++ rest) s))
    (drop_front (notes_of front s) (notes_of rest (after front s)) (count_writes front) (notes_counted front s))
    ∙ ap (λ (w : List ℕ). written_back (notes_of rest (after front s)) w) (after-append front rest s)
    ∙ writes_undone rest (after front s)

pub one_note_more : (t : Trace) (s : List ℕ) (a was v : ℕ) → IsLegalTrace (t ++ Read a was ∷ Write a v ∷ []) s
    → notes_of (t ++ Read a was ∷ Write a v ∷ []) s ≡ notes_of t s ++ (a, was) ∷ []
unfolding notes_of after IsLegalTrace
one_note_more t s a was v h =
    let there : slice_get (after t s) a ≡ Some was = (legal_parts t (Read a was ∷ Write a v ∷ []) s h).1.0 in
    let is : slice_index (after t s) a ≡ was = get_or_from_slice_get (after t s) a was 0 there in
    notes_by_parts t (Read a was ∷ Write a v ∷ []) s ∙ ap (λ (x : ℕ). notes_of t s ++ (a, x) ∷ []) is

-- a word that a trace wrote has its last value whatever was there before
last_of_written : (t : Trace) (a : ℕ) (o p : Option ℕ) → Writes t a → value_after t a o ≡ value_after t a p
unfolding value_after
last_of_written [] a o p (i, x, e) = cc
last_of_written (Read b v ∷ t) a o p (zero, x, e) = cc
last_of_written (Read b v ∷ t) a o p (suc i, x, e) = last_of_written t a _ _ (i, x, e)
last_of_written (Write b v ∷ t) a o p (zero, x, e) = dite (ℕ_discrete a b)
    (λ q. rw (eq-eqb a b q) refl)
    (λ n. absurd (n cc))
last_of_written (Write b v ∷ t) a o p (suc i, x, e) = last_of_written t a _ _ (i, x, e)

pub written_reads_the_same : (t : Trace) (a v : ℕ) (r s : List ℕ) → IsLegalTrace (t ++ Read a v ∷ []) r
    → length r ≡ length s → Writes t a → a < length s → IsLegalTrace t s → IsLegalTrace (t ++ Read a v ∷ []) s
written_reads_the_same t a v r s k long w lt h =
    let legal : IsLegalTrace t r = (legal_parts t (Read a v ∷ []) r k).0 in
    let here : slice_get (after t r) a ≡ Some v = read_there t r a v k in
    let one : slice_get (after t s) a ≡ value_after t a (slice_get s a) = get-after-value_after t s a h lt in
    let other : slice_get (after t r) a ≡ value_after t a (slice_get r a) = get-after-value_after t r a legal (omega (arith, lt, long)) in
    legal_read t s a v h (one ∙ last_of_written t a (slice_get s a) (slice_get r a) w ∙ sym other ∙ here)

-- the word of a note was written
pub noted_was_written : (t : Trace) (s : List ℕ) (i a was : ℕ) → slice_get (notes_of t s) i ≡ Some (a, was) → Writes t a
unfolding notes_of
noted_was_written [] s i a was e = cc
noted_was_written (Read b v ∷ t) s i a was e = let k : Writes t a = noted_was_written t s i a was e in (suc k.0, k.1, k.2)
noted_was_written (Write b v ∷ t) s zero a was e = (zero, v, ap (λ (note : ℕ × ℕ). Some (Write note.0 v)) (same_Some (b, slice_index s b) (a, was) e))
noted_was_written (Write b v ∷ t) s (suc i) a was e = let k : Writes t a = noted_was_written t (slice_set s b v) i a was e in (suc k.0, k.1, k.2)

-- a read makes no note
pub read_unnoted : (t : Trace) (s : List ℕ) (a v : ℕ) → notes_of (t ++ Read a v ∷ []) s ≡ notes_of t s
unfolding notes_of
read_unnoted t s a v = notes_by_parts t (Read a v ∷ []) s ∙ append-nil (notes_of t s)

-- a write of the word that was read last
pub write_noted : (before t : Trace) (s : List ℕ) (a was v : ℕ) → t ≡ before ++ Read a was ∷ []
    → IsLegalTrace (t ++ Write a v ∷ []) s → notes_of (t ++ Write a v ∷ []) s ≡ notes_of t s ++ (a, was) ∷ []
write_noted before t s a was v e h =
    let whole : t ++ Write a v ∷ [] ≡ before ++ Read a was ∷ Write a v ∷ [] = ap (λ (u : Trace). u ++ Write a v ∷ []) e
    ∙ append_assoc before (Read a was ∷ []) (Write a v ∷ []) in
    ap (λ (u : Trace). notes_of u s) whole
    ∙ one_note_more before s a was v (subst (λ (u : Trace). IsLegalTrace u s) whole h)
    ∙ ap (λ (l : Notes). l ++ (a, was) ∷ []) (sym (ap (λ (u : Trace). notes_of u s) e ∙ read_unnoted before s a was))
