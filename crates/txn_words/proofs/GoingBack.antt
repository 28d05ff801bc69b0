-- Going back to a mark, one write after another.
use Rattle.txn_words.proofs.Common.{◌≡◌, ℕ, zero, suc, ◌+◌, ◌<◌, ◌≤◌, List, [], ◌∷◌, ◌++◌, inl, inr, length, slice_get, slice_set, Some, refl, sym, ap, ◌∙◌}
use Rattle.txn_words.proofs.Common.{subst, arith, append_assoc, Read, Write, Trace, after, Begins, Writes, Fits, SomeFits, Notes, begins_refl, begins_trans}
use Rattle.txn_words.proofs.Common.{fits_begins, notes_counted, EndsWithWrite, PutsBack}
use Rattle.std.proofs.Common.{drop}
use Rattle.history_model.specs.declared.shape.Shape.{Ghosts as Shapes}
use Rattle.history_model.specs.Traces.{IsLegalTrace}
use Rattle.history_model.specs.Undoing.{written_back, notes_of}
use Rattle.history_model.specs.Marks.{count_writes}
use Rattle.history_model.proofs.Traces.TraceLaws.{legal_parts, legal_write}
use Rattle.history_model.proofs.ListPlaces.{get_first}
use Rattle.history_model.proofs.Traces.MarkLaws.{notes_by_parts, rest_undone, written_reads_the_same, noted_was_written}
use Rattle.txn_words.specs.declared.words.Words.{Ghosts as AnyWords}
use Rattle.txn_words.specs.Calls.{SameAsAtMark}
use Rattle.txn_words.proofs.Steps.{after_write_end}
use Rattle.txn_words.specs.Marks.{TakesBack}

-- the writes of the first trace are taken back down to this place
pub record GoneBack (n : ℕ) (G : List ℕ → Type 0) (place : ℕ) (first now : Trace) : Type 0 where
  pub begins : Begins first now
  pub legal : (s : List ℕ) → Fits n G first s → IsLegalTrace now s
  pub left : (s : List ℕ) → Fits n G first s → after now s ≡ written_back (drop place (notes_of first s)) (after first s)

drop_all : (notes : Notes) (n : ℕ) → length notes ≡ n → drop n notes ≡ []
drop_all [] zero e = refl
drop_all [] (suc n) e = absurd (omega (arith, e))
drop_all (x ∷ notes) zero e = absurd (omega (arith, e))
drop_all (x ∷ notes) (suc n) e = drop_all notes n (omega (arith, e))

drop_at : (notes : Notes) (i : ℕ) (note : ℕ × ℕ) → slice_get notes i ≡ Some note → drop i notes ≡ note ∷ drop (suc i) notes
drop_at [] i note e = cc
drop_at (x ∷ notes) zero note e = cc
drop_at (x ∷ notes) (suc i) note e = drop_at notes i note e

begins_end : (old new : Trace) (a v : ℕ) → EndsWithWrite old new a v → Begins old new
begins_end old new a v (inl e) = (Write a v ∷ [], e)
begins_end old new a v (inr e) = (Read a e.0 ∷ Write a v ∷ [], e.1)

-- a write at the end of a trace that wrote the word before is legal on every list on which that is
legal_end : (old new : Trace) (a v : ℕ) (r s : List ℕ) → EndsWithWrite old new a v → IsLegalTrace new r
    → length r ≡ length s → Writes old a → a < length s → IsLegalTrace old s → IsLegalTrace new s
legal_end old new a v r s (inl e) there long written near here = subst (λ (t : Trace). IsLegalTrace t s) (sym e) (legal_write old s a v here)
legal_end old new a v r s (inr e) there long written near here =
    let whole : new ≡ (old ++ Read a e.0 ∷ []) ++ Write a v ∷ [] = e.1 ∙ sym (append_assoc old (Read a e.0 ∷ []) (Write a v ∷ [])) in
    let read : IsLegalTrace (old ++ Read a e.0 ∷ []) r =
    (legal_parts (old ++ Read a e.0 ∷ []) (Write a v ∷ []) r (subst (λ (t : Trace). IsLegalTrace t r) whole there)).0 in
    subst (λ (t : Trace). IsLegalTrace t s) (sym whole)
    (legal_write (old ++ Read a e.0 ∷ []) s a v (written_reads_the_same old a e.0 r s read long written near here))

module _ (n : ℕ) (G : List ℕ → Type 0) where
  -- nothing is taken back yet
  pub none_back : (t : Trace) → GoneBack n G (count_writes t) t t
  unfolding written_back
  none_back t = record {
    begins = begins_refl t;
    legal = λ s fit. fit.legal;
    left = λ s fit. ap (λ (l : Notes). written_back l (after t s)) (sym (drop_all (notes_of t s) (count_writes t) (notes_counted t s)));
  }

  -- one write more is taken back
  pub one_more_back : (i place : ℕ) (first old new : Trace) → place ≡ i + 1 → i < count_writes first
      → GoneBack n G place first old → PutsBack n G i old new → SomeFits n G new → GoneBack n G i first new
  unfolding written_back
  one_more_back i place first old new next lt gone puts some =
      let a = puts.a in let was = puts.was in
      let still : (s : List ℕ) → Fits n G first s → Fits n G old s = λ s fit. record { count = fit.count; good = fit.good; legal = gone.legal s fit } in
      record {
        begins = begins_trans first old new gone.begins (begins_end old new a was puts.ends);
        legal = λ s fit. legal_end old new a was some.0 s puts.ends some.1.legal (some.1.count
            ∙ sym fit.count) (noted_was_written old s i a was (puts.note s (still s fit)))
            (subst (λ (m : ℕ). a < m) (sym fit.count) puts.within) (gone.legal s fit);
        left = λ s fit.
            let notes : Notes = notes_of first s in
            let parts : notes_of old s ≡ notes ++ notes_of gone.begins.0 (after first s) =
            ap (λ (t : Trace). notes_of t s) gone.begins.1 ∙ notes_by_parts first gone.begins.0 s in
            let within : i < length notes = subst (λ (m : ℕ). i < m) (sym (notes_counted first s)) lt in
            let here : slice_get notes i ≡ Some (a, was) =
            sym (get_first notes (notes_of gone.begins.0 (after first s)) i within)
            ∙ ap (λ (l : Notes). slice_get l i) (sym parts) ∙ puts.note s (still s fit) in
            let later : suc i ≡ place = omega (arith, next) in
            let more : drop i notes ≡ (a, was) ∷ drop place notes = drop_at notes i (a, was) here ∙ ap (λ (m : ℕ). (a, was) ∷ drop m notes) later in
            after_write_end old new a was s puts.ends
            ∙ ap (λ (w : List ℕ). slice_set w a was) (gone.left s fit)
            ∙ ap (λ (l : Notes). written_back l (after first s)) (sym more);
      }

  -- all is taken back
  pub all_back : (to : ℕ) (old new : Trace) → GoneBack n G to old new → TakesBack n G to old new
  all_back to old new gone = record {
    legal = gone.legal;
    left = λ s fit front rest whole count.
        gone.left s fit
        ∙ ap (λ (t : Trace). written_back (drop to (notes_of t s)) (after t s)) whole
        ∙ ap (λ (m : ℕ). written_back (drop m (notes_of (front ++ rest) s)) (after (front ++ rest) s)) (sym count)
        ∙ rest_undone front rest s;
  }

-- the words are what they were at the mark
pub same_as_at_mark : {W S O : Type 0} (words : AnyWords W S O) (shapes : Shapes S) → SameAsAtMark words shapes
same_as_at_mark words shapes marked old new same front begins back = record {
  at = λ s fit.
      let here : Fits (shapes.word_count (words.shape old)) (shapes.good (words.shape old)) (words.trace new) s =
      subst (λ z. Fits (shapes.word_count z) (shapes.good z) (words.trace new) s) (sym same) fit in
      back.left s (fits_begins _ _ (words.trace old) (words.trace new) s begins here) (words.trace marked) front.0 front.1 refl;
}

count_parts : (t u : Trace) → count_writes (t ++ u) ≡ count_writes t + count_writes u
unfolding count_writes
count_parts [] u = omega arith
count_parts (Read a v ∷ t) u = count_parts t u
count_parts (Write a v ∷ t) u = let e : count_writes (t ++ u) ≡ count_writes t + count_writes u = count_parts t u in omega (arith, e)

-- a mark stays good as the trace grows
pub mark_stays : (t u : Trace) (writes : ℕ) → Begins t u → writes ≤ count_writes t → writes ≤ count_writes u
mark_stays t u writes b le =
    let sum : count_writes u ≡ count_writes t + count_writes b.0 = ap (λ (w : Trace). count_writes w) b.1 ∙ count_parts t b.0 in
    omega (arith, sum, le)

-- and as long as it grows from where the mark was taken
pub marked_stays : (before at now : Trace) (writes : ℕ) → writes ≡ count_writes before → at ≡ before → Begins at now → writes ≤ count_writes now
marked_stays before at now writes is same b =
    let count : count_writes at ≡ count_writes before = ap (λ (t : Trace). count_writes t) same in
    mark_stays at now writes b (omega (arith, is, count))
