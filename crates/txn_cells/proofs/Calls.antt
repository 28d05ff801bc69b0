-- What calls on cells do to values, in every state that fits.
use Rattle.txn_cells.proofs.Common.{◌≡◌, ℕ, ◌+◌, ◌*◌, ◌<◌, ◌≤◌, List, [], ◌∷◌, ◌++◌, Some, length, slice_get, slice_set, refl, sym, ap, ◌∙◌, subst, arith}
use Rattle.txn_cells.proofs.Common.{Trace, after, Begins, Fits, SomeFits, InEach, Leads, length-after, begins_trans, fits_begins, Looks, Get, Set}
use Rattle.txn_cells.proofs.Common.{AreCellValues, AreCells, cell_words, TypedTrace, DoesTyped, PutsWords}
use Rattle.txn_words.proofs.Common.{begins_refl}
use Rattle.txn_cells.specs.declared.coded.Coded.{Ghosts as Codes}
use Rattle.txn_cells.specs.Typed.{after_typed, IsLegalTyped, AreCalls, trace_after, typed_of}
use Rattle.txn_cells.proofs.Values.{value_at, value_is, cell_within, values_put}

-- typed events in two parts
pub after_typed_append : {T : Type 0} (e f : TypedTrace T) (values : List T) → after_typed (e ++ f) values ≡ after_typed f (after_typed e values)
unfolding after_typed
after_typed_append [] f values = refl
after_typed_append (Get i x ∷ e) f values = after_typed_append e f values
after_typed_append (Set i x ∷ e) f values = after_typed_append e f (slice_set values i x)

pub legal_typed_append : {T : Type 0} (e f : TypedTrace T) (values : List T) → IsLegalTyped e values
    → IsLegalTyped f (after_typed e values) → IsLegalTyped (e ++ f) values
unfolding after_typed IsLegalTyped
legal_typed_append [] f values l m = m
legal_typed_append (Get i x ∷ e) f values l m = (l.0, legal_typed_append e f values l.1 m)
legal_typed_append (Set i x ∷ e) f values l m = legal_typed_append e f (slice_set values i x) l m

module _ {T : Type 0} (code : Codes T) (at len : ℕ) where
  pub does_nothing : (s : List ℕ) → DoesTyped code at len [] s s
  unfolding after_typed IsLegalTyped
  does_nothing s = record { each = λ values v. (tt, v) }

  pub does_both : (e f : TypedTrace T) (r s t : List ℕ) → DoesTyped code at len e r s → DoesTyped code at len f s t → DoesTyped code at len (e ++ f) r t
  does_both e f r s t first second = record {
    each = λ values v.
        let one : IsLegalTyped e values × AreCellValues code at len s (after_typed e values) = first.each values v in
        let two : IsLegalTyped f (after_typed e values)
        × AreCellValues code at len t (after_typed f (after_typed e values)) = second.each (after_typed e values) one.1 in (
          legal_typed_append e f values one.0 two.0,
          subst (AreCellValues code at len t) (sym (after_typed_append e f values)) two.1,
        );
  }

  module _ (n : ℕ) (G : List ℕ → Type 0) where
    -- all calls, one after another
    pub calls_begin : (old : Trace) (calls : List (Trace × TypedTrace T)) → AreCalls code at len n G old calls → Begins old (trace_after old calls)
    unfolding AreCalls trace_after
    calls_begin old [] c = begins_refl old
    calls_begin old (call ∷ calls) c = begins_trans old call.0 (trace_after call.0 calls) c.0 (calls_begin call.0 calls c.2)

    pub calls_do : (old : Trace) (calls : List (Trace × TypedTrace T)) → AreCalls code at len n G old calls → (s : List ℕ) → Fits n G (trace_after old calls) s
        → DoesTyped code at len (typed_of calls) (after old s) (after (trace_after old calls) s)
    unfolding AreCalls trace_after typed_of
    calls_do old [] c s fit = does_nothing (after old s)
    calls_do old (call ∷ calls) c s fit =
        does_both call.1 (typed_of calls) (after old s) (after call.0 s) (after (trace_after call.0 calls) s)
        (c.1.at s (fits_begins n G call.0 (trace_after call.0 calls) s (calls_begin call.0 calls c.2) fit))
        (calls_do call.0 calls c.2 s fit)

    module _ (count : (x : T) → code.is_value x → length (code.words x) ≡ code.WORDS) (one : (x y : T) → code.is_value x
        → code.is_value y → code.words x ≡ code.words y → x ≡ y) (t : Trace) where
      -- a cell lies within the words
      pub cell_lies : 1 ≤ code.WORDS → InEach n G t (AreCells code at len) → SomeFits n G t → (i : ℕ) → i < len → at + i * code.WORDS + code.WORDS ≤ n
      cell_lies some cells fits i below =
          let within : at + i * code.WORDS + code.WORDS ≤ length (after t fits.0) =
          cell_within code count one at len some (after t fits.0) (cells.at fits.0 fits.1) i below in
          omega (arith, within, length-after t fits.0, fits.1.count)

      module _ (u : Trace) {IsSeen : List ℕ → ℕ → Type 0} (i : ℕ) (below : i < len) (words : List ℕ)
          (look : Looks n G t u IsSeen (λ s. cell_words code at i s ≡ words)) where
        -- words that were read of a cell spell a value
        pub value_read : InEach n G t (AreCells code at len) → SomeFits n G u → (x : T) × code.is_value x × (code.words x ≡ words)
        value_read cells fits =
            let s : List ℕ = after u fits.0 in
            let there : AreCells code at len s =
            subst (AreCells code at len) (sym (look.same fits.0 fits.1)) (cells.at fits.0 (fits_begins n G t u fits.0 look.begins fits.1)) in
            let it : (x : T) × (slice_get there.0 i ≡ Some x) × code.is_value x
            × (cell_words code at i s ≡ code.words x) = value_at code count one at len s there.0 there.1 i below in
            (it.0, it.2, sym it.3 ∙ look.holds fits.0 fits.1)

        -- and that is a Get of it
        pub does_get : (x : T) → code.is_value x → code.words x ≡ words → Leads n G t u (DoesTyped code at len (Get i x ∷ []))
        unfolding after_typed IsLegalTyped
        does_get x is spells = record {
          at = λ s fit.
              let same : after u s ≡ after t s = look.same s fit in
              let found : cell_words code at i (after t s) ≡ code.words x = ap (cell_words code at i) (sym same) ∙ look.holds s fit ∙ sym spells in
              record {
                each = λ values v. (
                  (value_is code count one at len (after t s) values v i below x is found, tt),
                  subst (λ z. AreCellValues code at len z values) (sym same) v,
                );
              };
        }

      -- words that were put into a cell are a Set of the value that they spell
      pub does_set : 1 ≤ code.WORDS → (u : Trace) (i : ℕ) → i < len → (x : T) → code.is_value x
          → Leads n G t u (PutsWords (at + i * code.WORDS) (code.words x)) → Leads n G t u (DoesTyped code at len (Set i x ∷ []))
      unfolding after_typed IsLegalTyped
      does_set some u i below x is puts = record {
        at = λ s fit. record { each = λ values v. (tt, values_put code count one at len some (after t s) (after u s) values v i below x is (puts.at s fit)) };
      }
