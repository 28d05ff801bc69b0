-- The calls of an array, over any words.
use Rattle.txn_cells.proofs.Common.{◌≡◌, ℕ, ◌+◌, ◌*◌, ◌<◌, ◌≤◌, List, [], ◌∷◌, ◌++◌, length, sym, subst, after, Begins, SomeFits, Leads, some_at, InEachState}
use Rattle.txn_cells.proofs.Common.{LeadsTo, Looks, each_plain, state_after, leads_then, Get, Set, AreCells, cell_words, TypedTrace, DoesTyped, PutsWords}
use Rattle.history_model.specs.declared.shape.Shape.{Ghosts as Shapes}
use Rattle.txn_words.specs.declared.words.Words.{Ghosts as AnyWords}
use Rattle.txn_words.proofs.CallLaws.{leads_plain}
use Rattle.txn_cells.specs.declared.coded.Coded.{Ghosts as Codes}
use Rattle.txn_cells.specs.Typed.{after_typed}
use Rattle.txn_cells.proofs.Calls.{does_both, value_read, does_get, does_set}

module _ {W S O T : Type 0} (words : AnyWords W S O) (shapes : Shapes S) (code : Codes T) (at len : ℕ) where
  -- the cells are there still
  pub cells_after : (v w : W) (e : TypedTrace T) → words.shape w ≡ words.shape v → Begins (words.trace v) (words.trace w)
      → InEachState words shapes v (AreCells code at len) → LeadsTo words shapes v w (DoesTyped code at len e)
      → InEachState words shapes w (AreCells code at len)
  cells_after v w e shape begins cells does =
      state_after words shapes v w (AreCells code at len) (AreCells code at len) (DoesTyped code at len e) shape begins
      cells does (λ x y c d. (after_typed e c.0, (d.each c.0 c.1).1))

  -- one call after another
  pub does_next : (u v w : W) (e f : TypedTrace T) → words.shape v ≡ words.shape u → Begins (words.trace v) (words.trace w)
      → LeadsTo words shapes u v (DoesTyped code at len e) → LeadsTo words shapes v w (DoesTyped code at len f)
      → LeadsTo words shapes u w (DoesTyped code at len (e ++ f))
  does_next u v w e f shape begins first second = record {
    at = λ s fit.
        let both : (y : List ℕ) × DoesTyped code at len e (after (words.trace u) s) y × DoesTyped code at len f y (after (words.trace w) s) =
        (leads_then words shapes u v w (DoesTyped code at len e) (DoesTyped code at len f) shape begins first second).at s fit in
        does_both code at len e f (after (words.trace u) s) both.0 (after (words.trace w) s) both.1 both.2;
  }

  module _ (count : (x : T) → code.is_value x → length (code.words x) ≡ code.WORDS) (one : (x y : T) → code.is_value x
      → code.is_value y → code.words x ≡ code.words y → x ≡ y) (v w : W) (i : ℕ) (below : i < len) where
    module _ {IsSeen : List ℕ → ℕ → Type 0} (spelled : List ℕ)
        (look : Looks (shapes.word_count (words.shape v)) (shapes.good (words.shape v)) (words.trace v) (words.trace w)
        IsSeen (λ s. cell_words code at i s ≡ spelled)) where
      -- words that were read of a cell spell a value
      pub value_found : words.shape w ≡ words.shape v → InEachState words shapes v (AreCells code at len)
          → SomeFits (shapes.word_count (words.shape w)) (shapes.good (words.shape w)) (words.trace w)
          → (x : T) × code.is_value x × (code.words x ≡ spelled)
      value_found shape cells fits =
          value_read code at len (shapes.word_count (words.shape v)) (shapes.good (words.shape v)) count one
          (words.trace v) (words.trace w) i below spelled look (each_plain words shapes v _ cells)
          (some_at shapes.word_count shapes.good (words.trace w) (words.shape w) (words.shape v) shape fits)

      -- which is a Get of it
      pub gets : (x : T) → code.is_value x → code.words x ≡ spelled → LeadsTo words shapes v w (DoesTyped code at len (Get i x ∷ []))
      gets x is spells = record {
        at = (does_get code at len (shapes.word_count (words.shape v)) (shapes.good (words.shape v)) count one
            (words.trace v) (words.trace w) i below spelled look x is spells).at;
      }

    -- words that were put into a cell are a Set of the value that they spell
    pub sets : 1 ≤ code.WORDS → (spelled : List ℕ) → LeadsTo words shapes v w (PutsWords (at + i * code.WORDS) spelled)
        → (x : T) → code.is_value x → code.words x ≡ spelled
        → LeadsTo words shapes v w (DoesTyped code at len (Set i x ∷ []))
    sets some spelled puts x is spells = record {
      at = (does_set code at len (shapes.word_count (words.shape v)) (shapes.good (words.shape v)) count one (words.trace v) some (words.trace w) i below x is
          (subst (λ z. Leads (shapes.word_count (words.shape v)) (shapes.good (words.shape v)) (words.trace v)
          (words.trace w) (PutsWords (at + i * code.WORDS) z)) (sym spells) (leads_plain words shapes v w _ puts))).at;
    }
