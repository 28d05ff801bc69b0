-- Two cells are read, and their values put in crosswise.
use Rattle.txn_cells.proofs.Common.{◌≡◌, ◌⊎◌, inl, inr, ℕ, ◌+◌, ◌*◌, ◌<◌, ◌≤◌, List, [], ◌∷◌, length, ◌∙◌, Trace, Begins, SomeFits, InEachState, LeadsTo, Looks}
use Rattle.txn_cells.proofs.Common.{AppendsOnly, AppendsReads, only_then, sees_then, each_plain, Get, Set, AreCells, cell_words, DoesTyped, PutsWords}
use Rattle.history_model.specs.declared.shape.Shape.{Ghosts as Shapes}
use Rattle.txn_words.specs.declared.words.Words.{Ghosts as AnyWords}
use Rattle.txn_words.proofs.FrameLaws.{only_more}
use Rattle.txn_words.proofs.ReadLaws.{sees_more}
use Rattle.txn_words.proofs.CallLaws.{state_at}
use Rattle.txn_words.proofs.Looks.{each_looked}
use Rattle.txn_cells.specs.declared.coded.Coded.{Ghosts as Codes}
use Rattle.txn_cells.proofs.Arrays.{value_found, gets, sets, does_next}

module _ {W S O T : Type 0} (words : AnyWords W S O) (shapes : Shapes S) (code : Codes T) (at len : ℕ) where
  -- the cells are there still if words were read alone
  pub cells_looked : (v w : W) {IsSeen : List ℕ → ℕ → Type 0} {P : List ℕ → Type 0} → words.shape w ≡ words.shape v
      → InEachState words shapes v (AreCells code at len)
      → Looks (shapes.word_count (words.shape v)) (shapes.good (words.shape v)) (words.trace v) (words.trace w) IsSeen P
      → InEachState words shapes w (AreCells code at len)
  cells_looked v w shape cells look =
      state_at words shapes v w (AreCells code at len) shape (each_looked _ _ _ _ look (AreCells code at len) (each_plain words shapes v _ cells))

  module _ (count : (x : T) → code.is_value x → length (code.words x) ≡ code.WORDS) (one : (x y : T) → code.is_value x
      → code.is_value y → code.words x ≡ code.words y → x ≡ y) (some : 1 ≤ code.WORDS)
      (u v w x : W) (i j : ℕ) (first second : List ℕ) (IsFirst IsSecond : List ℕ → ℕ → Type 0) where
    -- what stands when the second cell's words were put into the first
    pub record Crossed : Type 0 where
      pub former : T
      pub latter : T
      pub is_value : code.is_value former
      pub spells : code.words former ≡ first
      pub done : LeadsTo words shapes u x (DoesTyped code at len (Get i former ∷ Get j latter ∷ Set i latter ∷ []))

    pub crossed : i < len → j < len → InEachState words shapes u (AreCells code at len)
        → words.shape v ≡ words.shape u → words.shape w ≡ words.shape v → words.shape x ≡ words.shape w
        → Begins (words.trace v) (words.trace w) → Begins (words.trace w) (words.trace x)
        → SomeFits (shapes.word_count (words.shape v)) (shapes.good (words.shape v)) (words.trace v)
        → SomeFits (shapes.word_count (words.shape w)) (shapes.good (words.shape w)) (words.trace w)
        → Looks (shapes.word_count (words.shape u)) (shapes.good (words.shape u)) (words.trace u) (words.trace v) IsFirst (λ s. cell_words code at i s ≡ first)
        → Looks (shapes.word_count (words.shape v)) (shapes.good (words.shape v)) (words.trace v) (words.trace w)
        IsSecond (λ s. cell_words code at j s ≡ second)
        → LeadsTo words shapes w x (PutsWords (at + i * code.WORDS) second)
        → Crossed
    crossed below_i below_j cells shape_v shape_w shape_x begins_w begins_x fits_v fits_w look_first look_second puts =
        let a : (y : T) × code.is_value y × (code.words y ≡ first) =
        value_found words shapes code at len count one u v i below_i {IsSeen = IsFirst} first look_first shape_v cells fits_v in
        let b : (y : T) × code.is_value y × (code.words y ≡ second) =
        value_found words shapes code at len count one v w j below_j {IsSeen = IsSecond} second look_second shape_w
        (cells_looked u v shape_v cells look_first) fits_w in
        let get_first : LeadsTo words shapes u v (DoesTyped code at len (Get i a.0 ∷ [])) =
        gets words shapes code at len count one u v i below_i {IsSeen = IsFirst} first look_first a.0 a.1 a.2 in
        let get_second : LeadsTo words shapes v w (DoesTyped code at len (Get j b.0 ∷ [])) =
        gets words shapes code at len count one v w j below_j {IsSeen = IsSecond} second look_second b.0 b.1 b.2 in
        let set_first : LeadsTo words shapes w x (DoesTyped code at len (Set i b.0 ∷ [])) =
        sets words shapes code at len count one w x i below_i some second puts b.0 b.1 b.2 in
        let both : LeadsTo words shapes u w (DoesTyped code at len (Get i a.0 ∷ Get j b.0 ∷ [])) =
        does_next words shapes code at len u v w (Get i a.0 ∷ []) (Get j b.0 ∷ []) shape_v begins_w get_first get_second in
        record {
          former = a.0;
          latter = b.0;
          is_value = a.1;
          spells = a.2;
          done = does_next words shapes code at len u w x (Get i a.0 ∷ Get j b.0 ∷ []) (Set i b.0 ∷ []) (shape_w ∙ shape_v) begins_x both set_first;
        }

-- words of two cells: the first two calls only read, and then one cell is written, and the other
module _ (IsFirst IsSecond : ℕ → Type 0) (t u v w x : Trace) where
  pub either_written : AppendsOnly t u (λ _. ⊥) → AppendsOnly u v (λ _. ⊥) → AppendsOnly v w IsFirst
      → AppendsOnly w x IsSecond → AppendsOnly t x (λ a. IsFirst a ⊎ IsSecond a)
  either_written a b c d =
      only_then _ t v x (only_then _ t u v (only_more _ _ t u (λ _ none. absurd none) a) (only_more _ _ u v (λ _ none. absurd none) b))
      (only_then _ v w x (only_more IsFirst _ v w (λ _ own. inl own) c) (only_more IsSecond _ w x (λ _ own. inr own) d))

  pub either_read : AppendsReads t u IsFirst → AppendsReads u v IsSecond → AppendsReads v w IsFirst
      → AppendsReads w x IsSecond → AppendsReads t x (λ a. IsFirst a ⊎ IsSecond a)
  either_read a b c d =
      sees_then _ t v x (sees_then _ t u v (sees_more IsFirst _ t u (λ _ own. inl own) a) (sees_more IsSecond _ u v (λ _ own. inr own) b))
      (sees_then _ v w x (sees_more IsFirst _ v w (λ _ own. inl own) c) (sees_more IsSecond _ w x (λ _ own. inr own) d))
