use Rattle.txn_words.proofs.Common.{◌≡◌, ℕ, List, ◌∷◌, [], ◌++◌, slice_set, refl, ap, sym, ◌∙◌, Notes}
use Rattle.history_model.specs.Undoing.{written_back}
use Rattle.history_model.proofs.Traces.UndoLaws.{newest_first}
use Rattle.txn_words.proofs.plain.write_back.Goals as goal

-- one note written back, and the others after it
one_back : (older notes : Notes) (a old : ℕ) (words origin : List ℕ) → notes ≡ older ++ (a, old) ∷ []
    → written_back notes words ≡ origin → written_back older (slice_set words a old) ≡ origin
one_back older notes a old words origin last e = sym (newest_first older a old words) ∙ ap (λ (l : Notes). written_back l words) (sym last) ∙ e

-- none is left
none_left : (notes : Notes) (words origin : List ℕ) → notes ≡ [] → written_back notes words ≡ origin → words ≡ origin
unfolding written_back
none_left notes words origin none e = sym (ap (λ (l : Notes). written_back l words) none) ∙ e

pub loop-a-preserved : goal.loop-a-preserved
loop-a-preserved c = rw (c.drop_newest.ensures.list, c.set_word.ensures) (one_back _ _ _ _ _ _ c.in-Some.ensures.last c.loop-a.invariant)

pub returns : goal.returns
returns c = none_left _ _ _ (c.in_default.ensures.none.0 refl) c.loop-a.invariant
