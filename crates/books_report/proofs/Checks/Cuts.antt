-- The first words of a text.
use Rattle.books_report.proofs.Common.{◌≡◌, ℕ, List, ◌∷◌, ◌++◌, sym, ◌∙◌, subst, SPACE, IsFreeOf}
use Rattle.script_reader.proofs.text.Tokens.Cutting.{cut_once, not_free}

-- what a text is cut into is its first word, and what stands behind it
pub cut_is : {text : List ℕ} (word : List ℕ) {rest : List ℕ} (first : List ℕ) {after : List ℕ} → (text ≡ first ++ SPACE ∷ after) × IsFreeOf SPACE first
    → text ≡ word ++ SPACE ∷ rest → IsFreeOf SPACE word → (first ≡ word) × (after ≡ rest)
cut_is word {rest} first {after} h e free = cut_once SPACE first after word rest h.1 free (sym h.0 ∙ e)

-- a text with a word and a space behind it can be cut
pub can_cut : {text : List ℕ} (word rest : List ℕ) → IsFreeOf SPACE text → text ≡ word ++ SPACE ∷ rest → ⊥
can_cut word rest free e = not_free SPACE word rest (subst (IsFreeOf SPACE) e free)
