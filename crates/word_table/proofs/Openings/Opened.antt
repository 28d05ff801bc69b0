-- The passes of a desk, taken from the end of their list, as a test opens it.
use Rattle.word_table.proofs.Common.{◌≡◌, ℕ, ◌+◌, List, [], ◌∷◌, ◌++◌, length, length-append, slice_get, Some, refl, sym, ap, ◌∙◌, arith, same_Some, fresh_pass}
use Rattle.word_table.proofs.Common.{PassView, DeskView}

none_left : {A : Type 0} (xs : List A) → length xs ≡ 0 → xs ≡ []
none_left [] e = refl
none_left (x ∷ xs) e = absurd (omega arith)

-- two that were taken from the end are all of a list of two
pub two_of : {A : Type 0} (all one none : List A) (a b : A) → all ≡ one ++ b ∷ [] → one ≡ none ++ a ∷ [] → length all ≡ 2 → all ≡ a ∷ b ∷ []
two_of all one none a b r s two =
    let long : length all ≡ length one + 1 = ap length r ∙ length-append one (b ∷ []) in
    let last : length one ≡ length none + 1 = ap length s ∙ length-append none (a ∷ []) in
    let gone : none ≡ [] = none_left none (omega (arith, long, last, two)) in
    r ∙ ap (λ l. l ++ b ∷ []) (s ∙ ap (λ l. l ++ a ∷ []) gone)

-- three that were taken from the end are all of a list of three
pub three_of : {A : Type 0} (all two one none : List A) (a b c : A) → all ≡ two ++ c ∷ [] → two ≡ one ++ b ∷ []
    → one ≡ none ++ a ∷ [] → length all ≡ 3 → all ≡ a ∷ b ∷ c ∷ []
three_of all two one none a b c q r s three =
    let long : length all ≡ length two + 1 = ap length q ∙ length-append two (c ∷ []) in
    let left : length two ≡ 2 = omega (arith, long, three) in
    q ∙ ap (λ l. l ++ c ∷ []) (two_of two one none a b r s left)

-- the pass at place j has done nothing, over the desk's own words
pub has_opened : {S : Type 0} (desk : DeskView S) (words : List ℕ) (n j : ℕ) (all list : List PassView)
    (pass : PassView) → all ≡ list → slice_get list j ≡ Some pass
    → slice_get all j ≡ Some (fresh_pass desk.table words n j)
    → desk.base ≡ words → ◌≡◌ {A = PassView} pass (fresh_pass desk.table desk.base n j)
has_opened desk words n j all list pass e h k b =
    same_Some pass (fresh_pass desk.table words n j) (sym h ∙ (ap (λ l. slice_get l j) (sym e) ∙ k))
    ∙ ap (λ (w : List ℕ). fresh_pass desk.table w n j) (sym b)
