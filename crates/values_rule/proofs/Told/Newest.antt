-- The newest values, and how one item more or the same items change them.
use Rattle.values_rule.proofs.Common.{◌≡◌, ℕ, zero, suc, ◌+◌, ◌<◌, ⊎_elim, List, [], ◌∷◌, length, Some, slice_get, if◌then◌else◌, refl, sym, ap, ◌∙◌, arith}
use Rattle.values_rule.proofs.Common.{slice_get_within, Item, value_at, lock_of_word, after, same_list, bool_cases}
use Rattle.history_model.specs.Arrangements.{WritesNewest}
use Rattle.history_model.proofs.Traces.TraceLaws.{length-after}
use Rattle.history_model.proofs.Traces.LastEvents.{get-after-last_written}
use Rattle.values_rule.specs.History.{newest_from, newest}

length-newest_from : (base : List ℕ) (items : List Item) (next : ℕ → ℕ) (i : ℕ) (xs : List ℕ) → length (newest_from base items next i xs) ≡ length xs
unfolding newest_from
length-newest_from base items next i [] = refl
length-newest_from base items next i (x ∷ xs) = ap suc (length-newest_from base items next (suc i) xs)

newest_from-at : (base : List ℕ) (items : List Item) (next : ℕ → ℕ) (i a : ℕ) (xs : List ℕ) → a < length xs
    → slice_get (newest_from base items next i xs) a ≡ Some (value_at base items (i + a) (next (lock_of_word (i + a))))
unfolding newest_from
newest_from-at base items next i a [] h = absurd (omega arith)
newest_from-at base items next i zero (x ∷ xs) h = let q : i ≡ i + 0 = omega arith in ap (λ (m : ℕ). Some (value_at base items m (next (lock_of_word m)))) q
newest_from-at base items next i (suc a) (x ∷ xs) h = let q : suc i + a ≡ i + suc a = omega arith in
    newest_from-at base items next (suc i) a xs (omega arith) ∙ ap (λ (m : ℕ). Some (value_at base items m (next (lock_of_word m)))) q

pub length-newest : (base : List ℕ) (items : List Item) (next : ℕ → ℕ) → length (newest base items next) ≡ length base
length-newest base items next = length-newest_from base items next 0 base

pub newest-at : (base : List ℕ) (items : List Item) (next : ℕ → ℕ) (a : ℕ) → a < length base
    → slice_get (newest base items next) a ≡ Some (value_at base items a (next (lock_of_word a)))
newest-at base items next a h = let z : 0 + a ≡ a = omega arith in
    newest_from-at base items next 0 a base h ∙ ap (λ (m : ℕ). Some (value_at base items m (next (lock_of_word m)))) z

-- the newest values are so
pub newest_is : (base : List ℕ) (items : List Item) (next : ℕ → ℕ) (s : List ℕ) → length s ≡ length base
    → ((a : ℕ) → a < length base → slice_get s a ≡ Some (value_at base items a (next (lock_of_word a)))) → newest base items next ≡ s
newest_is base items next s long same = same_list (newest base items next) s (length-newest base items next ∙ sym long)
    (λ i x e. let lt = slice_get_within (newest base items next) i x e in let l = length-newest base items next in
    same i (omega arith) ∙ (sym (newest-at base items next i (omega arith)) ∙ e))

pub newest_same : (base : List ℕ) (items more : List Item) (next raised : ℕ → ℕ)
    → ((a : ℕ) → value_at base more a (raised (lock_of_word a)) ≡ value_at base items a (next (lock_of_word a)))
    → newest base more raised ≡ newest base items next
newest_same base items more next raised same = newest_is base more raised (newest base items next) (length-newest base items next)
    (λ a lt. newest-at base items next a lt ∙ ap (λ (v : ℕ). Some v) (sym (same a)))

-- one item more did its writes, if it was kept
pub newest_moved : (base : List ℕ) (x : Item) (next raised : ℕ → ℕ) (items more : List Item) → WritesNewest base x next raised items more
    → newest base more raised ≡ (if x.kept then after x.trace (newest base items next) else newest base items next)
newest_moved base x next raised items more moves = ⊎_elim
    (λ k. rw k (newest_is base more raised (after x.trace (newest base items next))
    (length-after x.trace (newest base items next) ∙ length-newest base items next)
    (λ a lt. get-after-last_written x.trace (newest base items next) a (value_at base items a (next (lock_of_word a))) (newest-at base items next a lt)
    ∙ ap (λ (v : ℕ). Some v) (sym (moves a ∙ rw k refl)))))
    (λ k. rw k (newest_same base items more next raised (λ a. moves a ∙ rw k refl)))
    (bool_cases x.kept)
