-- The operations of lines.
use Rattle.script_reader.proofs.Common.{◌≡◌, ℕ, ◌<◌, ◌^◌, true, ◌&&◌, ◌==◌, List, [], ◌∷◌, length, map, refl, sym, ap, subst, ◌∙◌, AllByRecursion, IsWithin}
use Rattle.script_reader.proofs.Common.{number, Words, begins, value_of, word_value, HasNumbers, AreNumbersIn}
use Rattle.script_reader.proofs.LineFaults.LineKinds.{one_behind, two_behind, three_behind, four_behind}
use Rattle.script_reader.proofs.language.Listed.Numbers.{numbers_at}

-- the words of a line that are numbers
read : {k : List ℕ} {words rest : Words} {ranges : List (ℕ × ℕ)} → words ≡ k ∷ rest → length rest ≡ length ranges
    → AllByRecursion (λ r. r.1 < 2 ^ 64) ranges → HasNumbers words ranges → AreNumbersIn ranges (map value_of rest) × (rest ≡ map number (map value_of rest))
read {rest} {ranges} is long bits found =
    let has = subst (λ w. HasNumbers w ranges) is found in numbers_at ranges rest long bits has.numbers has.in_range

-- a line of one number
pub row_one : (k : List ℕ) (words : Words) (r : ℕ × ℕ) {n : ℕ} → (begins k words && length words == 2) ≡ true → r.1 < 2 ^ 64
    → HasNumbers words (r ∷ []) × (n ≡ word_value words 1) → IsWithin r.0 r.1 n × (words ≡ k ∷ number n ∷ [])
row_one k words r {n} row f0 found =
    let e = one_behind k words row in
    let h = read e.1 refl (f0, tt) found.0 in
    let n_is : value_of e.0 ≡ n = sym (found.1 ∙ ap (λ w. word_value w 1) e.1) in
    (subst (IsWithin r.0 r.1) n_is (h.0.0, h.0.1), e.1 ∙ ap (λ l. k ∷ l) h.1 ∙ (λ i. k ∷ number (n_is i) ∷ []))

-- a line of two numbers
pub row_two : (k : List ℕ) (words : Words) (r s : ℕ × ℕ) {n m : ℕ} → (begins k words && length words == 3) ≡ true → r.1 < 2 ^ 64 → s.1 < 2 ^ 64
    → HasNumbers words (r ∷ s ∷ []) × (n ≡ word_value words 1) × (m ≡ word_value words 2)
    → (IsWithin r.0 r.1 n × IsWithin s.0 s.1 m) × (words ≡ k ∷ number n ∷ number m ∷ [])
row_two k words r s {n} {m} row f0 f1 found =
    let e = two_behind k words row in
    let h = read e.2 refl (f0, (f1, tt)) found.0 in
    let n_is : value_of e.0 ≡ n = sym (found.1 ∙ ap (λ w. word_value w 1) e.2) in
    let m_is : value_of e.1 ≡ m = sym (found.2 ∙ ap (λ w. word_value w 2) e.2) in (
      (subst (IsWithin r.0 r.1) n_is (h.0.0, h.0.1), subst (IsWithin s.0 s.1) m_is (h.0.3.0, h.0.3.1)),
      e.2 ∙ ap (λ l. k ∷ l) h.1 ∙ (λ i. k ∷ number (n_is i) ∷ number (m_is i) ∷ []),
    )

-- a line of three numbers
pub row_three : (k : List ℕ) (words : Words) (r s t : ℕ × ℕ) {n m l : ℕ} → (begins k words && length words == 4) ≡ true
    → r.1 < 2 ^ 64 → s.1 < 2 ^ 64 → t.1 < 2 ^ 64
    → HasNumbers words (r ∷ s ∷ t ∷ []) × (n ≡ word_value words 1) × (m ≡ word_value words 2) × (l ≡ word_value words 3)
    → (IsWithin r.0 r.1 n × IsWithin s.0 s.1 m × IsWithin t.0 t.1 l) × (words ≡ k ∷ number n ∷ number m ∷ number l ∷ [])
row_three k words r s t {n} {m} {l} row f0 f1 f2 found =
    let e = three_behind k words row in
    let h = read e.3 refl (f0, (f1, (f2, tt))) found.0 in
    let n_is : value_of e.0 ≡ n = sym (found.1 ∙ ap (λ w. word_value w 1) e.3) in
    let m_is : value_of e.1 ≡ m = sym (found.2 ∙ ap (λ w. word_value w 2) e.3) in
    let l_is : value_of e.2 ≡ l = sym (found.3 ∙ ap (λ w. word_value w 3) e.3) in
    let rest = h.0.3 in (
      (subst (IsWithin r.0 r.1) n_is (h.0.0, h.0.1), subst (IsWithin s.0 s.1) m_is (rest.0, rest.1), subst (IsWithin t.0 t.1) l_is (rest.3.0, rest.3.1)),
      e.3 ∙ ap (λ l. k ∷ l) h.1 ∙ (λ i. k ∷ number (n_is i) ∷ number (m_is i) ∷ number (l_is i) ∷ []),
    )

-- a line of four numbers
pub row_four : (k : List ℕ) (words : Words) (r s t u : ℕ × ℕ) {n m l o : ℕ} → (begins k words && length words == 5) ≡ true
    → r.1 < 2 ^ 64 → s.1 < 2 ^ 64 → t.1 < 2 ^ 64 → u.1 < 2 ^ 64
    → HasNumbers words (r ∷ s ∷ t ∷ u ∷ []) × (n ≡ word_value words 1) × (m ≡ word_value words 2) × (l ≡ word_value words 3) × (o ≡ word_value words 4)
    → (IsWithin r.0 r.1 n × IsWithin s.0 s.1 m × IsWithin t.0 t.1 l × IsWithin u.0 u.1 o) × (words ≡ k ∷ number n ∷ number m ∷ number l ∷ number o ∷ [])
row_four k words r s t u {n} {m} {l} {o} row f0 f1 f2 f3 found =
    let e = four_behind k words row in
    let h = read e.4 refl (f0, (f1, (f2, (f3, tt)))) found.0 in
    let n_is : value_of e.0 ≡ n = sym (found.1 ∙ ap (λ w. word_value w 1) e.4) in
    let m_is : value_of e.1 ≡ m = sym (found.2 ∙ ap (λ w. word_value w 2) e.4) in
    let l_is : value_of e.2 ≡ l = sym (found.3 ∙ ap (λ w. word_value w 3) e.4) in
    let o_is : value_of e.3 ≡ o = sym (found.4 ∙ ap (λ w. word_value w 4) e.4) in
    let rest = h.0.3 in
    let last = rest.3.3 in (
      (
        subst (IsWithin r.0 r.1) n_is (h.0.0, h.0.1),
        subst (IsWithin s.0 s.1) m_is (rest.0, rest.1),
        subst (IsWithin t.0 t.1) l_is (rest.3.0, rest.3.1),
        subst (IsWithin u.0 u.1) o_is (last.0, last.1),
      ),
      e.4 ∙ ap (λ l. k ∷ l) h.1 ∙ (λ i. k ∷ number (n_is i) ∷ number (m_is i) ∷ number (l_is i) ∷ number (o_is i) ∷ []),
    )
