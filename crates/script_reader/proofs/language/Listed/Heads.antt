-- Headers of one size and of two, by their places.
use Rattle.script_reader.proofs.Common.{◌≡◌, ℕ, true, ◌&&◌, List, [], ◌∷◌, codes, length, arith, bytes_eq, bytes_eq-Decides, word_at, number, Words}
use Rattle.script_reader.specs.ListLanguage.{size, head_with}
use Rattle.script_reader.specs.Inner.Heads.{has_one_size, has_two_sizes}
use Rattle.script_reader.proofs.Conditions.{both}

module _ (title name : List ℕ) (r : ℕ × ℕ) where
  -- a header with this number
  pub one_size_words : (words : Words) (n : ℕ) → length words ≡ 4 → has_one_size title name words ≡ true → word_at words 3 ≡ number n
      → words ≡ head_with title (size name r ∷ []) (n ∷ [])
  one_size_words (a ∷ b ∷ c ∷ d ∷ []) n long h e =
      let names : (bytes_eq a title && bytes_eq b (codes "1") && bytes_eq c name) ≡ true = h in
      let first = both (both names).0 in
      λ i. (bytes_eq-Decides a title).0 first.0 i ∷ (bytes_eq-Decides b (codes "1")).0 first.1 i ∷ (bytes_eq-Decides c name).0 (both names).1 i ∷ e i ∷ []
  one_size_words words n long h e = absurd (omega (arith, long))

  module _ (other : List ℕ) (s : ℕ × ℕ) where
    -- and one with two
    pub two_sizes_words : (words : Words) (n m : ℕ) → length words ≡ 6 → has_two_sizes title name other words ≡ true → word_at words 3 ≡ number n
        → word_at words 5 ≡ number m
        → words ≡ head_with title (size name r ∷ size other s ∷ []) (n ∷ m ∷ [])
    two_sizes_words (a ∷ b ∷ c ∷ d ∷ e ∷ f ∷ []) n m long h at there =
        let names : (bytes_eq a title && bytes_eq b (codes "1") && bytes_eq c name && bytes_eq e other) ≡ true = h in
        let more = both (both names).0 in
        let first = both more.0 in
        λ i. (bytes_eq-Decides a title).0 first.0 i ∷ (bytes_eq-Decides b (codes "1")).0 first.1 i ∷ (bytes_eq-Decides c name).0 more.1 i ∷ at i
        ∷ (bytes_eq-Decides e other).0 (both names).1 i ∷ there i ∷ []
    two_sizes_words words n m long h at there = absurd (omega (arith, long))
