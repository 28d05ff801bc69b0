-- The lines of books with one more entry.
use Rattle.script_reader.proofs.Common.{◌≡◌, ℕ, List, [], ◌∷◌, ◌++◌, map, account_words, price_words, position_words, call_words, Words}
use Rattle.script_reader.proofs.Joined.{joined}

-- the lines behind a header
abbrev pub lines_of : List (ℕ × ℕ) → List (ℕ × ℕ) → List ((ℕ × ℕ) × ℕ) → List (ℕ × ℕ) → List Words
lines_of accounts prices positions calls = map account_words accounts ++ (map price_words prices ++ (map position_words positions ++ map call_words calls))

module _ (accounts : List (ℕ × ℕ)) where
  -- an account goes behind accounts
  pub account_more : (prices : List (ℕ × ℕ)) (positions : List ((ℕ × ℕ) × ℕ)) (calls : List (ℕ × ℕ)) (e : ℕ × ℕ) → prices ≡ [] → positions ≡ [] → calls ≡ []
      → lines_of (accounts ++ e ∷ []) prices positions calls ≡ lines_of accounts prices positions calls ++ account_words e ∷ []
  account_more prices positions calls e p q c = simp (p, q, c, joined)

  module _ (prices : List (ℕ × ℕ)) where
    -- a price behind prices
    pub price_more : (positions : List ((ℕ × ℕ) × ℕ)) (calls : List (ℕ × ℕ)) (e : ℕ × ℕ) → positions ≡ [] → calls ≡ []
        → lines_of accounts (prices ++ e ∷ []) positions calls ≡ lines_of accounts prices positions calls ++ price_words e ∷ []
    price_more positions calls e q c = simp (q, c, joined)

    module _ (positions : List ((ℕ × ℕ) × ℕ)) where
      -- a position behind positions
      pub position_more : (calls : List (ℕ × ℕ)) (e : (ℕ × ℕ) × ℕ) → calls ≡ []
          → lines_of accounts prices (positions ++ e ∷ []) calls ≡ lines_of accounts prices positions calls ++ position_words e ∷ []
      position_more calls e c = simp (c, joined)

      -- a margin call behind all
      pub call_more : (calls : List (ℕ × ℕ)) (e : ℕ × ℕ) → lines_of accounts prices positions (calls ++ e ∷ [])
          ≡ lines_of accounts prices positions calls ++ call_words e ∷ []
      call_more calls e = simp joined
