-- The ranges of the numbers in each row of books.
use Rattle.script_reader.proofs.Common.{GREATEST_SHORTFALL, Version, greatest_cash, accounts, prices, quantities}
use Rattle.std.specs.Prelude.{ℕ, List, [], ◌∷◌}

-- of each row, by the version of the text or by how many instruments there are
abbrev pub account_ranges : Version → List (ℕ × ℕ)
account_ranges version = accounts ∷ (0, greatest_cash version) ∷ []

abbrev pub price_ranges : ℕ → List (ℕ × ℕ)
price_ranges instruments = (1, instruments) ∷ prices ∷ []

abbrev pub position_ranges : ℕ → List (ℕ × ℕ)
position_ranges instruments = accounts ∷ (1, instruments) ∷ quantities ∷ []

abbrev pub call_ranges : List (ℕ × ℕ)
call_ranges = accounts ∷ (1, GREATEST_SHORTFALL) ∷ []
