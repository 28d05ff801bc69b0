-- How stores are stored.
use Rattle.std.specs.Prelude.{ℕ, refl}
use Rattle.std.specs.Coded.{Coded, code_by, coded×, coded_ℕ}
use Rattle.std.specs.FinMap as finite
use Rattle.record_text.specs.Records.{Records, RecordStore}

-- a store is stored as the pair of its parts
abbrev pub store_code : Coded RecordStore
store_code =
    code_by (ℕ × Records) (coded× coded_ℕ (finite.code coded_ℕ (coded× coded_ℕ coded_ℕ)))
    (λ s. (s.blocks, s.records)) (λ p. record { blocks = p.0; records = p.1 }) (λ _. refl)
