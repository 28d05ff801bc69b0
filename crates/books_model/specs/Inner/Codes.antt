-- How books are stored.
use Rattle.std.specs.Prelude.{ℕ, List, refl}
use Rattle.std.specs.Ordering.{nat_cmp}
use Rattle.std.specs.Coded.{Coded, code_by, coded×, coded_ℕ, coded_list}
use Rattle.std.specs.FinMap as map
use Rattle.books_model.specs.Books.{ClearingBooks, position_cmp}

-- books are stored as the tuple of their parts
abbrev pub books_code : Coded ClearingBooks
books_code =
    code_by (ℕ × (ℕ × (ℕ × (map.FinMap nat_cmp ℕ × (map.FinMap position_cmp ℕ × (map.FinMap nat_cmp ℕ × List (ℕ × ℕ)))))))
    (coded× coded_ℕ (coded× coded_ℕ
    (coded× coded_ℕ (coded× (map.code coded_ℕ coded_ℕ) (coded× (map.code (coded× coded_ℕ coded_ℕ) coded_ℕ)
    (coded× (map.code coded_ℕ coded_ℕ) (coded_list (coded× coded_ℕ coded_ℕ))))))))
    (λ b. (b.blocks, (b.instruments, (b.ring, (b.accounts, (b.positions, (b.prices, b.calls)))))))
    (λ p. record {
      blocks = p.0;
      instruments = p.1.0;
      ring = p.1.1.0;
      accounts = p.1.1.1.0;
      positions =
          p.1.1.1.1.0;
      prices = p.1.1.1.1.1.0;
      calls = p.1.1.1.1.1.1;
    })
    (λ _. refl)
