-- What spreads the keys of a map: Fibonacci hashing (Knuth, The Art of Computer Programming, volume 3, 1973, section 6.4).
use Rattle.std.specs.Prelude.{ℕ, ◌*◌, ◌%◌, ◌^◌}
use Rattle.txn_alloc.specs.declared.spread.TheConstants.{MULTIPLIER}

-- the low 64 bits of the key's product with the multiplier
abbrev pub spread_of : ℕ → ℕ
spread_of key = (key * MULTIPLIER) % 2 ^ 64
