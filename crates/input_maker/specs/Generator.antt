-- The numbers that a seed gives: a linear congruential generator, with the numbers of the example of `rand` in the
-- standard of C.
use Rattle.std.specs.Prelude.{ℕ, zero, suc, ◌+◌, ◌*◌, ◌/◌, ◌%◌}

-- the state after a draw
unfoldable pub next_state : ℕ → ℕ
next_state x = (x * 1103515245 + 12345) % 2147483648

-- the state after so many draws
abbrev pub drawn_state : ℕ → ℕ → ℕ
drawn_state zero x = x
drawn_state (suc k) x = next_state (drawn_state k x)

-- what a draw gives, a number below n, from the state before it
unfoldable pub drawn : ℕ → ℕ → ℕ
drawn n x = next_state x / 65536 % n
