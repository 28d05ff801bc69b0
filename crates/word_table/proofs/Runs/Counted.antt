-- The seats of a desk begin fewer than 2^37 calls together, and no timestamp and no version is as great.
use Rattle.word_table.proofs.Common.{ℕ, zero, suc, ◌*◌, ◌^◌, ◌<◌, ◌≤◌, List, slice_index, arith, calls_sum, calls_word}
use Rattle.history_model.specs.Counts.{calls_below}
use Rattle.word_table.specs.Meetings.{NumbersStayBelow}
use Rattle.word_table.proofs.Runs.Meetings.{reached_sound}

calls_few : (n m : ℕ) (ws : List ℕ) → ((j : ℕ) → j < n → slice_index ws (calls_word n j) < 2 ^ 32) → m ≤ n → calls_below n m ws ≤ m * 4294967295
unfolding calls_below
calls_few n zero ws fit le = omega arith
calls_few n (suc m) ws fit le = let rest = calls_few n m ws fit (omega arith) in let one = fit m (omega arith) in omega (arith, rest, one)

pub numbers_stay_below : (good : List ℕ → Type 0) (n : ℕ) (base : List ℕ) → NumbersStayBelow good n base
numbers_stay_below good n base s r few =
    let h = reached_sound good n base s r in
    let most : n ≤ 32 = few in
    let sum : calls_sum n s.words ≤ n * 4294967295 = calls_few n n s.words h.values.calls.calls_fit (omega arith) in
    let clock = h.stamps.drawn.counted in
    let ended = h.versions.counted in (
      omega (arith, sum, most),
      omega (arith, sum, most, clock),
      (λ k near. let below = h.versions.words_below k near in omega (arith, sum, most, ended, below)),
    )
