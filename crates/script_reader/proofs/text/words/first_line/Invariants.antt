use Rattle.script_reader.proofs.Common.{◌≡◌, ◌<◌, ◌==◌, ℕ, false, length, take, get_or, count_by, SPACE, LINE_FEED, word_end}
use Rattle.script_reader.proofs.text.words.first_line.Given as goal

abbrev pub invariant-loop-i : goal.invariant-loop-i
invariant-loop-i l = record {
  size : length l.ends ≡ 8;
  line : (k : ℕ) → k < l.i → (get_or l.text k 0 == LINE_FEED) ≡ false;
  counted : l.spaces ≡ count_by (λ b. b == SPACE) (take l.i l.text);
  before : (k : ℕ) → k < l.spaces → k < 8 → get_or l.ends k 0 ≡ word_end (take l.i l.text) k;
}
