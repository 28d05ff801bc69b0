use Rattle.word_table.proofs.Common.{◌≡◌, ◌<◌, ◌*◌, ℕ, length, HasBit, ClearsMore, GroundHolds, rising}
use Rattle.word_table.proofs.pass.Pass.clear_word.Given as goal

-- no bit before the word is left
abbrev pub invariant-loop-lock : goal.invariant-loop-lock
invariant-loop-lock g l = record {
  table : l.self.table ≡ l.initial.self.table;
  clears : ClearsMore (GroundHolds g.S.Shape.word_count g.S.Shape.good l.table.key) l.initial.self l.self;
  before : (k : ℕ) → k < 64 * l.i → ¬ HasBit l.self.view k;
}

abbrev pub decreases-loop-lock : goal.decreases-loop-lock
decreases-loop-lock g l = length (rising l.self.view.bits)
