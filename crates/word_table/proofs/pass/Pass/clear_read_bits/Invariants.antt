use Rattle.word_table.proofs.Common.{◌≡◌, ◌<◌, ◌*◌, ℕ, HasBit, ClearsMore, GroundHolds}
use Rattle.word_table.proofs.pass.Pass.clear_read_bits.Given as goal

-- the words so far have no bit left
abbrev pub invariant-loop-i : goal.invariant-loop-i
invariant-loop-i g l = record {
  table : l.self.table ≡ l.initial.self.table;
  clears : ClearsMore (GroundHolds g.S.Shape.word_count g.S.Shape.good l.table.key) l.initial.self l.self;
  before : (k : ℕ) → k < 64 * l.i → ¬ HasBit l.self.view k;
}
