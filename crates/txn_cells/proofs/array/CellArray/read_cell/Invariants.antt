use Rattle.txn_cells.proofs.Common.{◌≡◌, ◌+◌, ◌*◌, None, length, take, Looks, IsOfCell, HasWords}
use Rattle.txn_cells.proofs.array.CellArray.read_cell.Given as goal

abbrev pub invariant-loop-k : goal.invariant-loop-k
invariant-loop-k g l =
    let words = g.W.Words in
    let shapes = g.W.Shape.Shape in
    record {
      shape : words.shape l.w ≡ words.shape l.fn.w;
      origin : words.origin l.w ≡ words.origin l.fn.w;
      stop : words.stop l.w ≡ None;
      sound : words.is_sound l.w;
      first : l.first ≡ l.self.at + l.i * g.T.Coded.WORDS;
      count : length l.words ≡ 8;
      looks : Looks (shapes.word_count (words.shape l.fn.w)) (shapes.good (words.shape l.fn.w)) (words.trace l.fn.w)
          (words.trace l.w) (λ _. IsOfCell g.T.Coded.WORDS l.self.at l.i) (HasWords l.first (take l.k l.words));
    }
