use Rattle.txn_cells.proofs.Common.{◌≡◌, ◌+◌, ◌*◌, None, take, Begins, Leads, AppendsOnly, AppendsReads, IsOfCell, PutsWords}
use Rattle.txn_cells.proofs.array.CellArray.write_cell.Given as goal

abbrev pub invariant-loop-k : goal.invariant-loop-k
invariant-loop-k g l =
    let words = g.W.Words in
    let shapes = g.W.Shape.Shape in
    record {
      shape : words.shape l.w ≡ words.shape l.fn.w;
      origin : words.origin l.w ≡ words.origin l.fn.w;
      begins : Begins (words.trace l.fn.w) (words.trace l.w);
      stop : words.stop l.w ≡ None;
      sound : words.is_sound l.w;
      first : l.first ≡ l.self.at + l.i * g.T.Coded.WORDS;
      puts : Leads (shapes.word_count (words.shape l.fn.w)) (shapes.good (words.shape l.fn.w)) (words.trace l.fn.w)
          (words.trace l.w) (PutsWords l.first (take l.k l.words));
      frame : AppendsOnly (words.trace l.fn.w) (words.trace l.w) (IsOfCell g.T.Coded.WORDS l.self.at l.i);
      reads : AppendsReads (words.trace l.fn.w) (words.trace l.w) (IsOfCell g.T.Coded.WORDS l.self.at l.i);
    }
