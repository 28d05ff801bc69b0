use Rattle.txn_cells.proofs.Common.{◌≡◌, ◌+◌, ◌*◌, ◌≤◌, get_or, ap, ◌∙◌, arith, begins_trans, each_plain, only_then, sees_then, IsOfCell}
use Rattle.txn_words.proofs.FrameLaws.{only_write}
use Rattle.txn_words.proofs.ReadLaws.{sees_write}
use Rattle.txn_cells.proofs.Calls.{cell_lies}
use Rattle.txn_cells.proofs.Turns.{more_put}
use Rattle.txn_cells.proofs.array.CellArray.write_cell.Goals as goal

pub write-requires-clause-within : goal.write-requires-clause-within
write-requires-clause-within g c =
    let code = g.T.Coded in
    let array = c.args.self.now in
    let words = g.W.Words in
    let shapes = g.W.Shape.Shape in
    let lies : array.at + c.args.i * code.WORDS + code.WORDS ≤ shapes.word_count (words.shape c.args.w.now) =
    cell_lies code array.at array.len _ _ g.met.T.Coded.count g.met.T.Coded.one _ array.sizes.some
    (each_plain words shapes _ _ c.requires.cells) (g.met.W.Words.fits c.args.w.now c.requires.ready.sound) c.args.i c.requires.place in
    let shape : shapes.word_count (words.shape c.loop-k.w) ≡ shapes.word_count (words.shape c.args.w.now) = ap shapes.word_count c.loop-k.invariant.shape in
    omega (arith, lies, shape, c.loop-k.invariant.first, c.loop-k-test.true)

pub loop-k-preserved : goal.loop-k-preserved
loop-k-preserved g c =
    let code = g.T.Coded in
    let array = c.args.self.now in
    let words = g.W.Words in
    let shapes = g.W.Shape.Shape in
    let loop = c.loop-k in
    let put = c.in_ok-write in
    let IsOwn = IsOfCell code.WORDS array.at c.args.i in
    let lies : array.at + c.args.i * code.WORDS + code.WORDS ≤ shapes.word_count (words.shape c.args.w.now) =
    cell_lies code array.at array.len _ _ g.met.T.Coded.count g.met.T.Coded.one _ array.sizes.some
    (each_plain words shapes _ _ c.requires.cells) (g.met.W.Words.fits c.args.w.now c.requires.ready.sound) c.args.i c.requires.place in
    let own : IsOfCell code.WORDS array.at c.args.i (c.first_word-first.result + c.from.result) =
    (omega (arith, loop.invariant.first), omega (arith, loop.invariant.first, c.loop-k-test.true)) in
    record {
      shape = put.ensures.shape ∙ loop.invariant.shape;
      origin = put.ensures.origin ∙ loop.invariant.origin;
      begins = begins_trans _ _ _ loop.invariant.begins put.ensures.begins;
      stop = put.ensures.stops;
      sound = put.ensures.sound;
      first = loop.invariant.first;
      puts = more_put _ _ _ _ loop.k _ _ c.args.words.now _ (get_or c.args.words.now loop.k 0)
          (omega (arith, c.requires.count, c.loop-k-test.true))
          (omega (arith, lies, loop.invariant.first, c.requires.count)) (omega arith) (omega arith) put.ensures.value loop.invariant.begins loop.invariant.puts;
      frame = only_then IsOwn _ _ _ loop.invariant.frame (only_write IsOwn _ _ _ _ put.ensures.value own);
      reads = sees_then IsOwn _ _ _ loop.invariant.reads (sees_write IsOwn _ _ _ _ put.ensures.value own);
    }
