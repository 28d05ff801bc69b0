use Rattle.txn_cells.proofs.Common.{◌≡◌, ◌+◌, ◌*◌, ◌<◌, ◌≤◌, length, take, ap, ◌∙◌, subst, arith, length-set, each_plain, IsOfCell, HasWords, Looks}
use Rattle.std.proofs.lemmas.List.{length-take-le}
use Rattle.txn_cells.proofs.Calls.{cell_lies}
use Rattle.txn_cells.proofs.Turns.{more_read, cell_read}
use Rattle.txn_cells.proofs.array.CellArray.read_cell.Goals as goal

pub read-requires-clause-within : goal.read-requires-clause-within
read-requires-clause-within g c =
    let code = g.T.Coded in
    let array = c.args.self.now in
    let words = g.W.Words in
    let shapes = g.W.Shape.Shape in
    let lies : array.at + c.args.i * code.WORDS + code.WORDS ≤ shapes.word_count (words.shape c.args.w.now) =
    cell_lies code array.at array.len _ _ g.met.T.Coded.count g.met.T.Coded.one _ array.sizes.some
    (each_plain words shapes _ _ c.requires.cells) (g.met.W.Words.fits c.args.w.now c.requires.ready.sound) c.args.i c.requires.place in
    let shape : shapes.word_count (words.shape c.loop-k.w) ≡ shapes.word_count (words.shape c.args.w.now) = ap shapes.word_count c.loop-k.invariant.shape in
    omega (arith, lies, shape, c.loop-k.invariant.first, c.loop-k-test.true)

pub loop-k-preserved : goal.loop-k-preserved
loop-k-preserved g c =
    let code = g.T.Coded in
    let array = c.args.self.now in
    let loop = c.loop-k in
    let read = c.in_ok-words in
    let below : loop.k < length loop.words = omega (arith, loop.invariant.count, c.loop-k-test.true, array.sizes.few) in
    let own : IsOfCell code.WORDS array.at c.args.i (c.first_word-first.result + c.from.result) =
    (omega (arith, loop.invariant.first), omega (arith, loop.invariant.first, c.loop-k-test.true)) in
    record {
      shape = read.ensures.shape ∙ loop.invariant.shape;
      origin = read.ensures.origin ∙ loop.invariant.origin;
      stop = read.ensures.stops;
      sound = read.ensures.sound;
      first = loop.invariant.first;
      count = length-set loop.words loop.k read.field-0 ∙ loop.invariant.count;
      looks = more_read _ _ _ _ loop.k _ _ loop.words _ read.field-0 below (omega arith) own read.ensures.value loop.invariant.looks;
    }

pub returns-clause-looks : goal.returns-clause-looks
returns-clause-looks g c =
    let code = g.T.Coded in
    let array = c.args.self.now in
    let loop = c.loop-k in
    let words = g.W.Words in
    let shapes = g.W.Shape.Shape in
    let end : loop.k ≡ code.WORDS = omega (arith, c.loop-k-test.false) in
    let long : length (take code.WORDS loop.words) ≡ code.WORDS = length-take-le code.WORDS loop.words (omega (arith, loop.invariant.count, array.sizes.few)) in
    let looks : Looks (shapes.word_count (words.shape c.args.w.now)) (shapes.good (words.shape c.args.w.now))
    (words.trace c.args.w.now) (words.trace loop.w) (λ _. IsOfCell code.WORDS array.at c.args.i)
    (HasWords (c.first_word-first.result) (take code.WORDS loop.words)) =
    subst (λ k. Looks (shapes.word_count (words.shape c.args.w.now)) (shapes.good (words.shape c.args.w.now))
    (words.trace c.args.w.now) (words.trace loop.w) (λ _. IsOfCell code.WORDS array.at c.args.i)
    (HasWords (c.first_word-first.result) (take k loop.words))) end loop.invariant.looks in
    cell_read _ _ _ code g.met.T.Coded.count g.met.T.Coded.one array.at array.len _ c.args.i _ loop.words
    array.sizes.some (each_plain words shapes _ _ c.requires.cells) c.requires.place loop.invariant.first long looks
