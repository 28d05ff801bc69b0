use Rattle.txn_cells.proofs.Common.{◌≡◌, ◌+◌, ◌-◌, ◌*◌, List, ℕ, take, drop, sym, ap, ◌∙◌, arith}
use Rattle.txn_cells.proofs.Values.{value_at, value_is}
use Rattle.txn_cells.proofs.array.CellArray.value_in.Goals as goal

-- what was taken of the words are those of the cell
taken : (words : List ℕ) (first count place size : ℕ) → first ≡ place → count ≡ size
    → take (first + count - first) (drop first words) ≡ take size (drop place words)
taken words first count place size first_is count_is =
    let long : first + count - first ≡ size = omega (arith, count_is) in
    ap (λ n. take n (drop first words)) long ∙ ap (λ k. take size (drop k words)) first_is

pub unreachable-requires : goal.unreachable-requires
unreachable-requires g c =
    let code = g.T.Coded in
    let array = c.args.self.now in
    let words = c.args.words.now in
    let it = value_at code g.met.T.Coded.count g.met.T.Coded.one array.at array.len words c.requires.cells.0 c.requires.cells.1 c.args.i c.requires.place in
    let those = taken words c.first_word-first.result c.WORDS.result (array.at + c.args.i * code.WORDS) code.WORDS c.first_word-first.ensures c.WORDS.ensures in
    c.in-None.ensures.none it.0 it.2 (sym it.3 ∙ sym those)

pub returns : goal.returns
returns g c values are =
    let code = g.T.Coded in
    let array = c.args.self.now in
    let words = c.args.words.now in
    let some = c.in-Some.ensures.some in
    let those = taken words c.first_word-first.result c.WORDS.result (array.at + c.args.i * code.WORDS) code.WORDS c.first_word-first.ensures c.WORDS.ensures in
    value_is code g.met.T.Coded.count g.met.T.Coded.one array.at array.len words values are c.args.i c.requires.place
    c.in-Some.x some.0 (sym those ∙ sym some.1)
