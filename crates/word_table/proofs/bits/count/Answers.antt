use Rattle.word_table.proofs.Common.{◌≤◌, length, arith, rules, ◌^◌}
use Rattle.std.proofs.lemmas.Iterator.{YieldsList-from_slice}
use Rattle.std.proofs.lemmas.Iterator.Adapters.{fits_from_length, at_most_from_yields_List}
use Rattle.word_table.proofs.bits.count.Goals as goal

-- sixteen words of 64 bits
pub sum-requires-clause-fits : goal.sum-requires-clause-fits
sum-requires-clause-fits c = let few : length c.args.row.now ≤ 16 = omega arith in
    fits_from_length _ _ 16 (2 ^ 32) (at_most_from_yields_List (YieldsList-from_slice c.args.row.now cc) few) c.map.ensures.closure (omega arith)
    (λ x r q k. search rules)
