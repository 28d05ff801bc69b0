use Rattle.std.proofs.Common.{◌≡◌, ℕ, length, arith}
use Rattle.txn_alloc.specs.EntryMaps.{HasMapApart}
use Rattle.txn_tree_map.specs.Trees.{tree_part}
use Rattle.collections_tests.specs.declared.paths.TheConstants.{MAP}
use Rattle.txn_alloc.proofs.FreeLists.AllLaid.{laid_good}
use Rattle.collections_tests.proofs.paths.empty_map.Goals as goal

pub lay_empty-requires : goal.lay_empty-requires
lay_empty-requires c =
    let count : length c.deref_mut.result.now ≡ 2681 = omega (arith, c.deref_mut.ensures.len, c.in_ok-words.ensures) in
    record {
      arena = record {
        places = omega (arith, count);
        blocks = λ b lt. omega (arith, count, lt);
        heads = omega (arith, count);
        outside = λ b a lt mine head. omega (arith, mine.low, head.high);
      };
      root = omega (arith, count);
      no_head = λ head. omega (arith, head.low);
      outside = λ b lt mine. omega (arith, mine.low);
    }

pub new-requires : goal.new-requires
new-requires c =
    let long : length c.lay_empty.new.words ≡ 2681 = omega (arith, c.lay_empty.ensures.others.count, c.deref_mut.ensures.len, c.in_ok-words.ensures) in
    laid_good 2681 (HasMapApart (tree_part MAP)) _ c.in_ok-words.words.items c.lay_empty.new.words
    (omega (arith, c.deref_mut.ensures.len, c.in_ok-words.ensures)) long c.lay_empty.ensures.order
