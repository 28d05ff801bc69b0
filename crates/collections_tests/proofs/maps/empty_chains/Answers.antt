use Rattle.std.proofs.Common.{◌≡◌, ℕ, length, arith}
use Rattle.txn_alloc.specs.EntryMaps.{HasMapApart}
use Rattle.txn_hash_map.specs.Chains.{chain_part}
use Rattle.collections_tests.specs.declared.maps.TheConstants.{CHAINS}
use Rattle.txn_alloc.proofs.FreeLists.AllLaid.{laid_good}
use Rattle.collections_tests.proofs.maps.empty_chains.Goals as goal

pub lay_empty-requires : goal.lay_empty-requires
lay_empty-requires c =
    let count : length c.deref_mut.result.now ≡ 285 = omega (arith, c.deref_mut.ensures.len, c.in_ok-words.ensures) in
    record {
      arena = record {
        places = omega (arith, count);
        blocks = λ b lt. omega (arith, count, lt);
        heads = omega (arith, count);
        outside = λ b a lt mine head. omega (arith, mine.low, head.high);
      };
      buckets = omega (arith, count);
      no_head = λ a is head. omega (arith, is.low, head.high);
      outside = λ b a lt mine is. omega (arith, mine.low, is.high);
    }

pub new-requires : goal.new-requires
new-requires c =
    let long : length c.lay_empty.new.words ≡ 285 = omega (arith, c.lay_empty.ensures.others.count, c.deref_mut.ensures.len, c.in_ok-words.ensures) in
    laid_good 285 (HasMapApart (chain_part CHAINS)) _ c.in_ok-words.words.items c.lay_empty.new.words
    (omega (arith, c.deref_mut.ensures.len, c.in_ok-words.ensures)) long c.lay_empty.ensures.order
