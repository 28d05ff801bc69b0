use Rattle.word_table.proofs.Common.{List, refl, sym, subst, arith, rules, LockUse, trailing_zeros, w64}
use Rattle.word_table.proofs.Copied.Listings.{WordListed, lowered, lowest_less, word_begun, word_more}
use Rattle.word_table.proofs.pass.uses.list_word.Goals as goal

pub loop-left-init : goal.loop-left-init
loop-left-init c = record {
  listed = word_begun c.args.versions.now c.args.i c.args.uses.now.items c.requires.before;
  room = refl;
  counted = refl;
}

pub push_reserved-requires : goal.push_reserved-requires
push_reserved-requires c = let less = lowest_less c.loop-left.left c.loop-left-test.true (search rules) in let many = less.1 in omega arith

pub loop-left-smaller : goal.loop-left-smaller
loop-left-smaller c = (lowest_less c.loop-left.left c.loop-left-test.true (search rules)).0

-- one use more is listed
pub loop-left-preserved : goal.loop-left-preserved
loop-left-preserved c = let many = (lowest_less c.loop-left.left c.loop-left-test.true (search rules)).1 in record {
  listed = subst (λ (l : List LockUse). WordListed c.args.versions.now c.args.i (lowered c.loop-left.left (trailing_zeros w64 c.loop-left.left)) l)
      (sym c.push_reserved.ensures.items)
      (word_more c.args.versions.now c.args.i c.loop-left.left c.loop-left.uses.items c.use_at.result c.requires.word c.loop-left-test.true (search rules)
      c.use_at.ensures.lock c.use_at.ensures.copied c.loop-left.invariant.listed);
  room = search rules;
  counted = omega arith;
}
