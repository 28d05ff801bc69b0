use Rattle.word_table.proofs.Common.{◌≡◌, ◌+◌, ◌*◌, ℕ, ◌<◌, length, subst, arith, rules, ListsBelow}
use Rattle.word_table.proofs.Copied.Listings.{count_more}
use Rattle.word_table.proofs.pass.uses.list_words.Goals as goal

-- the uses of one word more are listed
pub loop-i-preserved : goal.loop-i-preserved
loop-i-preserved c = let next : 64 * c.loop-i.i + 64 ≡ 64 * (c.loop-i.i + 1) = omega arith in
    let near : c.loop-i.i < length c.args.versions.now.used = omega arith in
    let more = count_more c.args.versions.now.used c.loop-i.i near in record {
      listed = subst (λ (n : ℕ). ListsBelow c.args.versions.now n c.list_word.new.uses.items) next c.list_word.ensures.listed;
      room = search rules;
      counted = omega arith;
    }
