use Rattle.word_table.proofs.Common.{◌≡◌, ℕ, length, refl, arith, subst, ◌∙◌, length-set, slots_items}
use Rattle.std.specs.Slots.{slots_counts}
use Rattle.word_table.proofs.Joined.Gathering.{AreCopied, copied_more, all_copied}
use Rattle.word_table.proofs.closing.copy_words.Goals as goal

pub loop-a-preserved : goal.loop-a-preserved
loop-a-preserved c = let i = c.loop-a.invariant in let long = i.1 in (
  copied_more (slots_items c.args.closed.now.words) c.args.first c.loop-a.a c.word.result c.loop-a.words.items _ i.0 (omega arith) c.word.ensures refl,
  length-set c.loop-a.words.items c.loop-a.a c.word.result ∙ long,
)

pub returns : goal.returns
returns c = let i = c.loop-a.invariant in let long = i.1 in
    let end : c.loop-a.a ≡ length c.loop-a.words.items = omega arith in
    let counts = (slots_counts c.args.closed.now.words).0 in
    all_copied (slots_items c.args.closed.now.words) c.args.first c.loop-a.words.items
    (subst (λ (k : ℕ). AreCopied (slots_items c.args.closed.now.words) c.args.first k c.loop-a.words.items) end i.0) (omega arith)
