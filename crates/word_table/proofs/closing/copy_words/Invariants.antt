use Rattle.word_table.proofs.Common.{◌≡◌, length, slots_items}
use Rattle.word_table.proofs.Joined.Gathering.{AreCopied}
use Rattle.word_table.proofs.closing.copy_words.Given as goal

-- the words up to a are copied, and there are as many as before
abbrev pub invariant-loop-a : goal.invariant-loop-a
invariant-loop-a l = AreCopied (slots_items l.closed.words) l.first l.a l.words.items × (length l.words.items ≡ length l.initial.words.items)
