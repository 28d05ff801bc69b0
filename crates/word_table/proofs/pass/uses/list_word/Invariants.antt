use Rattle.word_table.proofs.Common.{◌≡◌, ◌+◌, vec_len, vec_capacity, slice_index, count_ones}
use Rattle.word_table.proofs.Copied.Listings.{WordListed}
use Rattle.word_table.proofs.pass.uses.list_word.Given as goal

-- the uses whose bits are no longer left are listed, and the list has room for the others
abbrev pub invariant-loop-left : goal.invariant-loop-left
invariant-loop-left l = record {
  listed : WordListed l.versions l.i l.left l.uses.items;
  room : vec_capacity l.uses ≡ vec_capacity l.initial.uses;
  counted : vec_len l.uses + count_ones l.left ≡ vec_len l.initial.uses + count_ones (slice_index l.versions.used l.i);
}

abbrev pub decreases-loop-left : goal.decreases-loop-left
decreases-loop-left l = l.left
