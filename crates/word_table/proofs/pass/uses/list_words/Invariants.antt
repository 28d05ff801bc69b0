use Rattle.word_table.proofs.Common.{◌≡◌, ◌+◌, ◌*◌, sum_by, drop, vec_len, vec_capacity, count_ones, ListsBelow}
use Rattle.word_table.proofs.pass.uses.list_words.Given as goal

-- the uses of the words so far are listed, and the list has room for the others
abbrev pub invariant-loop-i : goal.invariant-loop-i
invariant-loop-i l = record {
  listed : ListsBelow l.versions (64 * l.i) l.uses.items;
  room : vec_capacity l.uses ≡ vec_capacity l.initial.uses;
  counted : vec_len l.uses + sum_by count_ones (drop l.i l.versions.used) ≡ sum_by count_ones l.versions.used;
}
