use Rattle.txn_commit.proofs.Common.{◌≡◌, ◌<◌, ◌≤◌, ◌+◌, true, length, All, UndoesSome}
use Rattle.word_table.proofs.Common.{is_open}
use Rattle.txn_commit.proofs.rollback.undo_all.Given as goal

-- the log has the notes of what is left to undo
abbrev pub invariant-loop-a : goal.invariant-loop-a
invariant-loop-a g l = record {
  table : l.pass.table ≡ l.desk.table;
  undoes : UndoesSome l.initial.pass.view l.pass.view;
  unfinished : is_open l.pass.view.phase ≡ true;
  notes : l.undo.list ≡ l.pass.view.undo;
  within : All (λ note. note.0 < length l.initial.pass.view.base) l.undo.list;
  room : l.initial.undo.spare + length l.initial.undo.list ≤ l.undo.spare + length l.undo.list;
}

abbrev pub decreases-loop-a : goal.decreases-loop-a
decreases-loop-a g l = length l.undo.list
