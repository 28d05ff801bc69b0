use Rattle.script_reader.proofs.Common.{sym, ◌∙◌}
use Rattle.script_reader.proofs.LineFaults.Refusing.{word_fault}
use Rattle.script_reader.proofs.books.row_of.Goals as goal

pub returns-clause-err : goal.returns-clause-err
returns-clause-err c =
    word_fault c.args.version c.ranges-2.ensures c.args.words.now
    (sym c.is_row.ensures ∙ c.if-is_row.false) (sym c.is_row-2.ensures ∙ c.if-is_row-2.false) (sym c.is_row-3.ensures
    ∙ c.if-is_row-3.false) (sym c.is_row-4.ensures ∙ c.if-is_row-4.false) c.requires
