-- The words of values.
use Rattle.std.specs.Prelude.{ℕ, List, [], ◌∷◌, ◌++◌, map, codes}
use Rattle.std.specs.List.{join_with_byte}
use Rattle.record_text.specs.declared.words.TheConstants.{COMMA}
use Rattle.record_text.specs.declared.reply.RecordValue.{RecordValue}
use Rattle.record_text.specs.declared.reply.RecordValue.TheVariants as value
use Rattle.script_reader.specs.Text.{number}

-- identifiers joined by commas, or `none` if there is none
abbrev pub ids_word : List ℕ → List ℕ
ids_word [] = codes "none"
ids_word (id ∷ ids) = join_with_byte COMMA (map number (id ∷ ids))

-- the word of a value
abbrev pub value_word : RecordValue → List ℕ
value_word value.New = codes "new"
value_word value.Old = codes "old"
value_word value.Gone = codes "ok"
value_word (value.Found rank content) = number rank ++ codes ":" ++ number content
value_word (value.Ids ids) = ids_word ids
