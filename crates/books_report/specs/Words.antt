-- The words of replies.
use Rattle.std.specs.Prelude.{ℕ, List, [], ◌∷◌, map, codes}
use Rattle.books_model.specs.declared.reply.Reply.{Reply}
use Rattle.books_model.specs.declared.reply.Reply.TheVariants as reply
use Rattle.books_model.specs.Words.{decline_word, word_of_value}
use Rattle.script_reader.specs.Text.{number}

-- the words of a reply: `done` and the values, or why and at which operation it ended
abbrev pub reply_words : Reply → List (List ℕ)
reply_words (reply.Done values) = codes "done" ∷ map word_of_value values
reply_words (reply.Declined k why) = codes "declined" ∷ number k ∷ decline_word why ∷ []
reply_words (reply.Full k) = codes "full" ∷ number k ∷ []
