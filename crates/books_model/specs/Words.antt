-- The words of what operations tell and of why they are declined.
use Rattle.std.specs.Prelude.{ℕ, List, ◌++◌, codes}
use Rattle.std.specs.Fmt.{decimal}
use Rattle.books_model.specs.declared.reply.Decline.{Decline}
use Rattle.books_model.specs.declared.reply.Decline.TheVariants as decline
use Rattle.books_model.specs.declared.reply.Value.{Value}
use Rattle.books_model.specs.declared.reply.Value.TheVariants as value

-- the word of a value: a margin call is its account, a colon and its shortfall
abbrev pub word_of_value : Value → List ℕ
word_of_value value.Done = codes "ok"
word_of_value (value.Number n) = decimal n
word_of_value (value.Call a d) = decimal a ++ codes ":" ++ decimal d
word_of_value value.Nothing = codes "none"
word_of_value value.First = codes "first"
word_of_value value.Second = codes "second"

-- the word of a reason to decline
abbrev pub decline_word : Decline → List ℕ
decline_word decline.Exists = codes "exists"
decline_word decline.Absent = codes "absent"
decline_word decline.Cash = codes "cash"
decline_word decline.Held = codes "held"
decline_word decline.Limit = codes "limit"
decline_word decline.Same = codes "same"
decline_word decline.Price = codes "price"
decline_word decline.Quantity = codes "quantity"
decline_word decline.Queue = codes "queue"
