-- The sequential interpreter: what a script replies, and the books that it leaves.
use Rattle.std.specs.Prelude.{ℕ, ◌+◌, ◌-◌, ◌*◌, ◌/◌, Bool, not, ◌&&◌, ◌||◌, ◌==◌, nat_lt, nat_le, if◌then◌else◌, List, [], ◌∷◌, ◌++◌, length, sum_by}
use Rattle.std.specs.List.{list_any}
use Rattle.std.specs.FinMap as map
use Rattle.books_model.specs.declared.limits.TheConstants.{GREATEST_CASH, GREATEST_QUANTITY}
use Rattle.books_model.specs.declared.script.Op.{Op}
use Rattle.books_model.specs.declared.script.Op.TheVariants as op
use Rattle.books_model.specs.declared.script.Part.{Part}
use Rattle.books_model.specs.declared.script.Part.TheVariants as part
use Rattle.books_model.specs.declared.reply.Decline.{Decline}
use Rattle.books_model.specs.declared.reply.Decline.TheVariants as decline
use Rattle.books_model.specs.declared.reply.Value.{Value}
use Rattle.books_model.specs.declared.reply.Value.TheVariants as value
use Rattle.books_model.specs.declared.reply.Reply.{Reply}
use Rattle.books_model.specs.declared.reply.Reply.TheVariants as reply
use Rattle.books_model.specs.Scripts.{operations_in}
use Rattle.books_model.specs.Books.{ClearingBooks, used, cash_of, position_of, price_of, put_cash}

abbrev pub is_account : ClearingBooks → ℕ → Bool
is_account books a = map.contains_key books.accounts a

-- an account holds a position
abbrev pub holds_any : ClearingBooks → ℕ → Bool
holds_any books a = list_any (λ e. e.0.0 == a) (map.entries books.positions)

-- no block is left
abbrev pub is_full : ClearingBooks → Bool
is_full books = used books == books.blocks

-- the account holds this much of the instrument, and has no such position if it is 0
abbrev pub put_position : ClearingBooks → ℕ → ℕ → ℕ → ClearingBooks
put_position books a i quantity = record books {
  positions = (if quantity == 0 then map.remove books.positions (a, i) else map.insert books.positions (a, i) quantity);
}

-- what an account's positions are worth at the prices of the books
abbrev pub worth_of : ClearingBooks → ℕ → ℕ
worth_of books a = sum_by (λ e. if e.0.0 == a then e.1 * price_of books e.0.1 else 0) (map.entries books.positions)

-- by how much an account's cash falls short of a rate, in percent, of what its positions are worth
abbrev pub shortfall_of : ClearingBooks → ℕ → ℕ → ℕ
shortfall_of books a rate = worth_of books a * rate / 100 - cash_of books a

-- the cash of all accounts from one number to another, both included
abbrev pub cash_between : ClearingBooks → ℕ → ℕ → ℕ
cash_between books a b = sum_by (λ e. if nat_le a e.0 && nat_le e.0 b then e.1 else 0) (map.entries books.accounts)

-- what one operation does: it gives a value and leaves books, or is declined, or finds no block
pub data Step : Type 0 where
  Gives : Value → ClearingBooks → Step
  Declines : Decline → Step
  FindsNoBlock : Step

-- declined for the first reason of a list that applies, or else this step
abbrev pub declines_first : List (Bool × Decline) → Step → Step
declines_first [] otherwise = otherwise
declines_first (reason ∷ reasons) otherwise = if reason.0 then Declines reason.1 else declines_first reasons otherwise

-- a trade that is not declined, from what the buyer pays and the books in which the seller's position is lowered
abbrev pub trade_of : ClearingBooks → ClearingBooks → ℕ → ℕ → ℕ → ℕ → ℕ → Step
trade_of books lowered a b i q cost =
    if not (map.contains_key books.positions (a, i)) && is_full lowered then FindsNoBlock
    else Gives value.Done (put_cash (put_cash (put_position lowered a i (position_of books a i + q)) a (cash_of books a - cost)) b (cash_of books b + cost))

-- a margin call for the shortfall, if there is one
abbrev pub margin_of : ClearingBooks → ℕ → ℕ → Step
margin_of books a shortfall =
    if shortfall == 0 then Gives (value.Number 0) books
    else Gives (value.Number shortfall) (record books { calls = books.calls ++ (a, shortfall) ∷ [] })

-- the queue's front is taken
abbrev pub next_of : ClearingBooks → List (ℕ × ℕ) → Step
next_of books [] = Gives value.Nothing books
next_of books (call ∷ calls) = Gives (value.Call call.0 call.1) (record books { calls = calls })

-- One operation. The first of its reasons to decline that applies counts; a missing block is looked for after them.
abbrev pub step_of : Op → ClearingBooks → Step
step_of (op.OpenAccount a) books = declines_first ((is_account books a, decline.Exists) ∷ []) (
    if is_full books then FindsNoBlock
    else Gives value.Done (put_cash books a 0))
step_of (op.Close a) books = declines_first (
    (not (is_account books a), decline.Absent)
    ∷ (not (cash_of books a == 0), decline.Cash)
    ∷ (holds_any books a, decline.Held)
    ∷ []
    ) (Gives value.Done (record books { accounts = map.remove books.accounts a }))
step_of (op.Deposit a x) books = declines_first (
    (not (is_account books a), decline.Absent)
    ∷ (nat_lt GREATEST_CASH (cash_of books a + x), decline.Limit)
    ∷ []
    ) (Gives value.Done (put_cash books a (cash_of books a + x)))
step_of (op.Withdraw a x) books = declines_first (
    (not (is_account books a), decline.Absent)
    ∷ (nat_lt (cash_of books a) x, decline.Cash)
    ∷ []
    ) (Gives value.Done (put_cash books a (cash_of books a - x)))
step_of (op.Move a b x) books = declines_first (
    (a == b, decline.Same)
    ∷ (not (is_account books a && is_account books b), decline.Absent)
    ∷ (nat_lt (cash_of books a) x, decline.Cash)
    ∷ (nat_lt GREATEST_CASH (cash_of books b + x), decline.Limit)
    ∷ []
    ) (Gives value.Done (put_cash (put_cash books a (cash_of books a - x)) b (cash_of books b + x)))
step_of (op.Price i p) books =
    if not (map.contains_key books.prices i) && is_full books then FindsNoBlock
    else Gives value.Done (record books { prices = map.insert books.prices i p })
step_of (op.Trade a b i q) books = declines_first (
    (a == b, decline.Same)
    ∷ (not (is_account books a && is_account books b), decline.Absent)
    ∷ (not (map.contains_key books.prices i), decline.Price)
    ∷ (nat_lt (position_of books b i) q, decline.Quantity)
    ∷ (nat_lt (cash_of books a) (q * price_of books i), decline.Cash)
    ∷ (
      nat_lt GREATEST_CASH (cash_of books b + q * price_of books i)
          || nat_lt GREATEST_QUANTITY (position_of books a i + q),
      decline.Limit,
    )
    ∷ []
    ) (trade_of books (put_position books b i (position_of books b i - q)) a b i q (q * price_of books i))
step_of (op.Margin a m) books = declines_first (
    (not (is_account books a), decline.Absent)
    ∷ (not (shortfall_of books a m == 0) && (length books.calls == books.ring), decline.Queue)
    ∷ []
    ) (margin_of books a (shortfall_of books a m))
step_of op.Next books = next_of books books.calls
step_of (op.Show a) books = declines_first ((not (is_account books a), decline.Absent) ∷ []) (
    Gives (value.Number (cash_of books a)) books)
step_of (op.Sum a b) books = Gives (value.Number (cash_between books a b)) books

-- how operations end: with a value for each and the books after them, or at the first that is refused
pub data Run : Type 0 where
  Ends : List Value → ClearingBooks → Run
  Stops : Reply → Run

-- a value in front of those that follow
abbrev pub after_value : Value → Run → Run
after_value v (Ends values books) = Ends (v ∷ values) books
after_value v (Stops stop) = Stops stop

-- operation number k took this step; what follows goes on from its books
abbrev pub after_step : ℕ → Step → (ClearingBooks → Run) → Run
after_step k (Gives v books) follows = after_value v (follows books)
after_step k (Declines why) follows = Stops (reply.Declined k why)
after_step k FindsNoBlock follows = Stops (reply.Full k)

-- operations, the first of which has number k
abbrev pub run_from : ℕ → List Op → ClearingBooks → Run
run_from k [] books = Ends [] books
run_from k (op ∷ ops) books = after_step k (step_of op books) (λ next. run_from (k + 1) ops next)

-- the first branch of an alternative; if it is refused the second, which is run on the books from before the first
abbrev pub either_of : Run → Run → Run
either_of (Ends values after) second = Ends (value.First ∷ values) after
either_of (Stops stop) second = after_value value.Second second

-- a part, the first operation of which has number k: numbers go on through both branches, whichever is run
abbrev pub run_part : ℕ → Part → ClearingBooks → Run
run_part k (part.One o) books = run_from k (o ∷ []) books
run_part k (part.Either first second) books = either_of (run_from k first books) (run_from (k + length first) second books)

-- values in front of those of a run
abbrev pub after_values : List Value → Run → Run
after_values values (Ends more books) = Ends (values ++ more) books
after_values values (Stops stop) = Stops stop

-- a run, and what goes on from its books
abbrev pub then_run : Run → (ClearingBooks → Run) → Run
then_run (Ends values books) follows = after_values values (follows books)
then_run (Stops stop) follows = Stops stop

-- parts, the first operation of which has number k
abbrev pub run_parts : ℕ → List Part → ClearingBooks → Run
run_parts k [] books = Ends [] books
run_parts k (p ∷ parts) books = then_run (run_part k p books) (λ next. run_parts (k + length (operations_in p)) parts next)

-- a script that is refused changes nothing
abbrev pub outcome_from : ClearingBooks → Run → Reply × ClearingBooks
outcome_from before (Ends values after) = (reply.Done values, after)
outcome_from before (Stops stop) = (stop, before)

-- what a script replies, and the books that it leaves
abbrev pub outcome_of : List Part → ClearingBooks → Reply × ClearingBooks
outcome_of script books = outcome_from books (run_parts 1 script books)
