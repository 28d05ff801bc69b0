-- Generated inputs: fixed opening books, and scripts from the numbers that a seed gives.
use Rattle.std.specs.Prelude.{ℕ, zero, suc, ◌+◌, ◌*◌, ◌/◌, ◌%◌, ◌==◌, if◌then◌else◌, List, [], ◌∷◌, map as map_list}
use Rattle.std.specs.List.{flat_map, range_with_len}
use Rattle.std.specs.FinMap as map
use Rattle.books_model.specs.declared.script.Op.{Op}
use Rattle.books_model.specs.declared.script.Op.TheVariants as op
use Rattle.books_model.specs.declared.script.Part.{Part}
use Rattle.books_model.specs.declared.script.Part.TheVariants as part
use Rattle.books_model.specs.Books.{ClearingBooks}
use Rattle.script_reader.specs.declared.books.version.Version.TheVariants.{One}
use Rattle.script_reader.specs.Input.{ClearingInput, Submission, callers_of}
use Rattle.script_reader.specs.Grammar.{input_text}
use Rattle.input_maker.specs.Generator.{drawn_state, drawn}

-- accounts from 1 to n, with the cash that each has
unfoldable pub accounts_to : ℕ → List (ℕ × ℕ)
accounts_to n = map_list (λ a. (a, 1000000)) (range_with_len 1 n)

-- instruments from 1 to n, with their prices
unfoldable pub prices_to : ℕ → List (ℕ × ℕ)
prices_to n = map_list (λ i. (i, 100 * i)) (range_with_len 1 n)

-- what an account holds of the instruments from 1 to n
unfoldable pub positions_in : ℕ → ℕ → List ((ℕ × ℕ) × ℕ)
positions_in a n = map_list (λ i. ((a, i), 100)) (range_with_len 1 n)

-- what the accounts from 1 to n hold of the eight instruments
unfoldable pub positions_to : ℕ → List ((ℕ × ℕ) × ℕ)
positions_to n = flat_map (λ a. positions_in a 8) (range_with_len 1 n)

-- the opening books: each of 200 accounts holds something of each of 8 instruments, and there is no margin call
abbrev pub made_books : ClearingBooks
made_books = record {
  blocks = 4096;
  instruments = 8;
  ring = 64;
  accounts = map.from_sorted (accounts_to 200);
  positions = map.from_sorted (positions_to 200);
  prices = map.from_sorted (prices_to 8);
  calls = [];
}

-- the letter of a digit in base 26
abbrev pub letter : ℕ → ℕ
letter digit = 97 + digit

-- the name of the caller with a number, from 0: `c`, and the number as three letters in base 26
unfoldable pub caller_name : ℕ → List ℕ
caller_name c = 99 ∷ letter (c / 676) ∷ letter (c / 26 % 26) ∷ letter (c % 26) ∷ []

-- an operation of the first kind, from its five draws: which one, two accounts, an instrument and an amount
abbrev pub first_kind : ℕ → ℕ → ℕ → ℕ → ℕ → Op
first_kind t a b i q =
    if t == 0 then op.Deposit a q else if t == 1 then op.Price i (10 * q) else if t == 2 then op.Next else op.Sum a b

-- and one of the second kind
abbrev pub second_kind : ℕ → ℕ → ℕ → ℕ → ℕ → Op
second_kind t a b i q =
    if t == 0 then op.Move a b q else if t == 1 then op.Trade a b i q else if t == 2 then op.Margin a q else op.Show a

-- an operation of a script of kind g
abbrev pub made_operation : ℕ → ℕ → ℕ → ℕ → ℕ → ℕ → Op
made_operation g t a b i q = if g == 0 then first_kind t a b i q else second_kind t a b i q

-- the operation whose draws begin at a state
unfoldable pub operation_from : ℕ → ℕ → Op
operation_from g x =
    made_operation g (drawn 4 x) (1 + drawn 200 (drawn_state 1 x)) (1 + drawn 200 (drawn_state 2 x))
    (1 + drawn 8 (drawn_state 3 x)) (1 + drawn 100 (drawn_state 4 x))

-- the state after so many operations, five draws each
unfoldable pub state_after_operations : ℕ → ℕ → ℕ
state_after_operations zero x = x
state_after_operations (suc k) x = drawn_state 5 (state_after_operations k x)

-- so many operations of a script of kind g
unfoldable pub operations_from : ℕ → ℕ → ℕ → List Op
operations_from g x n = map_list (λ k. operation_from g (state_after_operations k x)) (range_with_len 0 n)

-- how many operations the script has whose draws begin at a state: the first draw is its kind, the second is this
abbrev pub count_from : ℕ → ℕ
count_from x = 1 + drawn 3 (drawn_state 1 x)

-- the script: these operations, and no alternatives
unfoldable pub script_operations : ℕ → List Op
script_operations x = operations_from (drawn 2 x) (drawn_state 2 x) (count_from x)

unfoldable pub script_from : ℕ → List Part
script_from x = map_list part.One (script_operations x)

-- the state after it
unfoldable pub state_after_script : ℕ → ℕ
state_after_script x = state_after_operations (count_from x) (drawn_state 2 x)

-- the state at which the script with a number begins, from 0
unfoldable pub state_of_script : ℕ → ℕ → ℕ
state_of_script seed zero = seed
state_of_script seed (suc k) = state_after_script (state_of_script seed k)

-- the script with a number, from 0, of the callers by turns
abbrev pub made_submission : ℕ → ℕ → ℕ → Submission
made_submission seed callers k =
    record { caller = caller_name (k % callers); script = script_from (state_of_script seed k) }

-- the first n scripts
unfoldable pub submissions_to : ℕ → ℕ → ℕ → List Submission
submissions_to seed callers n = map_list (made_submission seed callers) (range_with_len 0 n)

-- as many scripts of each caller as are asked for
abbrev pub made_submissions : ℕ → ℕ → ℕ → List Submission
made_submissions seed callers scripts = submissions_to seed callers (callers * scripts)

-- the input
abbrev pub made_input : ℕ → ℕ → ℕ → ClearingInput
made_input seed callers scripts =
    record { books = made_books; callers = callers_of (made_submissions seed callers scripts) }

-- its text, which is of version 1, with the scripts in the order in which they are drawn
abbrev pub made_input_text : ℕ → ℕ → ℕ → List ℕ
made_input_text seed callers scripts = input_text One made_books (made_submissions seed callers scripts)
