-- What an operation on words that stand for a book comes to.
use Rattle.std.specs.Prelude.{ℕ, Bool, List}
use Rattle.books_report.specs.declared.stores.outcome.Outcome.{Outcome}
use Rattle.order_text.specs.declared.script.OrderOp.{OrderOp}
use Rattle.order_text.specs.declared.reply.OrderValue.{OrderValue}
use Rattle.order_text.specs.Interpreter.{enter_next, incoming, order_step_of}
use Rattle.txn_stores.specs.Standing as stores
use Rattle.order_match.specs.declared.shape.OrderShape.{OrderShape}
use Rattle.order_match.specs.Standing.{Stands}

-- from words to words: the outcome is the interpreter's, and the words then stand for the book that its step leaves
abbrev pub MeetsStep : OrderShape → OrderOp → Outcome OrderValue → List ℕ → List ℕ → Type 0
MeetsStep shape = stores.MeetsStep (Stands shape) order_step_of

-- from words to words: an order that enters comes to the interpreter's step, likewise
abbrev pub EntersOrder : OrderShape → Bool → ℕ → ℕ → ℕ → Outcome OrderValue → List ℕ → List ℕ → Type 0
EntersOrder shape buys instrument price quantity =
    stores.MeetsStep (Stands shape) (λ side book. enter_next book (incoming book side instrument price quantity)) buys
