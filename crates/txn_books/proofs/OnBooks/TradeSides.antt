-- A trade, from what was found of both sides.
use Rattle.txn_books.proofs.Common.{◌≡◌, ◌≢◌, ℕ, ◌+◌, ◌-◌, ◌*◌, ◌<◌, ◌≤◌, ◌⊎◌, Bool, true, false, not, ◌&&◌, ◌==◌, nat_lt, if◌then◌else◌, Option, Some, None}
use Rattle.txn_books.proofs.Common.{IsSome, is_some, unwrap_or, Result, [], ◌∷◌, refl, sym, ap, subst, ◌∙◌, arith, nat_tests, GREATEST_CASH, GREATEST_QUANTITY}
use Rattle.txn_books.proofs.Common.{ClearingBooks, position_of, put_cash, Step, Gives, Declines, FindsNoBlock, step_of, declines_first, put_position, is_full}
use Rattle.txn_books.proofs.Common.{Stop, GoesOn, InEachState, LeadsTo, BooksShape, Side, Stands, OfModel, ChangesWithRoom, lacks_position_room, side_with}
use Rattle.txn_books.proofs.Common.{sold}
use Rattle.books_model.proofs.Common.{cash_of}
use Rattle.std.proofs.Common.{◌||◌}
use Rattle.books_model.specs.Interpreter.{trade_of}
use Rattle.books_model.proofs.Drafts.{put_position-apart}
use Rattle.history_model.specs.declared.shape.Shape.{Ghosts as Shapes}
use Rattle.txn_words.specs.declared.words.Words.{Ghosts as AnyWords}
use Rattle.txn_books.specs.Inner.Trading.{side_of, MayExchange, Exchanges, exchanged}
use Rattle.txn_books.proofs.OnBooks.Calls.{leads_less}
use Rattle.txn_books.proofs.OnBooks.Turning.{Turns, Turned, known, look_turn, turn_then, turned_less, of_room}
use Rattle.std.specs.FinMap as map
use Rattle.books_model.specs.declared.script.Op.TheVariants as op
use Rattle.books_model.specs.declared.reply.Decline.TheVariants as decline
use Rattle.books_model.specs.declared.reply.Value.TheVariants as value

-- a side that was found: its account's cash, and what it holds of the instrument
abbrev pub HasSide : ℕ → ℕ → Side → ClearingBooks → Type 0
HasSide a i side books = (map.get books.accounts a ≡ Some side.cash) × (side.held ≡ position_of books a i)

pub found_side : (books : ClearingBooks) (a i : ℕ) (side : Side) → Some side ≡ side_of books a i → HasSide a i side books
found_side books a i side = at (map.get books.accounts a) refl
  where
    at : (found : Option ℕ) → map.get books.accounts a ≡ found → Some side ≡ side_with books a i found → HasSide a i side books
    at None is e = absurd (cc)
    at (Some cash) is e =
        let same : side ≡ record { account = a; cash = cash; held = position_of books a i } = cc in
        (is ∙ sym (ap (λ (s : Side). Some s.cash) same), ap (λ (s : Side). s.held) same)

-- none is found if the account is absent
pub no_side : (books : ClearingBooks) (a i : ℕ) → None ≡ side_of books a i → map.get books.accounts a ≡ None
no_side books a i = at (map.get books.accounts a)
  where
    at : (found : Option ℕ) → None ≡ side_with books a i found → found ≡ None
    at None e = refl
    at (Some cash) e = absurd (cc)

-- tests that were made the other way round
was_true : (t had : Bool) → had ≡ not t → had ≡ false → t ≡ true
was_true true had e f = refl
was_true false had e f = absurd (cc)

was_false : (t had : Bool) → had ≡ not t → had ≡ true → t ≡ false
was_false true had e f = absurd (cc)
was_false false had e f = refl

-- an account that holds some has a position
has_position : (found : Option ℕ) (held : ℕ) → held ≡ unwrap_or found 0 → 1 ≤ held → IsSome found
has_position None held e one = absurd (omega (arith, e, one))
has_position (Some n) held e one = refl

-- a seller that has a position finds room for what it is left with
pub always_sold : (i : ℕ) (buys sells : Side) (books after : ClearingBooks) (had_room : Bool)
    → MayExchange i buys sells books → had_room ≡ not (lacks_position_room sells.account i sells.held books)
    → after ≡ (if had_room then sold i sells books else books) → after ≡ sold i sells books
always_sold i buys sells books after had_room may room left =
    let had : had_room ≡ true = grind (arith, nat_tests, may.held, room) in
    left ∙ ap (λ t. if t then sold i sells books else books) had

-- the reasons for which a trade is declined, and the trade otherwise, from what was found
abbrev reasons : ClearingBooks → ℕ → ℕ → ℕ → ℕ → Option ℕ → Option ℕ → Option ℕ → ℕ → ℕ → Step
reasons books a b i q payer payee price has sells = declines_first (
    (a == b, decline.Same)
    ∷ (not (is_some payer && is_some payee), decline.Absent)
    ∷ (not (is_some price), decline.Price)
    ∷ (nat_lt sells q, decline.Quantity)
    ∷ (nat_lt (unwrap_or payer 0) (q * unwrap_or price 0), decline.Cash)
    ∷ (nat_lt GREATEST_CASH (unwrap_or payee 0 + q * unwrap_or price 0) || nat_lt GREATEST_QUANTITY (has + q), decline.Limit)
    ∷ []
    ) (trade_of books (put_position books b i (sells - q)) a b i q (q * unwrap_or price 0))

-- a trade whose two sides and whose price were found
pub record IsMet (a b i : ℕ) (buys sells : Side) (price : ℕ) (books : ClearingBooks) : Type 0 where
  pub apart : a ≢ b
  pub payer : HasSide a i buys books
  pub payee : HasSide b i sells books
  pub priced : Some price ≡ map.get books.prices i

-- both sides that were found may be exchanged
pub may_exchange : {a b i : ℕ} {buys sells : Side} {price : ℕ} {books : ClearingBooks} (after_buying after_selling : Side) → after_buying.account ≡ a
    → after_selling.account ≡ b → IsMet a b i buys sells price books → 1 ≤ sells.held → MayExchange i after_buying after_selling books
may_exchange {b = b} {i} {sells = sells} {books = books} after_buying after_selling at_a at_b met one = record {
  buyer = subst (λ k. IsSome (map.get books.accounts k)) (sym at_a) (subst IsSome (sym met.payer.0) refl);
  seller = subst (λ k. IsSome (map.get books.accounts k)) (sym at_b) (subst IsSome (sym met.payee.0) refl);
  price = subst IsSome met.priced refl;
  held = subst (λ k. IsSome (map.get books.positions (k, i))) (sym at_b) (has_position (map.get books.positions (b, i)) sells.held met.payee.1 one);
}

module _ {a b i : ℕ} {buys sells : Side} {price : ℕ} {books : ClearingBooks} (met : IsMet a b i buys sells price books) (q : ℕ) where
  form : step_of (op.Trade a b i q) books ≡ reasons books a b i q (Some buys.cash) (Some sells.cash) (Some price) buys.held sells.held
  form = λ j. reasons books a b i q (met.payer.0 j) (met.payee.0 j) (sym met.priced j) (sym met.payer.1 j) (sym met.payee.1 j)

  pub trade_quantity : sells.held < q → step_of (op.Trade a b i q) books ≡ Declines decline.Quantity
  trade_quantity under = form ∙ grind (arith, nat_tests, met.apart, under)

  module _ (enough : q ≤ sells.held) where
    pub trade_cash : buys.cash < q * price → step_of (op.Trade a b i q) books ≡ Declines decline.Cash
    trade_cash under = form ∙ grind (arith, nat_tests, met.apart, enough, under)

    pub trade_limit : q * price ≤ buys.cash → (GREATEST_CASH < sells.cash + q * price)
        ⊎ (GREATEST_QUANTITY < buys.held + q) → step_of (op.Trade a b i q) books ≡ Declines decline.Limit
    trade_limit pays over = form ∙ grind (arith, nat_tests, met.apart, enough, pays, over)

    module _ (paid : q * price ≤ buys.cash) (gets : sells.cash + q * price ≤ GREATEST_CASH) (holds : buys.held + q ≤ GREATEST_QUANTITY) where
      abbrev lowered : ClearingBooks
      lowered = put_position books b i (sells.held - q)

      -- the books of a trade, from what the sides had
      abbrev traded : ℕ → ℕ → ℕ → Step
      traded held pays has = Gives value.Done (put_cash (put_cash (put_position lowered a i (held + q)) a (pays - q * price)) b (has + q * price))

      abbrev if_full : Bool → Step
      if_full t = if t then FindsNoBlock else traded (position_of books a i) (cash_of books a) (cash_of books b)

      goes : step_of (op.Trade a b i q) books ≡ trade_of books lowered a b i q (q * price)
      goes = form ∙ grind (arith, nat_tests, met.apart, enough, paid, gets, holds)

      module _ (one : 1 ≤ q) (had_room : Bool) (room : had_room ≡ not (lacks_position_room a i (buys.held + q) lowered)) where
        as_before : had_room ≡ not (not (map.contains_key books.positions (a, i)) && is_full lowered)
        as_before =
            let some : (buys.held + q == 0) ≡ false = grind (arith, nat_tests, one) in
            room ∙ ap (λ t. not (not t && (not (map.contains_key lowered.positions (a, i)) && is_full lowered)))
            some ∙ ap (λ (o : Option ℕ). not (not (is_some o) && is_full lowered)) (put_position-apart books a b i (sells.held - q) met.apart)

        pub trade_full : had_room ≡ false → step_of (op.Trade a b i q) books ≡ FindsNoBlock
        trade_full full = goes ∙ ap if_full (was_true _ had_room as_before full)

        pub trade_done : had_room ≡ true → step_of (op.Trade a b i q) books ≡ traded buys.held buys.cash sells.cash
        trade_done had = goes ∙ ap if_full (was_false _ had_room as_before had)
            ∙ (λ j. traded (sym met.payer.1 j) (unwrap_or (met.payer.0 j) 0) (unwrap_or (met.payee.0 j) 0))

-- what an exchange leads to
abbrev pub Sold : ℕ → Side → Side → ClearingBooks → ClearingBooks → Type 0
Sold i buys sells books after = MayExchange i buys sells books × (after ≡ sold i sells books)

abbrev pub Bought : ℕ → Side → Side → Bool → ClearingBooks → ClearingBooks → Type 0
Bought i buys sells had_room books after = MayExchange i buys sells books × (had_room ≡ not (lacks_position_room buys.account i buys.held (sold i sells books)))
    × (after ≡ (if had_room then put_position (sold i sells books) buys.account i buys.held else sold i sells books))

abbrev pub Exchanged : ℕ → Side → Side → Bool → ClearingBooks → ClearingBooks → Type 0
Exchanged i buys sells had_room books after = (had_room ≡ not (lacks_position_room buys.account i buys.held (sold i sells books)))
    × (after ≡ (if had_room then exchanged i buys sells books else sold i sells books))

-- if there was room
pub bought : (i : ℕ) (buys sells : Side) (books after : ClearingBooks) (had_room : Bool) → had_room ≡ true
    → Bought i buys sells had_room books after → Bought i buys sells true books after
bought i buys sells books after had_room had k = subst (λ t. Bought i buys sells t books after) had k

-- if there was room, both sides are exchanged
pub left_exchanged : (i : ℕ) (buys sells : Side) (books after : ClearingBooks) (had_room : Bool) → had_room ≡ true
    → after ≡ (if had_room then exchanged i buys sells books else sold i sells books) → exchanged i buys sells books ≡ after
left_exchanged i buys sells books after had_room had e = sym (e ∙ ap (λ t. if t then exchanged i buys sells books else sold i sells books) had)

module _ {W S O : Type 0} {words : AnyWords W S O} {shapes : Shapes S} {shape : BooksShape} {v w : W} {i : ℕ} {buys sells : Side} {had_room : Bool} where
  -- the seller's position is lowered
  pub has_sold : {A : Type 0} {r : Result A Stop} → InEachState words shapes v (OfModel (Stands shape) (MayExchange i buys sells)) → GoesOn words v w r
      → LeadsTo words shapes v w (ChangesWithRoom (Stands shape) (lacks_position_room sells.account i sells.held)
      (λ books. put_position books sells.account i sells.held) had_room) → Turned words shapes shape v w (Sold i buys sells)
  has_sold may goes held = turned_less (look_turn goes (known may) (of_room held))
      (λ books after sized k. (k.0, always_sold i buys sells books after had_room k.0 k.1.0 k.1.1))

  -- and the buyer has its position, if there is room
  pub has_bought : {A : Type 0} {r : Result A Stop} {u : W} → Turned words shapes shape u v (Sold i buys sells) → GoesOn words v w r
      → LeadsTo words shapes v w (ChangesWithRoom (Stands shape) (lacks_position_room buys.account i buys.held)
      (λ books. put_position books buys.account i buys.held) had_room) → Turned words shapes shape u w (Bought i buys sells had_room)
  has_bought before goes held = turned_less (turn_then goes before (of_room held))
      (λ books last sized k. (
        k.1.0,
        k.2.0 ∙ ap (λ z. not (lacks_position_room buys.account i buys.held z)) k.1.1,
        k.2.1
            ∙ ap (λ z. if had_room then put_position z buys.account i buys.held else z) k.1.1,
      ))

  -- what an exchange is made of, and what it turns
  pub exchanges : Turned words shapes shape v w (Exchanged i buys sells had_room) → LeadsTo words shapes v w (Exchanges shape i buys sells had_room)
  exchanges h = leads_less
      (λ x y k. record {
        answer = λ books stand. (k.at books stand).2.0;
        left = λ books stand. let last = k.at books stand in subst (Stands shape y) last.2.1 last.1;
      }) h.turns

  pub of_exchange : LeadsTo words shapes v w (Exchanges shape i buys sells had_room) → LeadsTo words shapes v w (Turns shape (Exchanged i buys sells had_room))
  of_exchange h = leads_less
      (λ x y e. record {
        at = λ books stand. (
          (if had_room then exchanged i buys sells books else sold i sells books),
          e.left books stand,
          (e.answer books stand, refl),
        );
      }) h
