-- What an operation of a generated script does on the books of a day.
use Rattle.input_maker.proofs.Common.{◌≡◌, ℕ, ◌+◌, ◌*◌, ◌≤◌, ◌==◌, ◌&&◌, ◌||◌, Bool, true, false, cond, if◌then◌else◌, List, [], ◌∷◌, length, sum_by, refl, sym}
use Rattle.input_maker.proofs.Common.{ap, subst, ◌∙◌, arith, GREATEST_CASH, Op, Value, ClearingBooks, cash_of, Step, Gives, Declines, FindsNoBlock, is_full}
use Rattle.input_maker.proofs.Common.{put_position, step_of, all_cash, all_held, paid_in_by}
use Rattle.books_model.proofs.Common.{position_of, price_of, is_account, next_of, shortfall_of}
use Rattle.std.proofs.Common.{◌-◌, not, nat_lt}
use Rattle.std.proofs.lemmas.Bool.{and_right, le-ltb}
use Rattle.books_model.specs.declared.limits.TheConstants.{GREATEST_QUANTITY}
use Rattle.books_model.specs.declared.reply.Decline.{Decline}
use Rattle.books_model.proofs.Scripts.CashLaws.{deposited, moved, traded_cash, traded_quantities}
use Rattle.books_model.proofs.Scripts.Outcomes.{done}
use Rattle.input_maker.proofs.Making.{IsMade, made_deposit, made_price, made_next, made_sum, made_move, made_trade, made_margin, made_show, chosen}
use Rattle.input_maker.proofs.Rooms.{HasAccounts, AreOfDay, other_cash, not_full, not_full_after, cash_within}
use Rattle.std.specs.FinMap as map
use Rattle.books_model.specs.declared.script.Op.TheVariants as op

-- the step is done and leaves such books, or it is declined, which one of the first kind is not
unfoldable pub Goes : Bool → (ClearingBooks → Type 0) → Step → Type 0
Goes first C (Gives v after) = C after
Goes first C (Declines why) = first ≡ false
Goes first C FindsNoBlock = ⊥

gives : (first : Bool) (C : ClearingBooks → Type 0) (v : Value) (after : ClearingBooks) → C after → Goes first C (Gives v after)
unfolding Goes
gives first C v after h = h

-- what is left to choose from if a test is known to fail
past : (first : Bool) (C : ClearingBooks → Type 0) {b : Bool} (x y : Step) → b ≡ false → Goes first C y → Goes first C (if b then x else y)
past first C {b} x y fails h = subst (λ b. Goes first C (if b then x else y)) (sym fails) h

-- an operation of the second kind may be declined
or_declined : (C : ClearingBooks → Type 0) (b : Bool) (why : Decline) (y : Step) → Goes false C y → Goes false C (if b then Declines why else y)
unfolding Goes
or_declined C true why y h = refl
or_declined C false why y h = h

-- more is known of the books that a step leaves
known : (first : Bool) (C D : ClearingBooks → Type 0) (s : Step) → Goes first C s
    → ((v : Value) (after : ClearingBooks) → s ≡ Gives v after → C after → D after) → Goes first D s
unfolding Goes
known first C D (Gives v after) h more = more v after refl h
known first C D (Declines why) h more = h
known first C D FindsNoBlock h more = h

-- an operation leaves the accounts that there are, adds what it pays in to all cash, and keeps what is held of each instrument
pub record Follow (o : Op) (books after : ClearingBooks) : Type 0 where
  pub accounts : HasAccounts after.accounts
  pub cash : all_cash after ≡ all_cash books + paid_in_by o
  pub held : (i : ℕ) → all_held after i ≡ all_held books i

-- the accounts that there are, and the same positions
abbrev Pays : ClearingBooks → ClearingBooks → Type 0
Pays books after = HasAccounts after.accounts × (after.positions ≡ books.positions)

-- a sum and nothing
no_more : {n : ℕ} → n ≡ n + 0
no_more = omega arith

held_same : (books after : ClearingBooks) → after.positions ≡ books.positions → (i : ℕ) → all_held after i ≡ all_held books i
held_same books after same i = ap (λ m. sum_by (λ (e : (ℕ × ℕ) × ℕ). cond (e.0.1 == i) e.1 0) (map.entries m)) same

module _ {books : ClearingBooks} (h : AreOfDay books) where
  -- accounts and positions are left alone
  alone : {o : Op} {after : ClearingBooks} → paid_in_by o ≡ 0 → after.accounts ≡ books.accounts → after.positions ≡ books.positions → Follow o books after
  alone {after} none accounts positions = record {
    accounts = subst HasAccounts (sym accounts) h.accounts;
    cash = ap (λ m. sum_by (λ (e : ℕ × ℕ). e.1) (map.entries m)) accounts ∙ no_more ∙ ap (λ n. all_cash books + n) (sym none);
    held = held_same books after positions;
  }

  -- the front of the queue is taken, or there is none
  next_goes : (calls : List (ℕ × ℕ)) → Goes true (Follow op.Next books) (next_of books calls)
  next_goes [] = gives _ _ _ _ (alone refl refl refl)
  next_goes (call ∷ calls) = gives _ _ _ _ (alone refl refl refl)

  -- a step of a generated script
  pub step_goes : all_cash books + 100 ≤ GREATEST_CASH → {first : Bool} {o : Op} → IsMade first o → Goes first (Follow o books) (step_of o books)
  step_goes room (made_deposit a x account amount) =
      known true (Pays books) (Follow (op.Deposit a x) books) (step_of (op.Deposit a x) books)
      (past true (Pays books) _ _ (ap not (h.accounts.every a account))
      (past true (Pays books) _ _
      (le-ltb GREATEST_CASH (cash_of books a + x) (omega (arith, room, amount.1, cash_within books a)))
      (gives _ _ _ _ (other_cash (cash_of books a + x) h.accounts account, refl))))
      (λ v after is k. record {
        accounts = k.0;
        cash = done _ _ v after (deposited books a x) is;
        held = held_same books after k.1;
      })
  step_goes room (made_price i p instrument price) =
      past true (Follow (op.Price i p) books) _ _
      (and_right (not (map.contains_key books.prices i)) (is_full books) (not_full h))
      (gives _ _ _ _ (alone refl refl refl))
  step_goes room made_next = next_goes books.calls
  step_goes room (made_sum a b from to) = gives _ _ _ _ (alone refl refl refl)
  step_goes room (made_move a b x payer payee amount) =
      known false (Pays books) (Follow (op.Move a b x) books) (step_of (op.Move a b x) books)
      (or_declined _ (a == b) _ _ (or_declined _ (not (is_account books a && is_account books b)) _ _
      (or_declined _ (nat_lt (cash_of books a) x) _ _ (or_declined _ (nat_lt GREATEST_CASH (cash_of books b + x)) _ _ (gives _ _ _ _ (
        other_cash (cash_of books b + x)
            (other_cash (cash_of books a - x) h.accounts payer) payee,
        refl,
      ))))))
      (λ v after is k. record {
        accounts = k.0;
        cash = done _ _ v after (moved books a b x) is ∙ no_more;
        held = held_same books after k.1;
      })
  step_goes room (made_trade a b i q buyer seller instrument quantity) =
      let lowered = put_position books b i (position_of books b i - q) in
      known false (λ after. HasAccounts after.accounts) (Follow (op.Trade a b i q) books) (step_of (op.Trade a b i q) books)
      (or_declined _ (a == b) _ _ (or_declined _ (not (is_account books a && is_account books b)) _ _
      (or_declined _ (not (map.contains_key books.prices i)) _ _ (or_declined _ (nat_lt (position_of books b i) q) _ _
      (or_declined _ (nat_lt (cash_of books a) (q * price_of books i)) _ _
      (or_declined _ (nat_lt GREATEST_CASH (cash_of books b + q * price_of books i) || nat_lt GREATEST_QUANTITY (position_of books a i + q)) _ _
      (past _ _ _ _
      (and_right (not (map.contains_key books.positions (a, i))) (is_full lowered) (not_full_after h b i (position_of books b i - q))) (gives _ _ _ _
      (other_cash (cash_of books b + q * price_of books i)
      (other_cash (cash_of books a - q * price_of books i) h.accounts buyer) seller)))))))))
      (λ v after is k. record {
        accounts = k;
        cash = done _ _ v after (traded_cash books a b i q) is ∙ no_more;
        held = λ j. done _ _ v after (traded_quantities books a b i q j) is;
      })
  step_goes room (made_margin a m account rate) =
      or_declined _ (not (is_account books a)) _ _
      (or_declined _ (not (shortfall_of books a m == 0) && (length books.calls == books.ring)) _ _
      (chosen (Goes false (Follow (op.Margin a m) books)) (shortfall_of books a m == 0) _ _
      (gives _ _ _ _ (alone refl refl refl))
      (gives _ _ _ _ (alone refl refl refl))))
  step_goes room (made_show a account) = or_declined _ (not (is_account books a)) _ _ (gives _ _ _ _ (alone refl refl refl))
