-- What a generated day comes to, in whatever order its scripts are run.
use Rattle.input_maker.proofs.Common.{ℕ, ◌+◌, ◌*◌, ◌≤◌, Bool, List, [], ◌∷◌, ◌++◌, length, get_or, sum_by, refl, sym, ap, subst, ◌∙◌, length-append, arith}
use Rattle.input_maker.proofs.Common.{AllByRecursion, recursion_from_All, script_at, operations_of, outcome_of, AllByRecursion-weaker, sum_by-most}
use Rattle.input_maker.proofs.Common.{MOST_SCRIPTS, ClearingInput, Place, IsJournal, books_after, made_books, deposits_of}
use Rattle.books_report.proofs.Common.{count_scripts, IsPlace}
use Rattle.std.proofs.Common.{append-nil}
use Rattle.std.proofs.lemmas.List.{get_or_append_left}
use Rattle.books_report.proofs.Order.Turns.{length_of_journal, next_of_journal}
use Rattle.input_maker.specs.Made.{made_input}
use Rattle.input_maker.specs.Statements.{AreForMake}
use Rattle.input_maker.specs.Days.{all_deposits, FirstKindIsDone, MadeCash, MadeQuantities, NoneIsFull, SecondKindKeepsCash}
use Rattle.input_maker.proofs.Opening.{account_found, account_there, made_books_in_range}
use Rattle.input_maker.proofs.Calling.{made_inputs}
use Rattle.input_maker.proofs.Rooms.{AreOfDay}
use Rattle.input_maker.proofs.Days.{Leave, IsOutcome, deposits_at, script_goes, scripts_leave}
use Rattle.input_maker.proofs.Totals.{opening_cash, opening_quantities, sum_of_order}
use Rattle.input_maker.proofs.Making.{IsMadeScript, IsMadeOnce, callers_made, deposits_most, deposits_none, kind_is, kind_is_not}

-- the opening books
opening_day : AreOfDay made_books
opening_day = record {
  range = made_books_in_range;
  blocks = refl;
  instruments = refl;
  accounts = record { only = λ a cash found. (account_found a found).0; every = account_there };
}

-- the scripts of an input are made, and not too many
record HasMade (input : ClearingInput) : Type 0 where
  made : (p : Place) → IsPlace input p → IsMadeOnce (script_at input.callers p.caller p.index)
  few : count_scripts input.callers ≤ MOST_SCRIPTS

input_made : {seed callers scripts : ℕ} → AreForMake seed callers scripts → HasMade (made_input seed callers scripts)
input_made {seed} {callers} {scripts} h = record {
  made = λ p there. callers_made seed callers (callers * scripts) p.caller (record { name = []; scripts = [] }) there.0 p.index [] there.1;
  few = (made_inputs seed callers scripts h).valid.callers.few_scripts;
}

module _ {input : ClearingInput} (h : HasMade input) where
  module _ (before behind : List Place) (j : IsJournal input (before ++ behind)) where
    -- the scripts in front of an order are made and not too many, and have so few deposits
    front_made : AllByRecursion (λ p. IsMadeOnce (script_at input.callers p.caller p.index)) before
    front_made = recursion_from_All (λ p. IsMadeOnce (script_at input.callers p.caller p.index)) before (λ k d less.
        let there : IsPlace input (get_or before k d) =
        subst (IsPlace input) (get_or_append_left before behind d k less) (j.only k d (omega (arith, less, length-append before behind))) in
        h.made (get_or before k d) there)

    front_few : length before ≤ MOST_SCRIPTS
    front_few = omega (arith, length_of_journal input (before ++ behind) j, length-append before behind, h.few)

    front_deposits : sum_by (deposits_at input) before ≤ length before * 300
    front_deposits = sum_by-most (deposits_at input) 300 before
        (AllByRecursion-weaker (λ p. IsMadeOnce (script_at input.callers p.caller p.index)) (λ p. deposits_at input p ≤ 300)
        (λ p m. deposits_most m.1) before front_made)

    -- what they leave
    front_leaves : Leave (sum_by (deposits_at input) before) made_books (books_after input made_books before)
    front_leaves = scripts_leave input made_books before front_made opening_day (omega (arith, opening_cash, front_few))

  -- and the script behind them
  next_goes : (before : List Place) (place : Place) (behind : List Place) → IsJournal input (before ++ place ∷ behind)
      → (first : Bool) × IsMadeScript first (script_at input.callers place.caller place.index)
      × IsOutcome first (deposits_at input place) (books_after input made_books before)
      (outcome_of (script_at input.callers place.caller place.index) (books_after input made_books before))
  next_goes before place behind j =
      let made = h.made place (next_of_journal input before place behind j).left in
      let front = front_leaves before (place ∷ behind) j in (
        made.0,
        made.1,
        script_goes front.day
            (omega (arith, front.cash, opening_cash, front_deposits before (place ∷ behind) j, front_few before (place ∷ behind) j)) made.1,
      )

  -- and what all scripts leave
  all_leave : (order : List Place) → IsJournal input order → Leave (all_deposits input) made_books (books_after input made_books order)
  all_leave order j =
      subst (λ n. Leave n made_books (books_after input made_books order)) (sum_of_order input deposits_of order j)
      (front_leaves order [] (subst (IsJournal input) (sym (append-nil order)) j))

pub made_cash : MadeCash
made_cash seed callers scripts order h j =
    let left = all_leave (input_made h) order j in
    left.cash ∙ ap (λ n. n + all_deposits (made_input seed callers scripts)) opening_cash

pub made_quantities : MadeQuantities
made_quantities seed callers scripts order h j =
    (all_leave (input_made h) order j).quantities ∙ opening_quantities

pub first_kind_is_done : FirstKindIsDone
first_kind_is_done seed callers scripts before place behind s first =
    let input = made_input seed callers scripts in
    let next = next_goes (input_made s.range) before place behind s.journal in
    next.2.done (kind_is next.0 next.1 first)

pub second_kind_keeps_cash : SecondKindKeepsCash
second_kind_keeps_cash seed callers scripts before place behind s second =
    let input = made_input seed callers scripts in
    let script = script_at input.callers place.caller place.index in
    let next = next_goes (input_made s.range) before place behind s.journal in
    let none = deposits_none next.0 (operations_of script) next.1.each (kind_is_not next.0 next.1 second) in
    omega (arith, next.2.left.cash, none)

pub none_is_full : NoneIsFull
none_is_full seed callers scripts before place behind s =
    (next_goes (input_made s.range) before place behind s.journal).2.not_full
