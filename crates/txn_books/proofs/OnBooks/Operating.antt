-- What each operation comes to, from what was found of the books.
use Rattle.txn_books.proofs.Common.{◌≡◌, ◌≢◌, ℕ, ◌-◌, ◌*◌, ◌/◌, Bool, true, false, not, ◌&&◌, ◌==◌, if◌then◌else◌, drop, slice_get, length, Some, None, is_some}
use Rattle.txn_books.proofs.Common.{unwrap_or, List, [], ◌∷◌, refl, sym, ap, ◌∙◌, arith, nat_tests, ClearingBooks, put_call, Gives, Declines, step_of}
use Rattle.txn_books.proofs.Common.{declines_first}
use Rattle.books_model.proofs.Common.{margin_of, next_of, is_account, worth_of, shortfall_of}
use Rattle.std.specs.FinMap as map
use Rattle.books_model.specs.declared.script.Op.TheVariants as op
use Rattle.books_model.specs.declared.reply.Decline.TheVariants as decline
use Rattle.books_model.specs.declared.reply.Value.TheVariants as value

-- the books that a change with room leaves if there was room
pub left_with : (had_room : Bool) (change : ClearingBooks → ClearingBooks) (books after : ClearingBooks)
    → had_room ≡ true → after ≡ (if had_room then change books else books) → change books ≡ after
left_with had_room change books after had e = sym (e ∙ ap (λ t. if t then change books else books) had)

module _ (books : ClearingBooks) (a rate held total shortfall : ℕ) (some : Some held ≡ map.get books.accounts a) (worth : total ≡ worth_of books a)
    (is : shortfall ≡ total * rate / 100 - held) where
  short : shortfall_of books a rate ≡ shortfall
  short = sym (is ∙ ap (λ t. t * rate / 100 - held) worth ∙ ap (λ found. worth_of books a * rate / 100 - unwrap_or found 0) some)

  step : step_of (op.Margin a rate) books ≡ declines_first ((not (is_some {T = ℕ} (Some held)), decline.Absent)
      ∷ (not (shortfall == 0) && (length books.calls == books.ring), decline.Queue) ∷ []) (margin_of books a shortfall)
  step =
      ap (λ d. declines_first ((not (is_account books a), decline.Absent)
      ∷ (not (d == 0) && (length books.calls == books.ring), decline.Queue) ∷ []) (margin_of books a d)) short
      ∙ ap (λ found. declines_first ((not (is_some found), decline.Absent)
      ∷ (not (shortfall == 0) && (length books.calls == books.ring), decline.Queue) ∷ []) (margin_of books a shortfall)) (sym some)

  pub margin_none : shortfall ≡ 0 → step_of (op.Margin a rate) books ≡ Gives (value.Number 0) books
  margin_none nothing = step ∙ grind (arith, nat_tests, nothing)

  pub margin_queue : shortfall ≢ 0 → (had_room : Bool) → had_room ≡ not (length books.calls == books.ring)
      → had_room ≡ false → step_of (op.Margin a rate) books ≡ Declines decline.Queue
  margin_queue some_short had_room room full = step ∙ grind (arith, nat_tests, some_short, room, full)

  pub margin_done : shortfall ≢ 0 → (had_room : Bool) → had_room ≡ not (length books.calls == books.ring)
      → had_room ≡ true → step_of (op.Margin a rate) books ≡ Gives (value.Number shortfall) (put_call books a shortfall)
  margin_done some_short had_room room had = step ∙ grind (arith, nat_tests, some_short, room, had)

pub next_none : (books after : ClearingBooks) → None ≡ slice_get books.calls 0
    → after ≡ record books { calls = drop 1 books.calls } → step_of op.Next books ≡ Gives value.Nothing after
next_none books after none left = at books.calls none (left) refl
  where
    at : (calls : List (ℕ × ℕ)) → None ≡ slice_get calls 0 → after ≡ record books { calls = drop 1 calls }
        → calls ≡ books.calls → next_of books calls ≡ Gives value.Nothing after
    at [] none e same = ap (Gives value.Nothing) (sym (e ∙ ap (λ q. record books { calls = q }) same))
    at (call ∷ calls) none e same = absurd (cc)

pub next_call : (books after : ClearingBooks) (a d : ℕ) → Some (a, d) ≡ slice_get books.calls 0
    → after ≡ record books { calls = drop 1 books.calls } → step_of op.Next books ≡ Gives (value.Call a d) after
next_call books after a d some left = at books.calls some left
  where
    at : (calls : List (ℕ × ℕ)) → Some (a, d) ≡ slice_get calls 0 → after ≡ record books { calls = drop 1 calls }
        → next_of books calls ≡ Gives (value.Call a d) after
    at [] some e = absurd (cc)
    at (call ∷ calls) some e =
        let same : (a, d) ≡ call = cc in
        ap (λ (c : ℕ × ℕ). Gives (value.Call c.0 c.1) (record books { calls = calls })) (sym same) ∙ ap (Gives (value.Call a d)) (sym e)
