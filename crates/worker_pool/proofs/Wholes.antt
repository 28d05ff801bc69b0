-- Of each caller all items are of one seat.
use Rattle.worker_pool.proofs.Common.{◌≡◌, ℕ, ◌+◌, ◌<◌, ◌≤◌, List, [], ◌∷◌, All, flat_map, get_or, slice_get, Some, nat_lt, if◌then◌else◌, sym, ap, ◌∙◌, subst}
use Rattle.worker_pool.proofs.Common.{arith, nat_tests, flat_map-cons, All-append, All-head, All-nil, All-tail, sum_by-cons, get_or_from_slice_get}
use Rattle.worker_pool.proofs.Common.{slice_get_within, ClearingInput, BooksShape, DeskView, Done, AreCallersWhole, counted_number, IsDone, CountedShare}
use Rattle.worker_pool.proofs.Gathered.{among_total, items_of, total_had}
use Rattle.worker_pool.proofs.Running.{among_had}

-- the seat of the first share for which a caller was had
seat_by : List CountedShare → ℕ → ℕ
seat_by [] c = 0
seat_by (w ∷ ws) c = if nat_lt 0 (w.had c) then counted_number w else seat_by ws c

seat_here : (n a b : ℕ) → 0 < n → (if nat_lt 0 n then a else b) ≡ a
seat_here n a b some = grind (arith, nat_tests, some)

seat_there : (n a b : ℕ) → n ≡ 0 → (if nat_lt 0 n then a else b) ≡ b
seat_there n a b none = grind (arith, nat_tests, none)

abbrev AmongHad : CountedShare → Type 0
AmongHad w = All (λ (item : Done). 0 < w.had item.caller) w.share.done.items

abbrev AreOfSeat : CountedShare → Type 0
AreOfSeat w = All (λ (item : Done). item.seat ≡ counted_number w) w.share.done.items

-- if no caller was had for two shares, each item is of the seat of its caller
by_seat : (ws : List CountedShare) → All AreOfSeat ws → All AmongHad ws → ((x : ℕ) → total_had ws x ≤ 1)
    → All (λ (item : Done). item.seat ≡ seat_by ws item.caller) (flat_map items_of ws)
unfolding seat_by
by_seat [] seats among once = All-nil (λ (item : Done). item.seat ≡ seat_by [] item.caller)
by_seat (w ∷ ws) seats among once =
    let more : (x : ℕ) → total_had (w ∷ ws) x ≡ w.had x + total_had ws x = λ x. sum_by-cons (λ (v : CountedShare). v.had x) w ws in
    let rest = All-tail AmongHad w ws among in
    let there = by_seat ws (All-tail AreOfSeat w ws seats) rest (λ x. omega (arith, once x, more x)) in
    let had_there = among_total ws rest in
    let own : All (λ (item : Done). item.seat ≡ seat_by (w ∷ ws) item.caller) w.share.done.items = λ k d lt.
    let c : ℕ = (get_or w.share.done.items k d).caller in
    All-head AreOfSeat w ws seats k d lt ∙ sym (seat_here (w.had c) (counted_number w) (seat_by ws c) (All-head AmongHad w ws among k d lt)) in
    let others : All (λ (item : Done). item.seat ≡ seat_by (w ∷ ws) item.caller) (flat_map items_of ws) = λ k d lt.
    let c : ℕ = (get_or (flat_map items_of ws) k d).caller in
    there k d lt ∙ sym (seat_there (w.had c) (counted_number w) (seat_by ws c) (omega (arith, had_there k d lt, once c, more c))) in
    subst (λ l. All (λ (item : Done). item.seat ≡ seat_by (w ∷ ws) item.caller) l) (sym (flat_map-cons items_of w ws))
    (All-append (λ (item : Done). item.seat ≡ seat_by (w ∷ ws) item.caller) w.share.done.items (flat_map items_of ws) own others)

at_place : (P : Done → Type 0) (done : List Done) → All P done → (k : ℕ) (x : Done) → slice_get done k ≡ Some x → P x
at_place P done all k x is = subst P (get_or_from_slice_get done k x x is) (all k x (slice_get_within done k x is))

-- all items of a day, in whatever order
pub callers_whole : (desk : DeskView BooksShape) (input : ClearingInput) (ws : List CountedShare) → All (IsDone desk input) ws
    → ((x : ℕ) → total_had ws x ≤ 1) → (done : List Done)
    → ((P : Done → Type 0) → All P (flat_map items_of ws) → All P done) → AreCallersWhole done
callers_whole desk input ws each once done moved =
    let f : ℕ → ℕ = seat_by ws in
    let all = by_seat ws (λ k d lt. (each k d lt).made.seats)
    (λ k d lt. among_had input (get_or ws k d).had 0 (get_or ws k d).share.done.items (each k d lt).run) once in
    let kept : All (λ (item : Done). item.seat ≡ f item.caller) done =
    moved (λ (item : Done). item.seat ≡ f item.caller) all in
    λ j k x y at_j at_k same.
    at_place (λ (item : Done). item.seat ≡ f item.caller) done kept j x at_j ∙ ap f same
    ∙ sym (at_place (λ (item : Done). item.seat ≡ f item.caller) done kept k y at_k)
