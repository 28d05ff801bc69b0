-- Clients that are seated: what is read of a seat is read of the lists that the seats were made of.
use Rattle.txn_threads.proofs.Common.{◌≡◌, ℕ, ◌<◌, All, List, map, length, get_or, refl, sym, ap, ◌∙◌, subst, arith, length-map, get_or_from_slice_get}
use Rattle.txn_threads.proofs.Common.{PassView, DeskView, Seat, AreNew, IsFresh, IsReady}
use Rattle.std.proofs.Math.ListN.{get_or-map}
use Rattle.txn_threads.specs.Clients.{IsReadyFor}

module _ {S C : Type 0} where
  -- the client of a seat, and its pass
  abbrev pub client_of : Seat C S → C
  client_of seat = seat.client

  abbrev pub pass_of : Seat C S → PassView
  pass_of seat = seat.pass

  -- what is read of the seats at a place
  pub client_at : (seats : List (Seat C S)) (clients : List C) (k : ℕ) (d : Seat C S) → map client_of seats ≡ clients
      → get_or clients k d.client ≡ (get_or seats k d).client
  client_at seats clients k d is = ap (λ l. get_or l k d.client) (sym is) ∙ get_or-map client_of seats k d

  pub pass_at : (seats : List (Seat C S)) (passes : List PassView) (k : ℕ) (d : Seat C S) → map pass_of seats ≡ passes
      → get_or passes k d.pass ≡ (get_or seats k d).pass
  pass_at seats passes k d is = ap (λ l. get_or l k d.pass) (sym is) ∙ get_or-map pass_of seats k d

  -- clients that may begin, each with the pass of its place
  pub all_ready : (shape_of : C → S) (can_begin : C → Type 0) (desk : DeskView S)
      (seats : List (Seat C S)) (clients : List C) (passes : List PassView)
      → map client_of seats ≡ clients → map pass_of seats ≡ passes → AreNew desk passes → desk.seats ≡ length clients
      → All (IsReadyFor shape_of can_begin desk) clients → All (IsReady shape_of can_begin desk) seats
  all_ready shape_of can_begin desk seats clients passes c_are p_are new count ready k d within =
      let many : length clients ≡ length seats = ap length (sym c_are) ∙ length-map seats client_of in
      let below : k < desk.seats = omega (arith, many, within, count) in
      record {
        client = subst (λ (c : C). IsReadyFor shape_of can_begin desk c) (client_at seats clients k d c_are) (ready k d.client (omega (arith, many, within)));
        fresh = subst (λ (p : PassView). IsFresh desk p) (sym (get_or_from_slice_get passes k _ d.pass (new.each k below)) ∙ pass_at seats passes k d p_are)
            (record { of_table = refl; idle = refl; no_call = refl; nothing_seen = refl });
      }
