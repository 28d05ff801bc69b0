-- Clients whose threads have ended, each with the pass that it was lent.
use Rattle.txn_threads.proofs.Common.{◌≡◌, ℕ, ◌<◌, List, map, length, get_or, Some, false, slice_get, ⊎_elim, refl, sym, ap, ◌∙◌, subst, arith, length-map}
use Rattle.txn_threads.proofs.Common.{get_or_from_slice_get, slice_get_cases, PassView, DeskView, Seat, HaveWorkedAt, AreNew, IsFresh, IsPass, AreParts}
use Rattle.txn_threads.proofs.Common.{HasEnded}
use Rattle.word_table.proofs.Common.{fresh_pass}
use Rattle.std.proofs.lemmas.List.{get_or-map}
use Rattle.txn_threads.specs.Clients.{HasWorked}
use Rattle.txn_threads.proofs.Seating.{client_of, pass_of, client_at, pass_at}

module _ {S C : Type 0} (does : DeskView S → C → C → PassView → PassView → Type 0) (desk : DeskView S)
    (old new : List (Seat C S)) (clients left : List C) (passes after : List PassView)
    (clients_are : map client_of old ≡ clients) (passes_are : map pass_of old ≡ passes)
    (opened : AreNew desk passes) (count : desk.seats ≡ length clients)
    (same : length new ≡ length old)
    (ended : (k : ℕ) (d : Seat C S) → k < length old → HasEnded does desk (get_or old k d) (get_or new k d))
    (parts : AreParts new left after) where
  new_pass : ℕ → PassView
  new_pass j = fresh_pass desk.table desk.base desk.seats j

  many : length clients ≡ length old
  many = sym (ap length clients_are) ∙ length-map old client_of

  -- a seat whose thread has ended
  seat_worked : (k : ℕ) (d : Seat C S) → k < length old
      → HasWorked does desk k (get_or old k d).client (get_or new k d).client (get_or new k d).pass
  unfolding new_pass
  seat_worked k d within =
      let e = ended k d within in
      let is : slice_get passes k ≡ Some (new_pass k) = opened.each k (omega (arith, many, within, count)) in
      let was : (get_or old k d).pass ≡ new_pass k = sym (pass_at old passes k d passes_are) ∙ get_or_from_slice_get passes k (new_pass k) d.pass is in
      record {
        before = (get_or old k d).pass;
        fresh = subst (λ (p : PassView). IsFresh desk p) (sym was) (record { of_table = refl; idle = refl; no_call = refl; nothing_seen = refl });
        next = e.next;
        who_is = e.next.who_stays ∙ ap (λ (p : PassView). p.view.who) was;
        done = e.done (parts.none_failed k d (omega (arith, same, within)));
      }

  -- each client did its work
  each_worked : (k : ℕ) (c : C) (p : PassView) → k < length clients
      → HasWorked does desk k (get_or clients k c) (get_or left k c) (get_or after k p)
  each_worked k c p lt =
      let d : Seat C S = record { client = c; pass = p; failed = false } in
      let w = seat_worked k d (omega (arith, many, lt)) in
      subst (λ (x : PassView). HasWorked does desk k (get_or clients k c) (get_or left k c) x) (sym (pass_at new after k d (sym parts.passes_are)))
      (subst (λ (x : C). HasWorked does desk k (get_or clients k c) x (get_or new k d).pass) (sym (client_at new left k d (sym parts.clients_are)))
      (subst (λ (x : C). HasWorked does desk k x (get_or new k d).client (get_or new k d).pass) (sym (client_at old clients k d clients_are)) w))

  -- and its pass is between calls
  each_pass : (k : ℕ) (p : PassView) → k < length after → IsPass desk k (get_or after k p)
  each_pass k p lt =
      let as_new : length after ≡ length new = ap length parts.passes_are ∙ length-map new pass_of in
      ⊎_elim
      (λ x.
      let seat : Seat C S = x.0 in
      let w = seat_worked k seat (omega (arith, same, x.1)) in
      let its : get_or after k p ≡ (get_or new k seat).pass = ap (λ l. get_or l k p) parts.passes_are ∙ get_or-map pass_of new k seat p x.1 in
      subst (λ (q : PassView). IsPass desk k q) (sym its)
      (record { of_table = w.next.table_stays ∙ w.fresh.of_table; idle = w.next.idle; who_is = w.who_is }))
      (λ past. absurd (omega (arith, past.0, lt, as_new))) (slice_get_cases new k).1

  pub all_worked : HaveWorkedAt does desk clients left after
  all_worked =
      let as_many : length after ≡ length clients = ap length parts.passes_are ∙ length-map new pass_of ∙ same ∙ sym many in
      record {
        left = ap length parts.clients_are ∙ length-map new client_of ∙ same ∙ sym many;
        count = as_many;
        each = each_worked;
        of_desk = each_pass;
        seats = count ∙ sym as_many;
      }
