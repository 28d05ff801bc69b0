-- What was run, put in the order that is rebuilt from what it used.
use Rattle.txn_commit.proofs.Common.{◌≡◌, ℕ, Bool, List, All, map, length, get_or, sym, subst, arith, slice_get-get_or, IsLegalTrace, after, IsOrder, Orderable}
use Rattle.txn_commit.proofs.Common.{AreRecords, ClosedView, IsCoherent, IsLegalInEachOrder, Done, AreOnceInOrder, HaveRecords, IsEntryOf, spot_of, AreAt}
use Rattle.txn_commit.proofs.Common.{AreRecorded, IsRunInOrder}
use Rattle.txn_commit.proofs.Orders.Arranged.{all_arranged, AreAllPlaces}
use Rattle.txn_commit.proofs.Orders.Once.{once_there}
use Rattle.txn_commit.proofs.Orders.Rebuilt.{all_places, apart_places, apart_there, as_many_there, can_be_ordered, entries, legal_there, made_there, rebuilt}
use Rattle.txn_commit.proofs.Orders.Rebuilt.{records_there, rising_there, words_there, AreRunOver, Readings}
use Rattle.txn_commit.proofs.Recorded.{have_records}

module _ {A S : Type 0} {good : List ℕ → Type 0} {means : ℕ → ℕ → List ℕ → Bool → A → List ℕ → Type 0} {closed : ClosedView S}
    {given : List (Done A)} (run : AreRecorded good means closed given)
    (coherent : IsCoherent good closed) (legal : IsLegalInEachOrder good closed) (records : AreRecords closed) where
  abbrev read : Readings (Done A)
  read = record { spot = spot_of; seat = λ ran. ran.seat; call = λ ran. ran.call }

  over : AreRunOver read good closed given run.entries
  over = record {
    made = record {
      as_many = run.as_many;
      each = λ k x e at_x at_e.
          let is = run.of_items k x e at_x at_e in
          record { seat_is = is.seat_is; call_is = is.call_is; uses_are = is.uses_are };
    };
    keeps = run.in_order;
    distinct = apart_places read given run.apart;
    same = run.of_records;
    coherent = coherent;
    legal = legal;
    records = records;
  }

  -- what is told of a slice of the items
  pub order_run : (slice : List (Done A)) (places : List ℕ) → slice ≡ given → (Orderable (map spot_of slice) → IsOrder (map spot_of slice) places)
      → IsOrder (map spot_of given) places
  order_run slice places is told = subst (λ (l : List (Done A)). IsOrder (map spot_of l) places) is
      (told (subst (λ (l : List (Done A)). Orderable (map spot_of l)) (sym is) (can_be_ordered over)))

  module _ (places : List ℕ) (order : IsOrder (map spot_of given) places) where
    pub places_run : AreAllPlaces (length given) places
    places_run = all_places over places order

    module _ (done : List (Done A)) (at : AreAt given places done) where
      pub run_in_order : IsRunInOrder good means closed done
      run_in_order =
          let down = legal_there over places order in
          record {
            rebuilt = rebuilt over places order done at;
            entries = entries over places order;
            as_many = as_many_there over places order done at;
            of_items = made_there over places order done at IsEntryOf run.of_items;
            of_records = records_there over places order;
            good_words = λ k le. down.good_before k;
            legal = down.trace_legal;
            meaning = λ k ran e at_ran at_e.
                made_there over places order done at
                (λ x f. (s : List ℕ) → good s → IsLegalTrace f.trace s → means x.caller x.index s f.kept x.reply (after f.trace s)) run.meaning k ran e
                at_ran at_e _ (down.good_before k) (down.trace_legal k e at_e);
            words = words_there over places order;
          }

      pub once_in_order : (callers : ℕ) (jobs : ℕ → ℕ) → AreOnceInOrder callers jobs given → AreOnceInOrder callers jobs done
      once_in_order callers jobs once = once_there callers jobs given done places at places_run once (rising_there over places order done at)

      pub all_run : (P : Done A → Type 0) → All P given → All P done
      all_run P each = all_arranged given done places at places_run P each

      pub recorded_in_order : HaveRecords closed.records done
      recorded_in_order = have_records closed done run_in_order.entries run_in_order.as_many run_in_order.of_items run_in_order.of_records
          (λ i j d lt short seat call. absurd (omega (
            arith,
            lt,
            apart_there over places order done at i j (get_or done i d) (get_or done j d) (slice_get-get_or done i d (omega (arith, lt, short)))
                (slice_get-get_or done j d short) seat call,
          )))
          records
