-- All shares of a day, put together.
use Rattle.worker_pool.proofs.Common.{◌≡◌, ◌≢◌, ◌↔◌, ℕ, ◌+◌, ◌<◌, ◌≤◌, ◌&&◌, ◌==◌, List, ◌∷◌, [], All, AllPairs, flat_map, map, take, length, get_or, slice_get}
use Rattle.worker_pool.proofs.Common.{Some, Bool, true, cond, sym, ap, ◌∙◌, subst, arith, zero-add, range_with_len, nat_tests, get_or-map, length-map, map-map}
use Rattle.worker_pool.proofs.Common.{get_or_from_slice_get, slice_get-get_or, slice_get_within, Entry, IsGood, replay, IsIn, RefusedChangesNothing}
use Rattle.worker_pool.proofs.Common.{ClearingInput, Place, IsPlace, books_after, BooksShape, words_of, IsGoodFor, Stands, spot_of, AreAt, IsRunInOrder}
use Rattle.worker_pool.proofs.Common.{ClosedView, PassView, DeskView, Done, Share, once_below, place_of_item, places_of_items, AreCallersWhole, AreMadeBy}
use Rattle.worker_pool.proofs.Common.{IsScriptEntry, seat_of, share_of, counted_number, AreAllDone, IsDone, CountedShare, AreAllPlaces}
use Rattle.order_rebuild.proofs.Common.{IsOrder, Orderable}
use Rattle.word_table.proofs.Common.{AreAllPasses}
use Rattle.txn_commit.proofs.Common.{AreRecords}
use Rattle.txn_threads.proofs.Common.{IsCoherent, IsLegalInEachOrder}
use Rattle.std.proofs.lemmas.List.Elements.{All-map}
use Rattle.std.proofs.lemmas.List.FromFn.{get_or-range_with_len, length-range_with_len}
use Rattle.std.proofs.lemmas.List.Folds.{flat_map-map}
use Rattle.script_reader.specs.Journal.{IsJournal}
use Rattle.word_table.specs.Closing.{AreSeenBy}
use Rattle.worker_pool.specs.Days.{IsDay}
use Rattle.txn_commit.proofs.Orders.Arranged.{all_arranged}
use Rattle.txn_commit.proofs.Orders.Once.{pairs_map}
use Rattle.txn_commit.proofs.Recorded.{have_records}
use Rattle.txn_commit.proofs.Orders.Rebuilt.{all_places, apart_there, as_many_there, can_be_ordered, entries, legal_there, made_there, rebuilt, records_there}
use Rattle.txn_commit.proofs.Orders.Rebuilt.{rising_there, words_there, AreRunOver}
use Rattle.worker_pool.proofs.Arranged.{once_arranged}
use Rattle.worker_pool.proofs.Gathered.{all_entries, below_all, items_of, keeps_all, made_all, no_two_calls, once_all, only_all, pass_of, read, seen_flat}
use Rattle.worker_pool.proofs.Gathered.{sum_over, total_had}
use Rattle.worker_pool.proofs.Replayed.{replies_are, stands_after, stands_closed, Means}
use Rattle.worker_pool.proofs.Wholes.{callers_whole}

abbrev pub share_pass : Share → PassView
share_pass share = share.pass

abbrev pub share_items : Share → List Done
share_items share = share.done.items

pub once_at_most : (x n : ℕ) → once_below x n ≤ 1
once_at_most x n = grind arith

-- of two scripts of a caller of which one comes before the other, not both stand at one place
apart_twice : (p : Place) (x y : Done) → (x.caller ≡ y.caller → x.index < y.index) → (x.caller == p.caller && x.index == p.index) ≡ true
    → (y.caller == p.caller && y.index == p.index) ≡ true → ⊥
apart_twice p x y rising first second = grind (arith, nat_tests, rising, first, second)

module _ {desk : DeskView BooksShape} {input : ClearingInput} {shares : List Share} (all : AreAllDone desk input shares) where
  abbrev ws : List CountedShare
  ws = all.counted_shares

  all_worked : All (IsDone desk input) ws
  all_worked = all.each

  numbers : map counted_number ws ≡ range_with_len 0 desk.seats
  numbers = sym (map-map seat_of share_of ws) ∙ ap (map seat_of) all.are ∙ all.numbers

  its_worker : (pass : PassView) → IsIn pass (map pass_of ws) → (d : CountedShare) → (k : ℕ) × (k < length ws) × ((get_or ws k d).share.pass ≡ pass)
  its_worker pass (k, is) d =
      let within : k < length ws = omega (arith, slice_get_within (map pass_of ws) k pass is, length-map ws pass_of) in
      (k, within, sym (get_or-map pass_of ws k d d.share.pass within) ∙ get_or_from_slice_get (map pass_of ws) k pass d.share.pass is)

  first_of : (xs : List CountedShare) (k : ℕ) → k < length xs → CountedShare
  first_of [] k lt = absurd (omega arith)
  first_of (x ∷ xs) k lt = x

  its_passes : (passes : List PassView) → passes ≡ map share_pass shares → passes ≡ map pass_of ws
  its_passes passes is = is ∙ ap (map share_pass) (sym all.are) ∙ map-map share_pass share_of ws

  pub passes_all : {passes : List PassView} → passes ≡ map share_pass shares → AreAllPasses desk.table desk.seats passes
  passes_all {passes} are = let is = its_passes passes are in subst (λ l. AreAllPasses desk.table desk.seats l) (sym is) (record {
    of_table = λ pass at.
        let d = some_worker pass at in
        let w = its_worker pass at d in
        ap (λ (p : PassView). p.table) (sym w.2) ∙ (all_worked w.0 d w.1).made.of_table;
    idle = λ pass at.
        let d = some_worker pass at in
        let w = its_worker pass at d in
        ap (λ (p : PassView). p.view.phase) (sym w.2) ∙ (all_worked w.0 d w.1).made.idle;
    all = λ j lt.
        let long : length ws ≡ desk.seats = sym (length-map ws counted_number) ∙ ap length numbers ∙ length-range_with_len 0 desk.seats in
        let within : j < length ws = omega (arith, long, lt) in
        let d : CountedShare = first_of ws j within in
        let w : CountedShare = get_or ws j d in
        let number_is : counted_number w ≡ j = sym (get_or-map counted_number ws j d (counted_number d) within)
        ∙ ap (λ l. get_or l j (counted_number d)) numbers ∙ get_or-range_with_len 0 desk.seats j (counted_number d) lt ∙ zero-add j in
        let stands : slice_get (map pass_of ws) j ≡ Some w.share.pass =
        slice_get-get_or (map pass_of ws) j d.share.pass (omega (arith, within, length-map ws pass_of))
        ∙ ap (λ p. Some p) (get_or-map pass_of ws j d d.share.pass within) in
        (w.share.pass, (j, stands), (all_worked j d within).made.number_is ∙ ap (λ n. n ∷ []) number_is);
  })
    where
      some_worker : (pass : PassView) → IsIn pass (map pass_of ws) → CountedShare
      some_worker pass (k, is) = first_of ws k (omega (arith, slice_get_within (map pass_of ws) k pass is, length-map ws pass_of))

  abbrev pub given : List Done
  given = flat_map items_of ws

  numbered : (k : ℕ) (d : CountedShare) → k < length ws → counted_number (get_or ws k d) ≡ 0 + k
  numbered k d lt =
      let long : length ws ≡ desk.seats = sym (length-map ws counted_number) ∙ ap length numbers ∙ length-range_with_len 0 desk.seats in
      sym (get_or-map counted_number ws k d (counted_number d) lt)
      ∙ ap (λ l. get_or l k (counted_number d)) numbers ∙ get_or-range_with_len 0 desk.seats k (counted_number d) (omega (arith, long, lt))

  once_had : (x : ℕ) → total_had ws x ≤ 1
  once_had x = omega (arith, all.once x, once_at_most x (length input.callers))

  module _ {passes : List PassView} {closed : ClosedView BooksShape} (passes_are : passes ≡ map share_pass shares)
      (of_desk : (closed.base ≡ desk.base) × (closed.seats ≡ desk.seats) × (closed.shape ≡ desk.shape))
      (coherent : IsCoherent (IsGood (words_of desk.shape) (IsGoodFor desk.shape)) closed)
      (legal : IsLegalInEachOrder (IsGood (words_of desk.shape) (IsGoodFor desk.shape)) closed)
      (records : AreRecords closed) (seen : AreSeenBy passes closed.records) where
    abbrev Good : List ℕ → Type 0
    Good = IsGood (words_of desk.shape) (IsGoodFor desk.shape)

    same_entries : (e : Entry) → IsIn e (all_entries desk input ws all_worked) ↔ IsIn e closed.records
    same_entries e =
        let of_passes = subst (λ l. AreSeenBy l closed.records) (its_passes passes passes_are) seen in (
          λ t. (of_passes e).1 ((seen_flat ws e).0 t),
          λ t. (seen_flat ws e).1 ((of_passes e).0 t),
        )

    made : AreMadeBy desk.shape input (all_entries desk input ws all_worked) given
    made = made_all desk input ws all_worked

    over : AreRunOver read Good closed given (all_entries desk input ws all_worked)
    over = record {
      made = record {
        as_many = made.as_many;
        each = λ k x e at_x at_e.
            let is = (made.each k x e at_x at_e).is_of in
            record { seat_is = is.seat_is; call_is = is.call_is; uses_are = is.uses_are };
      };
      keeps = keeps_all desk input ws all_worked all.once;
      distinct = no_two_calls desk input ws numbered all_worked;
      same = same_entries;
      coherent = coherent;
      legal = legal;
      records = records;
    }

    module _ (places : List ℕ) (done : List Done) (order : IsOrder (map spot_of given) places) (at : AreAt given places done)
        (refused : RefusedChangesNothing) (opening : Stands desk.shape desk.base input.books) where
      all_at : AreAllPlaces (length given) places
      all_at = all_places over places order

      pub whole_of_all : AreCallersWhole done
      whole_of_all = callers_whole desk input ws all_worked once_had done (λ P h. all_arranged given done places at all_at P h)

      its_made : (k : ℕ) (x : Done) (e : Entry) → slice_get done k ≡ Some x → slice_get (entries over places order) k ≡ Some e
          → IsScriptEntry desk.shape input e x
      its_made = made_there over places order done at (λ x e. IsScriptEntry desk.shape input e x) made.each

      its_run : IsRunInOrder Good (Means input desk.shape) closed done
      its_run =
          let down = legal_there over places order in
          record {
            rebuilt = rebuilt over places order done at;
            entries = entries over places order;
            as_many = as_many_there over places order done at;
            of_items = λ k item e at_item at_e. (its_made k item e at_item at_e).is_of;
            of_records = records_there over places order;
            good_words = λ k le. down.good_before k;
            legal = down.trace_legal;
            meaning = λ k item e at_item at_e. (its_made k item e at_item at_e).meaning _ (down.good_before k) (down.trace_legal k e at_e);
            words = words_there over places order;
          }

      its_journal : IsJournal input (places_of_items done)
      its_journal = record {
        only = All-map (IsPlace input) place_of_item done
            (all_arranged given done places at all_at (λ (item : Done). IsPlace input (place_of_item item)) (only_all desk input ws all_worked));
        once = λ p there.
            let test : Done → Bool = λ item. item.caller == p.caller && item.index == p.index in
            let counted : Place → ℕ = λ q. cond (q.caller == p.caller && q.index == p.index) 1 0 in
            sum_over counted place_of_item done ∙ once_arranged given done places at all_at test
            (sym (sum_over counted place_of_item given) ∙ once_all desk input ws all_worked all.once p there)
            (λ i j d lt short first second. apart_twice p (get_or done i d) (get_or done j d)
            (rising_there over places order done at i j d lt short) first second);
        rising = pairs_map (λ (p q : Place). p.caller ≡ q.caller → p.index < q.index) place_of_item done
            (rising_there over places order done at);
      }

      its_apart : AllPairs (λ (x y : Done). x.seat ≡ y.seat → x.call ≢ y.call) done
      its_apart i j d lt short seat call = absurd (omega (
        arith,
        lt,
        apart_there over places order done at i j (get_or done i d) (get_or done j d) (slice_get-get_or done i d (omega (arith, lt, short)))
            (slice_get-get_or done j d short) seat call,
      ))

      pub day_of_all : IsDay input closed done
      unfolding its_run
      day_of_all =
          let begun : Stands desk.shape closed.base input.books = subst (λ (b : List ℕ). Stands desk.shape b input.books) (sym of_desk.0) opening in
          record {
            rebuilt = rebuilt over places order done at;
            entries = entries over places order;
            of_items = record {
              as_many = as_many_there over places order done at;
              each = λ k item entry at_item at_entry. (its_made k item entry at_item at_entry).is_of;
            };
            of_records = records_there over places order;
            as_many = (have_records closed done its_run.entries its_run.as_many its_run.of_items its_run.of_records its_apart records).as_many;
            distinct = apart_there over places order done at;
            legal = (legal_there over places order).trace_legal;
            words = words_there over places order;
            journal = its_journal;
            below = subst (λ (m : ℕ). All (λ (item : Done). item.restarts < m) done) (sym of_desk.1)
                (all_arranged given done places at all_at (λ (item : Done). item.restarts < desk.seats) (below_all desk input ws all_worked));
            replies = replies_are input desk.shape refused closed done its_run begun;
            stands = λ k le. subst (λ (s : BooksShape). Stands s (replay closed.base (take k (entries over places order)))
                (books_after input input.books (places_of_items (take k done))))
                (sym of_desk.2) (stands_after input desk.shape refused closed done its_run begun k le);
            left = subst (λ (s : BooksShape). Stands s closed.words (books_after input input.books (places_of_items done))) (sym of_desk.2)
                (stands_closed input desk.shape refused closed done its_run begun);
          }

    -- the same of the items as they were gathered, of which a slice was put in order at places, told as a slice again
    module _ {gathered slice : List Done} (gathered_are : gathered ≡ flat_map share_items shares) (slice_is : slice ≡ gathered) {places told : List ℕ}
        (in_order : Orderable (map spot_of slice) → IsOrder (map spot_of slice) places) (told_is : told ≡ places) where
      its_given : given ≡ gathered
      its_given = sym (gathered_are ∙ (ap (flat_map share_items) (sym all.are) ∙ flat_map-map share_items share_of ws))

      order_given : IsOrder (map spot_of given) told
      order_given = subst (IsOrder (map spot_of given)) (sym told_is)
          (subst (λ (l : List Done). Orderable (map spot_of l) → IsOrder (map spot_of l) places) (slice_is ∙ sym its_given) in_order (can_be_ordered over))

      pub gathered_places : AreAllPlaces (length gathered) told
      gathered_places = subst (λ (l : List Done). AreAllPlaces (length l) told) its_given (all_places over told order_given)

      pub gathered_day : {done : List Done} → AreAt gathered told done → RefusedChangesNothing → Stands desk.shape desk.base input.books
          → IsDay input closed done × AreCallersWhole done
      gathered_day {done} at refused opening =
          let at_given : AreAt given told done = subst (λ (l : List Done). AreAt l told done) (sym its_given) at in
          (day_of_all told done order_given at_given refused opening, whole_of_all told done order_given at_given refused opening)
