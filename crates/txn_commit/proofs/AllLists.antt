-- What all workers ran, put together, over the closed table.
use Rattle.txn_commit.proofs.Common.{◌≡◌, ◌≢◌, ℕ, zero, suc, ◌+◌, ◌<◌, ◌≤◌, ◌%◌, Bool, true, false, ⊎_elim, List, [], ◌∷◌, ◌++◌, All, AllPairs, flat_map, map}
use Rattle.txn_commit.proofs.Common.{length, take, get_or, slice_get, slice_index, Some, refl, sym, ap, ◌∙◌, subst, subst₂, arith, range_with_len, length-map}
use Rattle.txn_commit.proofs.Common.{flat_map-cons, All-weaker, get_or_from_slice_get, slice_get-get_or, slice_get_within, dite, dec_lt, Entry, Item}
use Rattle.txn_commit.proofs.Common.{replay_items, IsIn, IsLegalTrace, after, below_get, map_at, number, item_of_entry, items_of_entry, entry_from, in_flat_map}
use Rattle.txn_commit.proofs.Common.{IsAttemptOf, AreRecords, ClosedView, IsCoherent, IsLegalInEachOrder, items_of_closed, PassView, DeskView, Done, indexes_of}
use Rattle.txn_commit.proofs.Common.{AreOnceInOrder, HaveRecords, AreRecorded, HasRun, IsMade, Made, RanFirst}
use Rattle.values_rule.proofs.Common.{IsArrangement}
use Rattle.std.proofs.lemmas.Nat.{mod_below}
use Rattle.history_model.specs.Histories.{replay_effects}
use Rattle.txn_threads.specs.Clients.{HaveWorked}
use Rattle.word_table.specs.Closing.{AreSeenBy}
use Rattle.txn_commit.specs.Lists.{calls_of, AreCounted, AreDealt, AreMeant}
use Rattle.txn_commit.specs.Inner.ListWork.{IsMadeBy}
use Rattle.txn_commit.proofs.Flattened.{all_in, beside_flat, beside_images, in_flat, into_flat, of_in, one_flat, pairs_flat, AreBeside}
use Rattle.txn_commit.proofs.ListWork.{both_values, caller_of, in_range, index_of, no_values, own_values, values_of}
use Rattle.txn_commit.proofs.Orders.Once.{later_index}
use Rattle.txn_commit.proofs.Recorded.{have_records}

-- an item of an entry that says that it is one is no attempt
not_attempt : (e : Entry) (z : Item) → z.entry ≡ true → IsAttemptOf e.who e.call e.knew e.abandoned z → ⊥
not_attempt e z is t = let no : false ≡ true = ap (λ (y : Item). y.entry) t.is ∙ is in cc

-- the words before a place of a legal order are good
good_before : {S : Type 0} (good : List ℕ → Type 0) (closed : ClosedView S) → IsCoherent good closed → IsLegalInEachOrder good closed
    → (order : List Item) → IsArrangement (items_of_closed closed) order → (p : ℕ) → p ≤ length order → good (replay_items closed.base (take p order))
unfolding replay_effects
good_before good closed coherent legal order arranged zero le = coherent.agree.base_good
good_before good closed coherent legal order arranged (suc q) le =
    let y = below_get q order (omega (arith, le)) in
    let next : q + 1 ≡ suc q = omega arith in
    subst (λ n. good (replay_items closed.base (take n order))) next (legal.placed order arranged q y.0 y.1).leaves_good

-- what all workers ran, over the closed table
pub record AreWhole {S A : Type 0} (good : List ℕ → Type 0) (means : ℕ → ℕ → List ℕ → Bool → A → List ℕ → Type 0) (callers : ℕ) (jobs : ℕ → ℕ)
    (workers : ℕ) (closed : ClosedView S) (ran : List (Done A)) : Type 0 where
  pub once : AreOnceInOrder callers jobs ran
  pub dealt : AreDealt workers ran
  pub recorded : HaveRecords closed.records ran
  pub counted : AreCounted ran
  pub below : All (λ (x : Done A). x.restarts < workers) ran
  pub meant : AreMeant means closed ran
  pub run : AreRecorded good means closed ran

module _ {S A X : Type 0} (good : List ℕ → Type 0) (means : ℕ → ℕ → List ℕ → Bool → A → List ℕ → Type 0) (callers : ℕ) (jobs : ℕ → ℕ) (workers : ℕ)
    (closed : ClosedView S) (items_of : X → List (Done A)) (clients : List X) (passes : List PassView)
    (some : 0 < workers) (many : length clients ≡ workers) (count : length passes ≡ length clients)
    (each : (k : ℕ) (x : X) (p : PassView) → slice_get clients k ≡ Some x → slice_get passes k ≡ Some p
    → HasRun good means workers k p.view (items_of x) × RanFirst jobs workers k callers (items_of x))
    (seen : AreSeenBy passes closed.records) (records : AreRecords closed)
    (coherent : IsCoherent good closed) (legal : IsLegalInEachOrder good closed) where
  abbrev done : List (Done A)
  done = flat_map items_of clients

  abbrev entries : List Entry
  entries = flat_map (λ (p : PassView). p.view.seen) passes

  module _ (k : ℕ) (x : X) (at : slice_get clients k ≡ Some x) where
    its_pass : (p : PassView) × (slice_get passes k ≡ Some p)
    its_pass = below_get k passes (omega (arith, slice_get_within clients k x at, count))

    abbrev run : HasRun good means workers k its_pass.0.view (items_of x)
    run = (each k x its_pass.0 at its_pass.1).0

    abbrev first : RanFirst jobs workers k callers (items_of x)
    first = (each k x its_pass.0 at its_pass.1).1

    its_made : (ran : Done A) → IsIn ran (items_of x) → (made : Made A) × (made.ran ≡ ran) × IsMade good means workers k made
    its_made ran t =
        let there : IsIn ran (map (λ (y : Made A). y.ran) run.made) = subst (λ (l : List (Done A)). IsIn ran l) run.items_are t in
        let m = map_at (λ (y : Made A). y.ran) run.made there.0 ran there.1 in
        (m.0, m.2, of_in (IsMade good means workers k) run.made run.each m.0 (there.0, m.1))

    its_seat : (ran : Done A) → IsIn ran (items_of x) → ran.seat ≡ k
    its_seat ran t = let m = its_made ran t in ap (λ (y : Done A). y.seat) (sym m.1) ∙ m.2.seat_is

    its_few : (ran : Done A) → IsIn ran (items_of x) → ran.restarts < workers
    its_few ran t = let m = its_made ran t in subst (λ (y : Done A). y.restarts < workers) m.1 m.2.few

    its_turn : (ran : Done A) → IsIn ran (items_of x) → (ran.caller < callers) × (ran.caller % workers ≡ k)
    its_turn = of_in (λ (ran : Done A). (ran.caller < callers) × (ran.caller % workers ≡ k)) (items_of x) first.only

  -- what is so of each item of each worker
  of_each : (P : Done A → Type 0) → ((k : ℕ) (x : X) → slice_get clients k ≡ Some x → (ran : Done A) → IsIn ran (items_of x) → P ran) → All P done
  of_each P its = all_in P done (λ ran t. let r = in_flat items_of clients ran t in its r.0 r.1 r.2 ran r.3)

  all_dealt : AreDealt workers done
  all_dealt = of_each (λ (ran : Done A). ran.seat ≡ ran.caller % workers) (λ k x at ran t. its_seat k x at ran t ∙ sym (its_turn k x at ran t).1)

  all_below : All (λ (ran : Done A). ran.restarts < workers) done
  all_below = of_each (λ (ran : Done A). ran.restarts < workers) its_few

  flat_values : (key value : Done A → ℕ) (c : ℕ) (xs : List X) → values_of key value c (flat_map items_of xs)
      ≡ flat_map (λ x. values_of key value c (items_of x)) xs
  flat_values key value c [] = refl
  flat_values key value c (x ∷ xs) = ap (values_of key value c) (flat_map-cons items_of x xs)
      ∙ both_values key value c (items_of x) (flat_map items_of xs) ∙ ap (λ l. values_of key value c (items_of x) ++ l) (flat_values key value c xs)
      ∙ sym (flat_map-cons (λ y. values_of key value c (items_of y)) x xs)

  all_once : AreOnceInOrder callers jobs done
  all_once = record {
    of_callers = of_each (λ (ran : Done A). ran.caller < callers) (λ k x at ran t. (its_turn k x at ran t).0);
    each = λ c lt.
        let j : ℕ = c % workers in
        let x = below_get j clients (omega (arith, many, mod_below c workers some)) in
        flat_values caller_of index_of c clients
        ∙ one_flat (λ y. indexes_of c (items_of y)) clients j x.0 x.1 (λ k y at off.
        no_values caller_of index_of c (items_of y) (All-weaker (λ (r : Done A). (r.caller < callers) × (r.caller % workers ≡ k)) (λ (r : Done A). r.caller ≢ c)
        (λ r t same. off (sym t.1 ∙ ap (λ n. n % workers) same)) (items_of y) (first k y at).only))
        ∙ (first j x.0 x.1).own c lt refl;
  }

  -- all items of a worker are of its seat, and no others
  abbrev seat_of : Done A → ℕ
  seat_of ran = ran.seat

  abbrev call_of : Done A → ℕ
  call_of ran = ran.call

  all_counted : AreCounted done
  all_counted seat = dite (dec_lt seat workers)
      (λ lt.
      let x = below_get seat clients (omega (arith, lt, many)) in
      let its : List (Done A) = items_of x.0 in
      let own : calls_of seat done ≡ map call_of its = flat_values seat_of call_of seat clients
      ∙ one_flat (λ y. calls_of seat (items_of y)) clients seat x.0 x.1 (λ k y at off. no_values seat_of call_of seat (items_of y)
      (all_in (λ (r : Done A). r.seat ≢ seat) (items_of y) (λ r t same. off (sym (its_seat k y at r t) ∙ same))))
      ∙ own_values seat_of call_of seat its (all_in (λ (r : Done A). r.seat ≡ seat) its (its_seat seat x.0 x.1)) in
      own ∙ (run seat x.0 x.1).counted ∙ ap (range_with_len 1) (sym (ap (λ l. length l) own ∙ length-map its call_of)))
      (λ no.
      let none : calls_of seat done ≡ [] = no_values seat_of call_of seat done (of_each (λ (r : Done A). r.seat ≢ seat)
      (λ k x at r t same. no (omega (arith, slice_get_within clients k x at, many, its_seat k x at r t, same)))) in
      subst (λ l. l ≡ range_with_len 1 (length l)) (sym none) refl)

  -- of one seat they are later and later calls
  later_call : AllPairs (λ (x y : Done A). x.seat ≡ y.seat → x.call < y.call) done
  later_call = pairs_flat (λ (x y : Done A). x.seat ≡ y.seat → x.call < y.call) items_of clients
      (λ k x at i j d lt short seat.
      let at_place = λ (p : ℕ) (within : p < length (items_of x)).
      in_range call_of 1 (length (items_of x)) (items_of x) (run k x at).counted p (get_or (items_of x) p d)
      (slice_get-get_or (items_of x) p d within) in
      omega (arith, lt, at_place i (omega (arith, lt, short)), at_place j short))
      (λ i j x y at_x at_y lt a b in_a in_b seat. absurd (omega (arith, lt, seat, its_seat i x at_x a in_a, its_seat j y at_y b in_b)))

  -- each item stands beside the entry of its call
  all_beside : AreBeside (IsMadeBy good means) done entries
  all_beside = beside_flat (IsMadeBy good means) items_of (λ (p : PassView). p.view.seen) clients passes (sym count) (λ k x p at_x at_p.
      let h = (each k x p at_x at_p).0 in
      subst₂ (AreBeside (IsMadeBy good means)) (sym h.items_are) (sym h.seen_are)
      (beside_images (IsMadeBy good means) (λ (y : Made A). y.ran) (λ (y : Made A). y.entry) h.made
      (λ made t. (of_in (IsMade good means workers k) h.made h.each made t).by_entry)))

  all_run : AreRecorded good means closed done
  all_run = record {
    entries = entries;
    as_many = all_beside.as_many;
    of_items = λ k ran e at_ran at_e. (all_beside.each k ran e at_ran at_e).is_of;
    meaning = λ k ran e at_ran at_e. (all_beside.each k ran e at_ran at_e).meaning;
    of_records = λ e. (
      λ t. let r = in_flat (λ (p : PassView). p.view.seen) passes e t in (seen e).1 (r.1, ((r.0, r.2), r.3)),
      λ t. let s = (seen e).0 t in into_flat (λ (p : PassView). p.view.seen) passes e s.1.0.0 s.0 s.1.0.1 s.1.1,
    );
    in_order = λ i j d lt short caller.
        let seat = all_dealt i d (omega (arith, lt, short)) ∙ ap (λ n. n % workers) caller ∙ sym (all_dealt j d short) in
        (later_index callers jobs done all_once i j d lt short caller, (seat, later_call i j d lt short seat));
    apart = λ i j d lt short seat call. absurd (omega (arith, later_call i j d lt short seat, call));
  }

  all_recorded : HaveRecords closed.records done
  unfolding all_run
  all_recorded = have_records closed done entries all_run.as_many all_run.of_items all_run.of_records all_run.apart records

  all_meant : AreMeant means closed done
  unfolding all_run
  all_meant order arranged p x at is ran t seat call =
      let m = below_get t.0 entries (omega (arith, slice_get_within done t.0 ran t.1, all_beside.as_many)) in
      let made = all_beside.each t.0 ran m.0 t.1 m.1 in
      let found = in_flat_map items_of_entry closed.records x ((arranged.same x).0 (p, at)) in
      let e : Entry = found.0 in
      let its : item_of_entry e ≡ x = ⊎_elim (λ q. q) (λ a. absurd (not_attempt e x is a)) (entry_from e x found.2) in
      let one : m.0 ≡ e = records.one m.0 e ((all_run.of_records m.0).0 (t.0, m.1)) found.1
      (made.is_of.seat_is ∙ seat ∙ ap (λ (z : Item). z.who) (sym its)) (made.is_of.call_is ∙ call ∙ ap (λ (z : Item). z.call) (sym its)) in
      let s = replay_items closed.base (take p order) in
      let item_is : item_of_entry m.0 ≡ x = ap item_of_entry one ∙ its in
      subst (λ (z : Item). means ran.caller ran.index s z.kept ran.reply (after z.trace s)) item_is (made.meaning s
      (good_before good closed coherent legal order arranged p (omega (arith, slice_get_within order p x at)))
      (subst (λ (z : Item). IsLegalTrace z.trace s) (sym item_is) (legal.placed order arranged p x at).legal))

  pub whole : AreWhole good means callers jobs workers closed done
  whole = record { once = all_once; dealt = all_dealt; recorded = all_recorded; counted = all_counted; below = all_below; meant = all_meant; run = all_run }

-- the same of workers who did their work
module _ {S A X L : Type 0} (good : S → List ℕ → Type 0) (means : L → ℕ → ℕ → List ℕ → Bool → A → List ℕ → Type 0) (callers : L → ℕ)
    (jobs : L → ℕ → ℕ) (lists_of : X → L) (workers_of : X → ℕ) (items_of : X → List (Done A)) where
  abbrev pub Works : DeskView S → X → X → PassView → PassView → Type 0
  Works desk old new before now = HasRun (good desk.shape) (means (lists_of old)) desk.seats (number before.view) now.view (items_of new)
      × RanFirst (jobs (lists_of old)) (workers_of old) (number before.view) (callers (lists_of old)) (items_of new)

  pub each_worked : (closed : ClosedView S) (old new : List X) (lists : L) (workers : ℕ) (worked : HaveWorked Works closed old new)
      → All (λ x. (lists_of x ≡ lists) × (workers_of x ≡ workers) × (items_of x ≡ [])) old → closed.seats ≡ workers
      → (k : ℕ) (x : X) (p : PassView) → slice_get new k ≡ Some x → slice_get worked.passes k ≡ Some p
      → HasRun (good closed.shape) (means lists) workers k p.view (items_of x) × RanFirst (jobs lists) workers k (callers lists) (items_of x)
  each_worked closed old new lists workers worked started seats k x p at_x at_p =
      let within : k < length old = omega (arith, slice_get_within new k x at_x, worked.left) in
      let w = worked.each k x p within in
      let h = started k x within in
      let here : get_or new k x ≡ x = get_or_from_slice_get new k x x at_x in
      let pass : get_or worked.passes k p ≡ p = get_or_from_slice_get worked.passes k p p at_p in
      let named : number w.before.view ≡ k = ap (λ (l : List ℕ). slice_index l 0) (sym w.next.who_stays ∙ w.who_is) in
      let seats_are : worked.desk.seats ≡ workers = worked.seats_are ∙ seats in
      let shape_is : worked.desk.shape ≡ closed.shape = worked.shape_is in (
        subst (λ (t : S × L × ℕ × ℕ × PassView × X). HasRun (good t.0) (means t.1) t.2 t.3 t.4.view (items_of t.5))
            (λ i. (shape_is i, h.0 i, seats_are i, named i, pass i, here i)) w.done.0,
        subst (λ (t : L × ℕ × ℕ × X). RanFirst (jobs t.0) t.1 t.2 (callers t.0) (items_of t.3))
            (λ i. (h.0 i, h.1 i, named i, here i)) w.done.1,
      )

  pub all_whole : (closed : ClosedView S) (shape : S) (old new : List X) (lists : L) (workers : ℕ) (ran : List (Done A)) → closed.shape ≡ shape
      → closed.seats ≡ length old → length old ≡ workers → 0 < workers
      → All (λ x. (lists_of x ≡ lists) × (workers_of x ≡ workers) × (items_of x ≡ [])) old
      → HaveWorked Works closed old new → AreRecords closed → IsCoherent (good shape) closed → IsLegalInEachOrder (good shape) closed
      → ran ≡ flat_map items_of new → AreWhole (good shape) (means lists) (callers lists) (jobs lists) workers closed ran
  all_whole closed shape old new lists workers ran shape_is seats long some started worked records coherent legal is =
      subst (AreWhole (good shape) (means lists) (callers lists) (jobs lists) workers closed) (sym is)
      (whole (good shape) (means lists) (callers lists) (jobs lists) workers closed items_of new worked.passes some many count each worked.seen records
      coherent legal)
    where
      many : length new ≡ workers
      many = worked.left ∙ long

      count : length worked.passes ≡ length new
      count = worked.count ∙ sym worked.left

      each : (k : ℕ) (x : X) (p : PassView) → slice_get new k ≡ Some x → slice_get worked.passes k ≡ Some p
          → HasRun (good shape) (means lists) workers k p.view (items_of x) × RanFirst (jobs lists) workers k (callers lists) (items_of x)
      each k x p at_x at_p = subst (λ (s : S). HasRun (good s) (means lists) workers k p.view (items_of x)
          × RanFirst (jobs lists) workers k (callers lists) (items_of x)) shape_is
          (each_worked closed old new lists workers worked started (seats ∙ long) k x p at_x at_p)
