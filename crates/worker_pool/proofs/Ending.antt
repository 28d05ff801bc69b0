-- What the workers leave, and the last round.
use Rattle.worker_pool.proofs.Common.{◌≡◌, ℕ, zero, suc, ◌+◌, ◌*◌, ◌<◌, ◌≤◌, All, List, [], ◌∷◌, map, set, length, get_or, refl, sym, ap, ◌∙◌, subst, arith}
use Rattle.worker_pool.proofs.Common.{Global, Vec, zero-add, slice_index, map-map, sum_by, range_with_len, get_or-map, length-map, sum_by-cons}
use Rattle.worker_pool.proofs.Common.{get_or-le-sum_by, Stealer, Pass, IsPassOf, worker_view, ClearingInput, IsInput, MOST_CALLERS, MOST_SCRIPTS, BooksShape}
use Rattle.worker_pool.proofs.Common.{fresh_pass, PassView, DeskView, Deal, DealRule, Queue, Share, Worker, times, once_below, IsGuest, owners_dealt}
use Rattle.worker_pool.proofs.Common.{owners_took, stolen, IsReturning, IsWholeRow, rows_stole, HasMade, RanScripts, RunsEach, dealt_to, had, IsDealtOut}
use Rattle.worker_pool.proofs.Common.{IsQueueOf, Stealers, Done, seat_of, share_of, AreAllDone, CountedShare, HaveDoneTheirParts, IsDone, AreDealtInTurn}
use Rattle.std.proofs.lemmas.List.Elements.{All-cons}
use Rattle.worker_pool.proofs.Arranged.{few_once}
use Rattle.worker_pool.proofs.Ended.{once_at_most}
use Rattle.worker_pool.proofs.Gathered.{sum_over}
use Rattle.worker_pool.proofs.Opening.{dealt_all, OwnerOf}
use Rattle.worker_pool.proofs.Seating.{numbered, own_of}

abbrev pub RowOf : Type 0
RowOf = Vec (Pass ℕ Deal Global) Global

abbrev pub row_of : Worker → RowOf
row_of worker = worker.queue.passes

-- what stands at a place of a list of images is the image of what stands there
map_at : {X Y : Type 0} (f : X → Y) (xs : List X) (k : ℕ) (y : Y) → k < length xs → (d : X) × (get_or (map f xs) k y ≡ f (get_or xs k d))
map_at f [] k y lt = absurd (omega arith)
map_at f (x ∷ xs) zero y lt = (x, refl)
map_at f (x ∷ xs) (suc k) y lt = map_at f xs k y (omega arith)

sum_both : {X : Type 0} (f g : X → ℕ) (xs : List X) → sum_by (λ x. f x + g x) xs ≡ sum_by f xs + sum_by g xs
sum_both f g [] = refl
sum_both f g (x ∷ xs) = omega (arith, sum_by-cons (λ y. f y + g y) x xs, sum_by-cons f x xs, sum_by-cons g x xs, sum_both f g xs)

all_map : {X Y : Type 0} (P : Y → Type 0) (f : X → Y) (xs : List X) → ((k : ℕ) (d : X) → k < length xs → P (f (get_or xs k d))) → All P (map f xs)
all_map P f xs each k y lt =
    let within : k < length xs = omega (arith, lt, length-map xs f) in
    let at = map_at f xs k y within in
    subst P (sym at.1) (each k at.0 within)

module _ (stealers : Stealers) (desk : DeskView BooksShape) (input : ClearingInput) (ws : List Worker) (ps : List PassView)
    (done : HaveDoneTheirParts stealers desk input ws ps) where
  queue_at : (k : ℕ) (d : Worker) → k < length ws → IsQueueOf stealers k (get_or ws k d).queue
  queue_at k d lt = (done.each k d (fresh_pass desk.table desk.base desk.seats 0) lt).queue

  pub owners_return : All (IsReturning (length ws)) (map own_of ws)
  owners_return = all_map (IsReturning (length ws)) own_of ws (λ k d lt. let e = queue_at k d lt in
      record { fifo = e.fifo; parts = omega (arith, e.parts, done.stealers_are) })

  guest_at : (i k : ℕ) (d : Worker) (w : OwnerOf) (p : Pass ℕ Deal Global) (s : Stealer ℕ Global Deal DealRule)
      → i < length ws → k < length ws → IsGuest (get_or (map own_of ws) k w) (get_or (get_or ws i d).queue.passes.items k p)
  guest_at i k d w p s within lt =
      let it = (queue_at i d within).row.each k s p (omega (arith, lt, done.stealers_are)) in
      let at = map_at own_of ws k w lt in
      let o = queue_at k at.0 lt in
      subst (λ (v : OwnerOf). IsGuest v (get_or (get_or ws i d).queue.passes.items k p)) (sym at.1) (record {
        deque = subst (λ q. IsPassOf q (get_or (get_or ws i d).queue.passes.items k p)) (sym (o.own s)) it.deque;
        part = it.part;
        dealt = it.dealt;
        own = omega (arith, o.parts, o.few);
      })

  a_stealer : (ts : Stealers) → 0 < length ts → Stealer ℕ Global Deal DealRule
  a_stealer [] lt = absurd (omega arith)
  a_stealer (t ∷ ts) lt = t

  pub rows_whole : All (λ (row : RowOf). IsWholeRow (map own_of ws) row.items) (map row_of ws)
  rows_whole = all_map (λ (row : RowOf). IsWholeRow (map own_of ws) row.items) row_of ws (λ i d within.
      let count : length (get_or ws i d).queue.passes.items ≡ length (map own_of ws) =
      (queue_at i d within).row.count ∙ done.stealers_are ∙ sym (length-map ws own_of) in
      record {
        guests = record {
          count = omega (arith, count);
          each = λ k w p lt.
              let less : k < length ws = omega (arith, lt, count, length-map ws own_of) in
              guest_at i k d w p (a_stealer stealers (omega (arith, less, done.stealers_are))) within less;
        };
        whole = count;
      })

  -- what was taken by all, and what was left and was then found in the deques, is each caller once
  pub each_once : (left0 left : List ℕ)
      → ((x : ℕ) → owners_took (map own_of ws) x + rows_stole (map row_of ws) x + times x left ≡ owners_dealt (map own_of ws) x + times x left0)
      → IsDealtOut (length input.callers) (map (λ (worker : Worker). dealt_to worker.queue) ws) left0 → (x : ℕ)
      → sum_by (λ (worker : Worker). had worker.queue x) ws + times x left ≡ once_below x (length input.callers)
  each_once left0 left left_taken dealt x = omega (
    arith,
    left_taken x,
    dealt x,
    sum_both (λ (worker : Worker). times x (worker_view worker.queue.own).taken) (λ (worker : Worker). stolen worker.queue.passes.items x) ws,
    sum_over (λ (w : OwnerOf). times x (worker_view w).taken) own_of ws,
    sum_over (λ (row : RowOf). stolen row.items x) row_of ws,
    sum_over (λ (w : OwnerOf). times x (worker_view w).dealt) own_of ws,
    sum_over (λ (l : List ℕ). times x l) (λ (worker : Worker). dealt_to worker.queue) ws,
  )

-- shares, each with how often each caller was had for it
counted_of : List Worker → List Share → List CountedShare
counted_of (w ∷ ws) (s ∷ ss) = record { share = s; had = had w.queue } ∷ counted_of ws ss
counted_of [] ss = []
counted_of (w ∷ ws) [] = []

shares_of_counted : (ws : List Worker) (ss : List Share) → length ss ≡ length ws → map share_of (counted_of ws ss) ≡ ss
unfolding counted_of
shares_of_counted [] [] e = refl
shares_of_counted [] (s ∷ ss) e = absurd (omega arith)
shares_of_counted (w ∷ ws) [] e = absurd (omega arith)
shares_of_counted (w ∷ ws) (s ∷ ss) e = ap (λ l. s ∷ l) (shares_of_counted ws ss (omega arith))

sum_of_counted : (x : ℕ) (ws : List Worker) (ss : List Share) → length ss ≡ length ws
    → sum_by (λ (t : CountedShare). t.had x) (counted_of ws ss) ≡ sum_by (λ (worker : Worker). had worker.queue x) ws
unfolding counted_of
sum_of_counted x [] ss e = refl
sum_of_counted x (w ∷ ws) [] e = absurd (omega arith)
sum_of_counted x (w ∷ ws) (s ∷ ss) e = omega (
  arith,
  sum_of_counted x ws ss (omega arith),
  sum_by-cons (λ (t : CountedShare). t.had x) (record { share = s; had = had w.queue }) (counted_of ws ss),
  sum_by-cons (λ (worker : Worker). had worker.queue x) w ws,
)

all_counted : (P : CountedShare → Type 0) (ws : List Worker) (ss : List Share) → length ss ≡ length ws
    → ((k : ℕ) (w : Worker) (s : Share) → k < length ws → P (record { share = get_or ss k s; had = had (get_or ws k w).queue }))
    → All P (counted_of ws ss)
unfolding counted_of
all_counted P [] ss e each k d lt = absurd (omega arith)
all_counted P (w ∷ ws) [] e each k d lt = absurd (omega arith)
all_counted P (w ∷ ws) (s ∷ ss) e each zero d lt = each 0 w s (omega arith)
all_counted P (w ∷ ws) (s ∷ ss) e each (suc k) d lt =
    all_counted P ws ss (omega arith) (λ j v t less. each (suc j) v t (omega arith)) k d (omega arith)

-- each share has all scripts of the callers that were had for it, made by the pass of its number
abbrev AreShares : DeskView BooksShape → ClearingInput → List Worker → List Share → Type 0
AreShares desk input ws ss = (k : ℕ) (w : Worker) (s : Share) → k < length ws → HasMade desk input k (get_or ss k s).pass (get_or ss k s).done.items
    × RunsEach input (had (get_or ws k w).queue) (get_or ss k s).done.items × (length (get_or ss k s).done.items ≤ MOST_CALLERS * MOST_SCRIPTS)

-- who made a share's items
seat_made : (desk : DeskView BooksShape) (input : ClearingInput) (k : ℕ) (s : Share) → HasMade desk input k s.pass s.done.items → seat_of s ≡ k
seat_made desk input k s made = ap (λ l. slice_index l 0) made.number_is

-- the first share has run what was left, and the others are as the workers left them
last_done : (desk : DeskView BooksShape) (input : ClearingInput) (ws : List Worker) (shares : List Share)
    → AreShares desk input ws shares → length shares ≡ length ws → desk.seats ≡ length ws → 0 < length ws
    → (left : List ℕ) → ((x : ℕ) → sum_by (λ (worker : Worker). had worker.queue x) ws + times x left ≡ once_below x (length input.callers))
    → (first last : Share) → first ≡ get_or shares 0 first
    → HasMade desk input (seat_of first) last.pass last.done.items → seat_of last ≡ seat_of first
    → ((h more : ℕ → ℕ) → ((x : ℕ) → more x ≡ h x + times x left) → RunsEach input h first.done.items → RunsEach input more last.done.items)
    → AreAllDone desk input (set shares 0 last)
last_done desk input [] shares each count seats some left once first last is made number run = absurd (omega arith)
last_done desk input (w ∷ ws) [] each count seats some left once first last is made number run = absurd (omega arith)
last_done desk input (w ∷ ws) (s ∷ ss) each count seats some left once first last is made number run =
    let more : ℕ → ℕ = λ x. had w.queue x + times x left in
    let sum : (x : ℕ) → sum_by (λ (worker : Worker). had worker.queue x) (w ∷ ws)
    ≡ had w.queue x + sum_by (λ (worker : Worker). had worker.queue x) ws = λ x. sum_by-cons (λ (worker : Worker). had worker.queue x) w ws in
    let counted : CountedShare = record { share = last; had = more } in
    let few_more : (x : ℕ) → more x ≤ 1 = λ x. omega (arith, once x, sum x, once_at_most x (length input.callers)) in
    let ran : RanScripts input more 0 0 last.done.items =
    run (had w.queue) more (λ x. refl) (subst (λ (t : Share). RunsEach input (had w.queue) t.done.items) (sym is) (each 0 w s (omega arith)).1) few_more in
    let mine : seat_of last ≡ 0 = number ∙ ap seat_of is ∙ seat_made desk input 0 s (each 0 w s (omega arith)).0 in
    let many : length (last ∷ ss) ≡ desk.seats = omega (arith, count, seats) in
    record {
      counted_shares = counted ∷ counted_of ws ss;
      are = ap (λ l. last ∷ l) (shares_of_counted ws ss (omega arith));
      numbers = numbered seat_of 0 (last ∷ ss) (seats_at mine) ∙ ap (range_with_len 0) many;
      each = All-cons (IsDone desk input) counted (counted_of ws ss)
          (record { made = subst (λ n. HasMade desk input n last.pass last.done.items) (sym number) made; run = ran })
          (all_counted (IsDone desk input) ws ss (omega arith) (λ k v t lt. let it = each (suc k) v t (omega arith) in record {
            made = subst (λ n. HasMade desk input n (get_or ss k t).pass (get_or ss k t).done.items)
                (sym (seat_made desk input (suc k) (get_or ss k t) it.0)) it.0;
            run = it.1 (λ x. omega (
              arith,
              once x,
              sum x,
              once_at_most x (length input.callers),
              get_or-le-sum_by (λ (worker : Worker). had worker.queue x) ws k v lt,
            ));
          }));
      once = λ x. omega (
        arith,
        once x,
        sum x,
        sum_by-cons (λ (t : CountedShare). t.had x) counted (counted_of ws ss),
        sum_of_counted x ws ss (omega arith),
      );
    }
  where
    seats_at : seat_of last ≡ 0 → (j : ℕ) (d : Share) → j < length (last ∷ ss) → seat_of (get_or (last ∷ ss) j d) ≡ 0 + j
    seats_at mine zero d lt = mine
    seats_at mine (suc j) d lt = seat_made desk input (suc j) (get_or ss j d) (each (suc j) w d (omega (arith, lt, count))).0 ∙ sym (zero-add (suc j))

-- all that the workers leave, as it was gathered
pub record IsGathered (stealers : Stealers) (desk : DeskView BooksShape) (input : ClearingInput) (ws : List Worker) (ps : List PassView)
    (owners : List OwnerOf) (rows : List RowOf) (shares : List Share) : Type 0 where
  pub done : HaveDoneTheirParts stealers desk input ws ps
  pub some : 0 < length ws
  pub owners_are : owners ≡ map own_of ws
  pub rows_are : rows ≡ map row_of ws
  pub passes_are : map (λ (share : Share). share.pass) shares ≡ ps
  pub done_are : map (λ (share : Share). share.done.items) shares ≡ map (λ (worker : Worker). worker.done.items) ws

pub gathered : {C : Type 0} (worker_of : C → Worker) (clients : List C) {stealers : Stealers} {desk : DeskView BooksShape} {input : ClearingInput}
    {ps : List PassView} {owners : List OwnerOf} {rows : List RowOf} {shares : List Share}
    → HaveDoneTheirParts stealers desk input (map worker_of clients) ps → 0 < length clients
    → owners ≡ map (λ c. (worker_of c).queue.own) clients → rows ≡ map (λ c. (worker_of c).queue.passes) clients
    → map (λ (share : Share). share.pass) shares ≡ ps
    → map (λ (share : Share). share.done.items) shares ≡ map (λ c. (worker_of c).done.items) clients
    → IsGathered stealers desk input (map worker_of clients) ps owners rows shares
gathered worker_of clients done some owners_are rows_are passes_are done_are = record {
  done = done;
  some = omega (arith, some, length-map clients worker_of);
  owners_are = owners_are ∙ sym (map-map own_of worker_of clients);
  rows_are = rows_are ∙ sym (map-map row_of worker_of clients);
  passes_are = passes_are;
  done_are = done_are ∙ sym (map-map (λ (worker : Worker). worker.done.items) worker_of clients);
}

module _ {stealers : Stealers} {desk : DeskView BooksShape} {input : ClearingInput} {ws : List Worker} {ps : List PassView}
    {owners : List OwnerOf} {rows : List RowOf} {shares : List Share} (all : IsGathered stealers desk input ws ps owners rows shares) where
  -- every owner may take back its passes, and every row has one for each owner
  pub all_back : All (IsReturning (length rows)) owners × All (λ (row : RowOf). IsWholeRow owners row.items) rows
  all_back =
      let many : length ws ≡ length rows = sym (ap (λ l. length l) all.rows_are ∙ length-map ws row_of) in (
        subst (λ n. All (IsReturning n) owners) many (subst (λ l. All (IsReturning (length ws)) l) (sym all.owners_are)
            (owners_return stealers desk input ws ps all.done)),
        subst (λ (l : List RowOf). All (λ (row : RowOf). IsWholeRow owners row.items) l) (sym all.rows_are)
            (subst (λ (l : List OwnerOf). All (λ (row : RowOf). IsWholeRow l row.items) (map row_of ws)) (sym all.owners_are)
            (rows_whole stealers desk input ws ps all.done)),
      )

  as_many : length shares ≡ length ws
  as_many = sym (length-map shares (λ (share : Share). share.pass)) ∙ ap (λ l. length l) all.passes_are ∙ all.done.count

  all_shares : AreShares desk input ws shares
  all_shares k w s lt =
      let p : PassView = s.pass in
      let it = all.done.each k w p lt in
      let pass : get_or ps k p ≡ (get_or shares k s).pass = ap (λ l. get_or l k p) (sym all.passes_are)
      ∙ get_or-map (λ (share : Share). share.pass) shares k s p (omega (arith, lt, as_many)) in
      let items : (get_or ws k w).done.items ≡ (get_or shares k s).done.items =
      sym (get_or-map (λ (worker : Worker). worker.done.items) ws k w [] lt) ∙ ap (λ l. get_or l k []) (sym all.done_are)
      ∙ get_or-map (λ (share : Share). share.done.items) shares k s [] (omega (arith, lt, as_many)) in (
        subst (λ (x : PassView). HasMade desk input k x (get_or shares k s).done.items) pass
            (subst (λ (l : List Done). HasMade desk input k (get_or ps k p) l) items it.made),
        subst (λ (l : List Done). RunsEach input (had (get_or ws k w).queue) l) items it.run,
        subst (λ (l : List Done). length l ≤ MOST_CALLERS * MOST_SCRIPTS) items it.few,
      )

  a_worker : (l : List Worker) → 0 < length l → Worker
  a_worker [] lt = absurd (omega arith)
  a_worker (x ∷ xs) lt = x

  -- the first share, as it was left
  module _ (first : Share) (is : first ≡ get_or shares 0 first) where
    first_share : HasMade desk input 0 (get_or shares 0 first).pass (get_or shares 0 first).done.items
        × RunsEach input (had (get_or ws 0 (a_worker ws all.some)).queue) (get_or shares 0 first).done.items
        × (length (get_or shares 0 first).done.items ≤ MOST_CALLERS * MOST_SCRIPTS)
    first_share = all_shares 0 (a_worker ws all.some) first all.some

    pub first_made : HasMade desk input (seat_of first) first.pass first.done.items
    first_made =
        let made : HasMade desk input 0 first.pass first.done.items =
        subst (λ (s : Share). HasMade desk input 0 s.pass s.done.items) (sym is) first_share.0 in
        subst (λ n. HasMade desk input n first.pass first.done.items) (sym (seat_made desk input 0 first made)) made

    pub first_few : length first.done.items ≤ MOST_CALLERS * MOST_SCRIPTS
    first_few = subst (λ (s : Share). length s.done.items ≤ MOST_CALLERS * MOST_SCRIPTS) (sym is) first_share.2

  module _ (left0 left : List ℕ) (left_taken : (x : ℕ) → owners_took owners x + rows_stole rows x + times x left ≡ owners_dealt owners x + times x left0)
      (dealt : IsDealtOut (length input.callers) (map (λ (worker : Worker). dealt_to worker.queue) ws) left0) where
    once : (x : ℕ) → sum_by (λ (worker : Worker). had worker.queue x) ws + times x left ≡ once_below x (length input.callers)
    once = each_once stealers desk input ws ps all.done left0 left
        (λ x. subst (λ (y : List OwnerOf × List RowOf). owners_took y.0 x + rows_stole y.1 x + times x left
        ≡ owners_dealt y.0 x + times x left0) (λ i. (all.owners_are i, all.rows_are i)) (left_taken x)) dealt

    pub few_left : IsInput input → length left ≤ MOST_CALLERS
    few_left valid = omega (arith, few_once (length input.callers) left (λ x. omega (arith, once x)), valid.callers.few)

    pub all_done : (first last : Share) → first ≡ get_or shares 0 first
        → HasMade desk input (seat_of first) last.pass last.done.items → seat_of last ≡ seat_of first
        → ((h more : ℕ → ℕ) → ((x : ℕ) → more x ≡ h x + times x left) → RunsEach input h first.done.items → RunsEach input more last.done.items)
        → AreAllDone desk input (set shares 0 last)
    all_done first last is made number run =
        last_done desk input ws shares all_shares as_many all.done.seats all.some left once first last is made number run

-- what was dealt to the owners was dealt to the workers' queues
pub dealt_to_all : {C : Type 0} (queue_of : C → Queue) (callers : ℕ) (clients : List C) (owners : List OwnerOf) (left : List ℕ)
    → map (λ c. (queue_of c).own) clients ≡ owners → 0 < length owners → AreDealtInTurn callers owners left
    → IsDealtOut callers (map (λ c. dealt_to (queue_of c)) clients) left
dealt_to_all queue_of callers clients owners left are some h x = omega (
  arith,
  dealt_all callers owners left some h x,
  ap (λ l. owners_dealt l x) are,
  sum_over (λ (w : OwnerOf). times x (worker_view w).dealt) (λ c. (queue_of c).own) clients,
  sum_over (λ (l : List ℕ). times x l) (λ c. dealt_to (queue_of c)) clients,
)
