-- What holds in every fitting state at once, as items are pushed and popped.
use Rattle.txn_ring.proofs.Common.{◌≡◌, ◌≢◌, ℕ, ◌+◌, ◌*◌, ◌%◌, ◌<◌, ◌≤◌, false, true, List, [], ◌∷◌, ◌++◌, length, slice_get, slice_set, Option, Some, None}
use Rattle.txn_ring.proofs.Common.{sym, ap, ◌∙◌, subst, arith, same_Some, Begins, Ring, place_at, HasItem, QueueHolds, IsInOrder, IsFull, IsEmpty, HasCount}
use Rattle.txn_ring.proofs.Common.{Pushes, Pops, TakesFront}
use Rattle.history_model.proofs.Common.{Trace}
use Rattle.txn_words.proofs.Common.{after, Fits, SomeFits, InEach, Leads, length-after, fits_begins, EndsWithWrite}
use Rattle.std.proofs.Common.{◌^◌, Bool}
use Rattle.history_model.specs.declared.event.Event.TheVariants.{Read}
use Rattle.history_model.proofs.Traces.FittingLaws.{Found, found}
use Rattle.txn_words.proofs.JobLaws.{WasRead, was_read, fits_read, was_put}
use Rattle.txn_words.proofs.Steps.{fits_write_end}
use Rattle.txn_ring.proofs.Items.{pushed, popped, pushed_words, popped_words}

-- where a ring lies among n words
pub record Lies (ring : Ring) (n : ℕ) : Type 0 where
  pub some : 0 < ring.capacity
  pub whole : ring.at + 2 + 2 * ring.capacity ≤ n
  pub small : n ≤ 2 ^ 64

module _ (ring : Ring) (n : ℕ) (G : List ℕ → Type 0) (t : Trace) where
  pub lies : InEach n G t (IsInOrder ring) → SomeFits n G t → Lies ring n
  lies order some =
      let s : List ℕ = after t some.0 in
      let h : QueueHolds ring s (order.at some.0 some.1).0 = (order.at some.0 some.1).1 in
      let long : length s ≡ n = length-after t some.0 ∙ some.1.count in
      record { some = omega (arith, h.below); whole = omega (arith, h.laid_out.whole); small = omega (arith, h.laid_out.places) }

  module _ (u : Trace) (count : ℕ) (read : u ≡ t ++ Read (ring.at + 1) count ∷ []) where
    counted : (s : List ℕ) → Fits n G u s → Found n G t u (ring.at + 1) count s
    counted = found n G t u (ring.at + 1) count read

    -- the number that was read is that of the items
    pub is_count : (s : List ℕ) → Fits n G u s → (items : List (ℕ × ℕ)) → QueueHolds ring (after t s) items → length items ≡ count
    is_count s fit items h = same_Some (length items) count (sym h.count_word ∙ (counted s fit).there)

    -- nothing changed
    pub same : Leads n G t u (λ before after. after ≡ before)
    same = record { at = λ s fit. (counted s fit).same }

    pub has_count : InEach n G u (HasCount ring count)
    has_count = record { at = λ s fit items h. is_count s fit items (subst (λ z. QueueHolds ring z items) (counted s fit).same h) }

    pub found_full : count ≡ ring.capacity → InEach n G t (IsInOrder ring) → Leads n G t u (λ before after. IsFull ring before)
    found_full e order = record {
      at = λ s fit.
          let o : IsInOrder ring (after t s) = order.at s (counted s fit).fits in
          (o.0, o.1, is_count s fit o.0 o.1 ∙ e);
    }

    pub found_empty : count ≡ 0 → InEach n G t (IsInOrder ring) → Leads n G t u (λ before after. IsEmpty ring before)
    found_empty e order = record {
      at = λ s fit.
          let o : IsInOrder ring (after t s) = order.at s (counted s fit).fits in
          at (after t s) o.0 (is_count s fit o.0 o.1 ∙ e) o.1;
    }
      where
        at : (s : List ℕ) (items : List (ℕ × ℕ)) → length items ≡ 0 → QueueHolds ring s items → QueueHolds ring s []
        at s [] z h = h
        at s (x ∷ items) z h = absurd (omega (arith, z))

    -- if there was room, not every state was full
    pub not_full : {A : Type 0} (w : Trace) → Begins u w → SomeFits n G w → count ≢ ring.capacity → Leads n G t w (λ before after. IsFull ring before) → A
    not_full w begins some ne full =
        let k : IsFull ring (after t some.0) = full.at some.0 some.1 in
        absurd (ne (sym (is_count some.0 (fits_begins n G u w some.0 begins some.1) k.0 k.1) ∙ k.2))

    -- if an item was there, not every state was empty
    pub not_empty : {A : Type 0} (w : Trace) → Begins u w → SomeFits n G w → count ≢ 0 → Leads n G t w (λ before after. IsEmpty ring before) → A
    not_empty w begins some ne empty =
        absurd (ne (sym (is_count some.0 (fits_begins n G u w some.0 begins some.1) [] (empty.at some.0 some.1))))

    module _ (v : Trace) (front : ℕ) (read_front : v ≡ u ++ Read ring.at front ∷ []) where
      -- both reads at once, of the words before them
      seen : (s : List ℕ) → Fits n G v s → Found n G t v ring.at front s
      seen s fit =
          let first : Found n G t u (ring.at + 1) count s = counted s (fits_read n G u v ring.at front s read_front fit) in
          let second : WasRead ring.at front (after t s) (after v s) = was_read n G u v ring.at front s (after t s) first.same read_front fit in
          record { there = second.value; same = second.same; fits = first.fits }

      seen_count : (s : List ℕ) → Fits n G v s → slice_get (after t s) (ring.at + 1) ≡ Some count
      seen_count s fit = (counted s (fits_read n G u v ring.at front s read_front fit)).there

      -- the front is a place, and there are no more items than places
      pub bounds : InEach n G t (IsInOrder ring) → SomeFits n G v → (front < ring.capacity) × (count ≤ ring.capacity)
      bounds order some =
          let f : Found n G t v ring.at front some.0 = seen some.0 some.1 in
          let o : IsInOrder ring (after t some.0) = order.at some.0 f.fits in
          let h : QueueHolds ring (after t some.0) o.0 = o.1 in (
            subst (λ (k : ℕ). k < ring.capacity) (same_Some h.front front (sym h.front_word ∙ f.there)) h.below,
            subst (λ (k : ℕ). k ≤ ring.capacity) (same_Some (length o.0) count (sym h.count_word ∙ seen_count some.0 some.1)) h.room,
          )

      -- an item was pushed
      pub pushes : (w1 w2 w3 : Trace) (item : ℕ × ℕ) (p a b x : ℕ) → p ≡ (front + count) % ring.capacity
          → a ≡ place_at ring p → b ≡ place_at ring p + 1 → x ≡ count + 1
          → EndsWithWrite v w1 a item.0 → EndsWithWrite w1 w2 b item.1 → EndsWithWrite w2 w3 (ring.at + 1) x
          → count < ring.capacity → Leads n G t w3 (Pushes ring item true)
      pushes w1 w2 w3 item p a b x is_p is_a is_b is_x ends1 ends2 ends3 lt = record {
        at = λ s fit items h.
            let fit2 : Fits n G w2 s = fits_write_end n G w2 w3 (ring.at + 1) x s ends3 fit in
            let fit1 : Fits n G w1 s = fits_write_end n G w1 w2 b item.1 s ends2 fit2 in
            let fit0 : Fits n G v s = fits_write_end n G v w1 a item.0 s ends1 fit1 in
            let f : Found n G t v ring.at front s = seen s fit0 in
            let is_a' : a ≡ place_at ring ((front + count) % ring.capacity) = is_a ∙ ap (place_at ring) is_p in
            let is_b' : b ≡ place_at ring ((front + count) % ring.capacity) + 1 = is_b ∙ ap (λ k. place_at ring k + 1) is_p in
            let place : ℕ = place_at ring ((front + count) % ring.capacity) in
            let first : after w1 s ≡ slice_set (after t s) place item.0 =
            was_put v w1 a item.0 s (after t s) f.same ends1 ∙ ap (λ k. slice_set (after t s) k item.0) is_a' in
            let second : after w2 s ≡ slice_set (slice_set (after t s) place item.0) (place + 1) item.1 =
            was_put w1 w2 b item.1 s _ first ends2 ∙ ap (λ k. slice_set (slice_set (after t s) place item.0) k item.1) is_b' in
            let third : after w3 s ≡ pushed_words ring (after t s) ((front + count) % ring.capacity) item count =
            was_put w2 w3 (ring.at + 1) x s _ second ends3
            ∙ ap (λ k. slice_set (slice_set (slice_set (after t s) place item.0) (place + 1) item.1) (ring.at + 1) k) is_x in
            subst (λ z. QueueHolds ring z (items ++ item ∷ [])) (sym third) (pushed ring (after t s) items item count front (seen_count s fit0) f.there lt h);
      }

      -- the front was popped
      pub pops : (r1 r2 w1 w2 : Trace) (item : ℕ × ℕ) (a b f x : ℕ) → a ≡ place_at ring front
          → b ≡ place_at ring front + 1 → f ≡ (front + 1) % ring.capacity → count ≡ x + 1
          → r1 ≡ v ++ Read a item.0 ∷ [] → r2 ≡ r1 ++ Read b item.1 ∷ [] → EndsWithWrite r2 w1 ring.at f
          → EndsWithWrite w1 w2 (ring.at + 1) x → Leads n G t w2 (Pops ring (Some item))
      pops r1 r2 w1 w2 item a b f x is_a is_b is_f is_x read1 read2 ends1 ends2 = record {
        at = λ s fit items h.
            let fit_w1 : Fits n G w1 s = fits_write_end n G w1 w2 (ring.at + 1) x s ends2 fit in
            let fit_r2 : Fits n G r2 s = fits_write_end n G r2 w1 ring.at f s ends1 fit_w1 in
            let fit_r1 : Fits n G r1 s = fits_read n G r1 r2 b item.1 s read2 fit_r2 in
            let k : Found n G t v ring.at front s = seen s (fits_read n G v r1 a item.0 s read1 fit_r1) in
            let first : WasRead a item.0 (after t s) (after r1 s) = was_read n G v r1 a item.0 s (after t s) k.same read1 fit_r1 in
            let second : WasRead b item.1 (after t s) (after r2 s) = was_read n G r1 r2 b item.1 s (after t s) first.same read2 fit_r2 in
            let here : HasItem ring (after t s) front item = record {
              first = ap (slice_get (after t s)) (sym is_a) ∙ first.value;
              second = ap (slice_get (after t s)) (sym is_b) ∙ second.value;
            } in
            let moved : after w1 s ≡ slice_set (after t s) ring.at ((front + 1) % ring.capacity) =
            was_put r2 w1 ring.at f s (after t s) second.same ends1 ∙ ap (slice_set (after t s) ring.at) is_f in
            let last : after w2 s ≡ popped_words ring (after t s) front x = was_put w1 w2 (ring.at + 1) x s _ moved ends2 in
            let is_count : slice_get (after t s) (ring.at + 1) ≡ Some (x + 1)
            = seen_count s (fits_read n G v r1 a item.0 s read1 fit_r1) ∙ ap Some is_x in
            subst (λ z. TakesFront ring item z items) (sym last) (popped ring (after t s) items item x front is_count k.there here h);
      }

-- what each call leaves
pub order_pushed : (ring : Ring) (item : ℕ × ℕ) (answer : Bool) (x y : List ℕ) → IsInOrder ring x → Pushes ring item answer x y → IsInOrder ring y
order_pushed ring item true x y i pushes = (i.0 ++ item ∷ [], pushes i.0 i.1)
order_pushed ring item false x y i e = subst (IsInOrder ring) (sym e) i

pub order_popped : (ring : Ring) (answer : Option (ℕ × ℕ)) (x y : List ℕ) → IsInOrder ring x → Pops ring answer x y → IsInOrder ring y
order_popped ring None x y i e = subst (IsInOrder ring) (sym e) i
order_popped ring (Some item) x y i pops = let k : TakesFront ring item y i.0 = pops i.0 i.1 in (k.rest, k.left)

pub order_same : (ring : Ring) (x y : List ℕ) → IsInOrder ring x → y ≡ x → IsInOrder ring y
order_same ring x y i e = subst (IsInOrder ring) (sym e) i
