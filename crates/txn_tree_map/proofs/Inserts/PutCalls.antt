-- What the call that puts a new cell into the tree leads to, in every fitting state at once.
use Rattle.txn_tree_map.proofs.Common.{◌≡◌, ℕ, ◌+◌, ◌<◌, List, length, slice_set, inl, inr, refl, sym, ap, ◌∙◌, subst, arith, Trace, after, Begins, Fits}
use Rattle.txn_tree_map.proofs.Common.{SomeFits, InEach, Leads, length-after, fits_begins, EndsWithWrite, after_write_end, fits_write_end, only_write}
use Rattle.txn_tree_map.proofs.Common.{only_then, only_more, sees_write, sees_then, sees_more, block_at, Looks, seen_before, Writes, Reads, TreeMap, Leaf}
use Rattle.txn_tree_map.proofs.Common.{place_at_end, IsLink, IsSeat, IsWhole, CanSplit, Splits, IsSplitOwn, CanPut, IsPut, IsPutOwn, IsSplitSeen, IsPutSeen}
use Rattle.txn_tree_map.proofs.Held.Places.{at_within}
use Rattle.txn_tree_map.proofs.Inserts.PutSteps.{put_whole, put_words, put_done, name_own, word_own, place_own}
use Rattle.txn_tree_map.proofs.Searches.Links.{at_link}

module _ {map : TreeMap} {key : ℕ} (value : ℕ) {block place name : ℕ} {n : ℕ} {G : List ℕ
    → Type 0} {t u : Trace} (l : Looks n G t u (IsLink map) (IsSeat map key place name)) (order : InEach n G t (CanPut map key block)) where
  can_before : {s : List ℕ} → Fits n G u s → CanPut map key block (after t s)
  can_before {s} fit = order.at s (fits_begins n G t u s l.begins fit)

  seat_before : {s : List ℕ} → Fits n G u s → IsSeat map key place name (after t s)
  seat_before {s} fit = seen_before n G t u l s fit

  -- the seat's word is one of the list
  pub seat_within : SomeFits n G u → place < n
  seat_within some =
      let s : List ℕ = after u some.0 in
      let long : length s ≡ n = length-after u some.0 ∙ some.1.count in
      let h = l.holds some.0 some.1 in
      omega (arith, at_within h.is_at, h.at)

  module _ (a m : ℕ) (v w : Trace) (is_block : a ≡ block_at map.arena block) (one : EndsWithWrite u v a key) (two : EndsWithWrite v w (a + 1) value) where
    fits_u : {s : List ℕ} → Fits n G w s → Fits n G u s
    fits_u {s} fit = fits_write_end n G u v a key s one (fits_write_end n G v w (a + 1) value s two fit)

    written : {s : List ℕ} (fit : Fits n G w s)
        → after w s ≡ slice_set (slice_set (after t s) (block_at map.arena block) key) (block_at map.arena block + 1) value
    written {s} fit = after_write_end v w (a + 1) value s two
        ∙ ap (λ z. slice_set z (a + 1) value) (after_write_end u v a key s one ∙ ap (λ z. slice_set z a key) (l.same s (fits_u fit)))
        ∙ ap (λ z. slice_set (slice_set (after t s) z key) (z + 1) value) is_block

    pub can_split : InEach n G w (CanSplit map key block name)
    can_split = record {
      at = λ s fit.
          let seat = seat_before (fits_u fit) in
          subst (CanSplit map key block name) (sym (written fit))
          (record { tree = seat.rest; whole = put_whole value (can_before (fits_u fit)) seat });
    }

    module _ {x : Trace} (y : Trace) (begins : Begins w x) (split : Leads n G w x (Splits map key block name)) (is_name : m
        ≡ block + 1) (three : EndsWithWrite x y place m) where
      fits_x : {s : List ℕ} → Fits n G y s → Fits n G x s
      fits_x {s} fit = fits_write_end n G x y place m s three fit

      fits_w : {s : List ℕ} → Fits n G y s → Fits n G w s
      fits_w {s} fit = fits_begins n G w x s begins (fits_x fit)

      put_leads : Leads n G t y (IsPut map key value block)
      put_leads = record {
        at = λ s fit.
            let fit_u : Fits n G u s = fits_u (fits_w fit) in
            let seat = seat_before fit_u in
            let done : Splits map key block name (slice_set (slice_set (after t s) (block_at map.arena block) key)
            (block_at map.arena block + 1) value) (after x s) =
            subst (λ z. Splits map key block name z (after x s)) (written (fits_w fit)) (split.at s (fits_x fit)) in
            let last : after y s ≡ put_words value (can_before fit_u) seat done =
            after_write_end x y place m s three ∙ ap (λ z. slice_set (after x s) z m) seat.at
            ∙ ap (slice_set (after x s) (place_at_end map.arena map.root seat.path)) is_name in
            subst (IsPut map key value block (after t s)) (sym last)
            (put_done value (can_before fit_u) seat done);
      }

      put_own : Writes n G w x (IsSplitOwn map key block name) → Writes n G t y (IsPutOwn map key block)
      put_own own s fit =
          let fit_u : Fits n G u s = fits_u (fits_w fit) in
          let seat = seat_before fit_u in
          let mine : ℕ → Type 0 = IsPutOwn map key block (after t s) (after y s) in
          let first : mine a = λ can. inr (block, inl refl, omega arith) in
          let second : mine (a + 1) = λ can. inr (block, inl refl, omega arith) in
          let third : (d : ℕ) → IsSplitOwn map key block name (after w s) (after x s) d → mine d = λ d k can.
          name_own value can seat
          (k seat.rest (subst (IsWhole map key block name seat.rest) (sym (written (fits_w fit)))
          (put_whole value can seat))) in
          let last : mine place = λ can. place_own value can seat in
          only_then mine t u y (only_more (λ d. ⊥) mine t u (λ d k. absurd k) l.writes)
          (only_then mine u v y (only_write mine u v a key one first)
          (only_then mine v w y (only_write mine v w (a + 1) value two second)
          (only_then mine w x y (only_more (IsSplitOwn map key block name (after w s) (after x s)) mine w x third
          (own s (fits_x fit))) (only_write mine x y place m three last))))

      put_seen : Reads n G w x (IsSplitSeen map key block name) → Reads n G t y (IsPutSeen map key block)
      put_seen reads s fit =
          let fit_u : Fits n G u s = fits_u (fits_w fit) in
          let seat = seat_before fit_u in
          let mine : ℕ → Type 0 = IsPutSeen map key block (after t s) (after y s) in
          let link : (d : ℕ) → IsLink map (after t s) d → mine d =
          λ d k can. elim k [ inl e ↦ inl e | inr q ↦ inr (inr (q.0, q.1 can.missing.path Leaf can.missing.is_at, q.2)) ] in
          let first : mine a = λ can. inr (inl (omega arith)) in
          let second : mine (a + 1) = λ can. inr (inl (omega arith)) in
          let third : (d : ℕ) → IsSplitSeen map key block name (after w s) (after x s) d → mine d = λ d k can.
          word_own value can seat
          (k seat.rest (subst (IsWhole map key block name seat.rest) (sym (written (fits_w fit)))
          (put_whole value can seat))) in
          let last : mine place = link place (subst (IsLink map (after t s)) (sym seat.at) (at_link seat.is_at)) in
          sees_then mine t u y (sees_more (IsLink map (after t s)) mine t u link (l.reads s fit_u))
          (sees_then mine u v y (sees_write mine u v a key one first)
          (sees_then mine v w y (sees_write mine v w (a + 1) value two second)
          (sees_then mine w x y (sees_more (IsSplitSeen map key block name (after w s) (after x s)) mine w x third
          (reads s (fits_x fit))) (sees_write mine x y place m three last))))

      -- what the call leads to, writes and reads
      pub put_all : Leads n G t y (IsPut map key value block)
          × (Writes n G w x (IsSplitOwn map key block name) → Writes n G t y (IsPutOwn map key block))
          × (Reads n G w x (IsSplitSeen map key block name) → Reads n G t y (IsPutSeen map key block))
      put_all = (put_leads, put_own, put_seen)
