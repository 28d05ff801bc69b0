-- What a removal leads to, writes and reads, in every fitting state at once.
use Rattle.txn_tree_map.proofs.Common.{◌≡◌, ℕ, ◌+◌, ◌<◌, ◌⊎◌, inl, inr, true, List, [], ◌∷◌, ◌++◌, slice_get, Some, refl, sym, ap, ◌∙◌, subst, arith, same_Some}
use Rattle.txn_tree_map.proofs.Common.{Read, Trace, after, Begins, Fits, InEach, Leads, fits_begins, KeepsOthers, AppendsOnly, AppendsReads, only_more}
use Rattle.txn_tree_map.proofs.Common.{only_then, sees_more, sees_then, block_at, Lacks, Gives, IsAnyHeadOrIn, has_times, HasMapApart, IsUsedIn, IsOwn, Removes}
use Rattle.txn_tree_map.proofs.Common.{Looks, looks_at, looks_read, looks_wider, leads_back, seen_before, TreeMap, name_of, cells_of, tree_part, IsLink}
use Rattle.txn_tree_map.proofs.Common.{IsPlace, IsKeyOrName, IsFoundAt, ArePair, Joins, IsJoinOwn, CanCut, IsCut, IsHoleOrWord, IsJoinSeen, Writes, Reads}
use Rattle.txn_alloc.proofs.Common.{IsHeadOrFirst, IsMoved}
use Rattle.txn_alloc.proofs.Maps.Parts.{moved_out}
use Rattle.txn_alloc.proofs.Maps.Founds.{given_own, given_seen}
use Rattle.txn_alloc.specs.EntryMaps.{MayReadToRemove}
use Rattle.txn_tree_map.specs.Joins.{CanJoin, Cuts, IsCutOwn, IsCutSeen}
use Rattle.txn_tree_map.proofs.Searches.SearchSteps.{found_key}
use Rattle.txn_tree_map.proofs.Searches.Links.{of_tree, found_place, word_seen, link_seen}
use Rattle.txn_tree_map.proofs.Inserts.InsertCalls.{is_one}
use Rattle.txn_tree_map.proofs.Inserts.Values.{found_used}
use Rattle.txn_tree_map.proofs.Removals.CutSteps.{below_times, found_pair, cut_done, cut_free, cut_lacks, removed, removed_map, written_used}
use Rattle.std.specs.FinSet as set
use Rattle.std.specs.FinMap as entry_map
use Rattle.txn_alloc.specs.FreeLists as lists

-- the two subtrees, by the names that were read
named_pair : {map : TreeMap} {key place b : ℕ} (left right : ℕ) {s : List ℕ} (h : IsFoundAt map key place b s)
    → slice_get s (block_at map.arena b + 2) ≡ Some left → slice_get s (block_at map.arena b + 3) ≡ Some right
    → ArePair map place left right h.left h.right s
named_pair {map} {place} left right {s} h left_there right_there =
    let one : name_of h.left ≡ left = same_Some (name_of h.left) left (sym h.is_at.spelled.0.left_there
    ∙ ap (λ d. slice_get s (block_at map.arena d + 2)) h.is_block ∙ left_there) in
    let two : name_of h.right ≡ right = same_Some (name_of h.right) right (sym h.is_at.spelled.0.right_there
    ∙ ap (λ d. slice_get s (block_at map.arena d + 3)) h.is_block ∙ right_there) in
    subst (λ z. ArePair map place left z h.left h.right s) two
    (subst (λ z. ArePair map place z (name_of h.right) h.left h.right s) one (found_pair h))

named_joins : {map : TreeMap} {key place b left right : ℕ} {s t : List ℕ} (h : IsFoundAt map key place b s)
    → slice_get s (block_at map.arena b + 2) ≡ Some left → slice_get s (block_at map.arena b + 3) ≡ Some right
    → Joins map place left right s t → Joins map place (name_of h.left) (name_of h.right) s t
named_joins {map} {place} {left} {right} {s} {t} h left_there right_there j =
    let w = named_pair left right h left_there right_there in
    subst (λ z. Joins map place (name_of h.left) z s t) (sym w.right_name) (subst (λ z. Joins map place z right s t) (sym w.left_name) j)

-- the value and the names of the subtrees were read
module _ (map : TreeMap) (place b a value left right : ℕ) (n : ℕ) (G : List ℕ → Type 0) (t u v w : Trace)
    (below : b < map.arena.blocks) (is_block : a ≡ block_at map.arena b)
    (one : u ≡ t ++ Read (a + 1) value ∷ []) (two : v ≡ u ++ Read (a + 2) left ∷ []) (three : w ≡ v ++ Read (a + 3) right ∷ []) where
  abbrev ReadAll : List ℕ → Type 0
  ReadAll s = ((slice_get s (a + 1) ≡ Some value) × (slice_get s (a + 2) ≡ Some left)) × (slice_get s (a + 3) ≡ Some right)

  abbrev IsReadAll : List ℕ → ℕ → Type 0
  IsReadAll z d = (d ≡ block_at map.arena b + 1) ⊎ IsKeyOrName map b d

  pub reads_all : Looks n G t w IsReadAll ReadAll
  reads_all =
      looks_read n G t IsReadAll v w (a + 3) right _
      (looks_read n G t IsReadAll u v (a + 2) left _
      (looks_wider n G t u (IsPlace (a + 1)) IsReadAll _ (λ z p d e. inl (e ∙ ap (λ y. y + 1) is_block))
      (looks_at n G t u (a + 1) value one)) two (λ z p. inr (inr (inl (ap (λ y. y + 2) is_block)))))
      three (λ z p. inr (inr (inr (ap (λ y. y + 3) is_block))))

  at_names : (s : List ℕ) → ReadAll s → ((slice_get s (block_at map.arena b + 1) ≡ Some value)
      × (slice_get s (block_at map.arena b + 2) ≡ Some left)) × (slice_get s (block_at map.arena b + 3) ≡ Some right)
  at_names s k = subst (λ z. ((slice_get s (z + 1) ≡ Some value) × (slice_get s (z + 2) ≡ Some left)) × (slice_get s (z + 3) ≡ Some right)) is_block k

  -- the two subtrees, in the state that was read
  pair_there : {s : List ℕ} → Fits n G w s → {key : ℕ} (h : IsFoundAt map key place b (after t s)) → ArePair map place left right h.left h.right (after w s)
  pair_there {s} fit h =
      let there = at_names (after t s) (seen_before n G t w reads_all s fit) in
      subst (ArePair map place left right h.left h.right) (sym (reads_all.same s fit)) (named_pair left right h there.0.1 there.1)

  pub can_join : InEach n G t (CanCut map place b) → InEach n G w (CanJoin map place left right)
  can_join can = record {
    at = λ s fit.
        let h = (can.at s (fits_begins n G t w s reads_all.begins fit)).found in
        record { first = h.left; second = h.right; pair = pair_there fit h };
  }

  module _ {x : Trace} (begins : Begins w x) where
    cuts_leads : Leads n G w x (Joins map place left right) → Leads n G t x (Cuts map place b value)
    cuts_leads joins = record {
      at = λ s fit key h.
          let l = reads_all in
          let there = at_names (after t s) (seen_before n G t w l s (fits_begins n G w x s begins fit)) in
          cut_done h value there.0.0
          (named_joins h there.0.1 there.1
          ((leads_back n G t w l x (Joins map place left right) begins joins).at s fit));
    }

    cuts_own : Writes n G w x (IsJoinOwn map place left right) → Writes n G t x (IsCutOwn map place b)
    cuts_own own s fit =
        let fit_w = fits_begins n G w x s begins fit in
        let mine : ℕ → Type 0 = IsCutOwn map place b (after t s) (after x s) in
        only_then mine t w x (only_more (λ d. ⊥) mine t w (λ d k. absurd k) reads_all.writes)
        (only_more (IsJoinOwn map place left right (after w s) (after x s)) mine w x (λ d k key h. k h.left h.right (pair_there fit_w h)) (own s fit))

    cuts_seen : Reads n G w x (IsJoinSeen map place left right) → Reads n G t x (IsCutSeen map place b)
    cuts_seen seen s fit =
        let fit_w = fits_begins n G w x s begins fit in
        let mine : ℕ → Type 0 = IsCutSeen map place b (after t s) (after x s) in
        sees_then mine t w x (sees_more (IsReadAll (after t s)) mine t w (λ d k. inl k) (reads_all.reads s fit_w))
        (sees_more (IsJoinSeen map place left right (after w s) (after x s)) mine w x (λ d k. inr (λ key h. k h.left h.right (pair_there fit_w h)))
        (seen s fit))

    -- what the call leads to, writes and reads
    pub cuts_all : (Leads n G w x (Joins map place left right) → Leads n G t x (Cuts map place b value))
        × (Writes n G w x (IsJoinOwn map place left right) → Writes n G t x (IsCutOwn map place b))
        × (Reads n G w x (IsJoinSeen map place left right) → Reads n G t x (IsCutSeen map place b))
    cuts_all = (cuts_leads, cuts_own, cuts_seen)

-- the key was found, its cell cut out, and its block given back
module _ {map : TreeMap} {key place b : ℕ} (value : ℕ) {n : ℕ} {G : List ℕ → Type 0} {t u v : Trace}
    (order : InEach n G t (HasMapApart (tree_part map))) (l : Looks n G t u (IsLink map) (IsFoundAt map key place b))
    (begins : Begins u v) (cuts : Leads n G u v (Cuts map place b value)) where
  fits_u : {s : List ℕ} → Fits n G v s → Fits n G u s
  fits_u {s} fit = fits_begins n G u v s begins fit

  order_start : {s : List ℕ} → Fits n G v s → HasMapApart (tree_part map) (after t s)
  order_start {s} fit = order.at s (fits_begins n G t u s l.begins (fits_u fit))

  cut_start : {s : List ℕ} → Fits n G v s → IsCut map key place b value (after t s) (after v s)
  cut_start {s} fit = (leads_back n G t u l v (Cuts map place b value) begins cuts).at s fit key (seen_before n G t u l s (fits_u fit))

  pub order_cut : InEach n G v (lists.IsInOrder map.arena)
  order_cut = record {
    at = λ s fit.
        let o = order_start fit in
        (o.free, cut_free o.holds (cut_start fit));
  }

  pub lacks_cut : InEach n G v (Lacks map.arena b)
  lacks_cut = record {
    at = λ s fit.
        let o = order_start fit in
        cut_lacks o.holds (cut_start fit);
  }

  module _ {w : Trace} (bw : Begins v w) where
    pub removes_some : Leads n G v w (Gives map.arena b) → Leads n G v w (KeepsOthers (IsAnyHeadOrIn map.arena b))
        → Leads n G t w (Removes (tree_part map) key (Some value))
    removes_some gives keeps = record {
      at = λ s fit f used free hold.
          removed hold
          (cut_start (fits_begins n G v w s bw fit)) (gives.at s fit) (keeps.at s fit);
    }

    module _ (keeps : Leads n G v w (KeepsOthers (IsAnyHeadOrIn map.arena b))) where
      fits_v : {s : List ℕ} → Fits n G w s → Fits n G v s
      fits_v {s} fit = fits_begins n G v w s bw fit

      start : {s : List ℕ} → Fits n G w s → HasMapApart (tree_part map) (after t s)
      start fit = order_start (fits_v fit)

      cut_of : {s : List ℕ} (fit : Fits n G w s) → IsCut map key place b value (after t s) (after v s)
      cut_of fit = cut_start (fits_v fit)

      uses_start : {s : List ℕ} (fit : Fits n G w s) (d : ℕ) → set.contains (start fit).used d ≡ true → IsUsedIn (tree_part map) (after t s) d
      uses_start fit d k = let o = start fit in (o.entries, o.used, o.holds.map, k)

      used_b : {s : List ℕ} (fit : Fits n G w s) → IsUsedIn (tree_part map) (after t s) b
      used_b fit = let o = start fit in uses_start fit b (found_used 0 (cut_of fit).before o.holds.map)

      -- the block that was given back is used no more
      moved_back : {s : List ℕ} → Fits n G w s → IsMoved (tree_part map) (after t s) (after w s) b
      moved_back {s} fit =
          let o = start fit in
          moved_out (tree_part map) (is_one map) (after t s) (after w s) (entry_map.remove o.entries key) o.used b (used_b fit)
          (removed_map o.holds (cut_of fit) (keeps.at s fit))

      pub owns_removed : Writes n G u v (IsCutOwn map place b)
          → AppendsOnly v w (IsHeadOrFirst map.arena b)
          → Writes n G t w (IsOwn (tree_part map) key)
      owns_removed own given s fit =
          let mine : ℕ → Type 0 = IsOwn (tree_part map) key (after t s) (after w s) in
          let o = start fit in
          let c = cut_of fit in
          let first : (a : ℕ) → IsCutOwn map place b (after t s) (after v s) a → mine a =
          λ a k. elim (written_used o.holds c a (k key c.before)) [
            | inl e ↦ inl e
            | inr q ↦ inr (inl (q.0, inl (uses_start fit q.0 q.1), q.2))
          ] in
          let fit_u : Fits n G u s = fits_u (fits_v fit) in
          only_then mine t u w (only_more (λ a. ⊥) mine t u (λ a k. absurd k) l.writes)
          (only_then mine u v w (only_more (IsCutOwn map place b (after t s) (after v s)) mine u v first
          (subst (λ z. AppendsOnly u v (IsCutOwn map place b z (after v s))) (l.same s fit_u) (own s (fits_v fit))))
          (only_more (IsHeadOrFirst map.arena b) mine v w (given_own (tree_part map) key value b (after t s) (after w s)
          (used_b fit) (moved_back fit)) given))

      pub sees_removed : Reads n G u v (IsCutSeen map place b) → AppendsReads v w (IsHeadOrFirst map.arena b)
          → Reads n G t w (MayReadToRemove (tree_part map) key (Some value))
      sees_removed seen names s fit =
          let may : ℕ → Type 0 = MayReadToRemove (tree_part map) key (Some value) (after t s) (after w s) in
          let o = start fit in
          let h : IsFoundAt map key place b (after t s) = (cut_of fit).before in
          let used = used_b fit in
          let link : (a : ℕ) → IsLink map (after t s) a → may a = λ a k. inl (link_seen o.holds.map key (λ d. d ≡ key) a k) in
          let below : (a : ℕ) → IsHoleOrWord map place (cells_of h.left ++ cells_of h.right) a → may a = λ a k. elim k [
            | inl e ↦ link a (subst (IsLink map (after t s)) (sym e) (found_place h))
            | inr q ↦
                inl (word_seen o.holds.map key (λ d. d ≡ key) q.0 a
                (of_tree h.is_at q.0
                (omega (arith, has_times q.0 (cells_of h.left ++ cells_of h.right) q.1, below_times h q.0))) q.2)
          ] in
          let step : (a : ℕ) → IsCutSeen map place b (after t s) (after v s) a → may a = λ a k. elim k [
            | inl m ↦ elim m [
              | inl e ↦ inl (inr (b, used, inr (inr (e, (key, refl, found_key h)))))
              | inr d ↦ inl (inr (b, used, elim d [ inl e ↦ inl e | inr q ↦ inr (inl q) ]))
            ]
            | inr f ↦ below a (f key h)
          ] in
          let fit_u : Fits n G u s = fits_u (fits_v fit) in
          sees_then may t u w (sees_more (IsLink map (after t s)) may t u link (l.reads s fit_u))
          (sees_then may u v w (sees_more (IsCutSeen map place b (after t s) (after v s)) may u v step
          (subst (λ z. AppendsReads u v (IsCutSeen map place b z (after v s))) (l.same s fit_u) (seen s (fits_v fit))))
          (sees_more (IsHeadOrFirst map.arena b) may v w (given_seen (tree_part map) key value b (after t s) (after w s) used (moved_back fit)) names))
