-- What the calls that join two trees lead to, in every fitting state at once.
use Rattle.txn_tree_map.proofs.Common.{◌≡◌, ◌≢◌, ℕ, ◌+◌, ◌^◌, ◌<◌, ◌≤◌, List, [], ◌∷◌, ◌++◌, length, slice_get, Some, ◌⊎◌, inl, inr, refl, sym, ◌∙◌, subst}
use Rattle.txn_tree_map.proofs.Common.{arith, Read, Trace, after, Begins, SomeFits, InEach, Leads, length-after, fits_begins, EndsWithWrite, AppendsOnly}
use Rattle.txn_tree_map.proofs.Common.{AppendsReads, after_write_end, fits_write_end, only_read, only_write, only_then, only_more, sees_read, sees_write}
use Rattle.txn_tree_map.proofs.Common.{sees_then, sees_more, Looks, block_at, looks_at, looks_read, looks_wider, each_looked, seen_before, leads_back}
use Rattle.txn_tree_map.proofs.Common.{laid_block, Writes, Reads, TreeMap, Tree, priority_of, cells_of, Hangs, AreWithin, IsHoleOrName, ArePair, IsJoined}
use Rattle.txn_tree_map.proofs.Common.{IsGathered, Joins, IsJoinOwn, IsHoleOrWord, IsJoinSeen, Cell, times_has, IsPlace, IsKeyOrName, IsAnyWord}
use Rattle.txn_tree_map.specs.Joins.{CanGoOn, JoinsOne, IsPlaceOrTop}
use Rattle.txn_tree_map.proofs.Held.Trees.{one_tree}
use Rattle.txn_tree_map.proofs.Searches.Links.{top_count}
use Rattle.txn_tree_map.proofs.Held.Priorities.{priorities_differ}
use Rattle.txn_tree_map.proofs.Removals.JoinSteps.{joined_times, joined_within, joined_own, joined_laid, joined_left_below, joined_right_below, tops_differ}
use Rattle.txn_tree_map.proofs.Removals.JoinSteps.{joined_left, joined_right, gathered_own, gathered_within, joins_end}

module _ (map : TreeMap) (place left_rest right_rest : ℕ) where
  pub can_go_on_within : {s : List ℕ} (b : ℕ) → CanGoOn map place left_rest right_rest s → b < map.arena.blocks
      → (place < length s) × (block_at map.arena b + 4 ≤ length s)
  can_go_on_within b h lt = (
    joined_within h.joined,
    (joined_laid h.joined).arena.blocks b lt,
  )

  pub can_go_on_below : {s : List ℕ} → CanGoOn map place left_rest right_rest s
      → ((b : ℕ) → left_rest ≡ b + 1 → b < map.arena.blocks) × ((b : ℕ) → right_rest ≡ b + 1 → b < map.arena.blocks)
  can_go_on_below h = (
    joined_left_below h.joined,
    joined_right_below h.joined,
  )

  -- the keys of both tops are read
  module _ (t u : Trace) {v : Trace} (b d j k : ℕ) (one : u ≡ t ++ Read (block_at map.arena b) j ∷ []) (two : v ≡ u ++ Read (block_at map.arena d)
      k ∷ []) where
    pub tops_look : (n : ℕ) (G : List ℕ → Type 0)
        → Looks n G t v IsAnyWord (λ s. (slice_get s (block_at map.arena b) ≡ Some j) × (slice_get s (block_at map.arena d) ≡ Some k))
    tops_look n G = looks_read n G t IsAnyWord u v (block_at map.arena d) k _
        (looks_wider n G t u (IsPlace (block_at map.arena b)) IsAnyWord _ (λ z p a e. tt) (looks_at n G t u (block_at map.arena b) j one)) two (λ z p. tt)

    pub tops_within : {n : ℕ} {G : List ℕ → Type 0} (e i : ℕ) → e < map.arena.blocks → i < 4 → InEach n G t (CanGoOn map place left_rest right_rest)
        → InEach n G v (AreWithin place (block_at map.arena e + i))
    tops_within {n} {G} e i lt small can = record {
      at = λ s fit.
          let k = can_go_on_within e ((each_looked n G t v (tops_look n G) _ can).at s fit) lt in
          record { hole_in = k.0; inner_in = omega (arith, k.1) };
    }

    module _ {w : Trace} (left_is : left_rest ≡ b + 1) (right_is : right_rest ≡ d + 1) where
      -- what is read and written until one of them is hung
      pub hung_own : AppendsOnly v w (λ a. a ≡ place) → AppendsOnly t w (λ a. a ≡ place)
      hung_own frame =
          let own : ℕ → Type 0 = λ a. a ≡ place in
          only_then own t u w (only_read own t u _ j one) (only_then own u v w (only_read own u v _ k two) frame)

      pub hung_seen : (e a : ℕ) → (left_rest ≡ e + 1) ⊎ (right_rest ≡ e + 1) → IsKeyOrName map e a → AppendsReads v w (λ z. (z ≡ place) ⊎ (z ≡ a))
          → AppendsReads t w (IsPlaceOrTop map place left_rest right_rest)
      hung_seen e a top name reads =
          let seen : ℕ → Type 0 = IsPlaceOrTop map place left_rest right_rest in
          sees_then seen t u w (sees_read seen t u _ j one (inr (b, inl left_is, inl refl)))
          (sees_then seen u v w (sees_read seen u v _ k two (inr (d, inr right_is, inl refl)))
          (sees_more (λ z. (z ≡ place) ⊎ (z ≡ a)) seen v w (λ z m. elim m [ inl q ↦ inl q | inr q ↦ inr (e, top, rw q name) ]) reads))

      module _ {n next : ℕ} {G : List ℕ → Type 0} (begins : Begins v w) where
        -- the left top was hung
        pub joins_left : priority_of k < priority_of j → Leads n G v w (Hangs place left_rest (block_at map.arena b + 3) next)
            → Leads n G t w (JoinsOne map place left_rest right_rest (block_at map.arena b + 3) next right_rest)
        joins_left lt hangs = record {
          at = λ s fit hole left right turns start h.
              let look = tops_look n G in
              let there = seen_before n G t v look s (fits_begins n G v w s begins fit) in
              joined_left h b d j k left_is right_is there.0 there.1 lt ((leads_back n G t v look w _ begins hangs).at s fit);
        }

        -- the right top was hung
        pub joins_right : j < 2 ^ 64 → k < 2 ^ 64 → (priority_of k < priority_of j → ⊥) → Leads n G v w (Hangs place right_rest (block_at map.arena d
            + 2) next)
            → Leads n G t w (JoinsOne map place left_rest right_rest (block_at map.arena d + 2) left_rest next)
        joins_right low_j low_k le hangs = record {
          at = λ s fit hole left right turns start h.
              let look = tops_look n G in
              let there = seen_before n G t v look s (fits_begins n G v w s begins fit) in
              let ne : priority_of j ≢ priority_of k =
              λ e. omega (arith, priorities_differ j k low_j low_k e, tops_differ h b d j k left_is right_is there.0 there.1) in
              joined_right h b d j k left_is right_is there.0 there.1 (omega arith) ((leads_back n G t v look w _ begins hangs).at s fit);
        }

-- the block of a top is within the words
pub gap_block : {map : TreeMap} {place left right n : ℕ} {G : List ℕ → Type 0} {t : Trace} → InEach n G t (CanGoOn map place left right)
    → SomeFits n G t → (b : ℕ) → b < map.arena.blocks → (block_at map.arena b + 4 ≤ n) × (n ≤ 2 ^ 64)
gap_block {map} {n} {G} {t} can some b =
    laid_block map.arena n G t some b (record { at = λ s fit. (joined_laid (can.at s fit).joined).arena })

-- a name is a word of its block
word_of : (map : TreeMap) (hole : ℕ) (cs : List Cell) (a : ℕ) → IsHoleOrName map hole cs a → IsHoleOrWord map hole cs a
word_of map hole cs a (inl e) = inl e
word_of map hole cs a (inr (b, m, e)) = inr (b, m, inr e)

-- whichever trees the numbers headed, they are these
module _ {map : TreeMap} {hole left right : ℕ} {first second : Tree} {old : List ℕ} (w : ArePair map hole left right first second old)
    (s : List ℕ) (a : ℕ) where
  same_cells : (first' second' : Tree) → ArePair map hole left right first' second' old → cells_of first ++ cells_of second ≡ cells_of first' ++
      cells_of second'
  same_cells first' second' w' =
      let one : first ≡ first' = one_tree map.arena old first first' (w.left_name ∙ sym w'.left_name) w.left_spelled w'.left_spelled in
      let two : second ≡ second' = one_tree map.arena old second second' (w.right_name ∙ sym w'.right_name) w.right_spelled w'.right_spelled in
      cc

  own_any : IsHoleOrName map hole (cells_of first ++ cells_of second) a → IsJoinOwn map hole left right old s a
  own_any k first' second' w' = subst (λ cs. IsHoleOrName map hole cs a) (same_cells first' second' w') k

  seen_any : IsHoleOrWord map hole (cells_of first ++ cells_of second) a → IsJoinSeen map hole left right old s a
  seen_any k first' second' w' = subst (λ cs. IsHoleOrWord map hole cs a) (same_cells first' second' w') k

-- what may be read beside the place
tops_seen : {map : TreeMap} {hole left right turns place left_rest right_rest : ℕ} {old s : List ℕ}
    → IsJoined map hole left right turns place left_rest right_rest old s → (a : ℕ)
    → IsPlaceOrTop map place left_rest right_rest a → IsJoinSeen map hole left right old s a
tops_seen {map} {hole} {place} {s} h a (inl e) =
    seen_any h.pair s a (rw e (word_of map hole (cells_of h.first ++ cells_of h.second) place (joined_own h)))
tops_seen {s} h a (inr (b, is_name, k)) =
    let times = joined_times h b in
    seen_any h.pair s a (inr (
      b,
      times_has b (cells_of h.first ++ cells_of h.second)
          (elim is_name [
            | inl e ↦ omega (arith, top_count h.lefts b (h.left_name ∙ e))
            | inr e ↦ omega (arith, top_count h.rights b (h.right_name ∙ e))
          ]),
      k,
    ))

module _ {map : TreeMap} {hole left right turns place left_rest right_rest n : ℕ} {G : List ℕ → Type 0} {t u : Trace}
    (joined : Leads n G t u (IsJoined map hole left right turns place left_rest right_rest)) where
  -- one node more was joined
  pub joined_more : {v : Trace} {place' left_rest' right_rest' : ℕ} → Begins u v
      → Leads n G u v (JoinsOne map place left_rest right_rest place' left_rest' right_rest')
      → Leads n G t v (IsJoined map hole left right (turns + 1) place' left_rest' right_rest')
  joined_more {v} b one = record { at = λ s fit. one.at s fit hole left right turns (after t s) (joined.at s (fits_begins n G u v s b fit)) }

  pub gap_own_more : {v : Trace} → Begins u v → Writes n G t u (IsJoinOwn map hole left right) → AppendsOnly u v (λ a. a ≡ place)
      → Writes n G t v (IsJoinOwn map hole left right)
  gap_own_more {v} b own frame s fit =
      let fit_u = fits_begins n G u v s b fit in
      let mine : ℕ → Type 0 = IsJoinOwn map hole left right (after t s) (after v s) in
      let k = joined.at s fit_u in
      let at : mine place = own_any k.pair (after v s) place (joined_own k) in
      only_then mine t u v (own s fit_u) (only_more (λ a. a ≡ place) mine u v (λ a e. subst mine (sym e) at) frame)

  pub gap_seen_more : {v : Trace} → Begins u v → Reads n G t u (IsJoinSeen map hole left right)
      → AppendsReads u v (IsPlaceOrTop map place left_rest right_rest) → Reads n G t v (IsJoinSeen map hole left right)
  gap_seen_more {v} b seen reads s fit =
      let fit_u = fits_begins n G u v s b fit in
      let mine : ℕ → Type 0 = IsJoinSeen map hole left right (after t s) (after v s) in
      sees_then mine t u v (seen s fit_u) (sees_more (IsPlaceOrTop map place left_rest right_rest) mine u v (tops_seen (joined.at s fit_u)) reads)

-- the last word was written
module _ {map : TreeMap} {hole left right place name n : ℕ} {G : List ℕ → Type 0} {t u : Trace}
    (gathered : Leads n G t u (IsGathered map hole left right place name)) where
  pub last_within : SomeFits n G u → place < n
  last_within some =
      let long : length (after u some.0) ≡ n = length-after u some.0 ∙ some.1.count in
      omega (arith, gathered_within (gathered.at some.0 some.1))

  module _ {v : Trace} (e : EndsWithWrite u v place name) where
    pub joins_leads : Leads n G t v (Joins map hole left right)
    joins_leads = record {
      at = λ s fit. subst (Joins map hole left right (after t s)) (sym (after_write_end u v place name s e))
          (joins_end (gathered.at s (fits_write_end n G u v place name s e fit)));
    }

    pub joins_own : Writes n G t u (IsJoinOwn map hole left right) → Writes n G t v (IsJoinOwn map hole left right)
    joins_own own s fit =
        let fit_u = fits_write_end n G u v place name s e fit in
        let mine : ℕ → Type 0 = IsJoinOwn map hole left right (after t s) (after v s) in
        let k = gathered.at s fit_u in
        only_then mine t u v (own s fit_u) (only_write mine u v place name e (own_any k.pair (after v s) place (gathered_own k)))

    pub joins_seen : Reads n G t u (IsJoinSeen map hole left right) → Reads n G t v (IsJoinSeen map hole left right)
    joins_seen seen s fit =
        let fit_u = fits_write_end n G u v place name s e fit in
        let mine : ℕ → Type 0 = IsJoinSeen map hole left right (after t s) (after v s) in
        let k = gathered.at s fit_u in
        sees_then mine t u v (seen s fit_u)
        (sees_write mine u v place name e (seen_any k.pair (after v s) place
        (word_of map hole (cells_of k.first ++ cells_of k.second) place (gathered_own k))))
