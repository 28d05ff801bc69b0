-- What the calls that part a tree lead to, in every fitting state at once.
use Rattle.txn_tree_map.proofs.Common.{◌≡◌, ℕ, ◌+◌, ◌^◌, ◌<◌, ◌≤◌, List, [], ◌∷◌, ◌++◌, length, slice_set, ◌⊎◌, inl, inr, refl, sym, ap, ◌∙◌, subst, arith}
use Rattle.txn_tree_map.proofs.Common.{Read, Trace, after, Begins, Fits, SomeFits, InEach, Leads, length-after, fits_begins, EndsWithWrite, AppendsOnly}
use Rattle.txn_tree_map.proofs.Common.{AppendsReads, after_write_end, fits_write_end, only_read, only_write, only_then, only_more, sees_read, sees_write}
use Rattle.txn_tree_map.proofs.Common.{sees_then, sees_more, block_at, looks_at, each_looked, seen_before, leads_back, laid_block, Writes, Reads, IsKeyOrName}
use Rattle.txn_tree_map.proofs.Common.{TreeMap, Hangs, AreWithin, IsNameIn, CanSplit, IsParted, Splits, IsSplitOwn, IsWordIn, IsSplitSeen, has_block, times_has}
use Rattle.txn_tree_map.proofs.Common.{Tree, cells_of}
use Rattle.txn_tree_map.specs.Changes.{CanPart, PartsOne, IsEndOrTop}
use Rattle.txn_tree_map.proofs.Held.Trees.{count_in, one_tree}
use Rattle.txn_tree_map.proofs.Searches.Links.{top_count}
use Rattle.txn_tree_map.proofs.Inserts.SplitSteps.{parted_none, parted_times, smaller_within, greater_within, smaller_own, greater_own, parted_low, parted_high}
use Rattle.txn_tree_map.proofs.Inserts.SplitSteps.{parted_other, parted_laid, parted_below, splits_end}

module _ (n : ℕ) (G : List ℕ → Type 0) (t : Trace) where
  pub are_within : {hole inner : ℕ} → SomeFits n G t → InEach n G t (AreWithin hole inner) → (hole < n) × (inner < n)
  are_within some within =
      let s : List ℕ = after t some.0 in
      let long : length s ≡ n = length-after t some.0 ∙ some.1.count in
      let k = within.at some.0 some.1 in
      (omega (arith, k.hole_in), omega (arith, k.inner_in))

  -- a read of the inner word, and a write to the hole
  pub hangs_leads : (u v : Trace) (hole name inner rest : ℕ) → u ≡ t ++ Read inner rest ∷ []
      → EndsWithWrite u v hole name → Leads n G t v (Hangs hole name inner rest)
  hangs_leads u v hole name inner rest e ends = record {
    at = λ s fit.
        let fit_u : Fits n G u s = fits_write_end n G u v hole name s ends fit in
        let look = looks_at n G t u inner rest e in
        record {
          changed = after_write_end u v hole name s ends ∙ ap (λ z. slice_set z hole name) (look.same s fit_u);
          there = seen_before n G t u look s fit_u;
        };
  }

module _ (map : TreeMap) (key smaller greater rest : ℕ) where
  pub can_part_within : {s : List ℕ} (b : ℕ) → CanPart map key smaller greater rest s → b < map.arena.blocks
      → (smaller < length s) × (greater < length s) × (block_at map.arena b + 4 ≤ length s)
  can_part_within b h lt = (
    smaller_within h.parted,
    greater_within h.parted,
    (parted_laid h.parted).arena.blocks b lt,
  )

  pub can_part_below : {s : List ℕ} (b : ℕ) → CanPart map key smaller greater rest s → rest ≡ b + 1 → b < map.arena.blocks
  can_part_below b h e = parted_below h.parted b e

  -- the key of the rest's top is read
  module _ (t : Trace) {u : Trace} (b k : ℕ) (read : u ≡ t ++ Read (block_at map.arena b) k ∷ []) where
    pub rest_within : {n : ℕ} {G : List ℕ → Type 0} → b < map.arena.blocks → InEach n G t (CanPart map key smaller greater rest)
        → InEach n G u (AreWithin smaller (block_at map.arena b + 3)) × InEach n G u (AreWithin greater (block_at map.arena b + 2))
    rest_within {n} {G} lt can =
        let each = each_looked n G t u (looks_at n G t u (block_at map.arena b) k read) _ can in (
          record { at = λ s fit. let w = can_part_within b (each.at s fit) lt in record { hole_in = w.0; inner_in = omega (arith, w.2) } },
          record { at = λ s fit. let w = can_part_within b (each.at s fit) lt in record { hole_in = w.1; inner_in = omega (arith, w.2) } },
        )

    module _ {v : Trace} (is_name : rest ≡ b + 1) where
      -- what is read and written until it is hung at one of the ends
      pub rest_own : (hole : ℕ) → (hole ≡ smaller) ⊎ (hole ≡ greater) → AppendsOnly u v (λ a. a ≡ hole)
          → AppendsOnly t v (λ a. (a ≡ smaller) ⊎ (a ≡ greater))
      rest_own hole end frame =
          let own : ℕ → Type 0 = λ a. (a ≡ smaller) ⊎ (a ≡ greater) in
          only_then own t u v (only_read own t u _ k read) (only_more (λ a. a ≡ hole) own u v (λ a e. rw e end) frame)

      pub rest_seen : (hole a : ℕ) → (hole ≡ smaller) ⊎ (hole ≡ greater) → IsKeyOrName map b a → AppendsReads u v (λ z. (z ≡ hole) ⊎ (z ≡ a))
          → AppendsReads t v (IsEndOrTop map smaller greater rest)
      rest_seen hole a end name reads =
          let seen : ℕ → Type 0 = IsEndOrTop map smaller greater rest in
          sees_then seen t u v (sees_read seen t u _ k read (inr (inr (b, is_name, inl refl))))
          (sees_more (λ z. (z ≡ hole) ⊎ (z ≡ a)) seen u v (λ z m. elim m [
            | inl e ↦ rw e (elim end [ inl s ↦ inl s | inr g ↦ inr (inl g) ])
            | inr q ↦ inr (inr (b, is_name, rw q name))
          ]) reads)

      module _ {n next : ℕ} {G : List ℕ → Type 0} (begins : Begins u v) where
        -- the node was hung among the smaller keys
        pub parts_low : k < key → Leads n G u v (Hangs smaller rest (block_at map.arena b + 3) next)
            → Leads n G t v (PartsOne map key smaller greater rest (block_at map.arena b + 3) greater next)
        parts_low lt hangs = record {
          at = λ s fit block name turns start h.
              let look = looks_at n G t u (block_at map.arena b) k read in
              let there = seen_before n G t u look s (fits_begins n G u v s begins fit) in
              parted_low h b k is_name there lt ((leads_back n G t u look v _ begins hangs).at s fit);
        }

        -- the node was hung among the greater keys
        pub parts_high : (k < key → ⊥) → Leads n G u v (Hangs greater rest (block_at map.arena b + 2) next)
            → Leads n G t v (PartsOne map key smaller greater rest smaller (block_at map.arena b + 2) next)
        parts_high le hangs = record {
          at = λ s fit block name turns start h.
              let look = looks_at n G t u (block_at map.arena b) k read in
              let there = seen_before n G t u look s (fits_begins n G u v s begins fit) in
              parted_high h b k is_name there (omega (arith, parted_other h b k is_name there)) ((leads_back n G t u look v _ begins hangs).at s fit);
        }

-- the block of the rest's top is within the words
pub part_block : {map : TreeMap} {key smaller greater rest n : ℕ} {G : List ℕ → Type 0} {t : Trace} → InEach n G t (CanPart map key smaller greater rest)
    → SomeFits n G t → (b : ℕ) → b < map.arena.blocks → (block_at map.arena b + 4 ≤ n) × (n ≤ 2 ^ 64)
part_block {map} {n} {G} {t} can some b =
    laid_block map.arena n G t some b (record { at = λ s fit. (parted_laid (can.at s fit).parted).arena })

-- a name is a word of its block
pub word_of : {map : TreeMap} {block : ℕ} {tree : Tree} {a : ℕ} → IsNameIn map block tree a → IsWordIn map block tree a
word_of n = record { owner = n.owner; mine = n.mine; place = inr n.place }

module _ {map : TreeMap} {key block name turns smaller greater rest : ℕ} {old s : List ℕ}
    (h : IsParted map key block name turns smaller greater rest old s) (a : ℕ) where
  -- both places are the split's own, whichever tree the name headed
  pub ends_own : (a ≡ smaller) ⊎ (a ≡ greater) → IsSplitOwn map key block name old s a
  ends_own e tree w =
      let same : h.tree ≡ tree = one_tree map.arena old h.tree tree (h.whole.is_name ∙ sym w.is_name) h.whole.spelled w.spelled in
      subst (λ z. IsNameIn map block z a) same (elim e [ inl k ↦ rw k (smaller_own h) | inr k ↦ rw k (greater_own h) ])

  -- and so is what may be read beside them
  pub ends_seen : IsEndOrTop map smaller greater rest a → IsSplitSeen map key block name old s a
  ends_seen (inl e) tree w = word_of (ends_own (inl e) tree w)
  ends_seen (inr (inl e)) tree w = word_of (ends_own (inr e) tree w)
  ends_seen (inr (inr (b, is_name, k))) tree w =
      let same : h.tree ≡ tree = one_tree map.arena old h.tree tree (h.whole.is_name ∙ sym w.is_name) h.whole.spelled w.spelled in
      let top : 1 ≤ count_in b h.inner = top_count h.inner b (h.is_rest ∙ is_name) in
      record {
        owner = b;
        mine = inr (ap (λ z. has_block b (cells_of z)) (sym same) ∙ times_has b (cells_of h.tree) (omega (arith, parted_times h b)));
        place = k;
      }

module _ {map : TreeMap} {key block name turns smaller greater rest n : ℕ} {G : List ℕ → Type 0} {t u : Trace}
    (parted : Leads n G t u (IsParted map key block name turns smaller greater rest)) where
  -- one node more was parted
  pub parted_more : {v : Trace} {smaller' greater' rest' : ℕ} → Begins u v
      → Leads n G u v (PartsOne map key smaller greater rest smaller' greater' rest')
      → Leads n G t v (IsParted map key block name (turns + 1) smaller' greater' rest')
  parted_more {v} b one = record { at = λ s fit. one.at s fit block name turns (after t s) (parted.at s (fits_begins n G u v s b fit)) }

  pub own_more : {v : Trace} → Begins u v → Writes n G t u (IsSplitOwn map key block name)
      → AppendsOnly u v (λ a. (a ≡ smaller) ⊎ (a ≡ greater)) → Writes n G t v (IsSplitOwn map key block name)
  own_more {v} b own frame s fit =
      let fit_u = fits_begins n G u v s b fit in
      let mine : ℕ → Type 0 = IsSplitOwn map key block name (after t s) (after v s) in
      only_then mine t u v (own s fit_u) (only_more (λ a. (a ≡ smaller) ⊎ (a ≡ greater)) mine u v (ends_own (parted.at s fit_u)) frame)

  pub seen_more : {v : Trace} → Begins u v → Reads n G t u (IsSplitSeen map key block name)
      → AppendsReads u v (IsEndOrTop map smaller greater rest) → Reads n G t v (IsSplitSeen map key block name)
  seen_more {v} b seen reads s fit =
      let fit_u = fits_begins n G u v s b fit in
      let mine : ℕ → Type 0 = IsSplitSeen map key block name (after t s) (after v s) in
      sees_then mine t u v (seen s fit_u) (sees_more (IsEndOrTop map smaller greater rest) mine u v (ends_seen (parted.at s fit_u)) reads)

module _ {map : TreeMap} {key block name smaller greater n : ℕ} {G : List ℕ → Type 0} {t u : Trace}
    (parted : Leads n G t u (IsParted map key block name 0 smaller greater 0)) where
  pub ends_within : SomeFits n G u → (smaller < n) × (greater < n)
  ends_within some =
      let long : length (after u some.0) ≡ n = length-after u some.0 ∙ some.1.count in
      let h = parted.at some.0 some.1 in
      (omega (arith, smaller_within h), omega (arith, greater_within h))

  -- the last words were written
  module _ {v w : Trace} (one : EndsWithWrite u v smaller 0) (two : EndsWithWrite v w greater 0) where
    fits_u : {s : List ℕ} → Fits n G w s → Fits n G u s
    fits_u {s} fit = fits_write_end n G u v smaller 0 s one (fits_write_end n G v w greater 0 s two fit)

    pub splits_leads : Leads n G t w (Splits map key block name)
    splits_leads = record {
      at = λ s fit.
          let last : after w s ≡ slice_set (slice_set (after u s) smaller 0) greater 0 =
          after_write_end v w greater 0 s two ∙ ap (λ z. slice_set z greater 0) (after_write_end u v smaller 0 s one) in
          subst (Splits map key block name (after t s)) (sym last) (splits_end (parted.at s (fits_u fit)));
    }

    pub splits_own : Writes n G t u (IsSplitOwn map key block name) → Writes n G t w (IsSplitOwn map key block name)
    splits_own own s fit =
        let mine : ℕ → Type 0 = IsSplitOwn map key block name (after t s) (after w s) in
        let at = ends_own (parted.at s (fits_u fit)) in
        only_then mine t u w (own s (fits_u fit))
        (only_then mine u v w (only_write mine u v smaller 0 one (at smaller (inl refl))) (only_write mine v w greater 0 two (at greater (inr refl))))

    pub splits_seen : Reads n G t u (IsSplitSeen map key block name) → Reads n G t w (IsSplitSeen map key block name)
    splits_seen seen s fit =
        let mine : ℕ → Type 0 = IsSplitSeen map key block name (after t s) (after w s) in
        let at = ends_seen (parted.at s (fits_u fit)) in
        sees_then mine t u w (seen s (fits_u fit))
        (sees_then mine u v w (sees_write mine u v smaller 0 one (at smaller (inl refl))) (sees_write mine v w greater 0 two (at greater (inr (inl refl)))))

-- a split begins
pub parted_start : {map : TreeMap} {key block name : ℕ} (a : ℕ) {s : List ℕ} → block_at map.arena block ≡ a
    → CanSplit map key block name s → IsParted map key block name 0 (a + 2) (a + 3) name s s
parted_start {map} {key} {block} {name} a {s} e k =
    subst (λ z. IsParted map key block name 0 (z + 2) (z + 3) name s s) e (parted_none k.whole)
