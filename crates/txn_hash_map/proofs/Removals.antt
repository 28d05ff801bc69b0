-- What a removal leads to, writes and reads, in every fitting state at once.
use Rattle.txn_hash_map.proofs.Common.{◌≡◌, ℕ, ◌+◌, ◌<◌, inl, inr, List, length, slice_get, slice_set, Some, sym, ap, ◌∙◌, subst, arith, slice_get_within}
use Rattle.txn_hash_map.proofs.Common.{Trace, after, Begins, Fits, SomeFits, InEach, Leads, length-after, fits_begins, EndsWithWrite, KeepsOthers, AppendsOnly}
use Rattle.txn_hash_map.proofs.Common.{AppendsReads, after_write_end, fits_write_end, only_more, only_then, only_write, sees_then, sees_write, block_at}
use Rattle.txn_hash_map.proofs.Common.{FreeListsHold, Lacks, Gives, IsAnyHeadOrIn, ChainMap, HasMapApart, Removes, IsUsedIn, IsOwn, chain_part, Looks}
use Rattle.txn_hash_map.proofs.Common.{seen_before, IsFoundAt, IsLink, IsNearOr}
use Rattle.txn_alloc.proofs.Common.{sees_more, IsHeadOrFirst, IsMoved}
use Rattle.history_model.specs.declared.shape.Shape.{Ghosts as Shapes}
use Rattle.txn_words.specs.declared.words.Words.{Ghosts as AnyWords}
use Rattle.txn_alloc.specs.EntryMaps.{MayReadToRemove}
use Rattle.txn_alloc.proofs.Maps.Parts.{moved_out}
use Rattle.txn_hash_map.proofs.Steps.{found_names, held_used}
use Rattle.txn_alloc.proofs.Maps.Founds.{value_seen, given_own, given_seen}
use Rattle.txn_hash_map.proofs.Looks.{near_own, keys_block}
use Rattle.txn_hash_map.proofs.Inserts.{is_one}
use Rattle.txn_hash_map.proofs.Cuts.{cut, cut_lacks, removed, removed_left, place_used}
use Rattle.std.specs.FinMap as entry_map
use Rattle.txn_alloc.specs.FreeLists as lists

-- found, with its value and the next name
abbrev pub IsRead : ChainMap → ℕ → ℕ → ℕ → ℕ → ℕ → ℕ → ℕ → List ℕ → Type 0
IsRead map key p b q y r x s = (IsFoundAt map key p b s × (slice_get s q ≡ Some y)) × (slice_get s r ≡ Some x)

-- in block b, whose name stands at place p, the key was found, and its value y and the name x of the next block were read
pub record Reads (map : ChainMap) (key n : ℕ) (G : List ℕ → Type 0) (t u : Trace) (p b y x : ℕ) : Type 0 where
  pub value : ℕ
  pub next : ℕ
  pub is_value : value ≡ block_at map.arena b + 1
  pub is_next : next ≡ block_at map.arena b + 2
  pub looks : Looks n G t u (IsNearOr (IsLink map key) value) (IsRead map key p b value y next x)

-- and x was written at the place
pub record CutsOut (map : ChainMap) (key n : ℕ) (G : List ℕ → Type 0) (t v : Trace) (p b y x : ℕ) : Type 0 where
  pub seen : Trace
  pub reads : Reads map key n G t seen p b y x
  pub writes : EndsWithWrite seen v p x
  pub order : InEach n G t (HasMapApart (chain_part map))

-- and the block was given back
pub record GivesBack (map : ChainMap) (key n : ℕ) (G : List ℕ → Type 0) (t w : Trace) (p b y x : ℕ) : Type 0 where
  pub cut : Trace
  pub cuts : CutsOut map key n G t cut p b y x
  pub begins : Begins cut w
  pub gives : Leads n G cut w (Gives map.arena b)
  pub keeps : Leads n G cut w (KeepsOthers (IsAnyHeadOrIn map.arena b))

module _ {W S O : Type 0} (words : AnyWords W S O) (shapes : Shapes S) (map : ChainMap) (key : ℕ) (old new : W) (p b y x : ℕ) where
  abbrev pub HasRead : Type 0
  HasRead = Reads map key (shapes.word_count (words.shape old)) (shapes.good (words.shape old)) (words.trace old) (words.trace new) p b y x

  abbrev pub HasCut : Type 0
  HasCut = CutsOut map key (shapes.word_count (words.shape old)) (shapes.good (words.shape old)) (words.trace old) (words.trace new) p b y x

  abbrev pub HasGivenBack : Type 0
  HasGivenBack =
      GivesBack map key (shapes.word_count (words.shape old)) (shapes.good (words.shape old)) (words.trace old) (words.trace new) p b y x

module _ {map : ChainMap} {key n : ℕ} {G : List ℕ → Type 0} {t : Trace} {p b y x : ℕ} where
  pub place_within : {u : Trace} → Reads map key n G t u p b y x → SomeFits n G u → p < n
  place_within {u} r some =
      let s : List ℕ = after u some.0 in
      let long : length s ≡ n = length-after u some.0 ∙ some.1.count in
      omega (arith, slice_get_within s p (b + 1) (found_names map key s ((r.looks.holds some.0 some.1).0.0)))

  module _ {v : Trace} (c : CutsOut map key n G t v p b y x) where
    fits_seen : {s : List ℕ} → Fits n G v s → Fits n G c.seen s
    fits_seen {s} fit = fits_write_end n G c.seen v p x s c.writes fit

    at_start : {s : List ℕ} → Fits n G v s → IsRead map key p b c.reads.value y c.reads.next x (after t s)
    at_start {s} fit = seen_before n G t c.seen c.reads.looks s (fits_seen fit)

    order_start : {s : List ℕ} → Fits n G v s → HasMapApart (chain_part map) (after t s)
    order_start {s} fit = c.order.at s (fits_begins n G t c.seen s c.reads.looks.begins (fits_seen fit))

    cut_state : {s : List ℕ} → Fits n G v s → after v s ≡ slice_set (after t s) p x
    cut_state {s} fit = after_write_end c.seen v p x s c.writes ∙ ap (λ z. slice_set z p x) (c.reads.looks.same s (fits_seen fit))

    next_there : {s : List ℕ} → Fits n G v s → slice_get (after t s) (block_at map.arena b + 2) ≡ Some x
    next_there {s} fit = ap (slice_get (after t s)) (sym c.reads.is_next) ∙ (at_start fit).1

    value_there : {s : List ℕ} → Fits n G v s → slice_get (after t s) (block_at map.arena b + 1) ≡ Some y
    value_there {s} fit = ap (slice_get (after t s)) (sym c.reads.is_value) ∙ (at_start fit).0.1

    pub order_cut : InEach n G v (lists.IsInOrder map.arena)
    order_cut = record {
      at = λ s fit.
          let o : HasMapApart (chain_part map) (after t s) = order_start fit in (
            o.free,
            subst (λ z. FreeListsHold map.arena z o.free) (sym (cut_state fit))
                (cut map key (after t s) o.entries o.used o.free o.holds p b ((at_start fit).0.0) x (next_there fit)).free_lists,
          );
    }

    pub lacks_cut : InEach n G v (Lacks map.arena b)
    lacks_cut = record {
      at = λ s fit.
          let o : HasMapApart (chain_part map) (after t s) = order_start fit in
          subst (Lacks map.arena b) (sym (cut_state fit))
          (cut_lacks map key (after t s) o.entries o.used o.free o.holds p b ((at_start fit).0.0) x (next_there fit));
    }

  module _ {w : Trace} (k : GivesBack map key n G t w p b y x) where
    fits_cut : {s : List ℕ} → Fits n G w s → Fits n G k.cut s
    fits_cut {s} fit = fits_begins n G k.cut w s k.begins fit

    found_start : {s : List ℕ} → Fits n G w s → IsFoundAt map key p b (after t s)
    found_start fit = (at_start k.cuts (fits_cut fit)).0.0

    map_start : {s : List ℕ} → Fits n G w s → HasMapApart (chain_part map) (after t s)
    map_start fit = order_start k.cuts (fits_cut fit)

    gave : {s : List ℕ} → Fits n G w s → Gives map.arena b (slice_set (after t s) p x) (after w s)
    gave {s} fit = subst (λ z. Gives map.arena b z (after w s)) (cut_state k.cuts (fits_cut fit)) (k.gives.at s fit)

    kept : {s : List ℕ} → Fits n G w s → KeepsOthers (IsAnyHeadOrIn map.arena b) (slice_set (after t s) p x) (after w s)
    kept {s} fit = subst (λ z. KeepsOthers (IsAnyHeadOrIn map.arena b) z (after w s)) (cut_state k.cuts (fits_cut fit)) (k.keeps.at s fit)

    pub removes_some : Leads n G t w (Removes (chain_part map) key (Some y))
    removes_some = record {
      at = λ s fit f used free hold.
          let fit_v : Fits n G k.cut s = fits_cut fit in
          removed map key (after t s) f used free hold p b (found_start fit) x y
          (next_there k.cuts fit_v) (value_there k.cuts fit_v) (gave fit) (kept fit);
    }

    uses_start : {s : List ℕ} → Fits n G w s → IsUsedIn (chain_part map) (after t s) b
    uses_start {s} fit =
        let o = map_start fit in
        (o.entries, o.used, o.holds.map, held_used map key (after t s) o.holds.map (found_start fit))

    -- the block that was given back is used no more
    moved_back : {s : List ℕ} → Fits n G w s → IsMoved (chain_part map) (after t s) (after w s) b
    moved_back {s} fit =
        let fit_v : Fits n G k.cut s = fits_cut fit in
        let o = map_start fit in
        moved_out (chain_part map) (is_one map) (after t s) (after w s) (entry_map.remove o.entries key) o.used b (uses_start fit)
        (removed_left map key (after t s) o.entries o.used o.free o.holds p b (found_start fit) x y
        (next_there k.cuts fit_v) (value_there k.cuts fit_v) (gave fit) (kept fit)).map

    pub owns_removed : AppendsOnly k.cut w (IsHeadOrFirst map.arena b) → (s : List ℕ) → Fits n G w s
        → AppendsOnly t w (IsOwn (chain_part map) key (after t s) (after w s))
    owns_removed given s fit =
        let c : CutsOut map key n G t k.cut p b y x = k.cuts in
        let own : ℕ → Type 0 = IsOwn (chain_part map) key (after t s) (after w s) in
        let o = map_start fit in
        let mine : own p = elim (place_used map key (after t s) o.entries o.used o.free o.holds p b (found_start fit)) [
          | inl k ↦ inl k
          | inr k ↦ inr (inl (k.0, inl (o.entries, o.used, o.holds.map, k.1), omega (arith, k.2)))
        ] in
        only_then own t c.seen w (only_more (λ a. ⊥) own t c.seen (λ a k. absurd k) c.reads.looks.writes)
        (only_then own c.seen k.cut w (only_write own c.seen k.cut p x c.writes mine)
        (only_more (IsHeadOrFirst map.arena b) own k.cut w
        (given_own (chain_part map) key y b (after t s) (after w s) (uses_start fit) (moved_back fit)) given))

    pub sees_removed : AppendsReads k.cut w (IsHeadOrFirst map.arena b) → (s : List ℕ) → Fits n G w s
        → AppendsReads t w (MayReadToRemove (chain_part map) key (Some y) (after t s) (after w s))
    sees_removed names s fit =
        let c : CutsOut map key n G t k.cut p b y x = k.cuts in
        let o = map_start fit in
        let m : IsFoundAt map key p b (after t s) = found_start fit in
        let may : ℕ → Type 0 = MayReadToRemove (chain_part map) key (Some y) (after t s) (after w s) in
        let mine : may p = elim (place_used map key (after t s) o.entries o.used o.free o.holds p b m) [
          | inl k ↦ inl (inl k)
          | inr k ↦ inl (inr (k.0, (o.entries, o.used, o.holds.map, k.1), inr (inl k.2)))
        ] in
        sees_then may t c.seen w (sees_more (IsNearOr (IsLink map key) c.reads.value (after t s)) may t c.seen
        (λ a k. inl (value_seen (chain_part map) key b c.reads.value (near_own map key) (keys_block map key p b) c.reads.is_value
        (after t s) o.entries o.used m o.holds.map a k)) (c.reads.looks.reads s (fits_seen c (fits_cut fit))))
        (sees_then may c.seen k.cut w (sees_write may c.seen k.cut p x c.writes mine)
        (sees_more (IsHeadOrFirst map.arena b) may k.cut w
        (given_seen (chain_part map) key y b (after t s) (after w s) (uses_start fit) (moved_back fit)) names))
