-- What a call of any map on blocks leads to, writes and reads if its search found the key, and if it missed it.
-- It is said over what the map knows of one word list: what is near a search, and what a key that was found says.
use Rattle.txn_alloc.proofs.Common.{◌≡◌, ℕ, ◌+◌, ◌⊎◌, inl, inr, true, List, [], ◌∷◌, ◌++◌, slice_get, slice_set, Some, None, refl, sym, ap, ◌∙◌, subst, arith}
use Rattle.txn_alloc.proofs.Common.{Read, Trace, after, Begins, Fits, InEach, Leads, fits_begins, EndsWithWrite, AppendsOnly, AppendsReads, Looks}
use Rattle.txn_alloc.proofs.Common.{after_write_end, fits_write_end, only_more, only_then, only_write, sees_more, sees_then, sees_write, leads_back, looks_read}
use Rattle.txn_alloc.proofs.Common.{looks_wider, seen_before, New, Old, Full, block_at, IsInBlock, IsHeadOrFirst, IsNearest, IsWrittenByTake, IsReadByTake}
use Rattle.txn_alloc.proofs.Common.{Entries, Blocks, Part, HasMap, HoldsApart, HasMapApart, Finds, IsUsedIn, IsMoved, IsOwn, IsValue, Inserts, TakesNearest}
use Rattle.txn_alloc.proofs.Common.{MayReadToInsert}
use Rattle.txn_alloc.specs.EntryMaps.{IsSeen, MayRead, MayReadToRemove}
use Rattle.txn_alloc.proofs.Sets.{in_here, in_or}
use Rattle.txn_alloc.proofs.Maps.Parts.{IsOne, used_of, moved_in, each_held}
use Rattle.std.specs.FinSet as set
use Rattle.std.specs.FinMap as entry_map

-- what is near a search for the key is what a look for it may read
abbrev pub IsOwnNear : Part → ℕ → (List ℕ → ℕ → Type 0) → Type 0
IsOwnNear part key IsNear = (s : List ℕ) (f : Entries) (u : Blocks) → part.Holds s f u → (a : ℕ) → IsNear s a → IsSeen part key (λ k. k ≡ key) s a

-- what was near, or the word at q
abbrev pub IsNearOr : (List ℕ → ℕ → Type 0) → ℕ → List ℕ → ℕ → Type 0
IsNearOr IsNear q s a = IsNear s a ⊎ (a ≡ q)

-- if the key was found in block b, the block is used, has the key, and has the value of the key
pub record IsKeysBlock (part : Part) (key b : ℕ) (IsFound : List ℕ → Type 0) : Type 0 where
  pub used : (s : List ℕ) (f : Entries) (u : Blocks) → IsFound s → part.Holds s f u → set.contains u b ≡ true
  pub key_there : (s : List ℕ) → IsFound s → slice_get s (block_at part.arena b) ≡ Some key
  pub value : (s : List ℕ) (f : Entries) (u : Blocks) (x : ℕ) → IsFound s → slice_get s (block_at part.arena b + 1)
      ≡ Some x → part.Holds s f u → entry_map.get f key ≡ Some x

-- the value was read too
module _ (n : ℕ) (G : List ℕ → Type 0) (t u : Trace) {IsNear : List ℕ → ℕ → Type 0} {P : List ℕ → Type 0} (l : Looks n G t u IsNear P) where
  pub looks_value : (v : Trace) (q x : ℕ) → v ≡ u ++ Read q x ∷ [] → Looks n G t v (IsNearOr IsNear q) (λ s. P s × (slice_get s q ≡ Some x))
  looks_value v q x e = looks_read n G t (IsNearOr IsNear q) u v q x P
      (looks_wider n G t u IsNear (IsNearOr IsNear q) P (λ s h a k. inl k) l) e (λ s h. inr refl)

module _ (part : Part) (key n : ℕ) (G : List ℕ → Type 0) (t u : Trace) {IsNear : List ℕ → ℕ → Type 0} (own : IsOwnNear part key IsNear) where
  -- the map's own words alone were read
  pub sees_near : {P : List ℕ → Type 0} → Looks n G t u IsNear P → InEach n G t (HasMap part) → (s : List ℕ)
      → Fits n G u s → AppendsReads t u (MayRead part key (after t s) (after u s))
  sees_near l order s fit =
      let o = order.at s (fits_begins n G t u s l.begins fit) in
      sees_more (IsNear (after t s)) (MayRead part key (after t s) (after u s)) t u (own (after t s) o.entries o.used o.holds) (l.reads s fit)

  -- and heads, if no block was free
  pub sees_none : {P : List ℕ → Type 0} → Looks n G t u IsNear P → InEach n G t (HasMapApart part) → {v : Trace}
      → Begins u v → AppendsReads u v (IsReadByTake part.arena key None)
      → (s : List ℕ) → Fits n G v s → AppendsReads t v (MayReadToInsert part key Full (after t s) (after v s))
  sees_none l order {v} bv heads s fit =
      let may : ℕ → Type 0 = MayReadToInsert part key Full (after t s) (after v s) in
      let fit_u : Fits n G u s = fits_begins n G u v s bv fit in
      sees_then may t u v (sees_more (MayRead part key (after t s) (after u s)) may t u (λ a k. inl k) (sees_near l (each_held order) s fit_u))
      (sees_more (IsReadByTake part.arena key None) may u v (λ a k. inr k) heads)

-- the key was found, and its value is near too
module _ (part : Part) (key b q : ℕ) {IsNear : List ℕ → ℕ → Type 0} {IsFound : List ℕ
    → Type 0} (own : IsOwnNear part key IsNear) (block : IsKeysBlock part key b IsFound) (is_value : q ≡ block_at part.arena b + 1) where
  pub value_seen : (s : List ℕ) (f : Entries) (v : Blocks) → IsFound s → part.Holds s f v → (a : ℕ) → IsNearOr IsNear q s a → IsSeen part key (λ k. k ≡ key) s a
  value_seen s f v m hold a (inl k) = own s f v hold a k
  value_seen s f v m hold a (inr e) = inr (b, (f, v, hold, block.used s f v m hold), inr (inr (e ∙ is_value, (key, refl, block.key_there s m))))

-- the key was found, and its value read
module _ (part : Part) (key n : ℕ) (G : List ℕ → Type 0) (t u : Trace) {IsNear : List ℕ → ℕ → Type 0} {IsFound : List ℕ
    → Type 0} (b q was : ℕ) (is_value : q ≡ block_at part.arena b + 1)
    (block : IsKeysBlock part key b IsFound) (l : Looks n G t u (IsNearOr IsNear q) (λ s. IsFound s × (slice_get s q ≡ Some was))) where
  pub finds_some : Leads n G t u (Finds part key (Some was))
  finds_some = record {
    at = λ s fit.
        let seen = seen_before n G t u l s fit in
        record {
          same = l.same s fit;
          found = λ f used h. sym (block.value (after t s) f used was seen.0 (ap (slice_get (after t s)) (sym is_value) ∙ seen.1) h);
        };
  }

  pub sees_value : IsOwnNear part key IsNear → InEach n G t (HasMap part) → (s : List ℕ) → Fits n G u s
      → AppendsReads t u (MayRead part key (after t s) (after u s))
  sees_value own order s fit =
      let o = order.at s (fits_begins n G t u s l.begins fit) in
      sees_more (IsNearOr IsNear q (after t s)) (MayRead part key (after t s) (after u s)) t u
      (value_seen part key b q own block is_value (after t s) o.entries o.used (seen_before n G t u l s fit).0 o.holds) (l.reads s fit)

  -- and then written
  module _ (order : InEach n G t (HasMapApart part)) (v : Trace) (x : ℕ) (e : EndsWithWrite u v q x) where
    fits_u : (s : List ℕ) → Fits n G v s → Fits n G u s
    fits_u s fit = fits_write_end n G u v q x s e fit

    found_start : (s : List ℕ) → Fits n G v s → IsFound (after t s)
    found_start s fit = (seen_before n G t u l s (fits_u s fit)).0

    order_start : (s : List ℕ) → Fits n G v s → HasMapApart part (after t s)
    order_start s fit = order.at s (fits_begins n G t u s l.begins (fits_u s fit))

    uses_start : (s : List ℕ) → Fits n G v s → IsUsedIn part (after t s) b
    uses_start s fit =
        let o : HasMapApart part (after t s) = order_start s fit in
        (o.entries, o.used, o.holds.map, block.used (after t s) o.entries o.used (found_start s fit) o.holds.map)

    pub inserts_old : ((s : List ℕ) (f : Entries) (used free : Blocks) → HoldsApart part s f used free → IsFound s
        → HoldsApart part (slice_set s (block_at part.arena b + 1) x) (entry_map.insert f key x) used free)
        → Leads n G t v (Inserts part key x (Old was))
    inserts_old revalue = record {
      at = λ s fit f used free hold.
          let last : after v s ≡ slice_set (after t s) (block_at part.arena b + 1) x = after_write_end u v q x s e
          ∙ ap (λ z. slice_set z q x) (l.same s (fits_u s fit)) ∙ ap (λ z. slice_set (after t s) z x) is_value in
          record {
            present = sym ((finds_some.at s (fits_u s fit)).found f used hold.map);
            left = subst (λ z. HoldsApart part z (entry_map.insert f key x) used free) (sym last) (revalue (after t s) f used free hold (found_start s fit));
          };
    }

    pub owns_old : (s : List ℕ) → Fits n G v s → AppendsOnly t v (IsOwn part key (after t s) (after v s))
    owns_old s fit =
        let own : ℕ → Type 0 = IsOwn part key (after t s) (after v s) in
        let mine : IsInBlock part.arena b q = omega arith in
        only_then own t u v (only_more (λ a. ⊥) own t u (λ a k. absurd k) l.writes) (only_write own u v q x e (inr (inl (b, inl (uses_start s fit), mine))))

    -- no other word was written
    pub owns_value : (s : List ℕ) → Fits n G v s → AppendsOnly t v (IsValue part key (after t s) (after v s))
    owns_value s fit =
        let own : ℕ → Type 0 = IsValue part key (after t s) (after v s) in
        only_then own t u v (only_more (λ a. ⊥) own t u (λ a k. absurd k) l.writes)
        (only_write own u v q x e (b, uses_start s fit, block.key_there (after t s) (found_start s fit), is_value))

    pub sees_old : IsOwnNear part key IsNear → (s : List ℕ) → Fits n G v s → AppendsReads t v (MayReadToInsert part key (Old was) (after t s) (after v s))
    sees_old own s fit =
        let may : ℕ → Type 0 = MayRead part key (after t s) (after v s) in
        let o : HasMapApart part (after t s) = order_start s fit in
        sees_then may t u v (sees_value own (each_held order) s (fits_u s fit))
        (sees_write may u v q x e (value_seen part key b q own block is_value (after t s) o.entries o.used (found_start s fit) o.holds.map q (inr refl)))

-- a new key is in, in block b, which was free
pub record InsertsIn (part : Part) (key x b : ℕ) (new : List ℕ) (f : Entries) (used free : Blocks) : Type 0 where
  pub absent : entry_map.get f key ≡ None
  pub was_free : set.contains free b ≡ true
  pub left : HoldsApart part new (entry_map.insert f key x) (set.insert used b) (set.remove free b)

-- the key was missed, a block taken, and the key put into it
module _ (part : Part) (one : IsOne part) (key x n : ℕ) (G : List ℕ → Type 0) (t w : Trace) (b : ℕ) (begins : Begins t w)
    (puts : (s : List ℕ) → Fits n G w s → (f : Entries) (used free : Blocks) → HoldsApart part (after t s) f used free
    → InsertsIn part key x b (after w s) f used free) where
  pub inserts_new : Leads n G t w (Inserts part key x New)
  inserts_new = record {
    at = λ s fit f used free hold. let k = puts s fit f used free hold in record { absent = k.absent; block = b; was_free = k.was_free; left = k.left };
  }

  module _ (order : InEach n G t (HasMapApart part)) where
    order_before : {s : List ℕ} → Fits n G w s → HasMapApart part (after t s)
    order_before {s} fit = order.at s (fits_begins n G t w s begins fit)

    -- the block that was taken is used afterwards
    pub uses_new : (s : List ℕ) → Fits n G w s → IsUsedIn part (after w s) b
    uses_new s fit =
        let o = order_before fit in
        (entry_map.insert o.entries key x, set.insert o.used b, (puts s fit o.entries o.used o.free o.holds).left.map, in_here o.used b)

    pub moved_new : (s : List ℕ) → Fits n G w s → IsMoved part (after t s) (after w s) b
    moved_new s fit =
        let o = order_before fit in
        moved_in part one (after w s) b o.holds (puts s fit o.entries o.used o.free o.holds).was_free (uses_new s fit)

    -- and it is the one that a take near the key gives
    pub takes_new : (u v : Trace) {IsNear : List ℕ → ℕ → Type 0} {P : List ℕ → Type 0} → Looks n G t u IsNear P
        → Begins u v → Begins v w → Leads n G u v (λ x y. IsNearest part.arena key b x) → Leads n G t w (TakesNearest part key)
    takes_new u v l bv bw nearest = record {
      at = λ s fit d uses unused.
          let o = order_before fit in
          let near : IsNearest part.arena key b (after t s) =
          (leads_back n G t u l v (λ x y. IsNearest part.arena key b x) bv nearest).at s (fits_begins n G v w s bw fit) in
          elim (in_or o.used b d (used_of part one (after w s) (entry_map.insert o.entries key x) (set.insert o.used b)
          d (puts s fit o.entries o.used o.free o.holds).left.map uses)) [
            | inl e ↦ subst (λ k. IsNearest part.arena key k (after t s)) (sym e) near
            | inr m ↦ absurd (unused (o.entries, o.used, o.holds.map, m))
          ];
    }

    module _ (u v : Trace) {IsNear : List ℕ → ℕ → Type 0} {P : List ℕ → Type 0} (l : Looks n G t u IsNear P)
        (s : List ℕ) (fit : Fits n G w s) {IsPut : ℕ → Type 0} where
      pub owns_new : AppendsOnly u v (IsWrittenByTake part.arena (Some b)) → AppendsOnly v w IsPut
          → ((a : ℕ) → IsPut a → IsOwn part key (after t s) (after w s) a) → AppendsOnly t w (IsOwn part key (after t s) (after w s))
      owns_new heads put step =
          let own : ℕ → Type 0 = IsOwn part key (after t s) (after w s) in
          only_then own t u w (only_more (λ a. ⊥) own t u (λ a k. absurd k) l.writes)
          (only_then own u v w (only_more (IsWrittenByTake part.arena (Some b)) own u v
          (λ a k. inr (inr (b, moved_new s fit, k))) heads) (only_more IsPut own v w step put))

      pub sees_new : IsOwnNear part key IsNear → Begins u v → Begins v w → AppendsReads u v (IsReadByTake part.arena key (Some b)) → AppendsReads v w IsPut
          → ((a : ℕ) → IsPut a → MayReadToInsert part key New (after t s) (after w s) a)
          → AppendsReads t w (MayReadToInsert part key New (after t s) (after w s))
      sees_new own bv bw names put step =
          let may : ℕ → Type 0 = MayReadToInsert part key New (after t s) (after w s) in
          let fit_u : Fits n G u s = fits_begins n G u v s bv (fits_begins n G v w s bw fit) in
          let moved : IsMoved part (after t s) (after w s) b = moved_new s fit in
          let name : (a : ℕ) → IsReadByTake part.arena key (Some b) a → may a =
          λ a k. elim k [ inl e ↦ inr (b, moved, inl e) | inr e ↦ inr (b, moved, inr (omega arith)) ] in
          sees_then may t u w (sees_more (MayRead part key (after t s) (after u s)) may t u (λ a k. inl k)
          (sees_near part key n G t u own l (each_held order) s fit_u))
          (sees_then may u v w (sees_more (IsReadByTake part.arena key (Some b)) may u v name names) (sees_more IsPut may v w step put))

-- a block that was used was given back
module _ (part : Part) (key y b : ℕ) (before after : List ℕ) (used : IsUsedIn part before b) (moved : IsMoved part before after b) where
  pub given_own : (a : ℕ) → IsHeadOrFirst part.arena b a → IsOwn part key before after a
  given_own a (inl head) = inr (inr (b, moved, head))
  given_own a (inr e) = inr (inl (b, inl used, omega arith))

  pub given_seen : (a : ℕ) → IsHeadOrFirst part.arena b a → MayReadToRemove part key (Some y) before after a
  given_seen a (inl head) = inr (b, moved, head)
  given_seen a (inr e) = inl (inr (b, used, inl e))
