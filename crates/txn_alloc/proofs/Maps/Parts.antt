-- What maps on blocks have in common: lemmas over any map's part of the words.
use Rattle.txn_alloc.proofs.Common.{◌≡◌, ℕ, inl, inr, Bool, true, false, List, Option, Some, None, refl, sym, ap, ◌∙◌, subst, true≢false, Trace, after, Begins}
use Rattle.txn_alloc.proofs.Common.{SomeFits, InEach, Leads, fits_begins, Looks, leads_back, seen_before, Put, New, Old, Full, FreeListsHold, HasNone, Entries}
use Rattle.txn_alloc.proofs.Common.{Blocks, Part, HasMap, HoldsApart, HasMapApart, Finds, IsUsedIn, IsMoved, Inserts, LacksRoom}
use Rattle.txn_alloc.specs.EntryMaps.{Removes}
use Rattle.txn_alloc.proofs.FreeLists.Lists.{one_set}
use Rattle.txn_alloc.proofs.Sets.{out_empty, out_itself}
use Rattle.std.specs.FinSet as set
use Rattle.std.specs.FinMap as entry_map

-- the three answers of an insert differ
pub new_not_old : (was : ℕ) → New ≡ Old was → ⊥
new_not_old was e = absurd (cc)

pub full_not_old : (was : ℕ) → Full ≡ Old was → ⊥
full_not_old was e = absurd (cc)

pub old_not_new : (was : ℕ) → Old was ≡ New → ⊥
old_not_new was e = absurd (cc)

pub full_not_new : Full ≡ New → ⊥
full_not_new e = absurd (cc)

pub new_not_full : New ≡ Full → ⊥
new_not_full e = absurd (cc)

pub old_not_full : (was : ℕ) → Old was ≡ Full → ⊥
old_not_full was e = absurd (cc)

-- a map beside free lists is a map
pub held : {part : Part} {s : List ℕ} → HasMapApart part s → HasMap part s
held o = record { entries = o.entries; used = o.used; holds = o.holds.map }

pub each_held : {part : Part} {n : ℕ} {G : List ℕ → Type 0} {t : Trace} → InEach n G t (HasMapApart part) → InEach n G t (HasMap part)
each_held order = record { at = λ s fit. held (order.at s fit) }

-- a block that is free is not used
pub free_unused : (part : Part) (s : List ℕ) (f : Entries) (u v : Blocks) (b : ℕ) → HoldsApart part s f u v → set.contains v b ≡ true → set.contains u b ≡ false
free_unused part s f u v b hold free = at (set.contains u b) refl
  where
    at : (m : Bool) → set.contains u b ≡ m → set.contains u b ≡ false
    at false e = e
    at true e = absurd (true≢false (sym free ∙ hold.apart b e))

-- entries that are held are some
pub some_apart : {part : Part} {s : List ℕ} {f : Entries} {u v : Blocks} → HoldsApart part s f u v → HasMapApart part s
some_apart {f = f} {u = u} {v = v} hold = record { entries = f; used = u; free = v; holds = hold }

-- a map with no entry stands beside free blocks
pub empty_apart : (part : Part) (s : List ℕ) (free : Blocks) → part.Holds s entry_map.empty set.empty → FreeListsHold part.arena s free
    → HoldsApart part s entry_map.empty set.empty free
empty_apart part s free map lists = record { map = map; free_lists = lists; apart = λ b m. absurd (true≢false (sym m ∙ out_empty b)) }

-- what a look leaves is held, and in order
pub held_found : (part : Part) (key : ℕ) (answer : Option ℕ) (x y : List ℕ) → HasMap part x → Finds part key answer x y → HasMap part y
held_found part key answer x y o f = subst (HasMap part) (sym f.same) o

pub order_found : (part : Part) (key : ℕ) (answer : Option ℕ) (x y : List ℕ) → HasMapApart part x → Finds part key answer x y → HasMapApart part y
order_found part key answer x y o f = subst (HasMapApart part) (sym f.same) o

-- and what an insert or a removal leaves is in order
pub order_inserted : (part : Part) (key x : ℕ) (put : Put) (s t : List ℕ) → HasMapApart part s → Inserts part key x put s t → HasMapApart part t
order_inserted part key x New s t o h =
    let k = h o.entries o.used o.free o.holds in
    record { entries = entry_map.insert o.entries key x; used = set.insert o.used k.block; free = set.remove o.free k.block; holds = k.left }
order_inserted part key x (Old was) s t o h = record {
  entries = entry_map.insert o.entries key x;
  used = o.used;
  free =
      o.free;
  holds = (h o.entries o.used o.free o.holds).left;
}
order_inserted part key x Full s t o h = subst (HasMapApart part) (sym h) o

pub order_removed : (part : Part) (key : ℕ) (answer : Option ℕ) (s t : List ℕ) → HasMapApart part s → Removes part key answer s t → HasMapApart part t
order_removed part key None s t o h = order_found part key None s t o h
order_removed part key (Some was) s t o h =
    let k = h o.entries o.used o.free o.holds in
    record { entries = entry_map.remove o.entries key; used = set.remove o.used k.block; free = set.insert o.free k.block; holds = k.left }

-- a map of which each word list holds one at most
abbrev pub IsOne : Part → Type 0
IsOne part = (s : List ℕ) (f g : Entries) (u v : Blocks) → part.Holds s f u → part.Holds s g v → (f ≡ g) × (u ≡ v)

module _ (part : Part) (one : IsOne part) where
  -- a used block is in the set, whichever map says so
  pub used_of : (s : List ℕ) (f : Entries) (u : Blocks) (b : ℕ) → part.Holds s f u → IsUsedIn part s b → set.contains u b ≡ true
  used_of s f u b hold uses = ap (λ z. set.contains z b) (one s f (uses.0) u (uses.1) hold (uses.2)).1 ∙ uses.3

  -- a block that was free and is used was taken
  pub moved_in : {s : List ℕ} (t : List ℕ) {f : Entries} {u v : Blocks} (b : ℕ) → HoldsApart part s f u v
      → set.contains v b ≡ true → IsUsedIn part t b → IsMoved part s t b
  moved_in {s} t {f} {u} b hold free uses = inr (uses, λ k. true≢false (sym free ∙ hold.apart b (used_of s f u b hold.map k)))

  -- a block that was used and is used no more was given back
  pub moved_out : (s t : List ℕ) (g : Entries) (u : Blocks) (b : ℕ) → IsUsedIn part s b → part.Holds t g (set.remove u b) → IsMoved part s t b
  moved_out s t g u b uses hold = inl (uses, λ k. true≢false (sym (used_of t g (set.remove u b) b hold k) ∙ out_itself u b))

-- if there was room, not every state had none
module _ {part : Part} (key x : ℕ) {n : ℕ} {G : List ℕ → Type 0} {t w : Trace} (order : InEach n G t (HasMapApart part))
    (b : Begins t w) (some : SomeFits n G w) (lacks : Leads n G t w (λ before after. LacksRoom part key before)) where
  pub not_new : {A : Type 0} → Leads n G t w (Inserts part key x New) → A
  not_new h =
      let o : HasMapApart part (after t some.0) = order.at some.0 (fits_begins n G t w some.0 b some.1) in
      let k = h.at some.0 some.1 o.entries o.used o.free o.holds in
      let none = (lacks.at some.0 some.1 o.entries o.used o.free o.holds).1 in
      absurd (true≢false (sym k.was_free ∙ ap (λ z. set.contains z k.block) none ∙ out_empty k.block))

  pub not_old : {A : Type 0} (was : ℕ) → Leads n G t w (Inserts part key x (Old was)) → A
  not_old was h =
      let o : HasMapApart part (after t some.0) = order.at some.0 (fits_begins n G t w some.0 b some.1) in
      let k : entry_map.get o.entries key ≡ Some was = (h.at some.0 some.1 o.entries o.used o.free o.holds).present in
      let none : entry_map.get o.entries key ≡ None = (lacks.at some.0 some.1 o.entries o.used o.free o.holds).0 in
      absurd (cc)

-- a search that missed the key, and what it says of the entries
module _ (part : Part) (key n : ℕ) (G : List ℕ → Type 0) (t u : Trace) {IsNear : List ℕ → ℕ → Type 0} {Missing : List ℕ
    → Type 0} (absent : (s : List ℕ) (f : Entries) (v : Blocks) → Missing s → part.Holds s f v → entry_map.get f key ≡ None)
    (l : Looks n G t u IsNear Missing) where
  pub finds_none : Leads n G t u (Finds part key None)
  finds_none = record { at = λ s fit. record { same = l.same s fit; found = λ f used h. sym (absent (after t s) f used (seen_before n G t u l s fit) h) } }

  -- no block was free
  pub lacks_room : {v : Trace} → Begins u v → Leads n G u v (λ before after. HasNone part.arena before)
      → Leads n G t v (λ before after. LacksRoom part key before)
  lacks_room {v} b none = record {
    at = λ s fit f used free hold. (
      absent (after t s) f used (seen_before n G t u l s (fits_begins n G u v s b fit)) hold.map,
      one_set part.arena (after t s) free set.empty hold.free_lists ((leads_back n G t u l v (λ before after. HasNone part.arena before) b none).at s fit),
    );
  }
