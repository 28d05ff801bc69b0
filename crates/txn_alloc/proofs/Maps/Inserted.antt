-- All that an insert of any map on blocks promises: if the key was there, if it was put in, and if no block was free.
use Rattle.txn_alloc.proofs.Common.{◌≡◌, ℕ, ◌+◌, List, slice_get, slice_set, Some, None, refl, Trace, after, Begins, Fits, SomeFits, InEach, Leads}
use Rattle.txn_alloc.proofs.Common.{EndsWithWrite, AppendsOnly, AppendsReads, InEachState, LeadsTo, WritesWithin, ReadsWithin, Looks, each_plain, leads_plain}
use Rattle.txn_alloc.proofs.Common.{state_after, only_more, only_then, leads_back, Put, New, Old, Full, block_at, HasNone, IsReadByTake, Entries, Blocks, Part}
use Rattle.txn_alloc.proofs.Common.{HasMapApart, HoldsApart, Inserts, LacksRoom, TakesNearest, IsOwn, IsValue, MayReadToInsert}
use Rattle.txn_words.proofs.Common.{WritesOnly}
use Rattle.history_model.specs.declared.shape.Shape.{Ghosts as Shapes}
use Rattle.txn_words.specs.declared.words.Words.{Ghosts as AnyWords}
use Rattle.txn_alloc.proofs.Maps.Parts.{order_inserted, lacks_room, not_new, not_old, new_not_old, old_not_new, full_not_new, full_not_old, new_not_full}
use Rattle.txn_alloc.proofs.Maps.Parts.{old_not_full}
use Rattle.txn_alloc.proofs.Maps.Founds.{IsOwnNear, IsNearOr, IsKeysBlock, inserts_old, owns_old, owns_value, sees_old, sees_none}
use Rattle.std.specs.FinMap as entry_map

-- what a call promises that put x at the key, from v to w, and gave this answer
pub record IsInserted {W S O : Type 0} (words : AnyWords W S O) (shapes : Shapes S) (part : Part) (key x : ℕ) (v w : W)
    (answer : Put) : Type 0 where
  pub put : LeadsTo words shapes v w (Inserts part key x answer)
  pub nearest : answer ≡ New → LeadsTo words shapes v w (TakesNearest part key)
  pub full : answer ≡ Full → LeadsTo words shapes v w (λ before after. LacksRoom part key before)
  pub full_if : LeadsTo words shapes v w (λ before after. LacksRoom part key before) → answer ≡ Full
  pub order : InEachState words shapes w (HasMapApart part)
  pub frame : WritesWithin words shapes v w (IsOwn part key)
  pub old : (was : ℕ) → answer ≡ Old was → WritesWithin words shapes v w (IsValue part key)
  pub full_frame : answer ≡ Full → WritesOnly words v w (λ a. ⊥)
  pub reads : ReadsWithin words shapes v w (MayReadToInsert part key answer)

module _ {W S O : Type 0} (words : AnyWords W S O) (shapes : Shapes S) (part : Part) (key x : ℕ) (v w : W)
    (same : words.shape w ≡ words.shape v) (begins : Begins (words.trace v) (words.trace w)) (order : InEachState words shapes v (HasMapApart part)) where
  abbrev count : ℕ
  count = shapes.word_count (words.shape v)

  abbrev Good : List ℕ → Type 0
  Good = shapes.good (words.shape v)

  before : InEach count Good (words.trace v) (HasMapApart part)
  before = each_plain words shapes v (HasMapApart part) order

  in_order : (answer : Put) → LeadsTo words shapes v w (Inserts part key x answer) → InEachState words shapes w (HasMapApart part)
  in_order answer leads =
      state_after words shapes v w (HasMapApart part) (HasMapApart part) (Inserts part key x answer) same begins order leads (order_inserted part key x answer)

  abbrev Lacking : Type 0
  Lacking = LeadsTo words shapes v w (λ before after. LacksRoom part key before)

  plainly : Lacking → Leads count Good (words.trace v) (words.trace w) (λ before after. LacksRoom part key before)
  plainly lacks = leads_plain words shapes v w (λ before after. LacksRoom part key before) lacks

  -- the key was there, in block b, and its value was written
  module _ (some : SomeFits count Good (words.trace w)) (b q was : ℕ) (is_value : q ≡ block_at part.arena b + 1) (u : Trace) {IsNear : List ℕ → ℕ → Type 0}
      {IsFound : List ℕ → Type 0} (block : IsKeysBlock part key b IsFound) (own : IsOwnNear part key IsNear)
      (l : Looks count Good (words.trace v) u (IsNearOr IsNear q) (λ s. IsFound s × (slice_get s q ≡ Some was))) (e : EndsWithWrite u (words.trace w) q x) where
    pub revalued : ((s : List ℕ) (f : Entries) (used free : Blocks) → HoldsApart part s f used free → IsFound s
        → HoldsApart part (slice_set s (block_at part.arena b + 1) x) (entry_map.insert f key x) used free)
        → IsInserted words shapes part key x v w (Old was)
    revalued revalue =
        let leads : LeadsTo words shapes v w (Inserts part key x (Old was)) = record {
          at = (inserts_old part key count Good (words.trace v) u b q was is_value block l before (words.trace w) x e revalue).at;
        } in
        record {
          put = leads;
          nearest = λ is. absurd (old_not_new was is);
          full = λ is. absurd (old_not_full was is);
          full_if = λ lacks. not_old key x before begins some (plainly lacks) was
              (leads_plain words shapes v w (Inserts part key x (Old was)) leads);
          order = in_order (Old was) leads;
          frame = record { at = owns_old part key count Good (words.trace v) u b q was is_value block l before (words.trace w) x e };
          old = λ y is. record { at = owns_value part key count Good (words.trace v) u b q was is_value block l before (words.trace w) x e };
          full_frame = λ is. absurd (old_not_full was is);
          reads = record { at = sees_old part key count Good (words.trace v) u b q was is_value block l before (words.trace w) x e own };
        }

  -- the key was not there, and was put into a block that was free
  pub put_new : SomeFits count Good (words.trace w) → Leads count Good (words.trace v) (words.trace w) (Inserts part key x New)
      → Leads count Good (words.trace v) (words.trace w) (TakesNearest part key)
      → ((s : List ℕ) → Fits count Good (words.trace w) s
      → AppendsOnly (words.trace v) (words.trace w) (IsOwn part key (after (words.trace v) s) (after (words.trace w) s)))
      → ((s : List ℕ) → Fits count Good (words.trace w) s
      → AppendsReads (words.trace v) (words.trace w) (MayReadToInsert part key New (after (words.trace v) s) (after (words.trace w) s)))
      → IsInserted words shapes part key x v w New
  put_new some leads takes owns sees = record {
    put = record { at = leads.at };
    nearest = λ is. record { at = takes.at };
    full = λ is. absurd (new_not_full is);
    full_if = λ lacks. not_new key x before begins some (plainly lacks) leads;
    order = in_order New (record { at = leads.at });
    frame = record { at = owns };
    old = λ y is. absurd (new_not_old y is);
    full_frame = λ is. absurd (new_not_full is);
    reads = record { at = sees };
  }

  -- the key was not there, and no block was free
  module _ (u : Trace) {IsNear : List ℕ → ℕ → Type 0} {Missing : List ℕ → Type 0} (own : IsOwnNear part key IsNear)
      (absent : (s : List ℕ) (f : Entries) (used : Blocks) → Missing s → part.Holds s f used → entry_map.get f key ≡ None)
      (l : Looks count Good (words.trace v) u IsNear Missing) (then : Begins u (words.trace w)) where
    pub found_full : Leads count Good u (words.trace w) (λ before after. after ≡ before)
        → Leads count Good u (words.trace w) (λ before after. HasNone part.arena before) → AppendsOnly u (words.trace w) (λ a. ⊥)
        → AppendsReads u (words.trace w) (IsReadByTake part.arena key None) → IsInserted words shapes part key x v w Full
    found_full stays none still heads =
        let leads : LeadsTo words shapes v w (Inserts part key x Full) = record {
          at = (leads_back count Good (words.trace v) u l (words.trace w) (λ before after. after ≡ before) then stays).at;
        } in
        let written : AppendsOnly (words.trace v) (words.trace w) (λ a. ⊥) = only_then (λ a. ⊥) (words.trace v) u (words.trace w) l.writes still in
        record {
          put = leads;
          nearest = λ is. absurd (full_not_new is);
          full = λ is. record { at = (lacks_room part key count Good (words.trace v) u absent l then none).at };
          full_if = λ lacks. refl;
          order = in_order Full leads;
          frame = record { at = λ s fit. only_more (λ a. ⊥) _ (words.trace v) (words.trace w) (λ a k. absurd k) written };
          old = λ y is. absurd (full_not_old y is);
          full_frame = λ is. record { appended = written };
          reads = record { at = sees_none part key count Good (words.trace v) u own l before then heads };
        }
