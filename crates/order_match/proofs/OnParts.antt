-- What calls on one part say of all of them.
use Rattle.order_match.proofs.Common.{◌≡◌, ℕ, zero, suc, ◌*◌, ◌<◌, ◌≤◌, Bool, true, false, cond, ◌==◌, nat_le, find, List, [], ◌∷◌, Option, Some, None, refl}
use Rattle.order_match.proofs.Common.{sym, ap, ◌∙◌, subst, arith, eq-eqb, ne_eqb, nat_tests, dite, ℕ_discrete, nat_cmp, IsWithin, Tells, TellsAndChanges}
use Rattle.order_match.proofs.Common.{KeepsOthers, Put, New, Old, Full, Entries, IsOwn, times_of, FindsFirst, remove_absent, OrderShape, side_at, sides_of}
use Rattle.order_match.proofs.Common.{tree_of, Held, HasParts, HasSomeParts, entries_in, first_in, first_of, is_used_up, put_answer, put_by}
use Rattle.txn_alloc.proofs.Common.{Finds, HasMap, HasMapApart, HoldsApart, Inserts, LacksRoom}
use Rattle.txn_hash_map.proofs.Common.{Removes, held}
use Rattle.txn_alloc.specs.EntryMaps.{InsertsNew, InsertsOld, RemovesOne}
use Rattle.txn_alloc.proofs.Maps.Counting.{some_member}
use Rattle.txn_alloc.proofs.Maps.Parts.{free_unused}
use Rattle.txn_alloc.proofs.Apart.{moved_times, out_other}
use Rattle.txn_stores.proofs.Turning.{IsPut, IsCut}
use Rattle.order_match.proofs.Family.{Family, changed, counted, entries_at, entries_here, entries_there, family_as, family_below, family_of, part_at, parts_of}
use Rattle.order_match.proofs.Family.{with_entries}
use Rattle.order_match.proofs.Sums.{total_has}
use Rattle.std.specs.FinMap as finite
use Rattle.std.specs.FinSet as set

-- what is held with the same entries of a part is the same
with_same : (i j : ℕ) (held : Held) → entries_at j held ≡ entries_at j (with_entries i (entries_at i held) held)
with_same i j held = dite (ℕ_discrete j i)
    (λ e. subst (λ l. entries_at l held ≡ entries_at l (with_entries i (entries_at i held) held)) (sym e) (sym (entries_here i (entries_at i held) held)))
    (λ ne. sym (entries_there i j (entries_at i held) held ne))

last_same : (i : ℕ) (f : Entries) (held : Held) → held.last ≡ (with_entries i f held).last
last_same zero f held = refl
last_same (suc side) f held = refl

module _ (shape : OrderShape) (i : ℕ) (le : i ≤ sides_of shape) where
  -- a part's blocks and the free ones are apart
  pub family_apart : (words : List ℕ) (held : Held) (family : Family shape words held)
      → HoldsApart (part_at shape i) words (entries_at i held) (family.used i) family.free
  family_apart words held family = record {
    map = family.holds i le;
    free_lists = family.free_lists;
    apart = λ b k.
        let once = family.parted b (family_below shape words held family i b le k) in
        let has = total_has (sides_of shape) i (λ j. times_of (family.used j) b) le in
        out_other (family.used i) family.free b k (omega (arith, once, has));
  }

  pub part_apart : (words : List ℕ) → HasSomeParts shape words → HasMapApart (part_at shape i) words
  part_apart words some =
      let family = family_of shape words some.0 some.1 in
      record { entries = entries_at i some.0; used = family.used i; free = family.free; holds = family_apart words some.0 family }

  pub part_there : (words : List ℕ) → HasSomeParts shape words → HasMap (part_at shape i) words
  part_there words some = held (part_apart words some)

  -- a change of the part
  module _ (old new : List ℕ) (key : ℕ) (kept : KeepsOthers (IsOwn (part_at shape i) key old new) old new) (holding : Held)
      (parts : HasParts shape old holding) where
    abbrev mine : Entries
    mine = entries_at i holding

    abbrev family : Family shape old holding
    family = family_of shape old holding parts

    same : (entries : Entries) → entries ≡ entries_at i holding → HasParts shape new (with_entries i (entries_at i holding) holding)
        → HasParts shape new (with_entries i entries holding)
    same entries e = subst (λ f. HasParts shape new (with_entries i f holding)) (sym e)

    -- no word changed
    unchanged : new ≡ old → HasParts shape new (with_entries i (entries_at i holding) holding)
    unchanged e = parts_of shape new (with_entries i (entries_at i holding) holding)
        (family_as shape new holding (with_entries i (entries_at i holding) holding) (last_same i (entries_at i holding) holding)
        (λ j low. with_same i j holding) (family_of shape new holding (subst (λ z. HasParts shape z holding) (sym e) parts)))

    put_new : (x : ℕ) → InsertsNew (part_at shape i) key x new mine (family.used i) parts.free
        → HasParts shape new (with_entries i (finite.insert mine key x) holding)
    put_new x k =
        let unused = free_unused (part_at shape i) old mine (family.used i) parts.free k.block (family_apart old holding family) k.was_free in
        parts_of shape new (with_entries i (finite.insert mine key x) holding)
        (changed shape old holding family new i le key kept (finite.insert mine key x) (set.insert (family.used i) k.block) (set.remove parts.free k.block)
        k.left.map k.left.free_lists (moved_times (family.used i) parts.free k.block unused k.was_free))

    put_old : (x was : ℕ) → InsertsOld (part_at shape i) key x was new mine (family.used i) parts.free
        → HasParts shape new (with_entries i (finite.insert mine key x) holding)
    put_old x was k = parts_of shape new (with_entries i (finite.insert mine key x) holding)
        (changed shape old holding family new i le key kept (finite.insert mine key x) (family.used i) parts.free k.left.map k.left.free_lists (λ b. refl))

    cut_one : (was : ℕ) → RemovesOne (part_at shape i) key was new mine (family.used i) parts.free
        → HasParts shape new (with_entries i (finite.remove mine key) holding)
    cut_one was k =
        let unused = (family_apart old holding family).apart k.block k.was_used in
        parts_of shape new (with_entries i (finite.remove mine key) holding)
        (changed shape old holding family new i le key kept (finite.remove mine key) (set.remove (family.used i) k.block) (set.insert parts.free k.block)
        k.left.map k.left.free_lists
        (λ b. let moved = moved_times parts.free (family.used i) k.block unused k.was_used b in omega (arith, moved)))

    -- what an insert answers, and what it leaves
    put : (x : ℕ) (put : Put) → Inserts (part_at shape i) key x put old new → (put ≡ Full → LacksRoom (part_at shape i) key old)
        → (put ≡ put_answer (finite.get mine key) (is_used_up shape holding)) × HasParts shape new (with_entries i (put_by put key x mine) holding)
    put x New inserts full =
        let k = inserts mine (family.used i) parts.free (family_apart old holding family) in
        let some = some_member parts.free k.block k.was_free in
        let left : (entries_in shape holding == shape.blocks) ≡ false = ne_eqb (entries_in shape holding) shape.blocks
        (λ e. absurd (omega (arith, e, some, counted shape old holding parts))) in
        (sym (ap (λ o. put_answer o (is_used_up shape holding)) k.absent ∙ ap (put_answer None) left), put_new x k)
    put x (Old was) inserts full =
        let k = inserts mine (family.used i) parts.free (family_apart old holding family) in
        (sym (ap (λ o. put_answer o (is_used_up shape holding)) k.present), put_old x was k)
    put x Full inserts full =
        let k = full refl mine (family.used i) parts.free (family_apart old holding family) in
        let none : set.len parts.free ≡ 0 = ap set.len k.1 ∙ set.len-empty nat_cmp in
        let left : (entries_in shape holding == shape.blocks) ≡ true = eq-eqb (entries_in shape holding) shape.blocks
        (omega (arith, none, counted shape old holding parts)) in
        (sym (ap (λ o. put_answer o (is_used_up shape holding)) k.0 ∙ ap (put_answer None) left), unchanged inserts)

    -- what a removal answers, and what it leaves
    cut : (answer : Option ℕ) → Removes (part_at shape i) key answer old new
        → (answer ≡ finite.get mine key) × HasParts shape new (with_entries i (finite.remove mine key) holding)
    cut None removes =
        let none : None ≡ finite.get mine key = removes.found mine (family.used i) (family.holds i le) in
        (none, same (finite.remove mine key) (remove_absent mine key (sym none)) (unchanged removes.same))
    cut (Some was) removes =
        let k = removes mine (family.used i) parts.free (family_apart old holding family) in
        (sym k.present, cut_one was k)

  pub puts : (key x : ℕ) (put : Put) (old new : List ℕ) → IsPut (part_at shape i) key x put old new
      → TellsAndChanges (HasParts shape) (λ held. put_answer (finite.get (entries_at i held) key) (is_used_up shape held))
      (λ held. with_entries i (put_by put key x (entries_at i held)) held) put old new
  puts key x answer old new is = record {
    told = λ holding parts. (put old new key is.keeps holding parts x answer is.inserts is.full).0;
    left = λ holding parts. (put old new key is.keeps holding parts x answer is.inserts is.full).1;
  }

  pub cuts : (key : ℕ) (answer : Option ℕ) (old new : List ℕ) → IsCut (part_at shape i) key answer old new
      → TellsAndChanges (HasParts shape) (λ held. finite.get (entries_at i held) key)
      (λ held. with_entries i (finite.remove (entries_at i held) key) held) answer old new
  cuts key answer old new is = record {
    told = λ holding parts. (cut old new key is.keeps holding parts answer is.removes).0;
    left = λ holding parts. (cut old new key is.keeps holding parts answer is.removes).1;
  }

  -- what a look tells
  pub tells_get : (key : ℕ) (answer : Option ℕ) (old new : List ℕ) → Finds (part_at shape i) key answer old new
      → Tells (HasParts shape) (λ held. finite.get (entries_at i held) key) answer old new
  tells_get key answer old new finds = record {
    same = finds.same;
    told = λ holding parts.
        let family = family_of shape old holding parts in
        finds.found (entries_at i holding) (family.used i) (family.holds i le);
  }

-- the number of a side is below their count
pub side_below : (instruments instrument : ℕ) (buys : Bool) → IsWithin 1 instruments instrument → suc (side_at instrument buys) ≤ 2 * instruments
side_below instruments instrument true is = omega (arith, is.0, is.1)
side_below instruments instrument false is = omega (arith, is.0, is.1)

-- the first entry from 0 on is the first
from_zero : (es : List (ℕ × ℕ)) → find (λ (e : ℕ × ℕ). nat_le 0 e.0) es ≡ first_of es
from_zero [] = refl
from_zero (e ∷ es) = ap (λ b. cond b (Some e) (find (λ (p : ℕ × ℕ). nat_le 0 p.0) es)) (at_least e.0)
  where
    at_least : (x : ℕ) → nat_le 0 x ≡ true
    at_least x = grind (arith, nat_tests)

pub tells_first : (shape : OrderShape) (side : ℕ) → side < sides_of shape → (answer : Option (ℕ × ℕ)) (old new : List ℕ)
    → FindsFirst (tree_of shape side) 0 answer old new
    → Tells (HasParts shape) (λ held. first_in (held.sides side)) answer old new
tells_first shape side lt answer old new finds = record {
  same = finds.same;
  told = λ holding parts. finds.first (holding.sides side) (parts.side_used side) (parts.trees side lt)
      ∙ from_zero (finite.entries (holding.sides side));
}
