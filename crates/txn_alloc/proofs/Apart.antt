-- A block is in one of an arena's parts alone.
use Rattle.txn_alloc.proofs.Common.{◌≡◌, ℕ, ◌+◌, ◌<◌, ◌≤◌, ◌⊎◌, inl, inr, Bool, true, false, cond, List, [], ◌∷◌, refl, sym, ap, ◌∙◌, subst, arith, dite}
use Rattle.txn_alloc.proofs.Common.{ℕ_discrete, Arena, IsHead, IsInBlock, Entries, Blocks, Part, IsOwn}
use Rattle.txn_alloc.proofs.Maps.Counting.{times_of}
use Rattle.txn_alloc.proofs.FreeLists.Lists.{same_block}
use Rattle.txn_alloc.proofs.Maps.Parts.{IsOne, used_of}
use Rattle.txn_alloc.proofs.FreeLists.Wider.{head_is}
use Rattle.txn_alloc.proofs.Sets.{in_here, out_itself, contains-insert_other, contains-remove_other}
use Rattle.txn_alloc.specs.Blocks.{times_among}
use Rattle.txn_alloc.specs.Statements.{MovedBlock}
use Rattle.std.specs.FinSet as set

-- a block of a set counts once there
pub member_one : (s : Blocks) (b : ℕ) → set.contains s b ≡ true → times_of s b ≡ 1
member_one s b e = ap (λ m. cond m 1 0) e

pub out_none : (s : Blocks) (b : ℕ) → set.contains s b ≡ false → times_of s b ≡ 0
out_none s b e = ap (λ m. cond m 1 0) e

pub two_among : (b : ℕ) (u v : Blocks) → times_among b (u ∷ v ∷ []) ≡ times_of u b + times_of v b
two_among b u v = omega arith

pub three_among : (b : ℕ) (u v w : Blocks) → times_among b (u ∷ v ∷ w ∷ []) ≡ times_of u b + times_of v b + times_of w b
three_among b u v w = omega arith

-- a set of which a block is no member
out_of : (s : Blocks) (b : ℕ) → times_of s b ≡ 0 → set.contains s b ≡ false
out_of s b none = at (set.contains s b) refl
  where
    at : (m : Bool) → set.contains s b ≡ m → set.contains s b ≡ false
    at false e = e
    at true e = absurd (omega (arith, member_one s b e))

-- a block of one set is in no other
pub out_other : (s other : Blocks) (b : ℕ) → set.contains s b ≡ true → times_of s b + times_of other b ≤ 1 → set.contains other b ≡ false
out_other s other b k once = out_of other b (omega (arith, member_one s b k))

-- a set of blocks below a number has none from it on
pub out_above : (s : Blocks) (n b : ℕ) → ((d : ℕ) → set.contains s d ≡ true → d < n) → n ≤ b → times_of s b ≡ 0
out_above s n b below le = at (set.contains s b) refl
  where
    at : (m : Bool) → set.contains s b ≡ m → times_of s b ≡ 0
    at false e = out_none s b e
    at true e = absurd (omega (arith, below b e))

-- a word that a map's call may not write: no root of the map, no head, and in no block that the map uses before or after
pub not_own : (part : Part) → IsOne part → (key : ℕ) (old new : List ℕ) (f g : Entries) (u v : Blocks) → part.Holds old f u → part.Holds new g v → (a : ℕ)
    → ¬ part.IsRoot key a → ¬ IsHead part.arena a → ((d : ℕ) → (set.contains u d ≡ true) ⊎ (set.contains v d ≡ true)
    → ¬ IsInBlock part.arena d a) → ¬ IsOwn part key old new a
not_own part one key old new f g u v before after a root head out (inl k) = root k
not_own part one key old new f g u v before after a root head out (inr (inl k)) =
    out k.0 (elim (k.1) [ inl w ↦ inl (used_of part one old f u k.0 before w) | inr w ↦ inr (used_of part one new g v k.0 after w) ]) k.2
not_own part one key old new f g u v before after a root head out (inr (inr k)) = head (head_is part.arena k.0 a k.2)

-- a block of one set is in no block that another part used before, or uses after a change in which its blocks and the free
-- ones stayed as many
pub other_out : (arena : Arena) (theirs before free after now : Blocks) (d a e : ℕ) → set.contains theirs d ≡ true
    → times_of theirs d + times_of before d + times_of free d ≤ 1
    → times_of after d + times_of now d ≡ times_of before d + times_of free d → IsInBlock arena d a
    → (set.contains before e ≡ true) ⊎ (set.contains after e ≡ true) → ¬ IsInBlock arena e a
other_out arena theirs before free after now d a e k once many mine uses other =
    let same : e ≡ d = same_block arena e d a other mine in
    let one : times_of theirs d ≡ 1 = member_one theirs d k in
    elim uses [
      | inl w ↦ let here : times_of before d ≡ 1 = member_one before d (ap (set.contains before) (sym same) ∙ w) in omega arith
      | inr w ↦ let here : times_of after d ≡ 1 = member_one after d (ap (set.contains after) (sym same) ∙ w) in omega arith
    ]

abbrev times_by : Bool → ℕ
times_by m = cond m 1 0

-- a block that goes from one set to another is in as many as before
pub moved_times : (used free : Blocks) (c : ℕ) → set.contains used c ≡ false → set.contains free c ≡ true → (b : ℕ)
    → times_of (set.insert used c) b + times_of (set.remove free c) b ≡ times_of used b + times_of free b
moved_times used free c out member b = dite (ℕ_discrete b c)
    (λ e. subst (λ z. times_of (set.insert used c) z + times_of (set.remove free c) z ≡ times_of used z + times_of free z) (sym e) (
    omega (
      arith,
      member_one (set.insert used c) c (in_here used c),
      out_none (set.remove free c) c (out_itself free c),
      out_none used c out,
      member_one free c member,
    )))
    (λ ne.
    let here : times_of (set.insert used c) b ≡ times_of used b = ap times_by (contains-insert_other used c b ne) in
    let there : times_of (set.remove free c) b ≡ times_of free b = ap times_by (contains-remove_other free c b ne) in
    omega arith)

pub moved_block : MovedBlock
moved_block used free c out member b =
    two_among b (set.insert used c) (set.remove free c) ∙ moved_times used free c out member b ∙ sym (two_among b used free)
