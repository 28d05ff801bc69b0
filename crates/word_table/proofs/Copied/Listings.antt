-- The uses that a pass keeps, listed by rising lock, word by word of its set.
use Rattle.word_table.proofs.Common.{◌≡◌, ◌≢◌, ℕ, zero, suc, ◌+◌, ◌*◌, ◌/◌, ◌%◌, ◌^◌, ◌<◌, ◌≤◌, ◌⊎◌, inl, inr, ⊎_elim, List, [], ◌∷◌, ◌++◌, true, length}
use Rattle.word_table.proofs.Common.{sum_by, drop, slice_index, refl, sym, ap, ◌∙◌, subst, arith, bit_and, count_ones, bit_at, bit_not, trailing_zeros}
use Rattle.word_table.proofs.Common.{bit_at-trailing_zeros, bit_at_clear_same, bit_at_clear_other, cases_lt, w64, dite, ℕ_discrete, LOCKS, LockUse, View}
use Rattle.word_table.proofs.Common.{Running, Withdrawing, IsIn, has, flag, in_first, in_second, VersionCopy, IsVersionCopy, AreUsesOf, ListsBelow, locks_found}
use Rattle.values_rule.proofs.Common.{get_cases}
use Rattle.std.proofs.lemmas.Nat.{and_comm, and-not, pow_below}
use Rattle.std.proofs.lemmas.Nat.Bits.{bit_at_lowest, bit_at-suc, and_pow}
use Rattle.std.proofs.lemmas.List.{at_drop_more}
use Rattle.std.proofs.lemmas.List.Sums.{sum_by-cons}
use lib.Count.{ones_step}
use native.Mathlib.Nat.{pow-suc}
use Rattle.word_table.specs.Uses.{AreRising, IsMarked, IsCopied, IsMarkedUse}
use Rattle.word_table.proofs.Copied.VersionCopies.{bit_used, bit_written, used_found}
use Rattle.word_table.proofs.Kept.Bounded.{in_push}

-- a word without one of its bits
abbrev pub lowered : ℕ → ℕ → ℕ
lowered w t = bit_and w (bit_not w64 (1 * 2 ^ t % 2 ^ 64))

lowered_less : (w t : ℕ) → t < 64 → w < 2 ^ 64 → bit_at w t ≡ 1 → lowered w t + 2 ^ t ≡ w
lowered_less w t near fits set = let small : 2 ^ t < 2 ^ 64 = pow_below t 64 near in
    let one : 1 * 2 ^ t % 2 ^ 64 ≡ 2 ^ t = omega arith in
    let both = and-not 64 (2 ^ t) w small fits in
    let here : bit_and (2 ^ t) w ≡ 2 ^ t = and_comm (2 ^ t) w ∙ (and_pow w t ∙ (ap (λ (b : ℕ). b * 2 ^ t) set ∙ omega arith)) in
    ap (λ (m : ℕ). bit_and w (bit_not w64 m) + 2 ^ t) one
    ∙ (ap (λ (m : ℕ). m + 2 ^ t) (and_comm w (bit_not w64 (2 ^ t))) ∙ (ap (λ (m : ℕ). bit_and (bit_not w64 (2 ^ t)) w + m) (sym here) ∙ both))

-- a number that is 2 ^ t less, if that bit was set, has one bit less
ones_less : (t n m : ℕ) → bit_at n t ≡ 1 → m + 2 ^ t ≡ n → count_ones n ≡ count_ones m + 1
ones_less zero n m set less = let low : n % 2 ≡ 1 = sym (bit_at_lowest n) ∙ set in
    let half : n / 2 ≡ m / 2 = omega arith in let even : m % 2 ≡ 0 = omega arith in
    let s = ones_step n in let r = ones_step m in let e = ap count_ones half in omega arith
ones_less (suc t) n m set less = let twice : 2 ^ suc t ≡ 2 ^ t * 2 = pow-suc 2 t in
    let half : m / 2 + 2 ^ t ≡ n / 2 = omega arith in let low : n % 2 ≡ m % 2 = omega arith in
    let rest = ones_less t (n / 2) (m / 2) (sym (bit_at-suc n t) ∙ set) half in
    let s = ones_step n in let r = ones_step m in omega arith

-- so is a word without its lowest bit
pub lowest_less : (w : ℕ) → w ≢ 0 → w < 2 ^ 64 → (lowered w (trailing_zeros w64 w) < w) × (count_ones w ≡ count_ones (lowered w (trailing_zeros w64 w)) + 1)
lowest_less w some fits = let t : ℕ = trailing_zeros w64 w in let low = bit_at-trailing_zeros w64 w (omega arith) fits in
    let less = lowered_less w t low.0 fits low.1 in let many : 0 < 2 ^ t = omega arith in
    (omega arith, ones_less t w (lowered w t) low.1 less)

-- all uses of the words before i, and of the word i those whose bits are no longer in `left`, are listed
pub record WordListed (copy : VersionCopy) (i left : ℕ) (listed : List LockUse) : Type 0 where
  pub rising : AreRising listed
  pub each : (u : LockUse) → IsIn u listed → IsMarkedUse copy u
  pub below : (u : LockUse) → IsIn u listed → u.lock < 64 * i + 64
  pub before : (u : LockUse) → IsIn u listed → (b : ℕ) → b < 64 → bit_at left b ≡ 1 → u.lock < 64 * i + b
  pub left_of : (b : ℕ) → b < 64 → bit_at left b ≡ 1 → bit_at (slice_index copy.used i) b ≡ 1
  pub all : (k : ℕ) → k < 64 * i + 64 → IsMarked copy k
      → ((u : LockUse) × (IsIn u listed × (u.lock ≡ k))) ⊎ ((64 * i ≤ k) × (bit_at left (k % 64) ≡ 1))

pub word_begun : (copy : VersionCopy) (i : ℕ) (listed : List LockUse) → ListsBelow copy (64 * i) listed
    → WordListed copy i (slice_index copy.used i) listed
word_begun copy i listed h = record {
  rising = h.rising;
  each = h.each;
  below = λ u t. let low = h.below u t in omega arith;
  before = λ u t b near set. let low = h.below u t in omega arith;
  left_of = λ b near set. set;
  all = λ k lt marked. ⊎_elim (λ (early : k < 64 * i). inl (h.all k early marked))
      (λ (late : 64 * i ≤ k). let same : k / 64 ≡ i = omega arith in
      inr (late, subst (λ (m : ℕ). bit_at (slice_index copy.used m) (k % 64) ≡ 1) same marked)) (cases_lt k (64 * i));
}

-- the use of the lowest bit is listed
pub word_more : (copy : VersionCopy) (i left : ℕ) (listed : List LockUse) (u : LockUse) → i < 16 → left ≢ 0 → left < 2 ^ 64
    → u.lock ≡ 64 * i + trailing_zeros w64 left → IsCopied copy u → WordListed copy i left listed
    → WordListed copy i (lowered left (trailing_zeros w64 left)) (listed ++ u ∷ [])
word_more copy i left listed u small some fits at copied h = let t : ℕ = trailing_zeros w64 left in
    let low = bit_at-trailing_zeros w64 left (omega arith) fits in
    let near : t < 64 = low.0 in let set : bit_at left t ≡ 1 = low.1 in
    let quotient : u.lock / 64 ≡ i = omega arith in let remainder : u.lock % 64 ≡ t = omega arith in
    let marked : IsMarked copy u.lock = subst (λ (b : ℕ). bit_at (slice_index copy.used (u.lock / 64)) b ≡ 1) (sym remainder)
    (subst (λ (m : ℕ). bit_at (slice_index copy.used m) t ≡ 1) (sym quotient) (h.left_of t near set)) in
    let marked_use : IsMarkedUse copy u = record { near = omega arith; used = marked; copied = copied } in
    let still : (b : ℕ) → b < 64 → bit_at (lowered left t) b ≡ 1 → (bit_at left b ≡ 1) × (t < b) = (λ b close one. dite (ℕ_discrete b t)
    (λ e. absurd (let clear : bit_at (lowered left t) b ≡ 0 = ap (λ (x : ℕ). bit_at (lowered left t) x) e ∙ bit_at_clear_same w64 left t near in omega arith))
    (λ ne. let is : bit_at left b ≡ 1 = sym (bit_at_clear_other w64 left t near b close ne) ∙ one in
    (is, ⊎_elim (λ (lt : b < t). absurd (let clear : bit_at left b ≡ 0 = low.2 b lt in omega arith)) (λ (le : t ≤ b). omega arith) (cases_lt b t)))) in
    record {
      rising = λ p q x y e f lt. ⊎_elim
          (λ old. ⊎_elim (λ first. h.rising p q x y first.1 old.1 lt)
          (λ last. let long = old.0 in let here = last.0 in absurd (omega arith)) (get_cases listed u x p e))
          (λ new. ⊎_elim (λ first. subst (λ (z : LockUse). x.lock < z.lock) new.1
          (subst (λ (m : ℕ). x.lock < m) (sym at) (h.before x (p, first.1) t near set)))
          (λ last. let here = last.0 in let there = new.0 in absurd (omega arith)) (get_cases listed u x p e))
          (get_cases listed u y q f);
      each = λ w j. ⊎_elim (λ old. h.each w old) (λ e. subst (λ (z : LockUse). IsMarkedUse copy z) e marked_use) (in_push listed u w j);
      below = λ w j. ⊎_elim (λ old. h.below w old)
          (λ e. subst (λ (z : LockUse). z.lock < 64 * i + 64) e (omega arith)) (in_push listed u w j);
      before = λ w j b close one. let bit = still b close one in ⊎_elim (λ old. h.before w old b close bit.0)
          (λ e. subst (λ (z : LockUse). z.lock < 64 * i + b) e (let far = bit.1 in omega arith)) (in_push listed u w j);
      left_of = λ b close one. h.left_of b close (still b close one).0;
      all = λ k lt is. ⊎_elim
          (λ old. inl (old.0, (in_first listed (u ∷ []) old.0 old.1.0, old.1.1)))
          (λ new. dite (ℕ_discrete (k % 64) t)
          (λ e. let start = new.0 in let same : u.lock ≡ k = omega arith in inl (u, (in_second listed (u ∷ []) u (0, refl), same)))
          (λ ne. let close : k % 64 < 64 = omega arith in inr (new.0, bit_at_clear_other w64 left t near (k % 64) close ne ∙ new.1)))
          (h.all k lt is);
    }

-- what is left to count, of the words from i on
pub count_more : (row : List ℕ) (i : ℕ) → i < length row
    → sum_by count_ones (drop i row) ≡ count_ones (slice_index row i) + sum_by count_ones (drop (i + 1) row)
count_more row i lt = at_drop_more (sum_by count_ones) row i 0 lt ∙ sum_by-cons count_ones (slice_index row i) (drop (i + 1) row)

-- what the copy has of all locks is what the attempt used
pub all_uses : (v : View) (copy : VersionCopy) (listed : List LockUse) → IsVersionCopy copy v.uses v.owed v.trace v.undo v.phase
    → (v.phase ≡ Running) ⊎ ((v.phase ≡ Withdrawing) × (v.undo ≡ [])) → ListsBelow copy LOCKS listed → AreUsesOf v listed
all_uses v copy listed i may h = record {
  rising = h.rising;
  each = λ u t. let is = h.each u t in
      let used : has u.lock (locks_found v.uses) ≡ true = bit_used copy v.uses v.owed v.trace v.undo v.phase i u.lock is.near true (sym is.used) in record {
        found = subst (λ (x : ℕ). IsIn (u.lock, x) v.uses) (sym is.copied.version) (used_found copy v.uses v.owed v.trace v.undo v.phase i u.lock used);
        once = λ x old. sym (i.found_are u.lock x old) ∙ sym is.copied.version;
        wrote = bit_written copy v.uses v.owed v.trace v.undo v.phase i u.lock is.near u.wrote is.copied.wrote may;
      };
  all = λ k used. let near : k < LOCKS = i.used_are.near k used in h.all k near (i.used_are.bits k near ∙ ap flag used);
}
