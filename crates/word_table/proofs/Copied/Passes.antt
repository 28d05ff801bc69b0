-- What a pass's own copy says of its view.
use Rattle.word_table.proofs.Common.{◌≡◌, ◌≢◌, ℕ, ◌-◌, ◌^◌, ◌<◌, ◌≤◌, Bool, true, false, ⊎_elim, List, [], ◌∷◌, refl, sym, ap, ◌∙◌, subst, arith, bit_and}
use Rattle.word_table.proofs.Common.{bit_at, bit_not, cases_lt, bit_at_and, w64, LOCKS, View, has, has_pair, flag, HasClaim, bool_cases, other_number}
use Rattle.word_table.proofs.Common.{MOST_PASSES, ShowsLocks, ShowsOthers, IsLeast, IsUnscanned}
use Rattle.values_rule.proofs.Common.{HasWriteGrant}
use Rattle.std.proofs.Common.{min}
use Rattle.std.specs.Prelude.{IfSome, IsNone, Option, Some, None}
use Rattle.std.proofs.lemmas.Nat.Bits.{bit_at_not}
use Rattle.locks_rule.proofs.Own.{not_own}

flag_zero : (b : Bool) → flag b ≡ 0 → b ≡ false
flag_zero true e = absurd (omega arith)
flag_zero false e = refl

-- the seats that a claim still has to scan are those of the mask that are not in the word of those scanned
module _ (v : View) (k seats who others scanned : ℕ) (claim : HasClaim v k) (so_many : v.seats ≡ seats) (single : v.who
    ≡ who ∷ []) (below : who < seats) (few : seats ≤ MOST_PASSES)
    (mask : ShowsOthers others seats who) (shown : (j : ℕ) → j < 64 → bit_at scanned j ≡ flag (has_pair k j v.scans)) (fits : scanned < 2 ^ 64) where
  abbrev left : ℕ
  left = bit_and others (bit_not w64 scanned)

  left_is : (j : ℕ) → j < 64 → bit_at left j ≡ min (bit_at others j) (1 - bit_at scanned j)
  left_is j lt = bit_at_and others (bit_not w64 scanned) j ∙ ap (λ (x : ℕ). min (bit_at others j) x) (bit_at_not w64 scanned j fits lt)

  to_scan : (j : ℕ) → bit_at left j ≡ 1 → IsUnscanned v k j
  to_scan j one = ⊎_elim
      (λ (lt : j < seats). let near : j < 64 = omega arith in let is = left_is j near in let ne : j ≢ who =
      λ e. (let none : bit_at others j ≡ 0 = subst (λ (x : ℕ). bit_at others x ≡ 0) (sym e) mask.own in omega arith) in record {
        claim = claim;
        seat = omega arith;
        other = other_number v who j single ne;
        unscanned = flag_zero (has_pair k j v.scans) (sym (shown j near) ∙ omega arith);
      })
      (λ (far : seats ≤ j). let none : bit_at others j ≡ 0 = mask.above j far in let is = bit_at_and others (bit_not w64 scanned) j in absurd (omega arith))
      (cases_lt j seats)

  stays_to_scan : (j : ℕ) → IsUnscanned v k j → bit_at left j ≡ 1
  stays_to_scan j u = let lt : j < seats = (let s = u.seat in omega arith) in let near : j < 64 = omega arith in
      let set : bit_at others j ≡ 1 = mask.others j lt (not_own v who j single u.other) in
      let clear : bit_at scanned j ≡ 0 = shown j near ∙ ap flag u.unscanned in
      let is = left_is j near in omega arith

  least_left : (o : Option ℕ) → IsLeast (λ j. bit_at left j ≡ 1) o → IsLeast (IsUnscanned v k) o
  least_left None none = λ j u. none j (stays_to_scan j u)
  least_left (Some j) least = (to_scan j least.0, λ i lt u. least.1 i lt (stays_to_scan i u))

  pub least_unscanned : (rest : ℕ) (o : Option ℕ) → rest ≡ left → IsLeast (λ j. bit_at rest j ≡ 1) o → IsLeast (IsUnscanned v k) o
  least_unscanned rest o is least = least_left o (subst (λ (w : ℕ). IsLeast (λ j. bit_at w j ≡ 1) o) is least)

-- with a claim and nobody left to scan the lock is held for writing
pub all_scanned : (v : View) (k : ℕ) (o : Option ℕ) → IsLeast (IsUnscanned v k) o → IsNone o → HasClaim v k → HasWriteGrant v k
all_scanned v k None none is claim = (
  claim,
  λ j lt away. ⊎_elim (λ t. t)
      (λ f. absurd (none j record { claim = claim; seat = lt; other = away; unscanned = f })) (bool_cases (has_pair k j v.scans)),
)
all_scanned v k (Some j) least is claim = cc

-- the least lock of some kind of a set that is shown is one of the locks
pub near_least : (row locks : List ℕ) (P : ℕ → Type 0) (o : Option ℕ) → ShowsLocks row locks
    → IsLeast (λ k. P k × (has k locks ≡ true)) o → IfSome o (λ k. k < LOCKS)
near_least row locks P None h l = tt
near_least row locks P (Some k) h l = h.near k l.0.1

-- the least from 0 on is the least
pub least_of_all : (locks : List ℕ) (o : Option ℕ) → IsLeast (λ k. (0 ≤ k) × (has k locks ≡ true)) o → IsLeast (λ k. has k locks ≡ true) o
least_of_all locks None none = λ k t. none k (omega arith, t)
least_of_all locks (Some j) least = (least.0.1, λ k lt t. least.1 k lt (omega arith, t))
