-- Bits of a pass's own rows and masks.
use Rattle.word_table.proofs.Common.{◌≡◌, ◌≢◌, ℕ, zero, suc, ◌+◌, ◌*◌, ◌/◌, ◌%◌, ◌^◌, ◌<◌, ◌≤◌, ◌-◌, Bool, true, false, inl, inr, ⊎_elim, List, [], ◌∷◌, length}
use Rattle.word_table.proofs.Common.{slice_index, slice_set, refl, sym, ap, ◌∙◌, subst, arith, length-set, get_or-set_other, get_or-set_same, replicate}
use Rattle.word_table.proofs.Common.{if◌then◌else◌, bit_and, bit_or, bit_at, bit_not, trailing_zeros, bit_at-zero, bit_at-trailing_zeros, bit_at_and}
use Rattle.word_table.proofs.Common.{bit_at_clear_same, bit_at_clear_other, cases_lt, w64, dite, ℕ_discrete, LOCKS, has, without, has_pair, without_first, flag}
use Rattle.word_table.proofs.Common.{differ, has-nil, has-join, has-join_same, has-without, has-without_same, has-without_other, pair-join_same}
use Rattle.word_table.proofs.Common.{pair-without_other, MOST_PASSES, ShowsLocks, ShowsOthers, ShowsPairs}
use Rattle.std.proofs.Common.{slice_index_or}
use Rattle.std.proofs.lemmas.Nat.Bits.{bit_at_set_same, bit_at_set_other, bit_at_ones, bit_at_ones_above, bit_at-lt, bit_at_mask_inside, bit_at_mask_below}
use Rattle.std.proofs.lemmas.Nat.Bits.{ones_shl, ones_shr}
use Rattle.history_model.proofs.SetLemmas.{has-join_other, pair-join_other, pair-without_same}
use Rattle.locks_rule.proofs.Bits.{put_same, put_other, raise_here, raise_there, lower_here, lower_there}

shows_put : (f : ℕ → ℕ) (row before after : List ℕ) (k : ℕ) → k < LOCKS
    → ((w : ℕ) → bit_at (f w) (k % 64) ≡ flag (has k after)) → ((w i : ℕ) → i < 64 → i ≢ k % 64 → bit_at (f w) i ≡ bit_at w i)
    → ((l : ℕ) → l ≢ k → has l after ≡ has l before) → ((l : ℕ) → has l after ≡ true → l < LOCKS)
    → ShowsLocks row before → ShowsLocks (slice_set row (k / 64) (f (slice_index row (k / 64)))) after
shows_put f row before after k near here there same close_all h =
    let i : ℕ = k / 64 in let sixteen : length row ≡ 16 = h.sixteen in let lt : i < length row = omega arith in record {
      sixteen = length-set row i _ ∙ sixteen;
      bits = λ l close. dite (ℕ_discrete l k)
          (λ e. subst (λ (z : ℕ). bit_at (slice_index (slice_set row i (f (slice_index row i))) (z / 64)) (z % 64)
          ≡ flag (has z after)) (sym e) (put_same f (flag (has k after)) k here there row i lt))
          (λ ne. put_other f (flag (has k after)) k here there row 0 i (l / 64) l (omega arith) (omega arith) lt ne
          ∙ (h.bits l close ∙ ap flag (sym (same l ne))));
      near = close_all;
    }

pub shows_raise : (row locks : List ℕ) (k x : ℕ) → k < LOCKS → x ≡ bit_or (slice_index row (k / 64)) (2 ^ (k % 64))
    → ShowsLocks row locks → ShowsLocks (slice_set row (k / 64) x) (k ∷ locks)
shows_raise row locks k x near e h = subst (λ (y : ℕ). ShowsLocks (slice_set row (k / 64) y) (k ∷ locks)) (sym e)
    (shows_put (λ w. bit_or w (2 ^ (k % 64))) row locks (k ∷ locks) k near (λ w. raise_here k w
    ∙ ap flag (sym (has-join_same k locks))) (raise_there k) (λ l ne. has-join_other l k locks ne)
    (λ l t. ⊎_elim (λ (z : l ≡ k). subst (λ (y : ℕ). y < LOCKS) (sym z) near) (λ old. h.near l old) (has-join l k locks t)) h)

pub shows_lower : (row locks : List ℕ) (k x : ℕ) → k < LOCKS
    → x ≡ bit_and (slice_index row (k / 64)) (bit_not w64 (2 ^ (k % 64))) → ShowsLocks row locks → ShowsLocks (slice_set row (k / 64) x) (without k locks)
shows_lower row locks k x near e h = subst (λ (y : ℕ). ShowsLocks (slice_set row (k / 64) y) (without k locks)) (sym e)
    (shows_put (λ w. bit_and w (bit_not w64 (2 ^ (k % 64)))) row locks (without k locks) k near (λ w. lower_here k w
    ∙ ap flag (sym (has-without_same k locks))) (lower_there k) (λ l ne. has-without_other l k locks ne)
    (λ l t. h.near l (has-without l k locks t).1) h)

pub raise_yes : (row locks : List ℕ) (k : ℕ) (b : Bool) → b ≡ true → ShowsLocks row (k ∷ locks) → ShowsLocks row (if b then k ∷ locks else locks)
raise_yes row locks k b e h = subst (λ (z : Bool). ShowsLocks row (if z then k ∷ locks else locks)) (sym e) h

-- masks after the seats scanned for k are forgotten, and after one more is noted
forgets : (masks : List ℕ) (pairs : List (ℕ × ℕ)) (k : ℕ) → k < length masks → ShowsPairs masks pairs → ShowsPairs (slice_set masks k 0) (without_first k pairs)
forgets masks pairs k near h = record {
  each_lock = length-set masks k 0 ∙ h.each_lock;
  bits = λ l j close lt. dite (ℕ_discrete l k)
      (λ e. subst (λ (z : ℕ). bit_at (slice_index (slice_set masks k 0) z) j
      ≡ flag (has_pair z j (without_first k pairs))) (sym e)
      (ap (λ (x : ℕ). bit_at x j) (get_or-set_same masks k 0 0 near) ∙ (bit_at-zero j ∙ ap flag (sym (pair-without_same k j pairs)))))
      (λ ne. ap (λ (x : ℕ). bit_at x j) (get_or-set_other masks k l 0 0 ne) ∙ (h.bits l j close lt ∙ ap flag (sym (pair-without_other l j k pairs ne))));
}

notes : (masks : List ℕ) (pairs : List (ℕ × ℕ)) (k i x : ℕ) → k < length masks → i < 64
    → x ≡ bit_or (slice_index masks k) (1 * 2 ^ i % 2 ^ 64) → ShowsPairs masks pairs → ShowsPairs (slice_set masks k x) ((k, i) ∷ pairs)
notes masks pairs k i x near small e h = record {
  each_lock = length-set masks k x ∙ h.each_lock;
  bits = λ l j close lt. dite (ℕ_discrete l k)
      (λ same. subst (λ (z : ℕ). bit_at (slice_index (slice_set masks k x) z) j ≡ flag (has_pair z j ((k, i) ∷ pairs))) (sym same)
      (ap (λ (y : ℕ). bit_at y j) (get_or-set_same masks k x 0 near ∙ e) ∙ dite (ℕ_discrete j i)
      (λ f. subst (λ (y : ℕ). bit_at (bit_or (slice_index masks k) (1 * 2 ^ i % 2 ^ 64)) y
      ≡ flag (has_pair k y ((k, i) ∷ pairs))) (sym f) (bit_at_set_same w64 (slice_index masks k) i small ∙ ap flag (sym (pair-join_same k i pairs))))
      (λ n. bit_at_set_other w64 (slice_index masks k) i small j n
      ∙ (subst (λ (z : ℕ). bit_at (slice_index masks z) j ≡ flag (has_pair z j pairs)) same (h.bits l j close lt)
      ∙ ap flag (sym (pair-join_other k j k i pairs (inr n)))))))
      (λ ne. ap (λ (y : ℕ). bit_at y j) (get_or-set_other masks k l x 0 ne) ∙ (h.bits l j close lt ∙ ap flag (sym (pair-join_other l j k i pairs (inl ne)))));
}

pub forget_yes : (masks : List ℕ) (pairs : List (ℕ × ℕ)) (k : ℕ) (b : Bool) → b ≡ true → k < length masks
    → ShowsPairs masks pairs → ShowsPairs (slice_set masks k 0) (if b then without_first k pairs else pairs)
forget_yes masks pairs k b e near h =
    subst (λ (z : Bool). ShowsPairs (slice_set masks k 0) (if z then without_first k pairs else pairs)) (sym e) (forgets masks pairs k near h)

any_default : (l : List ℕ) (i d e : ℕ) → i < length l → slice_index_or l i d ≡ slice_index_or l i e
any_default [] i d e h = absurd (omega arith)
any_default (x ∷ xs) zero d e h = refl
any_default (x ∷ xs) (suc i) d e h = any_default xs i d e (omega arith)

pub note_yes : (masks : List ℕ) (pairs : List (ℕ × ℕ)) (k i old : ℕ) (b : Bool) → b ≡ true → k < length masks → i < 64
    → old ≡ slice_index_or masks k old → ShowsPairs masks pairs
    → ShowsPairs (slice_set masks k (bit_or old (1 * 2 ^ i % 2 ^ 64))) (if b then (k, i) ∷ pairs else pairs)
note_yes masks pairs k i old b e near small is h =
    subst (λ (z : Bool). ShowsPairs (slice_set masks k (bit_or old (1 * 2 ^ i % 2 ^ 64))) (if z then (k, i) ∷ pairs else pairs)) (sym e)
    (notes masks pairs k i (bit_or old (1 * 2 ^ i % 2 ^ 64)) near small (ap (λ (w : ℕ). bit_or w (1 * 2 ^ i % 2 ^ 64)) (is ∙ any_default masks k old 0 near)) h)

-- a lock of the set has its bit in a word that is not 0
word_of_lock : (row locks : List ℕ) (k : ℕ) → ShowsLocks row locks → has k locks ≡ true → bit_at (slice_index row (k / 64)) (k % 64) ≡ 1
word_of_lock row locks k h t = h.bits k (h.near k t) ∙ ap flag t

no_bit : (w b : ℕ) → w ≡ 0 → bit_at w b ≡ 0
no_bit w b e = ap (λ (x : ℕ). bit_at x b) e ∙ bit_at-zero b

flag_true : (b : Bool) → flag b ≡ 1 → b ≡ true
flag_true true e = refl
flag_true false e = absurd (omega arith)

-- the word i with its bits below `from` cleared
pub high_above : (w from b : ℕ) → from < 64 → from ≤ b → b < 64 → bit_at (bit_and w ((2 ^ 64 - 1) * 2 ^ from % 2 ^ 64)) b ≡ bit_at w b
high_above w from b small le lt = let within : from ≤ 64 = omega arith in let mask : (2 ^ 64 - 1) * 2 ^ from % 2 ^ 64
    ≡ 2 ^ 64 - 2 ^ from = ones_shl 64 from within in
    let one : bit_at ((2 ^ 64 - 1) * 2 ^ from % 2 ^ 64) b ≡ 1 = ap (λ (m : ℕ). bit_at m b) mask ∙ bit_at_mask_inside from 64 b le lt in
    rw (bit_at_and w ((2 ^ 64 - 1) * 2 ^ from % 2 ^ 64) b, one) (let two : bit_at w b < 2 = bit_at-lt w b in omega arith)

pub high_below : (w from b : ℕ) → from < 64 → b < from → bit_at (bit_and w ((2 ^ 64 - 1) * 2 ^ from % 2 ^ 64)) b ≡ 0
high_below w from b small lt = let within : from ≤ 64 = omega arith in let mask : (2 ^ 64 - 1) * 2 ^ from % 2 ^ 64
    ≡ 2 ^ 64 - 2 ^ from = ones_shl 64 from within in
    let none : bit_at ((2 ^ 64 - 1) * 2 ^ from % 2 ^ 64) b ≡ 0 = ap (λ (m : ℕ). bit_at m b) mask ∙ bit_at_mask_below from 64 b lt in
    rw (bit_at_and w ((2 ^ 64 - 1) * 2 ^ from % 2 ^ 64) b, none) (omega arith)

-- no lock from `from` on has a bit in the words before the word m
abbrev pub NoneBefore : List ℕ → ℕ → ℕ → Type 0
NoneBefore row from m = (k : ℕ) → from ≤ k → k < 64 * m → bit_at (slice_index row (k / 64)) (k % 64) ≡ 0

-- the lock of the lowest bit of w, which has the bits of the word i from `from` on
pub least_at : (row locks : List ℕ) (from i w : ℕ) → i < 16 → w ≢ 0 → w < 2 ^ 64
    → ((b : ℕ) → b < 64 → from ≤ 64 * i + b → bit_at w b ≡ bit_at (slice_index row i) b)
    → ((b : ℕ) → 64 * i + b < from → bit_at w b ≡ 0) → NoneBefore row from i → ShowsLocks row locks
    → ((from ≤ 64 * i + trailing_zeros w64 w) × (has (64 * i + trailing_zeros w64 w) locks ≡ true))
    × ((k : ℕ) → k < 64 * i + trailing_zeros w64 w → ¬ ((from ≤ k) × (has k locks ≡ true)))
least_at row locks from i w small some_bit fits agree low_clear before h =
    let low = bit_at-trailing_zeros w64 w (omega arith) fits in let t : ℕ = trailing_zeros w64 w in
    let below : t < 64 = low.0 in let set_low : bit_at w t ≡ 1 = low.1 in
    let reached : from ≤ 64 * i + t = ⊎_elim (λ (lt : 64 * i + t < from). let clear : bit_at w t ≡ 0 = low_clear t lt in
    absurd (omega arith)) (λ (le : from ≤ 64 * i + t). le) (cases_lt (64 * i + t) from) in
    let quotient : (64 * i + t) / 64 ≡ i = omega arith in let remainder : (64 * i + t) % 64 ≡ t = omega arith in
    let set : bit_at (slice_index row ((64 * i + t) / 64)) ((64 * i + t) % 64) ≡ 1 =
    subst (λ (b : ℕ). bit_at (slice_index row ((64 * i + t) / 64)) b ≡ 1) (sym remainder)
    (subst (λ (m : ℕ). bit_at (slice_index row m) t ≡ 1) (sym quotient) (sym (agree t below reached) ∙ set_low)) in
    let near : 64 * i + t < 1024 = omega arith in (
      (reached, flag_true (has (64 * i + t) locks) (sym (h.bits (64 * i + t) near) ∙ set)),
      λ k lt it. let one : bit_at (slice_index row (k / 64)) (k % 64) ≡ 1 = word_of_lock row locks k h it.1 in
          ⊎_elim
          (λ (early : k < 64 * i). let none : bit_at (slice_index row (k / 64)) (k % 64) ≡ 0 = before k it.0 early in absurd (omega arith))
          (λ (late : 64 * i ≤ k). let same : k / 64 ≡ i = omega arith in let sooner : k % 64 < t = omega arith in
          let close : k % 64 < 64 = omega arith in let place : from ≤ 64 * i + k % 64 = (let start = it.0 in omega arith) in
          let clear : bit_at w (k % 64) ≡ 0 = low.2 (k % 64) sooner in
          let there : bit_at (slice_index row (k / 64)) (k % 64) ≡ 0 =
          ap (λ (m : ℕ). bit_at (slice_index row m) (k % 64)) same ∙ (sym (agree (k % 64) close place) ∙ clear) in absurd (omega arith))
          (cases_lt k (64 * i)),
    )

-- the least lock that has its bit in the word i, and none if the word is 0
pub least_within : (row locks : List ℕ) (i : ℕ) → i < 16 → slice_index row i ≢ 0 → slice_index row i < 2 ^ 64 → ShowsLocks row locks
    → (((64 * i + trailing_zeros w64 (slice_index row i)) / 64 ≡ i) × (has (64 * i + trailing_zeros w64 (slice_index row i)) locks ≡ true))
    × ((k : ℕ) → k < 64 * i + trailing_zeros w64 (slice_index row i) → ¬ ((k / 64 ≡ i) × (has k locks ≡ true)))
least_within row locks i small some_bit fits h =
    let w : ℕ = slice_index row i in let t : ℕ = trailing_zeros w64 w in
    let below : t < 64 = (bit_at-trailing_zeros w64 w (omega arith) fits).0 in
    let found = least_at row locks (64 * i) i w small some_bit fits (λ b lt le. refl) (λ b lt. absurd (omega arith)) (λ k le lt. absurd (omega arith)) h in (
      (omega arith, found.0.1),
      λ k lt it. found.1 k lt (let word = it.0 in omega arith, it.1),
    )

pub none_within : (row locks : List ℕ) (i : ℕ) → slice_index row i ≡ 0 → ShowsLocks row locks → (k : ℕ) → ¬ ((k / 64 ≡ i) × (has k locks ≡ true))
none_within row locks i zeroed h k it =
    let set : bit_at (slice_index row (k / 64)) (k % 64) ≡ 1 = word_of_lock row locks k h it.1 in
    let clear : bit_at (slice_index row (k / 64)) (k % 64) ≡ 0 = ap (λ (m : ℕ). bit_at (slice_index row m) (k % 64)) it.0
    ∙ no_bit (slice_index row i) (k % 64) zeroed in
    absurd (omega arith)

-- all seats but one, as the code makes them
pub shows_others : (seats who : ℕ) → who < seats → seats ≤ MOST_PASSES
    → ShowsOthers (bit_and ((2 ^ 64 - 1) / 2 ^ (64 - seats)) (bit_not w64 (1 * 2 ^ who % 2 ^ 64))) seats who
shows_others seats who lt few =
    let left : 64 - (64 - seats) ≡ seats = omega arith in let within : 64 - seats ≤ 64 = omega arith in let near : who < 64 = omega arith in
    let ones : (2 ^ 64 - 1) / 2 ^ (64 - seats) ≡ 2 ^ seats - 1 = ones_shr 64 (64 - seats) within ∙ ap (λ (x : ℕ). 2 ^ x - 1) left in
    subst (λ (m : ℕ). ShowsOthers (bit_and m (bit_not w64 (1 * 2 ^ who % 2 ^ 64))) seats who) (sym ones) record {
      own = bit_at_clear_same w64 (2 ^ seats - 1) who near;
      others = λ j below ne. let close : j < 64 = omega arith in bit_at_clear_other w64 (2 ^ seats - 1) who near j close ne ∙ bit_at_ones seats j below;
      above = λ j far. bit_at_and (2 ^ seats - 1) (bit_not w64 (1 * 2 ^ who % 2 ^ 64)) j
          ∙ (let none : bit_at (2 ^ seats - 1) j ≡ 0 = bit_at_ones_above seats j far in omega arith);
    }

pub least_bit : (w : ℕ) → w ≢ 0 → w < 2 ^ 64 → (bit_at w (trailing_zeros w64 w) ≡ 1) × ((k : ℕ) → k < trailing_zeros w64 w → ¬ (bit_at w k ≡ 1))
least_bit w some fits = let low = bit_at-trailing_zeros w64 w (omega arith) fits in
    (low.1, λ k lt one. let clear : bit_at w k ≡ 0 = low.2 k lt in absurd (omega arith))

-- a row, or masks, of zeros
abbrev pub zeros : ℕ → List ℕ
zeros m = replicate m 0

pub zero_at : (m i : ℕ) → slice_index (zeros m) i ≡ 0
zero_at zero i = refl
zero_at (suc m) zero = refl
zero_at (suc m) (suc i) = zero_at m i

pub zeros_count : (m : ℕ) → length (zeros m) ≡ m
zeros_count zero = refl
zeros_count (suc m) = ap suc (zeros_count m)

pub shows_none : ShowsLocks (zeros 16) []
shows_none = record {
  sixteen = zeros_count 16;
  bits = λ k near. ap (λ (x : ℕ). bit_at x (k % 64)) (zero_at 16 (k / 64)) ∙ (bit_at-zero (k % 64) ∙ sym (ap flag (has-nil k)));
  near = λ k t. absurd (differ (has k []) t (has-nil k));
}

-- a row that is cleared unless a test says so
pub cleared_unless : (row locks : List ℕ) (b : Bool) → b ≡ false → ShowsLocks (zeros 16) (if b then locks else [])
cleared_unless row locks b off = subst (λ (x : Bool). ShowsLocks (zeros 16) (if x then locks else [])) (sym off) shows_none
