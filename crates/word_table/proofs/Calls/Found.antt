-- What a number that was found in the table, or is stored there, says while the rule holds.
use Rattle.word_table.proofs.Common.{◌≡◌, ◌≢◌, ℕ, zero, suc, ◌+◌, ◌*◌, ◌/◌, ◌%◌, ◌^◌, ◌<◌, ◌≤◌, true, inl, inr, ⊎_elim, List, [], ◌∷◌, slice_index, sym, ap}
use Rattle.word_table.proofs.Common.{◌∙◌, subst, arith, bit_and, bit_or, bit_at, bit_not, w64, LOCKS, View, IsAt, has, flag, Knows, row_word, writer_word}
use Rattle.word_table.proofs.Common.{HasClaim, LocksHold, set_read_bit_action, clear_read_bit_action, bool_cases, MOST_PASSES, ShowsLocks, Stores}
use Rattle.std.proofs.lemmas.Nat.Bits.{same_from_bits_below}
use Rattle.locks_rule.proofs.Own.{own_word, writer_same, own_seat, so_many}

-- in these views seat i stands on lock k
abbrev pub StandsIn : List View → ℕ → ℕ → Type 0
StandsIn vs k i = (place : ℕ) × (u : View) × Knows vs place u × IsAt u k i

module _ (n : ℕ) (base ws : List ℕ) (vs : List View) (id : ℕ) (v : View) (j k : ℕ) (h : LocksHold n base ws vs)
    (me : Knows vs id v) (single : v.who ≡ j ∷ []) (near : k < LOCKS) where
  -- a writer word that was found names a seat that claims
  pub claimant_found : (w i : ℕ) → slice_index ws (writer_word v.seats k) ≡ w → w ≡ i + 1 → (i < v.seats) × StandsIn vs k i
  claimant_found w i e is =
      let b : v.seats ≡ n = so_many n base ws vs id v h me j k single near in
      let c = h.writers_show_claims i k near (writer_same n base ws vs id v h me j k single near ∙ (e ∙ is)) in
      let lt : i < n = h.numbers_below c.0 i c.1 c.2 in
      (omega arith, (c.0, c.1, c.2.knows, record { named = c.2.named; holds = inr c.3; asked = h.claims_were_asked c.0 k c.1 c.2.knows c.3 }))

  -- so it is small
  pub writer_small : (w : ℕ) → slice_index ws (writer_word v.seats k) ≡ w → v.seats ≤ MOST_PASSES → w ≤ MOST_PASSES
  writer_small zero e few = omega arith
  writer_small (suc i) e few = let lt = (claimant_found (suc i) i e (omega arith)).0 in omega arith

  -- and it is not the own number if the seat has no claim
  pub not_own_found : (w : ℕ) → slice_index ws (writer_word v.seats k) ≡ w → ¬ HasClaim v k → w ≢ j + 1
  not_own_found w e no_claim own = no_claim (own_word n base ws vs id v h me j k single near (writer_same n base ws vs id v h me j k single near ∙ (e ∙ own)))

  -- a row word that was found shows a seat with a bit
  pub reader_found : (i w : ℕ) → i < v.seats → slice_index ws (row_word v.seats i k) ≡ w → bit_at w (k % 64) ≢ 0 → StandsIn vs k i
  reader_found i w lt e set =
      let b : v.seats ≡ n = so_many n base ws vs id v h me j k single near in
      let s = h.numbers_placed i (omega arith) in
      let shown : bit_at w (k % 64) ≡ flag (has k s.1.bits) =
      ap (λ (x : ℕ). bit_at x (k % 64)) (sym e ∙ ap (λ (m : ℕ). slice_index ws (row_word m i k)) b) ∙ h.rows_show_bits s.0 i k s.1 s.2 near in
      let bit : has k s.1.bits ≡ true = ⊎_elim (λ t. t) (λ f. absurd (set (shown ∙ ap flag f))) (bool_cases (has k s.1.bits)) in
      (s.0, s.1, s.2.knows, record { named = s.2.named; holds = inl bit; asked = h.bits_were_asked s.0 k s.1 s.2.knows bit })

  -- the table's row word is the pass's own
  same_word : (row : List ℕ) → ShowsLocks row v.bits → slice_index row (k / 64) < 2 ^ 64
      → slice_index ws (row_word v.seats j k) < 2 ^ 64 → slice_index ws (row_word v.seats j k) ≡ slice_index row (k / 64)
  same_word row shown fits wide = same_from_bits_below 64 (slice_index ws (row_word v.seats j k)) (slice_index row (k / 64)) wide fits
      (λ i lt. let l : ℕ = 64 * (k / 64) + i in let b : v.seats ≡ n = so_many n base ws vs id v h me j k single near in
      let q : l / 64 ≡ k / 64 = omega arith in let r : l % 64 ≡ i = omega arith in let close : l < 1024 = omega arith in
      let place : row_word n j l ≡ row_word v.seats j k = omega arith in
      let A : ℕ → ℕ → Type 0 = λ x y. bit_at (slice_index ws x) y ≡ flag (has l v.bits) in
      let a : bit_at (slice_index ws (row_word v.seats j k)) i ≡ flag (has l v.bits) =
      subst (λ (y : ℕ). A (row_word v.seats j k) y) r
      (subst (λ (x : ℕ). A x (l % 64)) place (h.rows_show_bits id j l v (own_seat n base ws vs id v h me j k single near) close)) in
      let c : bit_at (slice_index row (k / 64)) i ≡ flag (has l v.bits) =
      subst (λ (y : ℕ). bit_at (slice_index row (k / 64)) y ≡ flag (has l v.bits)) r
      (subst (λ (x : ℕ). bit_at (slice_index row x) (l % 64) ≡ flag (has l v.bits)) q (shown.bits l close)) in
      a ∙ sym c)

pub set_stores : (v : View) (row : List ℕ) (j k a x : ℕ) → v.who ≡ j ∷ [] → k < LOCKS → ShowsLocks row v.bits
    → slice_index row (k / 64) < 2 ^ 64 → x ≡ bit_or (slice_index row (k / 64)) (2 ^ (k % 64)) → Stores (set_read_bit_action j k a v) v x
set_stores v row j k a x single near shown fits e n base ws vs id h me wide =
    ap (λ (w : ℕ). bit_or w (2 ^ (k % 64))) (same_word n base ws vs id v j k h me single near row shown fits wide) ∙ sym e

pub clear_stores : (v : View) (row : List ℕ) (j k x : ℕ) → v.who ≡ j ∷ [] → k < LOCKS → ShowsLocks row v.bits
    → slice_index row (k / 64) < 2 ^ 64 → x ≡ bit_and (slice_index row (k / 64)) (bit_not w64 (2 ^ (k % 64))) → Stores (clear_read_bit_action j k v) v x
clear_stores v row j k x single near shown fits e n base ws vs id h me wide =
    ap (λ (w : ℕ). bit_and w (bit_not w64 (2 ^ (k % 64)))) (same_word n base ws vs id v j k h me single near row shown fits wide) ∙ sym e
