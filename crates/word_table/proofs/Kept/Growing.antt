-- The clock has room for one more, and so has a version: there are no more timestamps than calls that were begun, and no
-- version is greater than their number.
use Rattle.word_table.proofs.Common.{◌≡◌, ℕ, zero, suc, ◌*◌, ◌^◌, ◌<◌, ◌≤◌, List, [], ◌∷◌, slice_index, sym, ap, subst, arith, View, calls_word, version_word}
use Rattle.word_table.proofs.Common.{LOCKS, load_version_action, draw_stamp_action, own, MOST_PASSES, Grows}
use Rattle.history_model.specs.Counts.{calls_below}

calls_small : (n m : ℕ) (ws : List ℕ) → ((j : ℕ) → j < m → slice_index ws (calls_word n j) < 2 ^ 32) → calls_below n m ws ≤ m * 2 ^ 32
unfolding calls_below
calls_small n zero ws few = omega arith
calls_small n (suc m) ws few = let rest = calls_small n m ws (λ j lt. few j (omega arith)) in let here = few m (omega arith) in omega arith

pub draw_grows : (good : List ℕ → Type 0) (v : View) (j : ℕ) → v.who ≡ j ∷ [] → v.seats ≤ MOST_PASSES → Grows good (draw_stamp_action j v) v
draw_grows good v j single few n base ws vs id h me =
    let o = own n base ws vs id j v h.locks me single in
    let small = calls_small n n ws (λ i lt. h.values.calls.calls_fit i lt) in
    let counted = h.stamps.drawn.counted in
    let seats = o.seats in
    omega arith

pub version_grows : (good : List ℕ → Type 0) (v : View) (j k : ℕ) → v.who ≡ j ∷ [] → v.seats ≤ MOST_PASSES → k < LOCKS
    → Grows good (load_version_action j k v) v
version_grows good v j k single few near n base ws vs id h me =
    let o = own n base ws vs id j v h.locks me single in
    let small = calls_small n n ws (λ i lt. h.values.calls.calls_fit i lt) in
    let counted = h.versions.counted in
    let seats = o.seats in
    let place : version_word v.seats k ≡ version_word n k = ap (λ (m : ℕ). version_word m k) o.seats in
    let low : slice_index ws (version_word v.seats k) ≤ h.versions.ended =
    subst (λ (i : ℕ). slice_index ws i ≤ h.versions.ended) (sym place) (h.versions.words_below k near) in
    omega arith
