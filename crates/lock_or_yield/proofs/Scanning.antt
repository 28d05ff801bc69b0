-- What scan leaves of what a pass knows, and how many seats a claim still has to scan.
use Rattle.lock_or_yield.proofs.Common.{◌≡◌, ◌≢◌, ℕ, zero, suc, ◌+◌, ◌<◌, Bool, true, false, inl, inr, List, [], ◌∷◌, refl, sym, ap, ◌∙◌, subst, arith, ◌==◌}
use Rattle.lock_or_yield.proofs.Common.{if◌then◌else◌, View, has, has_pair, number, HasWriteGrant, has-join_same, pair-join_same, after_meeting, GrantsStay}
use Rattle.lock_or_yield.proofs.Common.{IsUnscanned, ScansClear}
use Rattle.word_table.proofs.Common.{differ, ScannedBy}
use Rattle.std.proofs.Common.{◌%◌, ◌≤◌, ◌||◌, slice_index}
use mathlib.Core.Logic.{dite}
use native.Mathlib.Decide.{ℕ_discrete}
use Rattle.std.specs.Int.{bit_at}
use Rattle.history_model.proofs.SetLemmas.{pair-join_other}
use Rattle.word_table.specs.declared.answer.Scanned.TheVariants as scanned

-- 1 if seat j is another and was not found clear for the claim on lock k
abbrev pub left_at : ℕ → ℕ → List ℕ → List (ℕ × ℕ) → ℕ
left_at j k who scans = if has j who || has_pair k j scans then 0 else 1

-- how many of the first n seats are such
abbrev pub left_below : ℕ → ℕ → List ℕ → List (ℕ × ℕ) → ℕ
left_below zero k who scans = 0
left_below (suc n) k who scans = left_below n k who scans + left_at n k who scans

-- once seat i was found clear, the others are as before
left_other : (j i k : ℕ) (who : List ℕ) (scans : List (ℕ × ℕ)) → j ≢ i → left_at j k who ((k, i) ∷ scans) ≡ left_at j k who scans
left_other j i k who scans n = ap (λ (b : Bool). if has j who || b then 0 else 1) (pair-join_other k j k i scans (inr n))

left_same : (n i k : ℕ) (who : List ℕ) (scans : List (ℕ × ℕ)) → n ≤ i → left_below n k who ((k, i) ∷ scans) ≡ left_below n k who scans
left_same zero i k who scans low = refl
left_same (suc n) i k who scans low =
    let here = left_other n i k who scans (λ e. omega arith) in
    let rest = left_same n i k who scans (omega arith) in omega arith

-- and so there is one less
pub left_fewer : (n i k : ℕ) (who : List ℕ) (scans : List (ℕ × ℕ)) → i < n → has i who ≡ false
    → has_pair k i scans ≡ false → left_below n k who ((k, i) ∷ scans) < left_below n k who scans
left_fewer zero i k who scans low other fresh = absurd (omega arith)
left_fewer (suc n) i k who scans low other fresh = dite (ℕ_discrete i n)
    (λ e. let rest = left_same n i k who scans (omega arith) in
    let done : left_at n k who ((k, i) ∷ scans) ≡ 0 = subst (λ (j : ℕ). left_at j k who ((k, i) ∷ scans) ≡ 0) e (rw (other, pair-join_same k i scans) refl) in
    let open_still : left_at n k who scans ≡ 1 = subst (λ (j : ℕ). left_at j k who scans ≡ 1) e (rw (other, fresh) refl) in omega arith)
    (λ ne. let here = left_other n i k who scans (λ e. ne (sym e)) in
    let rest = left_fewer n i k who scans (omega arith) other fresh in omega arith)

-- a seat that was met changes nothing but that
pub scan_met : (sound : List ℕ → List View → Type 0) (v : View) (k i j : ℕ) (u : View)
    → ScannedBy sound v k i (scanned.Met j) u → (j ≡ i) × (u ≡ after_meeting v k j)
scan_met sound v k i j u s =
    let met = s.met_set j refl in
    let clear : View = record v { scans = (k, i) ∷ v.scans } in
    (met.0, s.taken.view ∙ (ap (λ (x : ℕ). if x == 0 then clear else after_meeting v k i) met.1 ∙ ap (λ (x : ℕ). after_meeting v k x) (sym met.0)))

-- a seat that was not met is found clear
pub scan_clear : (sound : List ℕ → List View → Type 0) (v : View) (k i : ℕ) (u : View)
    → ScannedBy sound v k i scanned.Clear u → u ≡ record v { scans = (k, i) ∷ v.scans }
scan_clear sound v k i u s =
    let clear : View = record v { scans = (k, i) ∷ v.scans } in
    s.taken.view ∙ (elim (bit_at s.found (k % 64) == 0) as (λ (b : Bool). scanned.Clear
    ≡ (if b then scanned.Clear else scanned.Met i) → (if b then clear else after_meeting v k i) ≡ clear) [
      | true ↦ λ e. refl
      | false ↦ λ e. absurd cc
    ] s.answer)

pub clear_more : (k i : ℕ) (old v new : View) → ScansClear k old v → new ≡ record v { scans = (k, i) ∷ v.scans } → GrantsStay v new → ScansClear k old new
clear_more k i old v new c e grants =
    let last : new.scans ≡ (k, i) ∷ v.scans = ap (λ (x : View). x.scans) e in record {
      view = e ∙ (ap (λ (x : View). record x { scans = (k, i) ∷ v.scans }) c.view ∙ ap (λ (ps : List (ℕ × ℕ)). record old { scans = ps }) (sym last));
      scans = λ l j n. ap (λ (ps : List (ℕ × ℕ)). has_pair l j ps) last ∙ (pair-join_other l j k i v.scans (inl n) ∙ c.scans l j n);
      grants = λ l. (λ t. (grants l).0 ((c.grants l).0 t), λ t. (grants l).1 ((c.grants l).1 t));
    }

-- a seat that is left to scan is another's, and the lock is not held for writing
pub left_other_seat : (old v : View) (k i who : ℕ) → old.who ≡ who ∷ [] → ScansClear k old v → IsUnscanned v k i → i ≢ number v
left_other_seat old v k i who one c left e =
    let same : v.who ≡ who ∷ [] = ap (λ (x : View). x.who) c.view ∙ one in
    let own : number v ≡ who = ap (λ (l : List ℕ). slice_index l 0) same in
    differ (has i v.who) (ap (λ (l : List ℕ). has i l) same ∙ (ap (λ (x : ℕ). has x (who ∷ [])) (e ∙ own) ∙ has-join_same who [])) left.other

pub left_not_held : (old v : View) (k i : ℕ) → ScansClear k old v → IsUnscanned v k i → HasWriteGrant old k → ⊥
left_not_held old v k i c left held = differ (has_pair k i v.scans) (((c.grants k).1 held).1 i left.seat left.other) left.unscanned

-- one that was found clear is one less
pub fewer_left : (k i : ℕ) (v new : View) → IsUnscanned v k i → new ≡ record v { scans = (k, i) ∷ v.scans }
    → left_below new.seats k new.who new.scans < left_below v.seats k v.who v.scans
fewer_left k i v new left e = subst (λ (x : View). left_below x.seats k x.who x.scans
    < left_below v.seats k v.who v.scans) (sym e) (left_fewer v.seats i k v.who v.scans left.seat left.other left.unscanned)
