-- What a step on locks leaves: the call, and every lock that was held.
use Rattle.word_table.proofs.Common.{◌≡◌, ◌≢◌, ℕ, suc, ◌-◌, ◌%◌, Bool, true, false, inl, inr, List, ◌∷◌, length, refl, sym, ap, arith, ◌∙◌, subst, ◌==◌}
use Rattle.word_table.proofs.Common.{if◌then◌else◌, bit_at, View, lock_of_word, has, without_first, number, HasBit, HasReadGrant, HasClaim, IsGranted, is_free}
use Rattle.word_table.proofs.Common.{set_read_bit_action, clear_read_bit_action, load_writer_action, claim_writer_action, scan_row_action}
use Rattle.word_table.proofs.Common.{release_writer_action, after_asking, after_meeting, differ, has-without_same, Shared, Claimed, Scanned, with_bit, SharedBy}
use Rattle.word_table.proofs.Common.{ClaimedBy, ScannedBy, GrantsStay}
use Rattle.word_table.specs.Calls.{SameCall}
use Rattle.word_table.proofs.Calls.Answering.{with_bit_cases}
use Rattle.word_table.proofs.Copied.After.{grants_read, grants_claim, grants_scan}

-- a step on locks leaves the call and the locks that are held
pub record Leaves (old new : View) : Type 0 where
  pub call : SameCall old new
  pub grants : GrantsStay old new

leaves_all : (v : View) → Leaves v v
leaves_all v = record { call = refl; grants = λ k. (λ t. t, λ t. t) }

leaves_at : (v x u : View) → u ≡ x → Leaves v x → Leaves v u
leaves_at v x u e h = subst (λ (y : View). Leaves v y) (sym e) h

pub share_leaves : (sound : List ℕ → List View → Type 0) (v : View) (a : ℕ) (r : Shared) (u : View) → SharedBy sound v a r u → Leaves v u
share_leaves sound v a r u (inl s) = leaves_at v v u s.2 (leaves_all v)
share_leaves sound v a r u (inr t) =
    let s = t.1 in let k : ℕ = lock_of_word a in let j : ℕ = number v in let set : View = (set_read_bit_action j k a v).view 0 in
    let after : View → Bool → View = λ m b. if b then record (after_asking m a) { reads = k ∷ m.reads } else after_meeting (after_asking m a) k (s.found - 1) in
    leaves_at v ((load_writer_action j k a (with_bit k a v)).view s.found) u s.taken.view
    (with_bit_cases k a v (λ m. Leaves v (after m (is_free j s.found)))
    (λ held. elim (is_free j s.found) as (λ (b : Bool). Leaves v (after v b)) [
      | true ↦ record { call = refl; grants = grants_read v k }
      | false ↦ record { call = refl; grants = λ l. (λ y. y, λ y. y) }
    ])
    (elim (is_free j s.found) as (λ (b : Bool). Leaves v (after set b)) [
      | true ↦ record { call = refl; grants = grants_read v k }
      | false ↦ record { call = refl; grants = λ l. (λ y. y, λ y. y) }
    ]))

pub claim_leaves : (sound : List ℕ → List View → Type 0) (v : View) (a : ℕ) (r : Claimed) (u : View) → ClaimedBy sound v a r u → Leaves v u
claim_leaves sound v a r u (inl s) = leaves_at v v u s.2 (leaves_all v)
claim_leaves sound v a r u (inr t) =
    let s = t.1 in let k : ℕ = lock_of_word a in
    let won : View = record (after_asking v a) { claims = k ∷ v.claims; scans = without_first k v.scans } in
    leaves_at v ((claim_writer_action (number v) k a v).view s.found) u s.taken.view
    (elim (s.found == 0) as (λ (b : Bool). Leaves v (if b then won else after_meeting (after_asking v a) k (s.found - 1))) [
      | true ↦ record {
        call = refl;
        grants = grants_claim v k t.0;
      }
      | false ↦ record { call = refl; grants = λ l. (λ y. y, λ y. y) }
    ])

pub scan_leaves : (sound : List ℕ → List View → Type 0) (v : View) (k i : ℕ) (r : Scanned) (u : View) → ScannedBy sound v k i r u → Leaves v u
scan_leaves sound v k i r u s =
    let clear : View = record v { scans = (k, i) ∷ v.scans } in
    leaves_at v ((scan_row_action (number v) k i v).view s.found) u s.taken.view
    (elim (bit_at s.found (k % 64) == 0) as (λ (b : Bool). Leaves v (if b then clear else after_meeting v k i)) [
      | true ↦ record { call = refl; grants = grants_scan v k i }
      | false ↦ record { call = refl; grants = λ l. (λ y. y, λ y. y) }
    ])

-- a word more that was asked for is a change
longer : (xs : List ℕ) (x : ℕ) → x ∷ xs ≢ xs
longer xs x e = let same : suc (length xs) ≡ length xs = ap (λ (l : List ℕ). length l) e in omega arith

longer_by_two : (xs : List ℕ) (x y : ℕ) → x ∷ (y ∷ xs) ≢ xs
longer_by_two xs x y e = let same : suc (suc (length xs)) ≡ length xs = ap (λ (l : List ℕ). length l) e in omega arith

-- if share changed nothing, the lock was held
pub share_unchanged : (sound : List ℕ → List View → Type 0) (v : View) (a : ℕ) (r : Shared) (u : View)
    → SharedBy sound v a r u → u ≡ v → IsGranted v (lock_of_word a)
share_unchanged sound v a r u (inl s) e = s.0
share_unchanged sound v a r u (inr t) e =
    let s = t.1 in let k : ℕ = lock_of_word a in let j : ℕ = number v in let set : View = (set_read_bit_action j k a v).view 0 in
    let after : View → Bool → View = λ m b. if b then record (after_asking m a) { reads = k ∷ m.reads } else after_meeting (after_asking m a) k (s.found - 1) in
    absurd (with_bit_cases k a v (λ m. after m (is_free j s.found) ≢ v)
    (λ held. elim (is_free j s.found) as (λ (b : Bool). after v b ≢ v) [
      | true ↦ λ same. longer v.asked a (ap (λ (x : View). x.asked) same)
      | false ↦ λ same. longer v.asked a (ap (λ (x : View). x.asked) same)
    ])
    (elim (is_free j s.found) as (λ (b : Bool). after set b ≢ v) [
      | true ↦ λ same. longer_by_two v.asked a a (ap (λ (x : View). x.asked) same)
      | false ↦ λ same. longer_by_two v.asked a a (ap (λ (x : View). x.asked) same)
    ]) (sym s.taken.view ∙ e))

-- if claim changed nothing, the claim stood
pub claim_unchanged : (sound : List ℕ → List View → Type 0) (v : View) (a : ℕ) (r : Claimed) (u : View)
    → ClaimedBy sound v a r u → u ≡ v → HasClaim v (lock_of_word a)
claim_unchanged sound v a r u (inl s) e = s.0
claim_unchanged sound v a r u (inr t) e =
    let s = t.1 in let k : ℕ = lock_of_word a in
    let won : View = record (after_asking v a) { claims = k ∷ v.claims; scans = without_first k v.scans } in
    absurd (elim (s.found == 0) as (λ (b : Bool). (if b then won else after_meeting (after_asking v a) k (s.found - 1)) ≢ v) [
      | true ↦ λ same. longer v.asked a (ap (λ (x : View). x.asked) same)
      | false ↦ λ same. longer v.asked a (ap (λ (x : View). x.asked) same)
    ] (sym s.taken.view ∙ e))

-- a lock that was released is gone
pub claim_gone : (v u : View) (k : ℕ) → u ≡ (release_writer_action (number v) k v).view 0 → ¬ HasClaim u k
claim_gone v u k e claim = differ (has k u.claims) claim (ap (λ (x : View). has k x.claims) e ∙ has-without_same k v.claims)

pub bit_gone : (v u : View) (k : ℕ) → u ≡ (clear_read_bit_action (number v) k v).view 0 → (¬ HasBit u k) × (¬ HasReadGrant u k)
bit_gone v u k e = (
  (λ bit. differ (has k u.bits) bit (ap (λ (x : View). has k x.bits) e ∙ has-without_same k v.bits)),
  (λ read. differ (has k u.reads) read (ap (λ (x : View). has k x.reads) e ∙ has-without_same k v.reads)),
)
