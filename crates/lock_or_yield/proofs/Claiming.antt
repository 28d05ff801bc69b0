-- What claim leaves of what a pass knows, and what it comes to with the scans.
use Rattle.lock_or_yield.proofs.Common.{◌≡◌, ℕ, ◌-◌, ◌<◌, Bool, true, false, inl, inr, List, Some, None, [], ◌∷◌, ◌++◌, refl, sym, ap, ◌∙◌, subst, ◌==◌}
use Rattle.lock_or_yield.proofs.Common.{if◌then◌else◌, View, lock_of_word, has, has_pair, number, HasWriteGrant, has-join_other, after_asking, after_meeting}
use Rattle.lock_or_yield.proofs.Common.{scan_row_action, GrantsStay, MetOn, SameCall, GainsAtMost, AsksToWrite, with_locks, ScansClear}
use Rattle.word_table.proofs.Common.{without_first, pair-without_other, claim_writer_action, ClaimedBy}
use Rattle.std.proofs.Common.{Option, IsNone, IfSome}
use Rattle.word_table.specs.declared.answer.Claimed.{Claimed}
use Rattle.lock_or_yield.specs.Intents.{AsksOnce, MeetsSeat}
use Rattle.lock_or_yield.specs.Turns.{ScansUpTo}
use Rattle.lock_or_yield.proofs.Steps.{gains_none, gains_one}
use Rattle.lock_or_yield.proofs.Turning.{nobody_met}
use Rattle.word_table.specs.declared.answer.Claimed.TheVariants as claimed
use Rattle.lock_or_yield.specs.declared.turn.Intent.TheVariants as intent

-- claim's answer, and what it leaves
pub record ClaimLeaves (a : ℕ) (v : View) (r : Claimed) (u : View) : Type 0 where
  pub writes : AsksToWrite (lock_of_word a) v u
  pub asked : GainsAtMost a v.asked u.asked
  pub nobody : r ≡ claimed.Pending → (u.met ≡ v.met) × (u.meetings ≡ v.meetings)
  pub somebody : (i : ℕ) → r ≡ claimed.Met i → u.met ≡ i ∷ v.met

met_same : (i j : ℕ) → claimed.Met i ≡ claimed.Met j → i ≡ j
met_same i j e = cc

not_pending : (r : Claimed) (j : ℕ) → r ≡ claimed.Met j → r ≡ claimed.Pending → ⊥
not_pending r j m p = let e : claimed.Pending ≡ claimed.Met j = sym p ∙ m in cc

claim_after : (a i : ℕ) (r : Claimed) (v : View) (b : Bool) → r ≡ (if b then claimed.Pending else claimed.Met i)
    → ClaimLeaves a v r (if b then record (after_asking v a) {
      claims = lock_of_word a ∷ v.claims;
      scans =
          without_first (lock_of_word a) v.scans;
    } else after_meeting (after_asking v a) (lock_of_word a) i)
claim_after a i r v true e = record {
  writes = record {
    bits = refl;
    reads = refl;
    claims = λ l n. has-join_other l (lock_of_word a) v.claims n;
    scans =
        λ l j n. pair-without_other l j (lock_of_word a) v.scans n;
  };
  asked = gains_one a v.asked;
  nobody = λ p. (refl, refl);
  somebody = λ j m. absurd (not_pending r j m e);
}
claim_after a i r v false e = record {
  writes = record { bits = refl; reads = refl; claims = λ l n. refl; scans = λ l j n. refl };
  asked = gains_one a v.asked;
  nobody = λ p. absurd (not_pending r i e p);
  somebody = λ j m. ap (λ (x : ℕ). x ∷ v.met) (met_same i j (sym e ∙ m));
}

pub claim_leaves : (sound : List ℕ → List View → Type 0) (v : View) (a : ℕ) (r : Claimed) (u : View) → ClaimedBy sound v a r u → ClaimLeaves a v r u
claim_leaves sound v a r u (inl s) = subst (λ (y : View). ClaimLeaves a v r y) (sym s.2) record {
  writes = record { bits = refl; reads = refl; claims = λ l n. refl; scans = λ l j n. refl };
  asked = gains_none a v.asked;
  nobody = λ p. (refl, refl);
  somebody = λ j m. absurd (not_pending r j m s.1);
}
claim_leaves sound v a r u (inr t) = let s = t.1 in
    subst (λ (y : View). ClaimLeaves a v r y) (sym s.taken.view) (claim_after a (s.found - 1) r v (s.found == 0) s.answer)

-- the lock was claimed, and then no seat was met
pub claims_clear : (a : ℕ) (old claimed_view new : View) → SameCall old claimed_view → GrantsStay old claimed_view
    → AsksToWrite (lock_of_word a) old claimed_view → GainsAtMost a old.asked claimed_view.asked
    → ScansClear (lock_of_word a) claimed_view new → AsksOnce intent.Write a old new
claims_clear a old mid new call grants writes asked c = record {
  call = c.view ∙ (ap (λ (x : View). record x { scans = new.scans }) call ∙ agree);
  locks = record {
    bits = ap (λ (x : View). x.bits) c.view ∙ writes.bits;
    reads = ap (λ (x : View). x.reads) c.view ∙ writes.reads;
    claims = λ l n. ap (λ (x : View). has l x.claims) c.view ∙ writes.claims l n;
    scans = λ l j n. c.scans l j n ∙ writes.scans l j n;
  };
  asked = subst (λ (l : List ℕ). GainsAtMost a old.asked l) (sym (ap (λ (x : View). x.asked) c.view)) asked;
  grants = λ l. (λ t. (c.grants l).0 ((grants l).0 t), λ t. (c.grants l).1 ((grants l).1 t));
} where
  like : View → View
  like x = record old { bits = x.bits; reads = x.reads; claims = x.claims; scans = new.scans; asked = x.asked; met = x.met; meetings = x.meetings }

  agree : like mid ≡ like new
  agree = ap like (sym c.view)

-- old with all that steps on locks change as in x
abbrev like : View → View → View
like old x = record (with_locks x old) { met = x.met; meetings = x.meetings }

same_call : (old new x : View) → new ≡ x → x ≡ like old x → SameCall old new
same_call old new x e r = e ∙ (r ∙ ap (λ (y : View). like old y) (sym e))

-- or one was
pub claims_up_to : (sound : List ℕ → List View → Type 0) (a j : ℕ) (old mid new : View) → SameCall old mid
    → GrantsStay old mid → AsksToWrite (lock_of_word a) old mid → GainsAtMost a old.asked mid.asked
    → ScansUpTo sound (lock_of_word a) j mid new → AsksOnce intent.Write a old new
claims_up_to sound a j old mid new call grants writes asked u =
    let before : View = u.before in
    let b = claims_clear a old mid before call grants writes asked u.clear in
    let stay : GrantsStay before new = subst (λ (x : View). GrantsStay before x) (sym u.view) (λ l. (λ t. t, λ t. t)) in record {
      call = same_call old new (record (like old before) { met = j ∷ before.met; meetings = before.meetings ++ (lock_of_word a, j) ∷ [] })
          (u.view ∙ ap (λ (x : View). record x { met = j ∷ before.met; meetings = before.meetings ++ (lock_of_word a, j) ∷ [] }) b.call) refl;
      locks = record {
        bits = ap (λ (x : View). x.bits) u.view ∙ b.locks.bits;
        reads = ap (λ (x : View). x.reads) u.view ∙ b.locks.reads;
        claims = λ l n. ap (λ (x : View). has l x.claims) u.view ∙ b.locks.claims l n;
        scans = λ l i n. ap (λ (x : View). has_pair l i x.scans) u.view ∙ b.locks.scans l i n;
      };
      asked = subst (λ (l : List ℕ). GainsAtMost a old.asked l) (sym (ap (λ (x : View). x.asked) u.view)) b.asked;
      grants = λ l. (λ t. (stay l).0 ((b.grants l).0 t), λ t. (stay l).1 ((b.grants l).1 t));
    }

-- the lock was claimed, and the scans came to this
pub claims_and_scans : (sound : List ℕ → List View → Type 0) (a k : ℕ) (r : Option ℕ) (old mid new : View)
    → k ≡ lock_of_word a → SameCall old mid → GrantsStay old mid → ClaimedBy sound old a claimed.Pending mid
    → (IsNone r → ScansClear k mid new × HasWriteGrant new k) → IfSome r (λ j. ScansUpTo sound k j mid new) → AsksOnce intent.Write a old new
claims_and_scans sound a k None old mid new e call grants claims clear met =
    let left = claim_leaves sound old a claimed.Pending mid claims in
    claims_clear a old mid new call grants left.writes left.asked (subst (λ (l : ℕ). ScansClear l mid new) e (clear refl).0)
claims_and_scans sound a k (Some j) old mid new e call grants claims clear met =
    let left = claim_leaves sound old a claimed.Pending mid claims in
    claims_up_to sound a j old mid new call grants left.writes left.asked (subst (λ (l : ℕ). ScansUpTo sound l j mid new) e met)

scans_meet : (sound : List ℕ → List View → Type 0) (a j : ℕ) (old mid new : View) → SameCall old mid
    → ClaimedBy sound old a claimed.Pending mid → ScansUpTo sound (lock_of_word a) j mid new → MeetsSeat intent.Write sound (lock_of_word a) j old new
scans_meet sound a j old mid new call claims u =
    let k : ℕ = lock_of_word a in let before : View = u.before in
    let same = (claim_leaves sound old a claimed.Pending mid claims).nobody refl in
    let seats : before.seats ≡ old.seats = ap (λ (x : View). x.seats) u.clear.view ∙ ap (λ (x : View). x.seats) call in
    let met : before.met ≡ old.met = ap (λ (x : View). x.met) u.clear.view ∙ same.0 in
    let meetings : before.meetings ≡ old.meetings = ap (λ (x : View). x.meetings) u.clear.view ∙ same.1 in record {
      seat = subst (λ (n : ℕ). j < n) seats u.meets.seat;
      met = ap (λ (x : View). x.met) u.view ∙ ap (λ (l : List ℕ). j ∷ l) met;
      meetings = ap (λ (x : View). x.meetings) u.view ∙ ap (λ (l : List (ℕ × ℕ)). l ++ (k, j) ∷ []) meetings;
      meets = record {
        action = scan_row_action (number before) k j;
        before = before;
        locks = u.clear.view
            ∙ (ap (λ (x : View). record x { scans = before.scans }) (nobody_met old mid call same.0 same.1)
            ∙ ap (λ (x : View). record (with_locks x old) { scans = before.scans }) (sym u.clear.view));
        asking = before;
        step = (refl, inr (refl, u.least));
        meets = u.meets;
      };
    }

pub scans_met : (sound : List ℕ → List View → Type 0) (a k : ℕ) (r : Option ℕ) (old mid new : View) → k ≡ lock_of_word a
    → SameCall old mid → ClaimedBy sound old a claimed.Pending mid → IfSome r (λ j. ScansUpTo sound k j mid new)
    → IfSome r (λ j. MeetsSeat intent.Write sound (lock_of_word a) j old new)
scans_met sound a k None old mid new e call claims met = met
scans_met sound a k (Some j) old mid new e call claims met = scans_meet sound a j old mid new call claims (subst (λ (l : ℕ). ScansUpTo sound l j mid new) e met)

-- the lock was claimed by another
pub claim_meets : (sound : List ℕ → List View → Type 0) (a j : ℕ) (old new : View)
    → ClaimedBy sound old a (claimed.Met j) new
    → MetOn sound (claim_writer_action (number old) (lock_of_word a) a) old old new (lock_of_word a) j → MeetsSeat intent.Write sound (lock_of_word a) j old new
claim_meets sound a j old new claims m = record {
  seat = m.seat;
  met = (claim_leaves sound old a (claimed.Met j) new claims).somebody j refl;
  meetings = m.conflict.0.1;
  meets = record {
    action = claim_writer_action (number old) (lock_of_word a) a;
    before = old;
    locks = refl;
    asking =
        old;
    step = (refl, inl (a, refl, refl));
    meets = m;
  };
}
