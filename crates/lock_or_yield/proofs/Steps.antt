-- What share leaves of what a pass knows.
use Rattle.lock_or_yield.proofs.Common.{◌≡◌, ℕ, ◌-◌, Bool, true, false, ◌⊎◌, inl, inr, List, ◌∷◌, refl, sym, ap, ◌∙◌, subst, if◌then◌else◌, View, lock_of_word}
use Rattle.lock_or_yield.proofs.Common.{has, number, has-join_other, load_writer_action, after_asking, after_meeting, SharedBy, GainsAtMost, AsksToRead}
use Rattle.word_table.proofs.Common.{has-join_old, has-join, is_free, set_read_bit_action}
use Rattle.word_table.specs.declared.answer.Shared.{Shared}
use Rattle.word_table.proofs.Calls.Answering.{with_bit_cases}
use Rattle.word_table.specs.declared.answer.Shared.TheVariants as shared

pub gains_none : (a : ℕ) (xs : List ℕ) → GainsAtMost a xs xs
gains_none a xs b = (λ t. t, λ t. inr t)

pub gains_one : (a : ℕ) (xs : List ℕ) → GainsAtMost a xs (a ∷ xs)
gains_one a xs b = (λ t. has-join_old b a xs t, λ t. has-join b a xs t)

pub gains_twice : (a : ℕ) (xs ys zs : List ℕ) → GainsAtMost a xs ys → GainsAtMost a ys zs → GainsAtMost a xs zs
gains_twice a xs ys zs f s b = (λ t. (s b).0 ((f b).0 t), λ t. both ((s b).1 t)) where
  both : (b ≡ a) ⊎ (has b ys ≡ true) → (b ≡ a) ⊎ (has b xs ≡ true)
  both (inl e) = inl e
  both (inr t) = (f b).1 t

-- share's answer, and what it leaves
pub record ShareLeaves (a : ℕ) (v : View) (r : Shared) (u : View) : Type 0 where
  pub reads : AsksToRead (lock_of_word a) v u
  pub asked : GainsAtMost a v.asked u.asked
  pub nobody : r ≡ shared.Granted → (u.met ≡ v.met) × (u.meetings ≡ v.meetings)
  pub somebody : (i : ℕ) → r ≡ shared.Met i → u.met ≡ i ∷ v.met

met_same : (i j : ℕ) → shared.Met i ≡ shared.Met j → i ≡ j
met_same i j e = cc

granted_not_met : (j : ℕ) → shared.Granted ≡ shared.Met j → ⊥
granted_not_met j e = cc

not_granted : (r : Shared) (j : ℕ) → r ≡ shared.Met j → r ≡ shared.Granted → ⊥
not_granted r j m g = granted_not_met j (sym g ∙ m)

share_after : (a i : ℕ) (r : Shared) (v m : View) (b : Bool)
    → AsksToRead (lock_of_word a) v m → GainsAtMost a v.asked m.asked → m.met ≡ v.met → m.meetings ≡ v.meetings
    → r ≡ (if b then shared.Granted else shared.Met i)
    → ShareLeaves a v r (if b then record (after_asking m a) { reads = lock_of_word a ∷ m.reads } else after_meeting (after_asking m a) (lock_of_word a) i)
share_after a i r v m true h asked met meetings e = record {
  reads = record { claims = h.claims; scans = h.scans; bits = h.bits; reads = λ l n. has-join_other l (lock_of_word a) m.reads n ∙ h.reads l n };
  asked = gains_twice a v.asked m.asked (a ∷ m.asked) asked (gains_one a m.asked);
  nobody = λ g. (met, meetings);
  somebody = λ j g. absurd (not_granted r j g e);
}
share_after a i r v m false h asked met meetings e = record {
  reads = record { claims = h.claims; scans = h.scans; bits = h.bits; reads = h.reads };
  asked = gains_twice a v.asked m.asked (a ∷ m.asked) asked (gains_one a m.asked);
  nobody = λ g. absurd (not_granted r i e g);
  somebody = λ j g. ap (λ (l : List ℕ). i ∷ l) met ∙ ap (λ (x : ℕ). x ∷ v.met) (met_same i j (sym e ∙ g));
}

same_reads : (k : ℕ) (v : View) → AsksToRead k v v
same_reads k v = record { claims = refl; scans = refl; bits = λ l n. refl; reads = λ l n. refl }

pub share_leaves : (sound : List ℕ → List View → Type 0) (v : View) (a : ℕ) (r : Shared) (u : View) → SharedBy sound v a r u → ShareLeaves a v r u
share_leaves sound v a r u (inl s) = subst (λ (y : View). ShareLeaves a v r y) (sym s.2) record {
  reads = same_reads (lock_of_word a) v;
  asked = gains_none a v.asked;
  nobody = λ g. (refl, refl);
  somebody = λ j g. absurd (not_granted r j g s.1);
}
share_leaves sound v a r u (inr t) =
    let s = t.1 in let k : ℕ = lock_of_word a in let j : ℕ = number v in
    let set : View = (set_read_bit_action j k a v).view 0 in
    subst (λ (y : View). ShareLeaves a v r y) (sym s.taken.view)
    (with_bit_cases k a v (λ m. ShareLeaves a v r ((load_writer_action j k a m).view s.found))
    (λ held. share_after a (s.found - 1) r v v (is_free j s.found) (same_reads k v) (gains_none a v.asked) refl refl s.answer)
    (share_after a (s.found - 1) r v set (is_free j s.found) record {
      claims = refl;
      scans = refl;
      bits =
          λ l n. has-join_other l k v.bits n;
      reads = λ l n. refl;
    } (gains_one a v.asked) refl refl s.answer))
