-- The items if no entry and no attempt comes, and if a call is given up.
use Rattle.values_rule.proofs.Common.{◌≡◌, ◌≢◌, ℕ, Bool, true, false, ◌||◌, ◌&&◌, ◌⊎◌, inl, inr, ⊎_elim, List, [], ◌∷◌, slice_set, refl, sym, ap, ◌∙◌, subst}
use Rattle.values_rule.proofs.Common.{arith, eq-eqb, ne_eqb, ◌==◌, dite, ℕ_discrete, Item, View, Drops, is_open, IsIn, Knows, number, same_view, put_here}
use Rattle.values_rule.proofs.Common.{put_there, put_cases, LocksHold, knew_of, items_of, ValuesHold}
use Rattle.std.proofs.Common.{not}
use Rattle.values_rule.proofs.Parts.Frames.{recorded_to, recorded_from}
use Rattle.values_rule.proofs.Told.ItemsIn.{IsAttemptOf, OfEntry, OfOpen, items_from, items_into}
use Rattle.values_rule.proofs.Told.Seeing.{is_j, only_me, earlier}

-- an attempt of the view's own call
abbrev pub OwnAttempt : View → Item → Type 0
OwnAttempt v z = IsAttemptOf (number v) v.call (knew_of v.seats v.seen) v.abandoned z

always : Item → Bool
always z = true

module _ (vs : List View) (id : ℕ) (v w : View) (me : Knows vs id v) (seen : w.seen ≡ v.seen) where
  -- the same items
  pub items_aside : ((z : Item) → is_open w.phase ≡ true → OwnAttempt w z → (is_open v.phase ≡ true) × OwnAttempt v z)
      → ((z : Item) → is_open v.phase ≡ true → OwnAttempt v z → (is_open w.phase ≡ true) × OwnAttempt w z)
      → (z : Item) → (IsIn z (items_of (slice_set vs id w)) → IsIn z (items_of vs)) × (IsIn z (items_of vs) → IsIn z (items_of (slice_set vs id w)))
  items_aside to from z = (
    (λ m. items_into vs z (⊎_elim
        (λ (o : OfEntry (slice_set vs id w) z). inl (record { entry = o.entry; recorded = recorded_to vs id v w me seen o.entry o.recorded; is = o.is }))
        (λ (o : OfOpen (slice_set vs id w) z). inr (⊎_elim
        (λ c. let t = to z (subst (λ (u : View). is_open u.phase ≡ true) (sym c.1) o.is_open)
        (subst (λ (u : View). OwnAttempt u z) (sym c.1) o.is) in record {
          id = id;
          view = v;
          knows = me;
          is_open = t.0;
          is = t.1;
        })
        (λ c. record { id = o.id; view = o.view; knows = c.1; is_open = o.is_open; is = o.is })
        (put_cases vs id o.id w o.view o.knows)))
        (items_from (slice_set vs id w) z m))),
    (λ m. items_into (slice_set vs id w) z (⊎_elim
        (λ (o : OfEntry vs z). inl (record { entry = o.entry; recorded = recorded_from vs id v w me seen o.entry o.recorded; is = o.is }))
        (λ (o : OfOpen vs z). inr (dite (ℕ_discrete o.id id)
        (λ e. let same : o.view ≡ v = same_view vs id o.id v o.view me o.knows e in
        let t = from z (subst (λ (u : View). is_open u.phase ≡ true) same o.is_open) (subst (λ (u : View). OwnAttempt u z) same o.is) in
        record { id = id; view = w; knows = put_here vs id v w me; is_open = t.0; is = t.1 })
        (λ ne. record { id = o.id; view = o.view; knows = put_there vs id o.id w o.view ne o.knows; is_open = o.is_open; is = o.is })))
        (items_from vs z m))),
  )

  pub aside_drops : ((z : Item) → is_open w.phase ≡ true → OwnAttempt w z → (is_open v.phase ≡ true) × OwnAttempt v z)
      → ((z : Item) → is_open v.phase ≡ true → OwnAttempt v z → (is_open w.phase ≡ true) × OwnAttempt w z)
      → Drops (λ z. true) (items_of vs) (items_of (slice_set vs id w))
  aside_drops to from z = ((λ m. ((items_aside to from z).0 m, refl)), (λ m. (items_aside to from z).1 m.0))

-- whether an item is no attempt of this call
abbrev pub is_kept : ℕ → ℕ → Item → Bool
is_kept j call z = z.entry || not (z.who == j && z.call == call)

kept_entry : (j call : ℕ) (z : Item) → z.entry ≡ true → is_kept j call z ≡ true
kept_entry j call z e = rw e refl

kept_other : (j call : ℕ) (z : Item) → (z.who ≢ j) ⊎ (z.call ≢ call) → is_kept j call z ≡ true
kept_other j call z (inl ne) = rw (ne_eqb z.who j ne) (any_true z.entry)
  where
    any_true : (b : Bool) → (b || true) ≡ true
    any_true true = refl
    any_true false = refl
kept_other j call z (inr ne) = rw (ne_eqb z.call call ne) (both (z.who == j) z.entry)
  where
    both : (a b : Bool) → (b || not (a && false)) ≡ true
    both true true = refl
    both true false = refl
    both false true = refl
    both false false = refl

not_kept : (j call : ℕ) (z : Item) → z.entry ≡ false → z.who ≡ j → z.call ≡ call → is_kept j call z ≡ true → ⊥
not_kept j call z e who same t = let f : is_kept j call z ≡ false = rw (e, eq-eqb z.who j who, eq-eqb z.call call same) refl in
    let g : true ≡ false = sym t ∙ f in cc

-- a call is given up: its attempts go out
module _ (good : List ℕ → Type 0) (n : ℕ) (base ws : List ℕ) (vs : List View) (id j : ℕ) (v w : View)
    (h : LocksHold n base ws vs) (q : ValuesHold good n base ws vs) (me : Knows vs id v) (single : v.who ≡ j ∷ []) (opened : is_open v.phase ≡ true)
    (seen : w.seen ≡ v.seen) (over : is_open w.phase ≡ false) where
  pub entries_stay : (z : Item) → IsIn z (items_of vs) → z.entry ≡ true → is_kept j v.call z ≡ true
  entries_stay z m e = kept_entry j v.call z e

  pub giving_up_drops : Drops (is_kept j v.call) (items_of vs) (items_of (slice_set vs id w))
  giving_up_drops z = (
    (λ m. ⊎_elim
        (λ (o : OfEntry (slice_set vs id w) z).
        let rec = recorded_to vs id v w me seen o.entry o.recorded in (
          items_into vs z (inl (record { entry = o.entry; recorded = rec; is = o.is })),
          ⊎_elim
              (λ t. kept_entry j v.call z (ap (λ (y : Item). y.entry) (sym t)))
              (λ (t : IsAttemptOf o.entry.who o.entry.call o.entry.knew o.entry.abandoned z).
              let who : o.entry.who ≡ z.who = ap (λ (y : Item). y.who) t.is in
              let call : o.entry.call ≡ z.call = ap (λ (y : Item). y.call) t.is in
              dite (ℕ_discrete z.who j)
              (λ own. kept_other j v.call z
              (inr (λ same. let lt = earlier good n base ws vs id j v h q me single opened o.entry rec (who ∙ own) in omega arith)))
              (λ ne. kept_other j v.call z (inl ne)))
              o.is,
        ))
        (λ (o : OfOpen (slice_set vs id w) z). ⊎_elim
        (λ c. absurd (let f : true ≡ false = sym (subst (λ (u : View). is_open u.phase ≡ true) (sym c.1) o.is_open) ∙ over in cc))
        (λ c. (
          items_into vs z (inr (record { id = o.id; view = o.view; knows = c.1; is_open = o.is_open; is = o.is })),
          kept_other j v.call z (inl (λ own.
              c.0 (only_me good n base ws vs id j v h q me single o.id o.view c.1 o.is_open (ap (λ (y : Item). y.who) o.is.is ∙ own)))),
        ))
        (put_cases vs id o.id w o.view o.knows))
        (items_from (slice_set vs id w) z m)),
    (λ m. items_into (slice_set vs id w) z (⊎_elim
        (λ (o : OfEntry vs z). inl (record { entry = o.entry; recorded = recorded_from vs id v w me seen o.entry o.recorded; is = o.is }))
        (λ (o : OfOpen vs z). inr (dite (ℕ_discrete o.id id)
        (λ e. absurd (let t = subst (λ (u : View). OwnAttempt u z) (same_view vs id o.id v o.view me o.knows e) o.is in
        not_kept j v.call z (ap (λ (y : Item). y.entry) (sym t.is)) (ap (λ (y : Item). y.who) (sym t.is)
        ∙ is_j good n base ws vs id j v h q me single) (ap (λ (y : Item). y.call) (sym t.is)) m.1))
        (λ ne. record { id = o.id; view = o.view; knows = put_there vs id o.id w o.view ne o.knows; is_open = o.is_open; is = o.is })))
        (items_from vs z m.0))),
  )
