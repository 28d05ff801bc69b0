-- What a step tells of its seat, it tells of the pass that has the seat, and of the desk that has the table.
use Rattle.word_table.proofs.Common.{◌≡◌, ℕ, List, [], ◌∷◌, slice_index, sym, ap, ◌∙◌, subst, Me, TableId, View, number, Action, PassView, DeskView, DeskHolds}
use Rattle.word_table.proofs.Common.{TakenIn}

-- a step by the seat's number and a lock is one by the number of the pass's view and the same lock
pub taken_in : {steps : ℕ} (sound : List ℕ → List View → Type 0) (action : ℕ → ℕ → View → Action) (who lock k : ℕ)
    (me : Me (Unit {0}) View) (new : View) (table : TableId) (seen : PassView) (found : ℕ)
    → record { table = table; view = me.0; steps = steps } ≡ seen → me.0.who ≡ who ∷ [] → lock ≡ k
    → TakenIn sound (action who lock me.0) me.0 found new → TakenIn sound (action (number seen.view) k seen.view) seen.view found new
taken_in sound action who lock k me new table seen found is single near t =
    let number_is : number me.0 ≡ who = ap (λ (l : List ℕ). slice_index l 0) single in
    subst (λ (x : PassView). TakenIn sound (action (number x.view) k x.view) x.view found new) is
    (subst (λ (l : ℕ). TakenIn sound (action (number me.0) l me.0) me.0 found new) near
    (subst (λ (j : ℕ). TakenIn sound (action j lock me.0) me.0 found new) (sym number_is) t))

-- what is told of the rule of the table is told of the rule of the desk
pub of_desk : {S : Type 0} (word_count : S → ℕ) (good : S → List ℕ → Type 0) (desk seen : DeskView S)
    (P : (List ℕ → List View → Type 0) → Type 0) → desk ≡ seen → P (DeskHolds word_count good desk) → P (DeskHolds word_count good seen)
of_desk {S} word_count good desk seen P is h = subst (λ (d : DeskView S). P (DeskHolds word_count good d)) is h

-- a pass's view has one number
pub own_number : {steps : ℕ} (who : ℕ) (v : View) (table : TableId) (seen : PassView)
    → record { table = table; view = v; steps = steps } ≡ seen
    → v.who ≡ who ∷ [] → seen.view.who ≡ number seen.view ∷ []
own_number who v table seen is single = subst (λ (x : PassView). x.view.who ≡ number x.view ∷ []) is (single
    ∙ ap (λ (j : ℕ). j ∷ []) (sym (ap (λ (l : List ℕ). slice_index l 0) single)))
