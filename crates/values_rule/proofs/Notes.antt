-- The oldest note of a word, as notes come and go.
use Rattle.values_rule.proofs.Common.{◌≡◌, ◌≢◌, ℕ, ◌+◌, ◌-◌, ◌⊎◌, inl, inr, ⊎_elim, [], ◌∷◌, ◌++◌, length, take, Option, Some, None, IsSome, refl, sym, ap, ◌∙◌}
use Rattle.values_rule.proofs.Common.{arith, eq-eqb, ne_eqb, dite, ℕ_discrete, Notes, differ}
use Rattle.std.proofs.Common.{length-append}
use Rattle.std.proofs.lemmas.List.{take-append-le, take_all}
use Rattle.std.specs.Option.{is_some}
use Rattle.values_rule.specs.Values.{oldest}

pub oldest-nil : (a : ℕ) → oldest a [] ≡ None
unfolding oldest
oldest-nil a = refl

pub option_cases : (o : Option ℕ) → (o ≡ None) ⊎ ((x : ℕ) × (o ≡ Some x))
option_cases None = inl refl
option_cases (Some x) = inr (x, refl)

-- what is missing is not there
pub is_missing : (o : Option ℕ) → o ≡ None → IsSome o → ⊥
is_missing o e t = differ (is_some o) t (ap (λ (p : Option ℕ). is_some p) e)

-- one note more: an older note of the word stands
pub oldest_more : (a : ℕ) (notes more : Notes) (o : ℕ) → oldest a notes ≡ Some o → oldest a (notes ++ more) ≡ Some o
unfolding oldest
oldest_more a [] more o e = cc
oldest_more a (x ∷ notes) more o e = dite (ℕ_discrete a x.0)
    (λ q. rw (eq-eqb a x.0 q) (rw (eq-eqb a x.0 q) at e))
    (λ n. rw (ne_eqb a x.0 n) (oldest_more a notes more o (rw (ne_eqb a x.0 n) at e)))

-- and if there is none, it is that of the new ones
pub oldest_first : (a : ℕ) (notes more : Notes) → oldest a notes ≡ None → oldest a (notes ++ more) ≡ oldest a more
unfolding oldest
oldest_first a [] more e = refl
oldest_first a (x ∷ notes) more e = dite (ℕ_discrete a x.0)
    (λ q. absurd (let z = rw (eq-eqb a x.0 q) at e in cc))
    (λ n. rw (ne_eqb a x.0 n) (oldest_first a notes more (rw (ne_eqb a x.0 n) at e)))

pub oldest_one : (a b o : ℕ) → a ≡ b → oldest a ((b, o) ∷ []) ≡ Some o
unfolding oldest
oldest_one a b o e = rw (eq-eqb a b e) refl

pub oldest_other : (a b o : ℕ) → a ≢ b → oldest a ((b, o) ∷ []) ≡ None
unfolding oldest
oldest_other a b o n = rw (ne_eqb a b n) refl

-- a note of another word changes nothing of this one
pub oldest_apart : (a b o : ℕ) (notes : Notes) → a ≢ b → oldest a (notes ++ (b, o) ∷ []) ≡ oldest a notes
oldest_apart a b o notes n = ⊎_elim
    (λ (t : oldest a notes ≡ None). oldest_first a notes ((b, o) ∷ []) t ∙ oldest_other a b o n ∙ sym t)
    (λ (t : (x : ℕ) × (oldest a notes ≡ Some x)). oldest_more a notes ((b, o) ∷ []) t.0 t.1 ∙ sym t.1)
    (option_cases (oldest a notes))

-- all but the newest note
pub older : Notes → Notes
older notes = take (length notes - 1) notes

pub older_is : (notes first : Notes) (a o : ℕ) → notes ≡ first ++ (a, o) ∷ [] → take (length notes - 1) notes ≡ first
older_is notes first a o e =
    let long : length notes ≡ length first + 1 = ap length e ∙ length-append first ((a, o) ∷ []) in
    let less : length notes - 1 ≡ length first = omega arith in
    ap (λ (k : ℕ). take k notes) less ∙ ap (λ (l : Notes). take (length first) l) e
    ∙ take-append-le (length first) first ((a, o) ∷ []) (omega arith) ∙ take_all (length first) first (omega arith)
