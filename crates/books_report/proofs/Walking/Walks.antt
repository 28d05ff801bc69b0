-- A walk over entries in the order of their keys: each is the first above the one before.
use Rattle.books_report.proofs.Common.{◌≡◌, ◌-◌, ◌<◌, ◌≤◌, ℕ, Bool, true, false, cond, ◌&&◌, not, List, [], ◌∷◌, ◌++◌, length, Some, None, refl, sym, ap, ◌∙◌}
use Rattle.books_report.proofs.Common.{subst, arith, length-append, flat_map, is_lt, Less}
use Rattle.std.proofs.Common.{T, filter}
use Rattle.std.specs.List.{find}
use Rattle.std.specs.Ordering.{is_eq, ordering_reverse}
use Rattle.std.specs.Cmp.{IsTotalOrder, tied_itself}
use Rattle.std.specs.declared.cmp.Ordering.{Ordering}
use Rattle.std.specs.FinMap.Entries.{below_all, is_sorted}
use Rattle.std.proofs.lemmas.List.Sums.{length-filter, count_by-le-length}
use Rattle.std.proofs.lemmas.List.{flat_map_more}
use Rattle.books_model.proofs.Maps.Keys.{below_first, below_rest, sorted_first, sorted_rest, below_less, less_of}
use Rattle.std.specs.FinMap.Entries as entries

-- the entries whose keys are not later than a key
abbrev pub up_to : {K X : Type 0} → (K → K → Bool) → K → List (K × X) → List (K × X)
up_to later last es = filter (λ e. not (later last e.0)) es

-- one more entry is written
pub written_next : {X : Type 0} (text before now : List ℕ) (write : X → List ℕ) (done more : List X) (e : X)
    → before ≡ text ++ flat_map write done → now ≡ before ++ write e → more ≡ done ++ e ∷ [] → now ≡ text ++ flat_map write more
written_next text before now write done more e h k next =
    k ∙ ap (λ xs. xs ++ write e) h ∙ flat_map_more write text done e ∙ ap (λ xs. text ++ flat_map write xs) (sym next)

module _ {K X : Type 0} {R : K → K → Ordering} (o : IsTotalOrder R) where
  -- a key below each key that is found is below all
  pub below_found : (first : K) (es : List (K × X)) → T (is_sorted R es)
      → ((k : K) (v : X) → entries.find R k es ≡ Some v → R first k ≡ Less) → T (below_all R first es)
  below_found first [] sorted each = tt
  below_found first (e ∷ es) sorted each =
      let here = each e.0 e.1 (ap (λ r. cond (is_eq r) (Some e.1) (entries.find R e.0 es)) (tied_itself o e.0)) in
      subst (λ r. T (is_lt r && below_all R first es)) (sym here) (below_less R o first e.0 es here (sorted_first R e es sorted))

module _ {K X : Type 0} {R : K → K → Ordering} (o : IsTotalOrder R) (later : K → K → Bool) (is : (a b : K) → later a b ≡ is_lt (R a b)) where
  kept : {b : Bool} (e : K × X) (es : List (K × X)) → b ≡ false → cond (not b) (e ∷ es) es ≡ e ∷ es
  kept {b} e es no_later = ap (λ b. cond (not b) (e ∷ es) es) no_later

  left_out : {b : Bool} (e : K × X) {es : List (K × X)} → b ≡ true → cond (not b) (e ∷ es) es ≡ es
  left_out {b} e {es} later = ap (λ b. cond (not b) (e ∷ es) es) later

  -- below all keys there are none of them
  pub none_up_to : (last : K) (es : List (K × X)) → T (below_all R last es) → up_to later last es ≡ []
  none_up_to last [] h = refl
  none_up_to last (e ∷ es) h = left_out e (is last e.0
      ∙ ap is_lt (below_first R last e es h)) ∙ none_up_to last es (below_rest R last e es h)

  -- what a search finds is above what is below all
  found_past : (first last : K) (es : List (K × X)) {e : K × X} → T (below_all R first es) → find (λ x. later last x.0) es ≡ Some e → R first e.0 ≡ Less
  found_past first last [] below found = absurd cc
  found_past first last (x ∷ es) {e} below found =
      elim (later last x.0) as (λ b. cond b (Some x) (find (λ x. later last x.0) es) ≡ Some e → R first e.0 ≡ Less) [
        | true ↦ λ f. let same : x ≡ e = cc in ap (λ (y : K × X). R first y.0) (sym same) ∙ below_first R first x es below
        | false ↦ λ f. found_past first last es (below_rest R first x es below) f
      ] found

  -- the first entry above the last one is the next that is put in
  pub up_to-next : (last : K) (es : List (K × X)) (e : K × X) → T (is_sorted R es)
      → find (λ x. later last x.0) es ≡ Some e → up_to later e.0 es ≡ up_to later last es ++ e ∷ []
  up_to-next last [] e sorted found = absurd cc
  up_to-next last (x ∷ es) e sorted found =
      let below = sorted_first R x es sorted in
      elim (later last x.0) as (λ b. later last x.0 ≡ b → cond b (Some x) (find (λ x. later last x.0) es) ≡ Some e
      → up_to later e.0 (x ∷ es) ≡ up_to later last (x ∷ es) ++ e ∷ []) [
        | true ↦ λ at f.
            let same : x ≡ e = cc in
            let less = less_of (R last x.0) (subst T (sym (sym (is last x.0) ∙ at)) tt) in
            let itself : later x.0 x.0 ≡ false = is x.0 x.0 ∙ ap is_lt (tied_itself o x.0) in
            subst (λ (y : K × X). up_to later y.0 (x ∷ es) ≡ up_to later last (x ∷ es) ++ y ∷ []) same
            (kept x (up_to later x.0 es) itself ∙ ap (λ xs. x ∷ xs) (none_up_to x.0 es below)
            ∙ ap (λ xs. xs ++ x ∷ []) (sym (left_out x at ∙ none_up_to last es (below_less R o last x.0 es less below))))
        | false ↦ λ at f.
            let past : later e.0 x.0 ≡ false = is e.0 x.0 ∙ ap is_lt (o.antisymm e.0 x.0 ∙ ap ordering_reverse (found_past x.0 last es below f)) in
            kept x (up_to later e.0 es) past ∙ ap (λ xs. x ∷ xs) (up_to-next last es e (sorted_rest R x es sorted) f)
            ∙ ap (λ xs. xs ++ e ∷ []) (sym (kept x (up_to later last es) at))
      ] refl found

  -- if no entry is above, all are put in
  pub up_to_all : (last : K) (es : List (K × X)) → find (λ x. later last x.0) es ≡ None → up_to later last es ≡ es
  up_to_all last [] none = refl
  up_to_all last (x ∷ es) none =
      elim (later last x.0) as (λ b. later last x.0 ≡ b → cond b (Some x) (find (λ x. later last x.0) es) ≡ None → up_to later last (x ∷ es) ≡ x ∷ es) [
        | true ↦ λ at f. absurd cc
        | false ↦ λ at f. kept x (up_to later last es) at ∙ ap (λ xs. x ∷ xs) (up_to_all last es f)
      ] refl none

  -- fewer entries are left after each step
  pub fewer_left : (last : K) (es : List (K × X)) (e : K × X) → T (is_sorted R es)
      → find (λ x. later last x.0) es ≡ Some e → length es - length (up_to later e.0 es) < length es - length (up_to later last es)
  fewer_left last es e sorted found =
      let next = ap length (up_to-next last es e sorted found) in
      omega (arith, next, length-append (up_to later last es) (e ∷ []), at_most (λ x. not (later e.0 x.0)) es)
    where
      at_most : (p : K × X → Bool) (xs : List (K × X)) → length (filter p xs) ≤ length xs
      at_most p xs = rw (length-filter p xs) (count_by-le-length p xs)
