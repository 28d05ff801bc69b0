-- What unfinished writes leave that are taken back: a word that is noted gets its oldest value, and every other word stays.
use Rattle.values_rule.proofs.Common.{◌≡◌, ℕ, zero, suc, ◌+◌, ◌<◌, ⊎_elim, List, [], ◌∷◌, length, Some, None, slice_get, slice_set, refl, sym, ap, ◌∙◌, subst}
use Rattle.values_rule.proofs.Common.{arith, eq-eqb, ne_eqb, slice_get_within, same_Some, some-injective, dite, ℕ_discrete, View, Knows, value_word, Notes}
use Rattle.values_rule.proofs.Common.{same_list, memory_of, table_value}
use Rattle.std.proofs.Common.{get_or, get_or-drop}
use Rattle.std.proofs.lemmas.List.{length-set}
use Rattle.std.proofs.lemmas.Option.{slice_get-get_or}
use Rattle.history_model.specs.Undoing.{written_back}
use Rattle.history_model.proofs.Traces.TraceLaws.{get_set_same, get_set_other}
use Rattle.values_rule.specs.Undone.{undone_by}
use Rattle.values_rule.specs.Values.{oldest}
use Rattle.values_rule.proofs.Notes.{option_cases}

length-written_back : (notes : Notes) (s : List ℕ) → length (written_back notes s) ≡ length s
unfolding written_back
length-written_back [] s = refl
length-written_back (note ∷ notes) s = length-set (written_back notes s) note.0 note.1 ∙ length-written_back notes s

-- a word that is noted gets its oldest value
noted_back : (notes : Notes) (s : List ℕ) (a o : ℕ) → a < length s → oldest a notes ≡ Some o → slice_get (written_back notes s) a ≡ Some o
unfolding written_back oldest
noted_back [] s a o lt e = cc
noted_back (note ∷ notes) s a o lt e = let long = length-written_back notes s in dite (ℕ_discrete a note.0)
    (λ q. let is : note.1 ≡ o = same_Some note.1 o (rw (eq-eqb a note.0 q) at e) in
    subst (λ (i : ℕ). slice_get (slice_set (written_back notes s) i note.1) a ≡ Some o) q
    (get_set_same (written_back notes s) a note.1 (omega arith) ∙ ap (λ (x : ℕ). Some x) is))
    (λ n. get_set_other (written_back notes s) note.0 a note.1 n ∙ noted_back notes s a o lt (rw (ne_eqb a note.0 n) at e))

-- and one that is not stays
unnoted_back : (notes : Notes) (s : List ℕ) (a : ℕ) → oldest a notes ≡ None → slice_get (written_back notes s) a ≡ slice_get s a
unfolding written_back oldest
unnoted_back [] s a e = refl
unnoted_back (note ∷ notes) s a e = dite (ℕ_discrete a note.0)
    (λ q. absurd (let z = rw (eq-eqb a note.0 q) at e in cc))
    (λ n. get_set_other (written_back notes s) note.0 a note.1 n ∙ unnoted_back notes s a (rw (ne_eqb a note.0 n) at e))

length-undone_by : (vs : List View) (s : List ℕ) → length (undone_by vs s) ≡ length s
unfolding undone_by
length-undone_by [] s = refl
length-undone_by (v ∷ vs) s = length-undone_by vs (written_back v.undo s) ∙ length-written_back v.undo s

-- if all notes of a word have the value x, and the word has it or is noted, it has x in the end
settles : (vs : List View) (s : List ℕ) (a x : ℕ) → a < length s → ((id o : ℕ) (v : View) → Knows vs id v → oldest a v.undo ≡ Some o → Some x ≡ Some o)
    → (((id : ℕ) (v : View) → Knows vs id v → oldest a v.undo ≡ None) → slice_get s a ≡ Some x) → slice_get (undone_by vs s) a ≡ Some x
unfolding undone_by
settles [] s a x lt agree rest = rest (λ id v e. absurd (cc e))
settles (v ∷ vs) s a x lt agree rest =
    let long = length-written_back v.undo s in
    settles vs (written_back v.undo s) a x (omega arith) (λ id o u e. agree (suc id) o u e)
    (λ free. ⊎_elim
    (λ (none : oldest a v.undo ≡ None). unnoted_back v.undo s a none ∙ rest (λ id u e. first_or_rest id u e none free))
    (λ (some : (o : ℕ) × (oldest a v.undo ≡ Some o)). noted_back v.undo s a some.0 lt some.1 ∙ sym (agree zero some.0 v refl some.1))
    (option_cases (oldest a v.undo)))
  where
    first_or_rest : (id : ℕ) (u : View) → Knows (v ∷ vs) id u → oldest a v.undo ≡ None
        → ((i : ℕ) (y : View) → Knows vs i y → oldest a y.undo ≡ None) → oldest a u.undo ≡ None
    first_or_rest zero u e none free = subst (λ (y : View). oldest a y.undo ≡ None) (some-injective v u e) none
    first_or_rest (suc id) u e none free = free id u e

-- the memory becomes a list that has the oldest value of each word that is noted, and of every other the word's value
pub restored : (n : ℕ) (ws now : List ℕ) (vs : List View) → length (memory_of n ws) ≡ length now
    → ((id a o : ℕ) (v : View) → Knows vs id v → oldest a v.undo ≡ Some o → slice_get now a ≡ Some o)
    → ((a : ℕ) → a < length now → ((id : ℕ) (v : View) → Knows vs id v → oldest a v.undo ≡ None) → slice_get now a ≡ Some (table_value n ws a))
    → undone_by vs (memory_of n ws) ≡ now
restored n ws now vs long noted unnoted =
    let memory : List ℕ = memory_of n ws in
    let undone_long : length (undone_by vs memory) ≡ length memory = length-undone_by vs memory in
    sym (same_list now (undone_by vs memory) (omega (arith, long, undone_long))
    (λ a x is.
    let lt : a < length now = slice_get_within now a x is in
    let value : slice_get memory a ≡ Some (table_value n ws a) = slice_get-get_or memory a 0 (omega (arith, lt, long))
    ∙ ap (λ (y : ℕ). Some y) (get_or-drop (value_word n 0) ws a 0 ∙ ap (λ (i : ℕ). get_or ws i 0) (shifted n a)) in
    settles vs memory a x (omega (arith, lt, long)) (λ id o v e t. sym is ∙ noted id a o v e t)
    (λ free. value ∙ (sym (unnoted a lt free) ∙ is))))
  where
    shifted : (n a : ℕ) → value_word n 0 + a ≡ value_word n a
    shifted n a = omega arith
