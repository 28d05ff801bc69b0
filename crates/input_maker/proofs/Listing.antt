-- Lists of what is made, with one more.
use Rattle.input_maker.proofs.Common.{map, codes, ◌≡◌, ℕ, zero, suc, ◌+◌, ◌*◌, List, [], ◌∷◌, ◌++◌, refl, sym, ap, ◌∙◌, append_assoc, add-one, arith, flat_map}
use Rattle.input_maker.proofs.Common.{range_with_len, append-nil, Op, end_line, line, books_operation_words, position_line, script_lines, submission_lines}
use Rattle.input_maker.proofs.Common.{operation_lines, drawn_state, operation_from, state_after_script, made_submission}
use Rattle.std.proofs.lemmas.List.Concat.{flat_map-append}
use Rattle.std.proofs.lemmas.List.FromFn.{map-range_with_len_more}
use Rattle.input_maker.specs.Made.{accounts_to, prices_to, positions_in, positions_to, operations_from, state_after_operations, script_from, script_operations}
use Rattle.input_maker.specs.Made.{state_of_script, submissions_to}
use Rattle.books_model.specs.declared.script.Part.TheVariants as part

-- one number more
range-more : (a n : ℕ) → range_with_len a (suc n) ≡ range_with_len a n ++ (a + n) ∷ []
range-more a zero = let e : a ≡ a + 0 = omega arith in ap (λ x. x ∷ []) e
range-more a (suc n) = let e : (a + 1) + n ≡ a + suc n = omega arith in ap (λ l. a ∷ l) (range-more (a + 1) n ∙ ap (λ x. range_with_len (a + 1) n ++ x ∷ []) e)

-- nothing is written
pub written_none : {X : Type 0} (write : X → List ℕ) {text : List ℕ} {none : List X} → none ≡ [] → text ≡ text ++ flat_map write none
written_none write {text} e = sym (append-nil text) ∙ ap (λ xs. text ++ flat_map write xs) (sym e)

pub accounts-none : accounts_to 0 ≡ []
unfolding accounts_to
accounts-none = refl

pub accounts-more : (n : ℕ) → accounts_to (n + 1) ≡ accounts_to n ++ (n + 1, 1000000) ∷ []
unfolding accounts_to
accounts-more n = map-range_with_len_more (λ a. (a, 1000000)) 1 n (n + 1) (omega arith)

pub prices-none : prices_to 0 ≡ []
unfolding prices_to
prices-none = refl

pub prices-more : (n : ℕ) → prices_to (n + 1) ≡ prices_to n ++ (n + 1, 100 * (n + 1)) ∷ []
unfolding prices_to
prices-more n = map-range_with_len_more (λ i. (i, 100 * i)) 1 n (n + 1) (omega arith)

pub positions_in-none : (a : ℕ) → positions_in a 0 ≡ []
unfolding positions_in
positions_in-none a = refl

pub positions_in-more : (a n : ℕ) → positions_in a (n + 1) ≡ positions_in a n ++ ((a, n + 1), 100) ∷ []
unfolding positions_in
positions_in-more a n = map-range_with_len_more (λ i. ((a, i), 100)) 1 n (n + 1) (omega arith)

pub positions-none : positions_to 0 ≡ []
unfolding positions_to
positions-none = refl

-- the positions of one account more
pub positions-more : (n : ℕ) → positions_to (n + 1) ≡ positions_to n ++ positions_in (n + 1) 8
unfolding positions_to
positions-more n =
    let f : ℕ → List ((ℕ × ℕ) × ℕ) = λ a. positions_in a 8 in
    let e : 1 + n ≡ n + 1 = omega arith in
    ap (λ m. flat_map f (range_with_len 1 m)) (add-one n)
    ∙ ap (flat_map f) (range-more 1 n)
    ∙ flat_map-append f (range_with_len 1 n) ((1 + n) ∷ [])
    ∙ ap (λ l. flat_map f (range_with_len 1 n) ++ l) (append-nil (f (1 + n)))
    ∙ ap (λ x. flat_map f (range_with_len 1 n) ++ f x) e

-- they are written
pub positions_written : (text : List ℕ) {before now : List ℕ} (n : ℕ) → before ≡ text ++ flat_map position_line (positions_to n)
    → now ≡ before ++ flat_map position_line (positions_in (n + 1) 8) → now ≡ text ++ flat_map position_line (positions_to (n + 1))
positions_written text n h k = simp (k, h, positions-more n, flat_map-append, append_assoc)

pub operations-none : (g x : ℕ) → operations_from g x 0 ≡ []
unfolding operations_from
operations-none g x = refl

pub operations-more : (g x n : ℕ) → operations_from g x (n + 1) ≡ operations_from g x n ++ operation_from g (state_after_operations n x) ∷ []
unfolding operations_from
operations-more g x n = map-range_with_len_more (λ k. operation_from g (state_after_operations k x)) 0 n n (omega arith)

pub states-none : {x : ℕ} → state_after_operations 0 x ≡ x
unfolding state_after_operations
states-none = refl

pub states-more : (n x : ℕ) → state_after_operations (n + 1) x ≡ drawn_state 5 (state_after_operations n x)
unfolding state_after_operations
states-more n x = ap (λ m. state_after_operations m x) (add-one n)

pub submissions-none : (seed callers : ℕ) → submissions_to seed callers 0 ≡ []
unfolding submissions_to
submissions-none seed callers = refl

pub submissions-more : (seed callers n : ℕ) → submissions_to seed callers (n + 1) ≡ submissions_to seed callers n ++ made_submission seed callers n ∷ []
unfolding submissions_to
submissions-more seed callers n = map-range_with_len_more (made_submission seed callers) 0 n n (omega arith)

pub scripts-none : {seed : ℕ} → state_of_script seed 0 ≡ seed
unfolding state_of_script
scripts-none = refl

pub scripts-more : (seed n : ℕ) → state_of_script seed (n + 1) ≡ state_after_script (state_of_script seed n)
unfolding state_of_script
scripts-more seed n = ap (state_of_script seed) (add-one n)

-- the lines of a script without alternatives
pub lines_alone : (ops : List Op) → script_lines (map part.One ops) ≡ operation_lines ops
lines_alone [] = refl
lines_alone (o ∷ ops) = ap (λ l. line (books_operation_words o) ++ l) (lines_alone ops)

-- the text of a made script
pub script_written : (name : List ℕ) (x : ℕ)
    → line (codes "script" ∷ name ∷ []) ++ operation_lines (script_operations x) ++ end_line
    ≡ submission_lines (record { caller = name; script = script_from x })
unfolding script_from
script_written name x = ap (λ l. line (codes "script" ∷ name ∷ []) ++ l ++ end_line) (sym (lines_alone (script_operations x)))
