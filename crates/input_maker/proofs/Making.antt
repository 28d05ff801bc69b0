-- The operations and scripts that are made, of the first kind and of the second, and that each script of a made input is one.
use Rattle.input_maker.proofs.Common.{sum_by, subst, ◌≡◌, ℕ, ◌+◌, ◌*◌, ◌<◌, ◌≤◌, ◌==◌, ◌&&◌, Bool, true, false, if◌then◌else◌, List, [], ◌∷◌, map, length, refl}
use Rattle.input_maker.proofs.Common.{sym, ap, ◌∙◌, true≢false, arith, AllByRecursion, range_with_len, bytes_eq, mod-lt, length-map-range_with_len, sum_by-cons}
use Rattle.input_maker.proofs.Common.{Op, Part, operations_of, IsWithin, IsOperationFor, AllByRecursion-weaker, sum_by-most, Submission, first_seen, callers_of}
use Rattle.input_maker.proofs.Common.{drawn_state, made_books, made_submission, state_of_script, state_after_operations, deposits_in, deposits_of, paid_in_by}
use Rattle.input_maker.proofs.Common.{One, IsScriptOf}
use Rattle.script_reader.proofs.Common.{alternatives_in, IsOperationOf}
use Rattle.std.proofs.Common.{filter}
use Rattle.std.specs.List.{All, list_all}
use Rattle.std.proofs.lemmas.List.Elements.{All-filter, All-from_recursion, All-map}
use Rattle.script_reader.specs.Input.{scripts_by}
use Rattle.input_maker.specs.Generator.{drawn}
use Rattle.input_maker.specs.Made.{first_kind, second_kind, operation_from, operations_from, script_from, script_operations, submissions_to}
use Rattle.input_maker.specs.Days.{IsOfFirstKind, is_of_first_kind}
use Rattle.input_maker.proofs.Opening.{all_mapped}
use Rattle.script_reader.specs.Versions.{amount_of}
use Rattle.books_model.specs.declared.script.Op.TheVariants as op
use Rattle.books_model.specs.declared.script.Part.TheVariants as part

-- an operation that is made, with its numbers in their ranges
pub data IsMade : Bool → Op → Type 0 where
  made_deposit : (a x : ℕ) → IsWithin 1 200 a → IsWithin 1 100 x → IsMade true (op.Deposit a x)
  made_price : (i p : ℕ) → IsWithin 1 8 i → IsWithin 1 1000 p → IsMade true (op.Price i p)
  made_next : IsMade true op.Next
  made_sum : (a b : ℕ) → IsWithin 1 200 a → IsWithin 1 200 b → IsMade true (op.Sum a b)
  made_move : (a b x : ℕ) → IsWithin 1 200 a → IsWithin 1 200 b → IsWithin 1 100 x → IsMade false (op.Move a b x)
  made_trade : (a b i q : ℕ) → IsWithin 1 200 a → IsWithin 1 200 b → IsWithin 1 8 i → IsWithin 1 100 q → IsMade false (op.Trade a b i q)
  made_margin : (a m : ℕ) → IsWithin 1 200 a → IsWithin 1 100 m → IsMade false (op.Margin a m)
  made_show : (a : ℕ) → IsWithin 1 200 a → IsMade false (op.Show a)

-- what lies in a range lies in a wider one
wider : {low most wide n : ℕ} → most ≤ wide → IsWithin low most n → IsWithin low wide n
wider fits h = (h.0, omega (arith, h.1, fits))

-- it is for the opening books
pub operation_fits : {first : Bool} {o : Op} → IsMade first o → IsOperationFor made_books o
operation_fits (made_deposit a x account amount) = (wider (omega arith) account, wider (omega arith) amount)
operation_fits (made_price i p instrument price) = (instrument, wider (omega arith) price)
operation_fits made_next = tt
operation_fits (made_sum a b from to) = (wider (omega arith) from, wider (omega arith) to)
operation_fits (made_move a b x payer payee amount) =
    (wider (omega arith) payer, wider (omega arith) payee, wider (omega arith) amount)
operation_fits (made_trade a b i q buyer seller instrument quantity) =
    (wider (omega arith) buyer, wider (omega arith) seller, instrument, wider (omega arith) quantity)
operation_fits (made_margin a m account rate) = (wider (omega arith) account, rate)
operation_fits (made_show a account) = wider (omega arith) account

-- its amount is no more than a hundred
amount_little : {first : Bool} {o : Op} → IsMade first o → amount_of o ≤ 100
amount_little (made_deposit a x account amount) = amount.1
amount_little (made_move a b x payer payee amount) = amount.1
amount_little (made_price i p instrument price) = omega arith
amount_little made_next = omega arith
amount_little (made_sum a b from to) = omega arith
amount_little (made_trade a b i q buyer seller instrument quantity) = omega arith
amount_little (made_margin a m account rate) = omega arith
amount_little (made_show a account) = omega arith

-- so a text of version 1 can give it
operation_of_one : (first : Bool) (o : Op) → IsMade first o → IsOperationOf One made_books o
operation_of_one first o m = (operation_fits m, omega (arith, amount_little m))

-- it pays in no more than a hundred
pub pays_little : (first : Bool) (o : Op) → IsMade first o → paid_in_by o ≤ 100
pays_little first o (made_deposit a x account amount) = amount.1
pays_little first o _ = omega arith

-- it tells the kind
tells_kind : {first : Bool} {o : Op} → IsMade first o → is_of_first_kind o ≡ first
tells_kind (made_deposit a x account amount) = refl
tells_kind _ = refl

-- one that is not of the first kind pays nothing in
pays_nothing : (o : Op) → is_of_first_kind o ≡ false → paid_in_by o ≡ 0
pays_nothing (op.Deposit a x) second = absurd (true≢false second)
pays_nothing _ second = refl

-- a script that is made
pub record IsMadeScript (first : Bool) (script : List Part) : Type 0 where
  pub alone : script ≡ map part.One (operations_of script)
  pub each : AllByRecursion (IsMade first) (operations_of script)
  pub some : 1 ≤ length (operations_of script)
  pub few : length (operations_of script) ≤ 3

-- of one kind or the other
abbrev pub IsMadeOnce : List Part → Type 0
IsMadeOnce script = (first : Bool) × IsMadeScript first script

-- operations alone are the operations of their script, and no alternatives
operations_alone : (ops : List Op) → operations_of (map part.One ops) ≡ ops
operations_alone [] = refl
operations_alone (o ∷ ops) = ap (λ l. o ∷ l) (operations_alone ops)

no_alternatives : (ops : List Op) → sum_by alternatives_in (map part.One ops) ≡ 0
no_alternatives [] = refl
no_alternatives (o ∷ ops) = omega (arith, sum_by-cons alternatives_in (part.One o) (map part.One ops), no_alternatives ops)

-- a text of version 1 with the opening books can give it
pub script_fits : {first : Bool} {script : List Part} → IsMadeScript first script → IsScriptOf One made_books script
script_fits {first} {script} m = record {
  few = omega (arith, m.few);
  few_alternatives = omega (arith, ap (λ parts. sum_by alternatives_in parts) m.alone, no_alternatives (operations_of script));
  each = All-from_recursion (IsOperationOf One made_books) (operations_of script)
      (AllByRecursion-weaker (IsMade first) (IsOperationOf One made_books) (operation_of_one first) (operations_of script) m.each);
}

-- a script of such operations
all_first : (ops : List Op) → AllByRecursion (IsMade true) ops → list_all is_of_first_kind ops ≡ true
all_first [] each = refl
all_first (o ∷ ops) each = λ t. tells_kind each.0 t && all_first ops each.1 t

not_first : (ops : List Op) → 1 ≤ length ops → AllByRecursion (IsMade false) ops → ¬ (list_all is_of_first_kind ops ≡ true)
not_first [] some each is = omega (arith, some)
not_first (o ∷ ops) some each is = true≢false (sym is ∙ ap (λ b. b && list_all is_of_first_kind ops) (tells_kind each.0))

-- a made script is of the kind of its operations
pub kind_is : (first : Bool) {script : List Part} → IsMadeScript first script → IsOfFirstKind script → first ≡ true
kind_is true m is = refl
kind_is false {script} m is = absurd (not_first (operations_of script) m.some m.each is)

pub kind_is_not : (first : Bool) {script : List Part} → IsMadeScript first script → (¬ IsOfFirstKind script) → first ≡ false
kind_is_not true {script} m is_not = absurd (is_not (all_first (operations_of script) m.each))
kind_is_not false m is_not = refl

-- one of the second kind has no deposits
pub deposits_none : (first : Bool) (ops : List Op) → AllByRecursion (IsMade first) ops → first ≡ false → deposits_in ops ≡ 0
deposits_none first [] each second = refl
deposits_none first (o ∷ ops) each second =
    omega (arith, sum_by-cons paid_in_by o ops, pays_nothing o (tells_kind each.0 ∙ second), deposits_none first ops each.1 second)

pub deposits_most : {first : Bool} {script : List Part} → IsMadeScript first script → deposits_of script ≤ 300
deposits_most {first} {script} m =
    omega (
      arith,
      m.few,
      sum_by-most paid_in_by 100 (operations_of script)
          (AllByRecursion-weaker (IsMade first) (λ o. paid_in_by o ≤ 100) (pays_little first) (operations_of script) m.each),
    )

-- a draw is below its bound
drawn_below : (n x : ℕ) → 0 < n → drawn n x < n
unfolding drawn
drawn_below n x some = mod-lt _ some

-- a draw and one
within_one : {n : ℕ} (x : ℕ) → 0 < n → IsWithin 1 n (1 + drawn n x)
within_one {n} x some = let h = drawn_below n x some in (omega arith, omega (arith, h))

-- what holds of both holds of the one that is chosen
pub chosen : {A : Type 0} (P : A → Type 0) (b : Bool) (x y : A) → P x → P y → P (if b then x else y)
chosen P true x y p q = p
chosen P false x y p q = q

-- what is chosen by its first draw
operation_made : (first : Bool) (t : ℕ) {a b i q : ℕ} → IsWithin 1 200 a → IsWithin 1 200 b → IsWithin 1 8 i
    → IsWithin 1 100 q → IsMade first (if first then first_kind t a b i q else second_kind t a b i q)
operation_made true t {a} {b} {i} {q} account other instrument amount =
    chosen (IsMade true) (t == 0) _ _ (made_deposit a q account amount)
    (chosen (IsMade true) (t == 1) _ _ (made_price i (10 * q) instrument (omega (arith, amount.0), omega (arith, amount.1)))
    (chosen (IsMade true) (t == 2) _ _ made_next (made_sum a b account other)))
operation_made false t {a} {b} {i} {q} account other instrument amount =
    chosen (IsMade false) (t == 0) _ _ (made_move a b q account other amount)
    (chosen (IsMade false) (t == 1) _ _ (made_trade a b i q account other instrument amount)
    (chosen (IsMade false) (t == 2) _ _ (made_margin a q account amount) (made_show a account)))

operation_from_made : (g x : ℕ) → IsMade (g == 0) (operation_from g x)
unfolding operation_from
operation_from_made g x =
    operation_made (g == 0) (drawn 4 x)
    (within_one (drawn_state 1 x) (omega arith)) (within_one (drawn_state 2 x) (omega arith))
    (within_one (drawn_state 3 x) (omega arith)) (within_one (drawn_state 4 x) (omega arith))

-- a script of such operations alone
made_of : {first : Bool} (ops : List Op) → AllByRecursion (IsMade first) ops → 1 ≤ length ops → length ops ≤ 3 → IsMadeScript first (map part.One ops)
made_of {first} ops each some few =
    let same = operations_alone ops in
    record {
      alone = ap (map part.One) (sym same);
      each = subst (AllByRecursion (IsMade first)) (sym same) each;
      some = omega (arith, ap length same, some);
      few = omega (arith, ap length same, few);
    }

-- a script of the generator is made
pub script_made : (x : ℕ) → IsMadeOnce (script_from x)
unfolding script_from script_operations operations_from
script_made x =
    let make : ℕ → Op = λ k. operation_from (drawn 2 x) (state_after_operations k (drawn_state 2 x)) in
    let count = length-map-range_with_len make 0 (1 + drawn 3 (drawn_state 1 x)) in (
      drawn 2 x == 0,
      made_of (map make (range_with_len 0 (1 + drawn 3 (drawn_state 1 x))))
          (all_mapped (IsMade (drawn 2 x == 0)) make 0 (1 + drawn 3 (drawn_state 1 x)) (λ k low high.
          operation_from_made (drawn 2 x) (state_after_operations k (drawn_state 2 x))))
          (omega (arith, count)) (omega (arith, count, drawn_below 3 (drawn_state 1 x) (omega arith))),
    )

-- what holds of each script of a text holds of each of its callers' scripts
of_callers : (P : List Part → Type 0) (subs : List Submission) → All (λ s. P s.script) subs → All (λ c. All P c.scripts) (callers_of subs)
of_callers P subs each =
    All-map (λ c. All P c.scripts) (λ name. record { name = name; scripts = scripts_by name subs }) (first_seen (map (λ s. s.caller) subs))
    (λ k d less. All-map P (λ s. s.script) (filter (λ s. bytes_eq _ s.caller) subs) (All-filter (λ s. bytes_eq _ s.caller) (λ s. P s.script) subs each))

submissions_made : (seed callers n : ℕ) → All (λ s. IsMadeOnce s.script) (submissions_to seed callers n)
unfolding submissions_to
submissions_made seed callers n =
    All-from_recursion (λ s. IsMadeOnce s.script) (map (made_submission seed callers) (range_with_len 0 n))
    (all_mapped (λ s. IsMadeOnce s.script) (made_submission seed callers) 0 n (λ k low high. script_made (state_of_script seed k)))

-- so is each script of the callers of a made input
pub callers_made : (seed callers n : ℕ) → All (λ c. All IsMadeOnce c.scripts) (callers_of (submissions_to seed callers n))
callers_made seed callers n = of_callers IsMadeOnce (submissions_to seed callers n) (submissions_made seed callers n)
