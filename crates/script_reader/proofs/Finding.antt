-- Whether a search finds an element.
use Rattle.script_reader.proofs.Common.{◌≡◌, ℕ, ◌-◌, ◌≤◌, Bool, true, false, not, ◌==◌, nat_lt, List, [], ◌∷◌, Option, Some, None, IsSome, refl, sym, ap, subst}
use Rattle.script_reader.proofs.Common.{◌∙◌, arith, list_any, AllByRecursion, is_some, nat_cmp, is_lt, get-entries, none-some, nat_tests, ClearingBooks}
use Rattle.script_reader.proofs.Common.{position_cmp, is_below, Version}
use Rattle.std.specs.List.{find}
use Rattle.std.specs.Option.{option_map}
use Rattle.script_reader.proofs.Conditions.{or_false}
use Rattle.script_reader.proofs.books.Printing.Printed.{is_low_in}
use Rattle.script_reader.proofs.books.Printing.Sections.{pair_less, less_pair, less_is}
use Rattle.script_reader.proofs.books.WithoutFault.BooksFaultless.{printed, found_is_given, some_of}
use Rattle.script_reader.proofs.books.Printing.Extending.{key_found}
use Rattle.std.specs.FinMap as map

-- a search finds if a test that agrees passes
pub found_any : {A : Type 0} (p q : A → Bool) (xs : List A) → AllByRecursion (λ x. p x ≡ q x) xs → is_some (find p xs) ≡ list_any q xs
found_any p q [] agree = refl
found_any p q (x ∷ xs) agree = grind (arith, found_any p q xs agree.1, agree.0)

-- what is found in another form is found
pub map_found : {A B : Type 0} (f : A → B) (o : Option A) → is_some (option_map f o) ≡ is_some o
map_found f None = refl
map_found f (Some x) = refl

-- what holds of all elements holds of each of a list
pub all_of : {A : Type 0} (P : A → Type 0) (xs : List A) → ((x : A) → P x) → AllByRecursion P xs
all_of P [] each = tt
all_of P (x ∷ xs) each = (each x, all_of P xs each)

-- above the number before another is not below that other
not_below : {a v : ℕ} (x : ℕ) → 1 ≤ a → a ≡ v → nat_lt (a - 1) x ≡ not (is_below (x, 0) (v, 0))
not_below x some same = grind (arith, nat_tests)

-- an entry that is not below a key is found above the number before it
pub low_found : {a v : ℕ} (es : List (ℕ × ℕ)) → 1 ≤ a → a ≡ v → is_some (find (λ e. nat_lt (a - 1) e.0) es) ≡ list_any (λ e. not (is_below (e.0, 0) (v, 0))) es
low_found {a} {v} es some same = found_any (λ e. nat_lt (a - 1) e.0) (λ e. not (is_below (e.0, 0) (v, 0))) es (all_of _ es (λ e. not_below e.0 some same))

-- less by the order of positions is below
lt_is_below : (p x : ℕ × ℕ) → is_lt (position_cmp p x) ≡ is_below p x
lt_is_below p x = by (is_lt (position_cmp p x)) refl (is_below p x) refl
  where
    by : (b : Bool) → is_lt (position_cmp p x) ≡ b → (c : Bool) → is_below p x ≡ c → b ≡ c
    by true e true f = refl
    by false e false f = refl
    by true e false f = sym (sym f ∙ pair_less p x (less_is (position_cmp p x) e))
    by false e true f = sym e ∙ ap is_lt (less_pair p x f)

-- the position before another is below all that are not below that other
before_position : {a i v w : ℕ} (x : ℕ × ℕ) → 1 ≤ i → a ≡ v → i ≡ w → is_below (a, i - 1) x ≡ not (is_below x (v, w))
before_position x some same also = grind (arith, nat_tests)

-- a position that is not below a key is found above the one before it
pub low_position_found : {B : Type 0} (f : (ℕ × ℕ) × ℕ → B) {a i v w : ℕ} (es : List ((ℕ × ℕ) × ℕ)) → 1 ≤ i → a ≡ v → i ≡ w
    → is_some (option_map f (find (λ e. is_lt (position_cmp (a, i - 1) e.0)) es)) ≡ list_any (λ e. not (is_below e.0 (v, w))) es
low_position_found f {a} {i} {v} {w} es some same also =
    map_found f (find (λ e. is_lt (position_cmp (a, i - 1) e.0)) es)
    ∙ found_any (λ e. is_lt (position_cmp (a, i - 1) e.0)) (λ e. not (is_below e.0 (v, w))) es
    (all_of _ es (λ e. lt_is_below (a, i - 1) e.0 ∙ before_position e.0 some same also))

-- a key is one of the keys if it is found
pub given_is_found : (m : map.FinMap nat_cmp ℕ) {a v : ℕ} → a ≡ v → (o : Option ℕ) → o ≡ map.get m a → list_any (λ x. x.0 == v) (map.entries m) ≡ is_some o
given_is_found m {a} {v} same None at = by (list_any (λ x. x.0 == v) (map.entries m)) refl
  where
    by : (c : Bool) → list_any (λ x. x.0 == v) (map.entries m) ≡ c → c ≡ false
    by false f = refl
    by true f = absurd (none-some _ (at ∙ (some_of (map.get m a) (subst (λ n. IsSome (map.get m n)) (sym same) (key_found m v f))).1))
given_is_found m {v} same (Some x) at =
    found_is_given v (map.entries m) (subst IsSome (get-entries m v) (subst (λ n. IsSome (map.get m n)) same (subst IsSome at refl)))

-- whether an account or a price does not rise, as the first entry above the number before it tells
pub account_low : (version : Version) (b : ClearingBooks) {a v : ℕ} {found : Option (ℕ × ℕ)} → 1 ≤ a → a ≡ v
    → found ≡ find (λ e. nat_lt (a - 1) e.0) (map.entries b.accounts) → is_low_in 0 (v, 0) (printed version b) ≡ is_some found
account_low version b some same first = or_false _ ∙ sym (low_found (map.entries b.accounts) some same) ∙ sym (ap is_some first)

pub price_low : (version : Version) (b : ClearingBooks) {i v : ℕ} {found : Option (ℕ × ℕ)} → 1 ≤ i → i ≡ v
    → found ≡ find (λ e. nat_lt (i - 1) e.0) (map.entries b.prices) → is_low_in 1 (v, 0) (printed version b) ≡ is_some found
price_low version b some same first = or_false _ ∙ sym (low_found (map.entries b.prices) some same) ∙ sym (ap is_some first)

-- and so for a position
pub position_low : {B : Type 0} (f : (ℕ × ℕ) × ℕ → B) (version : Version) (b : ClearingBooks) {a i v w : ℕ} {found : Option B} → 1 ≤ i → a ≡ v → i ≡ w
    → found ≡ option_map f (find (λ e. is_lt (position_cmp (a, i - 1) e.0)) (map.entries b.positions)) → is_low_in 2 (v, w) (printed version b) ≡ is_some found
position_low f version b some same also first = sym (low_position_found f (map.entries b.positions) some same also)
    ∙ sym (ap is_some first)
