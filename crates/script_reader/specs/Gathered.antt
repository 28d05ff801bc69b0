-- Callers with scripts of any type, as the scripts of a text give them.
use Rattle.std.specs.Prelude.{◌≡◌, ℕ, ◌≤◌, Bool, true, ◌&&◌, nat_le, List, [], ◌∷◌, ◌++◌, map, slice_index_or, filter, fold, length, sum_by, All, if◌then◌else◌}
use Rattle.std.specs.List.{list_any, list_all, IsDistinct}
use Rattle.std.specs.Str.{bytes_eq}
use Rattle.script_reader.specs.declared.limits.TheConstants.{MOST_CALLERS, MOST_SCRIPTS, LONGEST_NAME}

-- a caller: its name, and its scripts in the order in which they were given
pub record CallerOf (S : Type 0) : Type 0 where
  pub name : List ℕ
  pub scripts : List S

-- a script as it stands in a text, with the name of its caller
pub record SubmissionOf (S : Type 0) : Type 0 where
  pub caller : List ℕ
  pub script : S

-- whether a name is some letters from `a` to `z`
abbrev pub is_name : List ℕ → Bool
is_name name =
    nat_le 1 (length name) && nat_le (length name) LONGEST_NAME && list_all (λ c. nat_le 97 c && nat_le c 122) name

abbrev pub IsName : List ℕ → Type 0
IsName name = is_name name ≡ true

-- the names seen so far, and this one behind them if it is new
abbrev pub add_name : List (List ℕ) → List ℕ → List (List ℕ)
add_name seen name = if list_any (bytes_eq name) seen then seen else seen ++ name ∷ []

-- names in the order in which they are first seen, each once
abbrev pub first_seen : List (List ℕ) → List (List ℕ)
first_seen names = fold add_name [] names

module _ {S : Type 0} where
  -- the scripts of one caller, in order
  abbrev pub scripts_by : List ℕ → List (SubmissionOf S) → List S
  scripts_by name submissions = map (λ s. s.script) (filter (λ s. bytes_eq name s.caller) submissions)

  -- the callers of the scripts of a text, in the order in which they are first seen
  abbrev pub callers_of : List (SubmissionOf S) → List (CallerOf S)
  callers_of submissions =
      map (λ name. record { name = name; scripts = scripts_by name submissions }) (first_seen (map (λ s. s.caller) submissions))

  -- the caller with a number, from 0
  abbrev pub caller_at : List (CallerOf S) → ℕ → CallerOf S
  caller_at callers c = slice_index_or callers c (record { name = []; scripts = [] })

  -- how many scripts they have together
  abbrev pub count_scripts : List (CallerOf S) → ℕ
  count_scripts callers = sum_by (λ c. length c.scripts) callers

-- a script, which is a list, of the caller with a number, both from 0
abbrev pub script_at : {O : Type 0} → List (CallerOf (List O)) → ℕ → ℕ → List O
script_at callers c i = slice_index_or (caller_at callers c).scripts i []

-- callers that a text can give, each with at least one script, and all their scripts as they have to be
pub record AreCallers {S : Type 0} (IsScript : S → Type 0) (callers : List (CallerOf S)) : Type 0 where
  pub few : length callers ≤ MOST_CALLERS
  pub few_scripts : count_scripts callers ≤ MOST_SCRIPTS
  pub names : All (λ c. IsName c.name) callers
  pub names_differ : IsDistinct bytes_eq (map (λ c. c.name) callers)
  pub scripts : All (λ c. All IsScript c.scripts) callers
  pub some_scripts : All (λ c. 1 ≤ length c.scripts) callers
