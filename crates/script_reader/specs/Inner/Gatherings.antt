-- Callers with scripts of any type, as they are gathered while a text is read.
use Rattle.std.specs.Prelude.{◌≡◌, ℕ, ◌≤◌, suc, zero, Bool, not, ◌&&◌, ◌||◌, nat_le, List, [], ◌∷◌, ◌++◌, map, length, if◌then◌else◌}
use Rattle.std.specs.List.{list_any}
use Rattle.std.specs.Str.{bytes_eq}
use Rattle.std.specs.String.{string_bytes}
use Rattle.script_reader.specs.declared.limits.TheConstants.{MOST_CALLERS, MOST_SCRIPTS}
use Rattle.script_reader.specs.declared.language.gathering.Gathering.{Gathering}
use Rattle.script_reader.specs.Gathered.{CallerOf, SubmissionOf, count_scripts}

module _ {S : Type 0} where
  -- names beside scripts, as callers
  abbrev pub beside : List (List ℕ) → List (List S) → List (CallerOf S)
  beside [] scripts = []
  beside (name ∷ names) [] = []
  beside (name ∷ names) (scripts ∷ others) = record { name = name; scripts = scripts } ∷ beside names others

  -- the lists of scripts, with one more behind those at a place, or at a new place behind all
  abbrev pub put_script : List (List S) → ℕ → S → List (List S)
  put_script [] place script = (script ∷ []) ∷ []
  put_script (scripts ∷ others) zero script = (scripts ++ script ∷ []) ∷ others
  put_script (scripts ∷ others) (suc place) script = scripts ∷ put_script others place script

  -- the callers that are gathered
  abbrev pub callers_in : Gathering S → List (CallerOf S)
  callers_in store = beside (map string_bytes store.names.keys) (map (λ v. v.items) store.scripts.items)

  -- each name has its scripts, and the scripts are counted
  pub record IsEven (store : Gathering S) : Type 0 where
    pub beside : length store.names.keys ≡ length store.scripts.items
    pub counted : store.count ≡ count_scripts (callers_in store)

  -- callers that were gathered, as few as a text can have, and their scripts
  pub record IsWhole (store : Gathering S) : Type 0 where
    pub even : IsEven store
    pub few : length (callers_in store) ≤ MOST_CALLERS
    pub few_scripts : count_scripts (callers_in store) ≤ MOST_SCRIPTS

  -- the callers with one more script, behind those that its caller has
  abbrev pub add_submission : List (CallerOf S) → SubmissionOf S → List (CallerOf S)
  add_submission [] s = record { name = s.caller; scripts = s.script ∷ [] } ∷ []
  add_submission (c ∷ callers) s =
      if bytes_eq s.caller c.name then record { name = c.name; scripts = c.scripts ++ s.script ∷ [] } ∷ callers
      else c ∷ add_submission callers s

  -- some caller has this name
  abbrev pub is_caller : List ℕ → List (CallerOf S) → Bool
  is_caller name callers = list_any (λ c. bytes_eq name c.name) callers

  -- a script of this caller would be one too many, or its caller
  abbrev pub is_beyond_in : List (CallerOf S) → List ℕ → Bool
  is_beyond_in callers name =
      nat_le MOST_SCRIPTS (count_scripts callers) || (not (is_caller name callers) && nat_le MOST_CALLERS (length callers))
