-- How callers with scripts are stored.
use Rattle.std.specs.Prelude.{ℕ, List, refl}
use Rattle.std.specs.Coded.{Coded, code_by, coded×, coded_ℕ, coded_list}
use Rattle.script_reader.specs.Gathered.{CallerOf}

module _ {O : Type 0} (operation : Coded O) where
  -- a caller is stored as the pair of its parts
  abbrev pub caller_code : Coded (CallerOf (List O))
  caller_code = code_by (List ℕ × List (List O)) (coded× (coded_list coded_ℕ) (coded_list (coded_list operation))) (λ c. (c.name, c.scripts))
      (λ p. record { name = p.0; scripts = p.1 }) (λ _. refl)

  abbrev pub callers_code : Coded (List (CallerOf (List O)))
  callers_code = coded_list caller_code
