-- Names are text.
use Rattle.script_reader.proofs.Common.{ℕ, ◌≡◌, ◌<◌, true, ◌&&◌, nat_le, List, [], ◌∷◌, arith, list_all, AllByRecursion, leb-true, All-from_recursion, IsName}
use Rattle.std.specs.Str.{IsUtf8}
use Rattle.std.proofs.lemmas.Str.{IsUtf8-from_ascii}
use Rattle.std.proofs.lemmas.Str.Ascii.{IsAscii-from_all}
use Rattle.script_reader.proofs.Conditions.{both}

-- letters are small bytes
letters_small : (name : List ℕ) → list_all (λ c. nat_le 97 c && nat_le c 122) name ≡ true → AllByRecursion (λ c. c < 128) name
letters_small [] h = tt
letters_small (c ∷ name) h = (omega (arith, leb-true c 122 (both (both h).0).1), letters_small name (both h).1)

-- a name is text
pub IsName-text : (name : List ℕ) → IsName name → IsUtf8 name
IsName-text name h = IsUtf8-from_ascii name (IsAscii-from_all name (All-from_recursion _ _ (letters_small name (both h).1)))
