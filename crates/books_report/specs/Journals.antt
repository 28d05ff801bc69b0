-- A journal: the scripts in the order in which they were run, with replies of any type.
use Rattle.std.specs.Prelude.{ℕ, ◌+◌, List, [], ◌∷◌, ◌++◌, map}
use Rattle.script_reader.specs.Gathered.{CallerOf, caller_at}
use Rattle.script_reader.specs.Journal.{Place}
use Rattle.script_reader.specs.Text.{number, line}

-- a script that was run: its place, how often it was restarted, and its reply
pub record RanOf (R : Type 0) : Type 0 where
  pub place : Place
  pub restarts : ℕ
  pub reply : R

-- the places of scripts that were run
abbrev pub places_run : {R : Type 0} → List (RanOf R) → List Place
places_run scripts = map (λ ran. ran.place) scripts

module _ {R : Type 0} (reply_words : R → List (List ℕ)) where
  -- SERIAL CALLER INDEX RESTARTS REPLY: serial numbers and indexes count from 1 in the text
  abbrev pub journal_line : ℕ → List ℕ → RanOf R → List ℕ
  journal_line serial name ran =
      line (number serial ∷ name ∷ number (ran.place.index + 1) ∷ number ran.restarts ∷ reply_words ran.reply)

  -- a line for each script, the first of which has this serial number
  abbrev pub journal_lines : {S : Type 0} → List (CallerOf S) → ℕ → List (RanOf R) → List ℕ
  journal_lines callers serial [] = []
  journal_lines callers serial (ran ∷ scripts) =
      journal_line serial (caller_at callers ran.place.caller).name ran ++ journal_lines callers (serial + 1) scripts
