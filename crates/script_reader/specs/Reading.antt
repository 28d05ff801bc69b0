-- The first fault of a text, by any judge: what is wrong with a line beside the lines before it.
use Rattle.std.specs.Prelude.{◌≡◌, ◌≢◌, ◌⊎◌, ℕ, ◌+◌, ◌==◌, false, List, [], ◌∷◌, ◌++◌, Option, Some, None, codes, length, count_by}
use Rattle.std.specs.List.{flat_map}
use Rattle.script_reader.specs.declared.text.words.TheConstants.{LINE_FEED}
use Rattle.script_reader.specs.declared.fault.Fault.{Fault}
use Rattle.script_reader.specs.declared.fault.Fault.TheVariants as fault
use Rattle.script_reader.specs.Lines.{IsFreeOf, AreWords}
use Rattle.script_reader.specs.Text.{line}
use Rattle.script_reader.specs.Forms.{Words, is_only}

-- what is wrong with a line, if anything is, beside the lines before it
abbrev pub Judge : Type 0
Judge = List Words → Words → Option Fault

module _ (judge : Judge) where
  -- no line of a list is faulty beside the lines before it and those of the list ahead of it, and none is the last of a
  -- text
  abbrev pub HaveNoFault : List Words → List Words → Type 0
  HaveNoFault before [] = Unit {0}
  HaveNoFault before (words ∷ more) = AreWords words × (judge before words ≡ None)
      × (is_only (codes "finish") words ≡ false) × HaveNoFault (before ++ words ∷ []) more

  -- the text begins with a line with this fault, and goes on; or it has no whole line, which is a fault too
  abbrev pub BeginsFaulty : List Words → List ℕ → List ℕ → Fault → Type 0
  BeginsFaulty before text left why =
      ((words : Words) × AreWords words × (text ≡ line words ++ left) × (judge before words ≡ Some why))
      ⊎ (IsFreeOf LINE_FEED text × (left ≡ text) × (why ≡ fault.End))

  -- behind the lines before, the text has lines without fault, and then the fault; what is left stands behind the
  -- faulty line
  pub record IsFaultBehind (before : List Words) (text left : List ℕ) (why : Fault) : Type 0 where
    pub more : List Words
    pub rest : List ℕ
    pub faultless : HaveNoFault before more
    pub text_is : text ≡ flat_map line more ++ rest
    pub here : BeginsFaulty (before ++ more) rest left why

  -- the first fault of a text up to its line `finish`; lines are numbered from 1
  pub record IsFaultInFront (text : List ℕ) (number : ℕ) (why : Fault) : Type 0 where
    pub left : List ℕ
    pub faulty : IsFaultBehind [] text left why
    pub number_is : number ≡ length faulty.more + 1

-- a text, or another one directly behind it, which is the fault of the line there
pub record GoesOnBehind (IsText : List ℕ → Type 0) (text : List ℕ) (number : ℕ) (why : Fault) : Type 0 where
  pub front : List ℕ
  pub rest : List ℕ
  pub text_is : text ≡ front ++ rest
  pub spelled : IsText front
  pub some : rest ≢ []
  pub number_is : number ≡ count_by (λ b. b == LINE_FEED) front + 1
  pub why_is : why ≡ fault.End
