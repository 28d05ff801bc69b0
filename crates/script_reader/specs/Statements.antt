-- What the laws of texts say.
use Rattle.std.specs.Prelude.{◌≡◌, ◌⊎◌, ℕ, List}
use Rattle.script_reader.specs.declared.fault.Fault.{Fault}
use Rattle.script_reader.specs.declared.books.version.Version.TheVariants.{Two}
use Rattle.script_reader.specs.Input.{ClearingInput, IsInput}
use Rattle.script_reader.specs.Versions.{IsInputWithin}
use Rattle.script_reader.specs.Grammar.{Spells, IsValidInput, AreTwoTexts, BeginWithInput}
use Rattle.script_reader.specs.Faults.{IsFirstFault, IsFrontFault}
use Rattle.script_reader.specs.Gathered.{CallerOf}
use Rattle.script_reader.specs.ListLanguage.{ListLanguage, IsTextOf, IsText, IsFirstFaultIn}

-- the text has a first fault
abbrev pub HasFault : List ℕ → Type 0
HasFault text = (number : ℕ) × (why : Fault) × IsFirstFault text number why

-- a text that is of an input has no fault, and one that has no fault is of an input
pub record ValidOrFaulty : Type 0 where
  pub either : (text : List ℕ) → IsValidInput text ⊎ HasFault text
  pub not_both : (text : List ℕ) → IsValidInput text → ¬ HasFault text

-- each input is in the ranges of version 2
abbrev pub EachInputIsWithinTwo : Type 0
EachInputIsWithinTwo = (input : ClearingInput) → IsInput input → IsInputWithin Two input

-- a text is of one input at most
abbrev pub OneInput : Type 0
OneInput = (text : List ℕ) (input other : ClearingInput) → Spells text input → Spells text other → input ≡ other

-- a text has one first fault at most
abbrev pub OneFault : Type 0
OneFault = (text : List ℕ) (number other : ℕ) (why reason : Fault) → IsFirstFault text number why
    → IsFirstFault text other reason → (number ≡ other) × (why ≡ reason)

-- the text has a first fault up to its line `finish`
abbrev pub HasFrontFault : List ℕ → Type 0
HasFrontFault text = (number : ℕ) × (why : Fault) × IsFrontFault text number why

-- a text that begins with that of an input has no fault there, and one that has none there begins with one
pub record FrontOrFaulty : Type 0 where
  pub either : (text : List ℕ) → BeginWithInput text ⊎ HasFrontFault text
  pub not_both : (text : List ℕ) → BeginWithInput text → ¬ HasFrontFault text

-- if a text begins with that of an input, its bytes, the input and what follows are one
abbrev pub OneFront : Type 0
OneFront =
    (bytes : List ℕ) (input other : ClearingInput) (text rest : List ℕ)
    (this : AreTwoTexts bytes input text) (that : AreTwoTexts bytes other rest)
    → (this.front ≡ that.front) × (input ≡ other) × (text ≡ rest)

module _ {O S : Type 0} (g : ListLanguage O S) where
  -- a text of the language is of one list of sizes and one list of callers at most
  abbrev pub OneTextIn : Type 0
  OneTextIn = (text : List ℕ) (sizes others : List ℕ) (callers more : List (CallerOf S)) → IsTextOf g text sizes callers
      → IsTextOf g text others more → (sizes ≡ others) × (callers ≡ more)

  -- it has one first fault at most
  abbrev pub OneFaultIn : Type 0
  OneFaultIn = (text : List ℕ) (number other : ℕ) (why reason : Fault) → IsFirstFaultIn g text number why
      → IsFirstFaultIn g text other reason → (number ≡ other) × (why ≡ reason)

  -- the bytes have a first fault as a text of the language
  abbrev pub HasFaultIn : List ℕ → Type 0
  HasFaultIn text = (number : ℕ) × (why : Fault) × IsFirstFaultIn g text number why

  -- a text of the language has no fault, and bytes that have none are a text of it
  pub record TextOrFaultyIn : Type 0 where
    pub either : (text : List ℕ) → IsText g text ⊎ HasFaultIn text
    pub not_both : (text : List ℕ) → IsText g text → ¬ HasFaultIn text
