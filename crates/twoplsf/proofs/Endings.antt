-- What is said of a status, said of its number.
use Rattle.twoplsf.proofs.Common.{◌≡◌, ◌≤◌, ◌⊎◌, inl, inr, ℕ, suc, List, length, Option, Some, None, IfSome, IsSome, true≢false, Result, Ok, IfOk, refl, sym}
use Rattle.twoplsf.proofs.Common.{ap, subst, ◌∙◌, IfSome_then, MOST_INPUT_BYTES, Status}
use Rattle.std.proofs.Common.{zero}
use Rattle.twoplsf.specs.Ending.{exit_status}
use Rattle.twoplsf.specs.declared.status.Status.TheVariants as status

-- the status with a number
status_at : ℕ → Status
status_at zero = status.Done
status_at (suc zero) = status.Differs
status_at (suc (suc zero)) = status.BadWords
status_at (suc (suc (suc zero))) = status.BadInput
status_at (suc (suc (suc (suc zero)))) = status.TooLarge
status_at (suc (suc (suc (suc (suc zero))))) = status.ReadFault
status_at (suc (suc (suc (suc (suc (suc zero)))))) = status.WriteFault
status_at _ = status.OutOfMemory

at_number : (s : Status) → status_at (exit_status s) ≡ s
unfolding status_at
at_number status.Done = refl
at_number status.Differs = refl
at_number status.BadWords = refl
at_number status.BadInput = refl
at_number status.TooLarge = refl
at_number status.ReadFault = refl
at_number status.WriteFault = refl
at_number status.OutOfMemory = refl

-- a number is that of one status
pub one_status : (n : ℕ) (s other : Status) → n ≡ exit_status s → n ≡ exit_status other → s ≡ other
one_status n s other this that = sym (at_number s) ∙ ap status_at (sym this ∙ that) ∙ at_number other

-- if the status is this one, the number is its
number_of : (n : ℕ) (s is : Status) → n ≡ exit_status s → s ≡ is → n ≡ exit_status is
number_of n s is this same = this ∙ ap exit_status same

pub one_of_two : (n : ℕ) (s a b : Status) → n ≡ exit_status s → (s ≡ a) ⊎ (s ≡ b) → (n ≡ exit_status a) ⊎ (n ≡ exit_status b)
one_of_two n s a b this (inl same) = inl (number_of n s a this same)
one_of_two n s a b this (inr same) = inr (number_of n s b this same)

one_of_three : (n : ℕ) (s a b c : Status) → n ≡ exit_status s → (s ≡ a) ⊎ (s ≡ b) ⊎ (s ≡ c) → (n ≡ exit_status a) ⊎ (n ≡ exit_status b) ⊎ (n ≡ exit_status c)
one_of_three n s a b c this (inl same) = inl (number_of n s a this same)
one_of_three n s a b c this (inr other) = inr (one_of_two n s b c this other)

-- what holds of the value holds if the result has it
pub where_ok : {T E : Type 0} {r : Result T E} {x : T} (P : T → Type 0) → r ≡ Ok x → P x → IfOk r P
where_ok P is h = subst (λ r. IfOk r P) (sym is) h

-- a value that is there, with what holds of it
pub some_with : {T : Type 0} (o : Option T) (P : T → Type 0) → IsSome o → IfSome o P → (x : T) × P x
some_with None P there h = absurd (true≢false (sym there))
some_with (Some x) P there h = (x, h)

-- what the work comes to on bytes that begin well, said of its number
pub ends_in_two : (Begin : List ℕ → Type 0) (Read Write : Type 0) (n : ℕ) (s a b : Status) (left : Option (List ℕ)) → n ≡ exit_status s
    → IfSome left (λ bytes. length bytes ≤ MOST_INPUT_BYTES → Begin bytes → (¬ Read) → (¬ Write) → (s ≡ a) ⊎ (s ≡ b))
    → IfSome left (λ bytes. length bytes ≤ MOST_INPUT_BYTES → Begin bytes → (¬ Read) → (¬ Write) → (n ≡ exit_status a) ⊎ (n ≡ exit_status b))
ends_in_two Begin Read Write n s a b left this h =
    IfSome_then left h (λ bytes ends within begins read write. one_of_two n s a b this (ends within begins read write))

pub ends_in_three : (Begin : List ℕ → Type 0) (Read Write : Type 0) (n : ℕ) (s a b c : Status) (left : Option (List ℕ)) → n ≡ exit_status s
    → IfSome left (λ bytes. length bytes ≤ MOST_INPUT_BYTES → Begin bytes → (¬ Read) → (¬ Write) → (s ≡ a) ⊎ (s ≡ b) ⊎ (s ≡ c))
    → IfSome left (λ bytes. length bytes ≤ MOST_INPUT_BYTES → Begin bytes → (¬ Read) → (¬ Write) → (n ≡ exit_status a)
    ⊎ (n ≡ exit_status b) ⊎ (n ≡ exit_status c))
ends_in_three Begin Read Write n s a b c left this h =
    IfSome_then left h (λ bytes ends within begins read write. one_of_three n s a b c this (ends within begins read write))
