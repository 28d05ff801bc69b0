-- What asking for the lock of a word comes to in an attempt, and what a load after it leaves.
use Rattle.txn_commit.proofs.Common.{◌≡◌, ◌≢◌, ℕ, true, false, List, [], ◌∷◌, ◌++◌, Option, Some, refl, sym, ap, ◌∙◌, subst, Cause, Read, View, lock_of_word}
use Rattle.txn_commit.proofs.Common.{Trace, IsGranted, differ, DeskView, HasUseOf, Asks, GainsAtMost, Halt, AsksForWord}
use Rattle.lock_or_yield.proofs.Common.{AsksTo}
use Rattle.history_model.specs.declared.shape.Shape.{Ghosts as Shapes}
use Rattle.lock_or_yield.specs.declared.turn.Intent.{Intent}
use Rattle.lock_or_yield.specs.Intents.{AsksSince, IsHeldTo}
use Rattle.lock_or_yield.proofs.Wanting.{asks_none, locks_none}
use Rattle.txn_commit.specs.declared.attempt.Asked.{Asked}
use Rattle.txn_commit.specs.Inner.Asking.{FindsUse, UsesLock}
use Rattle.txn_commit.proofs.Attempts.{gave_way_to, held_not_yield}
use Rattle.txn_commit.proofs.Footprints.{met_cause}
use Rattle.lock_or_yield.specs.declared.turn.Intent.TheVariants as intent
use Rattle.lock_or_yield.specs.declared.want.Got.TheVariants as got
use Rattle.txn_commit.specs.declared.attempt.Asked.TheVariants as asked
use Rattle.txn_commit.specs.declared.attempt.Halt.TheVariants as halt

-- it was held before
pub asked_held : (n : ℕ) (i : Intent) (a : ℕ) (v : View) (h : Option Halt) → v.met ≡ [] → IsHeldTo i v (lock_of_word a)
    → AsksForWord n i a v h asked.Held h v
asked_held n i a v h none held = record {
  asks = asks_none a v;
  locks = locks_none i (lock_of_word a) v;
  judged = none;
  yields = λ e. absurd cc;
  goes_on = λ _. (held, refl, refl);
}

-- all turns of asking came to what is said of them
module _ {S : Type 0} (shapes : Shapes S) (desk : DeskView S) (i : Intent) (a : ℕ) (old new : View) (h : Option Halt) where
  pub asked_granted : AsksSince shapes desk i a old got.Granted new → AsksForWord desk.seats i a old h asked.Granted h new
  asked_granted since = let held = since.answer.granted refl in record {
    asks = since.asks;
    locks = since.locks;
    judged = since.judged;
    yields = λ e. absurd cc;
    goes_on = λ _. (held.0, held.1, refl);
  }

  pub asked_yields : (x : Cause) → AsksSince shapes desk i a old (got.Yield x) new
      → AsksForWord desk.seats i a old h asked.Yield (Some (halt.Yield x)) new
  asked_yields x since = let way = since.answer.yields x refl in record {
    asks = since.asks;
    locks = since.locks;
    judged = since.judged;
    yields = λ e. (
      x,
      refl,
      gave_way_to desk.seats _ x old new way.1 (since.answer.bounded x refl),
      met_cause (lock_of_word a) way.0 x old new way.1,
    );
    goes_on = λ no. absurd (no refl);
  }

-- a lock that was held or is granted has its first use then, and one that had a use is held
pub goes_on_used : (n a : ℕ) (v between new : View) (before after : Option Halt) (answer : Asked)
    → AsksForWord n intent.Read a v before answer before between → answer ≢ asked.Yield → after ≡ before → FindsUse (lock_of_word a) between new
    → UsesLock n a v before true after new
goes_on_used n a v between new before after answer asks on same finds = record {
  between = between;
  answer = answer;
  asks = subst (λ (h : Option Halt). AsksForWord n intent.Read a v before answer h between) (sym same) asks;
  finds = λ _. (on, finds);
  yields = λ e. absurd (differ true refl e);
}

pub used_before : (n a : ℕ) (v : View) (h : Option Halt) → v.met ≡ [] → IsGranted v (lock_of_word a) → HasUseOf v (lock_of_word a)
    → UsesLock n a v h true h v
used_before n a v h none held used = goes_on_used n a v v v h h asked.Held (asked_held n intent.Read a v h none held) held_not_yield refl (refl, used)

-- an attempt that gives way has none
pub yields_unused : (n a : ℕ) (v new : View) (before after : Option Halt) → AsksForWord n intent.Read a v before asked.Yield after new
    → UsesLock n a v before false after new
yields_unused n a v new before after asks = record {
  between = new;
  answer = asked.Yield;
  asks = asks;
  finds = λ e. absurd (differ false e refl);
  yields = λ _. (refl, refl);
}

-- what asking for a lock, and a load after that, leave of the trace, of the words asked for and of locks
pub asks_trace : (a : ℕ) (first asked : View) → Asks a first asked → asked.trace ≡ first.trace
asks_trace a first asked asks = ap (λ (v : View). v.trace) asks.rest

abbrev pub Loads : ℕ → ℕ → View → View → Type 0
Loads a x asked loaded = loaded ≡ record asked { trace = asked.trace ++ Read a x ∷ []; uses = loaded.uses }

-- a load under a lock whose first use was found after it was asked for
pub used_load : (a x : ℕ) (between used loaded : View) → used ≡ record between { uses = used.uses }
    → loaded ≡ record used { trace = used.trace ++ Read a x ∷ [] } → Loads a x between loaded
used_load a x between used loaded finds event = event ∙ (ap (λ (v : View). record v { trace = v.trace ++ Read a x ∷ [] }) finds
    ∙ ap (λ (uses : List (ℕ × ℕ)). record between { trace = between.trace ++ Read a x ∷ []; uses = uses }) (sym (ap (λ (v : View). v.uses) event)))

pub load_trace : (a x : ℕ) (first asked loaded : View) → Asks a first asked → Loads a x asked loaded → loaded.trace ≡ first.trace ++ Read a x ∷ []
load_trace a x first asked loaded asks event = ap (λ (v : View). v.trace) event ∙ ap (λ (t : Trace). t ++ Read a x ∷ []) (asks_trace a first asked asks)

pub load_asked : (a x : ℕ) (first asked loaded : View) → Asks a first asked → Loads a x asked loaded → GainsAtMost a first.asked loaded.asked
load_asked a x first asked loaded asks event = subst (λ (v : View). GainsAtMost a first.asked v.asked) (sym event) asks.asked

pub load_locks : (i : Intent) (a x : ℕ) (first asked loaded : View) → AsksTo i (lock_of_word a) first asked → Loads a x asked loaded
    → AsksTo i (lock_of_word a) first loaded
load_locks intent.Read a x first asked loaded l event = subst (λ (v : View). AsksTo intent.Read (lock_of_word a) first v) (sym event)
    (record { claims = l.claims; scans = l.scans; bits = l.bits; reads = l.reads })
load_locks intent.Write a x first asked loaded l event = subst (λ (v : View). AsksTo intent.Write (lock_of_word a) first v) (sym event)
    (record { bits = l.bits; reads = l.reads; claims = l.claims; scans = l.scans })
