-- The kinds of step on versions keep the timestamp invariant: their words are of nobody else, and a seat that takes one knows
-- the same of timestamps.
use Rattle.word_table.proofs.Common.{ℕ, List, refl, arith, View, found_by, load_version_action, store_version_action, own, notes_same}
use Rattle.values_rule.proofs.Common.{MayLoadVersion}
use Rattle.stamps_rule.proofs.Common.{SameStamps}
use Rattle.word_table.specs.Versions.{MayRaiseVersion}
use Rattle.word_table.proofs.Kept.ValuePairs.{StampsStay}
use Rattle.stamps_rule.proofs.Asides as stamps

-- a view with other uses, or which owes something else
abbrev used : View → List (ℕ × ℕ) → List ℕ → View
used v uses owed = record v { uses = uses; owed = owed }

same_stamps : (v : View) (uses : List (ℕ × ℕ)) (owed : List ℕ) → SameStamps v (used v uses owed)
same_stamps v uses owed = record {
  who = refl;
  joined = refl;
  stamp = refl;
  announced = refl;
  draws = refl;
  abandoned = refl;
  idle = refl;
  yielding = refl;
  notes = notes_same v (used v uses owed) refl refl;
}

pub load_version_stamps : (good : List ℕ → Type 0) (j k : ℕ) → StampsStay good (MayLoadVersion j k) (load_version_action j k)
load_version_stamps good j k n base ws vs id v s me may =
    let o = own n base ws vs id j v s.locks me may.who in
    let w : View = (load_version_action j k v).view (found_by (load_version_action j k v) ws) in
    stamps.aside_keeps n base ws vs id v (load_version_action j k v) s.locks s.stamps me (λ t. let high = t.1 in let seats = o.seats in omega arith)
    (same_stamps v w.uses w.owed)

pub store_version_stamps : (good : List ℕ → Type 0) (j k x : ℕ) → StampsStay good (MayRaiseVersion j k x) (store_version_action j k x)
store_version_stamps good j k x n base ws vs id v s me may =
    let o = own n base ws vs id j v s.locks me may.stores.who in
    let w : View = (store_version_action j k x v).view (found_by (store_version_action j k x v) ws) in
    stamps.aside_keeps n base ws vs id v (store_version_action j k x v) s.locks s.stamps me (λ t. let high = t.1 in let seats = o.seats in omega arith)
    (same_stamps v w.uses w.owed)
