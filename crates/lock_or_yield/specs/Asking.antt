-- What asking for the lock of a word may change of what a pass knows, and what its answers leave.
use Rattle.std.specs.Prelude.{◌≡◌, ◌≢◌, ◌⊎◌, ℕ, ◌+◌, ◌<◌, true, List, [], ◌∷◌, ◌++◌, Some, ◌==◌}
use Rattle.history_model.specs.declared.event.Cause.{Cause}
use Rattle.history_model.specs.declared.view.View.{View}
use Rattle.history_model.specs.Legal.{IsIn}
use Rattle.history_model.specs.Locks.{lock_of_word}
use Rattle.history_model.specs.Sets.{has, has_pair, flag}
use Rattle.stamps_rule.specs.Causes.{newest, past_causes}
use Rattle.word_table.specs.Calls.{GrantsStay, GaveWay}

-- the set of words gained at most the word a
abbrev pub GainsAtMost : ℕ → List ℕ → List ℕ → Type 0
GainsAtMost a old new = (b : ℕ) → (has b old ≡ true → has b new ≡ true) × (has b new ≡ true → (b ≡ a) ⊎ (has b old ≡ true))

-- all meetings that the list gained are on lock k
abbrev pub GainsOn : ℕ → List (ℕ × ℕ) → List (ℕ × ℕ) → Type 0
GainsOn k old new = (more : List (ℕ × ℕ)) × (new ≡ old ++ more) × ((l j : ℕ) → IsIn (l, j) more → l ≡ k)

-- how many timestamps were drawn behind the view once its call, which met another, has one
abbrev pub draws_once : View → ℕ
draws_once v = v.draws + flag (v.stamp == 0)

-- a call asked for the lock of word a, in one turn or in several: what is not told of here is as before, and so are
-- trace, undo, call and floor
pub record Asks (a : ℕ) (old new : View) : Type 0 where
  pub rest : new ≡ record old {
    phase = new.phase;
    bits = new.bits;
    reads = new.reads;
    claims = new.claims;
    scans = new.scans;
    asked = new.asked;
    meetings = new.meetings;
    stamp = new.stamp;
    announced = new.announced;
    draws = new.draws;
    abandoned = new.abandoned;
  }
  -- a timestamp stays, a call that met nobody draws none, and one that draws one draws no more
  pub stamped : 0 < old.stamp → new.stamp ≡ old.stamp
  pub unmet : new.meetings ≡ old.meetings → (new.stamp ≡ old.stamp) × (new.announced ≡ old.announced)
  pub drawn_once : draws_once new ≡ draws_once old
  pub asked : GainsAtMost a old.asked new.asked
  pub meetings : GainsOn (lock_of_word a) old.meetings new.meetings
  -- a lock that was held still is
  pub grants : GrantsStay old new

-- what is known of read locks is the same but on lock k, and nothing else is known of claims
pub record AsksToRead (k : ℕ) (old new : View) : Type 0 where
  pub claims : new.claims ≡ old.claims
  pub scans : new.scans ≡ old.scans
  pub bits : (l : ℕ) → l ≢ k → has l new.bits ≡ has l old.bits
  pub reads : (l : ℕ) → l ≢ k → has l new.reads ≡ has l old.reads

-- what is known of claims is the same but on lock k, and nothing else is known of read locks
pub record AsksToWrite (k : ℕ) (old new : View) : Type 0 where
  pub bits : new.bits ≡ old.bits
  pub reads : new.reads ≡ old.reads
  pub claims : (l : ℕ) → l ≢ k → has l new.claims ≡ has l old.claims
  pub scans : (l j : ℕ) → l ≢ k → has_pair l j new.scans ≡ has_pair l j old.scans

-- the view old with what new knows of locks
abbrev pub with_locks : View → View → View
with_locks new old = record old {
  bits = new.bits;
  reads = new.reads;
  claims = new.claims;
  scans = new.scans;
  asked = new.asked;
}

-- the call goes on, and met nobody
abbrev pub MeetsNobody : View → View → Type 0
MeetsNobody old new = new ≡ with_locks new old

-- the call goes on, and met some: its timestamp is drawn and announced
pub record MeetsSome (met : List (ℕ × ℕ)) (old new : View) : Type 0 where
  pub view : new ≡ record (with_locks new old) {
    meetings = old.meetings ++ met;
    stamp = new.stamp;
    announced = true;
    draws = draws_once old;
  }
  pub stamped : 0 < new.stamp

-- the attempt gives way to this cause, whose seat the call met last
pub record MeetsAndYields (met : List (ℕ × ℕ)) (cause : Cause) (old new : View) : Type 0 where
  pub gave_way : GaveWay cause
      (record (with_locks new old) {
        meetings = old.meetings ++ met;
        met = cause.seat ∷ [];
        stamp = new.stamp;
        announced = true;
        draws = draws_once old;
      }) new
  pub seat : cause.seat < new.seats
  pub earlier : (0 < cause.stamp) × (cause.stamp < new.stamp)
  pub last : newest (past_causes new) ≡ Some cause

-- the call goes on, whomever it met while it asked
abbrev pub WentOn : View → View → Type 0
WentOn old new = new ≡ record (with_locks new old) {
  meetings = new.meetings;
  stamp = new.stamp;
  announced = new.announced;
  draws = new.draws;
}
