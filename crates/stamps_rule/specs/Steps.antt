-- The kinds of step on timestamps: when a seat may take one, and what it does. The conflict clock, of which a call
-- draws a timestamp only once it met another, is that of 2PLSF (Ramalhete, Correia, Felber, PPoPP 2023); that the later
-- of two calls gives way and keeps its timestamp is from wait-die (Rosenkrantz, Stearns, Lewis, TODS 1978). The seat has
-- the number j, and i is another seat.
use Rattle.std.specs.Prelude.{◌≡◌, ◌≢◌, ℕ, ◌+◌, ◌<◌, true, false, ◌&&◌, [], ◌∷◌, ◌++◌, length, Option, Some, None, nat_lt, ◌==◌, if◌then◌else◌}
use Rattle.history_model.specs.declared.entry.Abandoned.{Abandoned}
use Rattle.history_model.specs.declared.event.Cause.{Cause}
use Rattle.history_model.specs.declared.view.View.{View}
use Rattle.history_model.specs.declared.view.Phase.TheVariants.{Running, Yielding}
use Rattle.history_model.specs.Sets.{has, without}
use Rattle.history_model.specs.Table.{clock_word, stamps_word}
use Rattle.history_model.specs.Views.{HasBit, HasClaim}
use Rattle.locks_rule.specs.Actions.{Action}
use Rattle.locks_rule.specs.Versions.{uses_of}
use Rattle.stamps_rule.specs.Causes.{past_causes, newest}

-- a call that met another draws a timestamp: the clock goes up by 1
pub record MayDrawStamp (j : ℕ) (v : View) : Type 0 where
  pub who : v.who ≡ j ∷ []
  pub phase : v.phase ≡ Running
  pub unjudged : v.met ≢ []
  pub unstamped : v.stamp ≡ 0

abbrev pub draw_stamp_action : ℕ → View → Action
draw_stamp_action j v = record {
  at = clock_word;
  writes = λ w. w + 1;
  view = λ w. record v { stamp = w + 1; draws = v.draws + 1 };
}

-- the timestamp is stored to the own STAMPS word
pub record MayAnnounceStamp (j : ℕ) (v : View) : Type 0 where
  pub who : v.who ≡ j ∷ []
  pub phase : v.phase ≡ Running
  pub stamped : 0 < v.stamp
  pub unannounced : v.announced ≡ false

abbrev pub announce_stamp_action : ℕ → View → Action
announce_stamp_action j v = record {
  at = stamps_word v.seats j;
  writes = λ w. v.stamp;
  view = λ w. record v { announced = true };
}

-- the timestamp of a seat that the call met is loaded: an earlier one is a cause, to which the attempt gives way by this
-- step
pub record MayJudgeStamp (j i : ℕ) (v : View) : Type 0 where
  pub who : v.who ≡ j ∷ []
  pub phase : v.phase ≡ Running
  pub announced : v.announced ≡ true
  pub met : has i v.met ≡ true

-- what seat i, which shows the number shown, is to a call with this timestamp
abbrev pub judged : ℕ → ℕ → ℕ → Option Cause
judged i shown stamp =
    if nat_lt 0 shown && nat_lt shown stamp then Some (record { seat = i; stamp = shown }) else None

-- the attempt of a view that gives way to a cause: all that its pass has seen is before it. It wrote no lock that it used:
-- it undoes all
abbrev pub attempt_of : Cause → View → Abandoned
attempt_of cause v = record {
  cause = cause;
  front = length v.seen;
  trace = v.trace;
  uses = uses_of false v.trace v.uses;
}

-- the attempt gives way to a cause
abbrev pub after_giving_way : Cause → View → View
after_giving_way cause v = record v { phase = Yielding; abandoned = v.abandoned ++ attempt_of cause v ∷ [] }

-- the same if there is a cause
abbrev pub after_judgement : Option Cause → View → View
after_judgement None v = v
after_judgement (Some cause) v = after_giving_way cause v

abbrev pub judge_stamp_action : ℕ → ℕ → View → Action
judge_stamp_action j i v = record {
  at = stamps_word v.seats i;
  writes = λ w. w;
  view = λ w. after_judgement (judged i w v.stamp) (record v { met = without i v.met });
}

-- an attempt that gave way, undid and released all loads the timestamp of its cause: seat i showed the number stamp
pub record MayLoadCauseStamp (j i stamp : ℕ) (v : View) : Type 0 where
  pub who : v.who ≡ j ∷ []
  pub phase : v.phase ≡ Yielding
  pub last : newest (past_causes v) ≡ Some (record { seat = i; stamp = stamp })
  pub no_bit : (k : ℕ) → ¬ HasBit v k
  pub no_claim : (k : ℕ) → ¬ HasClaim v k
  pub undone : v.undo ≡ []

-- the call finds its cause still there
abbrev pub after_waiting : View → View
after_waiting v = record v { waits = v.waits + 1 }

-- the call makes another attempt, with the timestamp that it has. It has used no lock yet
abbrev pub after_restarting : View → View
after_restarting v = record v { phase = Running; trace = []; uses = [] }

abbrev pub load_cause_stamp_action : ℕ → ℕ → ℕ → View → Action
load_cause_stamp_action j i stamp v = record {
  at = stamps_word v.seats i;
  writes = λ w. w;
  view = λ w. if w == stamp then after_waiting v else after_restarting v;
}
