-- What phases say of a call.
use Rattle.values_rule.proofs.Common.{◌≡◌, ◌≢◌, true, false, ◌⊎◌, inl, inr, refl, sym, ap, ◌∙◌, View, Phase, Idle, Running, Yielding, Withdrawing, Releasing}
use Rattle.values_rule.proofs.Common.{is_attempt, is_open, undoing_phase}

-- a running attempt is one
pub attempt_runs : (u : View) → u.phase ≡ Running → is_attempt u.phase ≡ true
attempt_runs u e = ap is_attempt e

-- an attempt is open
pub attempt_open : (p : Phase) → is_attempt p ≡ true → is_open p ≡ true
attempt_open Idle t = absurd (cc)
attempt_open Running t = refl
attempt_open Yielding t = absurd (cc)
attempt_open Withdrawing t = refl
attempt_open Releasing t = absurd (cc)

-- who is open has begun
pub open_begun : (p : Phase) → is_open p ≡ true → p ≢ Idle
open_begun p o e = let z : true ≡ false = sym o ∙ ap is_open e in cc

-- the phase once a write was undone
pub undoing_attempt : (p : Phase) → is_open p ≡ true → is_attempt (undoing_phase p) ≡ true → is_attempt p ≡ true
undoing_attempt Idle o t = absurd (cc)
undoing_attempt Running o t = refl
undoing_attempt Yielding o t = absurd (cc)
undoing_attempt Withdrawing o t = refl
undoing_attempt Releasing o t = absurd (cc)

pub undoing_open : (p : Phase) → is_open (undoing_phase p) ≡ true → is_open p ≡ true
undoing_open Idle t = absurd (cc)
undoing_open Running t = refl
undoing_open Yielding t = refl
undoing_open Withdrawing t = refl
undoing_open Releasing t = absurd (cc)

pub undoing_runs : (p : Phase) → undoing_phase p ≡ Running → ⊥
undoing_runs Idle t = cc
undoing_runs Running t = cc
undoing_runs Yielding t = cc
undoing_runs Withdrawing t = cc
undoing_runs Releasing t = cc

pub undoing_rests : (p : Phase) → is_open p ≡ true → (undoing_phase p ≡ Idle) ⊎ (undoing_phase p ≡ Releasing) → ⊥
undoing_rests Idle o t = cc
undoing_rests Running o (inl t) = cc
undoing_rests Running o (inr t) = cc
undoing_rests Yielding o (inl t) = cc
undoing_rests Yielding o (inr t) = cc
undoing_rests Withdrawing o (inl t) = cc
undoing_rests Withdrawing o (inr t) = cc
undoing_rests Releasing o t = cc

pub undoing_idle : (p : Phase) → is_open p ≡ true → undoing_phase p ≡ Idle → ⊥
undoing_idle Idle o e = cc
undoing_idle Running o e = cc
undoing_idle Yielding o e = cc
undoing_idle Withdrawing o e = cc
undoing_idle Releasing o e = cc
