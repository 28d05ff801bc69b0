use Rattle.word_table.proofs.Common.{◌≡◌, ℕ, Bool, true, false, refl, sym, subst, ◌==◌, eqb-true, IsGood, DeskView, RuleHolds, WaitedForCause}
use Rattle.std.proofs.Common.{not}
use Rattle.word_table.proofs.Runs.Looking.{waited_for_cause}
use Rattle.word_table.proofs.desk.Desk.gone.Goals as goal

is_there : (b : Bool) → not b ≡ false → b ≡ true
is_there true e = refl
is_there false e = sym e

pub returns-clause-found : goal.returns-clause-found
returns-clause-found g c e = let t = c.self.inside.table in let v = c.args.pass.now.view in let shown : ℕ = c.load_cause_stamp-shown.result in
    subst (λ (d : DeskView _). WaitedForCause (RuleHolds g.S.Shape d) d.seats (record { seat = c.args.other; stamp = c.args.stamp }) v) c.self.view_is
    (waited_for_cause (IsGood (g.S.Shape.word_count t.key.shape) (g.S.Shape.good t.key.shape)) t.key.seats t.key.base.items v
    (record { seat = c.args.other; stamp = c.args.stamp }) shown _ c.load_cause_stamp-shown.ensures.taken record {
      who = c.load_cause_stamp-shown.ensures.one;
      phase = c.requires.phase;
      last = c.requires.cause;
      no_bit = c.requires.no_bit;
      no_claim = c.requires.no_claim;
      undone = c.requires.undone;
    } (eqb-true shown c.args.stamp (is_there (shown == c.args.stamp) e)))
