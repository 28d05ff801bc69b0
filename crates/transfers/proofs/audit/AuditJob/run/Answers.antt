use Rattle.transfers.proofs.Common.{◌+◌, ◌<◌, ◌^◌, refl, ◌∙◌, arith}
use Rattle.transfers.proofs.Auditing.{none_summed, one_more, has_room}
use Rattle.transfers.proofs.audit.AuditJob.run.Goals as goal

pub loop-place-init : goal.loop-place-init
loop-place-init g c =
    let vault = c.args.self.now.vault in
    record {
      shape = refl;
      origin = refl;
      stop = c.requires.going;
      sound = c.requires.sound;
      summed = none_summed vault.words vault.total (g.W.Words.trace c.args.w.now) c.requires.fresh;
    }

pub overflow_add-total : goal.overflow_add-total
overflow_add-total g c =
    let vault = c.args.self.now.vault in
    let at = c.loop-place in
    let room : at.total + c.in_ok-held.held < 2 ^ 64 =
    has_room vault.words vault.total at.place at.total c.in_ok-held.held _ _ c.in_ok-held.ensures.value at.invariant.summed c.some_fits.ensures.some in
    omega (arith, room)

pub loop-place-preserved : goal.loop-place-preserved
loop-place-preserved g c =
    let vault = c.args.self.now.vault in
    let at = c.loop-place in
    let i = at.invariant in
    let read = c.in_ok-held.ensures in
    record {
      shape = read.shape ∙ i.shape;
      origin = read.origin ∙ i.origin;
      stop = read.stops;
      sound = read.sound;
      summed = one_more vault.words vault.total at.place at.total c.in_ok-held.held _ _ read.value i.summed;
    }
